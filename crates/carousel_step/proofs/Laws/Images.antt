-- Laws of an image after bytes were written into it: there, and everywhere else.
use Prim.Native.Nat.{ℕ, ◌+◌, ◌-◌, ◌≤◌, ◌<◌}
use mathlib.Core.Path.{◌≡◌, sym, ap, ◌∙◌}
use mathlib.Core.List.{List, ◌++◌, append_assoc}
use mathlib.Core.Logic.{◌⊎◌, inl, inr}
use native.Mathlib.Omega.{arith}
use lib.ListN.{length, get_or, take, drop, length-append, length-take, length-drop, take-append-drop}
use lib.Seq.{length-take-le, take-append_seam, take-append-le, drop-append-le, drop-append-add, drop_at, drop-drop, get_or-take, get_or-drop}
use Rattle.wire.specs.Copies.{overwrite}

-- a byte is the first from its place on
from : (l : List ℕ) (p : ℕ) → get_or l p 0 ≡ get_or (drop p l) 0 0
from l p = let e : p ≡ p + 0 = omega arith in ap (λ (n : ℕ). get_or l n 0) e ∙ sym (get_or-drop p l 0 0)

first_of : (l : List ℕ) (p : ℕ) → get_or l p 0 ≡ get_or (take 1 (drop p l)) 0 0
first_of l p = from l p ∙ sym (get_or-take 1 (drop p l) 0 0 (omega arith))

module _ (image : List ℕ) (at : ℕ) (ds : List ℕ) (room : at + length ds ≤ length image) where
  pub length_over : length (overwrite image at ds) ≡ length image
  unfolding overwrite
  length_over = simp (length-append, length-take, length-drop) (omega arith)

  -- what was written is there
  pub over-same : take (length ds) (drop at (overwrite image at ds)) ≡ ds
  unfolding overwrite
  over-same = rw (drop_at (take at image) (ds ++ drop (at + length ds) image) at (length-take-le at image (omega arith))) (take-append_seam ds (drop (at + length ds) image))

  -- before it
  front : (p n : ℕ) (r : List ℕ) → p + n ≤ at → take n (drop p (take at image ++ r)) ≡ take n (drop p (take at image))
  front p n r h =
      let l = length-take-le at image (omega arith) in
      let d = length-drop p (take at image) in
      rw (drop-append-le p (take at image) r (omega arith), take-append-le n (drop p (take at image)) r (omega arith))

  pub over-before : (p n : ℕ) → p + n ≤ at → take n (drop p (overwrite image at ds)) ≡ take n (drop p image)
  unfolding overwrite
  over-before p n h = front p n (ds ++ drop (at + length ds) image) h ∙ sym (front p n (drop at image) h) ∙ ap (λ (l : List ℕ). take n (drop p l)) (take-append-drop at image)

  -- after it
  pub over-after : (p : ℕ) → at + length ds ≤ p → drop p (overwrite image at ds) ≡ drop p image
  unfolding overwrite
  over-after p h =
      let l = length-take-le at image (omega arith) in
      let a = length-append (take at image) ds in
      let m = p - (at + length ds) in
      let e : p ≡ length (take at image ++ ds) + m = omega arith in
      let f : at + length ds + m ≡ p = omega arith in
      ap (λ (k : ℕ). drop k (take at image ++ (ds ++ drop (at + length ds) image))) e
      ∙ ap (λ (k : List ℕ). drop (length (take at image ++ ds) + m) k) (sym (append_assoc (take at image) ds (drop (at + length ds) image)))
      ∙ drop-append-add (take at image ++ ds) (drop (at + length ds) image) m
      ∙ drop-drop m (at + length ds) image
      ∙ ap (λ (k : ℕ). drop k image) f

  -- byte by byte
  pub over-outside : (p : ℕ) → (p < at) ⊎ (at + length ds ≤ p) → get_or (overwrite image at ds) p 0 ≡ get_or image p 0
  over-outside p (inl h) = first_of (overwrite image at ds) p ∙ ap (λ (l : List ℕ). get_or l 0 0) (over-before p 1 (omega arith)) ∙ sym (first_of image p)
  over-outside p (inr h) = from (overwrite image at ds) p ∙ ap (λ (l : List ℕ). get_or l 0 0) (over-after p h) ∙ sym (from image p)
