-- The section that a stretch begins with, from the facts that code learns on its ways; and that sections are a kind of item.
use Prim.Native.Nat.{ℕ, ◌+◌, ◌/◌, ◌%◌, ◌≤◌, ◌<◌}
use mathlib.Core.Path.{◌≡◌, refl, sym, ap, ◌∙◌}
use mathlib.Core.Bool.{Bool, true, false, cond, ◌||◌, or-true}
use mathlib.Core.List.{List}
use native.Mathlib.Omega.{arith}
use lib.Dec.{eqb, leb, ltb}
use lib.ListN.{length, take}
use borrow.Author.Tests.{eq-eqb, ne_eqb, lt-ltb, le-ltb, ltb-true, ltb-false, le-leb, lt-leb}
use Rattle.wire.specs.Fields.{byte_at}
use Rattle.wire.specs.Items.{IsKind, framed}
use Rattle.wire.proofs.Laws.Fields.{field_take}
use Rattle.wire.proofs.Laws.Frames.{framed_kind, same_byte}
use Rattle.wire.proofs.Laws.Tests.{neither}
use Rattle.section.specs.Header.{length_of}
use Rattle.section.specs.Whole.{said_length, is_short, whole_at}

module _ (s : List ℕ) where
  -- fewer than 3 bytes, or than are said
  few-short : length s < 3 → is_short s ≡ true
  few-short h = rw (lt-ltb (length s) 3 h)

  said-short : 3 ≤ length s → length s < said_length s → is_short s ≡ true
  said-short h l = rw (le-ltb (length s) 3 h, lt-ltb (length s) (said_length s) l)

  not_short : 3 ≤ length s → said_length s ≤ length s → is_short s ≡ false
  not_short h l = rw (le-ltb (length s) 3 h, le-ltb (length s) (said_length s) l)

  -- no whole section
  pub whole-few : length s < 3 → whole_at s ≡ 0
  unfolding whole_at
  whole-few h = rw (few-short h)

  pub whole_stuffing : byte_at s 0 ≡ 0xFF → whole_at s ≡ 0
  unfolding whole_at
  whole_stuffing e = rw (eq-eqb (byte_at s 0) 0xFF e, or-true (is_short s))

  pub whole-short : 3 ≤ length s → length s < said_length s → whole_at s ≡ 0
  unfolding whole_at
  whole-short h l = rw (said-short h l)

  -- a whole one
  pub whole_is : 3 ≤ length s → (byte_at s 0 ≡ 0xFF → ⊥) → said_length s ≤ length s → whole_at s ≡ said_length s
  unfolding whole_at
  whole_is h n l = rw (not_short h l, ne_eqb (byte_at s 0) 0xFF n)

  -- by whether it is short
  pub whole_by : (byte_at s 0 ≡ 0xFF → ⊥) → (t : Bool) → is_short s ≡ t → whole_at s ≡ cond t 0 (said_length s)
  unfolding whole_at
  whole_by m true e = rw e
  whole_by m false e = rw (e, ne_eqb (byte_at s 0) 0xFF m)

  -- a whole section lies in the stretch
  pub whole-fits : whole_at s ≤ length s
  unfolding whole_at
  whole-fits = go (is_short s) (eqb (byte_at s 0) 0xFF) refl
    where
      go : (t u : Bool) → is_short s ≡ t → cond (t || u) 0 (said_length s) ≤ length s
      go true u e = omega arith
      go false true e = omega arith
      go false false e = ltb-false (length s) (said_length s) (neither (ltb (length s) 3) (ltb (length s) (said_length s)) e).1

  -- a section has at least its three bytes
  pub whole-three : (whole_at s ≡ 0 → ⊥) → 3 ≤ whole_at s
  unfolding whole_at
  whole-three n = go (is_short s || eqb (byte_at s 0) 0xFF) n
    where
      go : (t : Bool) → (cond t 0 (said_length s) ≡ 0 → ⊥) → 3 ≤ cond t 0 (said_length s)
      go true z = absurd (z refl)
      go false z = omega arith

-- AS AN ITEM: a header of 3 bytes and as many more as it says
length-same : (s : List ℕ) → length_of (take 3 s) ≡ length_of s
length-same s = ap (λ (n : ℕ). n / 1 % 4096) (field_take 2 s 3 1 (omega arith))

either_way : (a f : Bool) (n : ℕ) → cond (a || true || f) 0 n ≡ cond f 0 (cond false n 0)
either_way true true n = refl
either_way true false n = refl
either_way false true n = refl
either_way false false n = refl

by_tests : (f : Bool) (l n : ℕ) → 3 ≤ n → cond (ltb l 3 || ltb l n || f) 0 n ≡ cond f 0 (cond (leb n l) n 0)
by_tests f l n p = go (ltb l n) refl
  where
    go : (t : Bool) → ltb l n ≡ t → cond (ltb l 3 || ltb l n || f) 0 n ≡ cond f 0 (cond (leb n l) n 0)
    go true e = rw (e, lt-leb n l (ltb-true l n e)) (either_way (ltb l 3) f n)
    go false e = let k = ltb-false l n e in rw (e, le-leb n l k, le-ltb l 3 (omega arith))

by_frame : (s : List ℕ) → whole_at s ≡ cond (eqb (byte_at s 0) 0xFF) 0 (framed 3 length_of s)
unfolding whole_at framed
by_frame s =
    by_tests (eqb (byte_at s 0) 0xFF) (length s) (3 + length_of s) (omega arith)
    ∙ ap (λ (m : ℕ). cond (eqb (byte_at s 0) 0xFF) 0 (cond (leb (3 + m) (length s)) (3 + m) 0)) (sym (length-same s))

pub size-framed : (xs : List ℕ) → (byte_at xs 0 ≡ 0xFF → ⊥) → whole_at xs ≡ framed 3 length_of xs
size-framed xs n = by_frame xs ∙ ap (λ (t : Bool). cond t 0 (framed 3 length_of xs)) (ne_eqb (byte_at xs 0) 0xFF n)

pub section_kind : IsKind whole_at
section_kind = record { fits = whole-fits; own = own }
  where
    own : (xs ys : List ℕ) → 0 < whole_at xs → take (whole_at xs) ys ≡ take (whole_at xs) xs → whole_at ys ≡ whole_at xs
    own xs ys p e =
        let n : byte_at xs 0 ≡ 0xFF → ⊥ = λ f. let z = whole_stuffing xs f in omega arith in
        let b = same_byte (whole_at xs) xs ys e 0 p in
        let f = size-framed xs n in
        let m : byte_at ys 0 ≡ 0xFF → ⊥ = λ g. n (sym b ∙ g) in
        let p' : 0 < framed 3 length_of xs = rw f at p in
        let e' : take (framed 3 length_of xs) ys ≡ take (framed 3 length_of xs) xs = rw f at e in
        size-framed ys m ∙ (framed_kind 3 length_of).own xs ys p' e' ∙ sym f
