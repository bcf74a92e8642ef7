-- Text put after text is the two together. All that a writer of many pieces needs.
use Prim.Native.Nat.{ℕ, suc, ◌+◌, ◌≤◌}
use mathlib.Core.Path.{◌≡◌, refl, sym, ap, ap₂, subst, ◌∙◌}
use mathlib.Core.Bool.{Bool, true, false, cond}
use mathlib.Core.List.{List, [], ◌∷◌, ◌++◌}
use native.Mathlib.Omega.{arith}
use lib.Dec.{ltb}
use lib.ListN.{length, set, length-append}
use lib.Seq.{sets, set_out, length-sets}
use borrow.Author.Tests.{le-ltb, ltb-true, ltb-false}
use Rattle.text.specs.Text.{reached}

-- the place after a text: where it fits, where it is cut, and where there was no room at all
pub reached-fits : (at n room : ℕ) → at + n ≤ room → reached at n room ≡ at + n
unfolding reached
reached-fits at n room h = go (ltb (at + n) room) refl (ltb at room) refl
  where
    go : (t : Bool) → ltb (at + n) room ≡ t → (u : Bool) → ltb at room ≡ u → cond t (at + n) (cond u room at) ≡ at + n
    go true e u f = refl
    go false e true f = let l = ltb-false (at + n) room e in omega arith
    go false e false f = let l = ltb-false at room f in omega arith

pub reached-cut : (at n room : ℕ) → at ≤ room → room ≤ at + n → reached at n room ≡ room
unfolding reached
reached-cut at n room h l = rw (le-ltb (at + n) room l) (go (ltb at room) refl)
  where
    go : (u : Bool) → ltb at room ≡ u → cond u room at ≡ room
    go true f = refl
    go false f = let k = ltb-false at room f in omega arith

pub reached-past : (at n room : ℕ) → room ≤ at → reached at n room ≡ at
unfolding reached
reached-past at n room h = rw (le-ltb (at + n) room (omega arith), le-ltb at room h)

pub reached-none : (at room : ℕ) → reached at 0 room ≡ at
unfolding reached
reached-none at room = go (ltb (at + 0) room) (ltb at room) refl refl
  where
    go : (t u : Bool) → ltb (at + 0) room ≡ t → ltb at room ≡ u → cond t (at + 0) (cond u room at) ≡ at
    go true u e f = omega arith
    go false true e f = let l = ltb-false (at + 0) room e in let k = ltb-true at room f in absurd (omega arith)
    go false false e f = refl

-- the three ways, to go by cases
data Way (at n room : ℕ) : Type 0 where
  fits : at + n ≤ room → Way at n room
  cut : at ≤ room → room ≤ at + n → Way at n room
  past : room ≤ at → Way at n room

way : (at n room : ℕ) → Way at n room
way at n room = go (ltb (at + n) room) refl (ltb at room) refl
  where
    go : (t : Bool) → ltb (at + n) room ≡ t → (u : Bool) → ltb at room ≡ u → Way at n room
    go true e u f = let l = ltb-true (at + n) room e in fits (omega arith)
    go false e true f = let l = ltb-true at room f in cut (omega arith) (ltb-false (at + n) room e)
    go false e false f = past (ltb-false at room f)

-- never past the room
pub reached-most : (at n room : ℕ) → at ≤ room → reached at n room ≤ room
reached-most at n room h = go (way at n room)
  where
    go : Way at n room → reached at n room ≤ room
    go (fits l) = rw (reached-fits at n room l) l
    go (cut l m) = rw (reached-cut at n room l m) (omega arith)
    go (past l) = rw (reached-past at n room l) h

-- a text and then another: one place after both
pub reached-more : (at n m room : ℕ) → reached (reached at n room) m room ≡ reached at (n + m) room
reached-more at n m room = go (way at n room) (way (at + n) m room)
  where
    from : ℕ → ℕ
    from i = reached i m room

    go : Way at n room → Way (at + n) m room → reached (reached at n room) m room ≡ reached at (n + m) room
    go (fits h) (fits k) =
        let e : at + n + m ≡ at + (n + m) = omega arith in
        ap from (reached-fits at n room h) ∙ reached-fits (at + n) m room k ∙ e ∙ sym (reached-fits at (n + m) room (omega arith))
    go (fits h) (cut k l) = ap from (reached-fits at n room h) ∙ reached-cut (at + n) m room k l ∙ sym (reached-cut at (n + m) room (omega arith) (omega arith))
    go (fits h) (past k) =
        let e : at + n ≡ room = omega arith in
        ap from (reached-fits at n room h) ∙ reached-past (at + n) m room k ∙ e ∙ sym (reached-cut at (n + m) room (omega arith) (omega arith))
    go (cut h l) w = ap from (reached-cut at n room h l) ∙ reached-past room m room (omega arith) ∙ sym (reached-cut at (n + m) room h (omega arith))
    go (past h) w = ap from (reached-past at n room h) ∙ reached-past at m room h ∙ sym (reached-past at (n + m) room h)

-- nothing is put past the end
pub sets-past : (l : List ℕ) (i : ℕ) (vs : List ℕ) → length l ≤ i → sets l i vs ≡ l
sets-past l i [] h = refl
sets-past l i (v ∷ vs) h = ap (λ (m : List ℕ). sets m (suc i) vs) (set_out l i v h) ∙ sets-past l (suc i) vs (omega arith)

sets_add : (l : List ℕ) (i : ℕ) (a b : List ℕ) → sets l i (a ++ b) ≡ sets (sets l i a) (i + length a) b
sets_add l i [] b = let e : i ≡ i + 0 = omega arith in ap (λ (k : ℕ). sets l k b) e
sets_add l i (v ∷ a) b =
    let e : suc i + length a ≡ i + suc (length a) = omega arith in
    sets_add (set l i v) (suc i) a b ∙ ap (λ (k : ℕ). sets (sets (set l i v) (suc i) a) k b) e

-- TEXT AFTER TEXT
pub sets_more : (l : List ℕ) (i : ℕ) (a b : List ℕ) → sets (sets l i a) (reached i (length a) (length l)) b ≡ sets l i (a ++ b)
sets_more l i a b = go (way i (length a) (length l)) ∙ sym (sets_add l i a b)
  where
    same : length (sets l i a) ≡ length l
    same = length-sets l i a

    from : ℕ → List ℕ
    from k = sets (sets l i a) k b

    beyond : (j k : ℕ) → length l ≤ j → length l ≤ k → from j ≡ from k
    beyond j k h g = sets-past (sets l i a) j b (omega (arith, same)) ∙ sym (sets-past (sets l i a) k b (omega (arith, same)))

    go : Way i (length a) (length l) → from (reached i (length a) (length l)) ≡ from (i + length a)
    go (fits h) = ap from (reached-fits i (length a) (length l) h)
    go (cut h k) = ap from (reached-cut i (length a) (length l) h k) ∙ beyond (length l) (i + length a) (omega arith) k
    go (past h) = ap from (reached-past i (length a) (length l) h) ∙ beyond i (i + length a) h (omega arith)

-- What a call that puts a text promises: the bytes after it, and the place after it.
abbrev pub Puts : (out : List ℕ) (at : ℕ) (text : List ℕ) (after : List ℕ) (end : ℕ) → Type 0
Puts out at text after end = (after ≡ sets out at text) × (end ≡ reached at (length text) (length out))

-- two such calls, the second from where the first ended, are one of both texts
pub puts_then : (l : List ℕ) (i : ℕ) (a b m k : List ℕ) (j e : ℕ) → Puts l i a m j → Puts m j b k e → Puts l i (a ++ b) k e
puts_then l i a b m k j e p q = (
  q.0 ∙ ap₂ (λ (x : List ℕ) (n : ℕ). sets x n b) p.0 p.1 ∙ sets_more l i a b,
  q.1
      ∙ ap₂ (λ (n : ℕ) (x : List ℕ). reached n (length b) (length x)) p.1 p.0
      ∙ ap (reached (reached i (length a) (length l)) (length b)) (length-sets l i a)
      ∙ reached-more i (length a) (length b) (length l)
      ∙ ap (λ (n : ℕ). reached i n (length l)) (sym (length-append a b)),
)

pub puts-same : (l : List ℕ) (i : ℕ) (a b m : List ℕ) (e : ℕ) → a ≡ b → Puts l i a m e → Puts l i b m e
puts-same l i a b m e h p = subst (λ (x : List ℕ). Puts l i x m e) h p

-- A writer that has put what came before, and has this text still to put, ends as one that puts the whole.
abbrev pub Writing : (out : List ℕ) (at : ℕ) (left : List ℕ) (out₀ : List ℕ) (at₀ : ℕ) (whole : List ℕ) → Type 0
Writing out at left out₀ at₀ whole = (sets out at left ≡ sets out₀ at₀ whole) × (reached at (length left) (length out) ≡ reached at₀ (length whole) (length out₀))

-- a piece of it is put
pub writing-on : (out : List ℕ) (at : ℕ) (left out₀ : List ℕ) (at₀ : ℕ) (whole a b m : List ℕ) (j : ℕ)
    → Writing out at left out₀ at₀ whole → left ≡ a ++ b → Puts out at a m j → Writing m j b out₀ at₀ whole
writing-on out at left out₀ at₀ whole a b m j w e p =
    let q = puts_then out at a b m (sets m j b) j (reached j (length b) (length m)) p (refl, refl) in
    (q.0 ∙ ap (sets out at) (sym e) ∙ w.0, q.1 ∙ ap (λ (l : List ℕ). reached at (length l) (length out)) (sym e) ∙ w.1)

-- the last of it is put
pub writing-ends : (out : List ℕ) (at : ℕ) (left out₀ : List ℕ) (at₀ : ℕ) (whole a m : List ℕ) (j : ℕ)
    → Writing out at left out₀ at₀ whole → left ≡ a → Puts out at a m j → Puts out₀ at₀ whole m j
writing-ends out at left out₀ at₀ whole a m j w e p =
    (p.0 ∙ ap (sets out at) (sym e) ∙ w.0, p.1 ∙ ap (λ (l : List ℕ). reached at (length l) (length out)) (sym e) ∙ w.1)

-- nothing is left of it
pub writing-done : (out : List ℕ) (at : ℕ) (left out₀ : List ℕ) (at₀ : ℕ) (whole : List ℕ) → Writing out at left out₀ at₀ whole → left ≡ [] → Puts out₀ at₀ whole out at
writing-done out at left out₀ at₀ whole w e = writing-ends out at left out₀ at₀ whole [] out at w e (refl, sym (reached-none at (length out)))
