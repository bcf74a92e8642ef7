-- Framed items: a header of k bytes that counts the bytes after it, and items of a fixed length.
use Prim.Native.Nat.{ℕ, zero, suc, ◌+◌, ◌*◌, ◌/◌, ◌%◌, ◌≤◌, ◌<◌}
use mathlib.Core.Path.{◌≡◌, refl, sym, ap, ◌∙◌}
use mathlib.Core.Logic.{◌↔◌}
use mathlib.Core.Bool.{true}
use mathlib.Core.List.{List, [], ◌∷◌, ◌++◌}
use native.Mathlib.Omega.{arith}
use lib.ListN.{length, take, drop, length-append, length-drop, take-append-drop}
use lib.Seq.{length-take-le}
use Rattle.wire.specs.Items.{Whole, Wholes, framed, fixed, fills, joined}
use Rattle.wire.proofs.Laws.Frames.{framed_kind, framed_is, framed_has}
use Rattle.wire.proofs.Laws.Meaning.{fills_means}
use Rattle.ait_grammar.proofs.Laws.Forms.{Form, when}
use Rattle.ait_grammar.proofs.Laws.Counted.{counted}

module _ (k : ℕ) (more : List ℕ → ℕ) (some : 0 < k) (x : List ℕ) where
  pub whole_has : Whole (framed k more) x → (k ≤ length x) × (more (take k x) ≡ length (drop k x))
  whole_has w =
      let q = framed_has k more x (λ z. omega (arith, z, w)) in
      let e : k + more (take k x) ≡ length x = sym q.1 ∙ w.0 in
      (omega arith, rw length-drop (omega arith))

  pub whole_is : k ≤ length x → more (take k x) ≡ length (drop k x) → Whole (framed k more) x
  whole_is l e =
      let d = length-drop k x in
      let h : k + more (take k x) ≡ length x = omega arith in
      (framed_is k more x (omega arith) ∙ h, omega arith)

-- THE LAW OF FRAMED ITEMS: a form of the header, and for each of its values a form of what follows
module _ {H A : Type 0} {k : ℕ} {sh : H × ℕ → List ℕ} {Fh : H × ℕ → Type 0} (Eh : Form (λ x. length x ≡ k) sh Fh)
    {G : H → List ℕ → Type 0} {s : A → List ℕ} {F : H → A → Type 0} (E : (h : H) → Form (G h) s (F h))
    (some : 0 < k) (more : List ℕ → ℕ) (says : (y : List ℕ) → (Eh.read y).1 ≡ more y) where
  unfoldable pub frame : Form (λ x. Whole (framed k more) x × G (Eh.read (take k x)).0 (drop k x))
      (λ (p : H × A). sh (p.0, length (s p.1)) ++ s p.1) (λ p. Fh (p.0, length (s p.1)) × F p.0 p.1)
  frame =
      when (counted Eh E (λ a. length (s a)) length (λ h a f. refl)) _
      (λ x g. (whole_is k more some x g.0 (sym (says (take k x)) ∙ g.1), g.2))
      (λ x b g. let w = whole_has k more some x g.0 in (w.0, says (take k x) ∙ w.1, g.1))

-- items of a fixed length
module _ (n : ℕ) (some : 0 < n) where
  pub fixed_length : (x : List ℕ) → Whole (fixed n) x ↔ (length x ≡ n)
  fixed_length x = (there, back)
    where
      there : Whole (fixed n) x → length x ≡ n
      there w = let h = whole_has n (λ y. 0) some x w in let d = length-drop n x in omega arith

      back : length x ≡ n → Whole (fixed n) x
      back e = whole_is n (λ y. 0) some x (omega arith) (rw length-drop (omega arith))

  pub fixed_form : {A : Type 0} {s : A → List ℕ} {F : A → Type 0} → Form (λ x. length x ≡ n) s F → Form (λ x. Whole (fixed n) x) s F
  fixed_form E = when E (λ x. Whole (fixed n) x) (λ x g. (fixed_length x).1 g) (λ x b g. (fixed_length x).0 g)

-- a list is filled by items of 5 bytes exactly where its length is a multiple of 5
abbrev five : 0 < 5
five = omega arith

five-times : (is : List (List ℕ)) → Wholes (fixed 5) is → length (joined is) ≡ length is * 5
unfolding joined
five-times [] w = refl
five-times (x ∷ is) w = let e = (fixed_length 5 five x).0 w.0 in let r = five-times is w.1 in rw length-append (omega arith)

five-parts : (q : ℕ) (xs : List ℕ) → length xs ≡ q * 5 → (is : List (List ℕ)) × Wholes (fixed 5) is × (joined is ≡ xs)
unfolding joined
five-parts zero [] e = ([], tt, refl)
five-parts zero (x ∷ xs) e = absurd (omega arith)
five-parts (suc q) xs e =
    let r = five-parts q (drop 5 xs) (rw length-drop (omega arith)) in
    let t : length (take 5 xs) ≡ 5 = length-take-le 5 xs (omega arith) in
    (take 5 xs ∷ r.0, ((fixed_length 5 five (take 5 xs)).1 t, r.1), ap (λ (l : List ℕ). take 5 xs ++ l) r.2 ∙ take-append-drop 5 xs)

pub five-fills : (xs : List ℕ) → (fills (fixed 5) xs ≡ true) ↔ (length xs % 5 ≡ 0)
five-fills xs = (there, back)
  where
    there : fills (fixed 5) xs ≡ true → length xs % 5 ≡ 0
    there f =
        let m = (fills_means (fixed 5) (framed_kind 5 (λ h. 0)) xs).0 f in
        let e = five-times m.0 m.1 in
        let l = ap length m.2 in
        omega arith

    back : length xs % 5 ≡ 0 → fills (fixed 5) xs ≡ true
    back e = (fills_means (fixed 5) (framed_kind 5 (λ h. 0)) xs).1 (five-parts (length xs / 5) xs (omega arith))
