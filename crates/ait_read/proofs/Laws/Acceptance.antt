-- What the judging of a section answers, and what a place in an accepted section is good for.
use Prim.Native.Nat.{ℕ, ◌+◌, ◌≤◌, ◌<◌}
use mathlib.Core.Path.{◌≡◌, refl, sym, ap, ◌∙◌}
use mathlib.Core.Bool.{Bool, true, false, cond}
use mathlib.Core.List.{List}
use Rattle.std.proofs.Common.{Result, Some, None, Ok, Err}
use native.Mathlib.Omega.{arith}
use Rattle.std.specs.Option.{ok_or}
use lib.Dec.{eqb}
use lib.ListN.{length, take, drop}
use borrow.Author.Tests.{eq-eqb, ne_eqb, eqb-true, le-leb}
use Rattle.wire.specs.declared.Span.{Span}
use Rattle.wire.specs.Places.{Place, At, on_place, Inside}
use Rattle.section.specs.declared.Rules.TheVariants.{Application}
use Rattle.section.specs.declared.Refusal.{Refusal}
use Rattle.section.specs.declared.Header.{Header}
use Rattle.section.specs.Header.{body_of}
use Rattle.section.specs.Answer.{Checked, refused, checked_by, checked_of, on_checked}
use Rattle.section.proofs.Laws.Exact.{accepted_has}
use Rattle.ait_body.specs.Body.{body_refusal}
use Rattle.ait_read.specs.Acceptance.{table_judged_by, table_judged}
use Rattle.ait_read.specs.Answers.{lies, located_of, span_part}

-- an accepted section has its header and its CRC, and no more than 1,024 bytes
pub sized : (s : List ℕ) (h : Header) → checked_of Application s ≡ Ok h → (12 ≤ length s) × (length s ≤ 1024)
sized s h e =
    let g = accepted_has Application s h e in
    (g.3, omega (arith, g.2.exact, g.2.most))

-- whatever register g is handed in
module _ (g : ℕ) (s : List ℕ) where
  pub judged-refused : (r : Refusal) → checked_by g Application s ≡ Err r → Err r ≡ table_judged_by g s
  unfolding table_judged_by
  judged-refused r e = rw e

  module _ (h : Header) (e : checked_by g Application s ≡ Ok h) where
    pub judged_bad : (body_refusal (body_of s) ≡ 0 → ⊥) → Err (refused (body_refusal (body_of s))) ≡ table_judged_by g s
    unfolding table_judged_by
    judged_bad n = rw (e, ne_eqb (body_refusal (body_of s)) 0 n)

    pub judged-good : body_refusal (body_of s) ≡ 0 → Ok h ≡ table_judged_by g s
    unfolding table_judged_by
    judged-good z = rw (e, eq-eqb (body_refusal (body_of s)) 0 z)

module _ (s : List ℕ) where
  -- what an accepted section is
  pub judged_has : (h : Header) → table_judged s ≡ Ok h → (checked_of Application s ≡ Ok h) × (body_refusal (body_of s) ≡ 0)
  unfolding table_judged_by
  judged_has h e = go (checked_of Application s) refl e
    where
      body : (h₁ : Header) (t : Bool) → eqb (body_refusal (body_of s)) 0 ≡ t → cond t (Ok h₁) (Err (refused (body_refusal (body_of s)))) ≡ Ok h
          → ◌≡◌ {A = Checked} (Ok h₁) (Ok h) × (body_refusal (body_of s) ≡ 0)
      body h₁ true f e = (e, eqb-true _ _ f)
      body h₁ false f e = let z : ◌≡◌ {A = ℕ} 0 1 = cc in absurd (omega arith)

      go : (c : Checked) → checked_of Application s ≡ c
          → on_checked c (λ r. Err r) (λ h. cond (eqb (body_refusal (body_of s)) 0) (Ok h) (Err (refused (body_refusal (body_of s))))) ≡ Ok h
          → (checked_of Application s ≡ Ok h) × (body_refusal (body_of s) ≡ 0)
      go (Err r) f e = let z : ◌≡◌ {A = ℕ} 0 1 = cc in absurd (omega arith)
      go (Ok h₁) f e = let b = body h₁ (eqb (body_refusal (body_of s)) 0) refl e in (f ∙ b.0, b.1)

module _ (s : List ℕ) (p : Place) where
  pub located-refused : (r : Refusal) → table_judged s ≡ Err r → Err r ≡ located_of s p
  unfolding located_of
  located-refused r e = rw e

  module _ (h : Header) (e : table_judged s ≡ Ok h) where
    pub located-none : p ≡ None → Err (refused 19) ≡ located_of s p
    unfolding located_of
    located-none f = rw (e, f)

    pub located-at : (a n : ℕ) → p ≡ At a n → lies a n ≡ located_of s p
    unfolding located_of
    located-at a n f = rw (e, f)

    -- as code answers it
    pub located-good : ok_or p (refused 19) ≡ located_of s p
    unfolding located_of
    located-good = go p refl
      where
        go : (q : Place) → p ≡ q → ok_or q (refused 19) ≡ on_checked (table_judged s) (λ r. Err r) (λ h. on_place q (Err (refused 19)) (λ a n. lies a n))
        go (Some a) f = rw e
        go None f = rw e

  -- a thing that was located lies in the section, and its place is a small number
  located_has : (a n : ℕ) → located_of s p ≡ lies a n → (p ≡ At a n) × (length s ≤ 1024)
  unfolding located_of
  located_has a n e = go (table_judged s) refl e
    where
      at : (q : Place) → on_place q (Err (refused 19)) (λ b m. lies b m) ≡ lies a n → q ≡ At a n
      at (Some p) e = cc
      at None e = let z : ◌≡◌ {A = ℕ} 0 1 = cc in absurd (omega arith)

      go : (c : Checked) → table_judged s ≡ c → on_checked c (λ r. Err r) (λ h. on_place p (Err (refused 19)) (λ b m. lies b m)) ≡ lies a n
          → (p ≡ At a n) × (length s ≤ 1024)
      go (Err r) f e = let z : ◌≡◌ {A = ℕ} 0 1 = cc in absurd (omega arith)
      go (Ok h) f e = (at p e, (sized s h (judged_has s h f).0).1)

  located_fits : Inside p s → (a n : ℕ) → located_of s p ≡ lies a n → (a + n ≤ length s) × (a ≤ 1024)
  located_fits i a n e =
      let l = located_has a n e in
      let f = i a n l.0 in
      (f, omega arith)

-- what the calls by place cite: q is where the thing lies, as the finder p of the code answered; l is what `locate` answered, and k what the match told
pub told : (s : List ℕ) (p q : Place) (l k : Result Span Refusal) → p ≡ q → l ≡ located_of s p → l ≡ k → located_of s q ≡ k
told s p q l k e f g = ap (located_of s) (sym e) ∙ sym f ∙ g

-- and the part that is cut out there
pub cut : (s : List ℕ) (q : Place) → Inside q s → (p : Span) → located_of s q ≡ Ok p → (span_part s p.start p.size ≡ take p.size (drop p.start s)) × (p.start < 65536)
unfolding span_part
cut s q i p e =
    let f = located_fits s q i p.start p.size e in
    (rw (le-leb (p.start + p.size) (length s) f.0), omega arith)
