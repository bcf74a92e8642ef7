-- The body, from the facts that code learns on its ways.
use Prim.Native.Nat.{ℕ, ◌+◌}
use mathlib.Core.Path.{◌≡◌, refl, sym, ap, ◌∙◌}
use mathlib.Core.Bool.{Bool, true, false, cond, ◌&&◌}
use mathlib.Core.List.{List}
use Rattle.std.proofs.Common.{Option, Some, None, unwrap_or}
use native.Mathlib.Omega.{arith}
use lib.Dec.{eqb}
use lib.ListN.{length}
use borrow.Author.Tests.{eq-eqb, ne_eqb}
use Rattle.wire.specs.Items.{items, fills, every, number}
use Rattle.wire.specs.Tests.{first_met}
use Rattle.ait_descriptors.specs.Kinds.{application}
use Rattle.ait_descriptors.specs.Descriptor.{descriptor, tag_of}
use Rattle.ait_descriptors.specs.Contents.{walked_of}
use Rattle.ait_body.specs.Body.{common_length, loop_length, common_loop, application_loop, own_loop, good_loop, sole_loop, well_formed, body_meets7}
use Rattle.ait_body.specs.Body.{meets18, body_refusal, loop_refusal, own_refusal, applications_refusal}

-- a loop, from what the walk over it found
module _ (l : List ℕ) where
  abbrev zeros : ℕ
  zeros = number (λ d. eqb (tag_of d) 0x00) (items descriptor l)

  pub walked_bad : walked_of l ≡ None → good_loop l ≡ false
  unfolding walked_of good_loop
  walked_bad = go (good_loop l)
    where
      go : (t : Bool) → cond t (Some zeros) None ≡ None → t ≡ false
      go true e = let z : ◌≡◌ {A = ℕ} 0 1 = cc in absurd (omega arith)
      go false e = refl

  module _ (m : ℕ) where
    pub walked-good : walked_of l ≡ Some m → (good_loop l ≡ true) × (zeros ≡ m)
    unfolding walked_of good_loop
    walked-good = go (good_loop l)
      where
        go : (t : Bool) → cond t (Some zeros) None ≡ Some m → (t ≡ true) × (zeros ≡ m)
        go true e = (refl, ap (λ (o : Option ℕ). unwrap_or o 0) e)
        go false e = let z : ◌≡◌ {A = ℕ} 0 1 = cc in absurd (omega arith)

  pub own_bad : walked_of l ≡ None → 7 ≡ own_refusal l
  unfolding own_refusal first_met
  own_bad w = ap (λ (t : Bool). loop_refusal t (sole_loop l)) (sym (walked_bad w))

  module _ (m : ℕ) (w : walked_of l ≡ Some m) where
    own-good : (t : Bool) → eqb zeros 1 ≡ t → loop_refusal true t ≡ own_refusal l
    unfolding own_refusal sole_loop
    own-good t e = λ j. loop_refusal (sym (walked-good m w).0 j) (sym e j)

    pub own-one : m ≡ 1 → 0 ≡ own_refusal l
    unfolding first_met
    own-one e = own-good true (eq-eqb zeros 1 ((walked-good m w).1 ∙ e))

    pub own-other : (m ≡ 1 → ⊥) → 18 ≡ own_refusal l
    unfolding first_met
    own-other n = own-good false (ne_eqb zeros 1 (λ e. n (sym (walked-good m w).1 ∙ e)))

  -- and from what is answered for it
  module _ (k : ℕ) (e : k ≡ own_refusal l) where
    pub is_seven : k ≡ 7 → good_loop l ≡ false
    unfolding own_refusal first_met
    is_seven f = go (good_loop l) (sole_loop l) (sym e ∙ f)
      where
        go : (g s : Bool) → loop_refusal g s ≡ 7 → g ≡ false
        go true true f = absurd (omega arith)
        go true false f = absurd (omega arith)
        go false s f = refl

    pub not_seven : (k ≡ 7 → ⊥) → good_loop l ≡ true
    unfolding own_refusal first_met
    not_seven n = go (good_loop l) (sole_loop l) (λ f. n (e ∙ f))
      where
        go : (g s : Bool) → (loop_refusal g s ≡ 7 → ⊥) → g ≡ true
        go true s n = refl
        go false s n = absurd (n refl)

    pub is_eighteen : k ≡ 18 → sole_loop l ≡ false
    unfolding own_refusal first_met
    is_eighteen f = go (good_loop l) (sole_loop l) (sym e ∙ f)
      where
        go : (g s : Bool) → loop_refusal g s ≡ 18 → s ≡ false
        go true true f = absurd (omega arith)
        go true false f = refl
        go false s f = absurd (omega arith)

    pub eighteen_else : (k ≡ 0 → ⊥) → (k ≡ 7 → ⊥) → k ≡ 18
    unfolding own_refusal first_met
    eighteen_else z n = e ∙ go (good_loop l) (sole_loop l) (λ f. z (e ∙ f)) (λ f. n (e ∙ f))
      where
        go : (g s : Bool) → (loop_refusal g s ≡ 0 → ⊥) → (loop_refusal g s ≡ 7 → ⊥) → loop_refusal g s ≡ 18
        go true true z n = absurd (z refl)
        go true false z n = refl
        go false s z n = absurd (n refl)

    pub not_eighteen : (k ≡ 7 → ⊥) → (k ≡ 18 → ⊥) → sole_loop l ≡ true
    unfolding own_refusal first_met
    not_eighteen n h = go (good_loop l) (sole_loop l) (λ f. n (e ∙ f)) (λ f. h (e ∙ f))
      where
        go : (g s : Bool) → (loop_refusal g s ≡ 7 → ⊥) → (loop_refusal g s ≡ 18 → ⊥) → s ≡ true
        go g true n h = refl
        go true false n h = absurd (h refl)
        go false false n h = absurd (n refl)

module _ (b : List ℕ) where
  abbrev ends : ℕ
  ends = 4 + common_length b + loop_length b

  abbrev apps : List (List ℕ)
  apps = items application (application_loop b)

  -- the number, from whether the body is well formed and whether each application has one 0x00
  refusal_is : loop_refusal (well_formed b) (every (λ a. sole_loop (own_loop a)) apps) ≡ body_refusal b
  unfolding body_refusal body_meets7 meets18
  refusal_is = refl

  pub is7 : well_formed b ≡ false → 7 ≡ body_refusal b
  unfolding first_met
  is7 w = ap (λ (t : Bool). loop_refusal t (every (λ a. sole_loop (own_loop a)) apps)) (sym w) ∙ refusal_is

  pub is0 : well_formed b ≡ true → every (λ a. sole_loop (own_loop a)) apps ≡ true → 0 ≡ body_refusal b
  unfolding first_met
  is0 w e = (λ j. loop_refusal (sym w j) (sym e j)) ∙ refusal_is

  -- well formed, from what the lengths and the common loop tell, and then the application loop
  formed-is : (t g : Bool) → eqb ends (length b) ≡ t → good_loop (common_loop b) ≡ g
      → well_formed b ≡ (t && g && fills application (application_loop b) && every (λ a. good_loop (own_loop a)) apps)
  unfolding well_formed
  formed-is t g e q = λ j. e j && q j && fills application (application_loop b) && every (λ a. good_loop (own_loop a)) apps

  pub uneven : (ends ≡ length b → ⊥) → well_formed b ≡ false
  uneven n = formed-is false (good_loop (common_loop b)) (ne_eqb ends (length b) n) refl

  module _ (e : ends ≡ length b) where
    pub common_bad : good_loop (common_loop b) ≡ false → well_formed b ≡ false
    common_bad g = formed-is true false (eq-eqb ends (length b) e) g

    -- where the rest is well formed, the application loop decides
    pub applications_decide : good_loop (common_loop b) ≡ true → applications_refusal (application_loop b) ≡ body_refusal b
    unfolding applications_refusal
    applications_decide g =
        ap (λ (t : Bool). loop_refusal t (every (λ a. sole_loop (own_loop a)) apps)) (sym (formed-is true true (eq-eqb ends (length b) e) g)) ∙ refusal_is
