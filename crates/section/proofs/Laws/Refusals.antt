-- Each test of the paper's table from facts on numbers, and the answer from the tests: what the code's chain of tests cites, in its order.
use Prim.Native.Nat.{ℕ, ◌+◌, ◌≤◌, ◌<◌}
use mathlib.Core.Path.{◌≡◌}
use mathlib.Core.Bool.{true, false, not, ◌||◌, or-true}
use mathlib.Core.List.{List}
use lib.ListN.{length}
use lib.Dec.{ltb, eqb}
use borrow.Author.Tests.{lt-ltb, le-ltb, ltb-false, eq-eqb, ne_eqb, eqb-true, eqb-false, not-false}
use Rattle.wire.specs.Tests.{first_met}
use Rattle.wire.proofs.Laws.Tests.{neither}
use Rattle.section.specs.Header.{table_of, syntax_of, length_of, current_of, section_of, last_of, is_table, limit_of}
use Rattle.section.specs.Refusals.{meets2, meets3, misframed, meets4, meets5, meets6, refusal_by}
use Rattle.section.specs.declared.Rules.{Rules}

pub bad5 : (g : ℕ) → (g ≡ 0 → ⊥) → meets5 g ≡ true
unfolding meets5
bad5 g n = simp (ne_eqb _ _ n)

pub past5 : (g : ℕ) → g ≡ 0 → meets5 g ≡ false
unfolding meets5
past5 g e = simp (eq-eqb _ _ e)

module _ (s : List ℕ) where
  pub short2 : length s < 3 → meets2 s ≡ true
  unfolding meets2
  short2 h = simp (lt-ltb _ _ h)

  pub uneven2 : 3 ≤ length s → (length s ≡ 3 + length_of s → ⊥) → meets2 s ≡ true
  unfolding meets2
  uneven2 h n = simp (le-ltb _ _ h, ne_eqb _ _ n)

  pub past2 : 3 ≤ length s → length s ≡ 3 + length_of s → meets2 s ≡ false
  unfolding meets2
  past2 h e = simp (le-ltb _ _ h, eq-eqb _ _ e)

  pub sized_has : meets2 s ≡ false → (3 ≤ length s) × (length s ≡ 3 + length_of s)
  unfolding meets2
  sized_has e =
      let n = neither (ltb (length s) 3) (not (eqb (length s) (3 + length_of s))) e in
      (ltb-false _ _ n.0, eqb-true _ _ (not-false _ n.1))

  pub next6 : current_of s ≡ 0 → meets6 s ≡ true
  unfolding meets6
  next6 e = simp (eq-eqb _ _ e)

  pub past6 : (current_of s ≡ 0 → ⊥) → meets6 s ≡ false
  unfolding meets6
  past6 n = simp (ne_eqb _ _ n)

module _ (rules : Rules) (s : List ℕ) where
  pub other3 : is_table rules (table_of s) ≡ false → meets3 rules s ≡ true
  unfolding meets3
  other3 e = rw e

  pub past3 : is_table rules (table_of s) ≡ true → meets3 rules s ≡ false
  unfolding meets3
  past3 e = rw e

  -- 4's cases but the last: of the length, and of the syntax indicator
  pub frame-short : length_of s < 9 → misframed rules s ≡ true
  frame-short h = rw (lt-ltb _ _ h)

  pub frame-long : limit_of rules < length_of s → misframed rules s ≡ true
  frame-long h = rw (lt-ltb _ _ h, or-true (ltb (length_of s) 9))

  pub frame-syntax : syntax_of s ≡ 0 → misframed rules s ≡ true
  frame-syntax e = rw (eq-eqb _ _ e) (or-true (ltb (length_of s) 9 || ltb (limit_of rules) (length_of s)))

  pub frame_right : 9 ≤ length_of s → length_of s ≤ limit_of rules → (syntax_of s ≡ 0 → ⊥) → misframed rules s ≡ false
  frame_right h k n = simp (le-ltb _ _ h, le-ltb _ _ k, ne_eqb _ _ n)

  pub framed_has : misframed rules s ≡ false → (9 ≤ length_of s) × (length_of s ≤ limit_of rules) × (syntax_of s ≡ 0 → ⊥)
  framed_has e =
      let m = neither (ltb (length_of s) 9 || ltb (limit_of rules) (length_of s)) (eqb (syntax_of s) 0) e in
      let n = neither (ltb (length_of s) 9) (ltb (limit_of rules) (length_of s)) m.0 in
      (ltb-false _ _ n.0, ltb-false _ _ n.1, eqb-false _ _ m.1)

  pub frame4 : misframed rules s ≡ true → meets4 rules s ≡ true
  unfolding meets4
  frame4 e = rw e

  module _ (h : misframed rules s ≡ false) where
    pub above4 : last_of s < section_of s → meets4 rules s ≡ true
    unfolding meets4
    above4 o = rw (h, lt-ltb _ _ o)

    pub past4 : section_of s ≤ last_of s → meets4 rules s ≡ false
    unfolding meets4
    past4 o = rw (h, le-ltb _ _ o)

-- the answer, whatever register g is handed in
module _ (g : ℕ) (rules : Rules) (s : List ℕ) where
  pub is2 : meets2 s ≡ true → 2 ≡ refusal_by g rules s
  unfolding refusal_by first_met
  is2 h2 = simp h2

  module _ (h2 : meets2 s ≡ false) where
    pub is3 : meets3 rules s ≡ true → 3 ≡ refusal_by g rules s
    unfolding refusal_by first_met
    is3 h3 = simp (h2, h3)

    module _ (h3 : meets3 rules s ≡ false) where
      pub is4 : meets4 rules s ≡ true → 4 ≡ refusal_by g rules s
      unfolding refusal_by first_met
      is4 h4 = simp (h2, h3, h4)

      module _ (h4 : meets4 rules s ≡ false) where
        pub is5 : meets5 g ≡ true → 5 ≡ refusal_by g rules s
        unfolding refusal_by first_met
        is5 h5 = simp (h2, h3, h4, h5)

        module _ (h5 : meets5 g ≡ false) where
          pub is6 : meets6 s ≡ true → 6 ≡ refusal_by g rules s
          unfolding refusal_by first_met
          is6 h6 = simp (h2, h3, h4, h5, h6)

          pub is0 : meets6 s ≡ false → 0 ≡ refusal_by g rules s
          unfolding refusal_by first_met
          is0 h6 = simp (h2, h3, h4, h5, h6)
