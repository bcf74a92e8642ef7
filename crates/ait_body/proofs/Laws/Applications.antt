-- The walk over an application loop: what it knows at byte i, with the answer that it has kept, and what each way through it makes of that.
-- n is the size of the application at i, and k what is answered for its own loop.
use Prim.Native.Nat.{ℕ, ◌+◌, ◌≤◌}
use mathlib.Core.Path.{◌≡◌, ap, ◌∙◌}
use mathlib.Core.Logic.{◌⊎◌, inl, inr}
use mathlib.Core.Bool.{Bool, true, false}
use mathlib.Core.List.{List}
use Rattle.std.proofs.Common.{Result, Ok, Err}
use lib.ListN.{length, take, drop}
use Rattle.wire.specs.Items.{items, every}
use Rattle.wire.specs.Outcomes.{passed}
use Rattle.wire.specs.Tests.{first_met}
use Rattle.wire.proofs.Laws.Loops.{Testing, test_miss, test-turn, test-done}
use Rattle.ait_descriptors.specs.Kinds.{application}
use Rattle.ait_descriptors.proofs.Laws.Kinds.{application_kind}
use Rattle.ait_descriptors.proofs.Laws.Proper.{Proper, proper-stop, proper_miss, proper-turn, proper-done}
use Rattle.ait_body.specs.Body.{own_loop, good_loop, sole_loop, loop_refusal, own_refusal, applications_refusal}
use Rattle.ait_body.proofs.Laws.Body.{is_seven, not_seven, is_eighteen, not_eighteen}

abbrev good : List ℕ → Bool
good a = good_loop (own_loop a)

abbrev sole : List ℕ → Bool
sole a = sole_loop (own_loop a)

-- no refusal so far, and what is to come decides; or 18, whatever is to come
abbrev Remembered : List ℕ → ℕ → Result (Unit {0}) ℕ → Type 0
Remembered s i answer = ((answer ≡ Ok tt) × Testing application sole s i) ⊎ ((answer ≡ Err 18) × (false ≡ every sole (items application s)))

abbrev pub Judging : List ℕ → ℕ → Result (Unit {0}) ℕ → Type 0
Judging s i answer = Proper application good s i × Remembered s i answer

module _ (s : List ℕ) where
  abbrev refused : Bool → ℕ
  refused t = loop_refusal t (every sole (items application s))

  module _ (i n : ℕ) (e : n ≡ application (drop i s)) (answer : Result (Unit {0}) ℕ) (v : Judging s i answer) where
    pub judge_open : (i ≡ length s → ⊥) → n ≡ 0 → 7 ≡ applications_refusal s
    unfolding applications_refusal first_met
    judge_open h z = ap refused (proper-stop application application_kind good s i v.0 n e h z)

    module _ (z : n ≡ 0 → ⊥) (k : ℕ) (o : k ≡ own_refusal (own_loop (take n (drop i s)))) where
      pub judge_bad : k ≡ 7 → 7 ≡ applications_refusal s
      unfolding applications_refusal first_met
      judge_bad q = ap refused (proper_miss application application_kind good s i v.0 n e z (is_seven _ k o q))

      module _ (q : k ≡ 7 → ⊥) where
        pub judge_eighteen : k ≡ 18 → Judging s (i + n) (Err k)
        judge_eighteen p = (proper-turn application application_kind good s i v.0 n e z (not_seven _ k o q), inr (ap Err p, go v.1))
          where
            go : Remembered s i answer → false ≡ every sole (items application s)
            go (inl w) = test_miss application application_kind s i n e sole w.1 z (is_eighteen _ k o p)
            go (inr w) = w.1

        pub judge-turn : (k ≡ 18 → ⊥) → Judging s (i + n) answer
        judge-turn p = (proper-turn application application_kind good s i v.0 n e z (not_seven _ k o q), go v.1)
          where
            go : Remembered s i answer → Remembered s (i + n) answer
            go (inl w) = inl (w.0, test-turn application application_kind s i n e sole w.1 z (not_eighteen _ k o q p))
            go (inr w) = inr w

  pub judge-done : (i : ℕ) (answer : Result (Unit {0}) ℕ) → length s ≤ i → Judging s i answer → answer ≡ passed (applications_refusal s)
  unfolding applications_refusal first_met
  judge-done i answer h v = go v.1
    where
      told : (u : Bool) → u ≡ every sole (items application s) → loop_refusal true u ≡ applications_refusal s
      told u e = λ j. loop_refusal (proper-done application application_kind good s i v.0 h j) (e j)

      go : Remembered s i answer → answer ≡ passed (applications_refusal s)
      go (inl w) = w.0 ∙ ap passed (told true (test-done application application_kind s i h sole w.1))
      go (inr w) = w.0 ∙ ap passed (told false w.1)
