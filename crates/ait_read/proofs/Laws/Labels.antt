-- The look-up of labels, from the facts that code learns on its ways.
use Prim.Native.Nat.{ℕ, ◌+◌, ◌≤◌}
use mathlib.Core.Path.{◌≡◌}
use mathlib.Core.List.{List, [], ◌∷◌}
use Rattle.std.proofs.Common.{Some, None}
use native.Mathlib.Omega.{arith}
use lib.ListN.{length, take, drop}
use Rattle.wire.specs.Items.{items, items_in}
use Rattle.wire.specs.Places.{Place, At, Hit, first, first_from, on_hit, part_at}
use Rattle.wire.proofs.Laws.Finders.{Sound}
use Rattle.ait_descriptors.specs.declared.Test.{Test}
use Rattle.ait_descriptors.specs.declared.Test.TheVariants.{Tagged, Labelled}
use Rattle.ait_read.specs.declared.Scope.TheVariants as scope
use Rattle.ait_descriptors.specs.declared.Repeated.TheVariants.{Labels}
use Rattle.ait_read.specs.declared.Resolved.TheVariants.{Own, Common}
use Rattle.ait_read.specs.Places.{own_at, repeated_at}
use Rattle.ait_read.specs.Labels.{first_to, hit_among, resolved_in, label_at}
use Rattle.ait_read.proofs.Laws.Places.{sound_repeated}

-- the first to meet a test at a place
module _ (test : Test) (p : Place) (s : List ℕ) where
  pub find_none : p ≡ None → None ≡ first_to test (part_at p s)
  unfolding part_at first first_from items items_in
  find_none e = rw e

  pub find_at : (a n : ℕ) → p ≡ At a n → first_to test (take n (drop a s)) ≡ first_to test (part_at p s)
  unfolding part_at
  find_at a n e = rw e

-- a label among some descriptors, then among the common ones
module _ (l : ℕ) (own common : List ℕ) where
  pub own_hit : (j : ℕ) → first_to (Labelled l) own ≡ Some j → Some (Own j) ≡ resolved_in l own (common ∷ [])
  unfolding resolved_in
  own_hit j e = rw e

  module _ (m : first_to (Labelled l) own ≡ None) where
    pub common_hit : (j : ℕ) → first_to (Labelled l) common ≡ Some j → Some (Common 0 j) ≡ resolved_in l own (common ∷ [])
    unfolding resolved_in hit_among
    common_hit j e = rw (m, e)

    pub no_hit : first_to (Labelled l) common ≡ None → None ≡ resolved_in l own (common ∷ [])
    unfolding resolved_in hit_among
    no_hit e = rw (m, e)

-- where a label lies
module _ (i k : ℕ) (s : List ℕ) where
  pub label-none : first_to (Tagged 0x00) (part_at (own_at i s) s) ≡ None → None ≡ label_at i k s
  unfolding label_at
  label-none e = rw e

  pub label_is : (j : ℕ) → first_to (Tagged 0x00) (part_at (own_at i s) s) ≡ Some j → repeated_at (scope.Own i) j Labels k s ≡ label_at i k s
  unfolding label_at
  label_is j e = rw e

pub sound-label : (i k : ℕ) → Sound (label_at i k)
unfolding label_at
sound-label i k s a n e = go (first_to (Tagged 0x00) (part_at (own_at i s) s)) e
  where
    go : (h : Hit) → on_hit h None (λ j. repeated_at (scope.Own i) j Labels k s) ≡ At a n → a + n ≤ length s
    go None e = let z : ◌≡◌ {A = ℕ} 0 1 = cc in absurd (omega arith)
    go (Some j) e = sound_repeated (scope.Own i) j Labels k s a n e
