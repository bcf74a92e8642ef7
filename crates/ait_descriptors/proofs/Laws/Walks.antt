-- The walk over a loop of descriptors: what it knows at byte i, where m have had the tag 0x00, and what each way through it makes of that.
-- n is the size of the descriptor at i.
use Prim.Native.Nat.{ℕ, ◌+◌, ◌≤◌, ◌<◌}
use mathlib.Core.Path.{◌≡◌, ap}
use mathlib.Core.Bool.{Bool, true, false, cond}
use mathlib.Core.List.{List}
use Rattle.std.proofs.Common.{Option, Some, None}
use lib.Dec.{eqb}
use lib.ListN.{length, take, drop}
use Rattle.wire.specs.Items.{items, number}
use Rattle.wire.proofs.Laws.Loops.{Counting, count_hit, count_miss, count-done}
use Rattle.ait_descriptors.specs.Descriptor.{descriptor, tag_of}
use Rattle.ait_descriptors.specs.Contents.{well_made, walked_of}
use Rattle.ait_descriptors.proofs.Laws.Kinds.{descriptor_kind}
use Rattle.ait_descriptors.proofs.Laws.Proper.{Proper, proper-stop, proper_miss, proper-turn, proper-done}

abbrev is_zero : List ℕ → Bool
is_zero d = eqb (tag_of d) 0x00

abbrev pub Walking : List ℕ → ℕ → ℕ → Type 0
Walking l i m = Proper descriptor well_made l i × Counting descriptor is_zero l i m

module _ (l : List ℕ) where
  abbrev found : Bool → Option ℕ
  found t = cond t (Some (number is_zero (items descriptor l))) None

  module _ (i n : ℕ) (e : n ≡ descriptor (drop i l)) (m : ℕ) (v : Walking l i m) where
    pub walk_open : (i ≡ length l → ⊥) → n ≡ 0 → None ≡ walked_of l
    unfolding walked_of
    walk_open h z = ap found (proper-stop descriptor descriptor_kind well_made l i v.0 n e h z)

    module _ (z : n ≡ 0 → ⊥) where
      pub walk_bad : well_made (take n (drop i l)) ≡ false → None ≡ walked_of l
      unfolding walked_of
      walk_bad g = ap found (proper_miss descriptor descriptor_kind well_made l i v.0 n e z g)

      module _ (g : well_made (take n (drop i l)) ≡ true) where
        pub walk_hit : is_zero (take n (drop i l)) ≡ true → Walking l (i + n) (m + 1)
        walk_hit t = (proper-turn descriptor descriptor_kind well_made l i v.0 n e z g, count_hit descriptor descriptor_kind l i n e is_zero m v.1 z t)

        pub walk_miss : is_zero (take n (drop i l)) ≡ false → Walking l (i + n) m
        walk_miss t = (proper-turn descriptor descriptor_kind well_made l i v.0 n e z g, count_miss descriptor descriptor_kind l i n e is_zero m v.1 z t)

  pub walk-done : (i m : ℕ) → length l ≤ i → Walking l i m → Some m ≡ walked_of l
  unfolding walked_of
  walk-done i m h v = λ j. cond (proper-done descriptor descriptor_kind well_made l i v.0 h j) (Some (count-done descriptor descriptor_kind l i h is_zero m v.1 j)) None
