-- The five numbers of a record as code goes through them, and a part of the numbers.
use Prim.Native.Nat.{ℕ, ◌+◌, ◌-◌, ◌^◌, ◌<◌}
use mathlib.Core.Path.{◌≡◌, sym, ap, ◌∙◌}
use mathlib.Core.Bool.{true, false, ◌||◌}
use mathlib.Core.List.{List}
use native.Mathlib.Omega.{arith}
use lib.Dec.{leb}
use lib.ListN.{length, take, drop, length-drop}
use lib.Seq.{get_or-drop, take_all}
use lib.IntN.{ℤ, pos}
use lib.Signed.{mag, lt_z}
use mir.Syntax.{w32}
use mir.Val.{to_z, of_z, SFits}
use mir.ValLaws.{to_z-of_z}
use Rattle.wire.proofs.Laws.Signed.{below-told, above-told}
use Rattle.drift_list.specs.Writing.{cell, fix_in, outside, wide_at}

-- a number read and passed on
pub kept : (r z : ℤ) → (r ≡ z) × (mag r < 2147483648) → to_z w32 (of_z w32 r) ≡ z
kept r z e = to_z-of_z w32 r (record { sfits = e.1 }) ∙ e.0

-- a part of the numbers, from place i on
abbrev pub rest : List ℤ → ℕ → List ℤ
rest ns i = take (length ns - i) (drop i ns)

rest-is : (ns : List ℤ) (i : ℕ) → rest ns i ≡ drop i ns
rest-is ns i = take_all (length ns - i) (drop i ns) (rw length-drop (omega arith))

cell_drop : (ns : List ℤ) (i j : ℕ) → cell (drop i ns) j ≡ cell ns (i + j)
cell_drop ns i j = get_or-drop i ns j (pos 0)

pub wide-rest : (ns : List ℤ) (i : ℕ) → wide_at (rest ns i) 0 ≡ wide_at ns i
unfolding wide_at
wide-rest ns i = ap (λ (l : List ℤ). wide_at l 0) (rest-is ns i) ∙ rw (cell_drop ns i 0, cell_drop ns i 1, cell_drop ns i 2, cell_drop ns i 3, cell_drop ns i 4)
    (ap (λ (k : ℕ). outside (2 ^ 20) (cell ns k) || outside (2 ^ 2) (cell ns (i + 1)) || leb (2 ^ 27) (mag (cell ns (i + 2))) || leb (2 ^ 26)
    (mag (cell ns (i + 3))) || outside (2 ^ 14) (cell ns (i + 4))) (omega arith))

pub fix-rest : (ns : List ℤ) (i : ℕ) → fix_in (rest ns i) 0 ≡ fix_in ns i
unfolding fix_in
fix-rest ns i =
    let z : cell (drop i ns) 0 ≡ cell ns i = cell_drop ns i 0 ∙ ap (cell ns) (omega arith) in
    ap (λ (l : List ℤ). fix_in l 0) (rest-is ns i) ∙ rw (z, cell_drop ns i 1, cell_drop ns i 2, cell_drop ns i 3, cell_drop ns i 4)

-- a number outside its field, by its sign
module _ (z : ℤ) (f : SFits w32 z) where
  pub below-outside : (top : ℕ) → lt_z (to_z w32 (of_z w32 z)) (pos 0) ≡ true → true ≡ outside top z
  unfolding outside
  below-outside top e = sym (ap (outside top) (below-told z f e))

  pub above-outside : (top : ℕ) → lt_z (to_z w32 (of_z w32 z)) (pos 0) ≡ false → leb top (mag z) ≡ outside top z
  unfolding outside
  above-outside top e = sym (ap (outside top) (above-told z f e))
