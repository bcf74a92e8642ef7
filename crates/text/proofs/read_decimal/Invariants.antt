-- `read_decimal` meets its contract. The invariant: what is left is digits where all are, and says after n what all say.
use Prim.Native.Nat.{◌≤◌}
use mathlib.Core.Path.{◌≡◌}
use lib.ListN.{drop}
use Rattle.text.specs.Digits.{all_digits, value_from}
use Rattle.text.proofs.read_decimal.Given as goal

abbrev pub invariant-loop-d : goal.invariant-loop-d
invariant-loop-d l = (l.n ≤ l.most) × (all_digits (drop l.d-index l.digits) ≡ all_digits l.digits) × (value_from l.n (drop l.d-index l.digits) ≡ value_from 0 l.digits)
