-- The argument, by what its digits say.
use Prim.Native.Nat.{ℕ, ◌^◌}
use mathlib.Core.Path.{◌≡◌, refl, ap}
use mathlib.Core.Bool.{Bool, true, false, cond, not, ◌&&◌}
use mathlib.Core.List.{List}
use native.Mathlib.Omega.{arith}
use lib.Dec.{eqb, leb, ltb}
use lib.ListN.{length}
use borrow.Author.Tests.{lt-ltb, le-ltb, leb-true, leb-false}
use Rattle.std.proofs.Common.{Some, None}
use Rattle.text.specs.Digits.{all_digits, value_from, said_by}
use Rattle.drift_report.specs.Argument.{module_asked}

-- WHAT IS ASKED is what digits say of a number of 16 bits
pub asked-said : (xs : List ℕ) → module_asked xs ≡ said_by 65535 xs
unfolding module_asked said_by
asked-said xs =
    ap (λ (t : Bool). cond (not (eqb (length xs) 0) && all_digits xs && t) (Some (value_from 0 xs)) None) (within (value_from 0 xs))
  where
    within : (v : ℕ) → ltb v (2 ^ 16) ≡ leb v 65535
    within v = by_test (leb v 65535) refl
      where
        by_test : (t : Bool) → leb v 65535 ≡ t → ltb v (2 ^ 16) ≡ t
        by_test true e = let l = leb-true v 65535 e in lt-ltb v (2 ^ 16) (omega arith)
        by_test false e = let l = leb-false v 65535 e in le-ltb v (2 ^ 16) (omega arith)
