-- `ait_descriptors::parts::rest_of` meets its contract.
use Prim.Native.Nat.{ℕ, ◌-◌}
use mathlib.Core.Path.{◌≡◌}
use lib.ListN.{length}
use native.Mathlib.Omega.{arith}
use Rattle.ait_descriptors.proofs.parts.rest_of.Goals as goal

pub returns-then-x-h : goal.returns-then-x-h
returns-then-x-h c = let z : ◌≡◌ {A = ℕ} 0 (length c.args.x.now - c.args.h) = omega arith in cc
