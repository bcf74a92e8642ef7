-- `section::spot_of` meets its contract.
use native.Mathlib.Omega.{arith}
use mathlib.Core.Path.{sym, ap, ◌∙◌}
use Rattle.std.proofs.Common.{Some}
use Rattle.section.proofs.Laws.Places.{spot2, spot3, spot4, spot5, spot6, spot-none}
use Rattle.section.proofs.spot_of.Goals as goal

pub overflow_sub-result : goal.overflow_sub-result
overflow_sub-result c = let h = c.requires c.in-5.is in omega (arith, h)

pub returns-in-2 : goal.returns-in-2
returns-in-2 c = sym (spot2 _ _ _ c.in-2.is)

pub returns-in-3 : goal.returns-in-3
returns-in-3 c = sym (spot3 _ _ _ c.in-3.is)

pub returns-in-4 : goal.returns-in-4
returns-in-4 c = ap Some c.header_spot.ensures ∙ sym (spot4 _ _ _ c.in-4.is)

pub returns-in-5 : goal.returns-in-5
returns-in-5 c = sym (spot5 _ _ _ c.in-5.is)

pub returns-in-6 : goal.returns-in-6
returns-in-6 c = sym (spot6 _ _ _ c.in-6.is)

pub returns-in_default : goal.returns-in_default
returns-in_default c = let r = c.in_default.in_default-own.rest in sym (spot-none _ _ _ r.0.0.0.0.1 r.0.0.0.1 r.0.0.1 r.0.1 r.1)
