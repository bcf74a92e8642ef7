-- `section::check_by` meets its contract.
use native.Mathlib.Omega.{arith}
use mathlib.Core.Path.{sym, ap, ◌∙◌}
use Rattle.std.proofs.Common.{Ok}
use Rattle.wire.proofs.Laws.Outcomes.{refused_by_lem, not_refused}
use Rattle.section.proofs.Laws.Places.{whole_by5}
use Rattle.section.proofs.Laws.Exact.{refused_as, accepted-by}
use Rattle.section.proofs.check_by.Goals as goal

pub spot_of-place-requires : goal.spot_of-place-requires
spot_of-place-requires c = λ e.
    let n = refused_by_lem _ _ tt c.in-Err.ensures in
    let w = whole_by5 c.args.rules c.args.s.now c.args.register (omega (arith, n.0, e)) in
    omega arith

pub returns-in-Err : goal.returns-in-Err
returns-in-Err c =
    let n = refused_by_lem _ _ tt c.in-Err.ensures in
    (refused_as c.args.register c.args.rules c.args.s.now _ _ n.0 c.spot_of-place.ensures (λ z. n.1 (sym n.0 ∙ z)), n.0)

pub returns : goal.returns
returns c =
    let z = not_refused _ tt tt c.in_default.ensures in
    (ap Ok c.header_of.ensures ∙ sym (accepted-by _ _ _ z), sym z)
