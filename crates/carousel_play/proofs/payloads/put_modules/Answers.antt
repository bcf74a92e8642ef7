-- `carousel_play::payloads::put_modules` meets its contract. The invariant: the modules that are left, put from here on, leave what all of them leave.
use Prim.Native.Nat.{◌+◌}
use mathlib.Core.Path.{sym, ◌∙◌}
use native.Mathlib.Omega.{arith}
use lib.ListN.{drop, get_or, drop_of_length-le}
use Rattle.carousel_messages.specs.Heard.{none_listed}
use Rattle.carousel_play.proofs.Laws.Pieces.{module-step, module-none, modules-left}
use Rattle.carousel_play.proofs.payloads.put_modules.Goals as goal

pub loop-m-preserved : goal.loop-m-preserved
loop-m-preserved c =
    let l = c.loop-m in
    let ms = c.args.modules.now in
    let f = modules-left ms l.m-index (omega arith) in
    let w = module-step l.out l.end (get_or ms l.m-index none_listed) (drop (l.m-index + 1) ms) (drop l.m-index ms) _ _ f c.put_module-end.ensures in
    (w.2 ∙ l.invariant.0, w.0 ∙ l.invariant.1, w.1 ∙ l.invariant.2)

pub returns : goal.returns
returns c =
    let l = c.loop-m in
    let z = drop_of_length-le c.args.modules.now (omega arith) in
    let w = module-none l.out l.end _ z in
    (sym w.0 ∙ l.invariant.1, sym w.1 ∙ l.invariant.2)
