-- `transport::judge_lent` meets its contract: the two tests.
use mathlib.Core.Path.{sym, ap, ◌∙◌}
use Rattle.wire.specs.Outcomes.{passed}
use Rattle.transport.proofs.Laws.Calls.{lent-1, lent-21, lent-0}
use Rattle.transport.proofs.judge_lent.Goals as goal

pub returns-then-not-is_good : goal.returns-then-not-is_good
returns-then-not-is_good c =
    ap passed (sym (lent-1 c.args.pid c.args.state.now c.args.room (sym c.is_good.ensures ∙ c.if-not-is_good.true)))

pub returns-then-room-lt-LEAST_ROOM : goal.returns-then-room-lt-LEAST_ROOM
returns-then-room-lt-LEAST_ROOM c =
    ap passed (sym (lent-21 c.args.pid c.args.state.now c.args.room (sym c.is_good.ensures ∙ c.if-not-is_good.false) c.if-room-lt-LEAST_ROOM.true))

pub returns : goal.returns
returns c =
    ap passed (sym (lent-0 c.args.pid c.args.state.now c.args.room (sym c.is_good.ensures ∙ c.if-not-is_good.false) c.if-room-lt-LEAST_ROOM.false))
