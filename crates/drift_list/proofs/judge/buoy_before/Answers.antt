-- `drift_list::judge::buoy_before` meets its contract.
use Rattle.drift_list.proofs.Laws.Words.{before_part}
use Rattle.drift_list.proofs.judge.buoy_before.Goals as goal

pub returns : goal.returns
returns c = before_part _ _ _ c.if-k-eq0.false c.buoy_of.ensures
