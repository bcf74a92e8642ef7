-- `drift_list::unpack::buoy_of` meets its contract.
use Rattle.drift_list.proofs.Laws.Words.{buoy-word}
use Rattle.drift_list.proofs.unpack.buoy_of.Goals as goal

pub returns : goal.returns
returns c = buoy-word c.args.s.now (λ k. (c.shared_slice_known-1.given k).fits) _ c.thirty_two_at.ensures.0
