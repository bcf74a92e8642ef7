use mathlib.Core.Path.{sym}
use Rattle.drift_list.proofs.Laws.Words.{spare-word}
use Rattle.drift_list.proofs.unpack.spare_of.Goals as goal

pub returns : goal.returns
returns c =
    let s = c.args.s.now in
    rw c.byte_at.ensures.0 (sym (spare-word s (λ k. (c.shared_slice_known-1.given k).fits)))
