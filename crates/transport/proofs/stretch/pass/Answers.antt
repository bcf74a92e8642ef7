-- `transport::stretch::pass` meets its contract: what was gone through, and what is still to be written.
use native.Mathlib.Omega.{arith}
use Rattle.transport.proofs.Laws.Midway.{midway_full, midway-few, midway-long}
use Rattle.transport.proofs.stretch.pass.Goals as goal

pub keep_last-requires : goal.keep_last-requires
keep_last-requires c =
    let m = c.walk-w.ensures.2 in
    let h = midway-few _ _ _ _ m in
    let l = midway-long _ _ _ _ m in
    (midway_full _ _ _ _ m, omega (arith, h), omega (arith, l))
