-- `transport::stretch::walk` meets its contract: packet after packet, for as long as there is one and room for what it may hand on.
use mathlib.Core.Path.{◌≡◌}
use lib.ListN.{length, drop}
use Rattle.std.proofs.Common.{option_copied}
use Rattle.std.specs.Slice.Iter.{chunks_rest, chunks_size}
use Rattle.transport.specs.Pieces.{midway, Midway}
use Rattle.transport.proofs.Laws.Calls.{Going}
use Rattle.transport.proofs.stretch.walk.Given as goal

abbrev pub invariant-loop-p : goal.invariant-loop-p
invariant-loop-p l =
    goal.iterator-loop-p.can_next l.p-iterator
    × goal.iterator-loop-p.is_finite l.p-iterator
    × (chunks_size l.p-iterator ≡ 188)
    × (chunks_rest l.p-iterator ≡ drop l.passed l.packets)
    × (length l.state ≡ length l.initial.state)
    × Going l.pid l.initial.state l.initial.out l.packets (midway (option_copied l.last) l.held l.state) l.out l.counts l.passed l.size
    × Midway l.pid (option_copied l.last) l.held l.state
