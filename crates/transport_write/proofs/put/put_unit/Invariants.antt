-- `transport_write::put::put_unit` meets its contract. The invariant is `Going`: the first packets are written, nothing past them has changed, and those of the rest are to come.
use mathlib.Core.Path.{◌≡◌}
use Rattle.std.specs.Slice.Iter.{chunks_rest, chunks_size}
use Rattle.transport_write.proofs.Laws.Packets.{Going}
use Rattle.transport_write.proofs.put.put_unit.Given as goal

abbrev pub invariant-loop-bytes : goal.invariant-loop-bytes
invariant-loop-bytes l =
    goal.iterator-loop-bytes.can_next l.bytes-iterator
    × goal.iterator-loop-bytes.is_finite l.bytes-iterator
    × (chunks_size l.bytes-iterator ≡ 184)
    × Going l.pid l.counter l.unit l.initial.out l.out l.written (chunks_rest l.bytes-iterator) l.start l.c
