-- `pack` is safe, and ends: its turns are counted. The invariant: what is held lies within the buffer.
use Rattle.std.proofs.Common.{◌≡◌, ◌≤◌, length}
use Rattle.packets.proofs.pack.Given as goal

abbrev pub invariant-loop : goal.invariant-loop
invariant-loop g l = (length l.buffer ≡ length l.initial.buffer) × (65536 ≡ length l.out) × (l.held ≤ length l.buffer)
