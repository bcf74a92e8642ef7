-- `write_rotation` is safe, and ends. The invariant: the bytes that are still to be written end within the room.
use Rattle.std.proofs.Common.{◌≡◌, ◌≤◌, length}
use Rattle.player.proofs.write_rotation.Given as goal

abbrev pub invariant-loop-place : goal.invariant-loop-place
invariant-loop-place g l = (length l.out ≡ length l.initial.out) × (l.end ≤ length l.out)
