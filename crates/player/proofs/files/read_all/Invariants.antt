-- `read_all` meets its contract. The invariant: what was read ends within the image.
use Rattle.std.proofs.Common.{◌≡◌, ◌-◌, ◌≤◌, length}
use Rattle.player.proofs.files.read_all.Given as goal

abbrev pub invariant-loop-end : goal.invariant-loop-end
invariant-loop-end g l = (length l.image ≡ length l.initial.image) × (l.at ≤ l.end) × (l.end ≤ length l.image)

abbrev pub decreases-loop-end : goal.decreases-loop-end
decreases-loop-end g l = length l.image - l.end
