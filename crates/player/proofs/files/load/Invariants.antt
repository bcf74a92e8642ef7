-- `load` is safe, and ends. The invariant: what was read ends within the image, and there are as many entries as there were.
use Rattle.std.proofs.Common.{◌≡◌, ◌≤◌, length}
use Rattle.player.proofs.files.load.Given as goal

abbrev pub invariant-loop-i : goal.invariant-loop-i
invariant-loop-i g l = (length l.image ≡ length l.initial.image) × (length l.ms ≡ 32) × (l.at ≤ length l.image)
