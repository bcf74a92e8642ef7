-- `put` meets its contract. The invariant: the rest of the piece, put from here on, leaves what the whole leaves.
use mathlib.Core.Path.{◌≡◌}
use lib.ListN.{length, drop}
use Rattle.text.proofs.Laws.Puts.{Writing}
use Rattle.text.proofs.put.Given as goal

abbrev pub invariant-loop-byte : goal.invariant-loop-byte
invariant-loop-byte l = (length l.out ≡ length l.initial.out) × Writing l.out l.end (drop l.byte-index l.piece) l.initial.out l.at l.piece
