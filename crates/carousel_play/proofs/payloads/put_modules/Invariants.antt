-- `carousel_play::payloads::put_modules` meets its contract. The invariant: the modules that are left, put from here on, leave what all of them leave.
use mathlib.Core.Path.{◌≡◌}
use lib.ListN.{length, drop}
use lib.Seq.{sets}
use Rattle.text.specs.Text.{reached}
use Rattle.carousel_play.specs.Bytes.{modules_bytes}
use Rattle.carousel_play.proofs.payloads.put_modules.Given as goal

abbrev pub invariant-loop-m : goal.invariant-loop-m
invariant-loop-m l =
    (length l.out ≡ length l.initial.out) × (sets l.out l.end (modules_bytes (drop l.m-index l.modules)) ≡ sets l.initial.out l.at (modules_bytes l.modules))
    × (reached l.end (length (modules_bytes (drop l.m-index l.modules))) (length l.out) ≡ reached l.at (length (modules_bytes l.modules)) (length l.initial.out))
