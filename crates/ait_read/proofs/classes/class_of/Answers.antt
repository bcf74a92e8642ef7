-- `ait_read::classes::class_of` meets its contract.
use native.Mathlib.Omega.{arith}
use borrow.Author.Tests.{lt-ltb, le-ltb}
use Rattle.ait_read.specs.Records.{class_of}
use Rattle.ait_read.proofs.classes.class_of.Goals as goal

pub returns-in-0-to-16383 : goal.returns-in-0-to-16383
unfolding class_of
returns-in-0-to-16383 c = let n = c.args.number in rw (lt-ltb n 0x4000 (omega arith))

pub returns-in-16384-to-32767 : goal.returns-in-16384-to-32767
unfolding class_of
returns-in-16384-to-32767 c = let n = c.args.number in rw (le-ltb n 0x4000 (omega arith), lt-ltb n 0x8000 (omega arith))

pub returns-in-32768-to-65533 : goal.returns-in-32768-to-65533
unfolding class_of
returns-in-32768-to-65533 c = let n = c.args.number in rw (le-ltb n 0x4000 (omega arith), le-ltb n 0x8000 (omega arith), lt-ltb n 0xFFFE (omega arith))

pub returns-in_default : goal.returns-in_default
unfolding class_of
returns-in_default c = let n = c.args.number in rw (le-ltb n 0x4000 (omega arith), le-ltb n 0x8000 (omega arith), le-ltb n 0xFFFE (omega arith))
