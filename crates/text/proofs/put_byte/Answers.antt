-- `put_byte` meets its contract.
use mathlib.Core.Path.{refl, sym}
use native.Mathlib.Omega.{arith}
use lib.Seq.{set_out}
use Rattle.text.proofs.Laws.Puts.{reached-fits, reached-past}
use Rattle.text.proofs.put_byte.Goals as goal

pub returns-then-at-out : goal.returns-then-at-out
returns-then-at-out c = (refl, sym (reached-fits _ 1 _ (omega (arith, c.if-at-out.true))))

pub returns : goal.returns
returns c = (sym (set_out _ _ _ c.if-at-out.false), sym (reached-past _ 1 _ c.if-at-out.false))
