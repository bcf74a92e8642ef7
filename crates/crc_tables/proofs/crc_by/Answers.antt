-- `crc_tables::crc_by` meets its contract.
use mathlib.Core.Path.{sym, ◌∙◌}
use native.Mathlib.Omega.{arith}
use Rattle.crc_tables.proofs.Laws.Walk.{rest, too_few, enough, group-next, group_end}
use Rattle.crc_tables.proofs.crc_by.Goals as goal

pub returns-then-tables-lt-WORDS : goal.returns-then-tables-lt-WORDS
returns-then-tables-lt-WORDS c = c.crc.ensures ∙ sym (too_few _ _ c.if-tables-lt-WORDS.true)

pub loop-rest-init : goal.loop-rest-init
loop-rest-init c = enough _ _ c.if-tables-lt-WORDS.false

pub loop-rest-preserved : goal.loop-rest-preserved
loop-rest-preserved c =
    let h = c.loop-rest in
    let t = c.args.tables.now in
    rw (rest h.rest.now 16, c.with_sixteen-r.ensures) (sym (group-next t h.r h.rest.now (omega arith)) ∙ h.invariant)

pub returns : goal.returns
returns c = let h = c.loop-rest in c.up_to_15.ensures ∙ sym (group_end c.args.tables.now h.r h.rest.now (omega arith)) ∙ h.invariant
