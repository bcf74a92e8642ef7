-- `carousel_record::rule::all_unused` meets its contract. The invariant: the entries left are unused just where all from n on are.
use Prim.Native.Nat.{◌-◌}
use mathlib.Core.Path.{◌≡◌, refl, sym, ap, ◌∙◌}
use native.Mathlib.Omega.{arith}
use lib.ListN.{take, drop, length-drop}
use lib.Seq.{take_all}
use Rattle.carousel_messages.specs.Limits.{most_modules}
use Rattle.carousel_record.specs.Record.{all_unused}
use Rattle.carousel_record.proofs.Laws.Entries.{used-here, unused-next, unused-done}
use Rattle.carousel_record.proofs.rule.all_unused.Goals as goal
use Rattle.carousel_record.proofs.rule.all_unused.Goals.{Start}

-- those from n on
others : (c : Start) → all_unused (take (most_modules - c.args.n) (drop c.args.n c.args.ms)) ≡ all_unused (drop c.args.n c.args.ms)
others c = let l = length-drop c.args.n c.args.ms in ap all_unused (take_all (most_modules - c.args.n) (drop c.args.n c.args.ms) (omega (arith, c.well_formed.0.1.0.1)))

pub loop-m-init : goal.loop-m-init
loop-m-init c = refl

pub returns-then-not-is_unused : goal.returns-then-not-is_unused
returns-then-not-is_unused c = sym (used-here _ c.loop-m.m-index c.loop-m-test.true (sym c.is_unused.ensures ∙ c.if-not-is_unused.true)) ∙ c.loop-m.invariant ∙ others
    (goal.at.returns-then-not-is_unused c).Start

pub loop-m-preserved : goal.loop-m-preserved
loop-m-preserved c = unused-next _ c.loop-m.m-index c.loop-m-test.true (sym c.is_unused.ensures ∙ c.if-not-is_unused.false) ∙ c.loop-m.invariant

pub returns : goal.returns
returns c = sym (unused-done _ c.loop-m.m-index (omega arith)) ∙ c.loop-m.invariant ∙ others (goal.at.returns c).Start
