-- `carousel_play::refusals::judge_limits` meets its contract.
use mathlib.Core.Path.{◌≡◌, sym, ap, ◌∙◌}
use lib.ListN.{take}
use Rattle.wire.specs.Outcomes.{passed}
use Rattle.carousel_messages.specs.Limits.{beyond10, twice11}
use Rattle.carousel_messages.specs.Heard.{sizes_of, numbers_of}
use Rattle.carousel_play.proofs.Laws.Refusals.{too_many, beyond, twice, within}
use Rattle.carousel_play.proofs.refusals.judge_limits.Goals as goal
use Rattle.carousel_play.proofs.refusals.judge_limits.Goals.{After-is_beyond, After-has_twice}

-- what is judged are the first modules
its-beyond : (c : After-is_beyond) → let p = c.args.p in c.is_beyond.result ≡ beyond10 p.block_size (sizes_of (take p.count p.modules))
its-beyond c = c.is_beyond.ensures

its-twice : (c : After-has_twice) → let p = c.args.p in c.has_twice.result ≡ twice11 (numbers_of (take p.count p.modules))
its-twice c = c.has_twice.ensures

pub returns-then-n-gt-MOST_MODULES : goal.returns-then-n-gt-MOST_MODULES
returns-then-n-gt-MOST_MODULES c = ap passed (too_many _ c.if-n-gt-MOST_MODULES.true)

pub returns-then-is_beyond : goal.returns-then-is_beyond
returns-then-is_beyond c = ap passed (beyond _ c.if-n-gt-MOST_MODULES.false (sym c.if-is_beyond.true ∙ its-beyond (goal.at.returns-then-is_beyond c).After-is_beyond))

pub returns-then-has_twice : goal.returns-then-has_twice
returns-then-has_twice c =
    let s = goal.at.returns-then-has_twice c in
    ap passed (twice _ c.if-n-gt-MOST_MODULES.false (sym c.if-is_beyond.false ∙ its-beyond s.After-is_beyond) (sym c.if-has_twice.true ∙ its-twice s.After-has_twice))

pub returns : goal.returns
returns c =
    let s = goal.at.returns c in
    ap passed (within _ c.if-n-gt-MOST_MODULES.false (sym c.if-is_beyond.false ∙ its-beyond s.After-is_beyond) (sym c.if-has_twice.false ∙ its-twice s.After-has_twice))
