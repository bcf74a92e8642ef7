-- `carousel_record::rule::is_within_limits` meets its contract.
use borrow.Author.Tests.{eq-eqb, ne_eqb}
use mathlib.Core.Path.{◌≡◌, sym, ap, ◌∙◌}
use mathlib.Core.List.{List}
use native.Mathlib.Omega.{arith}
use lib.ListN.{length}
use Rattle.carousel_messages.specs.declared.Listed.{Listed}
use Rattle.carousel_messages.specs.Limits.{beyond10, twice11}
use Rattle.carousel_messages.specs.Heard.{sizes_of, numbers_of}
use Rattle.carousel_record.specs.Record.{announced_by, within_limits}
use Rattle.carousel_record.proofs.Laws.Entries.{listed-long, said-by}
use Rattle.carousel_record.proofs.rule.is_within_limits.Goals as goal
use Rattle.carousel_record.proofs.rule.is_within_limits.Goals.{After-has_twice, After-is_beyond, Start}

-- how many modules the record says
said : (c : Start) → length (announced_by c.args.c).modules ≡ c.args.c.count
unfolding announced_by
said c =
    let e = c.well_formed.0.1.1.1.1.1.0.1.0.1 in
    listed-long c.args.c.modules c.args.c.count (omega (arith, e, c.requires))

beyond : (c : After-is_beyond) → let r = c.args.c in c.is_beyond.result ≡ beyond10 r.block_size (sizes_of (announced_by r).modules)
beyond c =
    let r = c.args.c in
    c.is_beyond.ensures ∙ ap (λ (ms : List Listed). beyond10 r.block_size (sizes_of ms)) (said-by r _ c.listed-ms.ensures)

twice : (c : After-has_twice) → c.has_twice.result ≡ twice11 (numbers_of (announced_by c.args.c).modules)
twice c =
    c.has_twice.ensures ∙ ap (λ (ms : List Listed). twice11 (numbers_of ms)) (said-by c.args.c _ c.listed-ms.ensures)

pub returns-then-c-ne0 : goal.returns-then-c-ne0
unfolding within_limits announced_by
returns-then-c-ne0 c =
    rw (said (goal.at.returns-then-c-ne0 c).Start, eq-eqb c.args.c.count 0 c.if-n-eq0.true, ne_eqb c.args.c.download 0 c.if-c-ne0.true)

pub returns-then-n-eq0 : goal.returns-then-n-eq0
unfolding within_limits announced_by
returns-then-n-eq0 c =
    rw (said (goal.at.returns-then-n-eq0 c).Start, eq-eqb c.args.c.count 0 c.if-n-eq0.true, eq-eqb c.args.c.download 0 c.if-c-ne0.false)

pub returns-then-is_beyond : goal.returns-then-is_beyond
unfolding within_limits announced_by
returns-then-is_beyond c =
    rw (said (goal.at.returns-then-is_beyond c).Start, ne_eqb c.args.c.count 0 c.if-n-eq0.false, sym (beyond (goal.at.returns-then-is_beyond c).After-is_beyond) ∙ c.if-is_beyond.true)

pub returns : goal.returns
unfolding within_limits announced_by
returns c =
    rw (said (goal.at.returns c).Start, ne_eqb c.args.c.count 0 c.if-n-eq0.false, sym (beyond (goal.at.returns c).After-is_beyond) ∙ c.if-is_beyond.false, twice (goal.at.returns c).After-has_twice)
