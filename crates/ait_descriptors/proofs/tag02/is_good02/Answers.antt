-- `ait_descriptors::tag02::is_good02` meets its contract.
use mathlib.Core.Path.{ap₂, ◌∙◌}
use native.Mathlib.Omega.{arith}
use Rattle.wire.proofs.Laws.Loops.{tail}
use Rattle.ait_descriptors.specs.Tag02.{selector}
use Rattle.ait_descriptors.proofs.Laws.Contents.{good02-short, good02-is}
use Rattle.ait_descriptors.proofs.tag02.is_good02.Goals as goal

pub returns-then-c-lt3 : goal.returns-then-c-lt3
returns-then-c-lt3 c = good02-short _ c.if-c-lt3.true

pub returns : goal.returns
returns c =
    let s = c.args.c.now in
    c.is_selector.ensures ∙ ap₂ selector c.sixteen_at.ensures.0 (tail s 3) ∙ good02-is s (omega arith)
