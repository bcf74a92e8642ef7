-- `ait_descriptors::kinds::size_at` meets its contract.
use mathlib.Core.Path.{ap, ◌∙◌}
use Rattle.wire.specs.Items.{sized}
use Rattle.wire.proofs.Laws.Loops.{tail}
use Rattle.ait_descriptors.specs.Kinds.{size_of}
use Rattle.ait_descriptors.proofs.Laws.Kinds.{kind_of_lem, within}
use Rattle.ait_descriptors.proofs.kinds.size_at.Goals as goal

pub returns : goal.returns
returns c =
    let s = c.args.s.now in
    let i = c.args.i in
    let e = c.size_of.ensures ∙ ap (λ l. sized (size_of c.args.kind l)) (tail s i) in
    (e, within (size_of _) (kind_of_lem _) s i _ e c.requires)
