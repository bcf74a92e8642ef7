-- `ait_descriptors::descriptor::is_good` meets its contract.
use mathlib.Core.Path.{◌∙◌}
use Rattle.ait_descriptors.specs.Contents.{contents_good}
use Rattle.ait_descriptors.proofs.Laws.Tags.{good-at, good-other}
use Rattle.ait_descriptors.proofs.descriptor.is_good.Goals as goal

pub returns-in-0 : goal.returns-in-0
unfolding contents_good
returns-in-0 c = c.is_good00.ensures ∙ good-at _ _ 0x00 c.in-0.is

pub returns-in-1 : goal.returns-in-1
unfolding contents_good
returns-in-1 c = c.is_good01.ensures ∙ good-at _ _ 0x01 c.in-1.is

pub returns-in-2 : goal.returns-in-2
unfolding contents_good
returns-in-2 c = c.is_good02.ensures ∙ good-at _ _ 0x02 c.in-2.is

pub returns-in-5 : goal.returns-in-5
unfolding contents_good
returns-in-5 c = c.is_good05.ensures ∙ good-at _ _ 0x05 c.in-5.is

pub returns-in_default : goal.returns-in_default
returns-in_default c = let n = c.in_default.in_default-own.rest in good-other _ _ n.0.0.0.1 n.0.0.1 n.0.1 n.1
