-- `ait_descriptors::tag02::is_selector` meets its contract.
use mathlib.Core.Path.{◌∙◌}
use Rattle.ait_descriptors.specs.Kinds.{size_of}
use Rattle.ait_descriptors.proofs.Laws.Contents.{selector-1, selector-3, selector-raw}
use Rattle.ait_descriptors.proofs.tag02.is_selector.Goals as goal

pub returns-in-1 : goal.returns-in-1
returns-in-1 c = c.is_selector1.ensures ∙ selector-1 _ _ c.in-1.is

pub returns-in-3 : goal.returns-in-3
unfolding size_of
returns-in-3 c = c.fills.ensures ∙ selector-3 _ _ c.in-3.is

pub returns-in_default : goal.returns-in_default
returns-in_default c = selector-raw _ _ c.in_default.in_default-own.rest.0.1 c.in_default.in_default-own.rest.1
