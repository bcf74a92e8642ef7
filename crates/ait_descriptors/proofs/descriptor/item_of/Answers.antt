-- `ait_descriptors::descriptor::item_of` meets its contract.
use mathlib.Core.Path.{ap, ◌∙◌}
use Rattle.ait_descriptors.specs.declared.Repeated.TheVariants.{Profiles, Labels, Names, Bases, Identifiers}
use Rattle.ait_descriptors.specs.declared.Item.TheVariants as item
use Rattle.ait_descriptors.specs.Contents.{item_of}
use Rattle.ait_descriptors.proofs.Laws.Records.{item-is}
use Rattle.ait_descriptors.proofs.descriptor.item_of.Goals as goal

pub returns-in-Profiles : goal.returns-in-Profiles
unfolding item_of
returns-in-Profiles c = ap item.Profile c.profile_of.ensures ∙ item-is Profiles _ _ _ c.in-Profiles.is

pub returns-in-Labels : goal.returns-in-Labels
unfolding item_of
returns-in-Labels c = ap item.Label c.byte_at.ensures.0 ∙ item-is Labels _ _ _ c.in-Labels.is

pub returns-in-Names : goal.returns-in-Names
unfolding item_of
returns-in-Names c = ap item.Name c.name_of.ensures ∙ item-is Names _ _ _ c.in-Names.is

pub returns-in-Bases : goal.returns-in-Bases
unfolding item_of
returns-in-Bases c = ap item.Base c.base_of.ensures ∙ item-is Bases _ _ _ c.in-Bases.is

pub returns-in-Identifiers : goal.returns-in-Identifiers
unfolding item_of
returns-in-Identifiers c = ap item.Identifier c.identifier_of.ensures ∙ item-is Identifiers _ _ _ c.in-Identifiers.is
