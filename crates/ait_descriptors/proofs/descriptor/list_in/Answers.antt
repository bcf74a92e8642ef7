-- `ait_descriptors::descriptor::list_in` meets its contract.
use mathlib.Core.Path.{◌∙◌}
use Rattle.ait_descriptors.specs.declared.Repeated.TheVariants.{Profiles, Labels, Names, Bases, Identifiers}
use Rattle.ait_descriptors.specs.Contents.{list_in}
use Rattle.ait_descriptors.proofs.Laws.Lists.{list-is}
use Rattle.ait_descriptors.proofs.descriptor.list_in.Goals as goal

pub returns-in-Profiles : goal.returns-in-Profiles
unfolding list_in
returns-in-Profiles c = c.profiles_in.ensures ∙ list-is _ Profiles _ c.in-Profiles.is

pub returns-in-Labels : goal.returns-in-Labels
unfolding list_in
returns-in-Labels c = c.labels_in.ensures ∙ list-is _ Labels _ c.in-Labels.is

pub returns-in-Names : goal.returns-in-Names
unfolding list_in
returns-in-Names c = c.names_in.ensures ∙ list-is _ Names _ c.in-Names.is

pub returns-in-Bases : goal.returns-in-Bases
unfolding list_in
returns-in-Bases c = c.bases_in.ensures ∙ list-is _ Bases _ c.in-Bases.is

pub returns-in-Identifiers : goal.returns-in-Identifiers
unfolding list_in
returns-in-Identifiers c = c.identifiers_in.ensures ∙ list-is _ Identifiers _ c.in-Identifiers.is
