-- `ait_descriptors::descriptor::kind_of` meets its contract.
use Rattle.ait_descriptors.specs.declared.Repeated.TheVariants.{Profiles, Labels, Names, Bases, Identifiers}
use Rattle.ait_descriptors.specs.Contents.{kind_of}
use Rattle.ait_descriptors.proofs.Laws.Lists.{kind-is}
use Rattle.ait_descriptors.proofs.descriptor.kind_of.Goals as goal

pub returns-in-Profiles : goal.returns-in-Profiles
unfolding kind_of
returns-in-Profiles c = kind-is Profiles _ c.in-Profiles.is

pub returns-in-Labels : goal.returns-in-Labels
unfolding kind_of
returns-in-Labels c = kind-is Labels _ c.in-Labels.is

pub returns-in-Names : goal.returns-in-Names
unfolding kind_of
returns-in-Names c = kind-is Names _ c.in-Names.is

pub returns-in-Bases : goal.returns-in-Bases
unfolding kind_of
returns-in-Bases c = kind-is Bases _ c.in-Bases.is

pub returns-in-Identifiers : goal.returns-in-Identifiers
unfolding kind_of
returns-in-Identifiers c = kind-is Identifiers _ c.in-Identifiers.is
