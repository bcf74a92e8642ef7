-- `ait_descriptors::kinds::size_of` meets its contract: one line for each kind.
use mathlib.Core.Path.{refl, sym, ap, ◌∙◌}
use native.Mathlib.Omega.{arith}
use Rattle.wire.specs.Fields.{twelve_at}
use Rattle.wire.specs.Items.{sized}
use Rattle.wire.proofs.Laws.Frames.{framed-read}
use Rattle.ait_descriptors.specs.declared.Kind.TheVariants.{Application, Descriptor, Profile, Label, Name, Base, Extension, Identifier}
use Rattle.ait_descriptors.specs.Kinds.{size_of}
use Rattle.ait_descriptors.proofs.Laws.Kinds.{kind-is, said_twelve}
use Rattle.ait_descriptors.proofs.kinds.size_of.Goals as goal

pub returns-in-Application : goal.returns-in-Application
unfolding size_of
returns-in-Application c =
    let s = c.args.s.now in
    c.framed_size.ensures ∙ ap sized (framed-read 9 (λ h. twelve_at h 7) s _ (said_twelve s 9 7 (omega arith) ∙ sym c.twelve_at.ensures.0)
    ∙ kind-is Application _ _ c.in-Application.is)

pub returns-in-Descriptor : goal.returns-in-Descriptor
unfolding size_of
returns-in-Descriptor c = c.measured_size.ensures ∙ ap sized (kind-is Descriptor _ _ c.in-Descriptor.is)

pub returns-in-Profile : goal.returns-in-Profile
unfolding size_of
returns-in-Profile c = c.framed_size-in-Profile.ensures ∙ ap sized (framed-read 5 (λ h. 0) c.args.s.now _ refl ∙ kind-is Profile _ _ c.in-Profile.is)

pub returns-in-Label : goal.returns-in-Label
unfolding size_of
returns-in-Label c = c.framed_size-in-Label.ensures ∙ ap sized (framed-read 1 (λ h. 0) c.args.s.now _ refl ∙ kind-is Label _ _ c.in-Label.is)

pub returns-in-Name : goal.returns-in-Name
unfolding size_of
returns-in-Name c = c.measured_size-in-Name.ensures ∙ ap sized (kind-is Name _ _ c.in-Name.is)

pub returns-in-Base : goal.returns-in-Base
unfolding size_of
returns-in-Base c = c.base_size.ensures ∙ ap sized (kind-is Base _ _ c.in-Base.is)

pub returns-in-Extension : goal.returns-in-Extension
unfolding size_of
returns-in-Extension c = c.measured_size-in-Extension.ensures ∙ ap sized (kind-is Extension _ _ c.in-Extension.is)

pub returns-in-Identifier : goal.returns-in-Identifier
unfolding size_of
returns-in-Identifier c = c.framed_size-in-Identifier.ensures ∙ ap sized (framed-read 7 (λ h. 0) c.args.s.now _ refl ∙ kind-is Identifier _ _ c.in-Identifier.is)
