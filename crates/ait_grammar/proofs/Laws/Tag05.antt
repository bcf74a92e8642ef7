-- 0x05 as a form: identifiers.
use mathlib.Core.Path.{◌≡◌, refl}
use mathlib.Core.Bool.{true}
use native.Mathlib.Omega.{arith}
use lib.ListN.{length}
use Rattle.wire.specs.Items.{fills}
use Rattle.wire.proofs.Laws.Frames.{framed_kind}
use Rattle.ait_descriptors.specs.Tag05.{identifier}
use Rattle.ait_grammar.specs.Bytes.{Each, spell_all}
use Rattle.ait_grammar.specs.Tag05.{FitsIdentifier, spell_identifier}
use Rattle.ait_grammar.proofs.Laws.Forms.{Form, seen, field}
use Rattle.ait_grammar.proofs.Laws.Followed.{beside}
use Rattle.ait_grammar.proofs.Laws.Framed.{fixed_form}
use Rattle.ait_grammar.proofs.Laws.Repeated.{filled}

pub identifier_form : Form (λ x. length x ≡ 7) spell_identifier FitsIdentifier
unfolding spell_identifier
identifier_form =
    seen (beside (field 4) (beside (field 2) (field 1)))
    (λ p. record { organisation = p.0; number = p.1.0; priority = p.1.1 })
    _ _
    (λ p f. refl)
    (λ p f. record { organisation = f.0; number = f.1.0; priority = f.1.1 })
    (λ i f. ((i.organisation, (i.number, i.priority)), refl, (f.organisation, (f.number, f.priority))))

pub identifiers_form : Form (λ xs. fills identifier xs ≡ true) (spell_all spell_identifier) (Each FitsIdentifier)
identifiers_form = filled identifier (framed_kind 7 _) (fixed_form 7 (omega arith) identifier_form)
