-- 0x01 as a form: names.
use Prim.Native.Nat.{ℕ, ◌^◌, ◌<◌}
use mathlib.Core.Path.{◌≡◌, refl, sym, ◌∙◌}
use mathlib.Core.Bool.{true}
use mathlib.Core.List.{List, ◌++◌, append_assoc}
use native.Mathlib.Omega.{arith}
use lib.ListN.{length, drop}
use lib.Seq.{get_or-drop}
use Rattle.wire.specs.Fields.{byte_at, field_at, spelled}
use Rattle.wire.specs.Items.{Whole, fills}
use Rattle.wire.proofs.Laws.Fields.{field-one}
use Rattle.wire.proofs.Laws.Frames.{framed_kind}
use Rattle.ait_descriptors.specs.Tag01.{name}
use Rattle.ait_grammar.specs.Bytes.{Bytes, Each, spell_all}
use Rattle.ait_grammar.specs.Tag01.{FitsName, spell_name}
use Rattle.ait_grammar.proofs.Laws.Forms.{Form, when, seen, field, plain}
use Rattle.ait_grammar.proofs.Laws.Followed.{beside, followed}
use Rattle.ait_grammar.proofs.Laws.Framed.{frame}
use Rattle.ait_grammar.proofs.Laws.Repeated.{filled}

name-says : (y : List ℕ) → field_at 1 (drop 3 y) 0 ≡ byte_at y 3
name-says y = field-one (drop 3 y) 0 ∙ get_or-drop 3 y 0 0

name-whole : Form (λ x. Whole name x × Unit {0}) (λ (p : ℕ × List ℕ). (spelled 3 p.0 ++ spelled 1 (length p.1)) ++ p.1) (λ p. ((p.0 < 256 ^ 3) × (length p.1 < 256 ^ 1)) × Bytes p.1)
unfolding beside followed when field
name-whole = frame (beside (field 3) (field 1)) (λ h. plain) (omega arith) (λ x. byte_at x 3) name-says

pub name_form : Form (λ x. Whole name x) spell_name FitsName
unfolding spell_name
name_form =
    seen (when name-whole (λ x. Whole name x) (λ x g. g.0) (λ x b g. (g, tt)))
    (λ p. record { language = p.0; text = p.1 })
    _ _
    (λ p f. sym (append_assoc (spelled 3 p.0) (spelled 1 (length p.1)) p.1))
    (λ p f. record { language = f.0.0; text = (f.0.1, f.1) })
    (λ n f. ((n.language, n.text), refl, ((f.language, f.text.0), f.text.1)))

pub names_form : Form (λ xs. fills name xs ≡ true) (spell_all spell_name) (Each FitsName)
names_form = filled name (framed_kind 4 _) name_form
