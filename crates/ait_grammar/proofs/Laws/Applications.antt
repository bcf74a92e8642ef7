-- Applications and the body as forms, for any form of an application's own loop: the one without and the one with "exactly one 0x00" are two uses.
use Prim.Native.Nat.{ℕ, ◌+◌, ◌-◌, ◌*◌, ◌^◌, ◌≤◌, ◌<◌}
use mathlib.Core.Path.{◌≡◌, refl, sym, ap, ◌∙◌}
use mathlib.Core.Bool.{Bool, true}
use mathlib.Core.List.{List, [], ◌∷◌, ◌++◌, append_assoc, map}
use native.Mathlib.Omega.{arith}
use lib.ListN.{length, take, drop, length-drop}
use lib.Seq.{drop-drop, length-take-le}
use Rattle.wire.specs.Fields.{field_at, twelve_at, bits, spelled}
use Rattle.wire.specs.Items.{Whole, items, fills, every}
use Rattle.wire.proofs.Laws.Fields.{field_drop, field_take}
use Rattle.wire.proofs.Laws.Frames.{rest_of}
use Rattle.ait_descriptors.specs.Kinds.{application}
use Rattle.ait_descriptors.proofs.Laws.Kinds.{application_kind}
use Rattle.ait_body.specs.Body.{common_length, loop_length, common_loop, application_loop, own_loop, good_loop}
use Rattle.ait_grammar.specs.Bytes.{Each, spell_all}
use Rattle.ait_grammar.specs.Contents.{DescriptorValue, FitsDescriptor, spell_descriptor}
use Rattle.ait_grammar.specs.Table.{ApplicationValue, FitsApplication, FitsTable, TableValue, spell_application, spell_body}
use Rattle.ait_grammar.proofs.Laws.Forms.{Form, when, seen, field}
use Rattle.ait_grammar.proofs.Laws.Followed.{followed, beside}
use Rattle.ait_grammar.proofs.Laws.Repeated.{repeated, all-items}
use Rattle.ait_grammar.proofs.Laws.Framed.{frame}
use Rattle.ait_grammar.proofs.Laws.Sized.{counting12, in12, ends12}
use Rattle.ait_grammar.proofs.Laws.Contents.{loop_form}

-- organisation, number, code, reserved
abbrev Head : Type 0
Head = ℕ × (ℕ × (ℕ × ℕ))

abbrev spell_head : Head × ℕ → List ℕ
spell_head p = spelled 4 p.0.0 ++ (spelled 2 p.0.1.0 ++ (spelled 1 p.0.1.1.0 ++ spelled 2 (p.0.1.1.1 * 4096 + p.1)))

abbrev FitsHead : Head × ℕ → Type 0
FitsHead p = (p.0.0 < 256 ^ 4) × ((p.0.1.0 < 256 ^ 2) × ((p.0.1.1.0 < 256 ^ 1) × ((p.0.1.1.1 < 16) × (p.1 < 4096))))

head_form : Form (λ x. length x ≡ 9) spell_head FitsHead
head_form =
    seen (beside (field 4) (beside (field 2) (beside (field 1) counting12)))
    (λ p. ((p.0, (p.1.0, (p.1.1.0, p.1.1.1.0))), p.1.1.1.1))
    _ _
    (λ p f. refl)
    (λ p f. f)
    (λ p f. ((p.0.0, (p.0.1.0, (p.0.1.1.0, (p.0.1.1.1, p.1)))), refl, f))

head-says : (y : List ℕ) → (head_form.read y).1 ≡ twelve_at y 7
unfolding head_form seen beside followed when field counting12
head-says y =
    let a : field_at 2 (drop 1 (drop 2 (drop 4 y))) 0 ≡ field_at 2 y 7 = field_drop 2 (drop 2 (drop 4 y)) 1 0 ∙ field_drop 2 (drop 4 y) 2 1 ∙ field_drop 2 y 4 3 in
    rw a (omega arith)

each_both : {A : Type 0} (F P : A → Type 0) (vs : List A) → Each (λ a. F a × P a) vs → Each F vs × Each P vs
each_both F P [] f = (tt, tt)
each_both F P (v ∷ vs) f = let r = each_both F P vs f.1 in ((f.0.0, r.0), (f.0.1, r.1))

pub both-each : {A : Type 0} (F P : A → Type 0) (vs : List A) → Each F vs → Each P vs → Each (λ a. F a × P a) vs
both-each F P [] f g = tt
both-each F P (v ∷ vs) f g = ((f.0, g.0), both-each F P vs f.1 g.1)

-- a body whose own loops meet a test
pub record Formed (own : List ℕ → Bool) (b : List ℕ) : Type 0 where
  pub ends : 4 + common_length b + loop_length b ≡ length b
  pub common : good_loop (common_loop b) ≡ true
  pub applications : fills application (application_loop b) ≡ true
  pub loops : every (λ a. own (own_loop a)) (items application (application_loop b)) ≡ true

module _ (own : List ℕ → Bool) (P : List DescriptorValue → Type 0) (loop : Form (λ l. own l ≡ true) (spell_all spell_descriptor) (λ ds. Each FitsDescriptor ds × P ds)) where
  abbrev FitsOne : ApplicationValue → Type 0
  FitsOne a = FitsApplication a × P a.descriptors

  application_form : Form (λ x. Whole application x × (own (own_loop x) ≡ true)) spell_application FitsOne
  unfolding spell_application
  application_form =
      seen (frame head_form (λ h. loop) (omega arith) (λ h. twelve_at h 7) head-says)
      (λ p. record { organisation = p.0.0; number = p.0.1.0; code = p.0.1.1.0; reserved = p.0.1.1.1; descriptors = p.1 })
      _ FitsOne
      (λ p f. sym (along (spelled 4 p.0.0) (spelled 2 p.0.1.0) (spelled 1 p.0.1.1.0)
      (spelled 2 (p.0.1.1.1 * 4096 + length (spell_all spell_descriptor p.1))) (spell_all spell_descriptor p.1)))
      (λ p f. (record { organisation = f.0.0; number = f.0.1.0; code = f.0.1.1.0; reserved = f.0.1.1.1.0; descriptors_length = f.0.1.1.1.1; descriptors = f.1.0 }, f.1.1))
      (λ v f. (
        ((v.organisation, (v.number, (v.code, v.reserved))), v.descriptors),
        refl,
        ((f.0.organisation, (f.0.number, (f.0.code, (f.0.reserved, f.0.descriptors_length)))), (f.0.descriptors, f.1)),
      ))
    where
      along : (a b c d e : List ℕ) → (a ++ (b ++ (c ++ d))) ++ e ≡ a ++ (b ++ (c ++ (d ++ e)))
      along a b c d e = append_assoc a (b ++ (c ++ d)) e ∙ ap (λ (l : List ℕ). a ++ l) (append_assoc b (c ++ d) e ∙ ap (λ (l : List ℕ). b ++ l) (append_assoc c d e))

  abbrev GoodApplications : List ℕ → Type 0
  GoodApplications l = (fills application l ≡ true) × (every (λ a. own (own_loop a)) (items application l) ≡ true)

  applications_form : Form GoodApplications (spell_all spell_application) (Each FitsOne)
  applications_form = repeated application application_kind (λ a. own (own_loop a)) application_form

  pub applications-items : (vs : List ApplicationValue) → Each FitsOne vs → items application (spell_all spell_application vs) ≡ map spell_application vs
  applications-items vs f = all-items application application_kind (λ a. own (own_loop a)) application_form vs f

  abbrev upto : List ℕ → ℕ
  upto x = 2 + twelve_at x 0

  abbrev Parts : List ℕ → Type 0
  Parts x = (upto x ≤ length x)
      × ((2 ≤ length (take (upto x) x)) × (twelve_at (take (upto x) x) 0 ≡ length (drop 2 (take (upto x) x))) × (good_loop (drop 2 (take (upto x) x)) ≡ true))
      × ((2 ≤ length (drop (upto x) x)) × (twelve_at (drop (upto x) x) 0 ≡ length (drop 2 (drop (upto x) x))) × GoodApplications (drop 2 (drop (upto x) x)))

  module _ (x : List ℕ) where
    inner : upto x ≤ length x → drop 2 (take (upto x) x) ≡ common_loop x
    inner l = let n : 2 + common_length x - 2 ≡ common_length x = omega arith in sym (rest_of x 2 (common_length x) l) ∙ ap (λ (m : ℕ). take m (drop 2 x)) n

    outer : drop 2 (drop (upto x) x) ≡ application_loop x
    outer = let n : upto x + 2 ≡ 4 + common_length x = omega arith in drop-drop 2 (upto x) x ∙ ap (λ (m : ℕ). drop m x) n

    second : twelve_at (drop (upto x) x) 0 ≡ loop_length x
    second = let n : upto x + 0 ≡ 2 + common_length x = omega arith in ap (bits 0 12) (field_drop 2 x (upto x) 0 ∙ ap (λ (m : ℕ). field_at 2 x m) n)

    first : upto x ≤ length x → twelve_at (take (upto x) x) 0 ≡ common_length x
    first l = ap (bits 0 12) (field_take 2 x (upto x) 0 (omega arith))

    parts-there : Parts x → Formed own x
    parts-there g =
        let d = length-drop (upto x) x in
        let e = length-drop 2 (drop (upto x) x) in
        let s : loop_length x ≡ length (drop 2 (drop (upto x) x)) = sym second ∙ g.2.1 in
        record {
          ends = omega (arith, d, e, s, g.0, g.2.0);
          common = rw (inner g.0) at g.1.2;
          applications = rw outer at g.2.2.0;
          loops = rw outer at g.2.2.1;
        }

    parts-back : Formed own x → Parts x
    parts-back w =
        let l : upto x ≤ length x = omega (arith, w.ends) in
        let t = length-take-le (upto x) x l in
        let c : length (drop 2 (take (upto x) x)) ≡ common_length x = rw length-drop (omega (arith, t)) in
        let d = length-drop (upto x) x in
        let e = length-drop 2 (drop (upto x) x) in
        let n : loop_length x ≡ length (drop 2 (drop (upto x) x)) = omega (arith, d, e, w.ends) in (
          l,
          (omega (arith, t), first l ∙ sym c, rw (inner l) w.common),
          (omega (arith, d, w.ends), second ∙ n, (rw outer w.applications, rw outer w.loops)),
        )

  abbrev FitsWhole : TableValue → Type 0
  FitsWhole t = FitsTable t × Each (λ (a : ApplicationValue). P a.descriptors) t.applications

  -- THE BODY
  pub body_form : Form (Formed own) spell_body FitsWhole
  unfolding spell_body
  body_form =
      seen (when (followed (in12 loop_form) (λ a. in12 applications_form) upto
      (λ a f r. ends12 a.0 (spell_all spell_descriptor a.1) r f.0.0 f.0.1)) (Formed own) parts-there (λ x b g. parts-back x g))
      (λ p. record { reserved_common = p.0.0; common = p.0.1; reserved_loop = p.1.0; applications = p.1.1 })
      _ FitsWhole
      (λ p f. refl)
      (λ p f.
      let q = each_both FitsApplication (λ (a : ApplicationValue). P a.descriptors) p.1.1 f.1.1 in
      (record { reserved_common = f.0.0.0; common_length = f.0.0.1; common = f.0.1; reserved_loop = f.1.0.0; loop_length = f.1.0.1; applications = q.0 }, q.1))
      (λ v f. (
        ((v.reserved_common, v.common), (v.reserved_loop, v.applications)),
        refl,
        (
          ((f.0.reserved_common, f.0.common_length), f.0.common),
          ((f.0.reserved_loop, f.0.loop_length), both-each FitsApplication (λ (a : ApplicationValue). P a.descriptors) v.applications f.0.applications f.1),
        ),
      ))
