-- The loops of a spelled body, and the fields of a spelled application: what the calls by place look at are the spelled values.
use Prim.Native.Nat.{ℕ, ◌+◌, ◌*◌, ◌^◌, ◌<◌}
use mathlib.Core.Path.{◌≡◌, sym, ap, ◌∙◌}
use mathlib.Core.List.{List, ◌++◌, append_assoc}
use native.Mathlib.Nat.{mod-eq_of_lt}
use native.Mathlib.Omega.{arith}
use lib.ListN.{length, take, drop, length-append}
use lib.Seq.{take_at, drop_at, drop-drop}
use Rattle.wire.specs.Fields.{byte_at, field_at, sixteen_at, thirty_two_at, spelled}
use Rattle.wire.proofs.Laws.Fields.{field_drop, field-one, spelled_length, spelled-reads}
use Rattle.ait_body.specs.Body.{common_length, common_loop, application_loop, own_loop}
use Rattle.ait_grammar.specs.Bytes.{sized12, spell_all}
use Rattle.ait_grammar.specs.Contents.{spell_descriptor}
use Rattle.ait_grammar.specs.Table.{ApplicationValue, FitsApplication, FitsTable, TableValue, spell_application, spell_body}
use Rattle.ait_grammar.proofs.Laws.Sized.{ends12}

-- a field behind k bytes
pub behind : (n v k : ℕ) (p r : List ℕ) → v < 256 ^ n → length p ≡ k → field_at n (p ++ (spelled n v ++ r)) k ≡ v
behind n v k p r l e =
    let z : k + 0 ≡ k = omega arith in
    ap (λ (i : ℕ). field_at n (p ++ (spelled n v ++ r)) i) (sym z)
    ∙ sym (field_drop n (p ++ (spelled n v ++ r)) k 0)
    ∙ ap (λ (x : List ℕ). field_at n x 0) (drop_at p (spelled n v ++ r) k e)
    ∙ spelled-reads n v r
    ∙ mod-eq_of_lt l

module _ (t : TableValue) (f : FitsTable t) where
  abbrev common : List ℕ
  common = spell_all spell_descriptor t.common

  abbrev loop : List ℕ
  loop = spell_all spell_application t.applications

  abbrev back : List ℕ
  back = sized12 t.reserved_loop loop

  upto : 2 + common_length (spell_body t) ≡ length (sized12 t.reserved_common common)
  unfolding spell_body
  upto = ends12 t.reserved_common common back f.reserved_common f.common_length

  two : length (sized12 t.reserved_common common) ≡ 2 + length common
  two = let l = spelled_length 2 (t.reserved_common * 4096 + length common) in rw length-append (omega arith)

  pub common_loop_lem : common_loop (spell_body t) ≡ common
  unfolding spell_body
  common_loop_lem =
      let h : List ℕ = spelled 2 (t.reserved_common * 4096 + length common) in
      let d : drop 2 (spell_body t) ≡ common ++ back = ap (drop 2) (append_assoc h common back) ∙ drop_at h (common ++ back) 2 (spelled_length 2 (t.reserved_common * 4096 + length common)) in
      let l : length common ≡ common_length (spell_body t) = omega (arith, upto, two) in
      ap (take (common_length (spell_body t))) d ∙ take_at common back (common_length (spell_body t)) l

  pub application_loop_lem : application_loop (spell_body t) ≡ loop
  unfolding spell_body
  application_loop_lem =
      let n : 4 + common_length (spell_body t) ≡ 2 + common_length (spell_body t) + 2 = omega arith in
      ap (λ (k : ℕ). drop k (spell_body t)) n
      ∙ sym (drop-drop 2 (2 + common_length (spell_body t)) (spell_body t))
      ∙ ap (drop 2) (drop_at (sized12 t.reserved_common common) back (2 + common_length (spell_body t)) (sym upto))
      ∙ drop_at (spelled 2 (t.reserved_loop * 4096 + length loop)) loop 2 (spelled_length 2 (t.reserved_loop * 4096 + length loop))

module _ (a : ApplicationValue) (f : FitsApplication a) where
  abbrev own : List ℕ
  own = sized12 a.reserved (spell_all spell_descriptor a.descriptors)

  six : length (spelled 4 a.organisation ++ spelled 2 a.number) ≡ 6
  six = let l = spelled_length 4 a.organisation in let m = spelled_length 2 a.number in rw length-append (omega arith)

  -- the numbers of an application
  pub organisation-said : thirty_two_at (spell_application a) 0 ≡ a.organisation
  unfolding spell_application
  organisation-said = spelled-reads 4 a.organisation (spelled 2 a.number ++ (spelled 1 a.code ++ own)) ∙ mod-eq_of_lt f.organisation

  pub number-said : sixteen_at (spell_application a) 4 ≡ a.number
  unfolding spell_application
  number-said = behind 2 a.number 4 (spelled 4 a.organisation) (spelled 1 a.code ++ own) f.number (spelled_length 4 a.organisation)

  pub code-said : byte_at (spell_application a) 6 ≡ a.code
  unfolding spell_application
  code-said =
      sym (field-one (spell_application a) 6)
      ∙ ap (λ (x : List ℕ). field_at 1 x 6) (sym (append_assoc (spelled 4 a.organisation) (spelled 2 a.number) (spelled 1 a.code ++ own)))
      ∙ behind 1 a.code 6 (spelled 4 a.organisation ++ spelled 2 a.number) own f.code six

  -- and its own loop
  pub own_loop_lem : own_loop (spell_application a) ≡ spell_all spell_descriptor a.descriptors
  unfolding spell_application
  own_loop_lem =
      let o : List ℕ = spelled 4 a.organisation in
      let n : List ℕ = spelled 2 a.number in
      let c : List ℕ = spelled 1 a.code in
      let r : List ℕ = spelled 2 (a.reserved * 4096 + length (spell_all spell_descriptor a.descriptors)) in
      sym (drop-drop 5 4 (spell_application a))
      ∙ ap (drop 5) (drop_at o (n ++ (c ++ own)) 4 (spelled_length 4 a.organisation))
      ∙ sym (drop-drop 3 2 (n ++ (c ++ own)))
      ∙ ap (drop 3) (drop_at n (c ++ own) 2 (spelled_length 2 a.number))
      ∙ sym (drop-drop 2 1 (c ++ own))
      ∙ ap (drop 2) (drop_at c own 1 (spelled_length 1 a.code))
      ∙ drop_at r (spell_all spell_descriptor a.descriptors) 2 (spelled_length 2 (a.reserved * 4096 + length (spell_all spell_descriptor a.descriptors)))
