-- THE TWO STATEMENTS SAY THE SAME. A body is accepted by the tests of refusals 7 and 18 exactly where it spells a table; and it spells one only.
-- `Bytes b` is what a `&[u8]` always is: a list of numbers below 256.
use Prim.Native.Nat.{ℕ, ◌+◌, ◌-◌}
use mathlib.Core.Path.{◌≡◌, refl, sym, ◌∙◌}
use mathlib.Core.Logic.{◌↔◌}
use mathlib.Core.Bool.{Bool, true, ◌&&◌}
use mathlib.Core.List.{List, [], ◌∷◌, map}
use Rattle.std.proofs.Common.{Ok}
use lib.ListN.{length, drop}
use lib.Dec.{eqb}
use borrow.Author.Tests.{eq-eqb, eqb-true}
use Rattle.wire.specs.Items.{items, fills, every}
use Rattle.wire.proofs.Laws.Steps.{every-both}
use Rattle.wire.proofs.Laws.Tests.{both}
use Rattle.section.specs.Header.{header_of, body_of}
use Rattle.ait_descriptors.specs.Kinds.{application}
use Rattle.ait_descriptors.specs.Descriptor.{descriptor}
use Rattle.ait_body.specs.Body.{common_length, loop_length, common_loop, application_loop, own_loop, good_loop, sole_loop, well_formed, body_refusal, WellFormed}
use Rattle.ait_body.proofs.Laws.Exact as body
use Rattle.ait_read.specs.Acceptance.{table_judged, FormedTable}
use Rattle.ait_read.proofs.Laws.Exact as reading
use Rattle.ait_grammar.specs.Bytes.{Bytes, Each}
use Rattle.ait_grammar.specs.Contents.{spell_descriptor}
use Rattle.ait_grammar.specs.Table.{ApplicationValue, FitsApplication, FitsTable, Sole00, SpelledBody, Spells, TableValue, spell_application, spell_body}
use Rattle.ait_grammar.specs.Good.{GoodTable}
use Rattle.ait_grammar.proofs.Laws.Bytes.{bytes_take, bytes_drop}
use Rattle.ait_grammar.proofs.Laws.Forms.{Form, seen, one_value}
use Rattle.ait_grammar.proofs.Laws.Contents.{loop_form, loop-items}
use Rattle.ait_grammar.proofs.Laws.Sole.{sole_good, sole_form}
use Rattle.ait_grammar.proofs.Laws.Applications.{Formed, body_form, applications-items, both-each}
use Rattle.ait_grammar.proofs.Laws.Loops.{common_loop_lem, application_loop_lem, own_loop_lem}

-- refusal 7 alone
formed_form : Form (Formed good_loop) spell_body (λ t. FitsTable t × Each (λ (a : ApplicationValue). Unit {0}) t.applications)
formed_form = body_form good_loop (λ ds. Unit {0}) (seen loop_form (λ ds. ds) _ _ (λ ds f. refl) (λ ds f. (f, tt)) (λ ds f. (ds, refl, f.0)))

none : (vs : List ApplicationValue) → Each (λ (a : ApplicationValue). Unit {0}) vs
none [] = tt
none (a ∷ vs) = (tt, none vs)

-- 7 and 18
sole-body : Form (Formed sole_good) spell_body (λ t. FitsTable t × Each (λ (a : ApplicationValue). Sole00 a.descriptors) t.applications)
sole-body = body_form sole_good Sole00 sole_form

module _ (b : List ℕ) where
  abbrev apps : List (List ℕ)
  apps = items application (application_loop b)

  abbrev said : Bool
  said = eqb (4 + common_length b + loop_length b) (length b)

  formed-there : Formed good_loop b → well_formed b ≡ true
  unfolding well_formed
  formed-there f = rw (eq-eqb _ _ f.ends, f.common, f.applications) f.loops

  formed-back : well_formed b ≡ true → Formed good_loop b
  unfolding well_formed
  formed-back w =
      let p = both (said && good_loop (common_loop b) && fills application (application_loop b)) (every (λ a. good_loop (own_loop a)) apps) w in
      let q = both (said && good_loop (common_loop b)) (fills application (application_loop b)) p.0 in
      let r = both said (good_loop (common_loop b)) q.0 in
      record { ends = eqb-true _ _ r.0; common = r.1; applications = q.1; loops = p.1 }

  parted : every (λ a. sole_good (own_loop a)) apps ≡ (every (λ a. good_loop (own_loop a)) apps && every (λ a. sole_loop (own_loop a)) apps)
  parted = every-both (λ a. good_loop (own_loop a)) (λ a. sole_loop (own_loop a)) apps

  accepted-there : Formed sole_good b → body_refusal b ≡ 0
  accepted-there f =
      let p = both (every (λ a. good_loop (own_loop a)) apps) (every (λ a. sole_loop (own_loop a)) apps) (sym parted ∙ f.loops) in
      let w = formed-there (record { ends = f.ends; common = f.common; applications = f.applications; loops = p.0 }) in
      (body.accepted-exactly b).1 ((body.formed-exactly b).0 w, p.1)

  accepted-back : body_refusal b ≡ 0 → Formed sole_good b
  accepted-back e =
      let g = (body.accepted-exactly b).0 e in
      let f = formed-back ((body.formed-exactly b).1 g.0) in
      record { ends = f.ends; common = f.common; applications = f.applications; loops = parted ∙ rw f.loops g.1 }

  -- THERE: what spells a table is accepted
  pub there : SpelledBody b → body_refusal b ≡ 0
  there s = accepted-there (rw s.1.spelt (sole-body.good s.0 (s.1.fits, s.1.sole)))

  -- BACK: what is accepted spells a table
  pub back : Bytes b → body_refusal b ≡ 0 → SpelledBody b
  back y e =
      let g = accepted-back e in
      let f = sole-body.fits b y g in
      (sole-body.read b, record { fits = f.0; spelt = sym (sole-body.back b y g); sole = f.1 })

  -- what spells a table is bytes
  pub there-bytes : SpelledBody b → Bytes b
  there-bytes s = rw s.1.spelt (sole-body.bytes s.0 (s.1.fits, s.1.sole))

  -- ACCEPTED EXACTLY WHERE A TABLE IS SPELLED
  pub accepted-exactly : (Bytes b × (body_refusal b ≡ 0)) ↔ SpelledBody b
  accepted-exactly = (λ a. back a.0 a.1, λ s. (there-bytes s, there s))

  -- WELL FORMED EXACTLY WHERE A TABLE THAT FITS IS SPELLED, whatever its 0x00 descriptors: refusal 7 alone
  pub formed-exactly : Bytes b → WellFormed b ↔ ((t : TableValue) × FitsTable t × (b ≡ spell_body t))
  formed-exactly y = (forth, from)
    where
      forth : WellFormed b → (t : TableValue) × FitsTable t × (b ≡ spell_body t)
      forth w =
          let g = formed-back ((body.formed-exactly b).1 w) in
          (formed_form.read b, (formed_form.fits b y g).0, sym (formed_form.back b y g))

      from : (t : TableValue) × FitsTable t × (b ≡ spell_body t) → WellFormed b
      from s = (body.formed-exactly b).0 (formed-there (rw s.2 (formed_form.good s.0 (s.1, none s.0.applications))))

-- ONE TABLE ONLY: two that fit and spell the same body are equal
pub one_table : (t u : TableValue) → FitsTable t → FitsTable u → spell_body t ≡ spell_body u → t ≡ u
one_table t u f g e = one_value formed_form t u (f, none t.applications) (g, none u.applications) e

pub unique : (b : List ℕ) (t u : TableValue) → Spells b t → Spells b u → t ≡ u
unique b t u s r = one_table t u s.fits r.fits (sym s.spelt ∙ r.spelt)

-- WHAT THE CALLS BY PLACE LOOK AT: the items of each loop are the spelled values, in order
module _ (b : List ℕ) (t : TableValue) (s : Spells b t) where
  pub common_are : items descriptor (common_loop b) ≡ map spell_descriptor t.common
  common_are = rw (s.spelt, common_loop_lem t s.fits) (loop-items t.common s.fits.common)

  pub applications_are : items application (application_loop b) ≡ map spell_application t.applications
  applications_are =
      rw (s.spelt, application_loop_lem t s.fits)
      (applications-items sole_good Sole00 sole_form t.applications
      (both-each FitsApplication (λ (a : ApplicationValue). Sole00 a.descriptors) t.applications s.fits.applications s.sole))

pub own_are : (a : ApplicationValue) → FitsApplication a → items descriptor (own_loop (spell_application a)) ≡ map spell_descriptor a.descriptors
own_are a f = rw (own_loop_lem a f) (loop-items a.descriptors f.descriptors)

-- THE WHOLE SECTION
-- what is well formed keeps the clauses of the tests
pub good-formed : (s : List ℕ) → GoodTable s → FormedTable s
good-formed s g = let a = (body.accepted-exactly (body_of s)).0 (there (body_of s) (g.table, g.body)) in record { section = g.section; body = a.0; sole = a.1 }

module _ (s : List ℕ) (y : Bytes s) where
  body_bytes : Bytes (body_of s)
  body_bytes = bytes_take (length s - 12) (drop 8 s) (bytes_drop 8 s y)

  -- and they hold exactly where there are such values
  pub good-exactly : FormedTable s ↔ GoodTable s
  good-exactly = (forth, good-formed s)
    where
      forth : FormedTable s → GoodTable s
      forth g =
          let v = back (body_of s) body_bytes ((body.accepted-exactly (body_of s)).1 (g.body, g.sole)) in
          record { section = g.section; table = v.0; body = v.1 }

  -- ACCEPTED EXACTLY WHEN WELL FORMED
  pub section-exactly : (table_judged s ≡ Ok (header_of s)) ↔ GoodTable s
  section-exactly =
      let a = reading.accepted-exactly s in
      let g = good-exactly in
      (λ e. g.0 (a.0 e), λ h. a.1 (g.1 h))

-- ONE READING: a section says one table
pub one-reading : (s : List ℕ) (g h : GoodTable s) → g.table ≡ h.table
one-reading s g h = unique (body_of s) g.table h.table g.body h.body
