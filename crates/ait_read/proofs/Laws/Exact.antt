-- WHEN A SECTION IS ACCEPTED, AND WHEN EACH NUMBER ANSWERS IT: exactly the stated case.
use Prim.Native.Nat.{ℕ, ◌<◌}
use mathlib.Core.Path.{◌≡◌, refl, sym, ap, ◌∙◌}
use mathlib.Core.Logic.{◌↔◌}
use mathlib.Core.Bool.{Bool, true, false, cond}
use mathlib.Core.List.{List}
use Rattle.std.proofs.Common.{Ok, Err}
use lib.Dec.{eqb, lit<}
use borrow.Author.Tests.{eqb-true, eqb-false}
use Rattle.wire.specs.Tests.{first_met, holds, RisingFrom}
use Rattle.wire.proofs.Laws.Tests.{lowest_met, met_append}
use Rattle.section.specs.declared.Rules.TheVariants.{Application}
use Rattle.section.specs.declared.Refusal.{Refusal}
use Rattle.section.specs.Header.{header_of, body_of}
use Rattle.section.specs.Crc.{crc_of}
use Rattle.section.specs.Refusals.{section_tests, refusal_by, refusal_of}
use Rattle.section.specs.Answer.{number_of_checked}
use Rattle.section.proofs.Laws.Exact as section
use Rattle.ait_body.specs.Body.{body_tests, body_refusal}
use Rattle.ait_body.proofs.Laws.Exact as body
use Rattle.ait_read.specs.declared.Scope.{Scope}
use Rattle.ait_descriptors.specs.declared.Repeated.{Repeated}
use Rattle.ait_read.specs.Acceptance.{application_tests, table_judged, FormedTable}
use Rattle.ait_read.specs.Answers.{located_of, read_table, read_answer, application_answer, descriptor_answer, item_answer, extension_answer, resolve_answer}
use Rattle.ait_read.proofs.Laws.Acceptance.{judged-refused, judged_bad, judged-good, judged_has}

module _ (s : List ℕ) where
  pub rising : RisingFrom 0 (application_tests s)
  rising = (lit< tt, (lit< tt, (lit< tt, (lit< tt, (lit< tt, (lit< tt, (lit< tt, tt)))))))

  joined : first_met (application_tests s) ≡ cond (eqb (refusal_of Application s) 0) (body_refusal (body_of s)) (refusal_of Application s)
  unfolding refusal_by body_refusal
  joined = met_append 0 (section_tests Application s) (body_tests (body_of s)) (section.rising Application s)

  -- the number of the answer is the lowest of 2 to 7 and 18 that applies
  pub number_is : number_of_checked (table_judged s) ≡ first_met (application_tests s)
  number_is = go (eqb (refusal_of Application s) 0) refl ∙ sym joined
    where
      inner : refusal_of Application s ≡ 0 → (t : Bool) → eqb (body_refusal (body_of s)) 0 ≡ t → number_of_checked (table_judged s) ≡ body_refusal (body_of s)
      inner z true e =
          let b = eqb-true (body_refusal (body_of s)) 0 e in
          ap number_of_checked (sym (judged-good (crc_of s) s (header_of s) (section.accepted-with Application s z) b)) ∙ sym b
      inner z false e = ap number_of_checked (sym (judged_bad (crc_of s) s (header_of s) (section.accepted-with Application s z) (eqb-false (body_refusal (body_of s)) 0 e)))

      go : (t : Bool) → eqb (refusal_of Application s) 0 ≡ t → number_of_checked (table_judged s) ≡ cond t (body_refusal (body_of s)) (refusal_of Application s)
      go true e = inner (eqb-true _ _ e) (eqb (body_refusal (body_of s)) 0) refl
      go false e = ap number_of_checked (sym (judged-refused (crc_of s) s _ (section.refused-with Application s (eqb-false _ _ e))))

  -- where none applies, the section is accepted
  pub none_applies : first_met (application_tests s) ≡ 0 → table_judged s ≡ Ok (header_of s)
  none_applies z = go (eqb (refusal_of Application s) 0) refl (sym joined ∙ z)
    where
      go : (t : Bool) → eqb (refusal_of Application s) 0 ≡ t → cond t (body_refusal (body_of s)) (refusal_of Application s) ≡ 0 → table_judged s ≡ Ok (header_of s)
      go true e b = sym (judged-good (crc_of s) s (header_of s) (section.accepted-with Application s (eqb-true _ _ e)) b)
      go false e b = absurd (eqb-false _ _ e b)

  -- THE NUMBER IS n EXACTLY WHEN TEST n HOLDS AND NO LOWER ONE DOES
  pub refused-exactly : (n : ℕ) → 0 < n
      → (number_of_checked (table_judged s) ≡ n) ↔ ((holds n (application_tests s) ≡ true) × ((m : ℕ) → m < n → holds m (application_tests s) ≡ false))
  refused-exactly n p = rw number_is (lowest_met (application_tests s) rising n p)

  -- ACCEPTED EXACTLY WHEN WELL FORMED, and then with the header's fields
  pub accepted-exactly : (table_judged s ≡ Ok (header_of s)) ↔ FormedTable s
  accepted-exactly = (there, back)
    where
      there : table_judged s ≡ Ok (header_of s) → FormedTable s
      there e =
          let g = judged_has s (header_of s) e in
          let b = (body.accepted-exactly (body_of s)).0 g.1 in
          record { section = (section.accepted-exactly Application s).0 g.0; body = b.0; sole = b.1 }

      back : FormedTable s → table_judged s ≡ Ok (header_of s)
      back g = sym (judged-good (crc_of s) s (header_of s) ((section.accepted-exactly Application s).1 g.section) ((body.accepted-exactly (body_of s)).1 (g.body, g.sole)))

  pub read-exactly : FormedTable s → read_answer s ≡ Ok (read_table (header_of s) s)
  unfolding read_answer
  read-exactly g = rw (accepted-exactly.1 g)

  -- A REFUSED SECTION ANSWERS EVERY CALL WITH ITS OWN REFUSAL, passed on as it came
  module _ (r : Refusal) (e : table_judged s ≡ Err r) where
    pub read-refused : read_answer s ≡ Err r
    unfolding read_answer
    read-refused = rw e

    pub application-refused : (i : ℕ) → application_answer s i ≡ Err r
    unfolding application_answer located_of
    application-refused i = rw e

    pub descriptor-refused : (o : Scope) (j : ℕ) → descriptor_answer s o j ≡ Err r
    unfolding descriptor_answer located_of
    descriptor-refused o j = rw e

    pub item_refused : (o : Scope) (j : ℕ) (what : Repeated) (k : ℕ) → item_answer s o j what k ≡ Err r
    unfolding item_answer located_of
    item_refused o j what k = rw e

    pub extension-refused : (o : Scope) (j k m : ℕ) → extension_answer s o j k m ≡ Err r
    unfolding extension_answer located_of
    extension-refused o j k m = rw e

    pub resolve-refused : (i k : ℕ) → resolve_answer s i k ≡ Err r
    unfolding resolve_answer located_of
    resolve-refused i k = rw e
