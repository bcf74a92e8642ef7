-- What an answer of `check` says, and when it is given: exactly the stated case.
use Prim.Native.Nat.{ℕ, ◌≤◌, ◌<◌, ◌-◌}
use mathlib.Core.Path.{◌≡◌, refl, sym, ap, ◌∙◌}
use mathlib.Core.Logic.{◌↔◌}
use mathlib.Core.Bool.{Bool, true, false, cond, or-false}
use mathlib.Core.List.{List}
use native.Mathlib.Omega.{arith}
use Rattle.std.proofs.Common.{Ok, Err}
use lib.Dec.{ltb, eqb, lit<, lit≤}
use lib.ListN.{length, take, drop}
use borrow.Author.Tests.{ltb-false, eqb-true, eqb-false, eq-eqb, ne_eqb, not-false}
use Rattle.wire.specs.Tests.{holds, RisingFrom}
use Rattle.wire.proofs.Laws.Tests.{neither, lowest_met, none_met, met-within}
use Rattle.wire.proofs.Laws.Fields.{bits_lt}
use Rattle.section.specs.Crc.{crc_of}
use Rattle.section.specs.Header.{syntax_of, current_of, section_of, last_of, header_of, body_of}
use Rattle.section.specs.Refusals.{meets2, meets3, misframed, meets4, meets5, meets6, tests_by, refusal_by, section_tests, refusal_of, spot_of, GoodSection, Spot}
use Rattle.section.specs.Answer.{number_of_checked, refused_by, checked_by, checked_of}
use Rattle.section.specs.declared.Rules.{Rules}
use Rattle.section.specs.declared.Refusal.{Refusal}
use Rattle.section.specs.declared.Header.{Header}
use Rattle.section.proofs.Laws.Refusals.{past2, sized_has, past3, frame_right, framed_has, past4, past5, past6, is0}

-- Whatever register g is handed in.
module _ (g : ℕ) (rules : Rules) (s : List ℕ) where
  pub rising-by : RisingFrom 0 (tests_by g rules s)
  rising-by = (lit< tt, (lit< tt, (lit< tt, (lit< tt, (lit< tt, tt)))))

  -- test n of the table is the test of that number
  pub tests_by_lem : (holds 2 (tests_by g rules s) ≡ meets2 s) × (holds 3 (tests_by g rules s) ≡ meets3 rules s)
      × (holds 4 (tests_by g rules s) ≡ meets4 rules s) × (holds 5 (tests_by g rules s) ≡ meets5 g) × (holds 6 (tests_by g rules s) ≡ meets6 s)
  unfolding holds
  tests_by_lem = (or-false (meets2 s), or-false (meets3 rules s), or-false (meets4 rules s), or-false (meets5 g), or-false (meets6 s))

  -- the answer's number, and its value where that is 0
  pub number_by : number_of_checked (checked_by g rules s) ≡ refusal_by g rules s
  unfolding checked_by
  number_by = go (eqb (refusal_by g rules s) 0) refl
    where
      go : (b : Bool) → eqb (refusal_by g rules s) 0 ≡ b → number_of_checked (cond b (Ok (header_of s)) (Err (refused_by rules s (refusal_by g rules s)))) ≡ refusal_by g rules s
      go true e = sym (eqb-true _ _ e)
      go false e = refl

  -- what the code answers from the number
  pub refused-by : (refusal_by g rules s ≡ 0 → ⊥) → checked_by g rules s ≡ Err (refused_by rules s (refusal_by g rules s))
  unfolding checked_by
  refused-by n = rw (ne_eqb _ _ n)

  pub refused_as : (n : ℕ) (p : Spot) → n ≡ refusal_by g rules s → p ≡ spot_of rules s n → (n ≡ 0 → ⊥) → Err (record { number = n; place = p }) ≡ checked_by g rules s
  refused_as n p e f z = rw (f, e) (sym (refused-by (λ y. z (e ∙ y))))

  pub accepted-by : refusal_by g rules s ≡ 0 → checked_by g rules s ≡ Ok (header_of s)
  unfolding checked_by
  accepted-by e = rw (eq-eqb _ _ e)

  -- an accepted section has its header and its CRC: 12 bytes at least
  pub accepted-long : (h : Header) → checked_by g rules s ≡ Ok h → 12 ≤ length s
  unfolding refusal_by meets4
  accepted-long h e =
      let z : refusal_by g rules s ≡ 0 = sym number_by ∙ ap number_of_checked e in
      let f = (none_met (tests_by g rules s) rising-by).0 z in
      let l = sized_has s (sym tests_by_lem.0 ∙ f 2) in
      let m = neither (misframed rules s) (ltb (last_of s) (section_of s)) (sym tests_by_lem.2 ∙ f 4) in
      omega (arith, l.1, (framed_has rules s m.0).0)

module _ (rules : Rules) (s : List ℕ) where
  pub rising : RisingFrom 0 (section_tests rules s)
  rising = rising-by (crc_of s) rules s

  pub the_tests : (holds 2 (section_tests rules s) ≡ meets2 s) × (holds 3 (section_tests rules s) ≡ meets3 rules s)
      × (holds 4 (section_tests rules s) ≡ meets4 rules s) × (holds 5 (section_tests rules s) ≡ meets5 (crc_of s)) × (holds 6 (section_tests rules s) ≡ meets6 s)
  the_tests = tests_by_lem (crc_of s) rules s

  pub number_is : number_of_checked (checked_of rules s) ≡ refusal_of rules s
  number_is = number_by (crc_of s) rules s

  -- THE NUMBER IS n EXACTLY WHEN TEST n HOLDS AND NO LOWER ONE DOES
  pub refused-exactly : (n : ℕ) → 0 < n
      → (number_of_checked (checked_of rules s) ≡ n) ↔ ((holds n (section_tests rules s) ≡ true) × ((m : ℕ) → m < n → holds m (section_tests rules s) ≡ false))
  unfolding refusal_by
  refused-exactly n p = rw number_is (lowest_met (section_tests rules s) rising n p)

  -- ACCEPTED EXACTLY WHEN NONE HOLDS, which is to say: when every clause of the paper is kept
  passed : refusal_of rules s ≡ 0 → (meets2 s ≡ false) × (meets3 rules s ≡ false) × (meets4 rules s ≡ false) × (meets5 (crc_of s) ≡ false) × (meets6 s ≡ false)
  unfolding refusal_by
  passed e =
      let f = (none_met (section_tests rules s) rising).0 e in
      let t = the_tests in
      (sym t.0 ∙ f 2, sym t.1 ∙ f 3, sym t.2 ∙ f 4, sym t.3 ∙ f 5, sym t.4 ∙ f 6)

  pub good-exactly : (refusal_of rules s ≡ 0) ↔ GoodSection rules s
  unfolding meets2 meets3 meets4 meets5 meets6
  good-exactly = (there, back)
    where
      bit-one : (x : ℕ) → x < 2 → (x ≡ 0 → ⊥) → x ≡ 1
      bit-one x h n = omega (arith, n)

      there : refusal_of rules s ≡ 0 → GoodSection rules s
      there e =
          let p = passed e in
          let l2 = sized_has s p.0 in
          let l4 = neither (misframed rules s) (ltb (last_of s) (section_of s)) p.2 in
          let f4 = framed_has rules s l4.0 in
          record {
            headed = l2.0;
            exact = l2.1;
            table = not-false _ p.1;
            least = f4.0;
            most = f4.1;
            syntax = bit-one (syntax_of s) (bits_lt 15 1 _) f4.2;
            numbers = ltb-false _ _ l4.1;
            crc = eqb-true _ _ (not-false _ p.3);
            current = bit-one (current_of s) (bits_lt 0 1 _) (eqb-false _ _ p.4);
          }

      back : GoodSection rules s → refusal_of rules s ≡ 0
      back g = sym (is0 (crc_of s) rules s (past2 s g.headed g.exact) (past3 rules s g.table)
          (past4 rules s (frame_right rules s g.least g.most (λ e. omega (arith, g.syntax))) g.numbers) (past5 (crc_of s) g.crc)
          (past6 s (λ e. omega (arith, g.current))))

  -- what a caller reads off the answer
  pub refused-with : (refusal_of rules s ≡ 0 → ⊥) → checked_of rules s ≡ Err (refused_by rules s (refusal_of rules s))
  refused-with = refused-by (crc_of s) rules s

  pub accepted-with : refusal_of rules s ≡ 0 → checked_of rules s ≡ Ok (header_of s)
  accepted-with = accepted-by (crc_of s) rules s

  -- an accepted section is a good one, its header is the section's, and it has its header and its CRC: 12 bytes at least
  pub accepted_has : (h : Header) → checked_of rules s ≡ Ok h → (h ≡ header_of s) × (refusal_of rules s ≡ 0) × GoodSection rules s × (12 ≤ length s)
  accepted_has h e =
      let z : refusal_of rules s ≡ 0 = sym number_is ∙ ap number_of_checked e in
      let a = accepted-with z in
      let g = good-exactly.0 z in
      (cc, z, g, omega (arith, g.exact, g.least))

  -- a refusal is the table's, one of 2 to 6
  pub refused_has : (r : Refusal) → checked_of rules s ≡ Err r → (r ≡ refused_by rules s (refusal_of rules s)) × (2 ≤ refusal_of rules s) × (refusal_of rules s ≤ 6)
  unfolding refusal_by
  refused_has r e =
      let n : refusal_of rules s ≡ 0 → ⊥ = λ z. (let a = accepted-with z in let f : ◌≡◌ {A = ℕ} 0 1 = cc in omega arith) in
      let a = refused-with n in
      let w = met-within 2 6 (section_tests rules s) ((lit≤ tt, lit≤ tt, (lit≤ tt, lit≤ tt, (lit≤ tt, lit≤ tt, (lit≤ tt, lit≤ tt, (lit≤ tt, lit≤ tt, tt)))))) n in
      (cc, w.0, w.1)

  pub accepted-exactly : (checked_of rules s ≡ Ok (header_of s)) ↔ GoodSection rules s
  accepted-exactly = (λ e. (accepted_has (header_of s) e).2, λ g. accepted-with (good-exactly.1 g))

-- the body as code cuts it out of the section
pub body_part : (s : List ℕ) → take (length s - 4 - 8) (drop 8 s) ≡ body_of s
body_part s = let e : length s - 4 - 8 ≡ length s - 12 = omega arith in ap (λ (n : ℕ). take n (drop 8 s)) e
