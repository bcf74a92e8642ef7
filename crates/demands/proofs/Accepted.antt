-- What DEMAND 2 rests on: each answer from the facts of the section, and the facts from the answer; and the receiver's kinds from the answers.
use Prim.Native.Nat.{ℕ, ◌<◌}
use mathlib.Core.Path.{◌≡◌, refl, sym, ap, subst, ◌∙◌}
use mathlib.Core.Bool.{Bool, true, false, cond, ◌&&◌}
use mathlib.Core.List.{List}
use native.Mathlib.Omega.{arith}
use lib.Dec.{eqb}
use lib.ListN.{length, take, drop}
use borrow.Author.Tests.{eqb-true, ne_eqb, not-false}
use Rattle.wire.specs.Fields.{byte_at}
use Rattle.wire.proofs.Laws.Copies.{same-is, same_refl}
use Rattle.wire.proofs.Laws.Tests.{both, clash}
use Rattle.section.specs.declared.Refusal.{Refusal}
use Rattle.section.specs.declared.Rules.TheVariants.{Application}
use Rattle.section.specs.Header.{header_of, application_table}
use Rattle.section.specs.Answer.{refused, on_checked}
use Rattle.section.proofs.Laws.Exact.{accepted_has}
use Rattle.ait_read.specs.declared.Table.{Table}
use Rattle.ait_read.specs.Acceptance.{table_judged, FormedTable}
use Rattle.ait_read.specs.Answers.{read_answer, read_table}
use Rattle.ait_read.proofs.Laws.Acceptance.{judged_has}
use Rattle.ait_read.proofs.Laws.Exact.{accepted-exactly, read-exactly}
use Rattle.carousel_messages.specs.Heard.{Arrived, Heard, announced, arrived, heard_of}
use Rattle.carousel_messages.specs.Good.{GoodAnnouncement, GoodBlock, said_announcement, said_block}
use Rattle.carousel_messages.proofs.Good.{announcement-says, announcement-heard, block-says, block-heard}
use Rattle.carousel_record.specs.declared.Carousel.{Carousel}
use Rattle.carousel_record.specs.Record.{record_of, announced_by, module_at, place_of, received, block_at, ruled_of}
use Rattle.carousel_step.specs.Step.{block_refusal, bytes_differ, same_announced, StepOutcome, refusing, matched, on_arrived, on_announced, on_heard, answer_of, stepped_of}
use Rattle.carousel_step.specs.Matching.{Matching, block_matches, heard_matches}
use Rattle.carousel_step.proofs.View.{fits}
use Rattle.carousel_step.proofs.Matching.{matching_means}
use Rattle.carousel_step.proofs.Simulation.{outcome-ruled}
use Rattle.carousel_step.proofs.Exact.{new-exactly, same-exactly, stored-exactly, repeated-exactly, same_means}
use Rattle.carousel_record.proofs.Laws.Places.{number_at, place_is}
use Rattle.carousel_record.proofs.Laws.Rule.{kept, ruled-says}
use Rattle.carousel_step.proofs.Laws.Outcomes.{announced-same, announced-new, matched-clear, matched-same, arrived-good}
use Rattle.receiver.specs.Run.{read_fate, table_fate, carousel_fate, given_of}
use Rattle.receiver.proofs.Laws.Fates.{fate-table, fate-other, fate_tells}
use Rattle.std.proofs.Common.{Result, Ok, Err}
use Rattle.section.specs.Answer.{Checked}
use Rattle.carousel_step.specs.Step.{Answered as Answer}
use Rattle.receiver.specs.Run.{Fate}
use Rattle.carousel_step.specs.declared.Answer.TheVariants as answer
use Rattle.receiver.specs.declared.Kind.TheVariants as kind

-- AN APPLICATION SECTION: whatever table is read, the section is a good one
pub read-good : (s : List ℕ) (t : Table) → read_answer s ≡ Ok t → FormedTable s
unfolding read_answer
read-good s t e = go (table_judged s) refl e
  where
    go : (c : Checked) → table_judged s ≡ c → on_checked c (λ r. Err r) (λ h. Ok (read_table h s)) ≡ Ok t → FormedTable s
    go (Err r) j e = let z : ◌≡◌ {A = ℕ} 0 1 = cc in absurd (omega arith)
    go (Ok h) j e = (accepted-exactly s).0 (j ∙ ap Ok (accepted_has Application s h (judged_has s h j).0).0)

-- ANNOUNCEMENTS AND BLOCKS
module _ (c : Carousel) (s image : List ℕ) where
  -- a record that keeps its rule answers by what was heard
  by-heard : ruled_of c ≡ true → (h : Heard) → heard_of s ≡ h → (stepped_of c s image).answer ≡ answer_of (on_heard (record_of c) image h)
  unfolding stepped_of
  by-heard r h e = ap (λ (o : StepOutcome). answer_of o) (outcome-ruled c s image r) ∙ ap (λ (x : Heard). answer_of (on_heard (record_of c) image x)) e

  module _ (r : ruled_of c ≡ true) (g : GoodAnnouncement s) where
    by_announcement : (o : StepOutcome) → on_announced (record_of c) (said_announcement s) ≡ o → (stepped_of c s image).answer ≡ answer_of o
    unfolding on_heard
    by_announcement o e = by-heard r (announced (said_announcement s)) (announcement-says s g) ∙ ap (λ (x : StepOutcome). answer_of x) e

    pub is-same_announcement : announced_by c ≡ said_announcement s → (stepped_of c s image).answer ≡ Ok answer.Same
    is-same_announcement e = by_announcement _ (announced-same (record_of c) (said_announcement s) ((same_means (announced_by c) (said_announcement s)).1 e))

    pub is-new_announcement : (announced_by c ≡ said_announcement s → ⊥) → (stepped_of c s image).answer ≡ Ok answer.New
    is-new_announcement n = by_announcement _ (announced-new (record_of c) (said_announcement s) (go (same_announced (announced_by c) (said_announcement s)) refl))
      where
        go : (t : Bool) → same_announced (announced_by c) (said_announcement s) ≡ t → t ≡ false
        go true e = absurd (n ((same_means (announced_by c) (said_announcement s)).0 e))
        go false e = refl

  -- what is answered "same" or "new" is what the section says
  pub same-says : (stepped_of c s image).answer ≡ Ok answer.Same → (ruled_of c ≡ true) × GoodAnnouncement s × (announced_by c ≡ said_announcement s)
  same-says e =
      let w = (same-exactly c s image).0 e in
      let h = (announcement-heard s w.1.0).0 w.1.1 in
      (not-false (ruled_of c) w.0.0, h.0, (same_means (announced_by c) w.1.0).0 w.1.2 ∙ sym h.1)

  pub new-says : (stepped_of c s image).answer ≡ Ok answer.New → (ruled_of c ≡ true) × GoodAnnouncement s × (announced_by c ≡ said_announcement s → ⊥)
  new-says e =
      let w = (new-exactly c s image).0 e in
      let h = (announcement-heard s w.1.0).0 w.1.1 in
      (not-false (ruled_of c) w.0.0, h.0, λ q. clash _ ((same_means (announced_by c) w.1.0).1 (q ∙ h.1)) w.1.2)

  -- A BLOCK d that matches block d .block of the module at place i
  abbrev pub At : Arrived → ℕ → Type 0
  At d i = (i < length (announced_by c).modules) × Matching (announced_by c) (length image) i d.block d

  -- passes all of 12 to 16, and i is its module's place
  passes : ruled_of c ≡ true → (d : Arrived) (i : ℕ) → At d i → (block_refusal (announced_by c) (length image) d ≡ 0) × (place_of (announced_by c) d.number ≡ i)
  unfolding heard_matches block_matches
  passes r d i m =
      let u = m.0 in
      let k = (kept (record_of c) (omega arith) (ruled-says c r)).numbers in
      let e = (matching_means (announced_by c) k (length image) i d.block u (arrived d)).1 (d, refl, m.1) in
      let b = both (eqb (block_refusal (announced_by c) (length image) d) 0) (eqb d.number (module_at (announced_by c) i).number && eqb d.block d.block) e in
      (eqb-true _ _ b.0, rw m.1.its_number (place_is (announced_by c).modules i k u))

  -- and one that passes them matches at that place
  matches : (d : Arrived) → block_refusal (announced_by c) (length image) d ≡ 0 → At d (place_of (announced_by c) d.number)
  matches d e =
      let f = fits (announced_by c) (length image) d e in (
        f.found,
        record {
          same_download = sym f.download;
          its_number = sym (number_at d.number (announced_by c).modules f.found);
          announced_version = sym f.version;
          image_holds = f.room;
          this_block = refl;
          one_of_its = f.within;
          its_length = f.whole;
        },
      )

  module _ (r : ruled_of c ≡ true) (g : GoodBlock s) (i : ℕ) (m : At (said_block s) i) where
    by-block : (o : StepOutcome) → matched (record_of c) image i (said_block s) ≡ o → (stepped_of c s image).answer ≡ answer_of o
    unfolding on_heard
    by-block o e =
        let p = passes r (said_block s) i m in
        let q = arrived-good (record_of c) image (said_block s) p.0 ∙ ap (λ (j : ℕ). matched (record_of c) image j (said_block s)) p.1 in
        by-heard r (arrived (said_block s)) (block-says s g) ∙ ap (λ (x : StepOutcome). answer_of x) (q ∙ e)

    pub is-stored : received (record_of c) i (said_block s).block ≡ false → (stepped_of c s image).answer ≡ Ok answer.Stored
    is-stored e = by-block _ (matched-clear (record_of c) image i (said_block s) e)

    pub is_repeated_lem : received (record_of c) i (said_block s).block ≡ true
        → take (length (said_block s).bytes) (drop (block_at (record_of c) i (said_block s).block) image) ≡ (said_block s).bytes
        → (stepped_of c s image).answer ≡ Ok answer.Repeated
    is_repeated_lem e f = by-block _ (matched-same (record_of c) image i (said_block s) e (rw f (same_refl (said_block s).bytes)))

  -- a block that is not refused passes 12 to 16
  passed : ruled_of c ≡ true → (d : Arrived) → heard_of s ≡ arrived d → (x : Answer) → ((n : Refusal) → x ≡ Err n → ⊥) → (stepped_of c s image).answer ≡ x
      → block_refusal (announced_by c) (length image) d ≡ 0
  unfolding on_heard on_arrived
  passed r d h x n e = go (eqb (block_refusal (announced_by c) (length image) d) 0) refl (sym (by-heard r (arrived d) h) ∙ e)
    where
      go : (t : Bool) → eqb (block_refusal (announced_by c) (length image) d) 0 ≡ t
          → answer_of (cond t (matched (record_of c) image (place_of (announced_by c) d.number) d) (refusing (refused (block_refusal (announced_by c) (length image) d)))) ≡ x
          → block_refusal (announced_by c) (length image) d ≡ 0
      go true f e = eqb-true _ _ f
      go false f e = absurd (n _ (sym e))

  abbrev pub Clear : Arrived → Type 0
  Clear d = (i : ℕ) × At d i × (received (record_of c) i d.block ≡ false)

  abbrev pub Marked : Arrived → Type 0
  Marked d = (i : ℕ) × At d i × (received (record_of c) i d.block ≡ true) × (take (length d.bytes) (drop (block_at (record_of c) i d.block) image) ≡ d.bytes)

  pub stored-says : (stepped_of c s image).answer ≡ Ok answer.Stored → (ruled_of c ≡ true) × GoodBlock s × Clear (said_block s)
  stored-says e =
      let w = (stored-exactly c s image).0 e in
      let d = w.1.0 in
      let r = not-false (ruled_of c) w.0.0 in
      let h = (block-heard s d).0 w.1.1 in
      let p = passed r d w.1.1 (Ok answer.Stored) (λ n f. let z : ◌≡◌ {A = ℕ} 0 1 = cc in omega arith) e in
      (r, h.0, subst Clear (sym h.1) (place_of (announced_by c) d.number, matches d p, w.1.2))

  equal : (i : ℕ) (d : Arrived) → bytes_differ (record_of c) image i d ≡ false → take (length d.bytes) (drop (block_at (record_of c) i d.block) image) ≡ d.bytes
  unfolding bytes_differ
  equal i d e = same-is _ _ (not-false _ e)

  pub repeated-says : (stepped_of c s image).answer ≡ Ok answer.Repeated → (ruled_of c ≡ true) × GoodBlock s × Marked (said_block s)
  repeated-says e =
      let w = (repeated-exactly c s image).0 e in
      let d = w.1.0 in
      let r = not-false (ruled_of c) w.0.0 in
      let h = (block-heard s d).0 w.1.1 in
      let p = passed r d w.1.1 (Ok answer.Repeated) (λ n f. let z : ◌≡◌ {A = ℕ} 0 1 = cc in omega arith) e in
      (r, h.0, subst Marked (sym h.1) (place_of (announced_by c) d.number, matches d p, w.1.2, equal (place_of (announced_by c) d.number) d w.1.3))

-- THE RECEIVER'S KINDS
-- the carousel's kinds, of which no table is one
abbrev pub is_carousels : Fate → Bool
is_carousels (Ok (kind.Carousel answer.New)) = true
is_carousels (Ok (kind.Carousel answer.Same)) = true
is_carousels (Ok (kind.Carousel answer.Stored)) = true
is_carousels (Ok (kind.Carousel answer.Repeated)) = true
is_carousels (Ok kind.Table) = false
is_carousels (Err r) = false

read_none : (a : Result Table Refusal) → is_carousels (read_fate a) ≡ false
unfolding read_fate
read_none (Err r) = refl
read_none (Ok t) = refl

no_table : (a : Answer) → carousel_fate a ≡ Ok kind.Table → ⊥
unfolding carousel_fate
no_table (Ok answer.New) e = let z : ◌≡◌ {A = ℕ} 0 1 = cc in omega arith
no_table (Ok answer.Same) e = let z : ◌≡◌ {A = ℕ} 0 1 = cc in omega arith
no_table (Ok answer.Stored) e = let z : ◌≡◌ {A = ℕ} 0 1 = cc in omega arith
no_table (Ok answer.Repeated) e = let z : ◌≡◌ {A = ℕ} 0 1 = cc in omega arith
no_table (Err r) e = let z : ◌≡◌ {A = ℕ} 0 1 = cc in omega arith

fate-good : (s : List ℕ) → table_fate s ≡ Ok kind.Table → FormedTable s
unfolding read_fate
fate-good s e = go (read_answer s) refl e
  where
    go : (a : Result Table Refusal) → read_answer s ≡ a → read_fate a ≡ Ok kind.Table → FormedTable s
    go (Err r) f e = let z : ◌≡◌ {A = ℕ} 0 1 = cc in absurd (omega arith)
    go (Ok t) f e = read-good s t f

module _ (c : Carousel) (s image : List ℕ) where
  pub table-good : (given_of c s image).fate ≡ Ok kind.Table → FormedTable s
  table-good e = go (eqb (byte_at s 0) application_table) refl
    where
      go : (t : Bool) → eqb (byte_at s 0) application_table ≡ t → FormedTable s
      go true f = fate-good s (sym (fate-table c s image f) ∙ e)
      go false f = absurd (no_table (stepped_of c s image).answer (sym (fate-other c s image f) ∙ e))

  pub good-table : FormedTable s → (given_of c s image).fate ≡ Ok kind.Table
  unfolding read_fate
  good-table g = fate-table c s image g.section.table ∙ ap read_fate (read-exactly s g)

  -- one of the carousel's kinds is its answer, and its answer to a section that is no table's is the kind
  pub kind-answer : (x : Answer) → is_carousels (carousel_fate x) ≡ true → (given_of c s image).fate ≡ carousel_fate x → (stepped_of c s image).answer ≡ x
  kind-answer x k e = go (eqb (byte_at s 0) application_table) refl
    where
      go : (t : Bool) → eqb (byte_at s 0) application_table ≡ t → (stepped_of c s image).answer ≡ x
      go true f = absurd (clash (is_carousels (carousel_fate x)) k (ap is_carousels (sym e ∙ fate-table c s image f) ∙ read_none (read_answer s)))
      go false f = fate_tells (stepped_of c s image).answer x (sym (fate-other c s image f) ∙ e)

  pub answer_kind : (x : Answer) → ((header_of s).table ≡ application_table → ⊥) → (stepped_of c s image).answer ≡ x → (given_of c s image).fate ≡ carousel_fate x
  answer_kind x n e = fate-other c s image (ne_eqb (byte_at s 0) application_table n) ∙ ap carousel_fate e
