-- DEMAND 2, as 00 says it:
--
--   "An application section is accepted exactly when it is well formed under ETSI TS 102 809, as narrowed in the paper, and each record read from it is what that text says.
--   Announcements and blocks are judged the same way under ISO/IEC 13818-6, with the paper's narrowings."
--
-- "Well formed" is said for each kind of section in plain facts, none of them a test: `GoodTable` (ait_grammar `Good`: there are values that the body spells; with
-- section `GoodSection`), `GoodAnnouncement` and `GoodBlock` (carousel_messages `Good`). `Bytes s` is what every `&[u8]` is: numbers below 256.
-- What a section says is `said_announcement` and `said_block`, field by field from its bytes; of a table it is
-- the contracts of `read`, `application_at`, `descriptor_at`, `item_at`, `extension_at`, `resolve`, each an equation with the text's own bytes.
-- A number is given exactly in its stated case: the tests of the paper's table stand in its order, with its exception, in `application_tests` and `step_tests`, and `First n`
-- says that the first of them that holds is of n; `None`, that none holds.
--
-- A receiver that refuses everything fails here, and so does one that answers "new" to everything.
use Prim.Native.Nat.{ℕ, ◌<◌}
use mathlib.Core.Path.{◌≡◌, refl, sym, ap, ◌∙◌}
use mathlib.Core.Bool.{true, false}
use mathlib.Core.Logic.{◌↔◌}
use mathlib.Core.List.{List}
use native.Mathlib.Omega.{arith}
use lib.ListN.{length, take, drop}
use Rattle.wire.proofs.Laws.Order.{First, None, first-exactly, none-exactly}
use Rattle.section.specs.declared.Refusal.{Refusal}
use Rattle.section.specs.Header.{header_of}
use Rattle.ait_read.specs.declared.Table.{Table}
use Rattle.ait_read.specs.Acceptance.{application_tests}
use Rattle.ait_read.specs.Answers.{read_answer, read_table, number_of_read, read_number}
use Rattle.ait_read.proofs.Laws.Exact.{rising, read-exactly}
use Rattle.ait_read.proofs.Laws.Numbers.{read_number_lem}
use Rattle.ait_grammar.specs.Bytes.{Bytes}
use Rattle.ait_grammar.specs.Good.{GoodTable}
use Rattle.ait_grammar.proofs.Exact.{good-exactly}
use Rattle.carousel_messages.specs.Good.{GoodAnnouncement, GoodBlock, said_announcement, said_block}
use Rattle.carousel_record.specs.declared.Carousel.{Carousel}
use Rattle.carousel_record.specs.Record.{record_of, announced_by, received, block_at, ruled_of}
use Rattle.carousel_step.specs.Step.{number_of_answer, step_tests, stepped_of}
use Rattle.carousel_step.specs.Matching.{Matching}
use Rattle.carousel_step.proofs.Exact.{step-exactly, step-taken}
use Rattle.carousel_record.proofs.Laws.Tests.{rising_numbered}
use Rattle.receiver.specs.Run.{carousel_fate, given_of, given_number}
use Rattle.receiver.specs.Run.{number_of_fate}
use Rattle.receiver.proofs.Laws.Takes.{given-number}
use Rattle.std.proofs.Common.{Result, Ok}
use Rattle.carousel_step.specs.declared.Answer.TheVariants as answer
use Rattle.receiver.specs.declared.Kind.TheVariants as kind
use Rattle.demands.proofs.Accepted.{
  read-good,
  new-says,
  is-new_announcement,
  same-says,
  is-same_announcement,
  stored-says,
  is-stored,
  repeated-says,
  is_repeated_lem,
  table-good,
  good-table,
  kind-answer,
  answer_kind,
}

-- AN APPLICATION SECTION
module _ (s : List ℕ) where
  -- accepted exactly when well formed, and then with the header's fields and the counts of its loops
  pub table-accepted : Bytes s → (t : Table) → (read_answer s ≡ Ok t) ↔ (GoodTable s × (read_table (header_of s) s ≡ t))
  table-accepted y t =
      let same-said = good-exactly s y in (
        λ e. let g = read-good s t e in (same-said.0 g, same (sym (read-exactly s g) ∙ e)),
        λ w. read-exactly s (same-said.1 w.0) ∙ ap Ok w.1,
      )
    where
      same : ◌≡◌ {A = Result Table Refusal} (Ok (read_table (header_of s) s)) (Ok t) → read_table (header_of s) s ≡ t
      same e = cc

  pub table-number : (n : ℕ) → 0 < n → (number_of_read (read_answer s) ≡ n) ↔ First n (application_tests s)
  unfolding read_number
  table-number n p = rw (read_number_lem s) (first-exactly (application_tests s) n p)

  pub table_taken : (number_of_read (read_answer s) ≡ 0) ↔ None (application_tests s)
  unfolding read_number
  table_taken = rw (read_number_lem s) (none-exactly (application_tests s) (rising_numbered 0 (application_tests s) (rising s)))

-- ANNOUNCEMENTS AND BLOCKS: one section, for any record and any image
module _ (c : Carousel) (s image : List ℕ) where
  -- "new" exactly to a well-formed announcement that is not the record's own, "same" exactly to one that is
  pub new-accepted : ((stepped_of c s image).answer ≡ Ok answer.New) ↔ ((ruled_of c ≡ true) × GoodAnnouncement s × (announced_by c ≡ said_announcement s → ⊥))
  new-accepted = (new-says c s image, λ w. is-new_announcement c s image w.0 w.1 w.2)

  pub same-accepted : ((stepped_of c s image).answer ≡ Ok answer.Same) ↔ ((ruled_of c ≡ true) × GoodAnnouncement s × (announced_by c ≡ said_announcement s))
  same-accepted = (same-says c s image, λ w. is-same_announcement c s image w.0 w.1 w.2)

  -- what a block says matches block b of the module at place i of the record's announcement
  abbrev pub MatchesAt : ℕ → Type 0
  MatchesAt i = (i < length (announced_by c).modules) × Matching (announced_by c) (length image) i (said_block s).block (said_block s)

  -- "stored" exactly to a well-formed block that matches one that has not come, "repeated" exactly to one that matches one that has, with equal bytes
  pub stored-accepted : ((stepped_of c s image).answer ≡ Ok answer.Stored)
      ↔ ((ruled_of c ≡ true) × GoodBlock s × ((i : ℕ) × MatchesAt i × (received (record_of c) i (said_block s).block ≡ false)))
  stored-accepted = (stored-says c s image, λ w. is-stored c s image w.0 w.1 w.2.0 w.2.1 w.2.2)

  pub repeated-accepted : ((stepped_of c s image).answer ≡ Ok answer.Repeated)
      ↔ ((ruled_of c ≡ true) × GoodBlock s × ((i : ℕ) × MatchesAt i × (received (record_of c) i (said_block s).block ≡ true)
      × (take (length (said_block s).bytes) (drop (block_at (record_of c) i (said_block s).block) image) ≡ (said_block s).bytes)))
  repeated-accepted = (repeated-says c s image, λ w. is_repeated_lem c s image w.0 w.1 w.2.0 w.2.1 w.2.2 w.2.3)

  -- each refusal exactly in its stated case, and none exactly where no case applies
  pub step-number : (n : ℕ) → 0 < n → (number_of_answer (stepped_of c s image).answer ≡ n) ↔ First n (step_tests c s image)
  step-number n p = step-exactly c s image n p

  pub step-accepted : (number_of_answer (stepped_of c s image).answer ≡ 0) ↔ None (step_tests c s image)
  step-accepted = step-taken c s image

  -- THE RECEIVER'S NUMBERS are these tables': of a section with 0x74 the application's, of every other the step's
  pub take-number : number_of_fate (given_of c s image).fate ≡ given_number c s image
  take-number = given-number c s image

  -- THE RECEIVER'S KINDS are these answers': a section is a "table", "new", "same", "stored" or "repeated" exactly where it is accepted as such
  pub kind-table : Bytes s → ((given_of c s image).fate ≡ Ok kind.Table) ↔ GoodTable s
  kind-table y = let same-said = good-exactly s y in (λ e. same-said.0 (table-good c s image e), λ g. good-table c s image (same-said.1 g))

  pub kind-new : ((given_of c s image).fate ≡ Ok (kind.Carousel answer.New)) ↔ ((stepped_of c s image).answer ≡ Ok answer.New)
  unfolding carousel_fate
  kind-new = (kind-answer c s image (Ok answer.New) refl, λ e. answer_kind c s image (Ok answer.New) (λ z. omega (arith, (new-says c s image e).1.table)) e)

  pub kind-same : ((given_of c s image).fate ≡ Ok (kind.Carousel answer.Same)) ↔ ((stepped_of c s image).answer ≡ Ok answer.Same)
  unfolding carousel_fate
  kind-same = (kind-answer c s image (Ok answer.Same) refl, λ e. answer_kind c s image (Ok answer.Same) (λ z. omega (arith, (same-says c s image e).1.table)) e)

  pub kind-stored : ((given_of c s image).fate ≡ Ok (kind.Carousel answer.Stored)) ↔ ((stepped_of c s image).answer ≡ Ok answer.Stored)
  unfolding carousel_fate
  kind-stored = (kind-answer c s image (Ok answer.Stored) refl, λ e. answer_kind c s image (Ok answer.Stored) (λ z. omega (arith, (stored-says c s image e).1.formed.table)) e)

  pub kind_repeated : ((given_of c s image).fate ≡ Ok (kind.Carousel answer.Repeated)) ↔ ((stepped_of c s image).answer ≡ Ok answer.Repeated)
  unfolding carousel_fate
  kind_repeated = (kind-answer c s image (Ok answer.Repeated) refl, λ e. answer_kind c s image (Ok answer.Repeated) (λ z. omega (arith, (repeated-says c s image e).1.formed.table)) e)
