-- What the fate of a section tells of the answer behind it.
use Prim.Native.Nat.{ℕ}
use mathlib.Core.Path.{◌≡◌, refl, sym, ap, ◌∙◌}
use mathlib.Core.Bool.{true, false}
use mathlib.Core.List.{List}
use lib.Dec.{eqb}
use Rattle.wire.specs.Fields.{byte_at}
use Rattle.section.specs.Header.{application_table}
use Rattle.section.specs.Answer.{refused, on_checked}
use Rattle.ait_read.specs.Acceptance.{table_judged}
use Rattle.ait_read.specs.Answers.{read_table, read_answer}
use Rattle.carousel_record.specs.declared.Carousel.{Carousel}
use Rattle.carousel_step.specs.Step.{stepped_of}
use Rattle.receiver.specs.Run.{read_fate, table_fate, judged_fate, carousel_fate, given_of}
use Rattle.std.proofs.Common.{Ok, Err}
use Rattle.section.specs.Answer.{Checked}
use Rattle.carousel_step.specs.Step.{Answered as Answer}
use Rattle.receiver.specs.Run.{Fate}
use Rattle.receiver.specs.declared.Kind.TheVariants as kind

-- a table's is the reading's, every other's the step's
module _ (c : Carousel) (s image : List ℕ) where
  pub fate-table : eqb (byte_at s 0) application_table ≡ true → (given_of c s image).fate ≡ table_fate s
  unfolding given_of
  fate-table e = rw e

  pub fate-other : eqb (byte_at s 0) application_table ≡ false → (given_of c s image).fate ≡ carousel_fate (stepped_of c s image).answer
  unfolding given_of
  fate-other e = rw e

-- a table's fate needs no more than its judging
pub fate-judged : (s : List ℕ) → judged_fate (table_judged s) ≡ table_fate s
unfolding judged_fate read_fate read_answer
fate-judged s = go (table_judged s)
  where
    go : (x : Checked) → judged_fate x ≡ read_fate (on_checked x (λ r. Err r) (λ h. Ok (read_table h s)))
    go (Err r) = refl
    go (Ok h) = refl

-- no two answers of the carousel have one fate
abbrev answer_in : Fate → Answer
answer_in (Ok (kind.Carousel a)) = Ok a
answer_in (Ok kind.Table) = Err (refused 0)
answer_in (Err r) = Err r

answer-told : (a : Answer) → answer_in (carousel_fate a) ≡ a
unfolding carousel_fate
answer-told (Ok a) = refl
answer-told (Err r) = refl

pub fate_tells : (a b : Answer) → carousel_fate a ≡ carousel_fate b → a ≡ b
fate_tells a b e = sym (answer-told a) ∙ ap answer_in e ∙ answer-told b
