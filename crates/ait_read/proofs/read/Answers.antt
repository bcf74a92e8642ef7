-- `ait_read::read` meets its contract.
use mathlib.Core.Path.{◌≡◌, sym, ap, ◌∙◌}
use Rattle.std.proofs.Common.{rules, Result, Ok, Err}
use native.Mathlib.Omega.{arith}
use Prim.Native.Nat.{ℕ, ◌/◌, ◌^◌, ◌<◌}
use mathlib.Core.List.{List}
use Rattle.wire.specs.Places.{Place}
use Rattle.wire.specs.Fields.{bits}
use Rattle.wire.proofs.Laws.Fields.{masked_low}
use Rattle.section.specs.declared.Refusal.{Refusal}
use Rattle.section.specs.declared.Header.{Header}
use Rattle.ait_descriptors.specs.declared.Kind.TheVariants.{Application, Descriptor}
use Rattle.ait_read.specs.declared.Table.{Table}
use Rattle.ait_read.specs.Acceptance.{table_judged}
use Rattle.ait_descriptors.specs.Kinds.{count_at}
use Rattle.ait_read.specs.Answers.{read_answer, read_table, number_of_read, read_number}
use Rattle.ait_read.proofs.Laws.Numbers.{read_number_lem}
use Rattle.ait_read.proofs.read.Goals as goal

-- an answer, with its number
numbered : (s : List ℕ) (r : Result Table Refusal) → r ≡ read_answer s → (r ≡ read_answer s) × (number_of_read r ≡ read_number s)
numbered s r e = (e, ap number_of_read e ∙ read_number_lem s)

module _ (s : List ℕ) where
  is-refused : (r : Refusal) → table_judged s ≡ Err r → Err r ≡ read_answer s
  unfolding read_answer
  is-refused r e = rw e

  is-accepted : (h : Header) (t : Table) → table_judged s ≡ Ok h → t ≡ read_table h s → Ok t ≡ read_answer s
  unfolding read_answer
  is-accepted h t e f = rw (e, f)

test-flag : (x : ℕ) → x < 2 ^ 16 → x / 2 ^ 15 ≡ bits 15 1 x
test-flag x k = omega arith

pub returns-in_err-h : goal.returns-in_err-h
returns-in_err-h c =
    let r : c.from_residual.result ≡ Err c.in_err-h.field-0.0 = search rules in
    numbered _ _ (r ∙ is-refused _ _ (sym c.judge.ensures ∙ c.in_err-h.was))

pub returns : goal.returns
unfolding read_table
returns c =
    let s = c.args.s.now in
    let h = c.in_ok-h.h in
    numbered s _ (is-accepted s h _ (sym c.judge.ensures ∙ c.in_ok-h.was) (λ i. record {
      test = test-flag h.extension (omega arith) i;
      application_type = masked_low 15 h.extension i;
      version = h.version;
      section = h.section;
      last = h.last;
      common = (c.count_within.ensures ∙ ap (λ (p : Place). count_at Descriptor p s) c.common_place.ensures) i;
      applications = (c.count_within-2.ensures ∙ ap (λ (p : Place). count_at Application p s) c.loop_place.ensures) i;
    }))
