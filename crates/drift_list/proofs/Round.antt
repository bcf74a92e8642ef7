-- READER AND WRITER UNDO EACH OTHER, in the calls' own answers.
use Prim.Native.Nat.{ℕ, ◌+◌, ◌*◌, ◌<◌, ◌≤◌}
use mathlib.Core.Path.{◌≡◌, refl, sym, ap, ap₂, subst, ◌∙◌}
use mathlib.Core.Logic.{◌↔◌}
use mathlib.Core.List.{List, ◌++◌}
use native.Mathlib.Omega.{arith}
use lib.ListN.{length, take, drop}
use Rattle.wire.specs.Bits.{AllBytes}
use Rattle.drift_list.specs.declared.Fields.{Fields}
use Rattle.std.proofs.Common.{Ok}
use Rattle.drift_list.specs.Values.{Drift, fix_of, fix_among}
use Rattle.drift_list.specs.Reading.{issue_of, count_of, fix_at, GoodList, read_refusal, fixes_from, read_list, spell_list}
use Rattle.drift_list.specs.Answers.{heading_of, list_answer, fix_answer}
use Rattle.drift_list.specs.Writing.{Draft, fix_given, value_of, write_refusal, write_answer, written_bytes, draft_of}
use Rattle.drift_list.proofs.Laws.Lists.{fixes_length, fixes-at}
use Rattle.drift_list.proofs.Exact.{accepted-exactly, read-write, read-good, out-bytes}
use Rattle.drift_list.proofs.Answers.{list-taken, fix-there}
use Rattle.drift_list.proofs.Writer.{writes-exactly, values-good, written_is, written-first, written_read}
use Rattle.drift_list.proofs.Left.{answer-is}
use Rattle.drift_list.proofs.Rows.{values-again, draft-good}

-- what was written, without what lies past it
abbrev pub written_list : Draft → (out : List ℕ) → List ℕ
written_list d out = take (4 + 12 * d.count) (written_bytes d out)

-- WRITING, THEN READING "gives back issue, count and every record"
module _ (d : Draft) (out : List ℕ) (e : write_refusal d (length out) ≡ 0) where
  abbrev s : List ℕ
  s = written_list d out

  accepted : read_refusal s ≡ 0
  accepted = (written_read d out e).0

  same : read_list s ≡ value_of d
  same = (written_read d out e).1

  issue-again : issue_of s ≡ d.issue
  unfolding read_list value_of
  issue-again = ap (λ (v : Drift). v.issue) same

  fixes-again : fixes_from (count_of s) 0 (fix_at s) ≡ fixes_from d.count 0 (fix_given d.numbers)
  unfolding read_list value_of
  fixes-again = ap (λ (v : Drift). v.fixes) same

  count-again : count_of s ≡ d.count
  count-again = sym (fixes_length (count_of s) 0 (fix_at s)) ∙ ap (λ (fs : List Fields). length fs) fixes-again ∙ fixes_length d.count 0 (fix_given d.numbers)

  fix-again : (k : ℕ) → k < d.count → fix_at s k ≡ fix_given d.numbers k
  fix-again k h =
      let c = count-again in
      let z : 0 + k ≡ k = omega arith in
      ap (fix_at s) (sym z) ∙ sym (fixes-at (count_of s) 0 (fix_at s) k (omega (arith, c, h)))
      ∙ ap (λ (fs : List Fields). fix_among fs k) fixes-again ∙ fixes-at d.count 0 (fix_given d.numbers) k h ∙ ap (fix_given d.numbers) z

  headed : heading_of s ≡ record { issue = d.issue; count = d.count }
  headed i = record { issue = issue-again i; count = count-again i }

  pub written-then-read : (list_answer s ≡ Ok (record { issue = d.issue; count = d.count })) × ((k : ℕ) → k < d.count → fix_answer s k ≡ Ok (fix_of (fix_given d.numbers k)))
  written-then-read = (
    sym (list-taken s (read_refusal s) refl accepted) ∙ ap Ok headed,
    λ k h. let c = count-again in sym (fix-there s (read_refusal s) refl k accepted (omega (arith, c, h))) ∙ ap (λ (f : Fields). Ok (fix_of f)) (fix-again k h),
  )

-- READING, THEN WRITING "gives back the bytes, with no side condition": what was read of an accepted list, given to the writer with room for it, leaves that list, and behind it what was there
module _ (s : List ℕ) (b : AllBytes s) (e : read_refusal s ≡ 0) where
  good : GoodList s
  good = (accepted-exactly s).0 e

  abbrev d : Draft
  d = draft_of (read_list s)

  count-is : d.count ≡ count_of s
  unfolding draft_of read_list
  count-is = fixes_length (count_of s) 0 (fix_at s)

  long : 4 + 12 * d.count ≡ length s
  long = let c = count-is in let x = good.exact in omega (arith, c, x)

  pub taken-again : (room : ℕ) → length s ≤ room → write_refusal d room ≡ 0
  taken-again room h = let l = long in (writes-exactly d room).1 (draft-good (read_list s) (read-good s good), omega (arith, l, h))

  pub read-then-written : (out : List ℕ) → length s ≤ length out → (write_answer d (length out) ≡ Ok (length s)) × (written_bytes d out ≡ s ++ drop (length s) out)
  read-then-written out h =
      let t = taken-again (length out) h in (
        sym (answer-is d out t) ∙ ap Ok long,
        written_is d out t
            ∙ ap₂ (λ (l : List ℕ) (n : ℕ). l ++ drop n out) (ap spell_list (values-again (read_list s) (read-good s good)) ∙ read-write s b good) long,
      )

-- "SO THE WRITER'S IMAGES ARE EXACTLY THE ACCEPTED LISTS"
pub record Image (s : List ℕ) : Type 0 where
  pub from : Draft
  pub into : List ℕ
  pub taken : write_refusal from (length into) ≡ 0
  pub written : written_list from into ≡ s

pub images : (s : List ℕ) → Image s ↔ (AllBytes s × (read_refusal s ≡ 0))
images s = (there, back)
  where
    there : Image s → AllBytes s × (read_refusal s ≡ 0)
    there i =
        let g = values-good i.from ((writes-exactly i.from (length i.into)).0 i.taken).0 in (
          subst AllBytes (sym (written-first i.from i.into i.taken) ∙ i.written) (out-bytes (value_of i.from) g),
          subst (λ (l : List ℕ). read_refusal l ≡ 0) i.written (written_read i.from i.into i.taken).0,
        )

    back : AllBytes s × (read_refusal s ≡ 0) → Image s
    back w =
        let d = draft_of (read_list s) in
        let g = (accepted-exactly s).0 w.1 in
        let t = taken-again s w.0 w.1 (length s) (omega arith) in
        record {
          from = d;
          into = s;
          taken = t;
          written = written-first d s t ∙ ap spell_list (values-again (read_list s) (read-good s g)) ∙ read-write s w.0 g;
        }
