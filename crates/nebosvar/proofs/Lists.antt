-- Of a drift list too, what a program in C sees as `refusal` is the paper's number, 0 where there is none; and of a list that was judged and accepted, the walk's answers are the records.
use Prim.Native.Nat.{ℕ, zero, suc, ◌+◌, ◌*◌}
use mathlib.Core.Path.{◌≡◌, refl, sym, ap, ◌∙◌}
use mathlib.Core.Bool.{cond}
use mathlib.Core.List.{List}
use lib.Dec.{eqb, ltb}
use Rattle.wire.specs.Outcomes.{answered}
use Rattle.drift_list.specs.declared.Fix.{Fix}
use Rattle.drift_list.specs.declared.Heading.{Heading}
use Rattle.drift_list.specs.Values.{fix_of}
use Rattle.drift_list.specs.Reading.{count_of, fix_at, read_refusal}
use Rattle.drift_list.specs.Answers.{heading_of, list_answer, fix_refusal, fix_answer, walk_refusal, walk_answer}
use Rattle.drift_list.specs.Writing.{Draft, write_refusal, write_answer}
use Rattle.drift_list.proofs.Walk.{walk_agrees}
use Rattle.nebosvar.specs.Drift.{list_out, fix_out, written_out}

-- a refusal's number stands beside what an answer says
refused-list : (n : ℕ) (h : Heading) → (list_out (answered n h)).refusal ≡ n
refused-list zero h = refl
refused-list (suc n) h = refl

refused-fix : (n : ℕ) (f : Fix) → (fix_out (answered n f)).refusal ≡ n
refused-fix zero f = refl
refused-fix (suc n) f = refl

refused-size : (n size : ℕ) → (written_out (answered n size)).refusal ≡ n
refused-size zero size = refl
refused-size (suc n) size = refl

pub list-refusal : (s : List ℕ) → (list_out (list_answer s)).refusal ≡ read_refusal s
unfolding list_answer
list-refusal s = refused-list (read_refusal s) (heading_of s)

-- of a record: the list's, then 19
pub record-refusal : (s : List ℕ) (k : ℕ) → (fix_out (fix_answer s k)).refusal ≡ cond (eqb (read_refusal s) 0) (cond (ltb k (count_of s)) 0 19) (read_refusal s)
unfolding fix_answer fix_refusal
record-refusal s k = refused-fix (fix_refusal s k) (fix_of (fix_at s k))

pub walk-refusal : (s : List ℕ) (k : ℕ) → (fix_out (walk_answer s k)).refusal ≡ walk_refusal s k
unfolding walk_answer
walk-refusal s k = refused-fix (walk_refusal s k) (fix_of (fix_at s k))

pub write-refusal : (d : Draft) (room : ℕ) → (written_out (write_answer d room)).refusal ≡ write_refusal d room
unfolding write_answer
write-refusal d room = refused-size (write_refusal d room) (4 + 12 * d.count)

-- where nebosvar_list_read answers 0, nebosvar_list_walk answers what nebosvar_list_record does, at every place
pub walk-is_record : (s : List ℕ) (k : ℕ) → (list_out (list_answer s)).refusal ≡ 0 → fix_out (walk_answer s k) ≡ fix_out (fix_answer s k)
walk-is_record s k e = ap fix_out (walk_agrees s k (sym (list-refusal s) ∙ e))
