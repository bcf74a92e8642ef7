-- WHAT THE READER'S CALLS ANSWER. 02, §1; 19 for a record past the last (docs/DECISIONS.md).
use Rattle.std.specs.Prelude.{ℕ, ◌+◌, ◌*◌, cond, not, List, Result, eqb, ltb, length}
use Rattle.wire.specs.Outcomes.{answered}
use Rattle.drift_list.specs.declared.Fix.{Fix}
use Rattle.drift_list.specs.declared.Heading.{Heading}
use Rattle.drift_list.specs.Values.{fix_of, refusal_at}
use Rattle.drift_list.specs.Reading.{issue_of, count_of, fix_at, spare_at, read_refusal}

-- what a list begins with
abbrev pub heading_of : List ℕ → Heading
heading_of s = record { issue = issue_of s; count = count_of s }

-- the whole list: its refusal, or issue and count
unfoldable pub list_answer : List ℕ → Result Heading ℕ
list_answer s = answered (read_refusal s) (heading_of s)

-- record k, from 0: the list's own refusal, then 19 past the last
unfoldable pub fix_refusal : List ℕ → ℕ → ℕ
fix_refusal s k = cond (eqb (read_refusal s) 0) (cond (ltb k (count_of s)) 0 19) (read_refusal s)

unfoldable pub fix_answer : List ℕ → ℕ → Result Fix ℕ
fix_answer s k = answered (fix_refusal s k) (fix_of (fix_at s k))

-- THE WALK: record k judged by itself and against the buoy before it, not the whole list. 30, then 19 past the last, then its own refusal.
unfoldable pub walk_refusal : List ℕ → ℕ → ℕ
walk_refusal s k =
    cond (not (eqb (length s) (4 + 12 * count_of s))) 30
    (cond (ltb k (count_of s)) (refusal_at (fix_at s) (spare_at s) k) 19)

unfoldable pub walk_answer : List ℕ → ℕ → Result Fix ℕ
walk_answer s k = answered (walk_refusal s k) (fix_of (fix_at s k))
