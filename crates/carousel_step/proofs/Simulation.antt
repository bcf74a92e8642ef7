-- The step over the record as the code holds it is the step over what that record says, and it keeps the rule.
use Prim.Native.Nat.{ℕ, zero, suc, ◌+◌, ◌-◌, ◌≤◌}
use mathlib.Core.Path.{◌≡◌, refl, ap, ◌∙◌}
use mathlib.Core.Bool.{Bool, true, false, cond}
use mathlib.Core.List.{List, [], ◌∷◌, map}
use native.Mathlib.Omega.{arith}
use lib.Dec.{eqb}
use lib.ListN.{length, replicate, length-replicate}
use lib.Seq.{take_at, drop_at}
use borrow.Author.Tests.{eq-eqb, eqb-true, le-leb}
use Rattle.wire.proofs.Laws.Tests.{clash}
use Rattle.wire.specs.Copies.{same_numbers}
use Rattle.section.specs.Answer.{refused}
use Rattle.carousel_messages.specs.declared.Listed.{Listed}
use Rattle.carousel_messages.specs.Limits.{most_modules, beyond10, twice11}
use Rattle.carousel_messages.specs.Heard.{Announced, Heard, refusal, announced, arrived, heard_of, sizes_of, numbers_of}
use Rattle.carousel_messages.proofs.Laws.Heard.{heard_limits}
use Rattle.carousel_record.specs.declared.Carousel.{Carousel}
use Rattle.carousel_record.specs.Marks.{module_words, mark_words}
use Rattle.carousel_record.specs.Record.{Record, listed_in, start_in, announced_by, starts_by, record_of, place_of, sums, within_limits, ruled, unused, all_unused, ruled_of}
use Rattle.carousel_record.specs.Keeping.{marks_kept}
use Rattle.carousel_record.specs.Changes.{empty_record, entries, bare_record, made_afresh, with_mark, unmarked, afresh, marking}
use Rattle.carousel_step.specs.Step.{block_refusal, same_announced, StepOutcome, refusing, new, same, repeated, stored, matched, on_arrived}
use Rattle.carousel_step.specs.Step.{on_announced, on_heard, outcome_of, carousel_after, record_after, stepped_of}
use Rattle.carousel_step.proofs.Views.{is_new}
use Rattle.carousel_record.proofs.Laws.Tests.{joint}
use Rattle.carousel_record.proofs.Laws.Marks.{within-fresh}
use Rattle.carousel_record.proofs.Laws.Places.{few-modules}
use Rattle.carousel_record.proofs.Laws.Rule.{kept, keeps, shaped, ruled-parts, parts-ruled}
use Rattle.carousel_record.proofs.Laws.Keeping.{fresh_kept}
use Rattle.carousel_step.proofs.Laws.Afresh.{entries_length}
use Rattle.carousel_step.proofs.View.{fits, matched-fixed, arrived_old}

-- the entries of a record made afresh
entries-listed : (s : ℕ) (ms : List Listed) → map listed_in (entries s ms) ≡ ms
unfolding entries
entries-listed s [] = refl
entries-listed s (m ∷ ms) = ap (λ (l : List Listed). m ∷ l) (entries-listed (s + m.size) ms)

entries-starts : (s : ℕ) (ms : List Listed) → map start_in (entries s ms) ≡ sums s (sizes_of ms)
unfolding entries sums
entries-starts s [] = refl
entries-starts s (m ∷ ms) = ap (λ (l : List ℕ). s ∷ l) (entries-starts (s + m.size) ms)

-- a record made afresh, and one with a mark set, say what they should
pub says-bare : (a : Announced) → record_of (bare_record a) ≡ unmarked a
unfolding announced_by starts_by bare_record
says-bare a =
    rw (
      take_at (entries 0 a.modules) (replicate (most_modules - length a.modules) unused) (length a.modules) (entries_length 0 a.modules),
      entries-listed 0 a.modules,
      entries-starts 0 a.modules,
    )

pub says-afresh : (c : Carousel) (a : Announced) → record_of (made_afresh c a) ≡ afresh (record_of c) a
unfolding announced_by starts_by made_afresh afresh
says-afresh c a = ap (λ (q : Record). record { announced = q.announced; starts = q.starts; marks = marks_kept (record_of c) q }) (says-bare a)

pub says-marked : (c : Carousel) (k : ℕ) → record_of (with_mark c k) ≡ marking (record_of c) k
unfolding announced_by starts_by with_mark marking
says-marked c k = refl

-- THE SIMULATION: what the record says after a section is what the paper's record is after it
pub says-after : (c : Carousel) (o : StepOutcome) → record_of (carousel_after c o) ≡ record_after (record_of c) o
says-after c (refusing n) = refl
says-after c (new a) = says-afresh c a
says-after c same = refl
says-after c repeated = refl
says-after c (stored k at bytes) = says-marked c k

-- a record that keeps its rule is judged by what it says
pub outcome-ruled : (c : Carousel) (s image : List ℕ) → ruled_of c ≡ true → outcome_of c s image ≡ on_heard (record_of c) image (heard_of s)
unfolding outcome_of
outcome-ruled c s image e = rw e

-- The shape is kept: not too many modules, unused entries zero.
unused_zero : (n : ℕ) → all_unused (replicate n unused) ≡ true
unfolding all_unused
unused_zero zero = refl
unused_zero (suc n) = unused_zero n

fresh-shaped : (c : Carousel) (a : Announced) → length a.modules ≤ most_modules → shaped (made_afresh c a) ≡ true
unfolding made_afresh bare_record
fresh-shaped c a l =
    rw (
      le-leb (length a.modules) most_modules l,
      drop_at (entries 0 a.modules) (replicate (most_modules - length a.modules) unused) (length a.modules) (entries_length 0 a.modules),
    )
    (unused_zero (most_modules - length a.modules))

mark-shaped : (c : Carousel) (k : ℕ) → shaped (with_mark c k) ≡ shaped c
unfolding with_mark
mark-shaped c k = refl

-- what was heard, where it is an announcement, keeps the limits of 10 and 11
abbrev pub Limited : Heard → Type 0
Limited h = (a : Announced) → h ≡ announced a → (beyond10 a.block_size (sizes_of a.modules) ≡ false) × (twice11 (numbers_of a.modules) ≡ false)

-- any outcome but a new announcement keeps the shape
shape_old : (c : Carousel) (o : StepOutcome) → is_new o ≡ false → shaped c ≡ true → shaped (carousel_after c o) ≡ true
unfolding is_new
shape_old c (refusing n) e s = s
shape_old c (new a) e s = absurd (clash _ refl e)
shape_old c same e s = s
shape_old c repeated e s = s
shape_old c (stored k at bytes) e s = mark-shaped c k ∙ s

pub shape-after : (c : Carousel) (image : List ℕ) (h : Heard) → Limited h → shaped c ≡ true → shaped (carousel_after c (on_heard (record_of c) image h)) ≡ true
unfolding on_heard on_announced
shape-after c image (refusal n) l s = s
shape-after c image (announced a) l s = go (same_announced (record_of c).announced a)
  where
    go : (t : Bool) → shaped (carousel_after c (cond t same (new a))) ≡ true
    go true = s
    go false = fresh-shaped c a (few-modules a.block_size a.modules (l a refl).0)
shape-after c image (arrived d) l s = shape_old c (on_arrived (record_of c) image d) (arrived_old (record_of c) image d) s

-- The paper's rule is kept.
pub rule-after : (r : Record) (image : List ℕ) (h : Heard) → Limited h → ruled r ≡ true → ruled (record_after r (on_heard r image h)) ≡ true
unfolding on_heard on_announced on_arrived
rule-after r image (refusal n) l e = e
rule-after r image (announced a) l e = go (same_announced r.announced a)
  where
    go : (t : Bool) → ruled (record_after r (cond t same (new a))) ≡ true
    go true = e
    go false = keeps _ (fresh_kept r e a (l a refl).0 (l a refl).1)
rule-after r image (arrived d) l e = go (eqb (block_refusal r.announced (length image) d) 0) refl
  where
    go : (t : Bool) → eqb (block_refusal r.announced (length image) d) 0 ≡ t
        → ruled (record_after r (cond t (matched r image (place_of r.announced d.number) d) (refusing (refused (block_refusal r.announced (length image) d))))) ≡ true
    go true q =
        let f = fits r.announced (length image) d (eqb-true _ _ q) in
        let u = f.found in
        keeps _ (matched-fixed (record { says = r; image = image }) (kept r (omega arith) e) d f).kept
    go false q = e

-- "Starting gives the empty record", which keeps the rule.
pub empty-ruled : ruled_of empty_record ≡ true
unfolding empty_record ruled within_limits same_numbers sums announced_by starts_by
empty-ruled =
    parts-ruled empty_record (unused_zero most_modules)
    (joint _ _ (joint _ _ (joint _ _ (eq-eqb _ _ (length-replicate {A = ℕ} mark_words 0)) refl) refl) (within-fresh module_words [] mark_words))

-- THE STEP KEEPS THE RULE.
pub step_rule : (c : Carousel) (s image : List ℕ) → ruled_of c ≡ true → ruled_of (stepped_of c s image).state ≡ true
unfolding stepped_of
step_rule c s image e =
    let p = ruled-parts c e in
    let o = on_heard (record_of c) image (heard_of s) in
    let l = heard_limits s in
    let w : ruled_of (carousel_after c o) ≡ true
    = parts-ruled (carousel_after c o) (shape-after c image (heard_of s) l p.0) (ap (λ (r : Record). ruled r) (says-after c o) ∙ rule-after (record_of c) image (heard_of s) l p.1) in
    rw (outcome-ruled c s image e) w
