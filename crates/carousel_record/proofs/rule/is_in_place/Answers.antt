-- `carousel_record::rule::is_in_place` meets its contract. The invariant: the words left keep to the numbers of blocks left just where all keep to all.
use mathlib.Core.Path.{◌≡◌, refl, sym, ap, ◌∙◌}
use mathlib.Core.List.{List}
use Prim.Native.Nat.{ℕ, ◌+◌, ◌-◌, ◌*◌, ◌≤◌}
use native.Mathlib.Omega.{arith}
use lib.ListN.{length, get_or, take, drop, length-drop}
use lib.Seq.{take_all}
use Rattle.carousel_record.specs.declared.Carousel.{Carousel}
use Rattle.carousel_record.specs.Blocks.{blocks_of}
use Rattle.carousel_record.specs.Marks.{module_words, mark_words, clear_from}
use Rattle.carousel_record.specs.Record.{announced_by, unused}
use Rattle.carousel_record.proofs.Laws.Entries.{place-off, place_kept, marks-done}
use Rattle.carousel_record.proofs.rule.is_in_place.Goals as goal
use Rattle.carousel_record.proofs.rule.is_in_place.Goals.{After-is_clear_from, Start}

enough : (c : Start) → c.args.c.count ≤ length c.args.c.modules
enough c = let e = c.well_formed.0.1.1.1.1.1.0.1.0.1 in omega (arith, c.requires)

all_words : (c : Start) → length c.args.c.marks ≡ mark_words
all_words c = c.well_formed.0.1.1.1.1.1.1.0.1.0.1

abbrev began : After-is_clear_from → Carousel
began c = c.args.c

same : (m n k : ℕ) (ws : List ℕ) → m ≡ n → k ≡ module_words → clear_from m (take k ws) ≡ clear_from n (take module_words ws)
same m n k ws e f = rw (e, f)

-- what the call tells of the words of the module at this place
here-is : (c : After-is_clear_from) → let i = c.loop-i.i in
    c.is_clear_from.result ≡ clear_from (blocks_of (began c).block_size (get_or (began c).modules i unused).size) (take module_words (drop (module_words * i) (began c).marks))
here-is c =
    let i = c.loop-i.i in
    let e : module_words * i + module_words - module_words * i ≡ module_words = omega arith in
    c.is_clear_from.ensures ∙ same _ _ _ _ c.blocks_of.ensures.0 e

pub loop-i-init : goal.loop-i-init
loop-i-init c = (omega arith, refl)

pub slice_bounds-is_clear_from-end : goal.slice_bounds-is_clear_from-end
slice_bounds-is_clear_from-end c = let e = all_words (goal.at.slice_bounds-is_clear_from-end c).Start in omega (arith, e)

pub returns-then-not-is_clear_from : goal.returns-then-not-is_clear_from
unfolding announced_by
returns-then-not-is_clear_from c =
    let r = c.args.c in
    let l = c.loop-i in
    sym (place-off r.modules r.count (enough (goal.at.returns-then-not-is_clear_from c).Start) l.i (omega arith) r.block_size r.marks (sym
    (here-is (goal.at.returns-then-not-is_clear_from c).After-is_clear_from) ∙ c.if-not-is_clear_from.true)) ∙ l.invariant.1

pub loop-i-preserved : goal.loop-i-preserved
loop-i-preserved c =
    let r = c.args.c in
    let l = c.loop-i in (
      omega arith,
      place_kept r.modules r.count (enough (goal.at.loop-i-preserved c).Start) l.i (omega arith) r.block_size r.marks (sym (here-is (goal.at.loop-i-preserved c).After-is_clear_from)
          ∙ c.if-not-is_clear_from.false) ∙ l.invariant.1,
    )

pub slice_bounds-is_clear_from-count-2 : goal.slice_bounds-is_clear_from-count-2
slice_bounds-is_clear_from-count-2 c = let e = all_words (goal.at.slice_bounds-is_clear_from-count-2 c).Start in omega (arith, e, c.requires)

pub slice_bounds-is_clear_from-start-2 : goal.slice_bounds-is_clear_from-start-2
slice_bounds-is_clear_from-start-2 c = let e = all_words (goal.at.slice_bounds-is_clear_from-start-2 c).Start in omega (arith, e, c.requires)

pub returns : goal.returns
unfolding announced_by
returns c =
    let l = c.loop-i in
    let ws = c.args.c.marks in
    let n = c.args.c.count in
    let e : n ≡ l.i = omega arith in
    let d = length-drop (module_words * n) ws in
    c.is_clear_from-2.ensures
    ∙ ap (λ (us : List ℕ). clear_from 0 us) (take_all (length ws - module_words * n) (drop (module_words * n) ws) (omega arith))
    ∙ ap (λ (m : ℕ). clear_from 0 (drop (module_words * m) ws)) e
    ∙ sym (marks-done c.args.c.modules n (enough (goal.at.returns c).Start) l.i (omega arith) c.args.c.block_size (drop (module_words * l.i) ws))
    ∙ l.invariant.1
