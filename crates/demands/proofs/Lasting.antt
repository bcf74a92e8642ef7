-- What a run leaves of a module that it keeps, and what a run that does not keep it has in it: the lemmas behind Whole.antt.
use Prim.Native.Nat.{ℕ, zero, suc, ◌+◌, ◌-◌, ◌*◌, ◌≤◌, ◌<◌}
use mathlib.Core.Path.{◌≡◌, refl, sym, ap, subst, ◌∙◌}
use mathlib.Core.Bool.{Bool, true, false, cond, ◌&&◌}
use mathlib.Core.Logic.{◌↔◌, ◌⊎◌, inl, inr}
use mathlib.Core.List.{List, [], ◌∷◌, ◌++◌, append_assoc}
use native.Mathlib.Omega.{arith}
use lib.Dec.{ltb}
use lib.ListN.{length, take, drop}
use lib.Seq.{get_or-take, get_or-drop}
use borrow.Author.Tests.{lt-ltb, le-ltb, ltb-true, ltb-false, not-true, not-false}
use Rattle.wire.specs.Fields.{byte_at}
use Rattle.wire.specs.Tests.{first_met}
use Rattle.wire.proofs.Laws.Tests.{clash}
use Rattle.carousel_messages.specs.Limits.{most_blocks}
use Rattle.carousel_messages.specs.Heard.{Announced}
use Rattle.carousel_messages.specs.Good.{said_announcement}
use Rattle.carousel_messages.proofs.Good.{announcement-heard}
use Rattle.carousel_record.specs.Blocks.{block_length_of}
use Rattle.carousel_record.specs.Marks.{is_marked, clear_among}
use Rattle.carousel_record.specs.Record.{record_of, module_at, bytes_of, block_length, block_at, missing_of, ruled_of}
use Rattle.carousel_record.specs.Keeping.{same_module, SameModule}
use Rattle.carousel_record.specs.Changes.{unmarked, afresh}
use Rattle.carousel_record.specs.Refusals.{meets13, meets15}
use Rattle.carousel_record.proofs.Laws.Blocks.{some_block}
use Rattle.carousel_record.proofs.Laws.Places.{block-size_pos, size_pos}
use Rattle.carousel_record.proofs.Laws.Rule.{Kept}
use Rattle.carousel_record.proofs.Laws.Keeping.{same_means, same_back}
use Rattle.carousel_handout.specs.declared.Lack.{Lack}
use Rattle.carousel_handout.specs.Calls.{handout_number, handout_place, missing_number, lack_of, report_on, report_of}
use Rattle.carousel_handout.proofs.Exact.{handout-exactly, handout_tests_lem, handout-given}
use Rattle.carousel_handout.proofs.Complete.{complete_means, whole_means, handout_part}
use Rattle.carousel_step.proofs.Views.{Held as Said, Slot, slot}
use Rattle.carousel_step.proofs.View.{slot-marked}
use Rattle.carousel_step.proofs.Renewed.{same_by}
use Rattle.carousel_step.proofs.Steps.{image_length}
use Rattle.receiver.specs.Run.{Held, given, walk}
use Rattle.drift_list.specs.Answers.{list_answer, fix_answer, walk_answer}
use Rattle.demands.specs.Demand.{fate_of, is_new, told, modules, place_now, Announces, blocks, bytes_in, missing_in}
use Rattle.demands.specs.Demand.{is_complete, HasRoom, handout_of, handed_of, same_in, Emptied, keeps_one, keeps_all, Keeps}
use Rattle.demands.specs.Demand.{first_data}
use Rattle.demands.specs.Whole.{is_marked_in, begins_at, StoredAt, missing_count, report_in, StaysWhole, handed_at, ReadAlike}
use Rattle.demands.specs.Whole.{HandsOutAgain, full_image, Dropped, EmptiedBy, Undone, Unfinished, AnswersUnfinished, AtSomePoint}
use Rattle.demands.proofs.Given.{saying, given-steps, new-ruled, renewal}
use Rattle.demands.proofs.Walks.{kept_in, next_rule, keeps-parts, keeps-new, Stays, walk-stays, same_blocks, came_by, left_alone, walk_view}
use Rattle.demands.proofs.After.{emptied-clear, took-first, took-later, bytes-moved, handed_means, complete-number}
use Rattle.demands.proofs.Calls.{walk-both}
use Rattle.demands.proofs.Charts.{image-enough}
use Rattle.std.proofs.Common.{Ok, Err, Some, None}
use Rattle.receiver.specs.Run.{Fate}
use Rattle.receiver.specs.declared.Kind.TheVariants as kind
use Rattle.carousel_step.specs.declared.Answer.TheVariants as answer

-- a byte of equal parts
part-byte : (n a : ℕ) (l m : List ℕ) → take n (drop a l) ≡ take n (drop a m) → (p : ℕ) → a ≤ p → p < a + n → byte_at l p ≡ byte_at m p
part-byte n a l m e p h g = sym (byte l) ∙ ap (λ (w : List ℕ). byte_at w (p - a)) e ∙ byte m
  where
    byte : (w : List ℕ) → byte_at (take n (drop a w)) (p - a) ≡ byte_at w p
    byte w = let q : a + (p - a) ≡ p = omega arith in get_or-take n (drop a w) (p - a) 0 (omega arith) ∙ get_or-drop a w (p - a) 0 ∙ ap (byte_at w) q

-- where no mark goes, no more are clear
fewer-clear : (ws vs : List ℕ) (f g n b : ℕ) → ((q : ℕ) → q < b + n → is_marked ws (f + q) ≡ true → is_marked vs (g + q) ≡ true)
    → length (clear_among vs g b n) ≤ length (clear_among ws f b n)
unfolding clear_among
fewer-clear ws vs f g zero b h = omega arith
fewer-clear ws vs f g (suc n) b h = go (is_marked ws (f + b)) (is_marked vs (g + b)) refl refl (fewer-clear ws vs f g n (suc b) (λ q l. h q (omega arith)))
  where
    go : (t u : Bool) → is_marked ws (f + b) ≡ t → is_marked vs (g + b) ≡ u → length (clear_among vs g (suc b) n) ≤ length (clear_among ws f (suc b) n)
        → length (cond u (clear_among vs g (suc b) n) (b ∷ clear_among vs g (suc b) n)) ≤ length (cond t (clear_among ws f (suc b) n) (b ∷ clear_among ws f (suc b) n))
    go true true p q i = i
    go true false p q i = absurd (clash _ (h b (omega arith) p) q)
    go false true p q i = omega arith
    go false false p q i = omega arith

-- what the hand-out's numbers say of the module, of any record
module _ (x : Held) (k : ℕ) where
  thirteen_means : handout_of x k ≡ 13 → Dropped x k
  unfolding meets13
  thirteen_means e = ltb-false _ _ (not-true _ (sym (handout_tests_lem x.state x.image k).1 ∙ ((handout-exactly x.state x.image k 13 (omega arith)).0 e).0))

  twenty_means : handout_of x k ≡ 20 → is_complete x k ≡ false
  twenty_means e = not-true _ (sym (handout_tests_lem x.state x.image k).3 ∙ ((handout-exactly x.state x.image k 20 (omega arith)).0 e).0)

  pub number_unfinished : AnswersUnfinished k x → Unfinished k x
  number_unfinished (inl e) = inr (twenty_means e)
  number_unfinished (inr e) = inl (thirteen_means e)

  never-13 : Announces x k → handout_of x k ≡ 13 → ⊥
  never-13 u e = let d = thirteen_means e in omega arith

  never-20 : is_complete x k ≡ true → handout_of x k ≡ 20 → ⊥
  never-20 c e = clash _ c (twenty_means e)

-- the missing report of an announced module
report-is : (x : Held) (k : ℕ) → ruled_of x.state ≡ true → Announces x k → report_in x k ≡ report_on (missing_in x k)
unfolding report_of missing_number first_met meets13
report-is x k r u = rw (r, lt-ltb _ _ u)

report-lacks : (bs cs : List ℕ) → length bs ≤ length cs → (l : Lack) → report_on bs ≡ Ok (Some l) → (m : Lack) × (report_on cs ≡ Ok (Some m)) × (l.count ≤ m.count)
unfolding report_on
report-lacks [] cs h l e = let z : ◌≡◌ {A = ℕ} 0 1 = cc in absurd (omega arith)
report-lacks (b ∷ bs) [] h l e = absurd (omega arith)
report-lacks (b ∷ bs) (c ∷ cs) h l e = let f : lack_of (b ∷ bs) ≡ l = cc in let g = ap (λ (w : Lack). w.count) f in (lack_of (c ∷ cs), refl, omega arith)

report-falls : (x y : Held) (k : ℕ) → ruled_of x.state ≡ true → Announces x k → ruled_of y.state ≡ true → Announces y k → missing_count y k ≤ missing_count x k
    → (l : Lack) → report_in y k ≡ Ok (Some l) → (m : Lack) × (report_in x k ≡ Ok (Some m)) × (l.count ≤ m.count)
report-falls x y k r u s v h l e =
    let w = report-lacks (missing_in y k) (missing_in x k) h l (sym (report-is y k s v) ∙ e) in
    (w.0, report-is x k r u ∙ w.1, w.2)

-- OF A RECORD THAT KEEPS ITS RULE
module _ (x : Held) (k : ℕ) (r : ruled_of x.state ≡ true) (u : Announces x k) (ss : List (List ℕ)) (n : Keeps x k ss) where
  abbrev y : Held
  y = walk x ss

  still : Stays x k y
  still = walk-stays x k r u ss n

  as_many_lem : blocks y k ≡ blocks x k
  as_many_lem = same_blocks x k y still.same

  view-stays : (b : ℕ) → b < blocks x k → is_marked_in x k b ≡ true → slot (saying y) (place_now y k) b ≡ slot (saying x) (place_now x k) b
  view-stays b l m = walk_view x k b r u l ss n ∙ left_alone (came_by x k b ss) (first_data x k ss b) (slot (saying x) (place_now x k) b) (slot-marked (saying x) (place_now x k) b ∙ m)

  never-unmarked : (b : ℕ) → b < blocks x k → is_marked_in x k b ≡ true → is_marked_in y k b ≡ true
  never-unmarked b l m = sym (slot-marked (saying y) (place_now y k) b) ∙ ap (λ (v : Slot). v.marked) (view-stays b l m) ∙ slot-marked (saying x) (place_now x k) b ∙ m

  -- a block's place does not move
  begins_stay : (b : ℕ) → begins_at y k b ≡ begins_at x k b
  unfolding block_at
  begins_stay b = sym (λ i. still.same.start i + b * still.same.block_size i)

  length-stays : (b : ℕ) → block_length (told y) (place_now y k) b ≡ block_length (told x) (place_now x k) b
  length-stays b = sym (λ i. block_length_of (still.same.block_size i) (still.same.size i) b)

  bytes-there : (b : ℕ) → b < blocks x k → is_marked_in x k b ≡ true
      → take (block_length (told x) (place_now x k) b) (drop (begins_at x k b) y.image) ≡ take (block_length (told x) (place_now x k) b) (drop (begins_at x k b) x.image)
  unfolding slot
  bytes-there b l m = sym (λ i. take (length-stays b i) (drop (begins_stay b i) y.image)) ∙ ap (λ (v : Slot). v.bytes) (view-stays b l m)

  never_changed_lem : (p : ℕ) → StoredAt x k p → StoredAt y k p × (byte_at y.image p ≡ byte_at x.image p)
  never_changed_lem p w =
      let b = w.block in
      let c = as_many_lem in
      let h = begins_stay b in
      let g = length-stays b in
      let f = w.from in
      let t = w.until in
      let o = w.one_of_its in (
        record { block = b; one_of_its = omega arith; marked = never-unmarked b o w.marked; from = omega arith; until = omega arith },
        part-byte (block_length (told x) (place_now x k) b) (begins_at x k b) y.image x.image (bytes-there b o w.marked) p f t,
      )

  never-rises : missing_count y k ≤ missing_count x k
  unfolding missing_of
  never-rises =
      let h = fewer-clear x.state.marks y.state.marks (most_blocks * place_now x k) (most_blocks * place_now y k) (blocks x k) 0 (λ q l. never-unmarked q (omega arith)) in
      subst (λ (m : ℕ). length (clear_among y.state.marks (most_blocks * place_now y k) 0 m) ≤ missing_count x k) (sym as_many_lem) h

  report-never-rises : (l : Lack) → report_in y k ≡ Ok (Some l) → (m : Lack) × (report_in x k ≡ Ok (Some m)) × (l.count ≤ m.count)
  report-never-rises l e = report-falls x y k r u still.ruled still.same.now never-rises l e

  all-marked : is_complete x k ≡ true → (b : ℕ) → b < blocks x k → is_marked_in x k b ≡ true
  all-marked c = (complete_means (record_of x.state) (place_now x k)).0 c

  stays-complete : is_complete x k ≡ true → is_complete y k ≡ true
  stays-complete c =
      let m = as_many_lem in
      (complete_means (record_of y.state) (place_now y k)).1 (λ b l. let q : b < blocks x k = omega arith in never-unmarked b q (all-marked c b q))

  report-stays-whole : report_in x k ≡ Ok None → report_in y k ≡ Ok None
  report-stays-whole e =
      let c = (whole_means (record_of x.state) (place_now x k)).0 (sym (report-is x k r u) ∙ e) in
      report-is y k still.ruled still.same.now ∙ (whole_means (record_of y.state) (place_now y k)).1 (stays-complete c)

  -- what a complete module answers
  number-after : is_complete x k ≡ true → handout_of y k ≡ cond (meets15 (told y) (length y.image)) 15 0
  number-after c = complete-number y k still.ruled still.same.now (stays-complete c)

  -- its bytes are the same
  bytes_stay : is_complete x k ≡ true → bytes_in y k ≡ bytes_in x k
  bytes_stay c = bytes-moved x y k r u still.ruled still.same.now as_many_lem (λ b l. view-stays b l (all-marked c b l))

  pub ruled-stays : StaysWhole x k y
  ruled-stays = record {
    announced = still.same.now;
    as_many = as_many_lem;
    never_unmarked = never-unmarked;
    never_changed = never_changed_lem;
    never_rises = never-rises;
    report_never_rises = report-never-rises;
    stays_complete = stays-complete;
    report_stays_whole = report-stays-whole;
    never13 = never-13 y k still.same.now;
    never20 = λ c. never-20 y k (stays-complete c);
  }

-- any record, where nothing changed
pub same_whole : (x : Held) (k : ℕ) → Announces x k → StaysWhole x k x
same_whole x k u = record {
  announced = u;
  as_many = refl;
  never_unmarked = λ b l m. m;
  never_changed = λ p w. (w, refl);
  never_rises = omega arith;
  report_never_rises = λ l e. (l, e, omega arith);
  stays_complete = λ c. c;
  report_stays_whole = λ e. e;
  never13 = never-13 x k u;
  never20 = never-20 x k;
}

pub handed-ruled : (x : Held) (k : ℕ) → handout_of x k ≡ 0 → ruled_of x.state ≡ true
handed-ruled x k e = not-false _ (sym (handout_tests_lem x.state x.image k).0 ∙ (handout-given x.state x.image k).0 e 1)

-- FROM A HAND-OUT ON
module _ (x : Held) (k : ℕ) (handed : handout_of x k ≡ 0) where
  ok : ruled_of x.state ≡ true
  ok = handed-ruled x k handed

  was : Announces x k × HasRoom x × (is_complete x k ≡ true)
  was = (handed_means x k ok).0 handed

  module _ (ss : List (List ℕ)) (n : Keeps x k ss) where
    abbrev z : Held
    z = walk x ss

    stays : Stays x k z
    stays = walk-stays x k ok was.0 ss n

    number : handout_of z k ≡ cond (meets15 (told z) (length z.image)) 15 0
    number = number-after x k ok was.0 ss n was.2

    same_bytes : handout_of z k ≡ 0 → handed_of z k ≡ handed_of x k
    same_bytes e = handout_part z.state z.image k e ∙ bytes_stay x k ok was.0 ss n was.2 ∙ sym (handout_part x.state x.image k handed)

    same_place : handout_of z k ≡ 0 → handed_at z k ≡ handed_at x k
    unfolding handout_place
    same_place e = rw (e, handed) (λ i. Ok (record { start = sym stays.same.start i; size = sym stays.same.size i }))

    read_alike : handout_of z k ≡ 0 → ReadAlike (handed_of z k) (handed_of x k)
    read_alike e =
        let h = same_bytes e in
        record { list = ap list_answer h; each = λ m. ap (λ (s : List ℕ). fix_answer s m) h; walked = λ m. ap (λ (s : List ℕ). walk_answer s m) h }

    either : (t : Bool) → handout_of z k ≡ cond t 15 0 → (handout_of z k ≡ 0) ⊎ (handout_of z k ≡ 15)
    either true e = inr e
    either false e = inl e

    met-15 : (t : Bool) → ◌≡◌ {A = ℕ} (cond t 15 0) 15 → t ≡ true
    met-15 true e = refl
    met-15 false e = absurd (omega (arith, e))

    exactly-15 : (handout_of z k ≡ 15) ↔ (length x.image < bytes_of (told z))
    unfolding meets15
    exactly-15 =
        let l = stays.long in (
          (λ e. let h = ltb-true (length z.image) (bytes_of (told z)) (met-15 _ (sym number ∙ e)) in omega arith),
          (λ h. number ∙ ap (λ (t : Bool). cond t 15 0) (lt-ltb (length z.image) (bytes_of (told z)) (omega arith))),
        )

    never-15 : full_image ≤ length x.image → handout_of z k ≡ 0
    never-15 h =
        let t = stays.same.now in
        let l = stays.long in
        number ∙ ap (λ (t : Bool). cond t 15 0) (image-enough z.state z.image stays.ruled (omega arith) (omega arith))

    pub handed-again : HandsOutAgain x k z
    handed-again = record { equal = λ e. (same_bytes e, same_place e, read_alike e); or15 = either (meets15 (told z) (length z.image)) number; exactly15 = exactly-15; never15 = never-15 }

-- A RUN THAT DOES NOT KEEP THE MODULE has a call that answered "new" and emptied or dropped it
is-new : (f : Fate) → is_new f ≡ true → f ≡ Ok (kind.Carousel answer.New)
is-new (Ok (kind.Carousel answer.New)) e = refl
is-new (Ok kind.Table) e = absurd (clash _ e refl)
is-new (Ok (kind.Carousel answer.Same)) e = absurd (clash _ e refl)
is-new (Ok (kind.Carousel answer.Stored)) e = absurd (clash _ e refl)
is-new (Ok (kind.Carousel answer.Repeated)) e = absurd (clash _ e refl)
is-new (Err n) e = absurd (clash _ e refl)

undone-by : (x : Held) (k : ℕ) (s : List ℕ) → fate_of x s ≡ Ok (kind.Carousel answer.New) → same_in x (given x s) k ≡ false → Dropped (given x s) k ⊎ EmptiedBy x k s
undone-by x k s n o = go (ltb (place_now (given x s) k) (modules (given x s))) refl
  where
    go : (t : Bool) → ltb (place_now (given x s) k) (modules (given x s)) ≡ t → Dropped (given x s) k ⊎ EmptiedBy x k s
    go true e =
        let u = ltb-true _ _ e in
        let em : Emptied (given x s) k = record { before = x; section = s; new = n; left = refl; announces = u; other = o } in
        inr (record { announced = u; other = λ m. clash _ (same_back _ _ _ _ m) o; clear = emptied-clear (given x s) k em })
    go false e = inl (ltb-false _ _ e)

later : (x : Held) (k : ℕ) (s : List ℕ) (ss : List (List ℕ)) → Undone (given x s) k ss → Undone x k (s ∷ ss)
unfolding walk
later x k s ss w = record {
  before = s ∷ w.before;
  section = w.section;
  took = took-later s ss w.before w.section w.took;
  new = w.new;
  undone = w.undone;
}

pub not-kept : (x : Held) (k : ℕ) (ss : List (List ℕ)) → keeps_all x k ss ≡ false → Undone x k ss
unfolding keeps_all walk
not-kept x k [] e = absurd (clash _ refl e)
not-kept x k (s ∷ ss) e = go (is_new (fate_of x s)) (same_in x (given x s) k) refl refl e (λ h. later x k s ss (not-kept (given x s) k ss h))
  where
    go : (t m : Bool) → is_new (fate_of x s) ≡ t → same_in x (given x s) k ≡ m → (cond t m true && keeps_all (given x s) k ss) ≡ false
        → (keeps_all (given x s) k ss ≡ false → Undone x k (s ∷ ss)) → Undone x k (s ∷ ss)
    go true true n f e ih = ih e
    go true false n f e ih =
        let m = is-new (fate_of x s) n in
        record { before = []; section = s; took = took-first s ss; new = m; undone = undone-by x k s m f }
    go false m n f e ih = ih e

-- and a run that has such a call does not keep it
keeps-at : (x : Held) (k : ℕ) (us : List (List ℕ)) (s : List ℕ) (rest : List (List ℕ)) → Keeps x k (us ++ (s ∷ rest)) → keeps_one (walk x us) k s ≡ true
unfolding walk
keeps-at x k [] s rest e = (keeps-parts x k s rest e).0
keeps-at x k (t ∷ us) s rest e = keeps-at (given x t) k us s rest (keeps-parts x k t (us ++ (s ∷ rest)) e).1

pub never_both : (x : Held) (k : ℕ) (ss : List (List ℕ)) → Undone x k ss → Keeps x k ss → ⊥
never_both x k ss w n =
    let o = keeps-at x k w.before w.section w.took.rest (subst (λ (l : List (List ℕ)). Keeps x k l) w.took.whole n) in
    let m = same_means _ _ _ _ (keeps-new (walk x w.before) k w.section o (ap is_new w.new)) in
    elim w.undone [ inl d ↦ absurd (omega (arith, d, m.now)) | inr e ↦ absurd (e.other m) ]

-- AFTER SUCH A CALL the module is unfinished: an announced module has a block
left_unfinished : (x : Held) (k : ℕ) (s : List ℕ) → fate_of x s ≡ Ok (kind.Carousel answer.New) → Dropped (given x s) k ⊎ EmptiedBy x k s → Unfinished k (given x s)
left_unfinished x k s n (inl d) = inl d
left_unfinished x k s n (inr e) = inr (go (is_complete (given x s) k) refl)
  where
    y : Held
    y = given x s

    a : Announced
    a = told y

    rule : Kept (record_of y.state)
    rule = let u = e.announced in kept_in y (next_rule x s (new-ruled x s (ap is_new n))) (omega arith)

    some : 0 < blocks y k
    some = some_block a.block_size (module_at a (place_now y k)).size (block-size_pos a.block_size a.modules rule.limits)
        (size_pos a.block_size a.modules rule.limits (place_now y k) e.announced)

    go : (t : Bool) → is_complete y k ≡ t → is_complete y k ≡ false
    go true c = absurd (clash _ ((complete_means (record_of y.state) (place_now y k)).0 c 0 some) (e.clear 0 some))
    go false c = c

pub undone_unfinished : (x : Held) (k : ℕ) (ss : List (List ℕ)) → Undone x k ss → AtSomePoint (Unfinished k) x ss
unfolding walk
undone_unfinished x k ss w = record {
  sofar = w.before ++ (w.section ∷ []);
  rest = w.took.rest;
  whole = w.took.whole ∙ sym (append_assoc w.before (w.section ∷ []) w.took.rest);
  there = subst (Unfinished k) (sym (walk-both x w.before (w.section ∷ []))) (left_unfinished (walk x w.before) k w.section w.new w.undone);
}

-- and the box says so, where its image is never too short
pub walk-long : (x : Held) (ss : List (List ℕ)) → length (walk x ss).image ≡ length x.image
unfolding walk
walk-long x [] = refl
walk-long x (s ∷ ss) = walk-long (given x s) ss ∙ ap (λ (z : Held). length z.image) (given-steps x s) ∙ image_length x.state s x.image

pub unfinished-number : (y : Held) (k : ℕ) → ruled_of y.state ≡ true → full_image ≤ length y.image → Unfinished k y → AnswersUnfinished k y
unfolding handout_number first_met meets13
unfinished-number y k r l e = go (ltb (place_now y k) (modules y)) refl e
  where
    go : (t : Bool) → ltb (place_now y k) (modules y) ≡ t → Unfinished k y → AnswersUnfinished k y
    go true f (inl d) = absurd (clash _ f (le-ltb _ _ d))
    go true f (inr c) = let u = ltb-true (place_now y k) (modules y) f in inl (rw (r, f, image-enough y.state y.image r (omega arith) l, c))
    go false f w = inr (rw (r, f))

-- WHICH NEW ANNOUNCEMENT KEEPS IT
pub new-keeps-exactly : (x : Held) (k : ℕ) (s : List ℕ) → fate_of x s ≡ Ok (kind.Carousel answer.New)
    → Keeps x k (s ∷ []) ↔ SameModule (record_of x.state) (unmarked (said_announcement s)) k
unfolding keeps_all afresh
new-keeps-exactly x k s n =
    let w = renewal x s (ap is_new n) in
    let a : w.told ≡ said_announcement s = sym ((announcement-heard s w.told).0 w.heard).1 in
    let f : same_in x (given x s) k ≡ same_module (record_of x.state) (unmarked (said_announcement s)) k
    = ap (λ (z : Said). same_module (record_of x.state) z.says k) w.left
    ∙ same_by (record_of x.state) (afresh (record_of x.state) w.told) (record_of x.state) (unmarked w.told) _ _ refl refl refl refl
    ∙ ap (λ (b : Announced). same_module (record_of x.state) (unmarked b) k) a in
    let g : keeps_all x k (s ∷ []) ≡ same_in x (given x s) k = rw n (and_true (same_in x (given x s) k)) in (
      (λ e. same_means _ _ _ _ (sym f ∙ sym g ∙ e)),
      (λ m. g ∙ f ∙ same_back _ _ _ _ m),
    )
  where
    and_true : (t : Bool) → (t && true) ≡ t
    and_true true = refl
    and_true false = refl
