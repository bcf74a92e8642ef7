-- What a run leaves of a module that it keeps, block by block, from the announcement that emptied it: the lemmas behind the statements of demand 3.
use Prim.Native.Nat.{ℕ, zero, suc, ◌+◌, ◌*◌, ◌<◌}
use mathlib.Core.Path.{◌≡◌, refl, sym, ap, ◌∙◌}
use mathlib.Core.Logic.{◌↔◌}
use mathlib.Core.Bool.{Bool, true, false, cond, ◌&&◌}
use mathlib.Core.List.{List, [], ◌∷◌, ◌++◌}
use native.Mathlib.Omega.{arith}
use lib.ListN.{length}
use borrow.Author.Tests.{lt-ltb, le-ltb, ltb-true, ltb-false, not-false}
use Rattle.wire.specs.Tests.{first_met}
use Rattle.wire.proofs.Laws.Tests.{clash}
use Rattle.wire.proofs.Laws.Order.{none-exactly}
use Rattle.carousel_messages.specs.Limits.{most_blocks}
use Rattle.carousel_record.specs.Marks.{is_marked, clear_among}
use Rattle.carousel_record.specs.Record.{Record, record_of, module_at, received, missing_of, ruled_of}
use Rattle.carousel_record.specs.Keeping.{place_for, same_at}
use Rattle.carousel_record.specs.Changes.{afresh}
use Rattle.carousel_record.specs.Refusals.{meets13, meets15}
use Rattle.carousel_record.proofs.Laws.Places.{number_at, few-modules}
use Rattle.carousel_record.proofs.Laws.Rule.{Kept, number_small, ruled-says}
use Rattle.carousel_record.proofs.Laws.Keeping.{same_means, keeping-marks}
use Rattle.carousel_handout.specs.Calls.{handout_tests, handout_number, handed_out}
use Rattle.carousel_handout.proofs.Complete.{complete_means, handout_part}
use Rattle.carousel_step.proofs.Views.{Held as Said, Slot, slot, hit}
use Rattle.carousel_step.proofs.View.{slot-marked}
use Rattle.receiver.specs.Run.{Held, given, walk}
use Rattle.demands.specs.Demand.{fate_of, is_new, told, place_now, Announces, blocks, matches, section_data, HasRoom, handout_of, same_in, Emptied}
use Rattle.demands.specs.Demand.{keeps_one, Keeps, bytes_in, missing_in, is_complete, Took, Matched, Came}
use Rattle.demands.specs.Demand.{first_data, joined_blocks, RepeatsAgree, FoundIn}
use Rattle.demands.proofs.Given.{saying, new-ruled, Renewal, renewal}
use Rattle.demands.proofs.Lists.{joined_ext}
use Rattle.demands.proofs.Alike.{part-slots}
use Rattle.demands.proofs.Walks.{kept_in, next_rule, kept_view, Stays, walk-stays, same_blocks, came_by, walk_view}

-- THE START: the call that emptied the module left a record that keeps its rule, and none of the module's marks
module _ (x : Held) (k : ℕ) (em : Emptied x k) where
  abbrev y : Held
  y = em.before

  was-new : is_new (fate_of y em.section) ≡ true
  was-new = ap is_new em.new

  was-ruled : ruled_of y.state ≡ true
  was-ruled = new-ruled y em.section was-new

  pub emptied-ruled : ruled_of x.state ≡ true
  emptied-ruled = ap (λ (z : Held). ruled_of z.state) (sym em.left) ∙ next_rule y em.section was-ruled

  pub emptied-kept : Kept (record_of x.state)
  emptied-kept = let u = em.announces in kept_in x emptied-ruled (omega arith)

  w : Renewal y em.section
  w = renewal y em.section was-new

  is-afresh : record_of x.state ≡ afresh (record_of y.state) w.told
  is-afresh = ap (λ (z : Held). record_of z.state) (sym em.left) ∙ ap (λ (z : Said). z.says) w.left

  pub emptied-clear : (b : ℕ) → b < blocks x k → received (record_of x.state) (place_now x k) b ≡ false
  emptied-clear b l =
      let r = record_of y.state in
      let q = afresh r w.told in
      let u = number_small (record_of x.state) emptied-kept (place_now x k) b em.announces l in
      let f = few-modules (told x).block_size (told x).modules emptied-kept.limits in
      let t = em.announces in
      let n : (module_at q.announced (place_now x k)).number ≡ k
      = ap (λ (p : Record). (module_at p.announced (place_now x k)).number) (sym is-afresh) ∙ number_at k (told x).modules em.announces in
      let o : same_at r q (place_for r k) (place_now x k) ≡ false = ap (λ (p : Record). same_at r p (place_for r k) (place_now x k)) (sym is-afresh) ∙ em.other in
      ap (λ (p : Record). received p (place_now x k) b) is-afresh
      ∙ keeping-marks r (ruled-says y.state was-ruled) w.told (place_now x k) b (omega arith) u
      ∙ ap (λ (m : ℕ). same_at r q (place_for r m) (place_now x k) && received r (place_for r m) b) n
      ∙ rw o

-- A BLOCK CAME exactly where some section was matching when it came; and then the first that was is one
pub took-first : (s : List ℕ) (ss : List (List ℕ)) → Took (s ∷ ss) [] s
took-first s ss = record { rest = ss; whole = refl }

pub took-later : (s : List ℕ) (ss us : List (List ℕ)) (t : List ℕ) → Took ss us t → Took (s ∷ ss) (s ∷ us) t
took-later s ss us t w = record { rest = w.rest; whole = ap (λ (l : List (List ℕ)). s ∷ l) w.whole }

came-found : (x : Held) (k b : ℕ) (ss : List (List ℕ)) → came_by x k b ss ≡ true → (s : List ℕ) × Matched x k b ss s × (first_data x k ss b ≡ section_data s)
unfolding came_by first_data walk
came-found x k b [] e = absurd (clash _ e refl)
came-found x k b (s ∷ ss) e = go (matches x k b s) refl e (λ h. came-found (given x s) k b ss h)
  where
    go : (t : Bool) → matches x k b s ≡ t → cond t true (came_by (given x s) k b ss) ≡ true
        → (came_by (given x s) k b ss ≡ true → (q : List ℕ) × Matched (given x s) k b ss q × (first_data (given x s) k ss b ≡ section_data q))
        → (q : List ℕ) × Matched x k b (s ∷ ss) q × (cond t (section_data s) (first_data (given x s) k ss b) ≡ section_data q)
    go true m e ih = (s, record { before = []; took = took-first s ss; matching = m }, refl)
    go false m e ih =
        let h = ih e in
        (h.0, record { before = s ∷ h.1.before; took = took-later s ss h.1.before h.0 h.1.took; matching = h.1.matching }, h.2)

came-at : (x : Held) (k b : ℕ) (us : List (List ℕ)) (s : List ℕ) (rest : List (List ℕ)) → matches (walk x us) k b s ≡ true → came_by x k b (us ++ (s ∷ rest)) ≡ true
unfolding came_by walk
came-at x k b [] s rest m = rw m
came-at x k b (t ∷ us) s rest m = go (matches x k b t) (came-at (given x t) k b us s rest m)
  where
    go : (c : Bool) → came_by (given x t) k b (us ++ (s ∷ rest)) ≡ true → cond c true (came_by (given x t) k b (us ++ (s ∷ rest))) ≡ true
    go true h = refl
    go false h = h

found-came : (x : Held) (k b : ℕ) (ss : List (List ℕ)) (s : List ℕ) → Matched x k b ss s → came_by x k b ss ≡ true
found-came x k b ss s m = ap (λ (l : List (List ℕ)). came_by x k b l) m.took.whole ∙ came-at x k b m.before s m.took.rest m.matching

pub came_means : (x : Held) (k b : ℕ) (ss : List (List ℕ)) → (came_by x k b ss ≡ true) ↔ Came x k b ss
came_means x k b ss = ((λ e. let h = came-found x k b ss e in (h.0, h.1)), (λ h. found-came x k b ss h.0 h.1))

-- a view that was clear
settled : (t : Bool) (ds : List ℕ) (v : Slot) → v.marked ≡ false → cond t (hit ds v) v ≡ record { marked = t; bytes = cond t ds v.bytes }
unfolding hit
settled true ds v e = rw e
settled false ds v e = ap (λ (m : Bool). record { marked = m; bytes = v.bytes }) e

same_test : (t u : Bool) → (t ≡ true → u ≡ true) → (u ≡ true → t ≡ true) → t ≡ u
same_test true u f g = sym (f refl)
same_test false true f g = g refl
same_test false false f g = refl

-- the clear marks of a module, at the places that it has in two records
clear-moved : (ws vs : List ℕ) (f g n b : ℕ) → ((q : ℕ) → q < b + n → is_marked ws (f + q) ≡ is_marked vs (g + q)) → clear_among ws f b n ≡ clear_among vs g b n
unfolding clear_among
clear-moved ws vs f g zero b h = refl
clear-moved ws vs f g (suc n) b h = rw (h b (omega arith), clear-moved ws vs f g n (suc b) (λ q l. h q (omega arith)))

missing-moved : (x y : Held) (k n : ℕ) → blocks x k ≡ n → blocks y k ≡ n
    → ((b : ℕ) → b < n → received (record_of x.state) (place_now x k) b ≡ received (record_of y.state) (place_now y k) b) → missing_in x k ≡ missing_in y k
unfolding missing_of
missing-moved x y k n p q h =
    ap (λ (m : ℕ). clear_among x.state.marks (most_blocks * place_now x k) 0 m) p
    ∙ clear-moved x.state.marks y.state.marks (most_blocks * place_now x k) (most_blocks * place_now y k) n 0 (λ b l. h b (omega arith))
    ∙ ap (λ (m : ℕ). clear_among y.state.marks (most_blocks * place_now y k) 0 m) (sym q)

-- and its bytes
pub bytes-moved : (x y : Held) (k : ℕ) → ruled_of x.state ≡ true → Announces x k → ruled_of y.state ≡ true → Announces y k → blocks y k ≡ blocks x k
    → ((b : ℕ) → b < blocks x k → slot (saying y) (place_now y k) b ≡ slot (saying x) (place_now x k) b) → bytes_in y k ≡ bytes_in x k
bytes-moved x y k r u s v c h =
    part-slots (saying y) (kept_in y s (omega arith)) (place_now y k)
    ∙ ap (λ (m : ℕ). joined_blocks m (λ b. (slot (saying y) (place_now y k) b).bytes)) c
    ∙ joined_ext (blocks x k) _ _ (λ b l. ap (λ (w : Slot). w.bytes) (h b l))
    ∙ sym (part-slots (saying x) (kept_in x r (omega arith)) (place_now x k))

-- ONE CALL that answered "new" and kept the module leaves its missing blocks and its bytes
pub one-leaves : (x : Held) (k : ℕ) (s : List ℕ) → is_new (fate_of x s) ≡ true → same_in x (given x s) k ≡ true → (missing_in (given x s) k ≡ missing_in x k) × (bytes_in (given x s) k ≡ bytes_in x k)
one-leaves x k s n e =
    let r = new-ruled x s n in
    let m = same_means _ _ _ _ e in
    let u = m.before in
    let o : keeps_one x k s ≡ true = rw n e in
    let c = same_blocks x k (given x s) m in
    let v : (b : ℕ) → b < blocks x k → slot (saying (given x s)) (place_now (given x s) k) b ≡ slot (saying x) (place_now x k) b = kept_view x k r u s o n in (
      missing-moved (given x s) x k (blocks x k) c refl
          (λ b l. sym (slot-marked (saying (given x s)) (place_now (given x s) k) b) ∙ ap (λ (w : Slot). w.marked) (v b l) ∙ slot-marked (saying x) (place_now x k) b),
      bytes-moved x (given x s) k r u (next_rule x s r) m.now c v,
    )

-- THE HAND-OUT of a record that keeps its rule: the module is announced, the image holds the sizes together, and it is complete
pub handed_means : (x : Held) (k : ℕ) → ruled_of x.state ≡ true → (handout_number x.state x.image k ≡ 0) ↔ (Announces x k × HasRoom x × (is_complete x k ≡ true))
unfolding handout_number meets13 meets15
handed_means x k r =
    let t = none-exactly (handout_tests x.state x.image k) (λ z. omega arith, (λ z. omega arith, (λ z. omega arith, (λ z. omega arith, tt)))) in (
      (λ e. let h = (t.0 e).1 in (ltb-true _ _ (not-false _ h.0), ltb-false _ _ h.1.0, not-false _ h.1.1.0)),
      (λ p. t.1 (rw r, (rw (lt-ltb _ _ p.0), (le-ltb _ _ p.1, (rw p.2, tt))))),
    )

-- of one that is announced and complete: 0, or 15 where the sizes together are more than the image
pub complete-number : (x : Held) (k : ℕ) → ruled_of x.state ≡ true → Announces x k → is_complete x k ≡ true → handout_of x k ≡ cond (meets15 (told x) (length x.image)) 15 0
unfolding handout_number first_met meets13
complete-number x k r u c = rw (r, lt-ltb _ _ u, c)

module _ (x : Held) (k : ℕ) (em : Emptied x k) where
  abbrev ok : ruled_of x.state ≡ true
  ok = emptied-ruled x k em

  module _ (ss : List (List ℕ)) (n : Keeps x k ss) where
    pub stays : Stays x k (walk x ss)
    stays = walk-stays x k ok em.announces ss n

    pub count-after : blocks (walk x ss) k ≡ blocks x k
    count-after = same_blocks x k (walk x ss) stays.same

    kept-after : Kept (record_of (walk x ss).state)
    kept-after = let t = stays.same.now in kept_in (walk x ss) stays.ruled (omega arith)

    -- each block: its mark is whether it came; its bytes are the first matching section's, or else as they were
    pub view-after : (b : ℕ) → b < blocks x k → slot (saying (walk x ss)) (place_now (walk x ss) k) b
        ≡ record { marked = came_by x k b ss; bytes = cond (came_by x k b ss) (first_data x k ss b) (slot (saying x) (place_now x k) b).bytes }
    view-after b l =
        walk_view x k b ok em.announces l ss n
        ∙ settled (came_by x k b ss) (first_data x k ss b) (slot (saying x) (place_now x k) b) (slot-marked (saying x) (place_now x k) b ∙ emptied-clear x k em b l)

    mark-after : (b : ℕ) → b < blocks x k → received (record_of (walk x ss).state) (place_now (walk x ss) k) b ≡ came_by x k b ss
    mark-after b l = sym (slot-marked (saying (walk x ss)) (place_now (walk x ss) k) b) ∙ ap (λ (v : Slot). v.marked) (view-after b l)

    bytes_after : bytes_in (walk x ss) k ≡ joined_blocks (blocks x k) (λ b. cond (came_by x k b ss) (first_data x k ss b) (slot (saying x) (place_now x k) b).bytes)
    bytes_after =
        part-slots (saying (walk x ss)) kept-after (place_now (walk x ss) k)
        ∙ ap (λ (m : ℕ). joined_blocks m (λ b. (slot (saying (walk x ss)) (place_now (walk x ss) k) b).bytes)) count-after
        ∙ joined_ext (blocks x k) _ _ (λ b l. ap (λ (v : Slot). v.bytes) (view-after b l))

    -- COMPLETE: every block came
    pub complete-came : (is_complete (walk x ss) k ≡ true) ↔ ((b : ℕ) → b < blocks x k → Came x k b ss)
    complete-came =
        let c = complete_means (record_of (walk x ss).state) (place_now (walk x ss) k) in
        let m = count-after in (
          (λ h b l. (came_means x k b ss).0 (sym (mark-after b l) ∙ c.0 h b (omega arith))),
          (λ f. c.1 (λ b l. let q : b < blocks x k = omega arith in mark-after b q ∙ (came_means x k b ss).1 (f b q))),
        )

    -- and then its bytes are their data
    pub complete-bytes : is_complete (walk x ss) k ≡ true → bytes_in (walk x ss) k ≡ joined_blocks (blocks x k) (λ b. first_data x k ss b)
    complete-bytes c = bytes_after ∙ joined_ext (blocks x k) _ _ (λ b l. rw ((came_means x k b ss).1 (complete-came.0 c b l)))

    -- it is handed out where it is complete and the image holds the sizes together
    pub handed-came : (handout_number (walk x ss).state (walk x ss).image k ≡ 0) ↔ (HasRoom (walk x ss) × ((b : ℕ) → b < blocks x k → Came x k b ss))
    handed-came =
        let h = handed_means (walk x ss) k stays.ruled in
        ((λ e. let p = h.0 e in (p.1, complete-came.0 p.2)), (λ p. h.1 (stays.same.now, p.0, complete-came.1 p.1)))

    pub handed-bytes : handout_number (walk x ss).state (walk x ss).image k ≡ 0 → handed_out (walk x ss).state (walk x ss).image k ≡ joined_blocks (blocks x k) (λ b. first_data x k ss b)
    handed-bytes e = handout_part (walk x ss).state (walk x ss).image k e ∙ complete-bytes ((handed_means (walk x ss) k stays.ruled).0 e).2

  -- TWO RUNS with the same matching sections, order and repeats aside
  same-came : (ss us : List (List ℕ)) → FoundIn x k ss us → (b : ℕ) → came_by x k b ss ≡ true → came_by x k b us ≡ true
  same-came ss us f b e = let h = came-found x k b ss e in let g = f b h.0 h.1 in found-came x k b us g.0 g.1

  module _ (ss us : List (List ℕ)) (n : Keeps x k ss) (m : Keeps x k us) (agree : RepeatsAgree x k ss) (to : FoundIn x k ss us) (back : FoundIn x k us ss) where
    both-came : (b : ℕ) → came_by x k b ss ≡ came_by x k b us
    both-came b = same_test _ _ (same-came ss us to b) (same-came us ss back b)

    same_first : (b : ℕ) → came_by x k b ss ≡ true → first_data x k ss b ≡ first_data x k us b
    same_first b e =
        let h = came-found x k b ss e in
        let g = came-found x k b us (sym (both-came b) ∙ e) in
        let q = back b g.0 g.1 in
        h.2 ∙ agree b h.0 q.0 h.1 q.1 ∙ q.2 ∙ sym g.2

    same_bytes : (b : ℕ) → cond (came_by x k b ss) (first_data x k ss b) (slot (saying x) (place_now x k) b).bytes ≡ cond (came_by x k b us) (first_data x k us b) (slot (saying x)
        (place_now x k) b).bytes
    same_bytes b = rw (← both-came b) (go (came_by x k b ss) refl)
      where
        go : (t : Bool) → came_by x k b ss ≡ t → cond t (first_data x k ss b) (slot (saying x) (place_now x k) b).bytes ≡ cond t (first_data x k us b) (slot (saying x) (place_now x k) b).bytes
        go true e = same_first b e
        go false e = refl

    pub same_content : (bytes_in (walk x ss) k ≡ bytes_in (walk x us) k) × (missing_in (walk x ss) k ≡ missing_in (walk x us) k)
    same_content = (
      bytes_after ss n ∙ joined_ext (blocks x k) _ _ (λ b l. same_bytes b) ∙ sym (bytes_after us m),
      missing-moved (walk x ss) (walk x us) k (blocks x k) (count-after ss n) (count-after us m) (λ b l. mark-after ss n b l ∙ both-came b ∙ sym (mark-after us m b l)),
    )
