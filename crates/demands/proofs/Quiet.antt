-- DEMAND 3 AS 00 SAYS IT, of runs with no further new announcement: each of its theorems is the case of Three.antt in which no call of the run answers "new". The module is
-- meant by its place i, which such a run does not move, and "for" and "matching" are read at the start: specs/Quiet.antt has the words.
use Prim.Native.Nat.{ℕ, ◌<◌}
use mathlib.Core.Path.{◌≡◌, refl, sym, ap, ap₂, subst, ◌∙◌}
use mathlib.Core.Bool.{Bool, true, false, cond}
use mathlib.Core.Logic.{◌↔◌, inl, inr}
use mathlib.Core.List.Memᴰ
use mathlib.Core.List.{List, [], ◌∷◌, ◌++◌}
use native.Mathlib.Omega.{arith}
use lib.ListN.{length}
use Rattle.wire.proofs.Laws.Tests.{clash}
use Rattle.carousel_messages.specs.Heard.{Announced, Arrived, arrived, heard_of}
use Rattle.carousel_record.specs.Record.{record_of, module_at, place_of, bytes_of, ruled_of}
use Rattle.carousel_record.proofs.Laws.Blocks.{some_block}
use Rattle.carousel_record.proofs.Laws.Places.{place_is, block-size_pos, size_pos}
use Rattle.carousel_record.proofs.Laws.Rule.{Kept}
use Rattle.carousel_handout.specs.Calls.{handout_number, handed_out}
use Rattle.carousel_step.specs.Matching.{heard_for, heard_matches, Matching}
use Rattle.carousel_step.proofs.Views.{slot, hit}
use Rattle.carousel_step.proofs.Matching.{matching_means}
use Rattle.receiver.specs.Run.{Held, given, walk}
use Rattle.demands.specs.Demand.{fate_of, fates, is_new, told, modules, blocks_at, is_for_at, matches_at, bytes_at, missing_at, is_complete_at, place_now, is_for, matches, section_data, HasRoom}
use Rattle.demands.specs.Demand.{keeps_all, Keeps, trace, answers_for, Took, Matched, Came, first_data, joined_blocks, RepeatsAgree, FoundIn}
use Rattle.demands.specs.Quiet.{none_new, NoNew, number_at, Begun, those, besides, sections_for, answers_to, Holds, CameIn, first_matching, first_in, AgreeIn, FoundAmong}
use Rattle.demands.proofs.Given.{saying}
use Rattle.demands.proofs.Lists.{joined_ext, some, some_holds, holds-some}
use Rattle.demands.proofs.Walks.{kept_in, next_rule, old_fixed, came_by, walk_view}
use Rattle.demands.proofs.After.{emptied-ruled, emptied-kept, came_means}
use Rattle.demands.proofs.Three as three
use Rattle.receiver.specs.Run.{Fate}

-- "with no further new announcement": not the first section, and none of the rest
old-first : (f : Fate) (fs : List Fate) → none_new (f ∷ fs) ≡ true → (is_new f ≡ false) × (none_new fs ≡ true)
unfolding none_new
old-first f fs e = go (is_new f) refl e
  where
    go : (t : Bool) → is_new f ≡ t → cond t false (none_new fs) ≡ true → (is_new f ≡ false) × (none_new fs ≡ true)
    go true g e = absurd (clash _ e refl)
    go false g e = (g, e)

old-parts : (x : Held) (s : List ℕ) (ss : List (List ℕ)) → NoNew x (s ∷ ss) → (is_new (fate_of x s) ≡ false) × NoNew (given x s) ss
unfolding fates
old-parts x s ss n = old-first _ _ n

quiet-front : (x : Held) (us rest : List (List ℕ)) → NoNew x (us ++ rest) → NoNew x us
unfolding fates none_new
quiet-front x [] rest n = refl
quiet-front x (u ∷ us) rest n = let p = old-parts x u (us ++ rest) n in rw p.0 (quiet-front (given x u) us rest p.1)

-- such a run keeps every module
pub quiet_keeps : (x : Held) (k : ℕ) (ss : List (List ℕ)) → NoNew x ss → Keeps x k ss
unfolding keeps_all
quiet_keeps x k [] n = refl
quiet_keeps x k (s ∷ ss) n = let p = old-parts x s ss n in rw p.0 (quiet_keeps (given x s) k ss p.1)

-- what stays: the announcement, the image's length and the rule
pub record Stays (x y : Held) : Type 0 where
  pub same : told y ≡ told x
  pub long : length y.image ≡ length x.image
  pub ruled : ruled_of y.state ≡ true

one-stays : (x : Held) (s : List ℕ) → ruled_of x.state ≡ true → 0 < modules x → is_new (fate_of x s) ≡ false → Stays x (given x s)
one-stays x s r m n = let f = old_fixed x s r m n in record { same = f.told; long = f.long; ruled = next_rule x s r }

still : (x y : Held) → Stays x y → 0 < modules x → 0 < modules y
still x y f m = let e = ap (λ (a : Announced). length a.modules) f.same in omega arith

pub quiet-stays : (x : Held) (ss : List (List ℕ)) → ruled_of x.state ≡ true → 0 < modules x → NoNew x ss → Stays x (walk x ss)
unfolding walk
quiet-stays x [] r m n = record { same = refl; long = refl; ruled = r }
quiet-stays x (s ∷ ss) r m n =
    let p = old-parts x s ss n in
    let f = one-stays x s r m p.0 in
    let g = quiet-stays (given x s) ss f.ruled (still x (given x s) f m) p.1 in
    record { same = g.same ∙ f.same; long = g.long ∙ f.long; ruled = g.ruled }

-- The words of Three.antt are then read at the start.
module _ (k : ℕ) where
  trace-quiet : (x : Held) (ss : List (List ℕ)) → ruled_of x.state ≡ true → 0 < modules x → NoNew x ss → trace x k ss ≡ those (λ s. is_for x k s) ss
  unfolding trace those
  trace-quiet x [] r m n = refl
  trace-quiet x (s ∷ ss) r m n =
      let p = old-parts x s ss n in
      let f = one-stays x s r m p.0 in
      let h = trace-quiet (given x s) ss f.ruled (still x (given x s) f m) p.1 in
      let q = h ∙ ap (λ (a : Announced). those (λ t. heard_for a (place_of a k) (heard_of t)) ss) f.same in
      rw p.0 (ap (λ (l : List (List ℕ)). cond (is_for x k s) (s ∷ l) l) q)

  answers-quiet : (x : Held) (ss : List (List ℕ)) → ruled_of x.state ≡ true → 0 < modules x → NoNew x ss → answers_for x k ss ≡ besides (λ s. is_for x k s) ss (fates x ss)
  unfolding answers_for besides fates
  answers-quiet x [] r m n = refl
  answers-quiet x (s ∷ ss) r m n =
      let p = old-parts x s ss n in
      let f = one-stays x s r m p.0 in
      let h = answers-quiet (given x s) ss f.ruled (still x (given x s) f m) p.1 in
      let q = h ∙ ap (λ (a : Announced). besides (λ t. heard_for a (place_of a k) (heard_of t)) ss (fates (given x s) ss)) f.same in
      ap (λ (l : List Fate). cond (is_for x k s) (fate_of x s ∷ l) l) q

  -- whatever is told of matching, at the start and later
  matches-still : (x y : Held) → Stays x y → (b : ℕ) (s : List ℕ) → matches y k b s ≡ matches x k b s
  matches-still x y f b s = ap₂ (λ (a : Announced) (l : ℕ). heard_matches a l (place_of a k) b (heard_of s)) f.same f.long

  first-quiet : (x : Held) (b : ℕ) (ss : List (List ℕ)) → ruled_of x.state ≡ true → 0 < modules x → NoNew x ss
      → (first_data x k ss b ≡ first_matching (λ s. matches x k b s) ss) × (came_by x k b ss ≡ some (λ s. matches x k b s) ss)
  unfolding first_data first_matching came_by some
  first-quiet x b [] r m n = (refl, refl)
  first-quiet x b (s ∷ ss) r m n =
      let p = old-parts x s ss n in
      let f = one-stays x s r m p.0 in
      let h = first-quiet (given x s) b ss f.ruled (still x (given x s) f m) p.1 in
      let g : (P : (List ℕ → Bool) → Type 0) → P (λ t. matches (given x s) k b t) → P (λ t. matches x k b t)
      = λ P. subst P (λ i t. matches-still x (given x s) f b t i) in
      let q = g (λ w. (first_data (given x s) k ss b ≡ first_matching w ss) × (came_by (given x s) k b ss ≡ some w ss)) h in
      (ap (λ (l : List ℕ). cond (matches x k b s) (section_data s) l) q.0, ap (λ (t : Bool). cond (matches x k b s) true t) q.1)

-- a section that a run holds, it took after some others
held-took : (ss : List (List ℕ)) (s : List ℕ) → Holds ss s → (us : List (List ℕ)) × Took ss us s
held-took [] s h = absurd (Memᴰ.not-nil h)
held-took (t ∷ ss) s h = elim (Memᴰ.cases_cons h) [
  | inl e ↦ ([], record { rest = ss; whole = ap (λ (l : List ℕ). l ∷ ss) (sym e) })
  | inr m ↦ let q = held-took ss s m in (t ∷ q.0, record { rest = q.1.rest; whole = ap (λ (l : List (List ℕ)). t ∷ l) q.1.whole })
]

took-held : (us : List (List ℕ)) (s : List ℕ) (rest : List (List ℕ)) → Holds (us ++ (s ∷ rest)) s
took-held [] s rest = Memᴰ.head refl
took-held (u ∷ us) s rest = Memᴰ.tail (took-held us s rest)

module _ (x : Held) (k : ℕ) (r : ruled_of x.state ≡ true) (m : 0 < modules x) (ss : List (List ℕ)) (n : NoNew x ss) (b : ℕ) (s : List ℕ) where
  -- it matched when it came exactly where it matches at the start
  matches-later : (us : List (List ℕ)) → Took ss us s → matches (walk x us) k b s ≡ matches x k b s
  matches-later us t = matches-still k x (walk x us) (quiet-stays x us r m (quiet-front x us (s ∷ t.rest) (subst (λ (l : List (List ℕ)). NoNew x l) t.whole n))) b s

  matched-held : Matched x k b ss s → Holds ss s × (matches x k b s ≡ true)
  matched-held w = (
    subst (λ (l : List (List ℕ)). Holds l s) (sym w.took.whole) (took-held w.before s w.took.rest),
    sym (matches-later w.before w.took) ∙ w.matching,
  )

  held-matched : Holds ss s → matches x k b s ≡ true → Matched x k b ss s
  held-matched h e = let q = held-took ss s h in record { before = q.0; took = q.1; matching = matches-later q.0 q.1 ∙ e }

-- EACH BLOCK'S VIEW after such a run, from any record that keeps its rule: the first matching section's, if any matches
module _ (x : Held) (ok : ruled_of x.state ≡ true) (i : ℕ) (there : i < modules x) (ss : List (List ℕ)) (n : NoNew x ss) where
  -- the module's number is found at its place
  number-found : place_now x (number_at x i) ≡ i
  number-found = place_is (told x).modules i (kept_in x ok (omega arith)).numbers there

  pub still-found : place_now (walk x ss) (number_at x i) ≡ i
  still-found = ap (λ (a : Announced). place_of a (number_at x i)) (quiet-stays x ss ok (omega arith) n).same ∙ number-found

  pub quiet_view : (b : ℕ) → b < blocks_at x i → slot (saying (walk x ss)) i b
      ≡ cond (some (λ s. matches_at x i b s) ss) (hit (first_in x i ss b) (slot (saying x) i b)) (slot (saying x) i b)
  quiet_view b l =
      let k = number_at x i in
      let f = first-quiet k x b ss ok (omega arith) n in
      let u = subst (λ (j : ℕ). j < modules x) (sym number-found) there in
      let v = walk_view x k b ok u (subst (λ (j : ℕ). b < blocks_at x j) (sym number-found) l) ss (quiet_keeps x k ss n) in
      ap (λ (j : ℕ). slot (saying (walk x ss)) j b) (sym still-found)
      ∙ v
      ∙ ap₂ (λ (t : Bool) (ds : List ℕ). cond t (hit ds (slot (saying x) (place_now x k) b)) (slot (saying x) (place_now x k) b)) f.1 f.0
      ∙ ap (λ (j : ℕ). cond (some (λ s. matches_at x j b s) ss) (hit (first_in x j ss b) (slot (saying x) j b)) (slot (saying x) j b)) number-found

-- THE THEOREMS
module _ (x : Held) (i : ℕ) (there : i < modules x) (start : Begun x i) where
  abbrev k : ℕ
  k = number_at x i

  abbrev ok : ruled_of x.state ≡ true
  ok = emptied-ruled x k start

  rule : Kept (record_of x.state)
  rule = emptied-kept x k start

  -- the module's place
  found : place_now x k ≡ i
  found = place_is (told x).modules i rule.numbers there

  module _ (ss : List (List ℕ)) (n : NoNew x ss) where
    pub stays : Stays x (walk x ss)
    stays = quiet-stays x ss ok (omega arith) n

    keeps : Keeps x k ss
    keeps = quiet_keeps x k ss n

    found_after : place_now (walk x ss) k ≡ i
    found_after = still-found x ok i there ss n

    -- block b came
    came-quiet : (b : ℕ) → Came x k b ss ↔ CameIn x i b ss
    came-quiet b =
        let e = (first-quiet k x b ss ok (omega arith) n).1 in
        let c = came_means x k b ss in
        subst (λ (j : ℕ). Came x k b ss ↔ CameIn x j b ss) found (
          (λ h. let g = some_holds (λ s. matches x k b s) ss (sym e ∙ c.1 h) in (g.0, g.1, g.2)),
          (λ h. c.0 (e ∙ holds-some (λ s. matches x k b s) ss h.0 h.1 h.2)),
        )

    all-came : ((b : ℕ) → b < blocks_at x (place_now x k) → Came x k b ss) ↔ ((b : ℕ) → b < blocks_at x i → CameIn x i b ss)
    all-came = (
      (λ f b l. (came-quiet b).0 (f b (subst (λ (j : ℕ). b < blocks_at x j) (sym found) l))),
      (λ f b l. (came-quiet b).1 (f b (subst (λ (j : ℕ). b < blocks_at x j) found l))),
    )

    heard-quiet : joined_blocks (blocks_at x (place_now x k)) (λ b. first_data x k ss b) ≡ joined_blocks (blocks_at x i) (λ b. first_in x i ss b)
    heard-quiet =
        joined_ext (blocks_at x (place_now x k)) _ _ (λ b l. (first-quiet k x b ss ok (omega arith) n).0)
        ∙ ap (λ (j : ℕ). joined_blocks (blocks_at x j) (λ b. first_in x j ss b)) found

  -- MATCHING, spelled out: it is a data section of the announced download, with the module's number and announced version, block b of the module's blocks, of that
  -- block's length, and the image holds the sizes together.
  pub matching : (b : ℕ) (s : List ℕ) → (matches_at x i b s ≡ true) ↔ ((d : Arrived) × (heard_of s ≡ arrived d) × Matching (told x) (length x.image) i b d)
  matching b s = matching_means (told x) rule.numbers (length x.image) i b there (heard_of s)

  -- It means the same at every call of a run: nothing that it looks at changes. And so does "for".
  pub matching-stays : (ss : List (List ℕ)) → NoNew x ss → (b : ℕ) (s : List ℕ) → matches_at (walk x ss) i b s ≡ matches_at x i b s
  matching-stays ss n b s = ap₂ (λ (a : Announced) (l : ℕ). heard_matches a l i b (heard_of s)) (stays ss n).same (stays ss n).long

  pub for-stays : (ss : List (List ℕ)) → NoNew x ss → (s : List ℕ) → is_for_at (walk x ss) i s ≡ is_for_at x i s
  for-stays ss n s = ap (λ (a : Announced). heard_for a i (heard_of s)) (stays ss n).same

  -- ISOLATION. "If both hold the same data sections for one announced module, in the same order, then that module's answers, its stored bytes and its missing blocks
  -- are the same in both, whatever else came."
  module _ (ss us : List (List ℕ)) (n : NoNew x ss) (m : NoNew x us) (e : sections_for x i ss ≡ sections_for x i us) where
    same-trace : trace x k ss ≡ trace x k us
    same-trace =
        trace-quiet k x ss ok (omega arith) n
        ∙ subst (λ (j : ℕ). sections_for x j ss ≡ sections_for x j us) (sym found) e
        ∙ sym (trace-quiet k x us ok (omega arith) m)

    pub isolation : (answers_to x i ss ≡ answers_to x i us) × (bytes_at (walk x ss) i ≡ bytes_at (walk x us) i) × (missing_at (walk x ss) i ≡ missing_at (walk x us) i)
    isolation =
        let h = three.isolation x k start ss us (keeps ss n) (keeps us m) same-trace in
        let p = found_after ss n in
        let q = found_after us m in
        let a = sym (answers-quiet k x ss ok (omega arith) n) ∙ h.0 ∙ answers-quiet k x us ok (omega arith) m in (
          subst (λ (j : ℕ). answers_to x j ss ≡ answers_to x j us) found a,
          sym (ap (bytes_at (walk x ss)) p) ∙ h.1 ∙ ap (bytes_at (walk x us)) q,
          sym (ap (missing_at (walk x ss)) p) ∙ h.2 ∙ ap (missing_at (walk x us)) q,
        )

    -- and so is what is handed out, and the number of the hand-out
    pub isolation-handed_out : (handout_number (walk x ss).state (walk x ss).image k ≡ handout_number (walk x us).state (walk x us).image k)
        × (handed_out (walk x ss).state (walk x ss).image k ≡ handed_out (walk x us).state (walk x us).image k)
    isolation-handed_out = three.isolation-handed_out x k start ss us (keeps ss n) (keeps us m) same-trace

  module _ (ss : List (List ℕ)) (n : NoNew x ss) where
    -- COMPLETENESS. "It is complete exactly when every block of its announced version came in a matching section"
    pub completeness : (is_complete_at (walk x ss) i ≡ true) ↔ ((b : ℕ) → b < blocks_at x i → CameIn x i b ss)
    completeness =
        let c = three.completeness x k start ss (keeps ss n) in
        let p = ap (is_complete_at (walk x ss)) (found_after ss n) in
        let a = all-came ss n in
        ((λ e. a.0 (c.0 (p ∙ e))), (λ f. sym p ∙ c.1 (a.1 f)))

    -- where a block came, and there is always a first one, the image holds the sizes together
    room : ((b : ℕ) → b < blocks_at x i → CameIn x i b ss) → HasRoom (walk x ss)
    room f =
        let a = told x in
        let h = f 0 (some_block a.block_size (module_at a i).size (block-size_pos a.block_size a.modules rule.limits) (size_pos a.block_size a.modules rule.limits i there)) in
        let m = ((matching 0 h.0).0 h.2).2.image_holds in
        let l = (stays ss n).long in
        let o = ap bytes_of (stays ss n).same in
        omega arith

    -- and it is then, and only then, handed out (that the image holds the sizes together is part of matching)
    pub handed_out_lem : (handout_number (walk x ss).state (walk x ss).image k ≡ 0) ↔ ((b : ℕ) → b < blocks_at x i → CameIn x i b ss)
    handed_out_lem =
        let h = three.handed_out_lem x k start ss (keeps ss n) in
        let a = all-came ss n in
        ((λ e. a.0 (h.0 e).1), (λ f. h.1 (room f, a.1 f)))

    -- CONTENT. "and its bytes are then those blocks' data in block order, each as it first matched"
    pub content : is_complete_at (walk x ss) i ≡ true → bytes_at (walk x ss) i ≡ joined_blocks (blocks_at x i) (λ b. first_in x i ss b)
    content c =
        let p = found_after ss n in
        sym (ap (bytes_at (walk x ss)) p) ∙ three.content x k start ss (keeps ss n) (ap (is_complete_at (walk x ss)) p ∙ c) ∙ heard-quiet ss n

    -- and these are the bytes that the hand-out hands out
    pub content-handed_out : is_complete_at (walk x ss) i ≡ true → handed_out (walk x ss).state (walk x ss).image k ≡ joined_blocks (blocks_at x i) (λ b. first_in x i ss b)
    content-handed_out c = three.content-handed_out x k start ss (keeps ss n) (handed_out_lem.1 (completeness.0 c)) ∙ heard-quiet ss n

  -- ORDER. "and if matching repeats agree, order and repeats don't alter its bytes": of two runs that have the same matching sections for the module, order, repeats and
  -- unread bits aside, where the repeats of one agree. Complete or not; and its missing blocks are the same too.
  pub order : (ss us : List (List ℕ)) → NoNew x ss → NoNew x us → AgreeIn x i ss → FoundAmong x i ss us → FoundAmong x i us ss
      → (bytes_at (walk x ss) i ≡ bytes_at (walk x us) i) × (missing_at (walk x ss) i ≡ missing_at (walk x us) i)
  order ss us n m agree to back =
      let here : (b : ℕ) (s : List ℕ) → matches_at x i b s ≡ matches x k b s = λ b s. ap (λ (j : ℕ). matches_at x j b s) (sym found) in
      let held = matched-held x k ok (omega arith) in
      let took = held-matched x k ok (omega arith) in
      let a : RepeatsAgree x k ss = λ b s t p q.
      let g = held ss n b s p in
      let h = held ss n b t q in
      agree b s t g.0 h.0 (here b s ∙ g.1) (here b t ∙ h.1) in
      let found_in : (vs ws : List (List ℕ)) → NoNew x vs → NoNew x ws → FoundAmong x i vs ws → FoundIn x k vs ws = λ vs ws o q f b s p.
      let g = held vs o b s p in
      let h = f b s g.0 (here b s ∙ g.1) in
      (h.0, took ws q b h.0 h.1 (sym (here b h.0) ∙ h.2), h.3) in
      let c = three.order x k start ss us (keeps ss n) (keeps us m) a (found_in ss us n m to) (found_in us ss m n back) in
      let p = found_after ss n in
      let q = found_after us m in
      (sym (ap (bytes_at (walk x ss)) p) ∙ c.0 ∙ ap (bytes_at (walk x us)) q, sym (ap (missing_at (walk x ss)) p) ∙ c.1 ∙ ap (missing_at (walk x us)) q)

  -- in particular where both runs hold the same matching sections for the module, as sets of sections
  pub order_of-sections : (ss us : List (List ℕ)) → NoNew x ss → NoNew x us → AgreeIn x i ss → ((b : ℕ) (s : List ℕ) → matches_at x i b s ≡ true → Holds ss s ↔ Holds us s)
      → (bytes_at (walk x ss) i ≡ bytes_at (walk x us) i) × (missing_at (walk x ss) i ≡ missing_at (walk x us) i)
  order_of-sections ss us n m agree same = order ss us n m agree (λ b s h e. (s, (same b s e).0 h, e, refl)) (λ b s h e. (s, (same b s e).1 h, e, refl))
