-- THE SHORE PLAYER, as 02, §13 says it, and 00: "a shore-side player whose rotation our boxes are shown to read back whole".
--
--   "From an announcement within the limits and an image holding its modules, write one rotation: the announcement, then each block in order. .. Played from the empty record
--   into an image at least as long as the sizes together, one rotation is taken without refusal and leaves every module complete and equal to the shore's. After its
--   announcement, any order that holds every block at least once ends the same."
--
-- `rotation` is the list of sections, its bytes are carousel_play `Bytes`; `Playable` and `Holding` are the two premises of the first sentence (carousel_play `Rotation`).
-- The identifier is any number, for the box does not read it; nothing is asked of the bytes of either image. `walk`, `fates`, `NoNew`, `matches_at` are demand 3's words; `Ends`
-- says of one module that it is complete, equal to the shore's, and handed out as such (specs/Shore.antt).
use Prim.Native.Nat.{ℕ, ◌≤◌, ◌<◌}
use mathlib.Core.Path.{◌≡◌, refl, sym, ap, subst, ◌∙◌}
use mathlib.Core.Bool.{Bool, true, false}
use mathlib.Core.Logic.{◌⊎◌, inl, inr}
use mathlib.Core.List.Memᴰ
use mathlib.Core.List.{List, [], ◌∷◌}
use native.Mathlib.Omega.{arith}
use lib.ListN.{length, replicate}
use Rattle.wire.specs.Items.{joined}
use Rattle.wire.proofs.Laws.Meaning.{append-nil}
use Rattle.carousel_messages.specs.Heard.{Announced, Arrived, announced, arrived, heard_of}
use Rattle.carousel_messages.specs.Good.{GoodAnnouncement, GoodBlock, said_announcement, said_block}
use Rattle.wire.proofs.Laws.Tests.{clash}
use Rattle.carousel_record.specs.Record.{Record, announced_by, record_of, module_at, block_count, received, ruled_of}
use Rattle.carousel_record.specs.Keeping.{SameModule}
use Rattle.carousel_record.proofs.Laws.Keeping.{same_means}
use Rattle.carousel_record.specs.Changes.{empty_record}
use Rattle.carousel_step.proofs.Simulation.{empty-ruled}
use Rattle.carousel_handout.specs.Calls.{handed_out, handout_number}
use Rattle.carousel_play.specs.declared.Playlist.{Playlist}
use Rattle.carousel_play.specs.Bytes.{announcement_bytes, shore_part, block_data, block_bytes}
use Rattle.carousel_play.specs.Rotation.{block_sections, rotation, section_count, Playable, Holding}
use Rattle.carousel_play.specs.Calls.{to_play, count_answer}
use Rattle.carousel_play.proofs.Heard.{announcement-heard_as, announcement_well, block-heard_as, block_well}
use Rattle.carousel_play.proofs.Laws.Members.{rotation_has, rotation-holds}
use Rattle.carousel_play.proofs.Laws.Places.{rotation-long}
use Rattle.receiver.specs.declared.Stop.TheVariants as stop
use Rattle.receiver.specs.Run.{Held, given, given_of, walk, RunOutcome, run_of, ran_of, image_ran}
use Rattle.receiver.proofs.Laws.Runs.{run-ruled}
use Rattle.drift_list.specs.Values.{fix_of}
use Rattle.drift_list.specs.Answers.{list_answer, fix_answer}
use Rattle.drift_list.specs.Writing.{Draft, fix_given, write_refusal}
use Rattle.drift_list.proofs.Round.{written_list, written-then-read}
use Rattle.demands.specs.Demand.{fates, told, matches_at, section_data, same_in, Call, running, called, took_by}
use Rattle.demands.specs.Quiet.{NoNew, Holds}
use Rattle.demands.specs.Shore.{Ends, HasShores, Widths, sent_by}
use Rattle.demands.proofs.Three.{calls-walk_any}
use Rattle.demands.proofs.Played.{Played, emptied-none, played-complete, played-bytes, played-handed_out, own-quiet, own-told, own_agree}
use Rattle.demands.proofs.Taken.{again-same, block-again, block-first, rotation-fates}
use Rattle.demands.proofs.Stretches.{Cut, joined-run, joined-sections}
use Rattle.demands.proofs.Sent.{playable, count-is, sent_is}
use Rattle.std.proofs.Common.{Ok}
use Rattle.receiver.specs.declared.Kind.TheVariants as kind
use Rattle.carousel_step.specs.declared.Answer.TheVariants as answer

-- nothing is the same as in the empty record
empty-none : (q : Record) (k : ℕ) → SameModule (record_of empty_record) q k → ⊥
unfolding empty_record announced_by
empty-none q k s = let h = s.before in omega arith

module _ (id : ℕ) (a : Announced) (ok : Playable a) (image : List ℕ) (holds : Holding a image) where
  -- THEOREM 1: each section of the rotation is well formed (demand 2), and is judged to be exactly that announcement or that block, field by field
  abbrev pub IsAnnouncement : List ℕ → Type 0
  IsAnnouncement s = GoodAnnouncement s × (said_announcement s ≡ a) × (heard_of s ≡ announced a)

  abbrev pub IsBlockOf : (i b : ℕ) → List ℕ → Type 0
  IsBlockOf i b s =
      let d : Arrived = record { download = a.download; number = (module_at a i).number; version = (module_at a i).version; block = b; bytes = block_data a i b image } in
      GoodBlock s × (said_block s ≡ d) × (heard_of s ≡ arrived d)

  pub heard_as-written : (s : List ℕ) → Holds (rotation id a image) s
      → IsAnnouncement s ⊎ ((i : ℕ) × (b : ℕ) × (i < length a.modules) × (b < block_count a i) × IsBlockOf i b s)
  heard_as-written s h = elim (Memᴰ.cases_cons h) [
    | inl e ↦ let w = announcement_well id a ok in inl (subst IsAnnouncement (sym e) (w.0, w.1, announcement-heard_as id a ok))
    | inr m ↦
        let q = rotation_has a image s m in
        let w = block_well a ok image holds q.0 q.1 q.2 q.3 in
        inr (q.0, q.1, q.2, q.3, subst (IsBlockOf q.0 q.1) (sym q.4) (w.0, w.1, block-heard_as a ok image holds q.0 q.1 q.2 q.3))
  ]

  pub own-one : (s : List ℕ) → Holds (rotation id a image) s → Played id a ok image holds s
  own-one s h = elim (Memᴰ.cases_cons h) [ inl e ↦ inl e | inr m ↦ inr (rotation_has a image s m) ]

  -- PLAYED TO A BOX: its record keeps its rule and does not hold this announcement already, its image is at least as long as the sizes together. The announcement empties
  -- modules, and keeps those that are the same as before (02 §5); of a module, what the box then has is to be the shore's (`HasShores`).
  module _ (y : Held) (ruled : ruled_of y.state ≡ true) (other : announced_by y.state ≡ a → ⊥) (room : Holding a y.image) where
    abbrev pub told-first : Held
    told-first = given y (announcement_bytes id a)

    -- Of a module that the announcement emptied it has nothing.
    pub emptied_has : (i : ℕ) → i < length a.modules → same_in y told-first (module_at a i).number ≡ false → HasShores a image told-first i
    emptied_has i u e b l m = absurd (clash _ m (emptied-none id a ok image holds y ruled other room i u e b l))

    -- THEOREM 4, of the module at place i: after the announcement come any sections, tables, refused ones and other carousels' among them, in which no call answers "new" and
    -- no section matches a block of the module with other data than the shore's; every block of the module is among them. Then the module ends whole.
    pub interleaved : (ss : List (List ℕ)) → NoNew told-first ss → (i : ℕ) → i < length a.modules → HasShores a image told-first i
        → ((b : ℕ) (s : List ℕ) → Holds ss s → matches_at told-first i b s ≡ true → section_data s ≡ block_data a i b image)
        → ((b : ℕ) → b < block_count a i → Holds ss (block_bytes a i b image))
        → Ends a image (walk y (announcement_bytes id a ∷ ss)) i
    unfolding walk
    interleaved ss quiet i u had agree every =
        let h = played-handed_out id a ok image holds y ruled other room ss quiet i u had agree every in
        record {
          complete = played-complete id a ok image holds y ruled other room ss quiet i u had agree every;
          equal = played-bytes id a ok image holds y ruled other room ss quiet i u had agree every;
          number = h.0;
          handed = h.1;
        }

    -- THEOREM 3: "After its announcement, any order that holds every block at least once ends the same": any sections of the rotation, each any number of times, in any order
    module _ (ss : List (List ℕ)) (own : (s : List ℕ) → Holds ss s → Holds (rotation id a image) s) where
      each : (s : List ℕ) → Holds ss s → Played id a ok image holds s
      each s h = own-one s (own s h)

      pub any_order : ((i b : ℕ) → i < length a.modules → b < block_count a i → Holds ss (block_bytes a i b image))
          → (i : ℕ) → i < length a.modules → HasShores a image told-first i → Ends a image (walk y (announcement_bytes id a ∷ ss)) i
      any_order every i u had =
          interleaved ss (own-quiet id a ok image holds y ruled other room ss each) i u had
          (λ b s h m. own_agree id a ok image holds y ruled other room ss each i b u s h m)
          (λ b v. every i b u v)

      -- and what each section is answered after them: the announcement again "same", a block that came or was kept "repeated", one that did not "stored". None is refused.
      pub answered-same : let x = walk y (announcement_bytes id a ∷ ss) in (given_of x.state (announcement_bytes id a) x.image).fate ≡ Ok (kind.Carousel answer.Same)
      unfolding walk
      answered-same = again-same id a ok image holds y ruled other room ss each

      module _ (i b : ℕ) (u : i < length a.modules) (v : b < block_count a i) where
        pub answered_repeated : let x = walk y (announcement_bytes id a ∷ ss) in
            HasShores a image told-first i → (received (record_of told-first.state) i b ≡ true) ⊎ Holds ss (block_bytes a i b image)
            → (given_of x.state (block_bytes a i b image) x.image).fate ≡ Ok (kind.Carousel answer.Repeated)
        unfolding walk
        answered_repeated had h = block-again id a ok image holds y ruled other room ss each i b u v had h

        pub answered-stored : let x = walk y (announcement_bytes id a ∷ ss) in
            (Holds ss (block_bytes a i b image) → ⊥) → received (record_of told-first.state) i b ≡ false
            → (given_of x.state (block_bytes a i b image) x.image).fate ≡ Ok (kind.Carousel answer.Stored)
        unfolding walk
        answered-stored h c = block-first id a ok image holds y ruled other room ss each i b u v h c

    -- THE SAME OVER THE BOX'S CALLS, of any kind and mixed (`step`, `take`, `run` and the entries in place), that took these sections, however they were grouped in stretches
    module _ (ss : List (List ℕ)) (i : ℕ) (ends : Ends a image (walk y (announcement_bytes id a ∷ ss)) i) where
      pub of_calls : (cs : List Call) → took_by cs ≡ announcement_bytes id a ∷ ss → Ends a image (called y cs) i
      of_calls cs e = subst (λ (x : Held). Ends a image x i) (sym (calls-walk_any y cs ∙ ap (walk y) e)) ends

  -- THEOREM 2: "Played from the empty record into an image at least as long as the sizes together, one rotation is taken without refusal", "new" once and then "stored" for each
  -- block, "and leaves every module complete and equal to the shore's"
  module _ (box : List ℕ) (room : Holding a box) where
    abbrev pub start : Held
    start = record { state = empty_record; image = box }

    nothing_yet : announced_by empty_record ≡ a → ⊥
    unfolding empty_record announced_by
    nothing_yet e =
        let m = ok.keeps.modules_some in
        let z : 0 ≡ length a.modules = ap (λ (c : Announced). length c.modules) e in
        omega arith

    none-same : (k : ℕ) → same_in start (given start (announcement_bytes id a)) k ≡ false
    none-same k = go (same_in start (given start (announcement_bytes id a)) k) refl
      where
        go : (t : Bool) → same_in start (given start (announcement_bytes id a)) k ≡ t → same_in start (given start (announcement_bytes id a)) k ≡ false
        go true e = absurd (empty-none (record_of (given start (announcement_bytes id a)).state) k (same_means _ _ _ _ e))
        go false e = e

    pub one-rotation : (fates start (rotation id a image) ≡ (Ok (kind.Carousel answer.New)) ∷ replicate (length (block_sections a image)) (Ok (kind.Carousel answer.Stored)))
        × ((i : ℕ) → i < length a.modules → Ends a image (walk start (rotation id a image)) i)
    one-rotation = (
      rotation-fates id a ok image holds start empty-ruled nothing_yet room (λ i b u v. emptied-none id a ok image holds start empty-ruled nothing_yet room i u (none-same _) b v),
      λ i u. any_order start empty-ruled nothing_yet room (block_sections a image) (λ s h. Memᴰ.tail h) (λ i b u v. rotation-holds a image i b u v) i u
          (emptied_has start empty-ruled nothing_yet room i u (none-same _)),
    )

    pub rotation-told : told (walk start (rotation id a image)) ≡ a
    unfolding walk
    rotation-told = own-told id a ok image holds start empty-ruled nothing_yet room (block_sections a image) (λ s h. own-one s (Memᴰ.tail h))

    -- and by one call of `run` on all of it, laid end to end, with the budget for it: it takes every section, passes every byte and stops at the end
    cut-one : (s : List ℕ) → Holds (rotation id a image) s → Cut s
    cut-one s h = elim (heard_as-written s h) [
      | inl w ↦ record { headed = w.0.section.headed; exact = w.0.section.exact; plain = λ z. omega (arith, z, w.0.table) }
      | inr w ↦ let g = w.4.0.formed in record { headed = g.section.headed; exact = g.section.exact; plain = λ z. omega (arith, z, g.table) }
    ]

    pub one_stretch : (budget : ℕ) → section_count a ≤ budget → took_by (running (joined (rotation id a image)) budget ∷ []) ≡ rotation id a image
    unfolding took_by
    one_stretch budget l = let n = rotation-long a image id in append-nil _ ∙ joined-sections (rotation id a image) cut-one budget (omega arith)

    pub one-run : (budget : ℕ) → section_count a ≤ budget → let stretch = joined (rotation id a image) in
        ((ran_of empty_record stretch box budget).passage ≡ record { taken = section_count a; passed = length stretch; stop = stop.End })
        × ((i : ℕ) → i < length a.modules → Ends a image (record { state = (ran_of empty_record stretch box budget).state; image = image_ran empty_record stretch box budget }) i)
    one-run budget l =
        let n = rotation-long a image id in
        let stretch = joined (rotation id a image) in
        let r : run_of empty_record stretch box budget ≡ _ =
        run-ruled empty_record stretch box budget empty-ruled ∙ joined-run (rotation id a image) cut-one budget (omega arith) start in (
          ap (λ (o : RunOutcome). record { taken = o.taken; passed = o.passed; stop = o.stop }) r ∙ ap (λ (k : ℕ). record { taken = k; passed = length stretch; stop = stop.End }) n,
          λ i u. subst (λ (x : Held). Ends a image x i) (sym (ap (λ (o : RunOutcome). record { state = o.state; image = o.image }) r)) (one-rotation.1 i u),
        )

  -- A DRIFT LIST AMONG THE MODULES: where a list that drift_list's `write` took (d, into buffer) is the module at place i of the shore's image, and that module ends whole in the
  -- box, the box reads it record for record as it was given to the writer
  module _ (d : Draft) (buffer : List ℕ) (written : write_refusal d (length buffer) ≡ 0) (i : ℕ) (its : shore_part a image i ≡ written_list d buffer) (x : Held) (ends : Ends a image x i) where
    pub list_read : let out = handed_out x.state x.image (module_at a i).number in
        (list_answer out ≡ Ok (record { issue = d.issue; count = d.count })) × ((k : ℕ) → k < d.count → fix_answer out k ≡ Ok (fix_of (fix_given d.numbers k)))
    list_read =
        let r = written-then-read d buffer written in
        let g = ends.handed ∙ its in
        (ap list_answer g ∙ r.0, λ k l. ap (λ (s : List ℕ). fix_answer s k) g ∙ r.1 k l)

-- THE PLAYER'S CALLS. A playlist that `section_count` counts, n sections, and an image that holds its modules: calls of `write_section` at places 0 to n - 1, each into a buffer
-- of 4,096 bytes or more, put one rotation (carousel_play `Exact` has when each call is refused)
module _ (p : Playlist) (widths : Widths p) (n : ℕ) (told : count_answer p ≡ Ok n) (id : ℕ) (image : List ℕ) (holds : Holding (to_play p) image)
    (buffers : ℕ → List ℕ) (large : (k : ℕ) → k < n → 4096 ≤ length (buffers k)) where
  pub calls-send : (sent_by id p image buffers n ≡ rotation id (to_play p) image) × (n ≡ section_count (to_play p)) × Playable (to_play p)
  calls-send = (sent_is p n told id image holds buffers large, count-is p n told, playable p n told widths)

  -- THEOREM 5, THE WHOLE WAY FROM SHORE TO WHEELHOUSE. A list that `write` took is the module at place i of the shore's image. What the player's calls put is taken by the box's
  -- calls, in that order, however it is grouped in stretches, by a record that keeps its rule and does not hold this announcement already, into an image long enough; what
  -- the box has kept of the module, if anything, is the shore's. Then the box hands the module out, and reads it record for record as it was given to
  -- the writer. (In any order, with repeats and among other sections: `list_read` of what
  -- `any_order` and `interleaved` leave.)
  module _ (d : Draft) (buffer : List ℕ) (written : write_refusal d (length buffer) ≡ 0) (i : ℕ) (there : i < length (to_play p).modules) (its : shore_part (to_play p) image i ≡ written_list d buffer)
      (y : Held) (ruled : ruled_of y.state ≡ true) (other : announced_by y.state ≡ to_play p → ⊥) (room : Holding (to_play p) y.image)
      (had : HasShores (to_play p) image (given y (announcement_bytes id (to_play p))) i) (cs : List Call) (heard : took_by cs ≡ sent_by id p image buffers n) where
    abbrev x : Held
    x = called y cs

    abbrev out : List ℕ
    out = handed_out x.state x.image (module_at (to_play p) i).number

    pub whole-way : (handout_number x.state x.image (module_at (to_play p) i).number ≡ 0)
        × (list_answer out ≡ Ok (record { issue = d.issue; count = d.count }))
        × ((k : ℕ) → k < d.count → fix_answer out k ≡ Ok (fix_of (fix_given d.numbers k)))
    whole-way =
        let a = to_play p in
        let ok = calls-send.2 in
        let bs = block_sections a image in
        let e = any_order id a ok image holds y ruled other room bs (λ s h. Memᴰ.tail h) (λ j b u v. rotation-holds a image j b u v) i there had in
        let f = of_calls id a ok image holds y ruled other room bs i e cs (heard ∙ calls-send.0) in
        let r = list_read id a ok image holds d buffer written i its x f in
        (f.number, r.0, r.1)
