-- What the box makes of a rotation's sections: the theorems of Player.antt, from demand 3.
use Prim.Native.Nat.{ℕ, ◌*◌, ◌≤◌, ◌<◌}
use mathlib.Core.Path.{◌≡◌, refl, sym, ap, ap₂, subst, ◌∙◌}
use mathlib.Core.Bool.{Bool, true, false, cond}
use mathlib.Core.Logic.{◌⊎◌, inl, inr}
use mathlib.Core.List.Memᴰ
use mathlib.Core.List.{List, [], ◌∷◌}
use native.Mathlib.Omega.{arith}
use lib.ListN.{length, take, drop}
use lib.Seq.{drop-drop}
use Rattle.wire.proofs.Laws.Tests.{clash}
use Rattle.section.specs.Header.{header_of}
use Rattle.carousel_messages.specs.Heard.{Announced, Arrived, announced, arrived, heard_of}
use Rattle.carousel_messages.specs.Good.{said_announcement}
use Rattle.carousel_record.specs.Record.{Record, record_of, announced_by, module_at, place_of, bytes_of, block_count, block_length, block_at, received, ruled_of}
use Rattle.carousel_record.proofs.Laws.Places.{block-size_pos, some-modules, place_is}
use Rattle.carousel_record.proofs.Laws.Rule.{Kept}
use Rattle.carousel_step.specs.Step.{stepped_of}
use Rattle.carousel_step.specs.Matching.{heard_matches, heard_bytes}
use Rattle.carousel_step.proofs.Views.{Slot, slot, hit}
use Rattle.carousel_step.proofs.View.{slot-marked}
use Rattle.carousel_step.proofs.Matching.{matching_means}
use Rattle.carousel_step.proofs.Steps.{new_changes, image_length}
use Rattle.carousel_step.proofs.Simulation.{says-afresh}
use Rattle.carousel_record.specs.Changes.{afresh}
use Rattle.receiver.specs.Run.{Held, given_of, given, walk}
use Rattle.carousel_handout.specs.Calls.{handout_number, handed_out}
use Rattle.carousel_handout.proofs.Complete.{complete_means, handout_part}
use Rattle.demands.specs.Demand.{fates, is_new, told, modules, place_now, Announces, blocks, blocks_at, matches_at, section_data, HasRoom, same_in, Emptied, bytes_at, is_complete_at, joined_blocks}
use Rattle.demands.specs.Quiet.{none_new, NoNew, Holds, first_in}
use Rattle.demands.specs.Shore.{HasShores}
use Rattle.demands.proofs.Given.{saying, given-steps}
use Rattle.demands.proofs.Lists.{joined_ext, joined_pieces, some, some_holds, holds-some}
use Rattle.demands.proofs.Alike.{part-slots}
use Rattle.demands.proofs.Walks.{kept_in, next_rule}
use Rattle.demands.proofs.After.{emptied-clear, handed_means}
use Rattle.demands.proofs.Quiet.{Stays, quiet-stays, quiet_view}
use Rattle.demands.proofs.Two.{new-accepted, kind-new}
use Rattle.carousel_play.specs.Bytes.{announcement_bytes, start_of, shore_part, block_data, block_bytes}
use Rattle.carousel_play.specs.Rotation.{Playable, Holding, IsBlock}
use Rattle.carousel_play.proofs.Laws.Limits.{not_ten, not_eleven}
use Rattle.carousel_play.proofs.Heard.{announcement-heard_as, announcement_well, data-long, the_block, block-heard_as, block_well}
use Rattle.std.proofs.Common.{Ok, Err}
use Rattle.receiver.specs.Run.{Fate}
use Rattle.receiver.specs.declared.Kind.TheVariants as kind
use Rattle.carousel_step.specs.declared.Answer.TheVariants as answer

-- a block of the shore's that hits a view: where the view is marked it is the shore's already
pub hit_shores : (a : Announced) (image : List ℕ) (x : Held) (i : ℕ) → told x ≡ a → HasShores a image x i → (b : ℕ) → b < block_count a i
    → hit (block_data a i b image) (slot (saying x) i b) ≡ record { marked = true; bytes = block_data a i b image }
unfolding hit slot
hit_shores a image x i e had b l =
    go (received (record_of x.state) i b) (λ m. ap (λ (c : Announced). take (block_length c i b) (drop (block_at (record_of x.state) i b) x.image)) e ∙ had b l m)
  where
    its : List ℕ
    its = take (block_length (told x) i b) (drop (block_at (record_of x.state) i b) x.image)

    go : (t : Bool) → (t ≡ true → its ≡ block_data a i b image)
        → ◌≡◌ {A = Slot} (cond t (record { marked = t; bytes = its }) (record { marked = true; bytes = block_data a i b image })) (record { marked = true; bytes = block_data a i b image })
    go true h = ap (λ (l : List ℕ). record { marked = true; bytes = l }) (h refl)
    go false h = refl

module _ (id : ℕ) (a : Announced) (ok : Playable a) (image : List ℕ) (holds : Holding a image) where
  -- a section of the rotation
  abbrev pub Played : List ℕ → Type 0
  Played s = (s ≡ announcement_bytes id a) ⊎ IsBlock a image s

  -- ITS ANNOUNCEMENT AGAIN, OR A BLOCK, IS NEVER "NEW" to a record that was told it
  old : (x : Held) → told x ≡ a → (s : List ℕ) → Played s → is_new (given_of x.state s x.image).fate ≡ false
  old x e s p = go (given_of x.state s x.image).fate refl
    where
      never : Played s → (given_of x.state s x.image).fate ≡ Ok (kind.Carousel answer.New) → ⊥
      never (inl q) n =
          let w = (new-accepted x.state s x.image).0 ((kind-new x.state s x.image).0 n) in
          w.2 (e ∙ sym (ap said_announcement q ∙ (announcement_well id a ok).1))
      never (inr q) n =
          let w = (new-accepted x.state s x.image).0 ((kind-new x.state s x.image).0 n) in
          let g = (block_well a ok image holds q.0 q.1 q.2 q.3).0.formed.table in
          let h = ap (λ (l : List ℕ). (header_of l).table) q.4 in
          omega (arith, w.1.table, g, h)

      go : (f : Fate) → (given_of x.state s x.image).fate ≡ f → is_new f ≡ false
      go (Ok (kind.Carousel answer.New)) n = absurd (never p n)
      go (Ok kind.Table) n = refl
      go (Ok (kind.Carousel answer.Same)) n = refl
      go (Ok (kind.Carousel answer.Stored)) n = refl
      go (Ok (kind.Carousel answer.Repeated)) n = refl
      go (Err r) n = refl

  pub no-new : (x : Held) → ruled_of x.state ≡ true → told x ≡ a → (ss : List (List ℕ)) → ((s : List ℕ) → Holds ss s → Played s) → NoNew x ss
  unfolding fates none_new walk
  no-new x r e [] h = refl
  no-new x r e (s ∷ ss) h =
      let o = old x e s (h s (Memᴰ.head refl)) in
      let one : NoNew x (s ∷ []) = rw o in
      let m = some-modules a.block_size a.modules (not_ten a ok.keeps) in
      let k : 0 < modules x = rw e m in
      let f = quiet-stays x (s ∷ []) r k one in
      rw o (no-new (given x s) f.ruled (f.same ∙ e) ss (λ t q. h t (Memᴰ.tail q)))

  -- A BLOCK MATCHES ITSELF AND NO OTHER
  module _ (n : ℕ) (room : bytes_of a ≤ n) where
    pub matches_it : (i b : ℕ) (u : i < length a.modules) (v : b < block_count a i) → heard_matches a n i b (heard_of (block_bytes a i b image)) ≡ true
    matches_it i b u v =
        (matching_means a (not_eleven a ok.keeps) n i b u (heard_of (block_bytes a i b image))).1 (
          the_block a ok image holds i b u v,
          block-heard_as a ok image holds i b u v,
          record { same_download = refl; its_number = refl; announced_version = refl; image_holds = room; this_block = refl; one_of_its = v; its_length = data-long a ok image holds i b u v },
        )

    same-arrived : (c d : Arrived) → arrived c ≡ arrived d → c ≡ d
    same-arrived c d e = cc

    pub matches-only : (i b : ℕ) (u : i < length a.modules) (j q : ℕ) (w : j < length a.modules) (z : q < block_count a j)
        → heard_matches a n i b (heard_of (block_bytes a j q image)) ≡ true → (j ≡ i) × (q ≡ b)
    matches-only i b u j q w z e =
        let h = (matching_means a (not_eleven a ok.keeps) n i b u (heard_of (block_bytes a j q image))).0 e in
        let d = same-arrived (the_block a ok image holds j q w z) h.0 (sym (block-heard_as a ok image holds j q w z) ∙ h.1) in
        let k : (module_at a j).number ≡ (module_at a i).number = ap (λ (x : Arrived). x.number) d ∙ h.2.its_number in (
          sym (place_is a.modules j (not_eleven a ok.keeps) w) ∙ ap (place_of a) k ∙ place_is a.modules i (not_eleven a ok.keeps) u,
          ap (λ (x : Arrived). x.block) d ∙ h.2.this_block,
        )

    pub matched-is : (i b : ℕ) (u : i < length a.modules) (s : List ℕ) → Played s → heard_matches a n i b (heard_of s) ≡ true → s ≡ block_bytes a i b image
    unfolding heard_matches
    matched-is i b u s (inl e) m =
        let h : heard_of s ≡ announced a = ap heard_of e ∙ announcement-heard_as id a ok in
        absurd (clash _ m (ap (heard_matches a n i b) h))
    matched-is i b u s (inr (j, q, w, z, e)) m =
        let k = matches-only i b u j q w z (ap (λ (l : List ℕ). heard_matches a n i b (heard_of l)) (sym e) ∙ m) in
        e ∙ ap₂ (λ (x y : ℕ). block_bytes a x y image) k.0 k.1

    pub matched_data : (i b : ℕ) (u : i < length a.modules) (s : List ℕ) → Played s → heard_matches a n i b (heard_of s) ≡ true → section_data s ≡ block_data a i b image
    unfolding heard_matches heard_bytes
    matched_data i b u s (inl e) m =
        let h : heard_of s ≡ announced a = ap heard_of e ∙ announcement-heard_as id a ok in
        absurd (clash _ m (ap (heard_matches a n i b) h))
    matched_data i b u s (inr (j, q, w, z, e)) m =
        let k = matches-only i b u j q w z (ap (λ (l : List ℕ). heard_matches a n i b (heard_of l)) (sym e) ∙ m) in
        let h : heard_of s ≡ arrived (the_block a ok image holds j q w z) = ap heard_of e ∙ block-heard_as a ok image holds j q w z in
        ap heard_bytes h ∙ ap₂ (λ (x y : ℕ). block_data a x y image) k.0 k.1

  -- THE ANNOUNCEMENT, played to a record that keeps its rule and holds another announcement (or none), and an image of the box that is long enough
  module _ (y : Held) (ruled : ruled_of y.state ≡ true) (other : announced_by y.state ≡ a → ⊥) (room : Holding a y.image) where
    abbrev pub begun-with : Held
    begun-with = given y (announcement_bytes id a)

    answers-new : (stepped_of y.state (announcement_bytes id a) y.image).answer ≡ Ok answer.New
    answers-new =
        let w = announcement_well id a ok in
        (new-accepted y.state (announcement_bytes id a) y.image).1 (ruled, w.0, λ q. other (q ∙ w.1))

    pub announcement-new : (given_of y.state (announcement_bytes id a) y.image).fate ≡ Ok (kind.Carousel answer.New)
    announcement-new = (kind-new y.state (announcement_bytes id a) y.image).1 answers-new

    pub begun-ruled : ruled_of begun-with.state ≡ true
    begun-ruled = next_rule y (announcement_bytes id a) ruled

    same-announced : (c d : Announced) → announced c ≡ announced d → c ≡ d
    same-announced c d e = cc

    pub told_it : told begun-with ≡ a
    unfolding afresh
    told_it =
        let w = new_changes y.state (announcement_bytes id a) y.image answers-new in
        ap (λ (z : Held). announced_by z.state) (given-steps y (announcement_bytes id a))
        ∙ ap announced_by w.state
        ∙ ap (λ (r : Record). r.announced) (says-afresh y.state w.told)
        ∙ same-announced w.told a (sym w.heard ∙ announcement-heard_as id a ok)

    -- matching is by what was told
    pub match-told : (i b : ℕ) (s : List ℕ) → matches_at begun-with i b s ≡ heard_matches a (length begun-with.image) i b (heard_of s)
    match-told i b s = ap (λ (c : Announced). heard_matches c (length begun-with.image) i b (heard_of s)) told_it

    pub long-enough : bytes_of a ≤ length begun-with.image
    long-enough =
        let e = ap (λ (z : Held). length z.image) (given-steps y (announcement_bytes id a)) in
        let f = image_length y.state (announcement_bytes id a) y.image in
        omega arith

    -- of a module that the announcement emptied, the box has nothing
    pub emptied-none : (i : ℕ) → i < length a.modules → same_in y begun-with (module_at a i).number ≡ false
        → (b : ℕ) → b < block_count a i → received (record_of begun-with.state) i b ≡ false
    emptied-none i u e b l =
        let k = (module_at a i).number in
        let p : place_now begun-with k ≡ i = ap (λ (c : Announced). place_of c k) told_it ∙ place_is a.modules i (not_eleven a ok.keeps) u in
        let t : Announces begun-with k = subst (λ (j : ℕ). j < modules begun-with) (sym p) (subst (λ (c : Announced). i < length c.modules) (sym told_it) u) in
        let m : b < blocks begun-with k = subst (λ (j : ℕ). b < blocks_at begun-with j) (sym p) (subst (λ (c : Announced). b < block_count c i) (sym told_it) l) in
        let em : Emptied begun-with k = record { before = y; section = announcement_bytes id a; new = announcement-new; left = refl; announces = t; other = e } in
        ap (λ (j : ℕ). received (record_of begun-with.state) j b) (sym p) ∙ emptied-clear begun-with k em b m

    -- THEOREM 4, of one module: a run of any sections after the announcement, in which no call answers "new" (quiet); what the box had of the module by then is the shore's
    -- (had), whatever matches one of the module's blocks carries the shore's data (agree), and every block of the module is held (every)
    module _ (ss : List (List ℕ)) (quiet : NoNew begun-with ss) (i : ℕ) (there : i < length a.modules) (had : HasShores a image begun-with i)
        (agree : (b : ℕ) (s : List ℕ) → Holds ss s → matches_at begun-with i b s ≡ true → section_data s ≡ block_data a i b image)
        (every : (b : ℕ) → b < block_count a i → Holds ss (block_bytes a i b image)) where
      abbrev z : Held
      z = walk begun-with ss

      among : i < modules begun-with
      among = rw told_it there

      stays : Stays begun-with z
      stays = let u = among in quiet-stays begun-with ss begun-ruled (omega arith) quiet

      still-told : told z ≡ a
      still-told = stays.same ∙ told_it

      its_rule : Kept (record_of z.state)
      its_rule = kept_in z stays.ruled (subst (λ (c : Announced). 0 < length c.modules) (sym still-told) (omega arith))

      -- each block came, and the first that did carries the shore's data
      came : (b : ℕ) → b < block_count a i → some (λ s. matches_at begun-with i b s) ss ≡ true
      came b l =
          let m = match-told i b (block_bytes a i b image) ∙ matches_it (length begun-with.image) long-enough i b there l in
          holds-some (λ s. matches_at begun-with i b s) ss (block_bytes a i b image) (every b l) m

      first-is : (b : ℕ) → b < block_count a i → first_in begun-with i ss b ≡ block_data a i b image
      first-is b l = let h = some_holds (λ s. matches_at begun-with i b s) ss (came b l) in h.3 ∙ agree b h.0 h.1 h.2

      -- so its view is the shore's block, whether it was there before or not
      view : (b : ℕ) → b < block_count a i → slot (saying z) i b ≡ record { marked = true; bytes = block_data a i b image }
      view b l =
          let m = subst (λ (c : Announced). b < block_count c i) (sym told_it) l in
          quiet_view begun-with begun-ruled i among ss quiet b m
          ∙ ap (λ (t : Bool). cond t (hit (first_in begun-with i ss b) (slot (saying begun-with) i b)) (slot (saying begun-with) i b)) (came b l)
          ∙ ap (λ (ds : List ℕ). hit ds (slot (saying begun-with) i b)) (first-is b l)
          ∙ hit_shores a image begun-with i told_it had b l

      -- the module is complete
      pub played-complete : is_complete_at z i ≡ true
      played-complete = (complete_means (record_of z.state) i).1
          (λ b l. sym (slot-marked (saying z) i b) ∙ ap (λ (v : Slot). v.marked) (view b (subst (λ (c : Announced). b < block_count c i) still-told l)))

      pieces : joined_blocks (block_count a i) (λ b. block_data a i b image) ≡ shore_part a image i
      unfolding block_data shore_part
      pieces =
          joined_ext (block_count a i) _ _ (λ b l. ap (take (block_length a i b)) (sym (drop-drop (b * a.block_size) (start_of a i) image)))
          ∙ joined_pieces a.block_size (module_at a i).size (block-size_pos a.block_size a.modules (not_ten a ok.keeps)) (drop (start_of a i) image)

      -- and equal to the shore's
      pub played-bytes : bytes_at z i ≡ shore_part a image i
      played-bytes =
          part-slots (saying z) its_rule i
          ∙ ap (λ (c : Announced). joined_blocks (block_count c i) (λ b. (slot (saying z) i b).bytes)) still-told
          ∙ joined_ext (block_count a i) _ _ (λ b l. ap (λ (v : Slot). v.bytes) (view b l))
          ∙ pieces

      -- and is handed out as such
      pub played-handed_out : let k = (module_at a i).number in
          (handout_number z.state z.image k ≡ 0) × (handed_out z.state z.image k ≡ shore_part a image i)
      played-handed_out =
          let k = (module_at a i).number in
          let p : place_now z k ≡ i = ap (λ (c : Announced). place_of c k) still-told ∙ place_is a.modules i (not_eleven a ok.keeps) there in
          let u : Announces z k = subst (λ (c : Announced). place_of c k < length c.modules) (sym still-told)
          (subst (λ (j : ℕ). j < length a.modules) (sym (place_is a.modules i (not_eleven a ok.keeps) there)) there) in
          let r : HasRoom z = subst (λ (c : Announced). bytes_of c ≤ length z.image) (sym still-told) (subst (λ (l : ℕ). bytes_of a ≤ l) (sym stays.long) long-enough) in
          let h = (handed_means z k stays.ruled).1 (u, r, ap (is_complete_at z) p ∙ played-complete) in
          (h, handout_part z.state z.image k h ∙ ap (bytes_at z) p ∙ played-bytes)

    -- THEOREM 3: any sections of the rotation are such a run
    module _ (ss : List (List ℕ)) (own : (s : List ℕ) → Holds ss s → Played s) where
      pub own-quiet : NoNew begun-with ss
      own-quiet = no-new begun-with begun-ruled told_it ss own

      -- they leave what was told
      pub own-told : told (walk begun-with ss) ≡ a
      own-told =
          let m = some-modules a.block_size a.modules (not_ten a ok.keeps) in
          (quiet-stays begun-with ss begun-ruled (rw told_it m) own-quiet).same ∙ told_it

      pub own_agree : (i b : ℕ) → i < length a.modules → (s : List ℕ) → Holds ss s → matches_at begun-with i b s ≡ true → section_data s ≡ block_data a i b image
      own_agree i b u s h m = matched_data (length begun-with.image) long-enough i b u s (own s h) (sym (match-told i b s) ∙ m)
