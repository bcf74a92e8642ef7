-- What each section of the rotation is answered, whatever came of it before: none is refused.
use Prim.Native.Nat.{ℕ, zero, suc, ◌≤◌, ◌<◌}
use mathlib.Core.Path.{◌≡◌, refl, sym, ap, ap₂, subst, ◌∙◌}
use mathlib.Core.Bool.{Bool, true, false, cond}
use mathlib.Core.Logic.{◌⊎◌, inl, inr}
use mathlib.Core.List.{List, [], ◌∷◌, ◌++◌, append_assoc}
use native.Mathlib.Omega.{arith}
use lib.ListN.{length, take, drop, replicate, length-append, replicate-append-replicate}
use Rattle.wire.proofs.Laws.Meaning.{append-nil}
use Rattle.carousel_messages.specs.Heard.{Announced, Arrived, heard_of}
use Rattle.carousel_messages.specs.Good.{GoodBlock, said_block}
use Rattle.carousel_record.specs.Record.{record_of, announced_by, bytes_of, block_count, block_length, block_at, received, ruled_of}
use Rattle.carousel_record.proofs.Laws.Places.{some-modules}
use Rattle.carousel_step.specs.Matching.{Matching, heard_matches}
use Rattle.carousel_step.proofs.Views.{Slot, slot, hit}
use Rattle.carousel_step.proofs.View.{hit-marked, slot-marked}
use Rattle.receiver.specs.Run.{Held, given_of, given, walk}
use Rattle.demands.specs.Demand.{fates, told}
use Rattle.demands.specs.Quiet.{NoNew, Holds, first_matching}
use Rattle.demands.specs.Shore.{HasShores}
use Rattle.demands.proofs.Given.{saying}
use Rattle.demands.proofs.Lists.{some, some_holds, holds-some}
use Rattle.demands.proofs.Walks.{left_alone}
use Rattle.demands.proofs.Quiet.{Stays, quiet-stays, quiet_view}
use Rattle.demands.proofs.Two.{same-accepted, stored-accepted, repeated-accepted, kind-same, kind-stored, kind_repeated}
use Rattle.carousel_play.specs.Bytes.{announcement_bytes, block_data, block_bytes}
use Rattle.carousel_play.specs.Rotation.{module_sections, sections_to, block_sections, rotation, Playable, Holding}
use Rattle.carousel_play.proofs.Laws.Limits.{not_ten}
use Rattle.carousel_play.proofs.Heard.{announcement_well, data-long, the_block, block_well}
use Rattle.carousel_play.proofs.Laws.Members.{in_either, module_has, sections_have}
use Rattle.demands.proofs.Played.{hit_shores, Played, no-new, matches_it, matches-only, matched-is, matched_data, begun-with, announcement-new, begun-ruled, told_it, long-enough}
use Rattle.std.proofs.Common.{Ok}
use Rattle.receiver.specs.Run.{Fate}
use Rattle.receiver.specs.declared.Kind.TheVariants as kind
use Rattle.carousel_step.specs.declared.Answer.TheVariants as answer

module _ (id : ℕ) (a : Announced) (ok : Playable a) (image : List ℕ) (holds : Holding a image)
    (y : Held) (ruled : ruled_of y.state ≡ true) (other : announced_by y.state ≡ a → ⊥) (room : Holding a y.image) where
  abbrev x : Held
  x = begun-with id a ok image holds y ruled other room

  abbrev n : ℕ
  n = length x.image

  is-told : told x ≡ a
  is-told = told_it id a ok image holds y ruled other room

  is-ruled : ruled_of x.state ≡ true
  is-ruled = begun-ruled id a ok image holds y ruled other room

  fits : bytes_of a ≤ n
  fits = long-enough id a ok image holds y ruled other room

  -- after any sections of the rotation
  module _ (ss : List (List ℕ)) (own : (s : List ℕ) → Holds ss s → Played id a ok image holds s) where
    abbrev z : Held
    z = walk x ss

    quiet : NoNew x ss
    quiet = no-new id a ok image holds x is-ruled is-told ss own

    stays : Stays x z
    stays = let m = some-modules a.block_size a.modules (not_ten a ok.keeps) in quiet-stays x ss is-ruled (rw is-told m) quiet

    still-told : announced_by z.state ≡ a
    still-told = stays.same ∙ is-told

    -- the announcement again answers "same"
    pub again-same : (given_of z.state (announcement_bytes id a) z.image).fate ≡ Ok (kind.Carousel answer.Same)
    again-same =
        let w = announcement_well id a ok in
        (kind-same z.state (announcement_bytes id a) z.image).1 ((same-accepted z.state (announcement_bytes id a) z.image).1 (stays.ruled, w.0, still-told ∙ sym w.1))

    module _ (i b : ℕ) (u : i < length a.modules) (v : b < block_count a i) where
      abbrev came : Bool
      came = some (λ s. heard_matches a n i b (heard_of s)) ss

      abbrev d : Arrived
      d = the_block a ok image holds i b u v

      abbrev s : List ℕ
      s = block_bytes a i b image

      abbrev before_it : Slot
      before_it = slot (saying x) i b

      view : slot (saying z) i b ≡ cond came (hit (first_matching (λ s. heard_matches a n i b (heard_of s)) ss) before_it) before_it
      view =
          quiet_view x is-ruled i (subst (λ (c : Announced). i < length c.modules) (sym is-told) u) ss quiet b (subst (λ (c : Announced). b < block_count c i) (sym is-told) v)
          ∙ ap (λ (c : Announced). cond (some (λ s. heard_matches c n i b (heard_of s)) ss) (hit (first_matching (λ s. heard_matches c n i b (heard_of s)) ss) before_it) before_it) is-told

      -- it matches what the record was told
      abbrev At : Arrived → Type 0
      At e = (i < length (announced_by z.state).modules) × Matching (announced_by z.state) (length z.image) i e.block e

      matches-now : At d
      matches-now =
          let l = data-long a ok image holds i b u v in
          rw (still-told, stays.long) (
            u,
            record { same_download = refl; its_number = refl; announced_version = refl; image_holds = fits; this_block = refl; one_of_its = v; its_length = l },
          )

      good : GoodBlock s
      good = (block_well a ok image holds i b u v).0

      says : d ≡ said_block s
      says = sym (block_well a ok image holds i b u v).1

      -- a block that has not come answers "stored"
      abbrev Clear : Arrived → Type 0
      Clear e = At e × (received (record_of z.state) i e.block ≡ false)

      not-received : came ≡ false → received (record_of x.state) i b ≡ false → received (record_of z.state) i b ≡ false
      not-received e f =
          let k : slot (saying z) i b ≡ slot (saying x) i b = view ∙ rw e in
          sym (slot-marked (saying z) i b) ∙ ap (λ (w : Slot). w.marked) k ∙ slot-marked (saying x) i b ∙ f

      pub first-stored : came ≡ false → received (record_of x.state) i b ≡ false → (given_of z.state s z.image).fate ≡ Ok (kind.Carousel answer.Stored)
      first-stored e f =
          let w = subst Clear says (matches-now, not-received e f) in
          (kind-stored z.state s z.image).1 ((stored-accepted z.state s z.image).1 (stays.ruled, good, (i, w.0, w.1)))

      -- and one that has, "repeated"
      abbrev Marked : Arrived → Type 0
      Marked e = At e × (received (record_of z.state) i e.block ≡ true) × (take (length e.bytes) (drop (block_at (record_of z.state) i e.block) z.image) ≡ e.bytes)

      -- where what the box had is the shore's, and it had the block or the block came since
      module _ (had : HasShores a image x i) (there : (received (record_of x.state) i b ≡ true) ⊎ (came ≡ true)) where
        abbrev shores : Slot
        shores = record { marked = true; bytes = block_data a i b image }

        view_hit : came ≡ true → slot (saying z) i b ≡ shores
        view_hit e =
            let h = some_holds (λ s. heard_matches a n i b (heard_of s)) ss e in
            let k = h.3 ∙ matched_data id a ok image holds n fits i b u h.0 (own h.0 h.1) h.2 in
            view
            ∙ ap (λ (t : Bool). cond t (hit (first_matching (λ s. heard_matches a n i b (heard_of s)) ss) before_it) before_it) e
            ∙ ap (λ (ds : List ℕ). hit ds before_it) k
            ∙ hit_shores a image x i is-told had b v

        -- what was marked is its own hit
        view-kept : received (record_of x.state) i b ≡ true → slot (saying z) i b ≡ shores
        view-kept e =
            let m = slot-marked (saying x) i b ∙ e in
            let o : (t : Bool) (ds : List ℕ) → cond t (hit ds before_it) before_it ≡ before_it = λ t ds. left_alone t ds before_it m in
            view ∙ o came _ ∙ sym (hit-marked (block_data a i b image) before_it m) ∙ hit_shores a image x i is-told had b v

        view-there : slot (saying z) i b ≡ shores
        view-there = elim there [ inl e ↦ view-kept e | inr e ↦ view_hit e ]

        bytes-there : take (length (block_data a i b image)) (drop (block_at (record_of z.state) i b) z.image) ≡ block_data a i b image
        unfolding slot
        bytes-there =
            let l = data-long a ok image holds i b u v ∙ ap (λ (c : Announced). block_length c i b) (sym still-told) in
            ap (λ (k : ℕ). take k (drop (block_at (record_of z.state) i b) z.image)) l ∙ ap (λ (w : Slot). w.bytes) view-there

        pub later_repeated : (given_of z.state s z.image).fate ≡ Ok (kind.Carousel answer.Repeated)
        later_repeated =
            let m = sym (slot-marked (saying z) i b) ∙ ap (λ (w : Slot). w.marked) view-there in
            let w = subst Marked says (matches-now, m, bytes-there) in
            (kind_repeated z.state s z.image).1 ((repeated-accepted z.state s z.image).1 (stays.ruled, good, (i, w.0, w.1, w.2)))

      -- that it has come, said of the run itself
      held-came : Holds ss s → came ≡ true
      held-came h = holds-some (λ s. heard_matches a n i b (heard_of s)) ss s h (matches_it id a ok image holds n fits i b u v)

      pub block-again : HasShores a image x i → (received (record_of x.state) i b ≡ true) ⊎ Holds ss s → (given_of z.state s z.image).fate ≡ Ok (kind.Carousel answer.Repeated)
      block-again had h = later_repeated had (elim h [ inl e ↦ inl e | inr m ↦ inr (held-came m) ])

      pub block-first : (Holds ss s → ⊥) → received (record_of x.state) i b ≡ false → (given_of z.state s z.image).fate ≡ Ok (kind.Carousel answer.Stored)
      block-first h c = go came refl
        where
          go : (t : Bool) → came ≡ t → (given_of z.state s z.image).fate ≡ Ok (kind.Carousel answer.Stored)
          go true e =
              let f = some_holds (λ s. heard_matches a n i b (heard_of s)) ss e in
              let k = matched-is id a ok image holds n fits i b u f.0 (own f.0 f.1) f.2 in
              absurd (h (subst (λ (l : List ℕ). Holds ss l) k f.1))
          go false e = first-stored e c

  -- THEOREM 2, the answers: "one rotation is taken without refusal", and every block is stored, where the announcement kept none
  abbrev stored : List (List ℕ) → List Fate
  stored ss = replicate (length ss) (Ok (kind.Carousel answer.Stored))

  fates_snoc : (w : Held) (ss : List (List ℕ)) (s : List ℕ) → fates w (ss ++ (s ∷ [])) ≡ fates w ss ++ ((given_of (walk w ss).state s (walk w ss).image).fate ∷ [])
  unfolding fates walk
  fates_snoc w [] s = refl
  fates_snoc w (r ∷ ss) s = ap (λ (l : List Fate). (given_of w.state r w.image).fate ∷ l) (fates_snoc (given w r) ss s)

  stored_snoc : (ss : List (List ℕ)) (s : List ℕ) → stored ss ++ ((Ok (kind.Carousel answer.Stored)) ∷ []) ≡ stored (ss ++ (s ∷ []))
  stored_snoc ss s = replicate-append-replicate (length ss) 1 (Ok (kind.Carousel answer.Stored)) ∙ ap (λ (k : ℕ). replicate k (Ok (kind.Carousel answer.Stored))) (sym (length-append ss (s ∷ [])))

  abbrev pub NoneHad : Type 0
  NoneHad = (i b : ℕ) → i < length a.modules → b < block_count a i → received (record_of x.state) i b ≡ false

  -- what is played before block m of the module at place k
  abbrev before : (k m : ℕ) → List (List ℕ)
  before k m = sections_to a image k ++ module_sections a image k m

  module _ (k : ℕ) (u : k < length a.modules) where
    before-own : (m : ℕ) → m ≤ block_count a k → (s : List ℕ) → Holds (before k m) s → Played id a ok image holds s
    before-own m l s h = elim (in_either (sections_to a image k) (module_sections a image k m) s h) [
      | inl p ↦ let q = sections_have a image k s p in inr (q.0, q.1, omega (arith, q.2), q.3, q.4)
      | inr p ↦ let q = module_has a image k m s p in inr (k, q.0, u, omega (arith, q.1), q.2)
    ]

    -- block m is not among them
    fresh : (m : ℕ) → m < block_count a k → some (λ s. heard_matches a n k m (heard_of s)) (before k m) ≡ false
    fresh m l = go (some (λ s. heard_matches a n k m (heard_of s)) (before k m)) refl
      where
        never : some (λ s. heard_matches a n k m (heard_of s)) (before k m) ≡ true → ⊥
        never e =
            let h = some_holds (λ s. heard_matches a n k m (heard_of s)) (before k m) e in
            elim (in_either (sections_to a image k) (module_sections a image k m) h.0 h.1) [
              | inl p ↦
                  let q = sections_have a image k h.0 p in
                  let w = matches-only id a ok image holds n fits k m u q.0 q.1 (omega (arith, q.2)) q.3 (ap (λ (s : List ℕ). heard_matches a n k m (heard_of s)) (sym q.4) ∙ h.2) in
                  omega (arith, q.2, w.0)
              | inr p ↦
                  let q = module_has a image k m h.0 p in
                  let w = matches-only id a ok image holds n fits k m u k q.0 u (omega (arith, q.1)) (ap (λ (s : List ℕ). heard_matches a n k m (heard_of s)) (sym q.2) ∙ h.2) in
                  omega (arith, q.1, w.1)
            ]

        go : (t : Bool) → some (λ s. heard_matches a n k m (heard_of s)) (before k m) ≡ t → some (λ s. heard_matches a n k m (heard_of s)) (before k m) ≡ false
        go true e = absurd (never e)
        go false e = e

    module-stored : NoneHad → fates x (sections_to a image k) ≡ stored (sections_to a image k) → (m : ℕ) → m ≤ block_count a k → fates x (before k m) ≡ stored (before k m)
    unfolding module_sections
    module-stored none ih zero l = rw (append-nil (sections_to a image k)) ih
    module-stored none ih (suc m) l =
        let s = block_bytes a k m image in
        let e : before k (suc m) ≡ before k m ++ (s ∷ []) = sym (append_assoc (sections_to a image k) (module_sections a image k m) (s ∷ [])) in
        let f = first-stored (before k m) (before-own m (omega arith)) k m u (omega arith) (fresh m (omega arith)) (none k m u (omega arith)) in
        let g : fates x (before k m ++ (s ∷ [])) ≡ stored (before k m ++ (s ∷ [])) =
        fates_snoc x (before k m) s ∙ ap₂ (λ (l : List Fate) (w : Fate). l ++ (w ∷ [])) (module-stored none ih m (omega arith)) f ∙ stored_snoc (before k m) s in
        subst (λ (l : List (List ℕ)). fates x l ≡ stored l) (sym e) g

  all-stored : NoneHad → (k : ℕ) → k ≤ length a.modules → fates x (sections_to a image k) ≡ stored (sections_to a image k)
  unfolding sections_to fates
  all-stored none zero l = refl
  all-stored none (suc k) l = module-stored k (omega arith) none (all-stored none k (omega arith)) (block_count a k) (omega arith)

  pub rotation-fates : NoneHad → fates y (rotation id a image) ≡ (Ok (kind.Carousel answer.New)) ∷ replicate (length (block_sections a image)) (Ok (kind.Carousel answer.Stored))
  unfolding fates
  rotation-fates none = ap₂ (λ (f : Fate) (fs : List Fate). f ∷ fs) (announcement-new id a ok image holds y ruled other room) (all-stored none (length a.modules) (omega arith))
