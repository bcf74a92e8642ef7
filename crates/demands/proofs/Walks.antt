-- Runs that keep a module: what one call leaves of it; that its sections and the new announcements fare as if nothing else had come; and each block's view after a run.
use Prim.Native.Nat.{ℕ, ◌<◌}
use mathlib.Core.Path.{◌≡◌, refl, sym, ap, ap₂, subst, ◌∙◌}
use mathlib.Core.Bool.{Bool, true, false, cond, ◌||◌}
use mathlib.Core.List.{List, [], ◌∷◌}
use native.Mathlib.Omega.{arith}
use lib.ListN.{length}
use Rattle.wire.proofs.Laws.Tests.{both, clash}
use Rattle.carousel_messages.specs.Limits.{most_modules}
use Rattle.carousel_messages.specs.Heard.{Announced, Heard, announced, heard_of, sizes_of}
use Rattle.carousel_messages.proofs.Laws.Heard.{heard_limits}
use Rattle.carousel_record.specs.Blocks.{blocks_of}
use Rattle.carousel_record.specs.Record.{Record, announced_by, record_of, place_of, sums, block_count, ruled_of}
use Rattle.carousel_record.specs.Keeping.{place_for, same_module, SameModule}
use Rattle.carousel_record.specs.Changes.{afresh}
use Rattle.carousel_record.proofs.Laws.Places.{few-modules}
use Rattle.carousel_record.proofs.Laws.Rule.{Kept, kept, ruled-says}
use Rattle.carousel_record.proofs.Laws.Keeping.{same_means, same_back, fresh_kept}
use Rattle.carousel_step.specs.Step.{same_announced, StepOutcome, new, on_announced, on_heard}
use Rattle.carousel_step.specs.Matching.{heard_for, heard_matches}
use Rattle.carousel_step.proofs.Views.{Held as Said, Slot, slot, hit, after, is_new as madeNew}
use Rattle.carousel_step.proofs.View.{Fixed, hit-marked, hit_hit, fixed, view_law}
use Rattle.carousel_step.proofs.Renewed.{afresh-told, same_by, kept-blocks, kept_slot}
use Rattle.receiver.specs.Run.{carousel_fate, Held, given, walk}
use Rattle.receiver.proofs.Runs.{given_rule}
use Rattle.demands.specs.Demand.{fate_of, is_new, told, modules, place_now, Announces, blocks, is_for, matches, section_data, same_in, keeps_one, keeps_all, Keeps, trace, answers_for, first_data}
use Rattle.demands.proofs.Given.{saying, came, given-says, for-came, new-says, renewal}
use Rattle.demands.proofs.Alike.{Alike, for_old, for-answer, both-alike, left-alike}
use Rattle.carousel_step.specs.Step.{Answered as Answer}
use Rattle.receiver.specs.Run.{Fate}

-- the rule, taken apart, of a record with modules; and one call keeps it
pub kept_in : (x : Held) → ruled_of x.state ≡ true → 0 < modules x → Kept (record_of x.state)
kept_in x r some = kept (record_of x.state) some (ruled-says x.state r)

pub next_rule : (x : Held) (s : List ℕ) → ruled_of x.state ≡ true → ruled_of (given x s).state ≡ true
next_rule x s r = given_rule x.state s x.image r

-- A CALL THAT DID NOT ANSWER "NEW" leaves the announcement, the image's length and the rule
old-came : (x : Held) (s : List ℕ) → ruled_of x.state ≡ true → is_new (fate_of x s) ≡ false → madeNew (came x s) ≡ false
old-came x s r n = sym (new-says x s r) ∙ n

pub old_fixed : (x : Held) (s : List ℕ) → ruled_of x.state ≡ true → 0 < modules x → is_new (fate_of x s) ≡ false → Fixed (saying x) (saying (given x s))
old_fixed x s r m n = subst (λ (z : Said). Fixed (saying x) z) (sym (given-says x s r)) (fixed (saying x) (kept_in x r m) (heard_of s) (old-came x s r n))

-- A CALL THAT ANSWERED "NEW" AND KEPT THE MODULE
pub record Keeping (x : Held) (k : ℕ) (s : List ℕ) : Type 0 where
  pub told : Announced
  pub heard : heard_of s ≡ announced told
  pub other : same_announced (announced_by x.state) told ≡ false
  pub left : saying (given x s) ≡ after (saying x) (new told)
  pub same : SameModule (record_of x.state) (afresh (record_of x.state) told) k
  pub few : place_of told k < most_modules

-- what keeping means of one call, and of the rest
pub keeps-parts : (x : Held) (k : ℕ) (s : List ℕ) (ss : List (List ℕ)) → Keeps x k (s ∷ ss) → (keeps_one x k s ≡ true) × Keeps (given x s) k ss
unfolding keeps_all
keeps-parts x k s ss e = both (keeps_one x k s) (keeps_all (given x s) k ss) e

pub keeps-new : (x : Held) (k : ℕ) (s : List ℕ) → keeps_one x k s ≡ true → is_new (fate_of x s) ≡ true → same_in x (given x s) k ≡ true
keeps-new x k s e n = go (is_new (fate_of x s)) n e
  where
    go : (t : Bool) → t ≡ true → cond t (same_in x (given x s) k) true ≡ true → same_in x (given x s) k ≡ true
    go true n e = e
    go false n e = absurd (clash _ n refl)

pub keeping : (x : Held) (k : ℕ) (s : List ℕ) → keeps_one x k s ≡ true → is_new (fate_of x s) ≡ true → Keeping x k s
unfolding afresh
keeping x k s e n =
    let w = renewal x s n in
    let g = w.left in
    let m = same_means _ _ _ _ (ap (λ (z : Said). same_module (record_of x.state) z.says k) (sym g) ∙ keeps-new x k s e n) in
    let f = few-modules w.told.block_size w.told.modules (heard_limits s w.told w.heard).0 in
    let h = m.now in
    record { told = w.told; heard = w.heard; other = w.other; left = g; same = m; few = omega arith }

-- the module stays announced
pub stays-there : (x : Held) (k : ℕ) (s : List ℕ) → ruled_of x.state ≡ true → Announces x k → keeps_one x k s ≡ true → Announces (given x s) k
stays-there x k s r u e = go (is_new (fate_of x s)) refl
  where
    go : (t : Bool) → is_new (fate_of x s) ≡ t → Announces (given x s) k
    go true n = let w = keeping x k s e n in subst (λ (z : Said). place_for z.says k < length z.says.announced.modules) (sym w.left) w.same.now
    go false n = let f = old_fixed x s r (omega arith) n in subst (λ (a : Announced). place_of a k < length a.modules) (sym f.told) u

-- AS IF NOTHING ELSE HAD COME. Two records and images that agree on all that concerns module k:
pub record Agree (k : ℕ) (x y : Held) : Type 0 where
  pub alike : Alike (place_now x k) (saying x) (saying y)
  pub ruled_l : ruled_of x.state ≡ true
  pub ruled_r : ruled_of y.state ≡ true

-- of a pair of what they say
moved : (i j : ℕ) (x y z w : Said) → i ≡ j → z ≡ x → w ≡ y → Alike i x y → Alike j z w
moved i j x y z w e f g al = rw (f, g, ← e) al

answers-own : (y : Held) (k : ℕ) (s : List ℕ) (ss : List (List ℕ)) → is_for y k s ≡ true → answers_for y k (s ∷ ss) ≡ fate_of y s ∷ answers_for (given y s) k ss
unfolding answers_for
answers-own y k s ss e = rw e

answers-other : (y : Held) (k : ℕ) (s : List ℕ) (ss : List (List ℕ)) → is_for y k s ≡ false → answers_for y k (s ∷ ss) ≡ answers_for (given y s) k ss
unfolding answers_for
answers-other y k s ss e = rw e

-- of two that were told the same, both take an announcement for new
pub also-new : (y : Held) (s : List ℕ) (a : Announced) → heard_of s ≡ announced a → same_announced (told y) a ≡ false → came y s ≡ new a
unfolding on_heard on_announced
also-new y s a e f = ap (λ (h : Heard). on_heard (record_of y.state) y.image h) e ∙ rw f

module _ (k : ℕ) (x y : Held) (ag : Agree k x y) (there : Announces x k) (s : List ℕ) where
  abbrev al : Alike (place_now x k) (saying x) (saying y)
  al = ag.alike

  same_for : is_for y k s ≡ is_for x k s
  same_for = ap (λ (a : Announced). heard_for a (place_of a k) (heard_of s)) al.told

  -- what is for the module is not new, in neither
  own_old : (z : Held) → ruled_of z.state ≡ true → is_for x k s ≡ true → is_new (fate_of z s) ≡ false
  own_old z r e = new-says z s r ∙ for_old (told x) (place_now x k) (record_of z.state) z.image (heard_of s) e

  -- where the call is not new, the module's place stays
  stays_at : is_new (fate_of x s) ≡ false → place_now x k ≡ place_now (given x s) k
  stays_at n = ap (λ (a : Announced). place_of a k) (sym (old_fixed x s ag.ruled_l (omega arith) n).told)

  -- a section for the module, given to both
  own-both : is_for x k s ≡ true → (fate_of x s ≡ fate_of y s) × Agree k (given x s) (given y s)
  own-both e =
      let n = own_old x ag.ruled_l e in
      let m = own_old y ag.ruled_r e in
      let c = both-alike (place_now x k) (saying x) (saying y) al there (heard_of s) (old-came x s ag.ruled_l n) (old-came y s ag.ruled_r m) in (
        for-came x s ag.ruled_l (told x) (place_now x k) e
            ∙ ap (λ (r : Answer). carousel_fate r) (for-answer (place_now x k) (saying x) (saying y) al there (heard_of s) e)
            ∙ sym (for-came y s ag.ruled_r (told x) (place_now x k) e),
        record {
          alike = moved _ _ _ _ _ _ (stays_at n) (given-says x s ag.ruled_l) (given-says y s ag.ruled_r) c;
          ruled_l = next_rule x s ag.ruled_l;
          ruled_r = next_rule y s ag.ruled_r;
        },
      )

  -- any other that is not new, given to one
  other-one : is_for x k s ≡ false → is_new (fate_of x s) ≡ false → Agree k (given x s) y
  other-one e n =
      let c = left-alike (place_now x k) (saying x) (saying y) al there (heard_of s) (old-came x s ag.ruled_l n) e in
      record { alike = moved _ _ _ _ _ _ (stays_at n) (given-says x s ag.ruled_l) refl c; ruled_l = next_rule x s ag.ruled_l; ruled_r = ag.ruled_r }

  -- a new announcement that keeps the module is new to both, and keeps it in both: the starts are running sums
  same-starts : (record_of x.state).starts ≡ (record_of y.state).starts
  same-starts = al.kept_l.running ∙ ap (λ (b : Announced). sums 0 (sizes_of b.modules)) (sym al.told) ∙ sym al.kept_r.running

  same-other : (a : Announced) → SameModule (record_of x.state) (afresh (record_of x.state) a) k → SameModule (record_of y.state) (afresh (record_of y.state) a) k
  unfolding afresh
  same-other a m =
      let p : place_of (told y) k ≡ place_of (told x) k = ap (λ (b : Announced). place_of b k) al.told in
      same_means _ _ _ _ (
      same_by (record_of y.state) (afresh (record_of y.state) a) (record_of x.state) (afresh (record_of x.state) a) _ _ al.told (sym same-starts) refl refl
      ∙ rw p (same_back _ _ _ _ m)
      )

  new-both : keeps_one x k s ≡ true → is_new (fate_of x s) ≡ true → Agree k (given x s) (given y s)
  new-both e n =
      let w = keeping x k s e n in
      let a = w.told in
      let l = heard_limits s a w.heard in
      let p = ruled-says x.state ag.ruled_l in
      let q = ruled-says y.state ag.ruled_r in
      let f = ap (λ (b : Announced). same_announced b a) al.told ∙ w.other in
      let g = given-says y s ag.ruled_r ∙ ap (λ (o : StepOutcome). after (saying y) o) (also-new y s a w.heard f) in
      let t : (after (saying y) (new a)).says.announced ≡ (after (saying x) (new a)).says.announced = afresh-told (record_of y.state) a ∙ sym (afresh-told (record_of x.state) a) in
      let c : Alike (place_of a k) (after (saying x) (new a)) (after (saying y) (new a)) = record {
        told = t;
        long = al.long;
        kept_l = fresh_kept (record_of x.state) p a l.0 l.1;
        kept_r = fresh_kept (record_of y.state) q a l.0 l.1;
        slots = λ b i.
            let j : b < blocks x k = rw (kept-blocks (saying x) p a k w.same) at (rw (afresh-told (record_of x.state) a) at i) in
            kept_slot (saying x) p a k w.same w.few b j
            ∙ al.slots b j
            ∙ ap (λ (z : ℕ). slot (saying y) z b) (ap (λ (d : Announced). place_of d k) (sym al.told))
            ∙ sym (kept_slot (saying y) q a k (same-other a w.same) w.few b (subst (λ (d : Announced). b < block_count d (place_of d k)) (sym al.told) j));
      } in
      let o : place_of a k ≡ place_now (given x s) k
      = sym (ap (λ (z : Said). place_for z.says k) w.left ∙ ap (λ (b : Announced). place_of b k) (afresh-told (record_of x.state) a)) in
      record { alike = moved _ _ _ _ _ _ o w.left g c; ruled_l = next_rule x s ag.ruled_l; ruled_r = next_rule y s ag.ruled_r }

-- an announcement matches no block
new-matches : (x : Held) (k b : ℕ) (s : List ℕ) (a : Announced) → heard_of s ≡ announced a → matches x k b s ≡ false
unfolding heard_matches
new-matches x k b s a e = ap (λ (h : Heard). heard_matches (told x) (length x.image) (place_now x k) b h) e

-- THE SECTIONS OF THE TRACE, RUN ALONE, get the same answers and leave the module the same
alone-beside : (k : ℕ) (x y : Held) (ss : List (List ℕ)) → Agree k x y → Announces x k → Keeps x k ss
    → (answers_for x k ss ≡ answers_for y k (trace x k ss)) × Agree k (walk x ss) (walk y (trace x k ss))
unfolding walk answers_for trace
alone-beside k x y [] ag u e = (refl, ag)
alone-beside k x y (s ∷ ss) ag u e =
    let p = keeps-parts x k s ss e in
    go (is_new (fate_of x s)) (is_for x k s) refl refl p.0 (λ z w. alone-beside k (given x s) z ss w (stays-there x k s ag.ruled_l u p.0) p.1)
  where
    rest : List (List ℕ)
    rest = trace (given x s) k ss

    go : (t f : Bool) → is_new (fate_of x s) ≡ t → is_for x k s ≡ f → keeps_one x k s ≡ true
        → ((z : Held) → Agree k (given x s) z → (answers_for (given x s) k ss ≡ answers_for z k rest) × Agree k (walk (given x s) ss) (walk z rest))
        → (cond f (fate_of x s ∷ answers_for (given x s) k ss) (answers_for (given x s) k ss) ≡ answers_for y k (cond (t || f) (s ∷ rest) rest))
        × Agree k (walk (given x s) ss) (walk y (cond (t || f) (s ∷ rest) rest))
    go true true n g o ih = absurd (clash _ n (own_old k x y ag u s x ag.ruled_l g))
    go true false n g o ih =
        let q = ih (given y s) (new-both k x y ag u s o n) in
        (q.0 ∙ sym (answers-other y k s rest (same_for k x y ag u s ∙ g)), q.1)
    go false true n g o ih =
        let c = own-both k x y ag u s g in
        let q = ih (given y s) c.1 in
        (ap₂ (λ (f : Fate) (fs : List Fate). f ∷ fs) c.0 q.0 ∙ sym (answers-own y k s rest (same_for k x y ag u s ∙ g)), q.1)
    go false false n g o ih = ih y (other-one k x y ag u s g n)

pub alone : (x : Held) (k : ℕ) → ruled_of x.state ≡ true → Announces x k → (ss : List (List ℕ)) → Keeps x k ss
    → (answers_for x k ss ≡ answers_for x k (trace x k ss)) × Agree k (walk x ss) (walk x (trace x k ss))
alone x k r u ss n =
    let c = kept_in x r (omega arith) in
    alone-beside k x x ss (record { alike = record { told = refl; long = refl; kept_l = c; kept_r = c; slots = λ b l. refl }; ruled_l = r; ruled_r = r }) u n

-- ONE CALL that keeps the module: what it leaves says the same of it, place and all else aside; and each block's view
same_self : (x y : Held) (k : ℕ) → Announces x k → told y ≡ told x → (record_of y.state).starts ≡ (record_of x.state).starts → SameModule (record_of x.state) (record_of y.state) k
same_self x y k u e f =
    let o : SameModule (record_of x.state) (record_of x.state) k
    = record { before = u; now = u; download = refl; block_size = refl; number = refl; version = refl; size = refl; start = refl } in
    let p : place_now y k ≡ place_now x k = ap (λ (a : Announced). place_of a k) e in
    same_means _ _ _ _ (same_by (record_of x.state) (record_of y.state) (record_of x.state) (record_of x.state) _ _ refl refl e f ∙ rw p (same_back _ _ _ _ o))

same_trans : (r p q : Record) (k : ℕ) → SameModule r p k → SameModule p q k → SameModule r q k
same_trans r p q k a b = record {
  before = a.before;
  now = b.now;
  download = a.download ∙ b.download;
  block_size = a.block_size ∙ b.block_size;
  number = a.number ∙ b.number;
  version = a.version ∙ b.version;
  size = a.size ∙ b.size;
  start = a.start ∙ b.start;
}

module _ (x : Held) (k : ℕ) (r : ruled_of x.state ≡ true) (u : Announces x k) (s : List ℕ) (o : keeps_one x k s ≡ true) where
  one_same : SameModule (record_of x.state) (record_of (given x s).state) k
  one_same = go (is_new (fate_of x s)) refl
    where
      go : (t : Bool) → is_new (fate_of x s) ≡ t → SameModule (record_of x.state) (record_of (given x s).state) k
      go true n = same_means _ _ _ _ (keeps-new x k s o n)
      go false n =
          let f = old_fixed x s r (omega arith) n in
          let c = kept_in x r (omega arith) in
          same_self x (given x s) k u f.told (f.kept.running ∙ ap (λ (a : Announced). sums 0 (sizes_of a.modules)) f.told ∙ sym c.running)

  pub one-long : length (given x s).image ≡ length x.image
  one-long = go (is_new (fate_of x s)) refl
    where
      go : (t : Bool) → is_new (fate_of x s) ≡ t → length (given x s).image ≡ length x.image
      go true n = ap (λ (z : Said). length z.image) (renewal x s n).left
      go false n = (old_fixed x s r (omega arith) n).long

  -- where it answered "new", each view is what it was
  pub kept_view : is_new (fate_of x s) ≡ true → (b : ℕ) → b < blocks x k → slot (saying (given x s)) (place_now (given x s) k) b ≡ slot (saying x) (place_now x k) b
  kept_view n b l =
      let w = keeping x k s o n in
      ap (λ (z : Said). slot z (place_for z.says k) b) w.left
      ∙ ap (λ (a : Announced). slot (after (saying x) (new w.told)) (place_of a k) b) (afresh-told (record_of x.state) w.told)
      ∙ kept_slot (saying x) (ruled-says x.state r) w.told k w.same w.few b l

  one_view : (b : ℕ) → b < blocks x k
      → slot (saying (given x s)) (place_now (given x s) k) b ≡ cond (matches x k b s) (hit (section_data s) (slot (saying x) (place_now x k) b)) (slot (saying x) (place_now x k) b)
  one_view b l = go (is_new (fate_of x s)) refl
    where
      go : (t : Bool) → is_new (fate_of x s) ≡ t
          → slot (saying (given x s)) (place_now (given x s) k) b ≡ cond (matches x k b s) (hit (section_data s) (slot (saying x) (place_now x k) b)) (slot (saying x) (place_now x k) b)
      go true n = let w = keeping x k s o n in kept_view n b l ∙ sym (rw (new-matches x k b s w.told w.heard))
      go false n =
          ap (λ (a : Announced). slot (saying (given x s)) (place_of a k) b) (old_fixed x s r (omega arith) n).told
          ∙ ap (λ (z : Said). slot z (place_now x k) b) (given-says x s r)
          ∙ view_law (saying x) (kept_in x r (omega arith)) (place_now x k) b u l (heard_of s) (old-came x s r n)

-- A RUN: the rule, the image's length and what is said of the module stay
pub record Stays (x : Held) (k : ℕ) (y : Held) : Type 0 where
  pub ruled : ruled_of y.state ≡ true
  pub long : length y.image ≡ length x.image
  pub same : SameModule (record_of x.state) (record_of y.state) k

pub walk-stays : (x : Held) (k : ℕ) → ruled_of x.state ≡ true → Announces x k → (ss : List (List ℕ)) → Keeps x k ss → Stays x k (walk x ss)
unfolding walk
walk-stays x k r u [] e = record { ruled = r; long = refl; same = same_self x x k u refl refl }
walk-stays x k r u (s ∷ ss) e =
    let p = keeps-parts x k s ss e in
    let f = walk-stays (given x s) k (next_rule x s r) (stays-there x k s r u p.0) ss p.1 in
    record { ruled = f.ruled; long = f.long ∙ one-long x k r u s p.0; same = same_trans _ _ _ k (one_same x k r u s p.0) f.same }

-- so it has as many blocks
pub same_blocks : (x : Held) (k : ℕ) (y : Held) → SameModule (record_of x.state) (record_of y.state) k → blocks y k ≡ blocks x k
same_blocks x k y m = sym (λ z. blocks_of (m.block_size z) (m.size z))

-- whether block b came in a section that was matching when it came
unfoldable pub came_by : Held → (k b : ℕ) → List (List ℕ) → Bool
came_by x k b [] = false
came_by x k b (s ∷ ss) = cond (matches x k b s) true (came_by (given x s) k b ss)

-- a marked view is left by whatever comes, and so is one that was hit
pub left_alone : (t : Bool) (ds : List ℕ) (v : Slot) → v.marked ≡ true → cond t (hit ds v) v ≡ v
left_alone true ds v m = hit-marked ds v m
left_alone false ds v m = refl

hit-stays : (t : Bool) (es ds : List ℕ) (v : Slot) → cond t (hit es (hit ds v)) (hit ds v) ≡ hit ds v
hit-stays true es ds v = hit_hit es ds v
hit-stays false es ds v = refl

-- EACH BLOCK'S VIEW AFTER A RUN is that of the first section that was matching when it came, if any was
pub walk_view : (x : Held) (k b : ℕ) → ruled_of x.state ≡ true → Announces x k → b < blocks x k → (ss : List (List ℕ)) → Keeps x k ss
    → slot (saying (walk x ss)) (place_now (walk x ss) k) b ≡ cond (came_by x k b ss) (hit (first_data x k ss b) (slot (saying x) (place_now x k) b)) (slot (saying x) (place_now x k) b)
unfolding walk came_by first_data
walk_view x k b r u l [] e = refl
walk_view x k b r u l (s ∷ ss) e =
    let p = keeps-parts x k s ss e in
    let c = same_blocks x k (given x s) (one_same x k r u s p.0) in
    go (matches x k b s) (one_view x k r u s p.0 b l) (walk_view (given x s) k b (next_rule x s r) (stays-there x k s r u p.0) (omega arith) ss p.1)
  where
    old-slot : Slot
    old-slot = slot (saying x) (place_now x k) b

    next-slot : Slot
    next-slot = slot (saying (given x s)) (place_now (given x s) k) b

    then : Slot → Slot
    then v = cond (came_by (given x s) k b ss) (hit (first_data (given x s) k ss b) v) v

    go : (t : Bool) → next-slot ≡ cond t (hit (section_data s) old-slot) old-slot
        → slot (saying (walk (given x s) ss)) (place_now (walk (given x s) ss) k) b ≡ then next-slot
        → slot (saying (walk (given x s) ss)) (place_now (walk (given x s) ss) k) b
        ≡ cond (cond t true (came_by (given x s) k b ss)) (hit (cond t (section_data s) (first_data (given x s) k ss b)) old-slot) old-slot
    go true p q = q ∙ ap then p ∙ hit-stays (came_by (given x s) k b ss) (first_data (given x s) k ss b) (section_data s) old-slot
    go false p q = q ∙ ap then p
