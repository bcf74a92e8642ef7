-- WHAT IS WHOLE STAYS WHOLE. 02 §12: "The mate asks if a finished list can become unfinished."
--
--   No. Once a list is whole in the box, nothing that comes over the air takes a block of it away or changes a byte of it: no section that is refused, no table, no other module's block,
--   no bad copy, no announcement heard again, and no new announcement that leaves this list as it was. Only a new announcement undoes it in which the list is another one (another
--   download, block size, version, size or place in the image) or is not there; the box takes any that is well formed for shore's. Until then it hands out the same bytes each time. It
--   may also answer 15 and hand out nothing, exactly as long as all that is then announced is more than its image holds; a box whose image holds 262,144 bytes never does. All this
--   holds as long as the box goes on with the same record and image, and nobody else writes them.
--
-- x is any record with any image, of any length; module k is announced in it; ss is any list of sections, any bytes. What a call is lent is what the last one left: `walk` and `called`
-- say just that. The words are defined in specs/Whole.antt, one by one.
use Prim.Native.Nat.{ℕ, ◌≤◌, ◌<◌}
use mathlib.Core.Path.{◌≡◌, refl, sym, ap, subst, ◌∙◌}
use mathlib.Core.Bool.{Bool, true, false}
use mathlib.Core.Logic.{◌↔◌, ◌⊎◌, inl, inr}
use mathlib.Core.List.{List, [], ◌∷◌}
use native.Mathlib.Omega.{arith}
use lib.ListN.{length}
use Rattle.wire.proofs.Laws.Tests.{clash}
use Rattle.carousel_messages.specs.Heard.{Announced}
use Rattle.carousel_messages.specs.Good.{said_announcement}
use Rattle.carousel_record.specs.Record.{record_of, ruled_of}
use Rattle.carousel_record.specs.Keeping.{SameModule}
use Rattle.carousel_record.specs.Changes.{empty_record, unmarked}
use Rattle.carousel_handout.proofs.Complete.{handout-empty}
use Rattle.carousel_step.proofs.Simulation.{empty-ruled}
use Rattle.carousel_play.specs.Rotation.{rotation, Playable, Holding}
use Rattle.receiver.specs.Run.{Held, walk}
use Rattle.transport.specs.Grouped.{all_given}
use Rattle.drift_list.specs.declared.Fix.{Fix}
use Rattle.drift_list.specs.Answers.{fix_answer}
use Rattle.drift_list.proofs.Answers.{found-not-refused, nothing_read}
use Rattle.demands.specs.Demand.{fate_of, Announces, is_complete, handout_of, handed_of, keeps_all, Keeps, Call, called, took_by}
use Rattle.demands.specs.Quiet.{Holds}
use Rattle.demands.specs.Shore.{Ends}
use Rattle.demands.specs.Transport.{Lending, heard_by, gathers, Lendable}
use Rattle.demands.specs.Whole.{StaysWhole, HandsOutAgain, full_image, Undone, Unfinished, AnswersUnfinished, AtSomePoint, CompletesAll}
use Rattle.demands.proofs.Calls.{walk_rule, broken-walk}
use Rattle.demands.proofs.Three.{keeps-front, calls-walk_any}
use Rattle.demands.proofs.Quiet.{quiet_keeps}
use Rattle.demands.proofs.Transport.{packets-walk_any}
use Rattle.demands.proofs.Played.{no-new}
use Rattle.demands.proofs.Player.{own-one, one-rotation, rotation-told}
use Rattle.demands.proofs.Completed.{ends-complete, any_box}
use Rattle.demands.proofs.Lasting.{number_unfinished, ruled-stays, same_whole, handed-again, not-kept, never_both, undone_unfinished, walk-long, unfinished-number, new-keeps-exactly}
use Rattle.std.proofs.Common.{Ok}
use Rattle.receiver.specs.declared.Kind.TheVariants as kind
use Rattle.carousel_step.specs.declared.Answer.TheVariants as answer

-- THE THEOREM. "While no announcement empties or drops a module, more sections never unmark a block, never change a stored byte, and never turn "complete" into refusal 20; the missing
-- number never rises." Of any record: one that breaks its rule is left as it is by every call.
module _ (x : Held) (k : ℕ) (u : Announces x k) where
  pub stays-whole : (ss : List (List ℕ)) → Keeps x k ss → StaysWhole x k (walk x ss)
  stays-whole ss n = go (ruled_of x.state) refl
    where
      go : (t : Bool) → ruled_of x.state ≡ t → StaysWhole x k (walk x ss)
      go true r = ruled-stays x k r u ss n
      go false r = subst (StaysWhole x k) (sym (broken-walk x r ss)) (same_whole x k u)

  -- for calls of `step`, `step_in`, `take`, `run` and `run_in`, mixed in any order; and over packets
  pub stays-whole_of-calls : (cs : List Call) → Keeps x k (took_by cs) → StaysWhole x k (called x cs)
  stays-whole_of-calls cs n = subst (StaysWhole x k) (sym (calls-walk_any x cs)) (stays-whole (took_by cs) n)

  pub stays-whole_of-packets : (pid : ℕ) (s : List ℕ) (ks : List Lending) → Lendable ks → Keeps x k (all_given pid s (gathers ks)) → StaysWhole x k (heard_by pid x s ks)
  stays-whole_of-packets pid s ks l n = subst (StaysWhole x k) (sym (packets-walk_any pid ks x s l)) (stays-whole (all_given pid s (gathers ks)) n)

-- WHAT IS HANDED OUT STAYS THE SAME BYTES. "From the first hand-out on, as long as the module is kept, every later hand-out is equal to it, or is refused with 15."
module _ (x : Held) (k : ℕ) (handed : handout_of x k ≡ 0) where
  pub hands_out-again : (ss : List (List ℕ)) → Keeps x k ss → HandsOutAgain x k (walk x ss)
  hands_out-again ss n = handed-again x k handed ss n

  pub hands_out-again_of-calls : (cs : List Call) → Keeps x k (took_by cs) → HandsOutAgain x k (called x cs)
  hands_out-again_of-calls cs n = subst (HandsOutAgain x k) (sym (calls-walk_any x cs)) (hands_out-again (took_by cs) n)

  pub hands_out-again_of-packets : (pid : ℕ) (s : List ℕ) (ks : List Lending) → Lendable ks → Keeps x k (all_given pid s (gathers ks)) → HandsOutAgain x k (heard_by pid x s ks)
  hands_out-again_of-packets pid s ks l n = subst (HandsOutAgain x k) (sym (packets-walk_any pid ks x s l)) (hands_out-again (all_given pid s (gathers ks)) n)

-- A POSITION THAT IS DRAWN LATER IS THE POSITION THAT WAS DRAWN FIRST: where the box answers 15 it hands out nothing, and nothing is read (30)
pub position-again : (x y : Held) (k : ℕ) → HandsOutAgain x k y → (n : ℕ) (f : Fix) → fix_answer (handed_of y k) n ≡ Ok f → fix_answer (handed_of x k) n ≡ Ok f
position-again x y k w n f e = elim w.or15 [
  | inl z ↦ sym ((w.equal z).2.each n) ∙ e
  | inr z ↦
      let none : handout_of y k ≡ 0 → ⊥ = λ o. omega (arith, o, z) in
      absurd (found-not-refused f 30 (sym e ∙ ap (λ (s : List ℕ). fix_answer s n) (handout-empty y.state y.image k none) ∙ (nothing_read.1 n).0))
]

-- THE OTHER SIDE: a run keeps the module, or has a call that answered "new" and emptied or dropped it; and never both
pub kept_or-undone : (x : Held) (k : ℕ) (ss : List (List ℕ)) → Keeps x k ss ⊎ Undone x k ss
kept_or-undone x k ss = go (keeps_all x k ss) refl
  where
    go : (t : Bool) → keeps_all x k ss ≡ t → Keeps x k ss ⊎ Undone x k ss
    go true e = inl e
    go false e = inr (not-kept x k ss e)

pub not-both : (x : Held) (k : ℕ) (ss : List (List ℕ)) → Undone x k ss → Keeps x k ss → ⊥
not-both = never_both

module _ (x : Held) (k : ℕ) (u : Announces x k) (whole : is_complete x k ≡ true) where
  -- "A module that was complete answers 20 or 13 after a run only if some call of the run answered "new" and that announcement emptied or dropped it."
  pub only_if : (ss : List (List ℕ)) → AnswersUnfinished k (walk x ss) → Undone x k ss
  only_if ss e = elim (kept_or-undone x k ss) [
    | inl n ↦ let w = stays-whole x k u ss n in elim e [ inl a ↦ absurd (w.never20 whole a) | inr a ↦ absurd (w.never13 a) ]
    | inr w ↦ w
  ]

  pub only_if_of-calls : (cs : List Call) → AnswersUnfinished k (called x cs) → Undone x k (took_by cs)
  only_if_of-calls cs e = only_if (took_by cs) (subst (AnswersUnfinished k) (calls-walk_any x cs) e)

  -- "EXACTLY WHEN IT CAN BECOME UNFINISHED": a run at some point of which the module is dropped or lacks a block is a run with such a call
  pub exactly_when : (ss : List (List ℕ)) → AtSomePoint (Unfinished k) x ss ↔ Undone x k ss
  exactly_when ss = (had-one, undone_unfinished x k ss)
    where
      had-one : AtSomePoint (Unfinished k) x ss → Undone x k ss
      had-one w = elim (kept_or-undone x k ss) [
        | inl n ↦
            let f = keeps-front x k w.sofar w.rest (subst (λ (l : List (List ℕ)). Keeps x k l) w.whole n) in
            let s = stays-whole x k u w.sofar f in
            let h = s.announced in
            elim w.there [ inl d ↦ absurd (omega (arith, d, h)) | inr c ↦ absurd (clash _ (s.stays_complete whole) c) ]
        | inr v ↦ v
      ]

  -- and in a box whose image holds 262,144 bytes, at the same runs the hand-out at some point answers 20 or 13
  pub exactly_when-answered : ruled_of x.state ≡ true → full_image ≤ length x.image → (ss : List (List ℕ)) → AtSomePoint (AnswersUnfinished k) x ss ↔ Undone x k ss
  exactly_when-answered r l ss = (
    (λ w. (exactly_when ss).0 (record { sofar = w.sofar; rest = w.rest; whole = w.whole; there = number_unfinished (walk x w.sofar) k w.there })),
    (λ v.
        let w = (exactly_when ss).1 v in
        let m = walk-long x w.sofar in
        record { sofar = w.sofar; rest = w.rest; whole = w.whole; there = unfinished-number (walk x w.sofar) k (walk_rule x w.sofar r) (omega arith) w.there }),
  )

-- WHICH ANNOUNCEMENTS THESE ARE: a section that answers "new" keeps the module exactly where downloadId, blockSize, number, version, size and start, as it says them, are those of the
-- record. (Which sections answer "new": Two.antt, `new-accepted`, `kind-new`.)
pub announcement-decides : (x : Held) (k : ℕ) (s : List ℕ) → fate_of x s ≡ Ok (kind.Carousel answer.New) → Keeps x k (s ∷ []) ↔ SameModule (record_of x.state) (unmarked (said_announcement s)) k
announcement-decides = new-keeps-exactly

-- NOT VACUOUS: "for every announcement within the limits and an image long enough there is a run that completes every module (the player of §13 gives it)". From the empty record it is
-- one rotation. After it, the same rotation again, as often as shore sends it and in any order, keeps every module.
module _ (id : ℕ) (a : Announced) (within : Playable a) (image : List ℕ) (room : Holding a image) where
  abbrev pub start : Held
  start = record { state = empty_record; image = image }

  pub rotation_completes : CompletesAll a (walk start (rotation id a image))
  rotation_completes = ends-complete a image (walk start (rotation id a image)) (rotation-told id a within image room image room) (one-rotation id a within image room image room).1

  pub rotation-goes-on : (k : ℕ) (ss : List (List ℕ)) → ((s : List ℕ) → Holds ss s → Holds (rotation id a image) s) → Keeps (walk start (rotation id a image)) k ss
  rotation-goes-on k ss own =
      let x = walk start (rotation id a image) in
      let r = walk_rule start (rotation id a image) empty-ruled in
      quiet_keeps x k ss (no-new id a within image room x r rotation_completes.told ss (λ s h. own-one id a within image room s (own s h)))

-- And there is one from any record that keeps its rule, whatever it holds, for any image of shore's: each module ends equal to the shore's. Where a box has kept blocks with other bytes,
-- no rotation alone replaces them (17); an announcement of another download before it empties all.
pub some-run : (a : Announced) → Playable a → (shore : List ℕ) → Holding a shore → (x : Held) → ruled_of x.state ≡ true → Holding a x.image
    → (ss : List (List ℕ)) × CompletesAll a (walk x ss) × ((i : ℕ) → i < length a.modules → Ends a shore (walk x ss) i)
some-run = any_box
