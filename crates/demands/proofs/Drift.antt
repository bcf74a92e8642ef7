-- THE DRIFT LIST, FROM THE AIR TO THE CHART. 00: "The position was last week's: old bytes, left in the receiver where a block of the new list had never been heard."
-- 02, §1: "Demands 1 to 3 read as before."
--
-- Here k is the number of the list's module, x the record and image that a call left which answered "new" and emptied it, ss any run that keeps it (new announcements among its
-- sections, where they keep it), and y what the run leaves. `list_answer`, `fix_answer` and `walk_answer` are what drift_list's `read`, `record_at` and
-- `walk_at` answer; `heard_module` is the module's blocks' data,
-- joined in order, each as it first matched in this run.
use Prim.Native.Nat.{ℕ, ◌≤◌, ◌<◌}
use mathlib.Core.Path.{◌≡◌, refl, sym, ap, ap₂, subst, ◌∙◌}
use mathlib.Core.Logic.{◌↔◌}
use mathlib.Core.Bool.{Bool, true, false, cond}
use mathlib.Core.List.{List, [], ◌∷◌}
use native.Mathlib.Omega.{arith}
use lib.Dec.{eqb}
use lib.ListN.{length}
use borrow.Author.Tests.{eqb-true, eqb-false}
use Rattle.carousel_messages.specs.Heard.{Announced, heard_of}
use Rattle.wire.proofs.Laws.Tests.{clash}
use Rattle.carousel_record.specs.Record.{record_of, place_of, bytes_of, block_count, ruled_of}
use Rattle.carousel_step.specs.Step.{StepOutcome, new, same_announced}
use Rattle.carousel_step.proofs.Views.{Held as Said, after, is_new as madeNew}
use Rattle.carousel_step.proofs.Renewed.{afresh-told}
use Rattle.carousel_step.specs.Matching.{heard_matches}
use Rattle.carousel_handout.proofs.Complete.{handout-empty}
use Rattle.receiver.specs.Run.{Held, given, walk}
use Rattle.drift_list.specs.declared.Fix.{Fix}
use Rattle.drift_list.specs.Values.{fix_of}
use Rattle.drift_list.specs.Reading.{count_of, fix_at, read_refusal}
use Rattle.drift_list.specs.Answers.{list_answer, fix_answer, walk_answer}
use Rattle.drift_list.proofs.Answers.{found-not-refused, found-told, nothing_read}
use Rattle.demands.specs.Demand.{fate_of, is_new, told, modules, Announces, blocks, matches, section_data, HasRoom, handout_of}
use Rattle.demands.specs.Demand.{handed_of, Emptied, Keeps, Came, first_data, joined_blocks, heard_module, Call, called, took_by}
use Rattle.demands.proofs.Given.{saying, given-says, new-says, renewal}
use Rattle.demands.proofs.Lists.{joined_ext}
use Rattle.demands.proofs.Walks.{next_rule, old_fixed, also-new, keeps-parts, stays-there, one-long, came_by}
use Rattle.demands.proofs.After.{emptied-ruled, came_means}
use Rattle.demands.proofs.Three.{handed_out_lem, content-handed_out, calls-walk_any}
use Rattle.std.proofs.Common.{Ok, Err}

module _ (x : Held) (k : ℕ) (start : Emptied x k) (ss : List (List ℕ)) (keeps : Keeps x k ss) where
  abbrev y : Held
  y = walk x ss

  -- "when the hand-out gives the module of the list, the records read are those of its blocks' data joined in order, each as it first matched"
  handed-heard : handout_of y k ≡ 0 → handed_of y k ≡ heard_module x k ss
  handed-heard h = content-handed_out x k start ss keeps h

  pub drawn : handout_of y k ≡ 0
      → (list_answer (handed_of y k) ≡ list_answer (heard_module x k ss))
      × ((n : ℕ) → fix_answer (handed_of y k) n ≡ fix_answer (heard_module x k ss) n)
      × ((n : ℕ) → walk_answer (handed_of y k) n ≡ walk_answer (heard_module x k ss) n)
  drawn h = let e = handed-heard h in (ap list_answer e, λ n. ap (λ (l : List ℕ). fix_answer l n) e, λ n. ap (λ (l : List ℕ). walk_answer l n) e)

  -- "and while a block is missing nothing is read at all": the hand-out refuses, and who reads what it hands out all the same is refused with 30
  pub nothing_drawn : (b : ℕ) → b < blocks x k → (Came x k b ss → ⊥)
      → (handout_of y k ≡ 0 → ⊥)
      × (list_answer (handed_of y k) ≡ Err 30)
      × ((n : ℕ) → (fix_answer (handed_of y k) n ≡ Err 30) × (walk_answer (handed_of y k) n ≡ Err 30))
  nothing_drawn b l none =
      let h : handout_of y k ≡ 0 → ⊥ = λ e. none (((handed_out_lem x k start ss keeps).0 e).1 b l) in
      let e = handout-empty _ _ _ h in
      (h, ap list_answer e ∙ nothing_read.0, λ n. (ap (λ (s : List ℕ). fix_answer s n) e ∙ (nothing_read.1 n).0, ap (λ (s : List ℕ). walk_answer s n) e ∙ (nothing_read.1 n).1))

  -- A POSITION THAT IS DRAWN WAS HEARD: every block of the list came since the announcement that emptied it, and the position stands in their data
  pub position-heard : (n : ℕ) (f : Fix) → fix_answer (handed_of y k) n ≡ Ok f
      → ((b : ℕ) → b < blocks x k → Came x k b ss)
      × (read_refusal (heard_module x k ss) ≡ 0) × (n < count_of (heard_module x k ss)) × (f ≡ fix_of (fix_at (heard_module x k ss) n))
  position-heard n f e = go (eqb (handout_of y k) 0) refl
    where
      go : (t : Bool) → eqb (handout_of (walk x ss) k) 0 ≡ t → ((b : ℕ) → b < blocks x k → Came x k b ss)
          × (read_refusal (heard_module x k ss) ≡ 0) × (n < count_of (heard_module x k ss)) × (f ≡ fix_of (fix_at (heard_module x k ss) n))
      go true t =
          let h = eqb-true (handout_of (walk x ss) k) 0 t in
          let r = found-told (heard_module x k ss) n f (sym ((drawn h).1 n) ∙ e) in
          (((handed_out_lem x k start ss keeps).0 h).1, r.0, r.1, r.2)
      go false t =
          let z = handout-empty _ _ _ (eqb-false (handout_of (walk x ss) k) 0 t) in
          absurd (found-not-refused f 30 (sym e ∙ ap (λ (s : List ℕ). fix_answer s n) z ∙ (nothing_read.1 n).0))

-- Two records that were told the same, given one section, are told the same again: who takes an announcement for new looks at nothing else.
module _ (x z : Held) (r : ruled_of x.state ≡ true) (q : ruled_of z.state ≡ true) (s : List ℕ) where
  new_too : told x ≡ told z → is_new (fate_of x s) ≡ true → (a : Announced) × (saying (given x s) ≡ after (saying x) (new a))
      × (saying (given z s) ≡ after (saying z) (new a)) × (is_new (fate_of z s) ≡ true)
  unfolding madeNew
  new_too e n =
      let w = renewal x s n in
      let c = also-new z s w.told w.heard (ap (λ (a : Announced). same_announced a w.told) (sym e) ∙ w.other) in
      (w.told, w.left, given-says z s q ∙ ap (λ (o : StepOutcome). after (saying z) o) c, new-says z s q ∙ ap madeNew c)

told-both : (x z : Held) → ruled_of x.state ≡ true → ruled_of z.state ≡ true → 0 < modules x → told x ≡ told z → (s : List ℕ) → told (given x s) ≡ told (given z s)
told-both x z r q m e s = go (is_new (fate_of x s)) (is_new (fate_of z s)) refl refl
  where
    some : 0 < modules z
    some = let l = ap (λ (a : Announced). length a.modules) e in omega arith

    anew : (w : Held) (a : Announced) → saying (given w s) ≡ after (saying w) (new a) → told (given w s) ≡ a
    anew w a l = ap (λ (y : Said). y.says.announced) l ∙ afresh-told (record_of w.state) a

    go : (t u : Bool) → is_new (fate_of x s) ≡ t → is_new (fate_of z s) ≡ u → told (given x s) ≡ told (given z s)
    go true u f g = let w = new_too x z r q s e f in anew x w.0 w.1 ∙ sym (anew z w.0 w.2)
    go false true f g = absurd (clash _ (new_too z x q r s (sym e) g).3 f)
    go false false f g = (old_fixed x s r m f).told ∙ e ∙ sym (old_fixed z s q some g).told

-- and so the same run brings both the same blocks
heard-both : (x z : Held) (k b : ℕ) → ruled_of x.state ≡ true → ruled_of z.state ≡ true → Announces x k → Announces z k → told x ≡ told z → length x.image ≡ length z.image
    → (ss : List (List ℕ)) → Keeps x k ss → Keeps z k ss → (first_data x k ss b ≡ first_data z k ss b) × (came_by x k b ss ≡ came_by z k b ss)
    × (told (walk x ss) ≡ told (walk z ss)) × (length (walk x ss).image ≡ length (walk z ss).image)
unfolding first_data came_by walk
heard-both x z k b r q u v e l [] n m = (refl, refl, e, l)
heard-both x z k b r q u v e l (s ∷ ss) n m =
    let o = keeps-parts x k s ss n in
    let p = keeps-parts z k s ss m in
    let t = one-long x k r u s o.0 ∙ l ∙ sym (one-long z k q v s p.0) in
    let h = heard-both (given x s) (given z s) k b (next_rule x s r) (next_rule z s q) (stays-there x k s r u o.0) (stays-there z k s q v p.0)
    (told-both x z r q (omega arith) e s) t ss o.1 p.1 in
    let w : matches x k b s ≡ matches z k b s = ap₂ (λ (a : Announced) (c : ℕ). heard_matches a c (place_of a k) b (heard_of s)) e l in (
      ap₂ (λ (c : Bool) (ds : List ℕ). cond c (section_data s) ds) w h.0,
      ap₂ (λ (c d : Bool). cond c true d) w h.1,
      h.2,
      h.3,
    )

-- LAST WEEK'S BYTES DON'T MATTER: from two starts with the same announcement and images of one length, whatever bytes and marks were in them before, the same run reads the same
module _ (x z : Held) (k : ℕ) (start : Emptied x k) (other : Emptied z k) (same : told x ≡ told z) (long : length x.image ≡ length z.image)
    (ss : List (List ℕ)) (keeps : Keeps x k ss) (kept : Keeps z k ss) where
  pub old-bytes-never : handed_of (walk x ss) k ≡ handed_of (walk z ss) k
  old-bytes-never = go (eqb (handout_of (walk x ss) k) 0) refl
    where
      heard : (b : ℕ) → (first_data x k ss b ≡ first_data z k ss b) × (came_by x k b ss ≡ came_by z k b ss) × (told (walk x ss) ≡ told (walk z ss)) × (length (walk x ss).image ≡ length
          (walk z ss).image)
      heard b = heard-both x z k b (emptied-ruled x k start) (emptied-ruled z k other) start.announces other.announces same long ss keeps kept

      blocks-alike : blocks x k ≡ blocks z k
      blocks-alike = ap (λ (a : Announced). block_count a (place_of a k)) same

      came-there : (b : ℕ) → Came x k b ss → Came z k b ss
      came-there b c = (came_means z k b ss).0 (sym (heard b).1 ∙ (came_means x k b ss).1 c)

      came-back : (b : ℕ) → Came z k b ss → Came x k b ss
      came-back b c = (came_means x k b ss).0 ((heard b).1 ∙ (came_means z k b ss).1 c)

      room : HasRoom (walk x ss) ≡ HasRoom (walk z ss)
      room = ap₂ (λ (a : Announced) (n : ℕ). bytes_of a ≤ n) (heard 0).2 (heard 0).3

      heard-alike : heard_module x k ss ≡ heard_module z k ss
      heard-alike = joined_ext (blocks x k) _ _ (λ b l. (heard b).0) ∙ ap (λ (n : ℕ). joined_blocks n (λ b. first_data z k ss b)) blocks-alike

      at_x : (handout_of (walk x ss) k ≡ 0) ↔ (HasRoom (walk x ss) × ((b : ℕ) → b < blocks x k → Came x k b ss))
      at_x = handed_out_lem x k start ss keeps

      at_z : (handout_of (walk z ss) k ≡ 0) ↔ (HasRoom (walk z ss) × ((b : ℕ) → b < blocks z k → Came z k b ss))
      at_z = handed_out_lem z k other ss kept

      b : blocks x k ≡ blocks z k
      b = blocks-alike

      go : (t : Bool) → eqb (handout_of (walk x ss) k) 0 ≡ t → handed_of (walk x ss) k ≡ handed_of (walk z ss) k
      go true t =
          let h = eqb-true (handout_of (walk x ss) k) 0 t in
          let c = at_x.0 h in
          let g = at_z.1 (subst (λ (t : Type 0). t) room c.0, λ n l. came-there n (c.1 n (omega (arith, b, l)))) in
          handed-heard x k start ss keeps h ∙ heard-alike ∙ sym (handed-heard z k other ss kept g)
      go false t =
          let n = eqb-false (handout_of (walk x ss) k) 0 t in
          handout-empty _ _ _ n
          ∙ sym (handout-empty _ _ _ (λ g. let c = at_z.0 g in n (at_x.1 (subst (λ (t : Type 0). t) (sym room) c.0, λ m l. came-back m (c.1 m (omega (arith, b, l)))))))

-- OVER CALLS OF ANY KIND: the same, of the sections that they took
module _ (x : Held) (k : ℕ) (start : Emptied x k) (cs : List Call) (keeps : Keeps x k (took_by cs)) where
  pub position-heard_of-calls : (n : ℕ) (f : Fix) → fix_answer (handed_of (called x cs) k) n ≡ Ok f
      → ((b : ℕ) → b < blocks x k → Came x k b (took_by cs)) × (f ≡ fix_of (fix_at (heard_module x k (took_by cs)) n))
  position-heard_of-calls n f e =
      let c = calls-walk_any x cs in
      let r = position-heard x k start (took_by cs) keeps n f (ap (λ (y : Held). fix_answer (handed_of y k) n) (sym c) ∙ e) in
      (r.0, r.3)
