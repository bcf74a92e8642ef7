-- Whatever a box that keeps its rule holds, some run completes every module of an announcement with the shore's bytes: behind Whole.antt, `some-run`.
use Prim.Native.Nat.{ℕ, ◌^◌, ◌<◌}
use mathlib.Core.Path.{◌≡◌, refl, sym, ap, ◌∙◌}
use mathlib.Core.Bool.{Bool, true, false}
use mathlib.Core.List.Memᴰ
use mathlib.Core.List.{List, [], ◌∷◌}
use native.Mathlib.Omega.{arith}
use lib.Dec.{eqb}
use lib.ListN.{length}
use borrow.Author.Tests.{eqb-true, eqb-false}
use Rattle.carousel_messages.specs.Heard.{Announced}
use Rattle.carousel_record.specs.Record.{module_at, ruled_of}
use Rattle.carousel_record.proofs.Laws.Keeping.{same_means}
use Rattle.carousel_play.specs.Bytes.{announcement_bytes}
use Rattle.carousel_play.specs.Rotation.{block_sections, rotation, Playable, Holding}
use Rattle.carousel_play.proofs.Laws.Members.{rotation-holds}
use Rattle.receiver.specs.Run.{Held, given, walk}
use Rattle.demands.specs.Demand.{told, same_in}
use Rattle.demands.specs.Shore.{Ends}
use Rattle.demands.specs.Whole.{CompletesAll}
use Rattle.demands.proofs.Walks.{next_rule}
use Rattle.demands.proofs.After.{handed_means}
use Rattle.demands.proofs.Played.{told_it, own-told}
use Rattle.demands.proofs.Player.{own-one, any_order, emptied_has}
use Rattle.demands.proofs.Lasting.{handed-ruled, walk-long}

-- where each module ends whole, all are complete
pub ends-complete : (a : Announced) (image : List ℕ) (x : Held) → told x ≡ a → ((i : ℕ) → i < length a.modules → Ends a image x i) → CompletesAll a x
ends-complete a image x e ends = record {
  told = e;
  complete = λ i l. let h = (ends i l).number in ((handed_means _ _ (handed-ruled _ _ h)).0 h).2;
  handed = λ i l. (ends i l).number;
}

-- A BOX THAT HOLDS ANOTHER DOWNLOAD keeps nothing: one rotation completes every module
module _ (a : Announced) (ok : Playable a) (image : List ℕ) (holds : Holding a image)
    (y : Held) (r : ruled_of y.state ≡ true) (room : Holding a y.image) (differs : (told y).download ≡ a.download → ⊥) where
  other : told y ≡ a → ⊥
  other e = differs (ap (λ (c : Announced). c.download) e)

  none-same : (k : ℕ) → same_in y (given y (announcement_bytes 0 a)) k ≡ false
  none-same k = go (same_in y (given y (announcement_bytes 0 a)) k) refl
    where
      go : (t : Bool) → same_in y (given y (announcement_bytes 0 a)) k ≡ t → same_in y (given y (announcement_bytes 0 a)) k ≡ false
      go true e = absurd (differs ((same_means _ _ _ _ e).download ∙ ap (λ (c : Announced). c.download) (told_it 0 a ok image holds y r other room)))
      go false e = e

  ends : (i : ℕ) → i < length a.modules → Ends a image (walk y (rotation 0 a image)) i
  ends i u =
      any_order 0 a ok image holds y r other room (block_sections a image) (λ s h. Memᴰ.tail h) (λ j b v w. rotation-holds a image j b v w) i u
      (emptied_has 0 a ok image holds y r other room i u (none-same (module_at a i).number))

  completes : CompletesAll a (walk y (rotation 0 a image))
  unfolding walk
  completes =
      let e = own-told 0 a ok image holds y r other room (block_sections a image) (λ s h. own-one 0 a ok image holds s (Memᴰ.tail h)) in
      ends-complete a image (walk y (rotation 0 a image)) e ends

-- a download that is neither of two
record Other (d e : ℕ) : Type 0 where
  download : ℕ
  small : download < 2 ^ 32
  first : d ≡ download → ⊥
  second : download ≡ e → ⊥

another : (d e : ℕ) → Other d e
another d e = go (eqb d 0) (eqb e 0) (eqb d 1) (eqb e 1) refl refl refl refl
  where
    go : (t u v w : Bool) → eqb d 0 ≡ t → eqb e 0 ≡ u → eqb d 1 ≡ v → eqb e 1 ≡ w → Other d e
    go false false v w p q r s = record { download = 0; small = omega arith; first = eqb-false d 0 p; second = λ z. eqb-false e 0 q (sym z) }
    go true u v false p q r s = let o = eqb-true d 0 p in record { download = 1; small = omega arith; first = λ z. omega arith; second = λ z. eqb-false e 1 s (sym z) }
    go true u v true p q r s = let o = eqb-true d 0 p in let n = eqb-true e 1 s in record { download = 2; small = omega arith; first = λ z. omega arith; second = λ z. omega arith }
    go false true false w p q r s = let o = eqb-true e 0 q in record { download = 1; small = omega arith; first = eqb-false d 1 r; second = λ z. omega arith }
    go false true true w p q r s = let o = eqb-true e 0 q in let n = eqb-true d 1 r in record { download = 2; small = omega arith; first = λ z. omega arith; second = λ z. omega arith }

-- ANY BOX: an announcement of another download empties all that it holds, and then comes one rotation of the shore's
abbrev under : ℕ → Announced → Announced
under d a = record { download = d; block_size = a.block_size; modules = a.modules }

also_playable : (d : ℕ) → d < 2 ^ 32 → (a : Announced) → Playable a → Playable (under d a)
also_playable d s a ok = record {
  keeps = record {
    block_some = ok.keeps.block_some;
    block_most = ok.keeps.block_most;
    modules_some = ok.keeps.modules_some;
    modules_most = ok.keeps.modules_most;
    sizes = ok.keeps.sizes;
    together = ok.keeps.together;
    distinct = ok.keeps.distinct;
  };
  download = s;
  number = ok.number;
  version = ok.version;
}

pub any_box : (a : Announced) → Playable a → (shore : List ℕ) → Holding a shore → (x : Held) → ruled_of x.state ≡ true → Holding a x.image
    → (ss : List (List ℕ)) × CompletesAll a (walk x ss) × ((i : ℕ) → i < length a.modules → Ends a shore (walk x ss) i)
unfolding walk
any_box a ok shore holds x r room =
    let w = another (told x).download a.download in
    let b = under w.download a in
    let s = announcement_bytes 0 b in
    let t : told (given x s) ≡ b = told_it 0 b (also_playable w.download w.small a ok) shore holds x r (λ e. w.first (ap (λ (c : Announced). c.download) e)) room in
    let l = walk-long x (s ∷ []) in
    let d : (told (given x s)).download ≡ a.download → ⊥ = λ e. w.second (sym (ap (λ (c : Announced). c.download) t) ∙ e) in (
      s ∷ rotation 0 a shore,
      completes a ok shore holds (given x s) (next_rule x s r) (omega arith) d,
      ends a ok shore holds (given x s) (next_rule x s r) (omega arith) d,
    )
