-- What calls of the player put, place after place, is the rotation.
use Prim.Native.Nat.{ℕ, zero, suc, ◌≤◌, ◌<◌}
use mathlib.Core.Path.{◌≡◌, refl, sym, ap, ap₂, ◌∙◌}
use mathlib.Core.List.{List, [], ◌∷◌, ◌++◌}
use native.Mathlib.Omega.{arith}
use lib.ListN.{length, take, drop}
use lib.Seq.{take-suc, take-length, take-append_seam}
use Rattle.carousel_play.specs.declared.Playlist.{Playlist}
use Rattle.carousel_play.specs.Rotation.{rotation, section_count, section_at, Playable, Holding}
use Rattle.carousel_play.specs.Calls.{to_play, InLimits, Different, play_refusal, count_answer}
use Rattle.carousel_play.proofs.Exact.{limits-exactly, written-exactly, written_is, count-exactly, keeps_limits, room-enough}
use Rattle.carousel_play.proofs.Laws.Places.{rotation-long}
use Rattle.demands.specs.Shore.{Widths, size_told, put_by, sent_by}
use Rattle.std.proofs.Common.{Result, Ok}

module _ (p : Playlist) (n : ℕ) (told : count_answer p ≡ Ok n) where
  limits : InLimits p × Different p
  limits = (limits-exactly p).0 ((count-exactly p n).0 told).0

  -- its announcement is one that can be played
  pub playable : Widths p → Playable (to_play p)
  unfolding to_play
  playable w = record { keeps = keeps_limits p limits.0 limits.1; download = w.download; number = w.number; version = w.version }

  pub count-is : n ≡ section_count (to_play p)
  count-is = ((count-exactly p n).0 told).1

  module _ (id : ℕ) (image : List ℕ) (holds : Holding (to_play p) image) where
    -- one call, into a buffer of 4,096 bytes or more
    pub put_is : (k : ℕ) → k < n → (out : List ℕ) → 4096 ≤ length out → put_by id p image k out ≡ section_at id (to_play p) image k
    unfolding put_by
    put_is k l out room =
        let e = count-is in
        let u : k < section_count (to_play p) = omega (arith, e, l) in
        let s = section_at id (to_play p) image k in
        let f = room-enough id (to_play p) (keeps_limits p limits.0 limits.1) image holds k u in
        let z : play_refusal id p image k (length out) ≡ 0 = (written-exactly p id image k (length out)).1 (limits.0, limits.1, holds, u, omega (arith, f, room)) in
        let w = written_is id p image k out z in
        ap₂ (λ (a : Result ℕ ℕ) (x : List ℕ). take (size_told a) x) w.0 w.1 ∙ take-append_seam s (drop (length s) out)

    -- all of them
    module _ (buffers : ℕ → List ℕ) (room : (k : ℕ) → k < n → 4096 ≤ length (buffers k)) where
      long : length (rotation id (to_play p) image) ≡ n
      long = rotation-long (to_play p) image id ∙ sym count-is

      first_sent : (m : ℕ) → m ≤ n → sent_by id p image buffers m ≡ take m (rotation id (to_play p) image)
      unfolding sent_by
      first_sent zero l = refl
      first_sent (suc m) l =
          let e = long in
          ap₂ (λ (xs : List (List ℕ)) (x : List ℕ). xs ++ (x ∷ [])) (first_sent m (omega arith)) (put_is m (omega arith) (buffers m) (room m (omega arith)))
          ∙ sym (take-suc (rotation id (to_play p) image) m [] (omega arith))

      pub sent_is : sent_by id p image buffers n ≡ rotation id (to_play p) image
      sent_is = first_sent n (omega arith) ∙ ap (λ (k : ℕ). take k (rotation id (to_play p) image)) (sym long) ∙ take-length (rotation id (to_play p) image)
