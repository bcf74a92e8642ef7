-- EACH NUMBER EXACTLY IN ITS CASE, in plain facts. 02, §13: "Refusals: 10, 11, 15, 19, and 21 for a short buffer, lowest first; what lies past the section is unchanged."
use Prim.Native.Nat.{ℕ, ◌+◌, ◌≤◌, ◌<◌}
use mathlib.Core.Path.{◌≡◌, refl, sym, ap, ◌∙◌}
use mathlib.Core.Logic.{◌↔◌, ◌⊎◌, inl, inr}
use mathlib.Core.Bool.{Bool, true, false, not, ◌||◌}
use mathlib.Core.List.{List, [], ◌∷◌, ◌++◌}
use native.Mathlib.Omega.{arith}
use lib.Dec.{ltb}
use lib.ListN.{length, drop, length-map, length-take}
use borrow.Author.Tests.{lt-ltb, le-ltb, ltb-true, ltb-false, eq-eqb, ne_eqb, not-true, not-false}
use Rattle.wire.specs.Tests.{Tests, holds, RisingFrom}
use Rattle.wire.proofs.Laws.Tests.{neither, lowest_met}
use Rattle.wire.proofs.Laws.Order.{None, none-exactly, nth-exactly, unmet}
use Rattle.wire.specs.Outcomes.{answered}
use Rattle.wire.proofs.Laws.Outcomes.{is_refused, not_refused}
use Rattle.carousel_messages.specs.Limits.{most_modules, beyond10, twice11}
use Rattle.carousel_messages.specs.Heard.{Announced, sizes_of, numbers_of}
use Rattle.carousel_messages.proofs.Good.{ten-exactly as ten-facts, distinct-there, distinct-back}
use Rattle.carousel_record.specs.Record.{module_at, bytes_of, block_count}
use Rattle.carousel_record.specs.Refusals.{meets15}
use Rattle.carousel_play.specs.declared.Playlist.{Playlist}
use Rattle.carousel_play.specs.Bytes.{announcement_bytes}
use Rattle.carousel_play.specs.Rotation.{blocks_to, section_count, section_at, KeepsLimits, Holding}
use Rattle.carousel_play.specs.Calls.{to_play, InLimits, Different, limit_tests, limit_refusal, play_tests, play_refusal, count_answer, play_answer, played_bytes}
use Rattle.carousel_play.proofs.Laws.Limits.{not_ten}
use Rattle.carousel_play.proofs.Laws.Places.{places}
use Rattle.carousel_play.proofs.Laws.Chosen.{announcement-size, section-size, chosen}
use Rattle.std.proofs.Common.{Result, Ok, Err}

module _ (p : Playlist) where
  abbrev a : Announced
  a = to_play p

  abbrev test10 : Bool
  test10 = ltb most_modules p.count || beyond10 p.block_size (sizes_of a.modules)

  counted-most : p.count ≤ most_modules → length a.modules ≤ most_modules
  unfolding to_play
  counted-most h = let l = length-take p.count p.modules in omega arith

  test10-is : (test10 ≡ false) ↔ InLimits p
  test10-is = (there, back)
    where
      there : test10 ≡ false → InLimits p
      there e =
          let h = neither (ltb most_modules p.count) (beyond10 p.block_size (sizes_of a.modules)) e in
          let w = (ten-facts p.block_size (sizes_of a.modules)).0 h.1 in
          let l = length-map a.modules (λ m. m.size) in
          record {
            block_some = w.0;
            block_most = w.1;
            modules_some = omega (arith, l, w.2);
            modules_most = ltb-false most_modules p.count h.0;
            sizes = w.4;
            together = w.5;
          }

      back : InLimits p → test10 ≡ false
      back g =
          let l = length-map a.modules (λ m. m.size) in
          let k = counted-most g.modules_most in
          rw (
            le-ltb most_modules p.count g.modules_most,
            (ten-facts p.block_size (sizes_of a.modules)).1 (g.block_some, g.block_most, omega (arith, l, g.modules_some), omega (arith, l, k), g.sizes, g.together),
          )

  test11-is : (twice11 (numbers_of a.modules) ≡ false) ↔ Different p
  test11-is = (distinct-there (numbers_of a.modules), distinct-back (numbers_of a.modules))

  -- BOTH LIMITS ARE KEPT exactly where a rotation is counted
  limits-none : None (limit_tests p) ↔ (InLimits p × Different p)
  limits-none = (λ n. (test10-is.0 n.0, test11-is.0 n.1.0), λ h. (test10-is.1 h.0, (test11-is.1 h.1, tt)))

  pub limits-exactly : (limit_refusal p ≡ 0) ↔ (InLimits p × Different p)
  unfolding limit_refusal
  limits-exactly =
      let n = none-exactly (limit_tests p) (λ z. omega arith, (λ z. omega arith, tt)) in
      (λ e. limits-none.0 (n.0 e), λ h. n.1 (limits-none.1 h))

  -- THE COUNT'S REFUSALS
  pub count_ten : (limit_refusal p ≡ 10) ↔ (InLimits p → ⊥)
  unfolding limit_refusal
  count_ten =
      let n = nth-exactly [] 10 test10 ((11, twice11 (numbers_of a.modules)) ∷ []) (omega arith, (omega arith, tt)) in
      let u = unmet test10 test10-is in
      (λ e. u.0 (n.0 e).1, λ h. n.1 (tt, u.1 h))

  pub count_eleven : (limit_refusal p ≡ 11) ↔ (InLimits p × (Different p → ⊥))
  unfolding limit_refusal
  count_eleven =
      let n = nth-exactly ((10, test10) ∷ []) 11 (twice11 (numbers_of a.modules)) [] (omega arith, (omega arith, tt)) in
      let u = unmet (twice11 (numbers_of a.modules)) test11-is in
      (λ e. let h = n.0 e in (test10-is.0 h.0.0, u.0 h.1), λ h. n.1 ((test10-is.1 h.0, tt), u.1 h.1))

  -- THE SECTION'S REFUSALS
  module _ (id : ℕ) (image : List ℕ) (k room : ℕ) where
    abbrev s : List ℕ
    s = section_at id a image k

    abbrev from15 : Tests
    from15 = (15, meets15 a (length image)) ∷ (19, not (ltb k (section_count a))) ∷ (21, ltb room (length s)) ∷ []

    rising : RisingFrom 0 (play_tests id p image k room)
    rising = (omega arith, (omega arith, (omega arith, (omega arith, (omega arith, tt)))))

    test15-is : (meets15 a (length image) ≡ false) ↔ Holding a image
    unfolding meets15
    test15-is = (ltb-false (length image) (bytes_of a), le-ltb (length image) (bytes_of a))

    test19-is : (not (ltb k (section_count a)) ≡ false) ↔ (k < section_count a)
    test19-is = (λ e. ltb-true k (section_count a) (not-false _ e), λ h. rw (lt-ltb k (section_count a) h))

    test21-is : (ltb room (length s) ≡ false) ↔ (length s ≤ room)
    test21-is = (ltb-false room (length s), le-ltb room (length s))

    -- it is written exactly when nothing is wrong
    pub written-exactly : (play_refusal id p image k room ≡ 0) ↔ (InLimits p × Different p × Holding a image × (k < section_count a) × (length s ≤ room))
    unfolding play_refusal
    written-exactly =
        let n = none-exactly (play_tests id p image k room) (λ z. omega arith, (λ z. omega arith, (λ z. omega arith, (λ z. omega arith, (λ z. omega arith, tt))))) in (
          λ e. let h = n.0 e in (test10-is.0 h.0, test11-is.0 h.1.0, test15-is.0 h.1.1.0, test19-is.0 h.1.1.1.0, test21-is.0 h.1.1.1.1.0),
          λ h. n.1 (test10-is.1 h.0, (test11-is.1 h.1, (test15-is.1 h.2, (test19-is.1 h.3, (test21-is.1 h.4, tt))))),
        )

    pub ten-exactly : (play_refusal id p image k room ≡ 10) ↔ (InLimits p → ⊥)
    unfolding play_refusal
    ten-exactly =
        let n = nth-exactly [] 10 test10 ((11, twice11 (numbers_of a.modules)) ∷ from15) rising in
        let u = unmet test10 test10-is in
        (λ e. u.0 (n.0 e).1, λ h. n.1 (tt, u.1 h))

    pub eleven-exactly : (play_refusal id p image k room ≡ 11) ↔ (InLimits p × (Different p → ⊥))
    unfolding play_refusal
    eleven-exactly =
        let n = nth-exactly ((10, test10) ∷ []) 11 (twice11 (numbers_of a.modules)) from15 rising in
        let u = unmet (twice11 (numbers_of a.modules)) test11-is in
        (λ e. let h = n.0 e in (test10-is.0 h.0.0, u.0 h.1), λ h. n.1 ((test10-is.1 h.0, tt), u.1 h.1))

    pub fifteen-exactly : (play_refusal id p image k room ≡ 15) ↔ (InLimits p × Different p × (Holding a image → ⊥))
    unfolding play_refusal
    fifteen-exactly =
        let n = nth-exactly (limit_tests p) 15 (meets15 a (length image)) ((19, not (ltb k (section_count a))) ∷ (21, ltb room (length s)) ∷ []) rising in
        let u = unmet (meets15 a (length image)) test15-is in
        (λ e. let h = n.0 e in let l = limits-none.0 h.0 in (l.0, l.1, u.0 h.1), λ h. n.1 (limits-none.1 (h.0, h.1), u.1 h.2))

    pub nineteen-exactly : (play_refusal id p image k room ≡ 19) ↔ (InLimits p × Different p × Holding a image × (section_count a ≤ k))
    unfolding play_refusal
    nineteen-exactly =
        let us : Tests = limit_tests p ++ ((15, meets15 a (length image)) ∷ []) in
        let n = nth-exactly us 19 (not (ltb k (section_count a))) ((21, ltb room (length s)) ∷ []) rising in (
          λ e. let h = n.0 e in (test10-is.0 h.0.0, test11-is.0 h.0.1.0, test15-is.0 h.0.1.1.0, ltb-false k (section_count a) (not-true _ h.1)),
          λ h. n.1 ((test10-is.1 h.0, (test11-is.1 h.1, (test15-is.1 h.2, tt))), rw (le-ltb k (section_count a) h.3)),
        )

    pub twenty-one-exactly : (play_refusal id p image k room ≡ 21) ↔ (InLimits p × Different p × Holding a image × (k < section_count a) × (room < length s))
    unfolding play_refusal
    twenty-one-exactly =
        let us : Tests = limit_tests p ++ ((15, meets15 a (length image)) ∷ (19, not (ltb k (section_count a))) ∷ []) in
        let n = nth-exactly us 21 (ltb room (length s)) [] rising in (
          λ e. let h = n.0 e in (test10-is.0 h.0.0, test11-is.0 h.0.1.0, test15-is.0 h.0.1.1.0, test19-is.0 h.0.1.1.1.0, ltb-true room (length s) h.1),
          λ h. n.1 ((test10-is.1 h.0, (test11-is.1 h.1, (test15-is.1 h.2, (test19-is.1 h.3, tt)))), lt-ltb room (length s) h.4),
        )

    -- "lowest first"
    pub lowest-exactly : (n : ℕ) → 0 < n
        → (play_refusal id p image k room ≡ n) ↔ ((holds n (play_tests id p image k room) ≡ true) × ((m : ℕ) → m < n → holds m (play_tests id p image k room) ≡ false))
    unfolding play_refusal
    lowest-exactly = lowest_met (play_tests id p image k room) rising

-- THE ANSWERS: a number, or the section's size; and the buffer, of which a refusal changes nothing
module _ (id : ℕ) (p : Playlist) (image : List ℕ) (k : ℕ) (out : List ℕ) where
  abbrev n : ℕ
  n = play_refusal id p image k (length out)

  abbrev section : List ℕ
  section = section_at id (to_play p) image k

  pub refused-keeps : (n ≡ 0 → ⊥) → (play_answer id p image k (length out) ≡ Err n) × (played_bytes id p image k out ≡ out)
  unfolding play_answer played_bytes
  refused-keeps h = (is_refused n _ h, rw (ne_eqb n 0 h))

  pub written_is : n ≡ 0 → (play_answer id p image k (length out) ≡ Ok (length section)) × (played_bytes id p image k out ≡ section ++ drop (length section) out)
  unfolding play_answer played_bytes
  written_is h = (ap (λ m. answered m (length section)) h, rw (eq-eqb n 0 h))

pub count_answers : (p : Playlist) → (limit_refusal p ≡ 0 → count_answer p ≡ Ok (section_count (to_play p))) × ((limit_refusal p ≡ 0 → ⊥) → count_answer p ≡ Err
    (limit_refusal p))
unfolding count_answer
count_answers p = (λ h. ap (λ m. answered m (section_count (to_play p))) h, λ h. is_refused (limit_refusal p) _ h)

-- a count is answered exactly where the limits are kept
pub count-exactly : (p : Playlist) (n : ℕ) → (count_answer p ≡ Ok n) ↔ ((limit_refusal p ≡ 0) × (n ≡ section_count (to_play p)))
unfolding count_answer
count-exactly p n = (λ e. told (limit_refusal p) _ e, λ h. (count_answers p).0 h.0 ∙ ap Ok (sym h.1))
  where
    same : (m k : ℕ) → ◌≡◌ {A = Result ℕ ℕ} (Ok m) (Ok k) → m ≡ k
    same m k e = cc

    told : (m k : ℕ) → answered m k ≡ Ok n → (m ≡ 0) × (n ≡ k)
    told m k e =
        let z = not_refused m k n (sym e) in
        (z, same _ _ (sym e ∙ ap (λ i. answered i k) z))

-- and the announcement that is then played is within the limits
pub keeps_limits : (p : Playlist) → InLimits p → Different p → KeepsLimits (to_play p)
unfolding to_play
keeps_limits p g d = record {
  block_some = g.block_some;
  block_most = g.block_most;
  modules_some = g.modules_some;
  modules_most = let l = length-take p.count p.modules in omega (arith, l, g.modules_most);
  sizes = g.sizes;
  together = g.together;
  distinct = d;
}

-- A BUFFER OF 4,096 BYTES HAS ROOM for every section, and so is never refused with 21
pub room-enough : (id : ℕ) (a : Announced) → KeepsLimits a → (image : List ℕ) → Holding a image → (k : ℕ) → k < section_count a → length (section_at id a image k) ≤ 4096
room-enough id a ok image h k l = go (places a k l)
  where
    go : (k ≡ 0) ⊎ ((i : ℕ) × (b : ℕ) × (i < length a.modules) × (b < block_count a i) × (k ≡ 1 + (blocks_to a i + b))) → length (section_at id a image k) ≤ 4096
    go (inl z) =
        let e = announcement-size id a ok.modules_most in
        let f : length (section_at id a image k) ≡ length (announcement_bytes id a) = ap (λ (n : ℕ). length (section_at id a image n)) z in
        omega (arith, e, f, ok.modules_most)
    go (inr (i, b, u, v, e)) =
        let s = section-size a (not_ten a ok) i b u v (module_at a i) refl image id (blocks_to a i + b) refl h in
        let c = (chosen a (not_ten a ok) i b u v (module_at a i) refl).short in
        let f : length (section_at id a image k) ≡ length (section_at id a image (1 + (blocks_to a i + b))) = ap (λ (n : ℕ). length (section_at id a image n)) e in
        omega (arith, s, c, f)
