-- The refusals, each way that code finds them.
use Prim.Native.Nat.{ℕ, ◌≤◌, ◌<◌}
use mathlib.Core.Path.{◌≡◌, refl, sym, ap, ◌∙◌}
use mathlib.Core.Bool.{Bool, true, false, not, cond}
use mathlib.Core.List.{List, [], ◌∷◌, ◌++◌}
use native.Mathlib.Omega.{arith}
use lib.Dec.{eqb, ltb}
use lib.ListN.{length, take}
use lib.Seq.{sets}
use borrow.Author.Tests.{lt-ltb, le-ltb, eq-eqb, ne_eqb, ltb-false}
use Rattle.wire.specs.Tests.{Tests, first_met}
use Rattle.wire.specs.Outcomes.{answered, passed}
use Rattle.wire.proofs.Laws.Outcomes.{is_refused, refused_by_lem}
use Rattle.wire.proofs.Laws.Tests.{met_append, neither}
use Rattle.wire.proofs.Laws.Order.{none-exactly}
use Rattle.carousel_messages.specs.Limits.{most_modules, beyond10, twice11}
use Rattle.carousel_messages.specs.Heard.{sizes_of, numbers_of}
use Rattle.carousel_record.specs.Record.{bytes_of}
use Rattle.carousel_record.specs.Refusals.{meets15}
use Rattle.carousel_play.specs.declared.Playlist.{Playlist}
use Rattle.carousel_play.specs.Rotation.{section_count, section_at}
use Rattle.carousel_play.specs.Calls.{to_play, limit_tests, limit_refusal, play_refusal, count_answer, play_answer, played_bytes}
use Rattle.carousel_play.specs.Pieces.{laid_size, laid_over, refusal_before}
use Rattle.carousel_play.proofs.Laws.Pieces.{left-past}
use Rattle.std.proofs.Common.{Result, Ok, Err}

-- a number that refuses one answer refuses any other
refused-too : {A B : Type 0} → (m n : ℕ) (a : A) (b : B) → ◌≡◌ {A = Result A ℕ} (Err m) (answered n a) → ◌≡◌ {A = Result B ℕ} (Err m) (answered n b)
refused-too m n a b e = let r = refused_by_lem m n a e in ap Err r.0 ∙ sym (is_refused n b r.1)

-- 10 AND 11
module _ (p : Playlist) where
  pub too_many : most_modules < p.count → 10 ≡ limit_refusal p
  unfolding limit_refusal first_met
  too_many h = rw (lt-ltb most_modules p.count h)

  module _ (few : p.count ≤ most_modules) where
    pub beyond : true ≡ beyond10 p.block_size (sizes_of (take p.count p.modules)) → 10 ≡ limit_refusal p
    unfolding limit_refusal first_met to_play
    beyond e = rw (le-ltb most_modules p.count few, ← e)

    pub twice : false ≡ beyond10 p.block_size (sizes_of (take p.count p.modules)) → true ≡ twice11 (numbers_of (take p.count p.modules)) → 11 ≡ limit_refusal p
    unfolding limit_refusal first_met to_play
    twice e f = rw (le-ltb most_modules p.count few, ← e, ← f)

    pub within : false ≡ beyond10 p.block_size (sizes_of (take p.count p.modules)) → false ≡ twice11 (numbers_of (take p.count p.modules)) → 0 ≡ limit_refusal p
    unfolding limit_refusal first_met to_play
    within e f = rw (le-ltb most_modules p.count few, ← e, ← f)

  -- where it is 0 the limits are kept
  pub kept : limit_refusal p ≡ 0
      → (p.count ≤ most_modules) × (beyond10 p.block_size (sizes_of (to_play p).modules) ≡ false) × (twice11 (numbers_of (to_play p).modules) ≡ false)
  unfolding limit_refusal
  kept e =
      let h = (none-exactly (limit_tests p) (λ z. omega arith, (λ z. omega arith, tt))).0 e in
      let g = neither (ltb most_modules p.count) (beyond10 p.block_size (sizes_of (to_play p).modules)) h.0 in
      (ltb-false most_modules p.count g.0, g.1, h.1.0)

-- 15, after these
module _ (p : Playlist) (n : ℕ) where
  before-is : refusal_before p n ≡ cond (eqb (limit_refusal p) 0) (first_met ((15, meets15 (to_play p) n) ∷ [])) (limit_refusal p)
  unfolding refusal_before limit_refusal
  before-is = met_append 0 (limit_tests p) ((15, meets15 (to_play p) n) ∷ []) (omega arith, (omega arith, tt))

  by_limits : (limit_refusal p ≡ 0 → ⊥) → limit_refusal p ≡ refusal_before p n
  by_limits h = sym (before-is ∙ ap (λ (t : Bool). cond t (first_met ((15, meets15 (to_play p) n) ∷ [])) (limit_refusal p)) (ne_eqb (limit_refusal p) 0 h))

  pub limits-first : (m : ℕ) → Err m ≡ passed (limit_refusal p) → Err m ≡ passed (refusal_before p n)
  limits-first m e = let r = refused_by_lem m (limit_refusal p) tt e in e ∙ ap passed (by_limits r.1)

  module _ (e : limit_refusal p ≡ 0) where
    after_limits : refusal_before p n ≡ first_met ((15, meets15 (to_play p) n) ∷ [])
    after_limits = before-is ∙ ap (λ (t : Bool). cond t (first_met ((15, meets15 (to_play p) n) ∷ [])) (limit_refusal p)) (eq-eqb (limit_refusal p) 0 e)

    pub short-image : n < bytes_of (to_play p) → 15 ≡ refusal_before p n
    unfolding first_met meets15
    short-image h = rw (after_limits, lt-ltb n (bytes_of (to_play p)) h)

    pub whole-image : bytes_of (to_play p) ≤ n → 0 ≡ refusal_before p n
    unfolding first_met meets15
    whole-image h = rw (after_limits, le-ltb n (bytes_of (to_play p)) h)

  -- where it is 0 the image holds the modules
  pub held : refusal_before p n ≡ 0 → (limit_refusal p ≡ 0) × (bytes_of (to_play p) ≤ n)
  unfolding refusal_before limit_refusal meets15
  held e =
      let us : Tests = (15, meets15 (to_play p) n) ∷ [] in
      let h = (none-exactly (limit_tests p ++ us) (λ z. omega arith, (λ z. omega arith, (λ z. omega arith, tt)))).0 e in
      let a = (none-exactly (limit_tests p) (λ z. omega arith, (λ z. omega arith, tt))).1 (h.0, (h.1.0, tt)) in
      (a, ltb-false n (bytes_of (to_play p)) h.1.1.0)

-- 19 and 21, last; AND THE ANSWER
module _ (id : ℕ) (p : Playlist) (image : List ℕ) (k : ℕ) (out : List ℕ) where
  abbrev s : List ℕ
  s = section_at id (to_play p) image k

  abbrev first : ℕ
  first = refusal_before p (length image)

  abbrev later : Tests
  later = (19, not (ltb k (section_count (to_play p)))) ∷ (21, ltb (length out) (length s)) ∷ []

  refusal_is : play_refusal id p image k (length out) ≡ cond (eqb first 0) (first_met later) first
  unfolding play_refusal refusal_before
  refusal_is = met_append 0 (limit_tests p ++ ((15, meets15 (to_play p) (length image)) ∷ [])) later (omega arith, (omega arith, (omega arith, tt)))

  pub refused-before : (n : ℕ) → Err n ≡ passed first → (Err n ≡ play_answer id p image k (length out)) × (out ≡ played_bytes id p image k out)
  unfolding play_answer played_bytes
  refused-before n e =
      let r = refused_by_lem n first tt e in
      let h : n ≡ 0 → ⊥ = λ z. r.1 (sym r.0 ∙ z) in
      let f : play_refusal id p image k (length out) ≡ n =
      refusal_is ∙ ap (λ (x : ℕ). cond (eqb x 0) (first_met later) x) (sym r.0) ∙ ap (λ (t : Bool). cond t (first_met later) n) (ne_eqb n 0 h) in
      (sym (ap (λ m. answered m (length s)) f ∙ is_refused n (length s) h), rw (f, ne_eqb n 0 h))

  after-these : first ≡ 0 → play_refusal id p image k (length out) ≡ first_met later
  after-these e = refusal_is ∙ ap (λ (x : ℕ). cond (eqb x 0) (first_met later) x) e

  pub no_place_lem : first ≡ 0 → section_count (to_play p) ≤ k → (Err 19 ≡ play_answer id p image k (length out)) × (out ≡ played_bytes id p image k out)
  unfolding play_answer played_bytes first_met
  no_place_lem e l =
      let f : play_refusal id p image k (length out) ≡ 19 = after-these e ∙ rw (le-ltb k (section_count (to_play p)) l) refl in
      (sym (ap (λ m. answered m (length s)) f), rw f)

  pub laid : first ≡ 0 → k < section_count (to_play p) → (laid_size s (length out) ≡ play_answer id p image k (length out)) × (laid_over s out ≡ played_bytes id p image k out)
  unfolding play_answer played_bytes laid_size laid_over first_met
  laid e l = go (ltb (length out) (length s)) refl
    where
      f : play_refusal id p image k (length out) ≡ cond (ltb (length out) (length s)) 21 0
      f = after-these e ∙ rw (lt-ltb k (section_count (to_play p)) l) refl

      go : (t : Bool) → ltb (length out) (length s) ≡ t → (laid_size s (length out) ≡ play_answer id p image k (length out)) × (laid_over s out ≡ played_bytes id p image k out)
      go true t = rw (f, t) (refl, refl)
      go false t = rw (f, t) (refl, refl)

-- A SECTION LAID, or no room for it
pub no_room : (s out : List ℕ) → length out < length s → (Err 21 ≡ laid_size s (length out)) × (out ≡ laid_over s out)
unfolding laid_size laid_over
no_room s out h = rw (lt-ltb (length out) (length s) h) (refl, refl)

pub room : (s out l : List ℕ) (n : ℕ) → length s ≤ length out → l ≡ sets out 0 s → n ≡ length s → (Ok n ≡ laid_size s (length out)) × (l ≡ laid_over s out)
unfolding laid_size laid_over
room s out l n h e f = rw (le-ltb (length out) (length s) h) (ap Ok f, e ∙ left-past out s h)

-- HOW MANY SECTIONS
module _ (p : Playlist) where
  pub count-refused : (n : ℕ) → Err n ≡ passed (limit_refusal p) → Err n ≡ count_answer p
  unfolding count_answer
  count-refused n e = refused-too _ _ _ _ e

  pub count-told : limit_refusal p ≡ 0 → Ok (section_count (to_play p)) ≡ count_answer p
  unfolding count_answer
  count-told h = sym (ap (λ m. answered m (section_count (to_play p))) h)
