-- What "missing" and "complete" mean, and what the hand-out gives.
use Prim.Native.Nat.{ℕ, zero, suc, ◌+◌, ◌*◌, ◌≤◌, ◌<◌}
use mathlib.Core.Path.{◌≡◌, refl, sym, ap, subst, ◌∙◌}
use mathlib.Core.Logic.{◌↔◌, ◌⊎◌, inl, inr}
use mathlib.Core.Bool.{Bool, true, false, cond}
use mathlib.Core.List.Memᴰ
use mathlib.Core.List.{List, [], ◌∷◌, Memᴰ}
use native.Mathlib.Omega.{arith}
use lib.Dec.{eqb}
use lib.ListN.{length, get_or, drop, length-drop}
use lib.Seq.{length-take-le}
use borrow.Author.Tests.{eq-eqb, ne_eqb, eqb-true, ltb-true, ltb-false, not-false}
use Rattle.wire.proofs.Laws.Tests.{clash}
use Rattle.wire.proofs.Laws.Order.{none-exactly}
use Rattle.carousel_messages.specs.Limits.{most_blocks}
use Rattle.carousel_record.specs.declared.Carousel.{Carousel}
use Rattle.std.proofs.Common.{Ok, Err, Some, None}
use Rattle.carousel_handout.specs.declared.Lack.{Lack}
use Rattle.carousel_record.specs.Marks.{is_marked, clear_among}
use Rattle.carousel_record.specs.Record.{Record, record_of, announced_by, module_at, place_of, bytes_of, block_count, received, module_part, missing_of, complete_of, ruled_of}
use Rattle.carousel_record.specs.Refusals.{meets13, meets15}
use Rattle.carousel_handout.specs.Calls.{handout_tests, handout_number, handed_out, lack_of, report_on}
use Rattle.carousel_record.proofs.Laws.Tests.{alike}
use Rattle.carousel_record.proofs.Laws.Places.{size_pos}
use Rattle.carousel_record.proofs.Laws.Rule.{Kept, kept, ruled-says}
use Rattle.carousel_record.proofs.Laws.Where.{modules-inside}

-- the clear ones among n blocks from b on
module _ (ws : List ℕ) (first : ℕ) where
  clear-there : (n b x : ℕ) → Memᴰ x (clear_among ws first b n) → (b ≤ x) × (x < b + n) × (is_marked ws (first + x) ≡ false)
  unfolding clear_among
  clear-there zero b x h = absurd (Memᴰ.not-nil h)
  clear-there (suc n) b x h = go (is_marked ws (first + b)) refl h (clear-there n (suc b) x)
    where
      go : (t : Bool) → is_marked ws (first + b) ≡ t → Memᴰ x (cond t (clear_among ws first (suc b) n) (b ∷ clear_among ws first (suc b) n))
          → (Memᴰ x (clear_among ws first (suc b) n) → (suc b ≤ x) × (x < suc b + n) × (is_marked ws (first + x) ≡ false))
          → (b ≤ x) × (x < b + suc n) × (is_marked ws (first + x) ≡ false)
      go true e m f = let q = f m in let l = q.0 in let u = q.1 in (omega arith, omega arith, q.2)
      go false e m f = elim (Memᴰ.cases_cons m) [
        | inl p ↦ (omega arith, omega arith, ap (λ (k : ℕ). is_marked ws (first + k)) p ∙ e)
        | inr p ↦ let q = f p in let l = q.0 in let u = q.1 in (omega arith, omega arith, q.2)
      ]

  clear-back : (n b x : ℕ) → b ≤ x → x < b + n → is_marked ws (first + x) ≡ false → Memᴰ x (clear_among ws first b n)
  unfolding clear_among
  clear-back zero b x l u e = absurd (omega arith)
  clear-back (suc n) b x l u e = go (is_marked ws (first + b)) refl (alike x b) (λ k. clear-back n (suc b) x k (omega arith) e)
    where
      go : (t : Bool) → is_marked ws (first + b) ≡ t → (x ≡ b) ⊎ (x ≡ b → ⊥) → (suc b ≤ x → Memᴰ x (clear_among ws first (suc b) n))
          → Memᴰ x (cond t (clear_among ws first (suc b) n) (b ∷ clear_among ws first (suc b) n))
      go true f (inl p) g = absurd (clash _ (ap (λ (k : ℕ). is_marked ws (first + k)) p ∙ f) e)
      go true f (inr p) g = g (omega (arith, p))
      go false f (inl p) g = Memᴰ.head p
      go false f (inr p) g = Memᴰ.tail (g (omega (arith, p)))

  -- the first of them is the lowest
  clear_first : (n b y : ℕ) (ys : List ℕ) → clear_among ws first b n ≡ y ∷ ys → (x : ℕ) → Memᴰ x (clear_among ws first b n) → y ≤ x
  unfolding clear_among
  clear_first zero b y ys e x m = absurd (Memᴰ.not-nil m)
  clear_first (suc n) b y ys e x m = go (is_marked ws (first + b)) e m (clear_first n (suc b) y ys) (clear-there (suc n) b x m).0
    where
      go : (t : Bool) → cond t (clear_among ws first (suc b) n) (b ∷ clear_among ws first (suc b) n) ≡ y ∷ ys
          → Memᴰ x (cond t (clear_among ws first (suc b) n) (b ∷ clear_among ws first (suc b) n))
          → (clear_among ws first (suc b) n ≡ y ∷ ys → (x : ℕ) → Memᴰ x (clear_among ws first (suc b) n) → y ≤ x) → b ≤ x → y ≤ x
      go true e m f l = f e x m
      go false e m f l = let q : b ≡ y = cc in omega arith

module _ (r : Record) (i : ℕ) where
  -- MISSING: a block of the module that has no mark
  pub missing_means : (b : ℕ) → Memᴰ b (missing_of r i) ↔ ((b < block_count r.announced i) × (received r i b ≡ false))
  unfolding missing_of
  missing_means b = (
    λ m. let q = clear-there r.marks (most_blocks * i) (block_count r.announced i) 0 b m in let u = q.1 in (omega arith, q.2),
    λ w. let u = w.0 in clear-back r.marks (most_blocks * i) (block_count r.announced i) 0 b (omega arith) (omega arith) w.1,
  )

  -- COMPLETE: every block of the module has its mark
  pub complete_means : (complete_of r i ≡ true) ↔ ((b : ℕ) → b < block_count r.announced i → received r i b ≡ true)
  complete_means = (λ e b u. there (missing_of r i) refl e b u, λ f. back (missing_of r i) refl f)
    where
      there : (l : List ℕ) → missing_of r i ≡ l → eqb (length l) 0 ≡ true → (b : ℕ) → b < block_count r.announced i → received r i b ≡ true
      there [] p e b u = go (received r i b) refl
        where
          go : (t : Bool) → received r i b ≡ t → received r i b ≡ true
          go true f = f
          go false f = absurd (Memᴰ.not-nil (subst (λ (l : List ℕ). Memᴰ b l) p ((missing_means b).1 (u, f))))
      there (x ∷ xs) p e b u = let z = eqb-true (suc (length xs)) 0 e in absurd (omega arith)

      back : (l : List ℕ) → missing_of r i ≡ l → ((b : ℕ) → b < block_count r.announced i → received r i b ≡ true) → eqb (length l) 0 ≡ true
      back [] p f = refl
      back (x ∷ xs) p f = let q = (missing_means x).0 (subst (λ (l : List ℕ). Memᴰ x l) (sym p) (Memᴰ.head refl)) in absurd (clash _ (f x q.0) q.1)

  -- the first of the missing is the lowest
  pub missing-least : (b : ℕ) (bs : List ℕ) → missing_of r i ≡ b ∷ bs → (x : ℕ) → x < block_count r.announced i → received r i x ≡ false → b ≤ x
  unfolding missing_of
  missing-least b bs e x u f = clear_first r.marks (most_blocks * i) (block_count r.announced i) 0 b bs e x ((missing_means x).1 (u, f))

  -- "THE MISSING REPORT gives the number of missing blocks and the lowest missing one, or "none"": none exactly of a complete module
  pub whole_means : (report_on (missing_of r i) ≡ Ok None) ↔ (complete_of r i ≡ true)
  unfolding report_on
  whole_means = (λ e. there (missing_of r i) e, λ e. back (missing_of r i) e)
    where
      there : (l : List ℕ) → report_on l ≡ Ok None → eqb (length l) 0 ≡ true
      there [] e = refl
      there (x ∷ xs) e = let z : ◌≡◌ {A = ℕ} 0 1 = cc in absurd (omega arith)

      back : (l : List ℕ) → eqb (length l) 0 ≡ true → report_on l ≡ Ok None
      back [] e = refl
      back (x ∷ xs) e = let z = eqb-true (suc (length xs)) 0 e in absurd (omega arith)

  pub lacking_means : (l : Lack) → report_on (missing_of r i) ≡ Ok (Some l)
      → (l.count ≡ length (missing_of r i)) × (l.lowest < block_count r.announced i) × (received r i l.lowest ≡ false)
      × ((b : ℕ) → b < block_count r.announced i → received r i b ≡ false → l.lowest ≤ b)
  unfolding report_on
  lacking_means l e = go (missing_of r i) refl e
    where
      go : (bs : List ℕ) → missing_of r i ≡ bs → report_on bs ≡ Ok (Some l)
          → (l.count ≡ length bs) × (l.lowest < block_count r.announced i) × (received r i l.lowest ≡ false)
          × ((b : ℕ) → b < block_count r.announced i → received r i b ≡ false → l.lowest ≤ b)
      go [] p e = let z : ◌≡◌ {A = ℕ} 0 1 = cc in absurd (omega arith)
      go (x ∷ xs) p e =
          let k : lack_of (x ∷ xs) ≡ l = cc in
          let q = (missing_means x).0 (subst (λ (l : List ℕ). Memᴰ x l) (sym p) (Memᴰ.head refl)) in
          rw (← k) (refl, q.0, q.1, missing-least x xs p)

-- THE HAND-OUT
module _ (c : Carousel) (image : List ℕ) (n : ℕ) where
  abbrev place : ℕ
  place = place_of (announced_by c) n

  -- "where that is a refusal, the part is empty"
  pub handout-empty : (handout_number c image n ≡ 0 → ⊥) → handed_out c image n ≡ []
  unfolding handed_out
  handout-empty h = rw (ne_eqb (handout_number c image n) 0 h)

  module _ (e : handout_number c image n ≡ 0) where
    pub handout_part : handed_out c image n ≡ module_part (record_of c) image (place_of (announced_by c) n)
    unfolding handed_out
    handout_part = rw (eq-eqb (handout_number c image n) 0 e)

    passes : (ruled_of c ≡ true) × (place < length (announced_by c).modules) × (bytes_of (announced_by c) ≤ length image)
    unfolding handout_number meets13 meets15
    passes =
        let t = (none-exactly (handout_tests c image n) (λ z. omega arith, (λ z. omega arith, (λ z. omega arith, (λ z. omega arith, tt))))).0 e in
        (not-false _ t.0, ltb-true _ _ (not-false _ t.1.0), ltb-false _ _ t.1.1.0)

    its_rule : Kept (record_of c)
    its_rule = let u = passes.1 in kept (record_of c) (omega arith) (ruled-says c passes.0)

    -- it is as long as the module, and so it is never empty
    pub handout-size : length (handed_out c image n) ≡ (module_at (announced_by c) (place_of (announced_by c) n)).size
    unfolding module_part
    handout-size =
        let m = modules-inside (record_of c) its_rule place passes.1 in
        let b = passes.2 in
        let d = length-drop (get_or (record_of c).starts place 0) image in
        ap length handout_part ∙ length-take-le (module_at (announced_by c) place).size (drop (get_or (record_of c).starts place 0) image) (omega arith)

    pub handout-never-empty : handed_out c image n ≡ [] → ⊥
    handout-never-empty z =
        let s = size_pos (announced_by c).block_size (announced_by c).modules its_rule.limits place passes.1 in
        let l = sym handout-size ∙ ap length z in
        omega arith
