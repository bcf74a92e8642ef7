-- Laws of the marks, over any number of words and of words for each module: setting mark k sets it and changes no other; which marks the rule lets be set.
use Prim.Native.Nat.{ℕ, zero, suc, ◌+◌, ◌-◌, ◌*◌, ◌/◌, ◌%◌, ◌^◌, ◌<◌, ◌≤◌}
use mathlib.Core.Path.{◌≡◌, refl, ap, sym, ◌∙◌}
use mathlib.Core.Bool.{true, false}
use mathlib.Core.List.{List, [], ◌∷◌}
use mathlib.Core.Logic.{◌⊎◌, inl, inr}
use native.Mathlib.Omega.{arith}
use native.Mathlib.Nat.{div_self, zero-div, div-eq_of_lt, div-eq-sub-div, mod-eq_of_lt, mod-eq-sub-mod, mul-div_cancel_left, mul-mod_left, mul-suc, pow-suc}
use native.Mathlib.Decide.{dec_lt}
use lib.Dec.{eqb}
use lib.Pow.{pow-lt, pow_pos, pow-add, shr-shr}
use lib.Bits.{bit_or, or_shr, or_mod, or_zero_r}
use lib.ListN.{length, get_or, set, take, drop, replicate}
use lib.Seq.{get_or-set_same, get_or-set_other, take-set-lt, take-set-le, drop-set-lt, drop-set-add, get_or-take, get_or-drop}
use borrow.Author.Tests.{eq-eqb, eqb-true}
use Rattle.wire.proofs.Laws.Tests.{both, clash}
use Rattle.carousel_record.specs.Marks.{is_marked, marks_with, clear_from, marks_within}
use Rattle.carousel_record.proofs.Laws.Tests.{alike, joint}

-- a number below 2 is 0 or 1
two : (n : ℕ) → n < 2 → (n ≡ 0) ⊎ (n ≡ 1)
two zero h = inl refl
two (suc zero) h = inr refl
two (suc (suc n)) h = absurd (omega arith)

or-one : (n : ℕ) → n < 2 → bit_or n 1 ≡ 1
or-one n h = elim (two n h) [ inl e ↦ rw e | inr e ↦ rw e ]

-- bit b of x with bit b set
bit-same : (x b : ℕ) → bit_or x (2 ^ b) / 2 ^ b % 2 ≡ 1
bit-same x b = rw (or_shr x (2 ^ b) b, div_self (pow_pos b), or_mod (x / 2 ^ b) 1 1) (or-one (x / 2 ^ b % 2) (omega arith))

above : (b j : ℕ) → j < b → 2 ^ b / 2 ^ j % 2 ≡ 0
above b j h =
    let d = b - (j + 1) in
    let e : b ≡ j + suc d = omega arith in
    rw (e, pow-add 2 j (suc d), mul-div_cancel_left (2 ^ suc d) (pow_pos j), pow-suc 2 d) (mul-mod_left (2 ^ d) 2)

-- bit j of 2 ^ b, where j is not b
other_zero : (b j : ℕ) → (j ≡ b → ⊥) → 2 ^ b / 2 ^ j % 2 ≡ 0
other_zero b j ne = elim (dec_lt b j) [ yes p ↦ rw (div-eq_of_lt (pow-lt p)) | no n ↦ above b j (omega arith) ]

bit-other : (x b j : ℕ) → (j ≡ b → ⊥) → bit_or x (2 ^ b) / 2 ^ j % 2 ≡ x / 2 ^ j % 2
bit-other x b j ne = rw (or_shr x (2 ^ b) j, or_mod (x / 2 ^ j) (2 ^ b / 2 ^ j) 1, other_zero b j ne, or_zero_r)

-- mark k after it was set
pub mark-same : (ws : List ℕ) (k : ℕ) → k / 32 < length ws → is_marked (marks_with ws k) k ≡ true
unfolding is_marked marks_with
mark-same ws k h = rw (get_or-set_same ws (k / 32) (bit_or (get_or ws (k / 32) 0) (2 ^ (k % 32))) 0 h, bit-same (get_or ws (k / 32) 0) (k % 32))

-- any other
pub mark-other : (ws : List ℕ) (k j : ℕ) → k / 32 < length ws → (j ≡ k → ⊥) → is_marked (marks_with ws k) j ≡ is_marked ws j
unfolding is_marked marks_with
mark-other ws k j h ne = elim (alike (j / 32) (k / 32)) [
  | inl e ↦ rw (e, get_or-set_same ws (k / 32) (bit_or (get_or ws (k / 32) 0) (2 ^ (k % 32))) 0 h, bit-other (get_or ws (k / 32) 0) (k % 32) (j % 32) (λ m. ne (omega arith)))
  | inr n ↦ rw (get_or-set_other ws (k / 32) (j / 32) (bit_or (get_or ws (k / 32) 0) (2 ^ (k % 32))) 0 n)
]

-- clear words have no mark
get_d-clear : (n i : ℕ) → ◌≡◌ {A = ℕ} (get_or (replicate n 0) i 0) 0
get_d-clear zero i = refl
get_d-clear (suc n) zero = refl
get_d-clear (suc n) (suc i) = get_d-clear n i

pub clear : (n k : ℕ) → is_marked (replicate n 0) k ≡ false
unfolding is_marked
clear n k = rw (get_d-clear n (k / 32), zero-div (2 ^ (k % 32)))

-- "no mark from n on": so it is of clear words
pub clear_zero : (n m : ℕ) → clear_from n (replicate m 0) ≡ true
unfolding clear_from
clear_zero n zero = refl
clear_zero n (suc m) = rw (zero-div (2 ^ n)) (clear_zero (n - 32) m)

-- bit b of a word, where nothing is left of it above n
shifted : (w n b : ℕ) → w / 2 ^ n ≡ 0 → n ≤ b → w / 2 ^ b ≡ 0
shifted w n b e l =
    let p : b ≡ n + (b - n) = omega arith in
    ap (λ (m : ℕ). w / 2 ^ m) p ∙ sym (shr-shr w n (b - n)) ∙ ap (λ (m : ℕ). m / 2 ^ (b - n)) e ∙ zero-div (2 ^ (b - n))

word-with : (w n b : ℕ) → b < n → w / 2 ^ n ≡ 0 → bit_or w (2 ^ b) / 2 ^ n ≡ 0
word-with w n b l e = rw (or_shr w (2 ^ b) n, e, div-eq_of_lt (pow-lt l))

-- a mark before n may be set
pub clear-with : (n : ℕ) (ws : List ℕ) (k : ℕ) → k < n → clear_from n ws ≡ true → clear_from n (marks_with ws k) ≡ true
unfolding clear_from marks_with
clear-with n [] k l e = refl
clear-with n (w ∷ ws) k l e =
    let h = both (eqb (w / 2 ^ n) 0) (clear_from (n - 32) ws) e in
    elim (dec_lt k 32) [
      | yes p ↦
          let q : k / 32 ≡ 0 = omega arith in
          let r : k % 32 ≡ k = omega arith in
          rw (q, r) (joint _ _ (eq-eqb _ _ (word-with w n k l (eqb-true _ _ h.0))) h.1)
      | no p ↦
          let q : k / 32 ≡ suc ((k - 32) / 32) = omega arith in
          let r : k % 32 ≡ (k - 32) % 32 = omega arith in
          rw (q, r) (joint _ _ h.0 (clear-with (n - 32) ws (k - 32) (omega arith) h.1))
    ]

-- and no other is
pub clear_means : (n : ℕ) (ws : List ℕ) (k : ℕ) → clear_from n ws ≡ true → is_marked ws k ≡ true → k < n
unfolding clear_from is_marked
clear_means n [] k e m = absurd (clash _ m (rw (zero-div (2 ^ (k % 32)))))
clear_means n (w ∷ ws) k e m =
    let h = both (eqb (w / 2 ^ n) 0) (clear_from (n - 32) ws) e in
    elim (dec_lt k 32) [
      | yes p ↦
          let q : k / 32 ≡ 0 = omega arith in
          let r : k % 32 ≡ k = omega arith in
          elim (dec_lt k n) [
            | yes l ↦ l
            | no l ↦ let z : eqb (w / 2 ^ k % 2) 1 ≡ true = rw (q, r) at m in absurd (clash _ z (rw (shifted w n k (eqb-true _ _ h.0) (omega arith))))
          ]
      | no p ↦
          let q : k / 32 ≡ suc ((k - 32) / 32) = omega arith in
          let r : k % 32 ≡ (k - 32) % 32 = omega arith in
          let z = clear_means (n - 32) ws (k - 32) h.1 (rw (q, r) at m) in
          omega arith
    ]

clear_take : (n j m : ℕ) → clear_from n (take j (replicate m 0)) ≡ true
unfolding clear_from
clear_take n zero m = refl
clear_take n (suc j) zero = refl
clear_take n (suc j) (suc m) = rw (zero-div (2 ^ n)) (clear_take (n - 32) j m)

drop-clear : (j m : ℕ) → (n : ℕ) × ◌≡◌ {A = List ℕ} (drop j (replicate m 0)) (replicate n 0)
drop-clear zero m = (m, refl)
drop-clear (suc j) zero = (0, refl)
drop-clear (suc j) (suc m) = drop-clear j m

-- a module has w words, so 32 * w marks: those of the first module, and those after them
module _ (w : ℕ) where
  abbrev pub mark_in : (place block : ℕ) → ℕ
  mark_in i b = 32 * w * i + b

  module _ (ws : List ℕ) (k : ℕ) where
    take-with : k < 32 * w → take w (marks_with ws k) ≡ marks_with (take w ws) k
    unfolding marks_with
    take-with h =
        let l : k / 32 < w = omega arith in
        take-set-lt w ws (k / 32) _ l ∙ ap (λ (x : ℕ). set (take w ws) (k / 32) (bit_or x (2 ^ (k % 32)))) (sym (get_or-take w ws (k / 32) 0 l))

    drop-same : k < 32 * w → drop w (marks_with ws k) ≡ drop w ws
    unfolding marks_with
    drop-same h = drop-set-lt w ws (k / 32) _ (omega arith)

    take_same : take w (marks_with ws (32 * w + k)) ≡ take w ws
    unfolding marks_with
    take_same = take-set-le w ws ((32 * w + k) / 32) _ (omega arith)

    word-later : (32 * w + k) / 32 ≡ w + k / 32
    word-later = omega arith

    bit-later : (32 * w + k) % 32 ≡ k % 32
    bit-later = omega arith

    drop-with : drop w (marks_with ws (32 * w + k)) ≡ marks_with (drop w ws) k
    unfolding marks_with
    drop-with = rw (word-later, bit-later, drop-set-add w ws (k / 32) (bit_or (get_or ws (w + k / 32) 0) (2 ^ (k % 32))), get_or-drop w ws (k / 32) 0)

    marked-first : k < 32 * w → is_marked (take w ws) k ≡ is_marked ws k
    unfolding is_marked
    marked-first h = rw (get_or-take w ws (k / 32) 0 (omega arith))

    marked-later : is_marked (drop w ws) k ≡ is_marked ws (32 * w + k)
    unfolding is_marked
    marked-later = rw (word-later, bit-later, get_or-drop w ws (k / 32) 0)

  -- clear words keep to any numbers of blocks
  pub within-fresh : (ns : List ℕ) (m : ℕ) → marks_within w ns (replicate m 0) ≡ true
  unfolding marks_within
  within-fresh [] m = clear_zero 0 m
  within-fresh (n ∷ ns) m = let d = drop-clear w m in joint _ _ (clear_take n w m) (rw d.1 (within-fresh ns d.0))

  -- and so do words with one more mark, that of a block
  pub within-with : (ns ws : List ℕ) (i b : ℕ) → i < length ns → b < get_or ns i 0 → b < 32 * w → marks_within w ns ws ≡ true → marks_within w ns (marks_with ws (mark_in i b)) ≡ true
  unfolding marks_within
  within-with [] ws i b u v h e = absurd (omega arith)
  within-with (n ∷ ns) ws zero b u v h e =
      let f = both (clear_from n (take w ws)) (marks_within w ns (drop w ws)) e in
      let p : mark_in 0 b ≡ b = omega arith in
      rw (p, take-with ws b h, drop-same ws b h) (joint _ _ (clear-with n (take w ws) b v f.0) f.1)
  within-with (n ∷ ns) ws (suc i) b u v h e =
      let f = both (clear_from n (take w ws)) (marks_within w ns (drop w ws)) e in
      let p : mark_in (suc i) b ≡ 32 * w + mark_in i b = rw (mul-suc (32 * w) i) (omega arith) in
      rw (p, take_same ws (mark_in i b), drop-with ws (mark_in i b)) (joint _ _ f.0 (within-with ns (drop w ws) i b (omega arith) v h f.1))

  -- "MARKS PAST A LAST BLOCK ARE ZERO": a mark that is set is that of a module which there is, and of one of its blocks
  pub within_means : 0 < w → (ns ws : List ℕ) (k : ℕ) → marks_within w ns ws ≡ true → is_marked ws k ≡ true → (k / (32 * w) < length ns) × (k % (32 * w) < get_or ns (k / (32 * w)) 0)
  unfolding marks_within
  within_means o [] ws k e m = let h = clear_means 0 ws k e m in absurd (omega arith)
  within_means o (n ∷ ns) ws k e m =
      let f = both (clear_from n (take w ws)) (marks_within w ns (drop w ws)) e in
      elim (dec_lt k (32 * w)) [
        | yes p ↦
            let l = clear_means n (take w ws) k f.0 (marked-first ws k p ∙ m) in
            rw (div-eq_of_lt p, mod-eq_of_lt p) (omega arith, l)
        | no p ↦
            let g : 32 * w ≤ k = omega arith in
            let z : 32 * w + (k - 32 * w) ≡ k = omega arith in
            let l = within_means o ns (drop w ws) (k - 32 * w) f.1 (marked-later ws (k - 32 * w) ∙ ap (is_marked ws) z ∙ m) in
            let q : k / (32 * w) ≡ suc ((k - 32 * w) / (32 * w)) = div-eq-sub-div (omega arith) g ∙ omega arith in
            rw (q, mod-eq-sub-mod g) (let u = l.0 in omega arith, l.1)
      ]
