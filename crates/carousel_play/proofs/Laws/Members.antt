-- The sections of a rotation: which they are, that every block is among them, and that none comes twice.
use Prim.Native.Nat.{ℕ, zero, suc, ◌<◌}
use mathlib.Core.Path.{◌≡◌, ap}
use mathlib.Core.Logic.{◌⊎◌, inl, inr}
use mathlib.Core.List.Memᴰ
use mathlib.Core.List.{List, [], ◌∷◌, ◌++◌, Memᴰ}
use native.Mathlib.Omega.{arith}
use native.Mathlib.Decide.{dec_lt}
use lib.ListN.{length}
use Rattle.carousel_messages.specs.Heard.{Announced}
use Rattle.carousel_record.specs.Record.{block_count}
use Rattle.carousel_play.specs.Bytes.{block_bytes}
use Rattle.carousel_play.specs.Rotation.{module_sections, sections_to, block_sections, IsBlock}

abbrev pub Has : List (List ℕ) → List ℕ → Type 0
Has ss s = Memᴰ s ss

-- in one list after another
pub in_left : (xs ys : List (List ℕ)) (s : List ℕ) → Has xs s → Has (xs ++ ys) s
in_left [] ys s h = absurd (Memᴰ.not-nil h)
in_left (x ∷ xs) ys s h = elim (Memᴰ.cases_cons h) [ inl e ↦ Memᴰ.head e | inr m ↦ Memᴰ.tail (in_left xs ys s m) ]

pub in_right : (xs ys : List (List ℕ)) (s : List ℕ) → Has ys s → Has (xs ++ ys) s
in_right [] ys s h = h
in_right (x ∷ xs) ys s h = Memᴰ.tail (in_right xs ys s h)

pub in_either : (xs ys : List (List ℕ)) (s : List ℕ) → Has (xs ++ ys) s → Has xs s ⊎ Has ys s
in_either [] ys s h = inr h
in_either (x ∷ xs) ys s h = go (Memᴰ.cases_cons h) (λ m. in_either xs ys s m)
  where
    go : (s ≡ x) ⊎ Has (xs ++ ys) s → (Has (xs ++ ys) s → Has xs s ⊎ Has ys s) → Has (x ∷ xs) s ⊎ Has ys s
    go (inl e) f = inl (Memᴰ.head e)
    go (inr m) f = elim (f m) [ inl l ↦ inl (Memᴰ.tail l) | inr r ↦ inr r ]

module _ (a : Announced) (image : List ℕ) where
  -- those of one module are its blocks below n
  abbrev pub Below : (i n : ℕ) → List ℕ → Type 0
  Below i n s = (b : ℕ) × (b < n) × (s ≡ block_bytes a i b image)

  pub module_has : (i n : ℕ) (s : List ℕ) → Has (module_sections a image i n) s → Below i n s
  unfolding module_sections
  module_has i zero s h = absurd (Memᴰ.not-nil h)
  module_has i (suc n) s h = go (in_either (module_sections a image i n) (block_bytes a i n image ∷ []) s h) (λ m. module_has i n s m)
    where
      go : Has (module_sections a image i n) s ⊎ Has (block_bytes a i n image ∷ []) s → (Has (module_sections a image i n) s → Below i n s) → Below i (suc n) s
      go (inl m) f = let q = f m in (q.0, omega (arith, q.1), q.2)
      go (inr m) f = elim (Memᴰ.cases_cons m) [ inl e ↦ (n, omega arith, e) | inr z ↦ absurd (Memᴰ.not-nil z) ]

  pub module-holds : (i n b : ℕ) → b < n → Has (module_sections a image i n) (block_bytes a i b image)
  unfolding module_sections
  module-holds i zero b l = absurd (omega arith)
  module-holds i (suc n) b l = elim (dec_lt b n) [
    | yes m ↦ in_left (module_sections a image i n) (block_bytes a i n image ∷ []) (block_bytes a i b image) (module-holds i n b m)
    | no m ↦ let e : b ≡ n = omega arith in in_right (module_sections a image i n) (block_bytes a i n image ∷ []) (block_bytes a i b image) (Memᴰ.head (ap (λ (k : ℕ). block_bytes a i k image) e))
  ]

  -- those of the first n modules
  abbrev pub Among : (n : ℕ) → List ℕ → Type 0
  Among n s = (i : ℕ) × (b : ℕ) × (i < n) × (b < block_count a i) × (s ≡ block_bytes a i b image)

  pub sections_have : (n : ℕ) (s : List ℕ) → Has (sections_to a image n) s → Among n s
  unfolding sections_to
  sections_have zero s h = absurd (Memᴰ.not-nil h)
  sections_have (suc n) s h = go (in_either (sections_to a image n) (module_sections a image n (block_count a n)) s h) (λ m. sections_have n s m)
    where
      go : Has (sections_to a image n) s ⊎ Has (module_sections a image n (block_count a n)) s → (Has (sections_to a image n) s → Among n s) → Among (suc n) s
      go (inl m) f = let q = f m in (q.0, q.1, omega (arith, q.2), q.3, q.4)
      go (inr m) f = let q = module_has n (block_count a n) s m in (n, q.0, omega arith, q.1, q.2)

  pub sections_hold : (n i b : ℕ) → i < n → b < block_count a i → Has (sections_to a image n) (block_bytes a i b image)
  unfolding sections_to
  sections_hold zero i b l m = absurd (omega arith)
  sections_hold (suc n) i b l m = elim (dec_lt i n) [
    | yes k ↦ in_left (sections_to a image n) (module_sections a image n (block_count a n)) (block_bytes a i b image) (sections_hold n i b k m)
    | no k ↦ let e : i ≡ n = omega arith in in_right (sections_to a image n) (module_sections a image n (block_count a n)) (block_bytes a i b image) (rw (← e) (module-holds i (block_count a i) b m))
  ]

  -- EVERY SECTION AFTER THE ANNOUNCEMENT IS A BLOCK, AND EVERY BLOCK IS ONE
  pub rotation_has : (s : List ℕ) → Has (block_sections a image) s → IsBlock a image s
  rotation_has s h = sections_have (length a.modules) s h

  pub rotation-holds : (i b : ℕ) → i < length a.modules → b < block_count a i → Has (block_sections a image) (block_bytes a i b image)
  rotation-holds i b l m = sections_hold (length a.modules) i b l m
