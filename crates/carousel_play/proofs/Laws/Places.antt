-- The sections by place: as many as are counted, the announcement at 0, and block b of the module at place i at 1, the blocks of the modules before it, and b.
use Prim.Native.Nat.{ℕ, zero, suc, ◌+◌, ◌-◌, ◌≤◌, ◌<◌}
use mathlib.Core.Path.{◌≡◌, refl, ap, ◌∙◌}
use mathlib.Core.Logic.{◌⊎◌, inl, inr}
use mathlib.Core.List.{List, [], ◌∷◌, ◌++◌}
use native.Mathlib.Omega.{arith}
use native.Mathlib.Decide.{dec_lt}
use lib.ListN.{length, get_or, length-append, get_or-append}
use lib.Seq.{get_or-append-add}
use Rattle.carousel_messages.specs.Heard.{Announced}
use Rattle.carousel_record.specs.Record.{block_count}
use Rattle.carousel_play.specs.Bytes.{announcement_bytes, block_bytes}
use Rattle.carousel_play.specs.Rotation.{module_sections, sections_to, rotation, blocks_to, section_count, section_at}

-- a module's blocks come before those of the modules after it
pub rises : (a : Announced) (i n : ℕ) → i < n → blocks_to a i + block_count a i ≤ blocks_to a n
unfolding blocks_to
rises a i zero l = absurd (omega arith)
rises a i (suc n) l = elim (dec_lt i n) [ yes k ↦ let h = rises a i n k in omega arith | no k ↦ let g : i ≡ n = omega arith in rw g (omega arith) ]

module _ (a : Announced) (image : List ℕ) where
  module-long : (i n : ℕ) → length (module_sections a image i n) ≡ n
  unfolding module_sections
  module-long i zero = refl
  module-long i (suc n) = length-append (module_sections a image i n) (block_bytes a i n image ∷ []) ∙ ap (λ (k : ℕ). k + 1) (module-long i n) ∙ omega arith

  sections-long : (n : ℕ) → length (sections_to a image n) ≡ blocks_to a n
  unfolding sections_to blocks_to
  sections-long zero = refl
  sections-long (suc n) =
      let e = sections-long n in
      let f = module-long n (block_count a n) in
      length-append (sections_to a image n) (module_sections a image n (block_count a n)) ∙ omega arith

  module-at : (i n b : ℕ) → b < n → get_or (module_sections a image i n) b [] ≡ block_bytes a i b image
  unfolding module_sections
  module-at i zero b l = absurd (omega arith)
  module-at i (suc n) b l = elim (dec_lt b n) [
    | yes m ↦ get_or-append (module_sections a image i n) (block_bytes a i n image ∷ []) [] b (let e = module-long i n in omega arith) ∙ module-at i n b m
    | no m ↦
        let e = module-long i n in
        let f : b ≡ length (module_sections a image i n) + 0 = omega arith in
        let g : n ≡ b = omega arith in
        ap (λ (k : ℕ). get_or (module_sections a image i n ++ (block_bytes a i n image ∷ [])) k []) f
        ∙ get_or-append-add (module_sections a image i n) (block_bytes a i n image ∷ []) 0 []
        ∙ ap (λ (k : ℕ). block_bytes a i k image) g
  ]

  sections-at : (n i b : ℕ) → i < n → b < block_count a i → get_or (sections_to a image n) (blocks_to a i + b) [] ≡ block_bytes a i b image
  unfolding sections_to blocks_to
  sections-at zero i b l m = absurd (omega arith)
  sections-at (suc n) i b l m = elim (dec_lt i n) [
    | yes k ↦
        let e = sections-long n in
        let f = rises a i n k in
        get_or-append (sections_to a image n) (module_sections a image n (block_count a n)) [] (blocks_to a i + b) (omega arith) ∙ sections-at n i b k m
    | no k ↦
        let g : i ≡ n = omega arith in
        let e = sections-long i in
        let f : blocks_to a i + b ≡ length (sections_to a image i) + b = omega arith in
        rw (← g) (
        ap (λ (k : ℕ). get_or (sections_to a image i ++ module_sections a image i (block_count a i)) k []) f
        ∙ get_or-append-add (sections_to a image i) (module_sections a image i (block_count a i)) b []
        ∙ module-at i (block_count a i) b m
        )
  ]

  pub rotation-long : (id : ℕ) → length (rotation id a image) ≡ section_count a
  rotation-long id = let e = sections-long (length a.modules) in omega arith

  pub first-place : (id : ℕ) → section_at id a image 0 ≡ announcement_bytes id a
  first-place id = refl

  pub block-place : (id i b : ℕ) → i < length a.modules → b < block_count a i → section_at id a image (1 + (blocks_to a i + b)) ≡ block_bytes a i b image
  block-place id i b u v =
      let e : 1 + (blocks_to a i + b) ≡ suc (blocks_to a i + b) = omega arith in
      ap (λ (k : ℕ). section_at id a image k) e ∙ sections-at (length a.modules) i b u v

-- every place below the count is one of these
below : (a : Announced) (n k : ℕ) → k < blocks_to a n → (i : ℕ) × (b : ℕ) × (i < n) × (b < block_count a i) × (k ≡ blocks_to a i + b)
unfolding blocks_to
below a zero k l = absurd (omega arith)
below a (suc n) k l = elim (dec_lt k (blocks_to a n)) [
  | yes m ↦ let q = below a n k m in (q.0, q.1, omega (arith, q.2), q.3, q.4)
  | no m ↦ (n, k - blocks_to a n, omega arith, omega arith, omega arith)
]

pub places : (a : Announced) (k : ℕ) → k < section_count a
    → (k ≡ 0) ⊎ ((i : ℕ) × (b : ℕ) × (i < length a.modules) × (b < block_count a i) × (k ≡ 1 + (blocks_to a i + b)))
places a zero l = inl refl
places a (suc k) l = let q = below a (length a.modules) k (omega arith) in inr (q.0, q.1, q.2, q.3, omega (arith, q.4))
