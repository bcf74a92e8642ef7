-- What the walk over modules to a place of the rotation keeps: the blocks before, and the bytes before.
use Prim.Native.Nat.{ℕ, zero, suc, ◌+◌, ◌-◌, ◌*◌, ◌≤◌, ◌<◌}
use mathlib.Core.Path.{◌≡◌, refl, ap, ◌∙◌}
use mathlib.Core.List.{List, [], ◌∷◌}
use native.Mathlib.Numerals.{add-one}
use native.Mathlib.Omega.{arith}
use lib.ListN.{length, get_or}
use Rattle.std.proofs.Common.{Option, Some, None}
use lib.Seq.{get_or-take, length-take-le}
use Rattle.carousel_messages.specs.declared.Listed.{Listed}
use Rattle.carousel_messages.specs.Limits.{most_modules}
use Rattle.carousel_messages.specs.Heard.{Announced, none_listed, sizes_of}
use Rattle.carousel_record.specs.Blocks.{blocks_of}
use Rattle.carousel_record.specs.Record.{block_count, module_at, sums}
use Rattle.carousel_play.specs.Bytes.{start_of}
use Rattle.carousel_play.specs.declared.Playlist.{Playlist}
use Rattle.carousel_play.specs.Rotation.{blocks_to}
use Rattle.carousel_play.specs.Calls.{to_play}

-- a module's start, one module further on
sums_next : (s : ℕ) (ms : List Listed) (i : ℕ) → suc i < length ms → get_or (sums s (sizes_of ms)) (suc i) 0 ≡ get_or (sums s (sizes_of ms)) i 0 + (get_or ms i none_listed).size
unfolding sums
sums_next s [] i l = absurd (omega arith)
sums_next s (m ∷ []) i l = absurd (omega arith)
sums_next s (m ∷ k ∷ ms) zero l = refl
sums_next s (m ∷ k ∷ ms) (suc i) l = sums_next (s + m.size) (k ∷ ms) i (omega arith)

sums_first : (s : ℕ) (ms : List Listed) → 0 < length ms → get_or (sums s (sizes_of ms)) 0 0 ≡ s
unfolding sums
sums_first s [] l = absurd (omega arith)
sums_first s (m ∷ ms) l = refl

-- at module i of n, with `left` places still to go and `start` bytes passed
abbrev pub Walked : Announced → (n place left start i : ℕ) → Type 0
Walked a n place left start i = (i ≤ n) × (place ≡ blocks_to a i + left) × (start ≤ i * 4294967295) × (i < length a.modules → start ≡ start_of a i)

pub walked_none : (a : Announced) (n place : ℕ) → Walked a n place place 0 0
unfolding blocks_to
walked_none a n place = (omega arith, omega arith, omega arith, λ l. let e = sums_first 0 a.modules l in omega arith)

module _ (a : Announced) (n : ℕ) (long : length a.modules ≡ n) (place left start i : ℕ) (w : Walked a n place left start i) (l : i < n) (m : Listed) (is : module_at a i ≡ m) where
  its-blocks : block_count a i ≡ blocks_of a.block_size m.size
  its-blocks = ap (λ (x : Listed). blocks_of a.block_size x.size) is

  -- past this module
  pub walked_next : (b : ℕ) → b ≡ blocks_of a.block_size m.size → b ≤ left → m.size ≤ 4294967295 → Walked a n place (left - b) (start + m.size) (i + 1)
  unfolding blocks_to
  walked_next b e f g =
      let k = its-blocks in
      let p = w.1 in
      let q = w.2 in
      let z : (module_at a i).size ≡ m.size = ap (λ (x : Listed). x.size) is in
      let s : blocks_to a (i + 1) ≡ blocks_to a i + block_count a i = ap (blocks_to a) (add-one i) in
      let t : (i + 1 < length a.modules) → start + m.size ≡ start_of a (i + 1) = λ h.
      let x = w.3 (omega (arith, h)) in
      let y = sums_next 0 a.modules i (omega (arith, h)) in
      let v : start_of a (i + 1) ≡ start_of a (suc i) = ap (start_of a) (add-one i) in
      omega (arith, x, y, z, v) in
      (omega arith, omega arith, omega arith, t)

  -- or in it
  pub walked_here : (b : ℕ) → b ≡ blocks_of a.block_size m.size → left < b
      → (i < length a.modules) × (left < block_count a i) × (start ≡ start_of a i) × (place ≡ blocks_to a i + left)
  walked_here b e f = let k = its-blocks in (omega arith, omega arith, w.3 (omega arith), w.1)

-- or past them all
pub walked-past : (a : Announced) (n place left start i : ℕ) → Walked a n place left start i → n ≤ i → blocks_to a n ≤ place
walked-past a n place left start i w l =
    let e : i ≡ n = omega (arith, w.0) in
    let q : place ≡ blocks_to a n + left = w.1 ∙ ap (λ (k : ℕ). blocks_to a k + left) e in
    omega arith

pub one_or_none : {X : Type 0} (x : X) → Some x ≡ None → ⊥
one_or_none {X = X} x e = let z : ◌≡◌ {A = ℕ} 1 0 = ap (λ o. many o) e in omega arith
  where
    many : Option X → ℕ
    many (Some y) = 1
    many None = 0

-- the sections with one module more
pub blocks-next : (a : Announced) (i sum : ℕ) (m : Listed) → module_at a i ≡ m → (b : ℕ) → b ≡ blocks_of a.block_size m.size → sum ≡ 1 + blocks_to a i → sum + b ≡ 1 + blocks_to a (i + 1)
unfolding blocks_to
blocks-next a i sum m is b e h =
    let s : blocks_to a (i + 1) ≡ blocks_to a i + block_count a i = ap (blocks_to a) (add-one i) in
    let k : block_count a i ≡ blocks_of a.block_size m.size = ap (λ (x : Listed). blocks_of a.block_size x.size) is in
    omega arith

pub blocks-none : (a : Announced) → 0 ≡ blocks_to a 0
unfolding blocks_to
blocks-none a = refl

-- THE ENTRIES OF A PLAYLIST, as the modules of the announcement that it says
module _ (p : Playlist) where
  -- as many as are counted; the playlist's array has its 32 entries, however a machine holds them
  pub played-count : length p.modules ≡ most_modules → p.count ≤ most_modules → length (to_play p).modules ≡ p.count
  unfolding to_play
  played-count e h = length-take-le p.count p.modules (omega arith)

  pub entry-is : (i : ℕ) → i < p.count → module_at (to_play p) i ≡ get_or p.modules i none_listed
  unfolding to_play
  entry-is i l = get_or-take p.count p.modules i none_listed l
