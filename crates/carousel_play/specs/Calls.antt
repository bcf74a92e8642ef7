-- WHAT THE PLAYER'S CALLS ANSWER, and what they leave in the lent buffer. 02, §13.
use Rattle.std.specs.Prelude.{Result, ℕ, ◌*◌, ◌≤◌, not, cond, ◌||◌, eqb, ltb, length, take, drop}
use mathlib.Core.List.{List, [], ◌∷◌, ◌++◌, Memᴰ}
use Rattle.wire.specs.Tests.{Tests, first_met}
use Rattle.wire.specs.Outcomes.{answered}
use Rattle.carousel_messages.specs.Limits.{largest_block, most_modules, most_blocks, most_bytes, total, beyond10, twice11}
use Rattle.carousel_messages.specs.Heard.{Announced, sizes_of, numbers_of}
use Rattle.carousel_messages.specs.Good.{Distinct}
use Rattle.carousel_record.specs.Refusals.{meets15}
use Rattle.carousel_play.specs.declared.Playlist.{Playlist}
use Rattle.carousel_play.specs.Rotation.{section_count, section_at}

-- the announcement that a playlist says. Its entries from the count on are not looked at.
unfoldable pub to_play : Playlist → Announced
to_play p = record { download = p.download; block_size = p.block_size; modules = take p.count p.modules }

-- WHAT 10 AND 11 ASK OF A PLAYLIST, in plain facts that share nothing with the tests below
-- 10 DOES NOT MEET a playlist: "blockSize 0 or over 4,066; 0 or over 32 modules; a size 0 or over 1,024 × blockSize; sizes over 262,144 together" (01, with 02 §8's numbers)
pub record InLimits (p : Playlist) : Type 0 where
  pub block_some : 1 ≤ p.block_size
  pub block_most : p.block_size ≤ largest_block
  pub modules_some : 1 ≤ length (to_play p).modules
  pub modules_most : p.count ≤ most_modules
  pub sizes : (z : ℕ) → Memᴰ z (sizes_of (to_play p).modules) → (1 ≤ z) × (z ≤ most_blocks * p.block_size)
  pub together : total (sizes_of (to_play p).modules) ≤ most_bytes

-- 11 DOES NOT: no module number twice
abbrev pub Different : Playlist → Type 0
Different p = Distinct (numbers_of (to_play p).modules)

-- 10, which a count of more than there are entries meets as well; 11
abbrev pub limit_tests : Playlist → Tests
limit_tests p =
    (10, ltb most_modules p.count || beyond10 p.block_size (sizes_of (to_play p).modules))
    ∷ (11, twice11 (numbers_of (to_play p).modules))
    ∷ []

unfoldable pub limit_refusal : Playlist → ℕ
limit_refusal p = first_met (limit_tests p)

-- "Refusals: 10, 11, 15, 19, and 21 for a short buffer, lowest first." The place is k, and the buffer has `room` bytes. 15 is looked at for every place.
abbrev pub play_tests : (identifier : ℕ) → Playlist → (image : List ℕ) → (k room : ℕ) → Tests
play_tests id p image k room =
    limit_tests p
    ++ ((15, meets15 (to_play p) (length image)) ∷ (19, not (ltb k (section_count (to_play p)))) ∷ (21, ltb room (length (section_at id (to_play p) image k))) ∷ [])

unfoldable pub play_refusal : (identifier : ℕ) → Playlist → (image : List ℕ) → (k room : ℕ) → ℕ
play_refusal id p image k room = first_met (play_tests id p image k room)

-- HOW MANY SECTIONS ONE ROTATION HAS, or the refusal
unfoldable pub count_answer : Playlist → Result ℕ ℕ
count_answer p = answered (limit_refusal p) (section_count (to_play p))

-- THE SECTION'S SIZE, or the refusal
unfoldable pub play_answer : (identifier : ℕ) → Playlist → (image : List ℕ) → (k room : ℕ) → Result ℕ ℕ
play_answer id p image k room = answered (play_refusal id p image k room) (length (section_at id (to_play p) image k))

-- AND WHAT IS LEFT IN THE BUFFER: the section, and "what lies past the section is unchanged"; a refusal writes nothing
unfoldable pub played_bytes : (identifier : ℕ) → Playlist → (image : List ℕ) → (k : ℕ) → (out : List ℕ) → List ℕ
played_bytes id p image k out = cond (eqb (play_refusal id p image k (length out)) 0)
    (section_at id (to_play p) image k ++ drop (length (section_at id (to_play p) image k)) out)
    out
