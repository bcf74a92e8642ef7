-- THE WORDS OF 02, §13, over the player's calls and the box's.
use Rattle.std.specs.Prelude.{Result, Ok, Err, ℕ, zero, suc, ◌^◌, ◌<◌, ◌≡◌, true, List, [], ◌∷◌, ◌++◌, length, take, drop}
use Rattle.carousel_messages.specs.Heard.{Announced}
use Rattle.carousel_record.specs.Record.{record_of, module_at, block_count, block_length, block_at, received}
use Rattle.carousel_handout.specs.Calls.{handout_number, handed_out}
use Rattle.carousel_play.specs.declared.Playlist.{Playlist}
use Rattle.carousel_play.specs.Bytes.{shore_part, block_data}
use Rattle.carousel_play.specs.Calls.{to_play, play_answer, played_bytes}
use Rattle.receiver.specs.Run.{Held}
use Rattle.demands.specs.Demand.{bytes_at, is_complete_at}

-- "leaves every module complete and equal to the shore's": of the module at place i, whose part of the box's image is then the shore's, and is what is handed out
pub record Ends (a : Announced) (image : List ℕ) (x : Held) (i : ℕ) : Type 0 where
  pub complete : is_complete_at x i ≡ true
  pub equal : bytes_at x i ≡ shore_part a image i
  pub number : handout_number x.state x.image (module_at a i).number ≡ 0
  pub handed : handed_out x.state x.image (module_at a i).number ≡ shore_part a image i

-- what a box has of the module at place i, kept from before or come since, is the shore's: each block that is marked has the shore's data at its place
abbrev pub HasShores : (a : Announced) (image : List ℕ) (x : Held) (i : ℕ) → Type 0
HasShores a image x i =
    let r = record_of x.state in
    (b : ℕ) → b < block_count a i → received r i b ≡ true → take (block_length a i b) (drop (block_at r i b) x.image) ≡ block_data a i b image

-- each field of a playlist has its width: in code its type says so
pub record Widths (p : Playlist) : Type 0 where
  pub download : p.download < 2 ^ 32
  pub number : (i : ℕ) → i < length (to_play p).modules → (module_at (to_play p) i).number < 2 ^ 16
  pub version : (i : ℕ) → i < length (to_play p).modules → (module_at (to_play p) i).version < 2 ^ 8

-- what one call of `write_section` put into the buffer that it was lent: as many bytes as it answers, none on a refusal
abbrev pub size_told : Result ℕ ℕ → ℕ
size_told (Ok n) = n
size_told (Err r) = 0

unfoldable pub put_by : (identifier : ℕ) → Playlist → (image : List ℕ) → (k : ℕ) → (out : List ℕ) → List ℕ
put_by id p image k out = take (size_told (play_answer id p image k (length out))) (played_bytes id p image k out)

-- and calls at places 0 to n - 1, the one at place k into the buffer `buffers k`
unfoldable pub sent_by : (identifier : ℕ) → Playlist → (image : List ℕ) → (buffers : ℕ → List ℕ) → (n : ℕ) → List (List ℕ)
sent_by id p image buffers zero = []
sent_by id p image buffers (suc n) = sent_by id p image buffers n ++ (put_by id p image n (buffers n) ∷ [])
