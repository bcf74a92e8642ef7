-- The pieces in which code writes a section: the header's eight bytes, the message's twelve, then its payload; and one section laid at the start of a buffer, if there is room.
use Rattle.std.specs.Prelude.{Result, Ok, Err, ℕ, ◌+◌, ◌*◌, ◌<◌, ◌≡◌, cond, List, [], ◌∷◌, ◌++◌, ltb, length, drop}
use Rattle.wire.specs.Fields.{spelled}
use Rattle.wire.specs.Tests.{first_met}
use Rattle.carousel_messages.specs.Heard.{Announced}
use Rattle.carousel_record.specs.Record.{block_count}
use Rattle.carousel_record.specs.Refusals.{meets15}
use Rattle.carousel_play.specs.declared.Playlist.{Playlist}
use Rattle.carousel_play.specs.declared.spell.Head.{Head}
use Rattle.carousel_play.specs.declared.spots.Spot.{Spot}
use Rattle.carousel_play.specs.Bytes.{section_bytes, message_bytes, start_of}
use Rattle.carousel_play.specs.Calls.{to_play, limit_tests}

-- before a body of so many bytes
unfoldable pub head_bytes : Head → (size : ℕ) → List ℕ
head_bytes h size = (h.table ∷ []) ++ spelled 2 (0xB000 + (9 + size)) ++ spelled 2 h.extension ++ ((0xC1 + 2 * h.version) ∷ h.number ∷ h.last ∷ [])

-- before a payload of so many bytes
unfoldable pub message_head : Head → (size : ℕ) → List ℕ
message_head h size = (0x11 ∷ 0x03 ∷ []) ++ spelled 2 h.message ++ spelled 4 h.identifier ++ (0xFF ∷ 0 ∷ []) ++ spelled 2 size

-- a whole section around a payload
unfoldable pub framed_by : Head → List ℕ → List ℕ
framed_by h p = section_bytes h.table h.extension h.version h.number h.last (message_bytes h.message h.identifier p)

-- 21, or the section's size; and the buffer then
unfoldable pub laid_size : (section : List ℕ) → (room : ℕ) → Result ℕ ℕ
laid_size s room = cond (ltb room (length s)) (Err 21) (Ok (length s))

unfoldable pub laid_over : (section out : List ℕ) → List ℕ
laid_over s out = cond (ltb (length out) (length s)) out (s ++ drop (length s) out)

-- 10, 11 or 15: what is known before the place and the buffer are looked at. The image has n bytes.
unfoldable pub refusal_before : Playlist → (n : ℕ) → ℕ
refusal_before p n = first_met (limit_tests p ++ ((15, meets15 (to_play p) n) ∷ []))

-- a block of the rotation that is there: of an announced module, which starts where it is said to
abbrev pub StandsIn : Announced → Spot → Type 0
StandsIn a s = (s.which < length a.modules) × (s.block < block_count a s.which) × (s.start ≡ start_of a s.which)
