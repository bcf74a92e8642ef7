-- What a carousel section says, with its modules and its data as values and no longer as places in the section. 01, "The messages", "The carousel record".
use Rattle.std.specs.Prelude.{Option, Some, None, Ok, Err, ℕ, suc, cond, List, [], ◌∷◌, map, eqb, ltb, take, drop}
use Rattle.wire.specs.Items.{items}
use Rattle.section.specs.declared.Refusal.{Refusal}
use Rattle.carousel_messages.specs.declared.Announcement.{Announcement}
use Rattle.carousel_messages.specs.declared.Block.{Block}
use Rattle.carousel_messages.specs.declared.Listed.{Listed}
use Rattle.carousel_messages.specs.declared.Message.TheVariants as message
use Rattle.carousel_messages.specs.Contents.{module_kind, module_number_of, module_size_of, module_version_of}
use Rattle.carousel_messages.specs.Judged.{Judged, judged_of}

-- of a module the record holds "number, size and version"
abbrev pub listed_of : List ℕ → Listed
listed_of m = record { number = module_number_of m; size = module_size_of m; version = module_version_of m }

abbrev pub none_listed : Listed
none_listed = record { number = 0; size = 0; version = 0 }

-- the modules that lie in some bytes, in order
unfoldable pub list_of : List ℕ → List Listed
list_of list = map listed_of (items module_kind list)

abbrev pub sizes_of : List Listed → List ℕ
sizes_of ms = map (λ m. m.size) ms

abbrev pub numbers_of : List Listed → List ℕ
numbers_of ms = map (λ m. m.number) ms

-- the place of the first module with the number n; where there is none, the number of modules
unfoldable pub place_in : ℕ → List Listed → ℕ
place_in n [] = 0
place_in n (m ∷ ms) = cond (eqb m.number n) 0 (suc (place_in n ms))

-- a place among n as a call answers it
abbrev pub found : (place n : ℕ) → Option ℕ
found p n = cond (ltb p n) (Some p) None

-- "the announcement (downloadId, blockSize and, in order, each module's number, size and version)"
pub record Announced : Type 0 where
  pub download : ℕ
  pub block_size : ℕ
  pub modules : List Listed

-- a data section's block, with its data
pub record Arrived : Type 0 where
  pub download : ℕ
  pub number : ℕ
  pub version : ℕ
  pub block : ℕ
  pub bytes : List ℕ

pub data Heard : Type 0 where
  refusal : Refusal → Heard
  announced : Announced → Heard
  arrived : Arrived → Heard

-- the bytes of a section from `start` on, `size` of them
abbrev pub span_of : List ℕ → (start size : ℕ) → List ℕ
span_of s start size = take size (drop start s)

unfoldable pub announced_in : Announcement → List ℕ → Announced
announced_in a list = record { download = a.download; block_size = a.block_size; modules = list_of list }

unfoldable pub arrived_in : Block → List ℕ → Arrived
arrived_in b bytes = record { download = b.download; number = b.number; version = b.version; block = b.block; bytes = bytes }

unfoldable pub heard_in : List ℕ → Judged → Heard
heard_in s (Err r) = refusal r
heard_in s (Ok (message.Announced a)) = announced (announced_in a (span_of s a.part.start a.part.size))
heard_in s (Ok (message.Carried b)) = arrived (arrived_in b (span_of s b.part.start b.part.size))

-- what a section says, whatever was announced before
unfoldable pub heard_of : List ℕ → Heard
heard_of s = heard_in s (judged_of s)
