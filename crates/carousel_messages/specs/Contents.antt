-- The payloads: an announcement (DII), and a block (DDB). 01, "The messages".
-- p is the payload, after the adaptation bytes.
use Rattle.std.specs.Prelude.{ℕ, ◌+◌, Bool, not, ◌&&◌, List, leb, eqb, length, take, drop}
use Rattle.wire.specs.Fields.{byte_at, sixteen_at, thirty_two_at}
use Rattle.wire.specs.Items.{Size, measured, items, end_of}

-- DII: "downloadId 32, blockSize 16, 10 bytes unread, compatibility length 16 and bytes, module count 16; each module ..; private length 16 and bytes, ending exactly."
abbrev pub download_of : List ℕ → ℕ
download_of p = thirty_two_at p 0

abbrev pub block_size_of : List ℕ → ℕ
block_size_of p = sixteen_at p 4

abbrev pub compatibility_of : List ℕ → ℕ
compatibility_of p = sixteen_at p 16

abbrev pub module_count_of : List ℕ → ℕ
module_count_of p = sixteen_at p (18 + compatibility_of p)

abbrev pub modules_start : List ℕ → ℕ
modules_start p = 20 + compatibility_of p

-- "each module: number 16, size 32, version 8, info length 8 and bytes"
abbrev pub module_kind : Size
module_kind = measured 8 7

-- where as many modules as are counted end, 0 where there are fewer
abbrev pub modules_end : List ℕ → ℕ
modules_end p = end_of (module_count_of p) (modules_start p) (items module_kind (drop (modules_start p) p))

-- every length and fixed field fits, and the private bytes end exactly
unfoldable pub announcement_framed : List ℕ → Bool
announcement_framed p =
    leb (modules_start p) (length p) && not (eqb (modules_end p) 0) && eqb (modules_end p + 2 + sixteen_at p (modules_end p)) (length p)

-- the first n modules from byte i on, and the modules that are announced
abbrev pub modules_from : List ℕ → (i n : ℕ) → List (List ℕ)
modules_from p i n = take n (items module_kind (drop i p))

abbrev pub modules_of : List ℕ → List (List ℕ)
modules_of p = modules_from p (modules_start p) (module_count_of p)

abbrev pub module_number_of : List ℕ → ℕ
module_number_of m = sixteen_at m 0

abbrev pub module_size_of : List ℕ → ℕ
module_size_of m = thirty_two_at m 2

abbrev pub module_version_of : List ℕ → ℕ
module_version_of m = byte_at m 6

-- DDB: "module number 16, version 8, one byte unread, block number 16, data."
abbrev pub block_framed : List ℕ → Bool
block_framed p = leb 6 (length p)

abbrev pub block_module_of : List ℕ → ℕ
block_module_of p = sixteen_at p 0

abbrev pub block_version_of : List ℕ → ℕ
block_version_of p = byte_at p 2

abbrev pub block_number_of : List ℕ → ℕ
block_number_of p = sixteen_at p 4

abbrev pub block_data_of : List ℕ → List ℕ
block_data_of p = drop 6 p
