-- The block that a place chooses: how long it is, that it lies in the image, and that what is written for it is the section at that place.
use Prim.Native.Nat.{ℕ, suc, ◌+◌, ◌-◌, ◌*◌, ◌%◌, ◌^◌, ◌≤◌, ◌<◌, min}
use mathlib.Core.Path.{◌≡◌, refl, sym, ap, ◌∙◌}
use mathlib.Core.Bool.{Bool, true, false}
use mathlib.Core.List.{List}
use native.Mathlib.Omega.{arith}
use lib.Dec.{ltb}
use lib.ListN.{length, take, drop, length-drop}
use lib.Seq.{length-take-le}
use borrow.Author.Tests.{ltb-true, ltb-false}
use Rattle.wire.specs.Fields.{spelled}
use Rattle.section.specs.Header.{announcement_table, block_table}
use Rattle.carousel_messages.specs.declared.Listed.{Listed}
use Rattle.carousel_messages.specs.Limits.{largest_block, most_modules, most_blocks, most_bytes, beyond10}
use Rattle.carousel_messages.specs.Heard.{Announced, sizes_of}
use Rattle.carousel_record.specs.Blocks.{blocks_of, block_length_of}
use Rattle.carousel_record.specs.Record.{module_at, bytes_of, block_count}
use Rattle.carousel_record.proofs.Laws.Blocks.{covers, few, inner_length, last_length, begins, length_le, ends}
use Rattle.carousel_record.proofs.Laws.Places.{block-size_pos, block-size-most, size-most, bytes_most, module-fits}
use Rattle.carousel_play.specs.Bytes.{section_bytes, message_bytes, list_bytes, announcement_bytes, carried_bytes, start_of, block_data, block_bytes}
use Rattle.carousel_play.specs.Rotation.{blocks_to, section_at}
use Rattle.carousel_play.proofs.Laws.Places.{block-place}
use Rattle.carousel_play.proofs.Laws.Framing.{section-long, message-long}
use Rattle.carousel_play.proofs.Laws.Payload.{list-long}

-- A BLOCK HAS blockSize BYTES OR WHAT IS LEFT, whichever is less
module _ (bs z : ℕ) (some : 0 < bs) (b : ℕ) (one : b < blocks_of bs z) where
  pub length-is : min bs (z - b * bs) ≡ block_length_of bs z b
  length-is = go (ltb (suc b) (blocks_of bs z)) refl
    where
      go : (t : Bool) → ltb (suc b) (blocks_of bs z) ≡ t → min bs (z - b * bs) ≡ block_length_of bs z b
      go true e =
          let h = ltb-true (suc b) (blocks_of bs z) e in
          let k = begins bs z some (suc b) h in
          let l = inner_length bs z some b h in
          omega arith
      go false e =
          let h = ltb-false (suc b) (blocks_of bs z) e in
          let k = covers bs z some in
          let q : blocks_of bs z ≡ suc b = omega arith in
          let r : z ≤ suc b * bs = rw q at k in
          let l = last_length bs z some b h in
          omega arith

-- HOW LONG A SECTION IS
pub carried-size : (n v b : ℕ) (ds : List ℕ) → length (carried_bytes n v b ds) ≡ 6 + length ds
unfolding spelled
carried-size n v b ds = omega arith

pub block_size_lem : (t x v n l m id number version block : ℕ) (ds : List ℕ) → length (section_bytes t x v n l (message_bytes m id (carried_bytes number version block ds))) ≡ 30 + length ds
block_size_lem t x v n l m id number version block ds =
    let p = carried_bytes number version block ds in
    let e = section-long t x v n l (message_bytes m id p) in
    let f = message-long m id p in
    let g = carried-size number version block ds in
    omega arith

pub announcement-size : (id : ℕ) (a : Announced) → length a.modules ≤ most_modules → length (announcement_bytes id a) ≡ 46 + 8 * length a.modules
unfolding announcement_bytes
announcement-size id a few =
    let e = section-long announcement_table (id % 2 ^ 16) 0 0 0 (message_bytes 0x1002 id (list_bytes a)) in
    let f = message-long 0x1002 id (list_bytes a) in
    let g = list-long a few in
    omega arith

-- the part of the image that code cuts out
pub cut : (st at k len n : ℕ) (image : List ℕ) → len ≡ n → st ≡ at → take (st + k + len - (st + k)) (drop (st + k) image) ≡ take n (drop (at + k) image)
cut st at k len n image e f =
    let g : st + k + len - (st + k) ≡ n = omega arith in
    ap (λ (x : ℕ). take x (drop (st + k) image)) g ∙ ap (λ (x : ℕ). take n (drop (x + k) image)) f

pub part-long : (from len n : ℕ) (image : List ℕ) → len ≡ n → from + n ≤ length image → length (take (from + len - from) (drop from image)) ≡ n
part-long from len n image e h =
    let g : from + len - from ≡ n = omega arith in
    ap (λ (x : ℕ). length (take x (drop from image))) g ∙ length-take-le n (drop from image) (rw length-drop (omega arith))

-- WHAT IS KNOWN of block b of the module at place i, which is m
pub record Chosen (a : Announced) (i b : ℕ) (m : Listed) : Type 0 where
  pub some : 0 < a.block_size
  pub one : b < blocks_of a.block_size m.size
  pub begun : b * a.block_size < m.size
  pub below : b < most_blocks
  pub short : block_length_of a.block_size m.size b ≤ largest_block
  pub inside : start_of a i + b * a.block_size + block_length_of a.block_size m.size b ≤ bytes_of a
  pub bounded : bytes_of a ≤ most_bytes

module _ (a : Announced) (limits : beyond10 a.block_size (sizes_of a.modules) ≡ false) (i b : ℕ) (u : i < length a.modules) (v : b < block_count a i) (m : Listed) (e : module_at a i ≡ m) where
  pub chosen : Chosen a i b m
  chosen =
      let bs = a.block_size in
      let k : (module_at a i).size ≡ m.size = ap (λ (x : Listed). x.size) e in
      let p = block-size_pos bs a.modules limits in
      let q = block-size-most bs a.modules limits in
      let o : b < blocks_of bs m.size = rw (← k) v in
      let f = few bs (module_at a i).size p most_blocks (size-most bs a.modules limits i u) in
      let l = length_le bs m.size p b o in
      let g = ends bs m.size p b o in
      let h = module-fits 0 a.modules i u in
      record {
        some = p;
        one = o;
        begun = begins bs m.size p b o;
        below = omega (arith, f, v);
        short = omega (arith, l, q);
        inside = omega (arith, g, h, k);
        bounded = bytes_most bs a.modules limits;
      }

  -- what code writes for it is that block's section
  module _ (image : List ℕ) where
    pub block-is : (last : ℕ) → last ≡ min 255 (blocks_of a.block_size m.size - 1) → (ds : List ℕ)
        → ds ≡ take (block_length_of a.block_size m.size b) (drop (start_of a i + b * a.block_size) image)
        → section_bytes block_table m.number (m.version % 32) (b % 256) last (message_bytes 0x1003 a.download (carried_bytes m.number m.version b ds))
        ≡ block_bytes a i b image
    unfolding block_bytes block_data
    block-is last l ds d = rw (l, d, ← e)

    pub block-long : bytes_of a ≤ length image → length (block_bytes a i b image) ≡ 30 + block_length_of a.block_size m.size b
    block-long h =
        let bs = a.block_size in
        let n = block_length_of bs m.size b in
        let ds : List ℕ = take n (drop (start_of a i + b * bs) image) in
        let w = chosen.inside in
        let l : length ds ≡ n = length-take-le n (drop (start_of a i + b * bs) image) (rw length-drop (omega arith)) in
        sym (ap length (block-is (min 255 (blocks_of bs m.size - 1)) refl ds refl))
        ∙ block_size_lem block_table _ _ _ _ 0x1003 _ _ _ _ ds ∙ ap (λ (k : ℕ). 30 + k) l

    -- which stands at its place
    pub section-size : (id place : ℕ) → place ≡ blocks_to a i + b → bytes_of a ≤ length image
        → length (section_at id a image (1 + place)) ≡ 30 + block_length_of a.block_size m.size b
    section-size id place q h = ap (λ (k : ℕ). length (section_at id a image (1 + k))) q ∙ ap length (block-place a image id i b u v) ∙ block-long h
