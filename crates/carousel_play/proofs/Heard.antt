-- THEOREM 1: each section of a rotation is accepted and is judged to be exactly that announcement or that block, field by field.
use Prim.Native.Nat.{ℕ, ◌+◌, ◌-◌, ◌*◌, ◌%◌, ◌^◌, ◌≤◌, ◌<◌, min}
use mathlib.Core.Path.{◌≡◌, refl, sym, ap, subst, ◌∙◌}
use mathlib.Core.List.{List, map, map-map}
use native.Mathlib.Omega.{arith}
use lib.ListN.{length, get_or, drop, length-drop, length-map}
use lib.Seq.{length-take-le}
use Rattle.wire.specs.Fields.{field_at, spelled}
use Rattle.section.specs.declared.Header.{Header}
use Rattle.section.specs.Header.{announcement_table, block_table, header_of, body_of}
use Rattle.section.specs.declared.Rules.TheVariants.{Carousel}
use Rattle.section.specs.Refusals.{GoodSection}
use Rattle.carousel_messages.specs.declared.Listed.{Listed}
use Rattle.carousel_messages.specs.declared.CarouselTable.TheVariants.{Announcements, Blocks}
use Rattle.carousel_messages.specs.Limits.{largest_block, most_modules, most_blocks}
use Rattle.carousel_messages.specs.Message.{message_identifier_of, payload_of}
use Rattle.carousel_messages.specs.Contents.{download_of, block_size_of, modules_of, block_module_of, block_version_of, block_number_of, block_data_of}
use Rattle.carousel_messages.specs.Heard.{Announced, Arrived, announced, arrived, listed_of, none_listed, sizes_of, numbers_of, heard_of}
use Rattle.carousel_messages.specs.Good.{Distinct, announced_sizes, announced_numbers, GoodMessage, GoodModules, GoodAnnouncement, GoodBlock, said_announcement, said_block}
use Rattle.carousel_messages.proofs.Good.{announcement-says, block-says}
use Rattle.carousel_record.specs.Record.{module_at, block_count, block_length}
use Rattle.carousel_record.proofs.Laws.Blocks.{few, length_le, ends}
use Rattle.carousel_record.proofs.Laws.Places.{size-most, module-fits}
use Rattle.carousel_play.specs.Bytes.{message_bytes, list_bytes, announcement_bytes, start_of, block_data, carried_bytes, block_bytes}
use Rattle.carousel_play.specs.Rotation.{Playable, Holding}
use Rattle.carousel_play.proofs.Laws.Limits.{not_ten}
use Rattle.carousel_play.proofs.Laws.Framing.{two, section-header, section-body, section-good, message-long, message-identifier, message-payload, message-good}
use Rattle.carousel_play.proofs.Laws.Payload.{modules_say, list-download, list-block-size, list-long, list-modules, list-starts, list_counted, list-ends}

-- THE ANNOUNCEMENT
module _ (id : ℕ) (a : Announced) (ok : Playable a) where
  abbrev ms : List Listed
  ms = a.modules

  abbrev list : List ℕ
  list = list_bytes a

  abbrev b : List ℕ
  b = message_bytes 0x1002 id list

  abbrev s : List ℕ
  s = announcement_bytes id a

  few-modules : length ms ≤ most_modules
  few-modules = ok.keeps.modules_most

  widths : (i : ℕ) → i < length ms → ((get_or ms i none_listed).number < 2 ^ 16) × ((get_or ms i none_listed).size < 2 ^ 32)
  widths i h =
      let z = module-fits 0 ms i h in
      let y = ok.keeps.together in
      (ok.number i h, omega arith)

  payload-few : length list < 2 ^ 16
  payload-few = let l = list-long a few-modules in let k = few-modules in omega arith

  body-few : length b ≤ 4084
  body-few = let l = list-long a few-modules in let m = message-long 0x1002 id list in let k = few-modules in omega arith

  low : id % 2 ^ 16 < 2 ^ 16
  low = omega arith

  announcement-header : header_of s ≡ record { table = announcement_table; extension = id % 2 ^ 16; version = 0; section = 0; last = 0 }
  unfolding announcement_bytes
  announcement-header = section-header announcement_table (id % 2 ^ 16) 0 0 0 b low (omega arith) body-few

  its-body : body_of s ≡ b
  unfolding announcement_bytes
  its-body = section-body announcement_table (id % 2 ^ 16) 0 0 0 b low (omega arith) body-few

  its-payload : payload_of (body_of s) ≡ list
  its-payload = ap payload_of its-body ∙ message-payload Announcements id list payload-few

  its-modules : map listed_of (modules_of list) ≡ ms
  its-modules = ap (map listed_of) (list-modules a few-modules) ∙ modules_say ms widths

  its-count : length (modules_of list) ≡ length ms
  its-count = sym (length-map (modules_of list) listed_of) ∙ ap (λ (l : List Listed). length l) its-modules

  its-sizes : announced_sizes list ≡ sizes_of ms
  its-sizes = sym (map-map (λ (m : Listed). m.size) listed_of (modules_of list)) ∙ ap sizes_of its-modules

  its-numbers : announced_numbers list ≡ numbers_of ms
  its-numbers = sym (map-map (λ (m : Listed). m.number) listed_of (modules_of list)) ∙ ap numbers_of its-modules

  its-block-size : block_size_of list ≡ a.block_size
  its-block-size = let m = ok.keeps.block_most in list-block-size a few-modules (omega arith)

  list-good : GoodModules list
  list-good =
      let k = ok.keeps in
      let e = its-block-size in
      let n = its-count in
      record {
        headed = list-starts a few-modules;
        counted = list_counted a few-modules;
        ends = list-ends a few-modules;
        block_some = omega (arith, e, k.block_some);
        block_most = omega (arith, e, k.block_most);
        modules_some = omega (arith, n, k.modules_some);
        modules_most = omega (arith, n, k.modules_most);
        sizes = rw (its-sizes, its-block-size) k.sizes;
        together = rw its-sizes k.together;
        distinct = subst Distinct (sym its-numbers) k.distinct;
      }

  good : GoodAnnouncement s
  unfolding announcement_bytes
  good = record {
    section = section-good announcement_table (id % 2 ^ 16) 0 0 0 b low (omega arith) body-few refl (omega arith);
    table = ap (λ (h : Header). h.table) announcement-header;
    message = subst (λ (l : List ℕ). GoodMessage Announcements l) (sym its-body) (message-good Announcements id list payload-few);
    list = subst GoodModules (sym its-payload) list-good;
  }

  says : said_announcement s ≡ a
  says =
      ap (λ (q : List ℕ). record { download = download_of q; block_size = block_size_of q; modules = map listed_of (modules_of q) }) its-payload
      ∙ (λ i. record { download = list-download a few-modules ok.download i; block_size = its-block-size i; modules = its-modules i })

  -- IT IS WELL FORMED, AND SAYS THAT ANNOUNCEMENT
  pub announcement_well : GoodAnnouncement s × (said_announcement s ≡ a)
  announcement_well = (good, says)

  pub announcement-heard_as : heard_of s ≡ announced a
  announcement-heard_as = announcement-says s good ∙ ap announced says

-- A BLOCK
module _ (a : Announced) (ok : Playable a) (image : List ℕ) (holds : Holding a image) (i b : ℕ) (there : i < length a.modules) (one : b < block_count a i) where
  abbrev size : ℕ
  size = (module_at a i).size

  some : 0 < a.block_size
  some = ok.keeps.block_some

  -- it lies in the shore's image
  pub data-long : length (block_data a i b image) ≡ block_length a i b
  unfolding block_data
  data-long =
      let m = module-fits 0 a.modules i there in
      let e = ends a.block_size size some b one in
      length-take-le (block_length a i b) (drop (start_of a i + b * a.block_size) image) (rw length-drop (omega arith))

  data-few : length (block_data a i b image) ≤ largest_block
  data-few =
      let l = data-long in
      let k = length_le a.block_size size some b one in
      let m = ok.keeps.block_most in
      omega arith

  block-few : b < most_blocks
  block-few = let f = few a.block_size size some most_blocks (size-most a.block_size a.modules (not_ten a ok.keeps) i there) in omega arith

  abbrev p : List ℕ
  p = carried_bytes (module_at a i).number (module_at a i).version b (block_data a i b image)

  abbrev body : List ℕ
  body = message_bytes 0x1003 a.download p

  abbrev c : List ℕ
  c = block_bytes a i b image

  payload-long : length p ≡ 6 + length (block_data a i b image)
  unfolding spelled
  payload-long = omega arith

  payload-small : length p < 2 ^ 16
  payload-small = let l = payload-long in let k = data-few in omega arith

  body-small : length body ≤ 4084
  body-small = let l = payload-long in let m = message-long 0x1003 a.download p in let k = data-few in omega arith

  narrow : (module_at a i).version % 32 < 32
  narrow = omega arith

  last-above : b % 256 ≤ min 255 (block_count a i - 1)
  last-above = omega arith

  -- its header: the extension is the module's number, the section version its version mod 32 (what §6 asks), and the numbers as §13 has them
  pub block-header : header_of c ≡ record { table = block_table; extension = (module_at a i).number; version = (module_at a i).version % 32; section = b % 256; last = min 255 (block_count a i - 1) }
  unfolding block_bytes
  block-header = section-header block_table (module_at a i).number ((module_at a i).version % 32) (b % 256) (min 255 (block_count a i - 1)) body (ok.number i there) narrow body-small

  block-body : body_of c ≡ body
  unfolding block_bytes
  block-body = section-body block_table (module_at a i).number ((module_at a i).version % 32) (b % 256) (min 255 (block_count a i - 1)) body (ok.number i there) narrow body-small

  block-section : GoodSection Carousel c
  unfolding block_bytes
  block-section = section-good block_table (module_at a i).number ((module_at a i).version % 32) (b % 256) (min 255 (block_count a i - 1)) body (ok.number i there) narrow body-small refl last-above

  block-payload : payload_of (body_of c) ≡ p
  block-payload = ap payload_of block-body ∙ message-payload Blocks a.download p payload-small

  says-number : block_module_of p ≡ (module_at a i).number
  unfolding spelled field_at
  says-number = two (module_at a i).number (ok.number i there)

  says-version : block_version_of p ≡ (module_at a i).version
  unfolding spelled
  says-version = refl

  says-block : block_number_of p ≡ b
  unfolding spelled field_at
  says-block = let k = block-few in two b (omega arith)

  says_data : block_data_of p ≡ block_data a i b image
  unfolding spelled
  says_data = refl

  block-good : GoodBlock c
  block-good =
      let m : GoodMessage Blocks body = message-good Blocks a.download p payload-small in
      record {
        formed = record {
          section = block-section;
          table = ap (λ (h : Header). h.table) block-header;
          message = subst (λ (l : List ℕ). GoodMessage Blocks l) (sym block-body) m;
          headed = let l = payload-long in let e = ap length block-payload in omega arith;
        };
        extension = ap (λ (h : Header). h.extension) block-header ∙ sym (ap block_module_of block-payload ∙ says-number);
        number = ap (λ (h : Header). h.section) block-header ∙ sym (ap (λ (l : List ℕ). block_number_of l % 256) block-payload ∙ ap (λ (k : ℕ). k % 256) says-block);
        version = ap (λ (h : Header). h.version) block-header ∙ sym (ap (λ (l : List ℕ). block_version_of l % 32) block-payload ∙ ap (λ (k : ℕ). k % 32) says-version);
      }

  abbrev pub the_block : Arrived
  the_block = record { download = a.download; number = (module_at a i).number; version = (module_at a i).version; block = b; bytes = block_data a i b image }

  block-says_it : said_block c ≡ the_block
  block-says_it =
      let d = ap message_identifier_of block-body ∙ message-identifier Blocks a.download p payload-small ok.download in
      let n = ap block_module_of block-payload ∙ says-number in
      let v = ap block_version_of block-payload ∙ says-version in
      let k = ap block_number_of block-payload ∙ says-block in
      let l = ap block_data_of block-payload ∙ says_data in
      λ j. record { download = d j; number = n j; version = v j; block = k j; bytes = l j }

  -- A BLOCK IS HEARD AS THAT BLOCK, with its data
  pub block-heard_as : heard_of c ≡ arrived the_block
  block-heard_as = block-says c block-good ∙ ap arrived block-says_it

  pub block_well : GoodBlock c × (said_block c ≡ the_block)
  block_well = (block-good, block-says_it)
