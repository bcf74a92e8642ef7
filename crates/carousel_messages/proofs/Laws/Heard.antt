-- What is heard of a section that is taken: the places that its answer gives lie in the section, and the bytes there are the modules, or the data, of its message.
use Prim.Native.Nat.{ℕ, ◌+◌, ◌-◌, ◌≤◌}
use mathlib.Core.Path.{◌≡◌, refl, sym, ap, ◌∙◌}
use mathlib.Core.Bool.{true, false}
use mathlib.Core.List.{List, map, map-map}
use native.Mathlib.Omega.{arith}
use Rattle.std.proofs.Common.{Ok, Err}
use lib.Dec.{eqb, leb}
use lib.ListN.{length, take, drop, length-map, length-drop}
use lib.Seq.{drop-drop, length-take-le}
use borrow.Author.Tests.{eqb-true, leb-true, not-false}
use Rattle.wire.specs.Items.{items}
use Rattle.wire.proofs.Laws.Tests.{both}
use Rattle.wire.proofs.Laws.Order.{None}
use Rattle.wire.proofs.Laws.Loops.{tail}
use Rattle.wire.proofs.Laws.Counted.{counted-fits, counted-items}
use Rattle.wire.proofs.Laws.Finders.{part_part}
use Rattle.section.specs.Header.{header_of, body_of}
use Rattle.carousel_messages.specs.declared.CarouselTable.{CarouselTable}
use Rattle.carousel_messages.specs.declared.CarouselTable.TheVariants.{Announcements, Blocks}
use Rattle.carousel_messages.specs.declared.Announcement.{Announcement}
use Rattle.carousel_messages.specs.declared.Block.{Block}
use Rattle.carousel_messages.specs.declared.Message.TheVariants as message
use Rattle.carousel_messages.specs.Message.{adaptation_of, message_length_of, payload_of}
use Rattle.carousel_messages.specs.Contents.{module_kind, module_count_of, modules_start, modules_end, modules_of, module_size_of, block_size_of, announcement_framed, block_data_of}
use Rattle.carousel_messages.specs.Limits.{most_modules, beyond10, twice11}
use Rattle.carousel_messages.specs.Refusals.{message_framed, payload_framed, message_meets7, meets10, meets11, message_tests}
use Rattle.carousel_messages.specs.Judged.{Judged, announcement_of, block_of, judged_of, number_of_judged, carousel_table_in}
use Rattle.carousel_messages.specs.Heard.{listed_of, list_of, span_of, Announced, announced, announced_in, heard_in, heard_of}
use Rattle.carousel_messages.proofs.Laws.Limits.{within}
use Rattle.carousel_messages.proofs.Laws.Listed.{module_kind_lem}
use Rattle.carousel_messages.proofs.Laws.Refusals.{counted, framed-starts, framed-ends}
use Rattle.carousel_messages.proofs.Exact.{good-exactly, announced-exactly, carried-exactly}

-- a message that ends with its body, and its payload with it
module _ (t : CarouselTable) (b : List ℕ) (f : message_meets7 t b ≡ false) where
  fits : (message_framed b ≡ true) × (payload_framed t (payload_of b) ≡ true)
  unfolding message_meets7
  fits = both (message_framed b) (payload_framed t (payload_of b)) (not-false _ f)

  payload-long : 12 + adaptation_of b + length (payload_of b) ≡ length b
  unfolding message_framed
  payload-long =
      let q = both (eqb (12 + message_length_of b) (length b)) (leb (adaptation_of b) (message_length_of b)) fits.0 in
      let e = eqb-true (12 + message_length_of b) (length b) q.0 in
      let l = leb-true (adaptation_of b) (message_length_of b) q.1 in
      let d = length-drop (12 + adaptation_of b) b in
      omega arith

-- where part of a section's payload lies in the section
module _ (s : List ℕ) (l : 12 ≤ length s) (f : 12 + adaptation_of (body_of s) + length (payload_of (body_of s)) ≡ length (body_of s)) (i n : ℕ) (h : i + n ≤ length (payload_of (body_of s))) where
  body-long : length (body_of s) ≡ length s - 12
  body-long = length-take-le (length s - 12) (drop 8 s) (rw length-drop (omega arith))

  part-inside : 20 + adaptation_of (body_of s) + i + n ≤ length s
  part-inside = let k = body-long in omega arith

  part-said : span_of s (20 + adaptation_of (body_of s) + i) n ≡ take n (drop i (payload_of (body_of s)))
  part-said =
      let k = body-long in
      let d = drop-drop i (12 + adaptation_of (body_of s)) (body_of s) in
      let p = part_part s 8 (length s - 12) (12 + adaptation_of (body_of s) + i) n (omega arith) (omega arith) in
      let a : 20 + adaptation_of (body_of s) + i ≡ 8 + (12 + adaptation_of (body_of s) + i) = omega arith in
      ap (λ (x : ℕ). take n (drop x s)) a ∙ sym (ap (take n) d ∙ p)

-- a section that is taken has its header and its CRC
taken-long : (s : List ℕ) → number_of_judged (judged_of s) ≡ 0 → 12 ≤ length s
taken-long s e = let g = ((good-exactly s).0 e).0 in omega (arith, g.exact, g.least)

tables-differ : Blocks ≡ Announcements → ⊥
tables-differ e = let z : ◌≡◌ {A = ℕ} 0 1 = cc in omega arith

-- AN ANNOUNCEMENT
module _ (s : List ℕ) (a : Announcement) (e : judged_of s ≡ Ok (message.Announced a)) where
  abbrev p : List ℕ
  p = payload_of (body_of s)

  abbrev from : ℕ
  from = modules_start p

  abbrev size : ℕ
  size = modules_end p - modules_start p

  long : 12 ≤ length s
  long = taken-long s ((announced-exactly s a).0 e).0

  is_it : announcement_of (body_of s) ≡ a
  is_it = ((announced-exactly s a).0 e).2

  passes : (message_meets7 Announcements (body_of s) ≡ false) × (meets10 p ≡ false) × (meets11 p ≡ false)
  passes = go (carousel_table_in s) ((announced-exactly s a).0 e).1 ((good-exactly s).0 ((announced-exactly s a).0 e).0).1
    where
      go : (t : CarouselTable) → t ≡ Announcements → None (message_tests t (header_of s) (body_of s)) → (message_meets7 Announcements (body_of s) ≡ false) × (meets10 p ≡ false) × (meets11 p ≡ false)
      go Announcements f n = (n.1.1.0, n.1.1.1.0, n.1.1.1.1.0)
      go Blocks f n = absurd (tables-differ f)

  framed : announcement_framed p ≡ true
  unfolding payload_framed
  framed = (fits Announcements (body_of s) passes.0).1

  in_it : from + size ≤ length p
  in_it =
      let b = framed-starts p framed in
      let k = counted-fits module_kind module_kind_lem (module_count_of p) (modules_start p) p b in
      omega arith

  whole : 12 + adaptation_of (body_of s) + length p ≡ length (body_of s)
  whole = payload-long Announcements (body_of s) passes.0

  span-is : span_of s a.part.start a.part.size ≡ take size (drop from p)
  unfolding announcement_of
  span-is = ap (λ (x : Announcement). span_of s x.part.start x.part.size) (sym is_it) ∙ part-said s long whole from size in_it

  pub announcement-inside : a.part.start + a.part.size ≤ length s
  unfolding announcement_of
  announcement-inside =
      let i = part-inside s long whole from size in_it in
      let j : a.part.start + a.part.size ≡ 20 + adaptation_of (body_of s) + from + size = ap (λ (x : Announcement). x.part.start + x.part.size) (sym is_it) in
      omega arith

  -- ITS MODULES ARE THE MESSAGE'S, and as many as it says
  pub modules-said : list_of (span_of s a.part.start a.part.size) ≡ map listed_of (modules_of (payload_of (body_of s)))
  unfolding list_of
  modules-said = ap (λ (l : List ℕ). map listed_of (items module_kind l)) span-is ∙ ap (map listed_of) (counted-items module_kind module_kind_lem (module_count_of p) from (drop from p)
      (framed-ends p framed))

  how-many : length (modules_of p) ≡ a.count
  unfolding announcement_of
  how-many = counted (module_count_of p) from (items module_kind (drop from p)) (framed-ends p framed) ∙ ap (λ (x : Announcement). x.count) is_it

  pub count-said : a.count ≡ length (list_of (span_of s a.part.start a.part.size))
  count-said = sym (ap length modules-said ∙ length-map (modules_of p) listed_of ∙ how-many)

  pub heard-small : a.count ≤ most_modules
  unfolding meets10
  heard-small =
      let b = (within (block_size_of p) (map module_size_of (modules_of p)) passes.1).few in
      let l = length-map (modules_of p) module_size_of in
      let k = how-many in
      omega arith

  -- and within the limits
  limits : (beyond10 a.block_size (map (λ m. m.size) (list_of (span_of s a.part.start a.part.size))) ≡ false)
      × (twice11 (map (λ m. m.number) (list_of (span_of s a.part.start a.part.size))) ≡ false)
  unfolding meets10 meets11 announcement_of
  limits = rw (modules-said, ← is_it, map-map, map-map) (passes.1, passes.2)

pub heard_limits : (s : List ℕ) (a : Announced) → heard_of s ≡ announced a
    → (beyond10 a.block_size (map (λ m. m.size) a.modules) ≡ false) × (twice11 (map (λ m. m.number) a.modules) ≡ false)
unfolding heard_of heard_in announced_in
heard_limits s a e = go (judged_of s) refl e
  where
    go : (j : Judged) → judged_of s ≡ j → heard_in s j ≡ announced a → (beyond10 a.block_size (map (λ m. m.size) a.modules) ≡ false) × (twice11 (map (λ m. m.number) a.modules) ≡ false)
    go (Ok (message.Announced x)) j e =
        let q : announced_in x (span_of s x.part.start x.part.size) ≡ a = cc in
        rw (← q) (limits s x j)
    go (Err r) j e = let z : ◌≡◌ {A = ℕ} 0 1 = cc in absurd (omega arith)
    go (Ok (message.Carried b)) j e = let z : ◌≡◌ {A = ℕ} 0 1 = cc in absurd (omega arith)

-- A BLOCK
module _ (s : List ℕ) (b : Block) (e : judged_of s ≡ Ok (message.Carried b)) where
  abbrev carries : List ℕ
  carries = payload_of (body_of s)

  fitting : message_meets7 Blocks (body_of s) ≡ false
  fitting = go (carousel_table_in s) ((carried-exactly s b).0 e).1 ((good-exactly s).0 ((carried-exactly s b).0 e).0).1
    where
      go : (t : CarouselTable) → t ≡ Blocks → None (message_tests t (header_of s) (body_of s)) → message_meets7 Blocks (body_of s) ≡ false
      go Announcements f n = absurd (tables-differ (sym f))
      go Blocks f n = n.1.1.0

  six : 6 + (length carries - 6) ≡ length carries
  unfolding payload_framed
  six = let l = leb-true 6 (length carries) (fits Blocks (body_of s) fitting).1 in omega arith

  pub block_inside : b.part.start + b.part.size ≤ length s
  unfolding block_of
  block_inside =
      let n = six in
      let i = part-inside s (taken-long s ((carried-exactly s b).0 e).0) (payload-long Blocks (body_of s) fitting) 6 (length carries - 6) (omega arith) in
      let j : b.part.start + b.part.size ≡ 20 + adaptation_of (body_of s) + 6 + (length carries - 6) = ap (λ (x : Block). x.part.start + x.part.size) (sym ((carried-exactly s b).0 e).2) in
      omega arith

  -- ITS DATA ARE THE MESSAGE'S
  pub data-said : span_of s b.part.start b.part.size ≡ block_data_of (payload_of (body_of s))
  unfolding block_of
  data-said =
      let n = six in
      ap (λ (x : Block). span_of s x.part.start x.part.size) (sym ((carried-exactly s b).0 e).2)
      ∙ part-said s (taken-long s ((carried-exactly s b).0 e).0) (payload-long Blocks (body_of s) fitting) 6 (length carries - 6) (omega arith)
      ∙ tail (payload_of (body_of s)) 6
