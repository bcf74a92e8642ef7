-- TAKEN EXACTLY WHEN WELL FORMED: an announcement and a block are read exactly where every clause of specs/Good.antt holds.
use Prim.Native.Nat.{ℕ, ◌+◌, ◌*◌, ◌≤◌}
use mathlib.Core.Path.{◌≡◌, refl, sym, ap, subst, ◌∙◌}
use mathlib.Core.Logic.{◌↔◌, ◌⊎◌, inl, inr}
use mathlib.Core.Bool.{Bool, true, false, not, cond, ◌&&◌, ◌||◌}
use mathlib.Core.List.Memᴰ
use mathlib.Core.List.{List, [], ◌∷◌, Memᴰ}
use native.Mathlib.Omega.{arith}
use Rattle.std.proofs.Common.{Ok, Err}
use lib.Dec.{ltb, leb, eqb}
use lib.ListN.{length, length-map}
use borrow.Author.Tests.{ltb-false, leb-true, eqb-true, eqb-false, le-ltb, le-leb, eq-eqb, ne_eqb, not-true, not-false}
use Rattle.wire.specs.Fields.{byte_at, sixteen_at}
use Rattle.wire.proofs.Laws.Tests.{both, neither, clash}
use Rattle.wire.proofs.Laws.Order.{None}
use Rattle.section.specs.Crc.{crc_of}
use Rattle.section.specs.declared.Header.{Header}
use Rattle.section.specs.declared.Rules.TheVariants.{Carousel}
use Rattle.section.specs.Header.{announcement_table, block_table, header_of, body_of}
use Rattle.section.specs.Refusals.{refusal_of, GoodSection}
use Rattle.section.specs.Answer.{refused}
use Rattle.section.proofs.Laws.Exact as section
use Rattle.carousel_messages.specs.declared.CarouselTable.{CarouselTable}
use Rattle.carousel_messages.specs.declared.CarouselTable.TheVariants.{Announcements, Blocks}
use Rattle.carousel_messages.specs.declared.Message.TheVariants as message
use Rattle.carousel_messages.specs.Message.{message_of, message_identifier_of, adaptation_of, message_length_of, payload_of, wanted_of}
use Rattle.carousel_messages.specs.Contents.{download_of, block_version_of, block_size_of, modules_start, modules_end, modules_of, module_size_of, announcement_framed, block_module_of}
use Rattle.carousel_messages.specs.Contents.{block_number_of}
use Rattle.carousel_messages.specs.Limits.{largest_block, most_modules, most_blocks, most_bytes, bad_size, some_bad, total, beyond10, among, twice11}
use Rattle.carousel_messages.specs.Refusals.{short7, meets8, message_framed, payload_framed, message_meets7, meets10, meets11, message_tests, message_refusal}
use Rattle.carousel_messages.specs.Judged.{Judged, announcement_of, block_of, message_judged, judged_of, number_of_judged, carousel_table_in}
use Rattle.carousel_messages.specs.declared.Listed.{Listed}
use Rattle.carousel_messages.specs.Heard.{Announced, Arrived, announced, arrived, announced_in, arrived_in, heard_in, heard_of}
use Rattle.carousel_messages.proofs.Laws.Limits.{within}
use Rattle.carousel_messages.proofs.Laws.Heard.{modules-said, data-said}
use Rattle.carousel_messages.specs.Good.{said_announcement, said_block, GoodMessage, Distinct, announced_sizes, announced_numbers, GoodModules, GoodAnnouncement, BlockSection, GoodBlock}
use Rattle.carousel_messages.proofs.Laws.Refusals.{Own, not_nine, own_not_nine, other_nine, judged_bad, judged-message}
use Rattle.carousel_messages.proofs.Exact.{Passed, exactly-9, nine_of-block, good-exactly, announced-exactly, carried-exactly}

-- the message
module _ (t : CarouselTable) (b : List ℕ) where
  message-there : short7 b ≡ false → meets8 t b ≡ false → message_framed b ≡ true → GoodMessage t b
  unfolding short7 meets8 message_framed
  message-there e f g =
      let p = neither (not (eqb (byte_at b 0) 0x11) || not (eqb (byte_at b 1) 0x03)) (not (eqb (message_of b) (wanted_of t))) f in
      let q = neither (not (eqb (byte_at b 0) 0x11)) (not (eqb (byte_at b 1) 0x03)) p.0 in
      let m = both (eqb (12 + message_length_of b) (length b)) (leb (adaptation_of b) (message_length_of b)) g in
      record {
        headed = ltb-false _ _ e;
        first = eqb-true _ _ (not-false _ q.0);
        second = eqb-true _ _ (not-false _ q.1);
        wanted = eqb-true _ _ (not-false _ p.1);
        ends = eqb-true _ _ m.0;
        adapted = leb-true _ _ m.1;
      }

  message-back : GoodMessage t b → (short7 b ≡ false) × (meets8 t b ≡ false) × (message_framed b ≡ true)
  unfolding short7 meets8 message_framed
  message-back g = (
    le-ltb (length b) 12 g.headed,
    rw (eq-eqb (byte_at b 0) 0x11 g.first, eq-eqb (byte_at b 1) 0x03 g.second, eq-eqb (message_of b) (wanted_of t) g.wanted),
    rw (eq-eqb (12 + message_length_of b) (length b) g.ends, le-leb (adaptation_of b) (message_length_of b) g.adapted),
  )

-- the limits: every size, and no number twice
abbrev Fits : ℕ → ℕ → Type 0
Fits bs z = (1 ≤ z) × (z ≤ most_blocks * bs)

sizes-there : (bs : ℕ) (zs : List ℕ) → some_bad bs zs ≡ false → (z : ℕ) → Memᴰ z zs → Fits bs z
unfolding some_bad
sizes-there bs [] e z m = absurd (Memᴰ.not-nil m)
sizes-there bs (y ∷ ys) e z m =
    let p = neither (bad_size bs y) (some_bad bs ys) e in
    let q = neither (eqb y 0) (ltb (most_blocks * bs) y) p.0 in
    go (Memᴰ.cases_cons m) (λ n. sizes-there bs ys p.1 z n) (eqb-false y 0 q.0) (ltb-false (most_blocks * bs) y q.1)
  where
    go : (z ≡ y) ⊎ Memᴰ z ys → (Memᴰ z ys → Fits bs z) → (y ≡ 0 → ⊥) → y ≤ most_blocks * bs → Fits bs z
    go (inl e) ih n l = (omega (arith, n), omega arith)
    go (inr m) ih n l = ih m

sizes-back : (bs : ℕ) (zs : List ℕ) → ((z : ℕ) → Memᴰ z zs → Fits bs z) → some_bad bs zs ≡ false
unfolding some_bad
sizes-back bs [] f = refl
sizes-back bs (y ∷ ys) f =
    let p = f y (Memᴰ.head refl) in
    let l = p.0 in
    rw (ne_eqb y 0 (λ e. omega arith), le-ltb (most_blocks * bs) y p.1) (sizes-back bs ys (λ z m. f z (Memᴰ.tail m)))

among_there : (n : ℕ) (ks : List ℕ) → among n ks ≡ false → Memᴰ n ks → ⊥
unfolding among
among_there n [] e m = Memᴰ.not-nil m
among_there n (k ∷ ks) e m =
    let p = neither (eqb k n) (among n ks) e in
    go (Memᴰ.cases_cons m) (λ h. among_there n ks p.1 h) (eqb-false k n p.0)
  where
    go : (n ≡ k) ⊎ Memᴰ n ks → (Memᴰ n ks → ⊥) → (k ≡ n → ⊥) → ⊥
    go (inl e) ih d = d (sym e)
    go (inr h) ih d = ih h

among-back : (n : ℕ) (ks : List ℕ) → (Memᴰ n ks → ⊥) → among n ks ≡ false
unfolding among
among-back n [] f = refl
among-back n (k ∷ ks) f = rw (ne_eqb k n (λ e. f (Memᴰ.head (sym e)))) (among-back n ks (λ m. f (Memᴰ.tail m)))

pub distinct-there : (ks : List ℕ) → twice11 ks ≡ false → Distinct ks
unfolding twice11
distinct-there [] e = tt
distinct-there (k ∷ ks) e = let p = neither (among k ks) (twice11 ks) e in (among_there k ks p.0, distinct-there ks p.1)

pub distinct-back : (ks : List ℕ) → Distinct ks → twice11 ks ≡ false
unfolding twice11
distinct-back [] d = refl
distinct-back (k ∷ ks) d = rw (among-back k ks d.0) (distinct-back ks d.1)

-- 10, IN PLAIN FACTS
pub ten-exactly : (bs : ℕ) (zs : List ℕ)
    → (beyond10 bs zs ≡ false)
    ↔ ((1 ≤ bs) × (bs ≤ largest_block) × (1 ≤ length zs) × (length zs ≤ most_modules) × ((z : ℕ) → Memᴰ z zs → (1 ≤ z) × (z ≤ most_blocks * bs)) × (total zs ≤ most_bytes))
unfolding beyond10
ten-exactly bs zs = (
  λ e. let w = within bs zs e in (w.block_some, w.block_most, w.some, w.few, sizes-there bs zs w.sizes, w.together),
  λ g. let s = g.0 in let m = g.2 in rw (
    ne_eqb bs 0 (λ e. omega arith),
    le-ltb largest_block bs g.1,
    ne_eqb (length zs) 0 (λ e. omega arith),
    le-ltb most_modules (length zs) g.3,
    sizes-back bs zs g.4,
    le-ltb most_bytes (total zs) g.5,
  ),
)

-- an announcement's payload
module _ (p : List ℕ) where
  list-there : announcement_framed p ≡ true → meets10 p ≡ false → meets11 p ≡ false → GoodModules p
  unfolding announcement_framed meets10 meets11
  list-there e f g =
      let a = both (leb (modules_start p) (length p) && not (eqb (modules_end p) 0)) (eqb (modules_end p + 2 + sixteen_at p (modules_end p)) (length p)) e in
      let b = both (leb (modules_start p) (length p)) (not (eqb (modules_end p) 0)) a.0 in
      let bs = block_size_of p in
      let zs = announced_sizes p in
      let l = length-map (modules_of p) module_size_of in
      let w = (ten-exactly bs zs).0 f in
      record {
        headed = leb-true _ _ b.0;
        counted = eqb-false _ _ (not-true _ b.1);
        ends = eqb-true _ _ a.1;
        block_some = w.0;
        block_most = w.1;
        modules_some = omega (arith, w.2);
        modules_most = omega (arith, w.3);
        sizes = w.4;
        together = w.5;
        distinct = distinct-there (announced_numbers p) g;
      }

  list_back : GoodModules p → (announcement_framed p ≡ true) × (meets10 p ≡ false) × (meets11 p ≡ false)
  unfolding announcement_framed meets10 meets11
  list_back g =
      let l = length-map (modules_of p) module_size_of in (
        rw (le-leb (modules_start p) (length p) g.headed, ne_eqb (modules_end p) 0 g.counted, eq-eqb (modules_end p + 2 + sixteen_at p (modules_end p)) (length p) g.ends),
        (ten-exactly (block_size_of p) (announced_sizes p)).1 (g.block_some, g.block_most, omega (arith, g.modules_some), omega (arith, g.modules_most), g.sizes, g.together),
        distinct-back (announced_numbers p) g.distinct,
      )

-- 7's other cases: the message and its payload are framed
module _ (t : CarouselTable) (b : List ℕ) where
  seven-there : message_meets7 t b ≡ false → (message_framed b ≡ true) × (payload_framed t (payload_of b) ≡ true)
  unfolding message_meets7
  seven-there e = both _ _ (not-false _ e)

  seven-back : message_framed b ≡ true → payload_framed t (payload_of b) ≡ true → message_meets7 t b ≡ false
  unfolding message_meets7
  seven-back e f = rw (e, f)

module _ (s : List ℕ) where
  is_announcements : (header_of s).table ≡ announcement_table → carousel_table_in s ≡ Announcements
  is_announcements e = rw (eq-eqb (header_of s).table announcement_table e)

  is-blocks : (header_of s).table ≡ block_table → carousel_table_in s ≡ Blocks
  is-blocks e = rw e

  announcements-is : carousel_table_in s ≡ Announcements → (header_of s).table ≡ announcement_table
  announcements-is e = go (eqb (header_of s).table announcement_table) refl e
    where
      go : (t : Bool) → eqb (header_of s).table announcement_table ≡ t → cond t Announcements Blocks ≡ Announcements → (header_of s).table ≡ announcement_table
      go true f e = eqb-true _ _ f
      go false f e = let z : ◌≡◌ {A = ℕ} 0 1 = cc in absurd (omega arith)

  blocks_is : GoodSection Carousel s → carousel_table_in s ≡ Blocks → (header_of s).table ≡ block_table
  blocks_is g e = go (eqb (header_of s).table announcement_table) (eqb (header_of s).table block_table) refl refl e g.table
    where
      go : (t u : Bool) → eqb (header_of s).table announcement_table ≡ t → eqb (header_of s).table block_table ≡ u
          → cond t Announcements Blocks ≡ Blocks → (t || u) ≡ true → (header_of s).table ≡ block_table
      go true u f k e h = let z : ◌≡◌ {A = ℕ} 0 1 = cc in absurd (omega arith)
      go false true f k e h = eqb-true _ _ k
      go false false f k e h = absurd (clash false h refl)

  -- a section that 2 to 6 do not meet is judged by its message
  judged-by : (t : CarouselTable) → carousel_table_in s ≡ t → GoodSection Carousel s → judged_of s ≡ message_judged t (header_of s) (body_of s)
  judged-by t e g =
      sym (judged-message (crc_of s) s (header_of s) (section.accepted-with Carousel s ((section.good-exactly Carousel s).1 g)))
      ∙ ap (λ (t : CarouselTable). message_judged t (header_of s) (body_of s)) e

  -- AN ANNOUNCEMENT IS TAKEN EXACTLY WHEN IT IS WELL FORMED, and what is read of it are its fields
  pub announcement-good : (judged_of s ≡ Ok (message.Announced (announcement_of (body_of s)))) ↔ GoodAnnouncement s
  unfolding payload_framed
  announcement-good = (there, back)
    where
      there : judged_of s ≡ Ok (message.Announced (announcement_of (body_of s))) → GoodAnnouncement s
      there e =
          let w = (announced-exactly s (announcement_of (body_of s))).0 e in
          let g = (good-exactly s).0 w.0 in
          let n = subst (λ (t : CarouselTable). None (message_tests t (header_of s) (body_of s))) w.1 g.1 in
          let f = seven-there Announcements (body_of s) n.1.1.0 in
          record {
            section = g.0;
            table = announcements-is w.1;
            message = message-there Announcements (body_of s) n.0 n.1.0 f.0;
            list = list-there (payload_of (body_of s)) f.1 n.1.1.1.0 n.1.1.1.1.0;
          }

      back : GoodAnnouncement s → judged_of s ≡ Ok (message.Announced (announcement_of (body_of s)))
      back g =
          let m = message-back Announcements (body_of s) g.message in
          let l = list_back (payload_of (body_of s)) g.list in
          let t = is_announcements g.table in
          let n : None (message_tests Announcements (header_of s) (body_of s)) = (m.0, (m.1, (seven-back Announcements (body_of s) m.2 l.0, (l.1, (l.2, tt))))) in
          (announced-exactly s (announcement_of (body_of s))).1 ((good-exactly s).1 (g.section, subst (λ (t : CarouselTable). None (message_tests t (header_of s) (body_of s))) (sym t) n), t, refl)

  -- a section with a block in it: none of 2 to 8 meets it, and its header is its message's own exactly where it is well formed
  block-formed : GoodSection Carousel s → carousel_table_in s ≡ Blocks → Passed Blocks (body_of s) → BlockSection s
  unfolding payload_framed
  block-formed g t p =
      let f = seven-there Blocks (body_of s) p.2 in
      record { section = g; table = blocks_is g t; message = message-there Blocks (body_of s) p.0 p.1 f.0; headed = leb-true _ _ f.1 }

  block-passed : BlockSection s → Passed Blocks (body_of s)
  unfolding payload_framed
  block-passed b =
      let m = message-back Blocks (body_of s) b.message in
      (m.0, m.1, seven-back Blocks (body_of s) m.2 (le-leb 6 (length (payload_of (body_of s))) b.headed))

  own-good : BlockSection s → Own (header_of s) (payload_of (body_of s)) → GoodBlock s
  own-good b o = record { formed = b; extension = o.0; number = o.1; version = o.2 }

  -- A BLOCK IS TAKEN EXACTLY WHEN IT IS WELL FORMED
  pub block-good : (judged_of s ≡ Ok (message.Carried (block_of (body_of s)))) ↔ GoodBlock s
  block-good = (there, back)
    where
      there : judged_of s ≡ Ok (message.Carried (block_of (body_of s))) → GoodBlock s
      there e =
          let w = (carried-exactly s (block_of (body_of s))).0 e in
          let g = (good-exactly s).0 w.0 in
          let n = subst (λ (t : CarouselTable). None (message_tests t (header_of s) (body_of s))) w.1 g.1 in
          own-good (block-formed g.0 w.1 (n.0, n.1.0, n.1.1.0)) (not_nine _ _ n.1.1.1.0)

      back : GoodBlock s → judged_of s ≡ Ok (message.Carried (block_of (body_of s)))
      back g =
          let t = is-blocks g.formed.table in
          let p = block-passed g.formed in
          let n : None (message_tests Blocks (header_of s) (body_of s)) = (p.0, (p.1, (p.2, (own_not_nine (header_of s) (payload_of (body_of s)) (g.extension, g.number, g.version), tt)))) in
          (carried-exactly s (block_of (body_of s))).1 ((good-exactly s).1 (g.formed.section, subst (λ (t : CarouselTable). None (message_tests t (header_of s) (body_of s))) (sym t) n), t, refl)

  -- 9 EXACTLY WHERE A SECTION WITH A BLOCK IN IT IS NOT WELL FORMED: its extension, section number or section version is not its message's
  pub nine-exactly : (judged_of s ≡ Err (refused 9)) ↔ (BlockSection s × (GoodBlock s → ⊥))
  nine-exactly = (λ e. (there (nine_of-block s (ap number_of_judged e)), λ g. differ (sym (block-good.1 g) ∙ e)), λ w. back w.0 w.1)
    where
      differ : Ok (message.Carried (block_of (body_of s))) ≡ Err (refused 9) → ⊥
      differ e = let z : ◌≡◌ {A = ℕ} 0 1 = cc in omega arith

      there : (refusal_of Carousel s ≡ 0) × (carousel_table_in s ≡ Blocks) × (message_refusal Blocks (header_of s) (body_of s) ≡ 9) → BlockSection s
      there w = block-formed ((section.good-exactly Carousel s).0 w.0) w.1 ((exactly-9 _ _).0 w.2).0

      back : BlockSection s → (GoodBlock s → ⊥) → judged_of s ≡ Err (refused 9)
      back b n =
          let e = (exactly-9 (header_of s) (body_of s)).1 (block-passed b, other_nine _ _ (λ o. n (own-good b o))) in
          judged-by Blocks (is-blocks b.table) b.section
          ∙ sym (judged_bad Blocks (header_of s) (body_of s) (λ z. omega arith))
          ∙ ap (λ (n : ℕ). Err (refused n)) e

  -- an announcement is heard, and a block, of nothing else
  heard-announced : (x : Announced) → heard_of s ≡ announced x → judged_of s ≡ Ok (message.Announced (announcement_of (body_of s)))
  unfolding heard_of heard_in
  heard-announced x e = go (judged_of s) refl e
    where
      go : (j : Judged) → judged_of s ≡ j → heard_in s j ≡ announced x → judged_of s ≡ Ok (message.Announced (announcement_of (body_of s)))
      go (Err r) j e = let z : ◌≡◌ {A = ℕ} 0 1 = cc in absurd (omega arith)
      go (Ok (message.Announced a)) j e = j ∙ ap (λ y. Ok (message.Announced y)) (sym ((announced-exactly s a).0 j).2)
      go (Ok (message.Carried b)) j e = let z : ◌≡◌ {A = ℕ} 0 1 = cc in absurd (omega arith)

  heard-arrived : (x : Arrived) → heard_of s ≡ arrived x → judged_of s ≡ Ok (message.Carried (block_of (body_of s)))
  unfolding heard_of heard_in
  heard-arrived x e = go (judged_of s) refl e
    where
      go : (j : Judged) → judged_of s ≡ j → heard_in s j ≡ arrived x → judged_of s ≡ Ok (message.Carried (block_of (body_of s)))
      go (Err r) j e = let z : ◌≡◌ {A = ℕ} 0 1 = cc in absurd (omega arith)
      go (Ok (message.Announced a)) j e = let z : ◌≡◌ {A = ℕ} 0 1 = cc in absurd (omega arith)
      go (Ok (message.Carried b)) j e = j ∙ ap (λ y. Ok (message.Carried y)) (sym ((carried-exactly s b).0 j).2)

  -- WHAT IS HEARD OF IT IS WHAT THE TEXT SAYS, field by field
  pub announcement-says : GoodAnnouncement s → heard_of s ≡ announced (said_announcement s)
  unfolding heard_of heard_in announced_in announcement_of
  announcement-says g =
      let j = announcement-good.1 g in
      ap (heard_in s) j
      ∙ ap (λ (ms : List Listed). announced (record { download = download_of (payload_of (body_of s)); block_size = block_size_of (payload_of (body_of s)); modules = ms }))
      (modules-said s (announcement_of (body_of s)) j)

  pub announcement-heard : (x : Announced) → (heard_of s ≡ announced x) ↔ (GoodAnnouncement s × (said_announcement s ≡ x))
  announcement-heard x = (
    λ e. let g = announcement-good.0 (heard-announced x e) in (g, same (sym (announcement-says g) ∙ e)),
    λ w. announcement-says w.0 ∙ ap announced w.1,
  )
    where
      same : announced (said_announcement s) ≡ announced x → said_announcement s ≡ x
      same e = cc

  pub block-says : GoodBlock s → heard_of s ≡ arrived (said_block s)
  unfolding heard_of heard_in arrived_in block_of
  block-says g =
      let j = block-good.1 g in
      let p = payload_of (body_of s) in
      ap (heard_in s) j
      ∙ ap (λ (l : List ℕ). arrived (record { download = message_identifier_of (body_of s); number = block_module_of p; version = block_version_of p; block = block_number_of p; bytes = l }))
      (data-said s (block_of (body_of s)) j)

  pub block-heard : (x : Arrived) → (heard_of s ≡ arrived x) ↔ (GoodBlock s × (said_block s ≡ x))
  block-heard x = (
    λ e. let g = block-good.0 (heard-arrived x e) in (g, same (sym (block-says g) ∙ e)),
    λ w. block-says w.0 ∙ ap arrived w.1,
  )
    where
      same : arrived (said_block s) ≡ arrived x → said_block s ≡ x
      same e = cc

-- "In 0x3B the extension, section version and section numbers meet no check but 4's": two announcements' sections of one body are judged alike, whatever stands there
header-unread : (h k : Header) (b : List ℕ) → message_judged Announcements h b ≡ message_judged Announcements k b
unfolding message_judged message_refusal
header-unread h k b = refl

pub announcements-alike : (s t : List ℕ) → GoodSection Carousel s → GoodSection Carousel t → (header_of s).table ≡ announcement_table → (header_of t).table ≡ announcement_table
    → body_of s ≡ body_of t → judged_of s ≡ judged_of t
announcements-alike s t g k e f b =
    judged-by s Announcements (is_announcements s e) g
    ∙ header-unread (header_of s) (header_of t) (body_of s)
    ∙ ap (message_judged Announcements (header_of t)) b
    ∙ sym (judged-by t Announcements (is_announcements t f) k)
