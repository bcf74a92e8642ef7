-- Each test from the facts that code learns on its ways, and the answer from the tests.
use Prim.Native.Nat.{ℕ, zero, suc, ◌+◌, ◌%◌, ◌≤◌, ◌<◌}
use mathlib.Core.Path.{◌≡◌, refl, sym, ap, ◌∙◌}
use mathlib.Core.Bool.{Bool, true, false, not, ◌&&◌, ◌||◌}
use mathlib.Core.List.{List, [], ◌∷◌, map, map-map}
use native.Mathlib.Omega.{arith}
use Rattle.std.proofs.Common.{Ok, Err}
use lib.Dec.{eqb, leb, ltb}
use lib.ListN.{length, length-map, take, drop, drop_of_length-le}
use borrow.Author.Tests.{eq-eqb, ne_eqb, lt-ltb, le-ltb, le-leb, lt-leb, leb-true, eqb-true, not-false}
use Rattle.section.specs.Header.{body_of}
use Rattle.wire.proofs.Laws.Tests.{both, neither}
use Rattle.wire.specs.Fields.{byte_at, sixteen_at}
use Rattle.wire.specs.Tests.{first_met}
use Rattle.wire.specs.Items.{items, end_of}
use Rattle.section.specs.declared.Header.{Header}
use Rattle.section.specs.declared.Refusal.{Refusal}
use Rattle.section.specs.declared.Rules.TheVariants.{Carousel}
use Rattle.section.specs.Answer.{refused, checked_by}
use Rattle.carousel_messages.specs.declared.CarouselTable.{CarouselTable}
use Rattle.carousel_messages.specs.declared.CarouselTable.TheVariants.{Announcements, Blocks}
use Rattle.carousel_messages.specs.declared.Listed.{Listed}
use Rattle.carousel_messages.specs.declared.Message.TheVariants as message
use Rattle.carousel_messages.specs.Message.{message_of, adaptation_of, message_length_of, payload_of, wanted_of}
use Rattle.carousel_messages.specs.Contents.{module_kind, modules_start, modules_end, module_count_of, modules_of, block_size_of, module_size_of, announcement_framed}
use Rattle.carousel_messages.specs.Contents.{block_module_of, block_version_of, block_number_of}
use Rattle.carousel_messages.specs.Limits.{largest_block, most_modules, most_bytes, some_bad, total, beyond10, twice11}
use Rattle.carousel_messages.specs.Refusals.{short7, meets8, message_framed, payload_framed, message_meets7, meets9, meets10, meets11, payload_refusal, message_refusal}
use Rattle.carousel_messages.specs.Heard.{listed_of, sizes_of, numbers_of}
use Rattle.carousel_messages.specs.Judged.{carousel_table_of, announcement_of, block_of, read_of, message_judged, judged_by}

-- the payload of a body too short to have one
pub no_payload : (b : List ℕ) → length b < 12 + adaptation_of b → [] ≡ payload_of b
no_payload b h = let f : length b ≤ 12 + adaptation_of b = omega arith in sym (drop_of_length-le b f)

module _ (t : CarouselTable) (b : List ℕ) where
  pub first-other : (byte_at b 0 ≡ 0x11 → ⊥) → true ≡ meets8 t b
  unfolding meets8
  first-other n = rw (ne_eqb (byte_at b 0) 0x11 n)

  pub second-other : byte_at b 0 ≡ 0x11 → (byte_at b 1 ≡ 0x03 → ⊥) → true ≡ meets8 t b
  unfolding meets8
  second-other e n = rw (eq-eqb (byte_at b 0) 0x11 e, ne_eqb (byte_at b 1) 0x03 n)

  pub number_is : byte_at b 0 ≡ 0x11 → byte_at b 1 ≡ 0x03 → not (eqb (message_of b) (wanted_of t)) ≡ meets8 t b
  unfolding meets8
  number_is e f = rw (eq-eqb (byte_at b 0) 0x11 e, eq-eqb (byte_at b 1) 0x03 f)

module _ (b : List ℕ) where
  pub uneven : (12 + message_length_of b ≡ length b → ⊥) → false ≡ message_framed b
  unfolding message_framed
  uneven n = rw (ne_eqb (12 + message_length_of b) (length b) n)

  pub even : 12 + message_length_of b ≡ length b → leb (adaptation_of b) (message_length_of b) ≡ message_framed b
  unfolding message_framed
  even e = rw (eq-eqb (12 + message_length_of b) (length b) e)

-- 9: a block's header is its message's own, or it is not
module _ (h : Header) (p : List ℕ) where
  abbrev pub Own : Type 0
  Own = (h.extension ≡ block_module_of p) × (h.section ≡ block_number_of p % 256) × (h.version ≡ block_version_of p % 32)

  pub not_nine : meets9 h p ≡ false → Own
  unfolding meets9
  not_nine e =
      let r = neither (not (eqb h.extension (block_module_of p)) || not (eqb h.section (block_number_of p % 256))) (not (eqb h.version (block_version_of p % 32))) e in
      let q = neither (not (eqb h.extension (block_module_of p))) (not (eqb h.section (block_number_of p % 256))) r.0 in
      (eqb-true _ _ (not-false _ q.0), eqb-true _ _ (not-false _ q.1), eqb-true _ _ (not-false _ r.1))

  pub own_not_nine : Own → meets9 h p ≡ false
  unfolding meets9
  own_not_nine o =
      rw (eq-eqb h.extension (block_module_of p) o.0, eq-eqb h.section (block_number_of p % 256) o.1, eq-eqb h.version (block_version_of p % 32) o.2)

  pub other_nine : (Own → ⊥) → meets9 h p ≡ true
  other_nine n = go (meets9 h p) refl
    where
      go : (u : Bool) → meets9 h p ≡ u → meets9 h p ≡ true
      go true e = e
      go false e = absurd (n (not_nine e))

-- a payload's refusal: a block's
module _ (h : Header) (p : List ℕ) where
  pub block-short : length p < 6 → 7 ≡ payload_refusal Blocks h p
  unfolding payload_refusal first_met payload_framed
  block-short l = rw (lt-leb 6 (length p) l)

  module _ (l : 6 ≤ length p) where
    block-other : (Own h p → ⊥) → 9 ≡ payload_refusal Blocks h p
    unfolding payload_refusal first_met payload_framed
    block-other n = rw (le-leb 6 (length p) l, other_nine h p n) refl

    pub another_module : (h.extension ≡ block_module_of p → ⊥) → 9 ≡ payload_refusal Blocks h p
    another_module n = block-other (λ o. n o.0)

    pub another-number : (h.section ≡ block_number_of p % 256 → ⊥) → 9 ≡ payload_refusal Blocks h p
    another-number n = block-other (λ o. n o.1)

    pub another-version : (h.version ≡ block_version_of p % 32 → ⊥) → 9 ≡ payload_refusal Blocks h p
    another-version n = block-other (λ o. n o.2)

    pub block-own : Own h p → 0 ≡ payload_refusal Blocks h p
    unfolding payload_refusal first_met payload_framed
    block-own o = rw (le-leb 6 (length p) l, own_not_nine h p o) refl

  -- an announcement's
  pub announcement_open : announcement_framed p ≡ false → 7 ≡ payload_refusal Announcements h p
  unfolding payload_refusal first_met payload_framed
  announcement_open f = rw f

  module _ (f : announcement_framed p ≡ true) where
    pub announcement-beyond : meets10 p ≡ true → 10 ≡ payload_refusal Announcements h p
    unfolding payload_refusal first_met payload_framed
    announcement-beyond m = rw (f, m)

    module _ (m : meets10 p ≡ false) where
      pub announcement-twice : meets11 p ≡ true → 11 ≡ payload_refusal Announcements h p
      unfolding payload_refusal first_met payload_framed
      announcement-twice k = rw (f, m, k)

      pub announcement-good : meets11 p ≡ false → 0 ≡ payload_refusal Announcements h p
      unfolding payload_refusal first_met payload_framed
      announcement-good k = rw (f, m, k)

-- an announcement framed whole
module _ (p : List ℕ) where
  pub framed-short : length p < modules_start p → false ≡ announcement_framed p
  unfolding announcement_framed
  framed-short l = rw (lt-leb (modules_start p) (length p) l)

  module _ (l : modules_start p ≤ length p) where
    pub framed-fewer : modules_end p ≡ 0 → false ≡ announcement_framed p
    unfolding announcement_framed
    framed-fewer e = rw (le-leb (modules_start p) (length p) l, eq-eqb (modules_end p) 0 e)

    pub framed-rest : (modules_end p ≡ 0 → ⊥) → eqb (modules_end p + 2 + sixteen_at p (modules_end p)) (length p) ≡ announcement_framed p
    unfolding announcement_framed
    framed-rest n = rw (le-leb (modules_start p) (length p) l, ne_eqb (modules_end p) 0 n)

-- as many as are counted, where they do not end before
pub counted : (k a : ℕ) (is : List (List ℕ)) → (end_of k a is ≡ 0 → ⊥) → length (take k is) ≡ k
unfolding end_of
counted zero a is n = refl
counted (suc k) a [] n = absurd (n refl)
counted (suc k) a (x ∷ is) n = ap suc (counted k (a + length x) is n)

-- what an announcement has that is framed whole: its modules begin in it, and are as many as it says
module _ (p : List ℕ) (f : announcement_framed p ≡ true) where
  abbrev has : Bool
  has = leb (modules_start p) (length p) && not (eqb (modules_end p) 0)

  framed-both : (leb (modules_start p) (length p) ≡ true) × (not (eqb (modules_end p) 0) ≡ true)
  unfolding announcement_framed
  framed-both =
      both (leb (modules_start p) (length p)) (not (eqb (modules_end p) 0)) (both has (eqb (modules_end p + 2 + sixteen_at p (modules_end p)) (length p)) f).0

  pub framed-starts : modules_start p ≤ length p
  framed-starts = leb-true (modules_start p) (length p) framed-both.0

  pub framed-ends : modules_end p ≡ 0 → ⊥
  framed-ends z =
      let h = framed-both.1 in
      let e = eq-eqb (modules_end p) 0 z in
      let k : ◌≡◌ {A = ℕ} 0 1 = cc in
      absurd (omega arith)

  pub framed-count : length (map module_size_of (modules_of p)) ≡ module_count_of p
  framed-count = length-map (modules_of p) module_size_of ∙ counted (module_count_of p) (modules_start p) (items module_kind (drop (modules_start p) p)) framed-ends

-- 10 and 11, of the modules as they are read
one_met : (before after last : Bool) → (before || true || after || last) ≡ true
one_met true after last = refl
one_met false after last = refl

module _ (p : List ℕ) where
  pub beyond-many : announcement_framed p ≡ true → most_modules < module_count_of p → meets10 p ≡ true
  unfolding meets10 beyond10
  beyond-many f g =
      let bs = block_size_of p in
      let zs = map module_size_of (modules_of p) in
      rw (framed-count p f, lt-ltb most_modules (module_count_of p) g)
      (one_met (eqb bs 0 || ltb largest_block bs || eqb (module_count_of p) 0) (some_bad bs zs) (ltb most_bytes (total zs)))

  module _ (ms : List Listed) (e : ms ≡ map listed_of (modules_of p)) where
    pub read-10 : (bs : ℕ) → bs ≡ block_size_of p → beyond10 bs (sizes_of ms) ≡ meets10 p
    unfolding meets10
    read-10 bs b = rw (e, b, map-map)

    pub read-11 : twice11 (numbers_of ms) ≡ meets11 p
    unfolding meets11
    read-11 = rw (e, map-map)

-- the order of the whole
module _ (t : CarouselTable) (h : Header) (b : List ℕ) where
  pub is-short : length b < 12 → 7 ≡ message_refusal t h b
  unfolding message_refusal first_met short7
  is-short l = rw (lt-ltb (length b) 12 l)

  module _ (l : 12 ≤ length b) where
    pub is-8 : meets8 t b ≡ true → 8 ≡ message_refusal t h b
    unfolding message_refusal first_met short7
    is-8 m = rw (le-ltb (length b) 12 l, m)

    module _ (m : meets8 t b ≡ false) where
      pub is_open : message_framed b ≡ false → 7 ≡ message_refusal t h b
      unfolding message_refusal first_met short7 message_meets7
      is_open f = rw (le-ltb (length b) 12 l, m, f)

      pub is-payload : message_framed b ≡ true → payload_refusal t h (payload_of b) ≡ message_refusal t h b
      unfolding message_refusal payload_refusal first_met short7 message_meets7
      is-payload f = rw (le-ltb (length b) 12 l, m, f)

  pub judged_bad : (message_refusal t h b ≡ 0 → ⊥) → Err (refused (message_refusal t h b)) ≡ message_judged t h b
  unfolding message_judged
  judged_bad n = rw (ne_eqb (message_refusal t h b) 0 n)

  pub judged-good : message_refusal t h b ≡ 0 → read_of t b ≡ message_judged t h b
  unfolding message_judged
  judged-good e = rw (eq-eqb (message_refusal t h b) 0 e)

module _ (t : CarouselTable) (b : List ℕ) where
  pub read-announced : t ≡ Announcements → Ok (message.Announced (announcement_of b)) ≡ read_of t b
  unfolding read_of
  read-announced e = rw e

  pub read-carried : t ≡ Blocks → Ok (message.Carried (block_of b)) ≡ read_of t b
  unfolding read_of
  read-carried e = rw e

-- whatever register g is handed in
module _ (g : ℕ) (s : List ℕ) where
  pub judged-refused : (r : Refusal) → checked_by g Carousel s ≡ Err r → Err r ≡ judged_by g s
  unfolding judged_by
  judged-refused r e = rw e

  pub judged-message : (h : Header) → checked_by g Carousel s ≡ Ok h → message_judged (carousel_table_of h.table) h (body_of s) ≡ judged_by g s
  unfolding judged_by
  judged-message h e = rw e
