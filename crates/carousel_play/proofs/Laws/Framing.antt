-- What a written section and a written message read as.
use Prim.Native.Nat.{ℕ, ◌+◌, ◌-◌, ◌*◌, ◌/◌, ◌%◌, ◌^◌, ◌≤◌, ◌<◌}
use mathlib.Core.Path.{◌≡◌, refl, sym, ap, ◌∙◌}
use mathlib.Core.Bool.{true}
use mathlib.Core.List.{List, []}
use native.Mathlib.Omega.{arith}
use native.Mathlib.Nat.{mod-eq_of_lt}
use lib.ListN.{length, length-append}
use lib.Seq.{take_at}
use Rattle.wire.specs.Fields.{sixteen_at, field_at, spelled}
use Rattle.wire.proofs.Laws.Fields.{spelled-reads}
use Rattle.section.specs.declared.Rules.TheVariants.{Carousel}
use Rattle.section.specs.Header.{is_table, length_of, header_of, body_of, extension_of, version_of}
use Rattle.section.specs.Refusals.{GoodSection}
use Rattle.section.proofs.Laws.Crc.{own-crc}
use Rattle.carousel_messages.specs.declared.CarouselTable.{CarouselTable}
use Rattle.carousel_messages.specs.declared.CarouselTable.TheVariants.{Announcements, Blocks}
use Rattle.carousel_messages.specs.Message.{message_identifier_of, payload_of, wanted_of}
use Rattle.carousel_messages.specs.Good.{GoodMessage}
use Rattle.carousel_play.specs.Bytes.{front_bytes, section_bytes, message_bytes}

-- two bytes, and four, spelled and read again
pub two : (x : ℕ) → x < 2 ^ 16 → (0 * 256 + x / 256 ^ 1 % 256) * 256 + x / 256 ^ 0 % 256 ≡ x
two x h = omega arith

pub four : (x : ℕ) → x < 2 ^ 32 → (((0 * 256 + x / 256 ^ 3 % 256) * 256 + x / 256 ^ 2 % 256) * 256 + x / 256 ^ 1 % 256) * 256 + x / 256 ^ 0 % 256 ≡ x
unfolding spelled field_at
four x h = spelled-reads 4 x [] ∙ mod-eq_of_lt h

syntax-one : (n : ℕ) → n ≤ 4084 → (0xB000 + (9 + n)) / 2 ^ 15 % 2 ^ 1 ≡ 1
syntax-one n h = let q : (0xB000 + (9 + n)) / 2 ^ 15 ≡ 1 = omega arith in rw q

-- how long a section is, and a message
pub section-long : (t x v n l : ℕ) (body : List ℕ) → length (section_bytes t x v n l body) ≡ 12 + length body
unfolding front_bytes section_bytes spelled
section-long t x v n l body = length-append (front_bytes t x v n l body) _ ∙ omega arith

pub message-long : (m id : ℕ) (p : List ℕ) → length (message_bytes m id p) ≡ 12 + length p
unfolding message_bytes spelled
message-long m id p = omega arith

-- THE SECTION
module _ (t x v n l : ℕ) (body : List ℕ) (ext : x < 2 ^ 16) (ver : v < 32) (few : length body ≤ 4084) where
  abbrev front : List ℕ
  front = front_bytes t x v n l body

  abbrev whole : List ℕ
  whole = section_bytes t x v n l body

  said_length_lem : length_of whole ≡ 9 + length body
  unfolding front_bytes section_bytes spelled field_at
  said_length_lem = omega arith

  pub section-header : header_of whole ≡ record { table = t; extension = x; version = v; section = n; last = l }
  unfolding front_bytes section_bytes spelled field_at
  section-header =
      let e : extension_of whole ≡ x = two x ext in
      let f : version_of whole ≡ v = omega arith in
      λ i. record { table = t; extension = e i; version = f i; section = n; last = l }

  pub section-body : body_of whole ≡ body
  unfolding front_bytes section_bytes spelled
  section-body = let k = section-long t x v n l body in take_at body _ (length whole - 12) (omega arith)

  pub section-good : is_table Carousel t ≡ true → n ≤ l → GoodSection Carousel whole
  unfolding front_bytes section_bytes spelled field_at
  section-good g h =
      let k = section-long t x v n l body in
      let m = said_length_lem in
      let w : sixteen_at whole 1 ≡ 0xB000 + (9 + length body) = two (0xB000 + (9 + length body)) (omega arith) in
      record {
        headed = omega arith;
        exact = omega arith;
        table = g;
        least = omega arith;
        most = omega arith;
        syntax = ap (λ (y : ℕ). y / 2 ^ 15 % 2 ^ 1) w ∙ syntax-one (length body) few;
        numbers = h;
        crc = own-crc front;
        current = omega arith;
      }

-- THE MESSAGE
module _ (t : CarouselTable) (id : ℕ) (p : List ℕ) (few : length p < 2 ^ 16) where
  abbrev message : List ℕ
  message = message_bytes (wanted_of t) id p

  pub message-identifier : id < 2 ^ 32 → message_identifier_of message ≡ id
  unfolding message_bytes spelled field_at
  message-identifier h = four id h

  pub message-payload : payload_of message ≡ p
  unfolding message_bytes spelled
  message-payload = refl

  pub message-good : GoodMessage t message
  unfolding message_bytes spelled field_at
  message-good = record {
    headed = omega arith;
    first = refl;
    second = refl;
    wanted = go t;
    ends = ap (λ (k : ℕ). 12 + k) (two (length p) few) ∙ sym (message-long (wanted_of t) id p);
    adapted = omega arith;
  }
    where
      go : (t : CarouselTable) → (0 * 256 + wanted_of t / 256 ^ 1 % 256) * 256 + wanted_of t / 256 ^ 0 % 256 ≡ wanted_of t
      go t = two (wanted_of t) (small t)
        where
          small : (t : CarouselTable) → wanted_of t < 2 ^ 16
          small t = elim t as (λ k. wanted_of k < 2 ^ 16) [ Announcements ↦ omega arith | Blocks ↦ omega arith ]
