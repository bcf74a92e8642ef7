-- Numbers in bytes, as code takes them apart, and the pieces of a section put together.
use Prim.Native.Nat.{ℕ, ◌+◌, ◌-◌, ◌/◌, ◌%◌, ◌≤◌, ◌<◌}
use mathlib.Core.Path.{◌≡◌, refl, sym, ap, ap₂, ◌∙◌}
use mathlib.Core.List.{List, [], ◌∷◌, ◌++◌, append_assoc}
use mir.Syntax.{w16, w32}
use Rattle.std.specs.Int.{to_be_bytes}
use native.Mathlib.Numerals.{add-one}
use native.Mathlib.Omega.{arith}
use lib.ListN.{length, get_or, take, drop, replicate, length-append, length-drop}
use lib.Seq.{sets, sets-eq, length-sets, length-take-le, drop_at, drop-cons, drop-drop, take-append-add, take-append_seam, drop-append-add}
use Rattle.text.specs.Text.{reached}
use Rattle.text.proofs.Laws.Puts.{Puts, puts_then, reached-none}
use Rattle.carousel_play.specs.Bytes.{front_bytes, section_bytes, message_bytes, module_bytes, modules_bytes, list_bytes}
use Rattle.carousel_play.specs.declared.spell.Head.{Head}
use Rattle.carousel_play.specs.Pieces.{head_bytes, message_head, framed_by}
use Rattle.carousel_play.proofs.Laws.Framing.{section-long, message-long}
use Rattle.wire.specs.Fields.{spelled}
use Rattle.wire.proofs.Laws.Fields.{spelled_length}
use Rattle.section.specs.Crc.{crc_of}
use Rattle.wire.specs.Items.{joined}
use Rattle.carousel_messages.specs.declared.Listed.{Listed}
use Rattle.carousel_messages.specs.Heard.{none_listed}
use Rattle.carousel_play.specs.declared.Playlist.{Playlist}
use Rattle.carousel_play.specs.Calls.{to_play}

pub two_bytes : (x : ℕ) → to_be_bytes w16 x ≡ spelled 2 x
unfolding spelled
two_bytes x = let z : x % 256 ≡ x / 1 % 256 = omega arith in ap (λ (b : ℕ). x / 256 % 256 ∷ b ∷ []) z

pub four_bytes : (x : ℕ) → to_be_bytes w32 x ≡ spelled 4 x
unfolding spelled
four_bytes x = let z : x % 256 ≡ x / 1 % 256 = omega arith in ap (λ (b : ℕ). x / 16777216 % 256 ∷ x / 65536 % 256 ∷ x / 256 % 256 ∷ b ∷ []) z

-- "what lies past the section is unchanged"
pub left-past : (l s : List ℕ) → length s ≤ length l → sets l 0 s ≡ s ++ drop (length s) l
left-past l s h = let e : 0 + length s ≡ length s = omega arith in sets-eq s l 0 (omega arith) ∙ ap (λ (n : ℕ). s ++ drop n l) e

-- modules from place i on
pub modules-left : (ms : List Listed) (i : ℕ) → i < length ms → drop i ms ≡ get_or ms i none_listed ∷ drop (i + 1) ms
modules-left ms i l = rw (add-one i) (drop-cons ms i none_listed l)

-- ONE MODULE AND THEN THE REST: what the loop over modules keeps
pub module-step : (out : List ℕ) (end : ℕ) (x : Listed) (xs rest : List Listed) (out' : List ℕ) (end' : ℕ) → rest ≡ x ∷ xs → Puts out end (module_bytes x) out' end'
    → (sets out' end' (modules_bytes xs) ≡ sets out end (modules_bytes rest)) × (reached end' (length (modules_bytes xs)) (length out') ≡ reached end (length (modules_bytes rest)) (length out))
    × (length out' ≡ length out)
unfolding joined
module-step out end x xs rest out' end' e p =
    let q = puts_then out end (module_bytes x) (modules_bytes xs) out' (sets out' end' (modules_bytes xs)) end' (reached end' (length (modules_bytes xs)) (length out')) p (refl, refl) in (
      q.0 ∙ ap (λ (l : List Listed). sets out end (modules_bytes l)) (sym e),
      q.1 ∙ ap (λ (l : List Listed). reached end (length (modules_bytes l)) (length out)) (sym e),
      ap length p.0 ∙ length-sets out end (module_bytes x),
    )

pub module-none : (out : List ℕ) (end : ℕ) (rest : List Listed) → rest ≡ [] → (sets out end (modules_bytes rest) ≡ out) × (reached end (length (modules_bytes rest)) (length out) ≡ end)
unfolding joined
module-none out end rest e = (
  ap (λ (l : List Listed). sets out end (modules_bytes l)) e,
  ap (λ (l : List Listed). reached end (length (modules_bytes l)) (length out)) e ∙ reached-none end
      (length out),
)

-- THE PIECES OF AN ANNOUNCEMENT'S PAYLOAD, one after another
pub list_pieces : (p : Playlist) → p.count ≡ length (to_play p).modules
    → spelled 4 p.download ++ spelled 2 p.block_size ++ (0 ∷ 0 ∷ 0 ∷ 0 ∷ 0 ∷ 0 ∷ 0 ∷ 0 ∷ 0 ∷ 0 ∷ 0 ∷ 0 ∷ []) ++ spelled 2 p.count
    ++ modules_bytes (take p.count p.modules) ++ spelled 2 0
    ≡ list_bytes (to_play p)
unfolding list_bytes spelled to_play
list_pieces p e = λ i. spelled 4 p.download ++ spelled 2 p.block_size ++ replicate 10 0 ++ spelled 2 0 ++ spelled 2 (e i) ++ modules_bytes (take p.count p.modules) ++ spelled 2 0

-- THE TWO HEADERS AND A PAYLOAD are all of a section but its CRC
pub front_pieces : (h : Head) (q : List ℕ) (size : ℕ) → length q ≡ size
    → head_bytes h (12 + size) ++ message_head h size ++ q ≡ front_bytes h.table h.extension h.version h.number h.last (message_bytes h.message h.identifier q)
unfolding head_bytes message_head front_bytes message_bytes spelled
front_pieces h q size e =
    let f : 12 + size ≡ length (message_bytes h.message h.identifier q) = omega arith in
    λ i. head_bytes h (f i) ++ message_head h (sym e i) ++ q

pub heads-long : (h : Head) (size : ℕ) → length (head_bytes h (12 + size) ++ message_head h size) ≡ 20
unfolding head_bytes message_head spelled
heads-long h size = refl

-- THE SECTION AROUND A PAYLOAD: 20 bytes f before it and four bytes c behind it, where `size` bytes stand in a buffer from byte 20 on
module _ (l f : List ℕ) (size : ℕ) (twenty : length f ≡ 20) (room : 24 + size ≤ length l) where
  abbrev q : List ℕ
  q = take size (drop 20 l)

  before_it : sets l 0 f ≡ f ++ drop 20 l
  before_it = left-past l f (omega arith) ∙ ap (λ (k : ℕ). f ++ drop k l) twenty

  pub front-there : take (20 + size) (sets l 0 f) ≡ f ++ q
  front-there = ap (take (20 + size)) before_it ∙ ap (λ (k : ℕ). take (k + size) (f ++ drop 20 l)) (sym twenty) ∙ take-append-add f (drop 20 l) size

  payload-long : length q ≡ size
  payload-long = length-take-le size (drop 20 l) (rw length-drop (omega arith))

  rest : drop (24 + size) (sets l 0 f) ≡ drop (24 + size) l
  rest =
      let e : 24 + size ≡ length f + (4 + size) = omega arith in
      let g : 20 + (4 + size) ≡ 24 + size = omega arith in
      ap (drop (24 + size)) before_it
      ∙ ap (λ (k : ℕ). drop k (f ++ drop 20 l)) e
      ∙ drop-append-add f (drop 20 l) (4 + size)
      ∙ drop-drop (4 + size) 20 l
      ∙ ap (λ (k : ℕ). drop k l) g

  pub framing : (c : List ℕ) → length c ≡ 4 → sets (sets l 0 f) (20 + size) c ≡ sets l 0 (f ++ q ++ c)
  framing c four =
      let e = length-sets l 0 f in
      let a = length-append (f ++ q) c in
      let b = length-append f q in
      let n = payload-long in
      let g : 20 + size + length c ≡ 24 + size = omega arith in
      let k : length (f ++ q ++ c) ≡ 24 + size = omega arith in
      sets-eq c (sets l 0 f) (20 + size) (omega arith)
      ∙ ap₂ (λ (x y : List ℕ). x ++ c ++ y) front-there (ap (λ (i : ℕ). drop i (sets l 0 f)) g ∙ rest)
      ∙ ap (λ (i : ℕ). f ++ q ++ c ++ drop i l) (sym k)
      ∙ sym (left-past l (f ++ q ++ c) (omega arith))

-- with the two headers before it and their CRC behind it, it is a whole section
pub framed : (l : List ℕ) (h : Head) (size : ℕ) → 24 + size ≤ length l → (m k : List ℕ)
    → m ≡ sets l 0 (head_bytes h (12 + size) ++ message_head h size)
    → k ≡ sets m (20 + size) (spelled 4 (crc_of (take (20 + size) m))) → k ≡ sets l 0 (framed_by h (take size (drop 20 l)))
unfolding framed_by section_bytes
framed l h size room m k e f =
    let g : List ℕ = head_bytes h (12 + size) ++ message_head h size in
    let n = heads-long h size in
    let q : List ℕ = take size (drop 20 l) in
    let long : length q ≡ size = length-take-le size (drop 20 l) (rw length-drop (omega arith)) in
    let whole = front_pieces h q size long in
    let there : take (20 + size) m ≡ g ++ q = ap (take (20 + size)) e ∙ front-there l g size n room in
    f
    ∙ ap₂ (λ (x y : List ℕ). sets x (20 + size) (spelled 4 (crc_of y))) e (there ∙ whole)
    ∙ framing l g size n room _ (spelled_length 4 _)
    ∙ ap (λ (x : List ℕ). sets l 0 (x ++ spelled 4 (crc_of (front_bytes h.table h.extension h.version h.number h.last (message_bytes h.message h.identifier q))))) whole

-- A PAYLOAD THAT WAS PUT is read again, and a section laid over it is all that is seen of it
module _ (l p : List ℕ) (at : ℕ) (room : at + length p ≤ length l) where
  head-long : length (take at l) ≡ at
  head-long = length-take-le at l (omega arith)

  pub read_again : take (length p) (drop at (sets l at p)) ≡ p
  read_again =
      ap (λ (x : List ℕ). take (length p) (drop at x)) (sets-eq p l at room ∙ append_assoc (take at l) p (drop (at + length p) l))
      ∙ ap (take (length p)) (drop_at (take at l) (p ++ drop (at + length p) l) at head-long)
      ∙ take-append_seam p (drop (at + length p) l)

  pub laid-over : (s : List ℕ) → at + length p ≤ length s → length s ≤ length l → sets (sets l at p) 0 s ≡ sets l 0 s
  laid-over s h k =
      let d : ℕ = length s - (at + length p) in
      let a = length-append (take at l) p in
      let b = head-long in
      let e : length s ≡ length (take at l ++ p) + d = omega arith in
      let g : at + length p + d ≡ length s = omega arith in
      let m = length-sets l at p in
      left-past (sets l at p) s (omega arith)
      ∙ ap (λ (x : List ℕ). s ++ x) (
      ap (drop (length s)) (sets-eq p l at room)
      ∙ ap (λ (i : ℕ). drop i (take at l ++ p ++ drop (at + length p) l)) e
      ∙ drop-append-add (take at l ++ p) (drop (at + length p) l) d
      ∙ drop-drop d (at + length p) l
      ∙ ap (λ (i : ℕ). drop i l) g)
      ∙ sym (left-past l s k)

-- So a payload put at byte 20, and the section around it, leave that section and nothing else.
pub around : (l : List ℕ) (h : Head) (p m k : List ℕ) (size : ℕ) → length p ≡ size → 24 + size ≤ length l → m ≡ sets l 20 p → k ≡ sets m 0 (framed_by h (take size (drop 20 m)))
    → k ≡ sets l 0 (framed_by h p)
unfolding framed_by
around l h p m k size e room f g =
    let q : take size (drop 20 m) ≡ p = ap₂ (λ (n : ℕ) (x : List ℕ). take n (drop 20 x)) (sym e) f ∙ read_again l p 20 (omega arith) in
    let a = section-long h.table h.extension h.version h.number h.last (message_bytes h.message h.identifier p) in
    let b = message-long h.message h.identifier p in
    g ∙ ap₂ (λ (x y : List ℕ). sets x 0 (framed_by h y)) f q ∙ laid-over l p 20 (omega arith) (framed_by h p) (omega arith) (omega arith)
