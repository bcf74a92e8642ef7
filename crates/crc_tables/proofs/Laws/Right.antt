-- BY THE RIGHT TABLES, SIXTEEN BYTES AT A TIME, IT IS THE CRC.
use mathlib.Core.Path.{◌≡◌, refl, sym, ap, ap₂, subst⁻¹, ◌∙◌}
use mathlib.Core.Bool.{Bool, true, false, cond}
use mathlib.Core.List.{List, [], ◌∷◌, ◌++◌}
use Prim.Native.Nat.{ℕ, zero, suc, ◌+◌, ◌-◌, ◌*◌, ◌/◌, ◌%◌, ◌^◌, ◌<◌, ◌≤◌}
use native.Mathlib.Omega.{arith}
use lib.Dec.{ltb, lit<}
use lib.ListN.{length, get_or, drop, length-drop, replicate, length-replicate}
use lib.Seq.{get_or-drop, drop-drop}
use lib.Bits.{bit_xor, xor_mod, xor_zero_r, xor_comm}
use borrow.Author.Tests.{le-ltb, ltb-false}
use Rattle.wire.specs.Fields.{spelled}
use Rattle.section.specs.Crc.{all_ones, crc_byte, crc_from, crc_of}
use Rattle.section.proofs.Laws.Crc.{from_next, from_append, bits_lt, from_lt, own-byte, own-bytes}
use Rattle.crc_tables.specs.By.{◌⊕◌, entry_of, four, sixteen, one, ones, from_clear, up_to15, groups, crc_by}
use Rattle.crc_tables.specs.Tables.{left, crc_tables}
use Rattle.crc_tables.proofs.Laws.Xor.{xor_assoc, twice}
use Rattle.crc_tables.proofs.Laws.Linear.{byte_xor, added, from_xor, added-clear}
use Rattle.crc_tables.proofs.Laws.Entries.{length_tables, table_is}

-- BYTES BEFORE OTHERS: what they leave when as many clear bytes follow, and what the others leave of a clear register
join : (a s : List ℕ) (r : ℕ) → r < 2 ^ 32 → crc_from r (a ++ replicate (length s) 0) ⊕ crc_from 0 s ≡ crc_from r (a ++ s)
join a s r h =
    let q : ℕ = crc_from r a in
    let z : List ℕ = replicate (length s) 0 in
    ap (λ (x : ℕ). x ⊕ crc_from 0 s) (from_append r a z)
    ∙ sym (from_xor z s q 0 (length-replicate (length s) 0) (from_lt a r h) (lit< tt))
    ∙ ap₂ crc_from (xor_zero_r q) (added-clear s)
    ∙ sym (from_append r a s)

-- of one byte: its entry
first : (k y : ℕ) (s : List ℕ) → length s ≡ k → crc_from 0 (y ∷ s) ≡ left k y ⊕ crc_from 0 s
unfolding left
first k y s e = sym (join (y ∷ []) s 0 (lit< tt)) ∙ ap (λ (n : ℕ). left n y ⊕ crc_from 0 s) e

-- A REGISTER BEFORE FOUR BYTES is a clear one before the bytes with its own added: fed its own bytes it is clear after them.
as-clear : (r a b c d : ℕ) → r < 2 ^ 32
    → crc_from r (a ∷ b ∷ c ∷ d ∷ []) ≡ crc_from 0 (r / 2 ^ 24 % 256 ⊕ a ∷ r / 2 ^ 16 % 256 ⊕ b ∷ r / 2 ^ 8 % 256 ⊕ c ∷ r % 256 ⊕ d ∷ [])
unfolding added spelled
as-clear r a b c d h =
    let o : r / 1 % 256 ≡ r % 256 = omega arith in
    let t : List ℕ = r / 2 ^ 24 % 256 ⊕ a ∷ r / 2 ^ 16 % 256 ⊕ b ∷ r / 2 ^ 8 % 256 ⊕ c ∷ r % 256 ⊕ d ∷ [] in
    let e₀ = twice (r / 2 ^ 24 % 256) a in
    let e₁ = twice (r / 2 ^ 16 % 256) b in
    let e₂ = twice (r / 2 ^ 8 % 256) c in
    let e₃ = ap (λ (x : ℕ). x ⊕ (r % 256 ⊕ d)) o ∙ twice (r % 256) d in
    let e : added (spelled 4 r) t ≡ a ∷ b ∷ c ∷ d ∷ [] = λ i. e₀ i ∷ e₁ i ∷ e₂ i ∷ e₃ i ∷ [] in
    ap₂ crc_from (sym (xor_zero_r r)) (sym e) ∙ from_xor (spelled 4 r) t r 0 refl h (lit< tt) ∙ ap (λ (x : ℕ). x ⊕ crc_from 0 t) (own-bytes r h)

-- four bytes, and k clear ones, by four entries
four-left : (k r a b c d : ℕ) → r < 2 ^ 32
    → crc_from r (a ∷ b ∷ c ∷ d ∷ replicate k 0)
    ≡ left (k + 3) (r / 2 ^ 24 % 256 ⊕ a) ⊕ left (k + 2) (r / 2 ^ 16 % 256 ⊕ b) ⊕ left (k + 1) (r / 2 ^ 8 % 256 ⊕ c) ⊕ left k (r % 256 ⊕ d)
unfolding left
four-left k r a b c d h =
    let z : List ℕ = replicate k 0 in
    let l : length z ≡ k = length-replicate k 0 in
    let y₀ : ℕ = r / 2 ^ 24 % 256 ⊕ a in
    let y₁ : ℕ = r / 2 ^ 16 % 256 ⊕ b in
    let y₂ : ℕ = r / 2 ^ 8 % 256 ⊕ c in
    let y₃ : ℕ = r % 256 ⊕ d in
    let x : ℕ = left (k + 3) y₀ in
    let y : ℕ = left (k + 2) y₁ in
    let u : ℕ = left (k + 1) y₂ in
    let v : ℕ = left k y₃ in
    from_append r (a ∷ b ∷ c ∷ d ∷ []) z ∙ ap (λ (q : ℕ). crc_from q z) (as-clear r a b c d h)
    ∙ sym (from_append 0 (y₀ ∷ y₁ ∷ y₂ ∷ y₃ ∷ []) z)
    ∙ first (k + 3) y₀ (y₁ ∷ y₂ ∷ y₃ ∷ z) (omega arith)
    ∙ ap (bit_xor x) (first (k + 2) y₁ (y₂ ∷ y₃ ∷ z) (omega arith) ∙ ap (bit_xor y) (first (k + 1) y₂ (y₃ ∷ z) (omega arith)))
    ∙ sym (xor_assoc x y (u ⊕ v)) ∙ sym (xor_assoc (x ⊕ y) u v)

one_left : (r b : ℕ) → r < 2 ^ 32 → crc_byte r b ≡ r * 256 % 2 ^ 32 ⊕ left 0 (r / 2 ^ 24 ⊕ b)
unfolding left crc_from
one_left r b h =
    let t : ℕ = r / 2 ^ 24 in
    ap₂ crc_byte (sym (xor_zero_r r)) (sym (twice t b)) ∙ byte_xor t (t ⊕ b) r 0 h (lit< tt) ∙ ap (λ (x : ℕ). x ⊕ crc_byte 0 (t ⊕ b)) (own-byte r t h refl)

-- ---- with the right tables

entry-right : (k x b : ℕ) → k < 16 → b < 256 → entry_of crc_tables k (x ⊕ b) ≡ left k (x % 256 ⊕ b)
entry-right k x b hk h =
    let e : b % 256 ≡ b = omega arith in
    let low : (x ⊕ b) % 256 ≡ x % 256 ⊕ b = xor_mod x b 8 ∙ ap (bit_xor (x % 256)) e in
    ap (λ (z : ℕ). get_or crc_tables (k * 256 + z) 0) low ∙ table_is k (x % 256 ⊕ b) hk (omega arith)

abbrev pub Bytes : List ℕ → Type 0
Bytes s = (i : ℕ) → get_or s i 0 < 256

bytes_drop : (n : ℕ) (s : List ℕ) → Bytes s → Bytes (drop n s)
bytes_drop n s bs = λ i. subst⁻¹ (λ (x : ℕ). x < 256) (get_or-drop n s i 0) (bs (n + i))

abbrev first_four : List ℕ → List ℕ
first_four s = get_or s 0 0 ∷ get_or s 1 0 ∷ get_or s 2 0 ∷ get_or s 3 0 ∷ []

four-right : (k r : ℕ) (s : List ℕ) → k ≤ 12 → r < 2 ^ 32 → Bytes s → four crc_tables k r s ≡ crc_from r (first_four s ++ replicate k 0)
unfolding four
four-right k r s hk h bs =
    let e₃ = entry-right (k + 3) (r / 2 ^ 24) (get_or s 0 0) (omega arith) (bs 0) in
    let e₂ = entry-right (k + 2) (r / 2 ^ 16) (get_or s 1 0) (omega arith) (bs 1) in
    let e₁ = entry-right (k + 1) (r / 2 ^ 8) (get_or s 2 0) (omega arith) (bs 2) in
    let e₀ = entry-right k r (get_or s 3 0) (omega arith) (bs 3) in
    (λ i. e₃ i ⊕ e₂ i ⊕ e₁ i ⊕ e₀ i) ∙ sym (four-left k r _ _ _ _ h)

sixteen-right : (r : ℕ) (s : List ℕ) → r < 2 ^ 32 → Bytes s
    → sixteen crc_tables r s ≡ crc_from r (first_four s ++ (first_four (drop 4 s) ++ (first_four (drop 8 s) ++ first_four (drop 12 s))))
unfolding sixteen
sixteen-right r s h bs =
    let a : List ℕ = first_four s in
    let b : List ℕ = first_four (drop 4 s) in
    let c : List ℕ = first_four (drop 8 s) in
    let d : List ℕ = first_four (drop 12 s) in
    let e₁ = four-right 8 0 (drop 4 s) (omega arith) (lit< tt) (bytes_drop 4 s bs) in
    let e₂ = four-right 4 0 (drop 8 s) (omega arith) (lit< tt) (bytes_drop 8 s bs) in
    let e₃ = four-right 0 0 (drop 12 s) (omega arith) (lit< tt) (bytes_drop 12 s bs) in
    let e₀ = four-right 12 r s (omega arith) h bs in
    let w : ℕ = crc_from r (a ++ replicate 12 0) in
    let x : ℕ = crc_from 0 (b ++ replicate 8 0) in
    let rest : x ⊕ crc_from 0 (c ++ replicate 4 0) ⊕ crc_from 0 d ≡ crc_from 0 (b ++ (c ++ d)) =
    xor_assoc x (crc_from 0 (c ++ replicate 4 0)) (crc_from 0 d) ∙ ap (bit_xor x) (join c d 0 (lit< tt)) ∙ join b (c ++ d) 0 (lit< tt) in
    (λ i. e₁ i ⊕ e₂ i ⊕ e₃ i ⊕ e₀ i) ∙ ap (λ (y : ℕ). y ⊕ w) rest ∙ xor_comm (crc_from 0 (b ++ (c ++ d))) w ∙ join a (b ++ (c ++ d)) r h

one_right : (r b : ℕ) → r < 2 ^ 32 → b < 256 → one crc_tables r b ≡ crc_byte r b
unfolding one
one_right r b h hb =
    let t : r / 2 ^ 24 % 256 ≡ r / 2 ^ 24 = omega arith in
    ap (bit_xor (r * 256 % 2 ^ 32)) (entry-right 0 (r / 2 ^ 24) b (lit< tt) hb ∙ ap (λ (x : ℕ). left 0 (x ⊕ b)) t) ∙ sym (one_left r b h)

ones-right : (s : List ℕ) (r : ℕ) → r < 2 ^ 32 → Bytes s → ones crc_tables r s ≡ crc_from r s
unfolding ones crc_from
ones-right [] r h bs = refl
ones-right (b ∷ s) r h bs = ap (λ (x : ℕ). ones crc_tables x s) (one_right r b h (bs 0)) ∙ ones-right s (crc_byte r b) (bits_lt 8 b r h) (λ i. bs (suc i))

-- four bytes from a place on, and the others
four-more : (i r : ℕ) (s : List ℕ) → i + 4 ≤ length s → crc_from r (drop i s) ≡ crc_from (crc_from r (first_four (drop i s))) (drop (i + 4) s)
unfolding crc_from
four-more i r s h =
    let t : List ℕ = drop i s in
    let e = length-drop i s in
    from_next r 0 t (omega arith) ∙ from_next _ 1 t (omega arith) ∙ from_next _ 2 t (omega arith) ∙ from_next _ 3 t (omega arith)
    ∙ ap (crc_from (crc_from r (first_four t))) (drop-drop 4 i s)

clear-right : (s : List ℕ) → length s < 16 → Bytes s → from_clear crc_tables s ≡ crc_from 0 s
unfolding from_clear crc_from
clear-right [] h bs = refl
clear-right (b ∷ s) h bs =
    ap₂ bit_xor (entry-right (length s) 0 b (omega arith) (bs 0)) (clear-right s (omega arith) (λ i. bs (suc i))) ∙ sym (first (length s) b s refl)

up_to15-right : (r : ℕ) (s : List ℕ) → length s < 16 → r < 2 ^ 32 → Bytes s → up_to15 crc_tables r s ≡ crc_from r s
unfolding up_to15
up_to15-right r s l h bs = go (ltb (length s) 4) refl
  where
    go : (t : Bool) → ltb (length s) 4 ≡ t → cond t (ones crc_tables r s) (from_clear crc_tables (drop 4 s) ⊕ four crc_tables (length s - 4) r s) ≡ crc_from r s
    go true e = ones-right s r h bs
    go false e =
        let a : List ℕ = first_four s in
        let b : List ℕ = drop 4 s in
        let n : length b ≡ length s - 4 = length-drop 4 s in
        let x : ℕ = crc_from r (a ++ replicate (length b) 0) in
        let f : four crc_tables (length s - 4) r s ≡ x =
        four-right (length s - 4) r s (omega arith) h bs ∙ ap (λ (m : ℕ). crc_from r (a ++ replicate m 0)) (sym n) in
        ap₂ bit_xor (clear-right b (omega arith) (bytes_drop 4 s bs)) f
        ∙ xor_comm (crc_from 0 b) x ∙ join a b r h ∙ from_append r a b ∙ sym (four-more 0 r s (ltb-false (length s) 4 e))

groups-right : (n r : ℕ) (s : List ℕ) → n * 16 ≤ length s → length s < n * 16 + 16 → r < 2 ^ 32 → Bytes s → groups crc_tables n r s ≡ crc_from r s
unfolding groups crc_from
groups-right zero r s k l h bs = up_to15-right r s (omega arith) h bs
groups-right (suc n) r s k l h bs =
    let e = length-drop 16 s in
    let a : List ℕ = first_four s ++ (first_four (drop 4 s) ++ (first_four (drop 8 s) ++ first_four (drop 12 s))) in
    ap (λ (x : ℕ). groups crc_tables n x (drop 16 s)) (sixteen-right r s h bs)
    ∙ groups-right n (crc_from r a) (drop 16 s) (omega arith) (omega arith) (from_lt a r h) (bytes_drop 16 s bs)
    ∙ sym (four-more 0 r s (omega arith) ∙ four-more 4 _ s (omega arith) ∙ four-more 8 _ s (omega arith) ∙ four-more 12 _ s (omega arith))

pub by_tables : (s : List ℕ) → Bytes s → crc_by crc_tables s ≡ crc_of s
unfolding crc_by crc_of
by_tables s bs =
    let e = length_tables in
    let f : ltb (length crc_tables) 4096 ≡ false = le-ltb (length crc_tables) 4096 (omega arith) in
    ap (λ (t : Bool). cond t (crc_of s) (groups crc_tables (length s / 16) all_ones s)) f
    ∙ groups-right (length s / 16) all_ones s (omega arith) (omega arith) (lit< tt) bs

-- for a caller: what `crc_by` answered of the tables that it was lent
pub lent : (t s : List ℕ) (x : ℕ) → t ≡ crc_tables → Bytes s → x ≡ crc_by t s → x ≡ crc_of s
lent t s x e bs f = f ∙ ap (λ (l : List ℕ). crc_by l s) e ∙ by_tables s bs
