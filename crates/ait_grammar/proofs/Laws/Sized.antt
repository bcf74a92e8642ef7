-- A length and what it counts: of 8 bits, and of 12 bits after 4 reserved ones. And where such a part ends, told from the bytes.
use Prim.Native.Nat.{ℕ, ◌+◌, ◌*◌, ◌/◌, ◌%◌, ◌^◌, ◌≤◌, ◌<◌}
use mathlib.Core.Path.{◌≡◌, refl, sym, ap, ◌∙◌}
use mathlib.Core.List.{List, ◌++◌, append_assoc}
use native.Mathlib.Omega.{arith}
use lib.ListN.{length, take, drop, length-append}
use lib.Seq.{get_or-take}
use Rattle.wire.specs.Fields.{byte_at, field_at, twelve_at, spelled}
use Rattle.wire.proofs.Laws.Fields.{field-one, field_take, spelled_length, spelled-reads}
use native.Mathlib.Nat.{mod-eq_of_lt}
use Rattle.ait_grammar.specs.Bytes.{sized12, sized8}
use Rattle.ait_grammar.proofs.Laws.Forms.{Form, when, seen, field}
use Rattle.ait_grammar.proofs.Laws.Counted.{counted}

-- a length byte alone
unfoldable pub counting : Form (λ x. length x ≡ 1) (λ (p : Unit {0} × ℕ). spelled 1 p.1) (λ p. p.1 < 256)
counting = seen (field 1) (λ n. (tt, n)) _ _ (λ n f. refl) (λ n f. f) (λ p f. (p.1, refl, f))

-- 4 reserved bits and a 12-bit length
unfoldable pub counting12 : Form (λ x. length x ≡ 2) (λ (p : ℕ × ℕ). spelled 2 (p.0 * 4096 + p.1)) (λ p. (p.0 < 16) × (p.1 < 4096))
counting12 =
    seen (field 2) (λ v. (v / 4096, v % 4096)) _ _
    (λ v f. ap (spelled 2) (split v))
    (λ v f. (high v f, omega arith))
    (λ p f. (p.0 * 4096 + p.1, pair p f.1, low p f.0 f.1))
  where
    split : (v : ℕ) → v / 4096 * 4096 + v % 4096 ≡ v
    split v = omega arith

    high : (v : ℕ) → v < 256 ^ 2 → v / 4096 < 16
    high v f = omega arith

    pair : (p : ℕ × ℕ) → p.1 < 4096 → ◌≡◌ {A = ℕ × ℕ} ((p.0 * 4096 + p.1) / 4096, (p.0 * 4096 + p.1) % 4096) p
    pair p f = let d : (p.0 * 4096 + p.1) / 4096 ≡ p.0 = omega arith in let m : (p.0 * 4096 + p.1) % 4096 ≡ p.1 = omega arith in λ i. (d i, m i)

    low : (p : ℕ × ℕ) → p.0 < 16 → p.1 < 4096 → p.0 * 4096 + p.1 < 256 ^ 2
    low p f g = omega arith

pub first_byte : (x : List ℕ) → field_at 1 (take 1 x) 0 ≡ byte_at x 0
first_byte x = field-one (take 1 x) 0 ∙ get_or-take 1 x 0 0 (omega arith)

pub first_two : (x : List ℕ) → field_at 2 (take 2 x) 0 % 4096 ≡ twelve_at x 0
first_two x = let e = field_take 2 x 2 0 (omega arith) in rw e (omega arith)

module _ {A : Type 0} {G : List ℕ → Type 0} {s : A → List ℕ} {F : A → Type 0} (E : Form G s F) where
  whole8 : Form (λ x. (1 ≤ length x) × (field_at 1 (take 1 x) 0 ≡ length (drop 1 x)) × G (drop 1 x)) (λ (p : Unit {0} × A). sized8 (s p.1)) (λ p. (length (s p.1) < 256) × F p.1)
  unfolding counting seen field
  whole8 = counted counting (λ h. E) (λ a. length (s a)) length (λ h a f. refl)

  pub in8 : Form (λ x. (1 ≤ length x) × (byte_at x 0 ≡ length (drop 1 x)) × G (drop 1 x)) (λ (a : A). sized8 (s a)) (λ a. (length (s a) < 256) × F a)
  in8 =
      seen (when whole8 (λ x. (1 ≤ length x) × (byte_at x 0 ≡ length (drop 1 x)) × G (drop 1 x)) (λ x g. (g.0, sym (first_byte x) ∙ g.1, g.2)) (λ x b g. (g.0, first_byte x ∙ g.1, g.2)))
      (λ p. p.1) _ _ (λ p f. refl) (λ p f. f) (λ a f. ((tt, a), refl, f))

  pub in12 : Form (λ x. (2 ≤ length x) × (twelve_at x 0 ≡ length (drop 2 x)) × G (drop 2 x)) (λ (p : ℕ × A). sized12 p.0 (s p.1))
      (λ p. ((p.0 < 16) × (length (s p.1) < 4096)) × F p.1)
  unfolding counting12 seen field
  in12 = when (counted counting12 (λ h. E) (λ a. length (s a)) length (λ h a f. refl)) _ (λ x g. (g.0, sym (first_two x) ∙ g.1, g.2)) (λ x b g. (g.0, first_two x ∙ g.1, g.2))

-- where a part with its length ends, whatever follows
pub ends8 : (xs r : List ℕ) → length xs < 256 → 1 + byte_at (sized8 xs ++ r) 0 ≡ length (sized8 xs)
ends8 xs r l =
    let a = append_assoc (spelled 1 (length xs)) xs r in
    let e : byte_at (sized8 xs ++ r) 0 ≡ length xs = ap (λ (y : List ℕ). byte_at y 0) a ∙ sym (field-one (spelled 1 (length xs) ++ (xs ++ r)) 0)
    ∙ spelled-reads 1 (length xs) (xs ++ r) ∙ mod-eq_of_lt l in
    let n = spelled_length 1 (length xs) in
    rw (e, length-append) (omega arith)

pub ends12 : (h : ℕ) (xs r : List ℕ) → h < 16 → length xs < 4096 → 2 + twelve_at (sized12 h xs ++ r) 0 ≡ length (sized12 h xs)
ends12 h xs r k l =
    let v : ℕ = h * 4096 + length xs in
    let a = append_assoc (spelled 2 v) xs r in
    let e : field_at 2 (sized12 h xs ++ r) 0 ≡ v = ap (λ (y : List ℕ). field_at 2 y 0) a ∙ spelled-reads 2 v (xs ++ r) ∙ mod-eq_of_lt (omega arith) in
    let n = spelled_length 2 v in
    rw (e, length-append) (omega arith)
