-- A record read by words of its bytes: bytes 0 to 7 hold buoy, state and longitude, bytes 4 to 11 latitude, minute and spare; and a record in a part of the list.
use Prim.Native.Nat.{ℕ, zero, suc, ◌+◌, ◌-◌, ◌*◌, ◌/◌, ◌%◌}
use mathlib.Core.Path.{◌≡◌, refl, sym, ap, ◌∙◌}
use mathlib.Core.List.{List}
use native.Mathlib.Omega.{arith}
use lib.ListN.{length, take, drop}
use Rattle.wire.specs.Fields.{byte_at, field_at, bits}
use Rattle.wire.specs.Bits.{AllBytes, bits_at}
use Rattle.wire.specs.Signed.{signed}
use Rattle.wire.proofs.Laws.Fields.{field_lt, field-one}
use Rattle.wire.proofs.Laws.Bits.{bits-field, bits_drop}
use Rattle.wire.proofs.Laws.Loops.{tail}
use Rattle.drift_list.specs.declared.Fields.{Fields}
use Rattle.drift_list.specs.Values.{buoy_before}
use Rattle.drift_list.specs.Reading.{fields_from, spare_from, fix_at, spare_at}

pub fix-words : (s : List ℕ) → AllBytes s → (hi lo : ℕ) → hi ≡ field_at 8 s 0 → lo ≡ field_at 8 s 4
    → fields_from s 0 ≡ record { buoy = bits 44 20 hi; state = bits 42 2 hi; longitude = signed 27 (bits 14 28 hi); latitude = signed 26 (bits 19 27 lo); minute = bits 5 14 lo }
unfolding fields_from
fix-words s b hi lo e f =
    let u : bits_at 20 s 0 ≡ bits 44 20 hi = bits-field 20 8 s 0 0 b (omega arith) ∙ ap (bits 44 20) (sym e) in
    let t : bits_at 2 s 20 ≡ bits 42 2 hi = bits-field 2 8 s 0 20 b (omega arith) ∙ ap (bits 42 2) (sym e) in
    let x : bits_at 28 s 22 ≡ bits 14 28 hi = bits-field 28 8 s 0 22 b (omega arith) ∙ ap (bits 14 28) (sym e) in
    let y : bits_at 27 s 50 ≡ bits 19 27 lo = bits-field 27 8 s 4 18 b (omega arith) ∙ ap (bits 19 27) (sym f) in
    let m : bits_at 14 s 77 ≡ bits 5 14 lo = bits-field 14 8 s 4 45 b (omega arith) ∙ ap (bits 5 14) (sym f) in
    λ i. record { buoy = u i; state = t i; longitude = ap (signed 27) x i; latitude = ap (signed 26) y i; minute = m i }

pub buoy-word : (s : List ℕ) → AllBytes s → (x : ℕ) → x ≡ field_at 4 s 0 → x / 4096 ≡ (fields_from s 0).buoy
unfolding fields_from
buoy-word s b x e =
    let l = field_lt 4 s 0 b in
    let r : bits 12 20 x ≡ x / 4096 = omega (arith, l, e) in
    sym (bits-field 20 4 s 0 0 b (omega arith) ∙ ap (bits 12 20) (sym e) ∙ r)

pub spare-word : (s : List ℕ) → AllBytes s → spare_from s 0 ≡ byte_at s 11 % 32
unfolding spare_from
spare-word s b = bits-field 5 1 s 11 3 b (omega arith) ∙ ap (bits 0 5) (field-one s 11) ∙ omega arith

-- THE RECORD THAT A PART BEGINS WITH
abbrev pub part : List ℕ → ℕ → List ℕ
part s k = take (length s - (4 + 12 * k)) (drop (4 + 12 * k) s)

fields_drop : (s : List ℕ) (a i : ℕ) → fields_from (drop a s) i ≡ fields_from s (8 * a + i)
unfolding fields_from
fields_drop s a i =
    let at : (n j : ℕ) → bits_at n (drop a s) (i + j) ≡ bits_at n s (8 * a + i + j) = λ n j. bits_drop n s a (i + j) ∙ ap (bits_at n s) (omega arith) in
    λ k. record {
      buoy = bits_drop 20 s a i k;
      state = at 2 20 k;
      longitude = signed 27 (at 28 22 k);
      latitude = signed 26 (at 27 50 k);
      minute = at 14 77 k;
    }

spare_drop : (s : List ℕ) (a i : ℕ) → spare_from (drop a s) i ≡ spare_from s (8 * a + i)
unfolding spare_from
spare_drop s a i = bits_drop 5 s a (i + 91) ∙ ap (bits_at 5 s) (omega arith)

pub part_record : (s : List ℕ) (k : ℕ) → fields_from (part s k) 0 ≡ fix_at s k
part_record s k = ap (λ (l : List ℕ). fields_from l 0) (tail s (4 + 12 * k)) ∙ fields_drop s (4 + 12 * k) 0 ∙ ap (fields_from s) (omega arith)

pub part-spare : (s : List ℕ) (k : ℕ) → spare_from (part s k) 0 ≡ spare_at s k
part-spare s k = ap (λ (l : List ℕ). spare_from l 0) (tail s (4 + 12 * k)) ∙ spare_drop s (4 + 12 * k) 0 ∙ ap (spare_from s) (omega arith)

-- the buoy before record k
pub before_part : (s : List ℕ) (k b : ℕ) → (k ≡ 0 → ⊥) → b ≡ (fields_from (part s (k - 1)) 0).buoy → b ≡ buoy_before (fix_at s) k
before_part s zero b n e = absurd (n refl)
before_part s (suc k) b n e =
    let o : suc k - 1 ≡ k = omega arith in
    e ∙ ap (λ (f : Fields). f.buoy) (part_record s (suc k - 1)) ∙ ap (λ (j : ℕ). (fix_at s j).buoy) o
