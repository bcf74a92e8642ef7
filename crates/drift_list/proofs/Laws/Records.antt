-- One record: values and the 96 bits, each from the other.
use Prim.Native.Nat.{ℕ, zero, suc, ◌+◌, ◌*◌, ◌^◌, ◌<◌}
use mathlib.Core.Path.{◌≡◌, refl, sym, ap, ◌∙◌}
use mathlib.Core.Logic.{◌⊎◌, inl, inr}
use mathlib.Core.List.{List, [], ◌∷◌}
use native.Mathlib.Nat.{mod-eq_of_lt}
use native.Mathlib.Omega.{arith}
use lib.Dec.{leb→le}
use lib.ListN.{length, get_or, replicate}
use lib.IntN.{ℤ, pos, negsuc}
use lib.Pow.{pow_pos}
use Rattle.wire.specs.Fields.{byte_at, field_at, bits, spelled}
use Rattle.wire.specs.Bits.{AllBytes, bits_at, values_at, Fit}
use Rattle.wire.proofs.Laws.Fields.{bits_lt, field_lt}
use Rattle.drift_list.specs.declared.Fields.{Fields}
use Rattle.wire.specs.Signed.{signed, InBits, Between}
use Rattle.drift_list.specs.Values.{GoodFix, StateTold}
use Rattle.drift_list.specs.Reading.{fields_from, spare_from, field_widths, field_values, spell_fix, FitsFix}
use Rattle.wire.proofs.Laws.Bits.{bits_at_lt, bits-field, all_length, all_put, all-bytes}
use Rattle.wire.proofs.Laws.Packed.{packed, unpacked, packed_lt, packed-read, read-packed, values-field}
use Rattle.wire.proofs.Laws.Spelled.{reads-spelled}
use Rattle.wire.proofs.Laws.Signed.{twos-signed, signed-twos, twos_lt, signed_in}

-- a range of signed numbers lies in the bits that its ends lie in
pub range_in : (h a b : ℕ) (z : ℤ) → a < 2 ^ h → b < 2 ^ h → Between (negsuc a) (pos b) z → InBits h z
range_in h a b (pos n) p q r = let l = leb→le n b r.1.le in omega arith
range_in h a b (negsuc n) p q r = let l = leb→le n a r.0.le in omega arith

state-small : (f : Fields) → StateTold f → f.state < 2 ^ 2
state-small f (inl s) = let e = s.0 in omega arith
state-small f (inr s) = go s.0
  where
    go : ((f.state ≡ 1) ⊎ (f.state ≡ 2)) → f.state < 2 ^ 2
    go (inl e) = omega arith
    go (inr e) = omega arith

-- a good record whose buoy fits
pub good-fits : (f : Fields) → f.buoy < 2 ^ 20 → GoodFix f → FitsFix f
good-fits f b g = record {
  buoy = b;
  state = state-small f g.state;
  longitude = range_in 27 107_999_998 108_000_000 f.longitude (omega arith) (omega arith) g.longitude;
  latitude = range_in 26 53_999_999 54_000_000 f.latitude (omega arith) (omega arith) g.latitude;
  minute = let m = g.minute in omega arith;
}

-- A RECORD AS ONE NUMBER of 96 bits: what stands in one, and the number of some values
unfoldable pub said_by : ℕ → Fields
said_by x = record { buoy = bits 76 20 x; state = bits 74 2 x; longitude = signed 27 (bits 46 28 x); latitude = signed 26 (bits 19 27 x); minute = bits 5 14 x }

unfoldable pub spare_by : ℕ → ℕ
spare_by x = bits 0 5 x

unfoldable pub number_of : Fields → ℕ
number_of f = packed field_widths (field_values f)

fit : (f : Fields) → FitsFix f → Fit field_widths (field_values f)
fit f s = (s.buoy, (s.state, (twos_lt 27 f.longitude s.longitude, (twos_lt 26 f.latitude s.latitude, (s.minute, (pow_pos 5, tt))))))

pub number_lt : (f : Fields) → FitsFix f → number_of f < 2 ^ 96
unfolding number_of
number_lt f s = packed_lt field_widths (field_values f) (fit f s)

all_read : (f : Fields) → FitsFix f → unpacked field_widths (number_of f) ≡ field_values f
unfolding number_of
all_read f s = packed-read field_widths (field_values f) (fit f s)

-- VALUES, PACKED, ARE READ BACK
pub fix-again : (f : Fields) → FitsFix f → said_by (number_of f) ≡ f
unfolding said_by
fix-again f s =
    let e = all_read f s in
    let b : bits 76 20 (number_of f) ≡ f.buoy = ap (λ (l : List ℕ). get_or l 0 0) e in
    let t : bits 74 2 (number_of f) ≡ f.state = ap (λ (l : List ℕ). get_or l 1 0) e in
    let x : signed 27 (bits 46 28 (number_of f)) ≡ f.longitude = ap (λ (l : List ℕ). signed 27 (get_or l 2 0)) e ∙ signed-twos 27 f.longitude s.longitude in
    let y : signed 26 (bits 19 27 (number_of f)) ≡ f.latitude = ap (λ (l : List ℕ). signed 26 (get_or l 3 0)) e ∙ signed-twos 26 f.latitude s.latitude in
    let m : bits 5 14 (number_of f) ≡ f.minute = ap (λ (l : List ℕ). get_or l 4 0) e in
    λ i. record { buoy = b i; state = t i; longitude = x i; latitude = y i; minute = m i }

pub spare-again : (f : Fields) → FitsFix f → spare_by (number_of f) ≡ 0
unfolding spare_by
spare-again f s = ap (λ (l : List ℕ). get_or l 5 0) (all_read f s)

-- BITS, READ, ARE PACKED AGAIN
pub number-back : (x : ℕ) → x < 2 ^ 96 → spare_by x ≡ 0 → number_of (said_by x) ≡ x
unfolding number_of said_by spare_by
number-back x l z =
    rw (twos-signed 27 (bits 46 28 x) (bits_lt 46 28 x), twos-signed 26 (bits 19 27 x) (bits_lt 19 27 x))
    (ap (λ (o : ℕ). packed field_widths (bits 76 20 x ∷ bits 74 2 x ∷ bits 46 28 x ∷ bits 19 27 x ∷ bits 5 14 x ∷ o ∷ [])) (sym z) ∙ read-packed field_widths x ∙ mod-eq_of_lt l)

-- what stands in a record fits it
pub fields_fit : (s : List ℕ) (i : ℕ) → FitsFix (fields_from s i)
unfolding fields_from
fields_fit s i = record {
  buoy = bits_at_lt 20 s i;
  state = bits_at_lt 2 s (i + 20);
  longitude = signed_in 27 (bits_at 28 s (i + 22)) (bits_at_lt 28 s (i + 22));
  latitude = signed_in 26 (bits_at 27 s (i + 50)) (bits_at_lt 27 s (i + 50));
  minute = bits_at_lt 14 s (i + 77);
}

-- the twelve bytes from byte a on, as bits and as one number
pub fields-number : (s : List ℕ) (a : ℕ) → AllBytes s → fields_from s (8 * a) ≡ said_by (field_at 12 s a)
unfolding fields_from said_by
fields-number s a b =
    let z : 8 * a ≡ 8 * a + 0 = omega arith in
    let u : bits_at 20 s (8 * a) ≡ bits 76 20 (field_at 12 s a) = ap (bits_at 20 s) z ∙ bits-field 20 12 s a 0 b (omega arith) in
    let t : bits_at 2 s (8 * a + 20) ≡ bits 74 2 (field_at 12 s a) = bits-field 2 12 s a 20 b (omega arith) in
    let x : bits_at 28 s (8 * a + 22) ≡ bits 46 28 (field_at 12 s a) = bits-field 28 12 s a 22 b (omega arith) in
    let y : bits_at 27 s (8 * a + 50) ≡ bits 19 27 (field_at 12 s a) = bits-field 27 12 s a 50 b (omega arith) in
    let m : bits_at 14 s (8 * a + 77) ≡ bits 5 14 (field_at 12 s a) = bits-field 14 12 s a 77 b (omega arith) in
    λ i. record { buoy = u i; state = t i; longitude = ap (signed 27) x i; latitude = ap (signed 26) y i; minute = m i }

pub spare-number : (s : List ℕ) (a : ℕ) → AllBytes s → spare_from s (8 * a) ≡ spare_by (field_at 12 s a)
unfolding spare_from spare_by
spare-number s a b = bits-field 5 12 s a 91 b (omega arith)

-- A RECORD'S TWELVE BYTES
zeros : (n k : ℕ) → byte_at (replicate n 0) k < 256
zeros zero k = omega arith
zeros (suc n) zero = omega arith
zeros (suc n) (suc k) = zeros n k

pub fix_length : (f : Fields) → length (spell_fix f) ≡ 12
unfolding spell_fix
fix_length f = all_length field_widths (field_values f) (replicate 12 0) 0

pub fix-bytes : (f : Fields) → AllBytes (spell_fix f)
unfolding spell_fix
fix-bytes f = all-bytes field_widths (field_values f) (replicate 12 0) 0 (omega arith) (zeros 12)

fix-values : (f : Fields) → FitsFix f → values_at field_widths (spell_fix f) 0 ≡ field_values f
unfolding spell_fix
fix-values f s = all_put field_widths (field_values f) (replicate 12 0) 0 (fit f s) (omega arith)

-- are those that spell its number
pub fix-spelled : (f : Fields) → FitsFix f → spell_fix f ≡ spelled 12 (number_of f)
unfolding number_of
fix-spelled f s =
    let l : List ℕ = spell_fix f in
    let b = fix-bytes f in
    let x : ℕ = field_at 12 l 0 in
    let e : unpacked field_widths x ≡ field_values f = sym (values-field field_widths 12 l 0 0 b refl) ∙ fix-values f s in
    let n : packed field_widths (field_values f) ≡ x = ap (packed field_widths) (sym e) ∙ read-packed field_widths x ∙ mod-eq_of_lt (field_lt 12 l 0 b) in
    sym (ap (spelled 12) n ∙ reads-spelled 12 l b (fix_length f))
