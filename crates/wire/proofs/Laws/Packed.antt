-- Fields side by side as one number, the first the most significant: fields of a packed number are read back, read fields pack to the number again,
-- and the fields of whole bytes are those of their number. Once, over the widths.
use Prim.Native.Nat.{ℕ, ◌+◌, ◌-◌, ◌*◌, ◌%◌, ◌^◌, ◌<◌, ◌≤◌}
use mathlib.Core.Path.{◌≡◌, refl, sym, ap, ap₂, ◌∙◌}
use mathlib.Core.List.{List, [], ◌∷◌}
use native.Mathlib.Nat.{mod-eq_of_lt}
use native.Mathlib.Omega.{arith}
use lib.Arith.{digits_lt}
use lib.Pow.{pow-add, mod-pow-add, high}
use Rattle.wire.specs.Fields.{field_at, bits}
use Rattle.wire.specs.Bits.{AllBytes, width, values_at, Fit}
use Rattle.wire.proofs.Laws.Bits.{bits-low, bits-field}

-- values side by side, each in the width that stands at its place
abbrev pub packed : (ws vs : List ℕ) → ℕ
packed [] vs = 0
packed (w ∷ ws) [] = 0
packed (w ∷ ws) (v ∷ vs) = v * 2 ^ width ws + packed ws vs

-- the values that stand in a number, each in its width
abbrev pub unpacked : (ws : List ℕ) → ℕ → List ℕ
unpacked [] x = []
unpacked (w ∷ ws) x = bits (width ws) w x ∷ unpacked ws x

-- THE BOUND
pub packed_lt : (ws vs : List ℕ) → Fit ws vs → packed ws vs < 2 ^ width ws
packed_lt [] [] f = omega arith
packed_lt [] (v ∷ vs) f = absurd f
packed_lt (w ∷ ws) [] f = absurd f
packed_lt (w ∷ ws) (v ∷ vs) f = rw (pow-add 2 w (width ws)) (digits_lt f.0 (packed_lt ws vs f.1))

-- what stands above the fields does not matter to them
unpacked-low : (ws : List ℕ) (j hi lo : ℕ) → lo < 2 ^ j → width ws ≤ j → unpacked ws (hi * 2 ^ j + lo) ≡ unpacked ws lo
unpacked-low [] j hi lo h l = refl
unpacked-low (w ∷ ws) j hi lo h l =
    ap₂ (λ (v : ℕ) (vs : List ℕ). v ∷ vs) (bits-low j (width ws) w hi lo h (omega arith)) (unpacked-low ws j hi lo h (omega arith))

-- WHAT WAS PACKED IS READ BACK
pub packed-read : (ws vs : List ℕ) → Fit ws vs → unpacked ws (packed ws vs) ≡ vs
packed-read [] [] f = refl
packed-read [] (v ∷ vs) f = absurd f
packed-read (w ∷ ws) [] f = absurd f
packed-read (w ∷ ws) (v ∷ vs) f =
    let l = packed_lt ws vs f.1 in
    ap₂ (λ (y : ℕ) (ys : List ℕ). y ∷ ys)
    (ap (λ (y : ℕ). y % 2 ^ w) (high v (width ws) l) ∙ mod-eq_of_lt f.0)
    (unpacked-low ws (width ws) v (packed ws vs) l (omega arith) ∙ packed-read ws vs f.1)

-- WHAT WAS READ IS PACKED AGAIN
pub read-packed : (ws : List ℕ) (x : ℕ) → packed ws (unpacked ws x) ≡ x % 2 ^ width ws
read-packed [] x = omega arith
read-packed (w ∷ ws) x = ap (λ (y : ℕ). bits (width ws) w x * 2 ^ width ws + y) (read-packed ws x) ∙ sym (mod-pow-add x w (width ws))

-- THE FIELDS OF n BYTES, from bit b of them to their end, are those of their number
pub values-field : (ws : List ℕ) (n : ℕ) (s : List ℕ) (a b : ℕ) → AllBytes s → b + width ws ≡ 8 * n → values_at ws s (8 * a + b) ≡ unpacked ws (field_at n s a)
values-field [] n s a b y h = refl
values-field (w ∷ ws) n s a b y h =
    let o : 8 * n - (b + w) ≡ width ws = omega arith in
    let p : 8 * a + b + w ≡ 8 * a + (b + w) = omega arith in
    ap₂ (λ (v : ℕ) (vs : List ℕ). v ∷ vs)
    (bits-field w n s a b y (omega arith) ∙ ap (λ (k : ℕ). bits k w (field_at n s a)) o)
    (ap (values_at ws s) p ∙ values-field ws n s a (b + w) y (omega arith))
