-- Numbers spelled in bytes: what was read is spelled again, what follows a spelled number, and a number spelled in two parts.
use Prim.Native.Nat.{ℕ, zero, suc, ◌+◌, ◌-◌, ◌*◌, ◌/◌, ◌%◌, ◌^◌, ◌<◌, ◌≤◌}
use mathlib.Core.Path.{◌≡◌, refl, sym, ap, ap₂, subst, ◌∙◌}
use mathlib.Core.List.{List, [], ◌∷◌, ◌++◌}
use native.Mathlib.Nat.{mod-eq_of_lt, pow-succ', mul_assoc, mul-add-div_right, div-div-eq-div-mul}
use native.Mathlib.Omega.{arith}
use lib.Arith.{digits_div}
use lib.ListN.{length, take, drop, length-drop, take-append-drop}
use lib.Pow.{pow-add}
use lib.Seq.{length-take-le, drop-append_seam, drop-drop, get_or-drop}
use Rattle.wire.specs.Fields.{field_at, spelled}
use Rattle.wire.specs.Bits.{AllBytes}
use Rattle.wire.proofs.Laws.Fields.{pow256, field_lt, field-join, field-one, field_drop, field_part, spelled_length}

-- n bytes spell a number's n lowest digits only
pub shift : (n q w : ℕ) → spelled n (q * 256 ^ n + w) ≡ spelled n w
unfolding spelled
shift zero q w = refl
shift (suc n) q w =
    let e : q * 256 ^ suc n ≡ q * 256 * 256 ^ n = ap (λ (k : ℕ). q * k) (pow-succ' 256 n) ∙ sym (mul_assoc q 256 (256 ^ n)) in
    let d : (q * 256 * 256 ^ n + w) / 256 ^ n ≡ q * 256 + w / 256 ^ n = mul-add-div_right (pow256 n) (q * 256) w in
    let m : (q * 256 + w / 256 ^ n) % 256 ≡ w / 256 ^ n % 256 = omega arith in
    rw e (ap₂ (λ (x : ℕ) (l : List ℕ). x ∷ l) (ap (λ (x : ℕ). x % 256) d ∙ m) (shift n (q * 256) w))

-- WHAT WAS READ IS SPELLED AGAIN
pub reads-spelled : (n : ℕ) (xs : List ℕ) → AllBytes xs → length xs ≡ n → spelled n (field_at n xs 0) ≡ xs
unfolding spelled
reads-spelled zero [] b e = refl
reads-spelled zero (x ∷ xs) b e = absurd (omega arith)
reads-spelled (suc n) [] b e = absurd (omega arith)
reads-spelled (suc n) (x ∷ xs) b e =
    let s : List ℕ = x ∷ xs in
    let o : suc n ≡ 1 + n = omega arith in
    let r : AllBytes xs = λ k. b (suc k) in
    let f : field_at (suc n) s 0 ≡ x * 256 ^ n + field_at n xs 0 = ap (λ (k : ℕ). field_at k s 0) o ∙ field-join 1 n s 0 ∙ ap₂ (λ (y z : ℕ). y * 256 ^ n + z) (field-one s 0) (sym
    (field_drop n s 1 0)) in
    let l : field_at n xs 0 < 256 ^ n = field_lt n xs 0 r in
    let h : (x * 256 ^ n + field_at n xs 0) / 256 ^ n % 256 ≡ x = ap (λ (y : ℕ). y % 256) (digits_div x l) ∙ mod-eq_of_lt (b zero) in
    rw f (ap₂ (λ (y : ℕ) (l : List ℕ). y ∷ l) h (shift n x (field_at n xs 0) ∙ reads-spelled n xs r (omega arith)))

byte_take : (n : ℕ) (xs : List ℕ) → AllBytes xs → AllBytes (take n xs)
byte_take zero xs b k = omega arith
byte_take (suc n) [] b k = omega arith
byte_take (suc n) (x ∷ xs) b zero = b zero
byte_take (suc n) (x ∷ xs) b (suc k) = byte_take n xs (λ j. b (suc j)) k

-- THE n BYTES AT A PLACE, READ AND SPELLED AGAIN, and the rest
pub part-spelled : (n : ℕ) (s : List ℕ) (i : ℕ) → AllBytes s → i + n ≤ length s → spelled n (field_at n s i) ++ drop (i + n) s ≡ drop i s
part-spelled n s i b h =
    let bd : AllBytes (drop i s) = λ k. subst (λ (y : ℕ). y < 256) (sym (get_or-drop i s k 0)) (b (i + k)) in
    let ld : length (drop i s) ≡ length s - i = length-drop i s in
    let xs : List ℕ = take n (drop i s) in
    let l : length xs ≡ n = length-take-le n (drop i s) (omega arith) in
    let z : i + 0 ≡ i = omega arith in
    let f : field_at n xs 0 ≡ field_at n s i = field_part n s i n 0 (omega arith) ∙ ap (λ (k : ℕ). field_at n s k) z in
    let e : spelled n (field_at n s i) ≡ xs = ap (spelled n) (sym f) ∙ reads-spelled n xs (byte_take n (drop i s) bd) l in
    ap₂ (λ (u v : List ℕ). u ++ v) e (sym (drop-drop n i s)) ∙ take-append-drop n (drop i s)

-- what follows a spelled number
pub after-spelled : (n x : ℕ) (r : List ℕ) → drop n (spelled n x ++ r) ≡ r
after-spelled n x r = ap (λ (m : ℕ). drop m (spelled n x ++ r)) (sym (spelled_length n x)) ∙ drop-append_seam (spelled n x) r

pub field-after : (m n x i : ℕ) (r : List ℕ) → field_at m (spelled n x ++ r) (n + i) ≡ field_at m r i
field-after m n x i r = sym (field_drop m (spelled n x ++ r) n i) ∙ ap (λ (l : List ℕ). field_at m l i) (after-spelled n x r)

-- spelled bytes are bytes, and so are two lists of them joined
pub spelled_are : (n x : ℕ) → AllBytes (spelled n x)
unfolding spelled
spelled_are zero x k = omega arith
spelled_are (suc n) x zero = omega arith
spelled_are (suc n) x (suc k) = spelled_are n x k

pub both_are : (xs ys : List ℕ) → AllBytes xs → AllBytes ys → AllBytes (xs ++ ys)
both_are [] ys a b k = b k
both_are (x ∷ xs) ys a b zero = a zero
both_are (x ∷ xs) ys a b (suc k) = both_are xs ys (λ j. a (suc j)) b k

-- a number's bytes, high part first
pub spelled-join : (n m a b : ℕ) → b < 256 ^ m → spelled (n + m) (a * 256 ^ m + b) ≡ spelled n a ++ spelled m (a * 256 ^ m + b)
unfolding spelled
spelled-join zero m a b h = let z : 0 + m ≡ m = omega arith in ap (λ (k : ℕ). spelled k (a * 256 ^ m + b)) z
spelled-join (suc n) m a b h =
    let s : suc n + m ≡ suc (n + m) = omega arith in
    let o : n + m ≡ m + n = omega arith in
    let p : 256 ^ (n + m) ≡ 256 ^ m * 256 ^ n = ap (λ (k : ℕ). 256 ^ k) o ∙ pow-add 256 m n in
    let e : (a * 256 ^ m + b) / 256 ^ (n + m) ≡ a / 256 ^ n =
    ap (λ (q : ℕ). (a * 256 ^ m + b) / q) p ∙ sym (div-div-eq-div-mul (a * 256 ^ m + b) (256 ^ m) (256 ^ n))
    ∙ ap (λ (y : ℕ). y / 256 ^ n) (digits_div a h) in
    ap (λ (k : ℕ). spelled k (a * 256 ^ m + b)) s ∙ ap₂ (λ (y : ℕ) (r : List ℕ). y % 256 ∷ r) e (spelled-join n m a b h)
