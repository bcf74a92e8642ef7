-- Bytes, their parts, and fields read back and spelled again.
use Prim.Native.Nat.{ℕ, zero, suc, ◌^◌, ◌<◌}
use mathlib.Core.Path.{◌≡◌, sym, ap, ◌∙◌}
use mathlib.Core.List.{List, [], ◌∷◌, ◌++◌}
use native.Mathlib.Nat.{mod-eq_of_lt}
use native.Mathlib.Omega.{arith}
use lib.ListN.{length, take, drop}
use Rattle.wire.specs.Fields.{byte_at, field_at, spelled}
use Rattle.wire.specs.Items.{joined}
use Rattle.wire.proofs.Laws.Fields.{spelled-reads}
use Rattle.wire.proofs.Laws.Meaning.{append-nil}
use Rattle.wire.proofs.Laws.Spelled.{reads-spelled as Spelled·reads-spelled}
use Rattle.ait_grammar.specs.Bytes.{Bytes, Each}

pub bytes_take : (n : ℕ) (xs : List ℕ) → Bytes xs → Bytes (take n xs)
bytes_take zero xs b = tt
bytes_take (suc n) [] b = tt
bytes_take (suc n) (x ∷ xs) b = (b.0, bytes_take n xs b.1)

pub bytes_drop : (n : ℕ) (xs : List ℕ) → Bytes xs → Bytes (drop n xs)
bytes_drop zero xs b = b
bytes_drop (suc n) [] b = tt
bytes_drop (suc n) (x ∷ xs) b = bytes_drop n xs b.1

bytes-both : (xs ys : List ℕ) → Bytes (xs ++ ys) → Bytes xs × Bytes ys
bytes-both [] ys b = (tt, b)
bytes-both (x ∷ xs) ys b = let r = bytes-both xs ys b.1 in ((b.0, r.0), r.1)

pub both_bytes : (xs ys : List ℕ) → Bytes xs → Bytes ys → Bytes (xs ++ ys)
both_bytes [] ys b c = c
both_bytes (x ∷ xs) ys b c = (b.0, both_bytes xs ys b.1 c)

pub spelled-bytes : (n x : ℕ) → Bytes (spelled n x)
unfolding spelled
spelled-bytes zero x = tt
spelled-bytes (suc n) x = (omega arith, spelled-bytes n x)

pub bytes-items : (is : List (List ℕ)) → Bytes (joined is) → Each Bytes is
unfolding joined
bytes-items [] b = tt
bytes-items (x ∷ is) b = let r = bytes-both x (joined is) b in (r.0, bytes-items is r.1)

pub bytes-at : (xs : List ℕ) → Bytes xs → (k : ℕ) → byte_at xs k < 256
bytes-at [] b k = omega arith
bytes-at (x ∷ xs) b zero = b.0
bytes-at (x ∷ xs) b (suc k) = bytes-at xs b.1 k

-- as a slice of bytes tells it
pub bytes_of_lem : (xs : List ℕ) → ((k : ℕ) → k < length xs → byte_at xs k < 256) → Bytes xs
bytes_of_lem [] h = tt
bytes_of_lem (x ∷ xs) h = (h zero (omega arith), bytes_of_lem xs (λ k l. h (suc k) (omega arith)))

-- WHAT WAS READ IS SPELLED AGAIN
pub reads-spelled : (n : ℕ) (xs : List ℕ) → Bytes xs → length xs ≡ n → spelled n (field_at n xs 0) ≡ xs
reads-spelled n xs b e = Spelled·reads-spelled n xs (bytes-at xs b) e

-- WHAT WAS SPELLED IS READ BACK
pub spelled-read : (n x : ℕ) → x < 256 ^ n → field_at n (spelled n x) 0 ≡ x
spelled-read n x l = ap (λ (s : List ℕ). field_at n s 0) (sym (append-nil (spelled n x))) ∙ spelled-reads n x [] ∙ mod-eq_of_lt l
