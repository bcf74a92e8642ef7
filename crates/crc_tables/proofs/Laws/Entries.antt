-- The tables, entry by entry.
use mathlib.Core.Path.{◌≡◌, refl, sym, ap, ap₂, ◌∙◌}
use mathlib.Core.Logic.{⊎_elim}
use mathlib.Core.List.{[]}
use Prim.Native.Nat.{ℕ, zero, suc, ◌+◌, ◌*◌, ◌/◌, ◌%◌, ◌<◌, ◌≤◌}
use native.Mathlib.Omega.{arith}
use native.Mathlib.Numerals.{add-one}
use native.Mathlib.Nat.{eq-or-lt_of_le}
use lib.ListN.{length, get_or, length-append, get_or-append}
use lib.Seq.{get_or_at}
use Rattle.crc_tables.specs.Tables.{left, first_entries, crc_tables}

pub length-entries : (n : ℕ) → length (first_entries n) ≡ n
unfolding first_entries
length-entries zero = refl
length-entries (suc n) = length-append (first_entries n) _ ∙ ap (λ (x : ℕ). x + 1) (length-entries n) ∙ add-one n

pub length_tables : length crc_tables ≡ 4096
unfolding crc_tables
length_tables = length-entries 4096

pub entry-is : (n i : ℕ) → i < n → get_or (first_entries n) i 0 ≡ left (i / 256) (i % 256)
unfolding first_entries
entry-is zero i h = absurd (omega arith)
entry-is (suc n) i h =
    let e = length-entries n in
    let le : i ≤ n = omega arith in
    ⊎_elim
    (λ (q : i ≡ n). get_or_at (first_entries n) _ [] 0 i (e ∙ sym q) ∙ ap (λ (x : ℕ). left (x / 256) (x % 256)) (sym q))
    (λ (k : i < n). get_or-append (first_entries n) _ 0 i (omega arith) ∙ entry-is n i k) (eq-or-lt_of_le le)

-- entry b of table k
pub table_is : (k b : ℕ) → k < 16 → b < 256 → get_or crc_tables (k * 256 + b) 0 ≡ left k b
unfolding crc_tables
table_is k b hk hb =
    let e : (k * 256 + b) / 256 ≡ k = omega arith in
    let f : (k * 256 + b) % 256 ≡ b = omega arith in
    entry-is 4096 (k * 256 + b) (omega arith) ∙ ap₂ left e f
