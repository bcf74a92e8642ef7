-- THE REFUSALS AS TABLES: reader and writer answer the number of the first test that holds, in the order of `list_tests` and `write_tests`.
use Prim.Native.Nat.{ℕ, suc, ◌<◌, ◌≤◌}
use mathlib.Core.Path.{◌≡◌, refl, sym, ◌∙◌}
use mathlib.Core.Logic.{◌↔◌}
use mathlib.Core.Bool.{Bool, true, false, not, cond, ◌||◌}
use mathlib.Core.List.{List, [], ◌∷◌}
use native.Mathlib.Omega.{arith}
use lib.Dec.{eqb}
use borrow.Author.Tests.{eqb-true, eqb-false, ne_eqb}
use Rattle.wire.specs.Tests.{Tests, first_met, holds}
use Rattle.wire.proofs.Laws.Tests.{lowest_met}
use Rattle.drift_list.specs.Reading.{meets30, fault_of, read_refusal, list_tests}
use Rattle.drift_list.specs.Writing.{Draft, width_of, given_fault, meets36, meets37, head_wide, or_else, write_refusal, write_tests}
use Rattle.drift_list.proofs.Exact.{fault-within}
use Rattle.drift_list.proofs.Writer.{width-36}
use Rattle.drift_list.proofs.Writes.{given_fault-within, fault_not-34}

-- tests whether a number is one of some, and then others
abbrev chosen : List ℕ → (m : ℕ) → Tests → Tests
chosen [] m ts = ts
chosen (n ∷ ns) m ts = (n, eqb m n) ∷ chosen ns m ts

abbrev NoneOf : List ℕ → (m : ℕ) → Type 0
NoneOf [] m = Unit {0}
NoneOf (n ∷ ns) m = (m ≡ n → ⊥) × NoneOf ns m

met-among : (n m : ℕ) (ts : Tests) → ((m ≡ n → ⊥) → first_met ts ≡ m) → first_met ((n, eqb m n) ∷ ts) ≡ m
unfolding first_met
met-among n m ts f = go (eqb m n) refl
  where
    go : (t : Bool) → eqb m n ≡ t → cond t n (first_met ts) ≡ m
    go true t = sym (eqb-true m n t)
    go false t = f (eqb-false m n t)

met-past : (n m : ℕ) (ts : Tests) → (m ≡ n → ⊥) → first_met ((n, eqb m n) ∷ ts) ≡ first_met ts
unfolding first_met
met-past n m ts e = rw (ne_eqb m n e)

-- a number that is one of them is told, or else what comes after
chosen_met : (ns : List ℕ) (m : ℕ) (ts : Tests) → (NoneOf ns m → first_met ts ≡ m) → first_met (chosen ns m ts) ≡ m
chosen_met [] m ts f = f tt
chosen_met (n ∷ ns) m ts f = met-among n m (chosen ns m ts) (λ a. chosen_met ns m ts (λ c. f (a, c)))

chosen-past : (ns : List ℕ) (m : ℕ) (ts : Tests) → NoneOf ns m → first_met (chosen ns m ts) ≡ first_met ts
chosen-past [] m ts c = refl
chosen-past (n ∷ ns) m ts c = met-past n m (chosen ns m ts) c.0 ∙ chosen-past ns m ts c.1

met-none : first_met [] ≡ 0
unfolding first_met
met-none = refl

met-first : (n : ℕ) (t : Bool) (ts : Tests) (m : ℕ) → m ≡ first_met ts → cond t n m ≡ first_met ((n, t) ∷ ts)
unfolding first_met
met-first n true ts m e = refl
met-first n false ts m e = e

zero-unless : (m : ℕ) → ((m ≡ 0 → ⊥) → ⊥) → m ≡ 0
zero-unless m f = go (eqb m 0) refl
  where
    go : (t : Bool) → eqb m 0 ≡ t → m ≡ 0
    go true t = eqb-true m 0 t
    go false t = absurd (f (eqb-false m 0 t))

above : (n m : ℕ) → n ≤ m → (m ≡ n → ⊥) → suc n ≤ m
above n m l e = omega (arith, l, e)

-- THE READER
pub list-table : (s : List ℕ) → read_refusal s ≡ first_met (list_tests s)
unfolding read_refusal list_tests
list-table s =
    met-first 30 (meets30 s) _ (fault_of s)
    (sym (chosen_met (31 ∷ 32 ∷ 33 ∷ 34 ∷ 35 ∷ []) (fault_of s) [] (λ c. met-none ∙ sym (zero-unless (fault_of s) (none (fault_of s) (fault-within s) c)))))
  where
    none : (m : ℕ) → ((m ≡ 0 → ⊥) → (31 ≤ m) × (m ≤ 35)) → NoneOf (31 ∷ 32 ∷ 33 ∷ 34 ∷ 35 ∷ []) m → (m ≡ 0 → ⊥) → ⊥
    none m w c z =
        let r = above 35 m (above 34 m (above 33 m (above 32 m (above 31 m (w z).0 c.0) c.1.0) c.1.1.0) c.1.1.1.0) c.1.1.1.1.0 in
        let q = (w z).1 in
        omega (arith, r, q)

-- each number exactly where its test holds and no lower one does
by-table : (s : List ℕ) (n : ℕ) → 0 < n → (first_met (list_tests s) ≡ n) ↔ ((holds n (list_tests s) ≡ true) × ((m : ℕ) → m < n → holds m (list_tests s) ≡ false))
unfolding list_tests
by-table s n p = lowest_met (list_tests s) (omega arith, (omega arith, (omega arith, (omega arith, (omega arith, (omega arith, tt)))))) n p

pub list-exactly : (s : List ℕ) (n : ℕ) → 0 < n → (read_refusal s ≡ n) ↔ ((holds n (list_tests s) ≡ true) × ((m : ℕ) → m < n → holds m (list_tests s) ≡ false))
list-exactly s n p = (λ x. (by-table s n p).0 (sym (list-table s) ∙ x), λ y. list-table s ∙ (by-table s n p).1 y)

-- THE WRITER: a fault, or else the room
abbrev faults : List ℕ
faults = 31 ∷ 32 ∷ 33 ∷ 35 ∷ []

then-room : (m : ℕ) (r : Bool) → ((m ≡ 0 → ⊥) → (31 ≤ m) × (m ≤ 35)) → (m ≡ 34 → ⊥) → or_else m (cond r 37 0) ≡ first_met (chosen faults m ((37, r) ∷ []))
unfolding or_else
then-room m r w n = go (eqb m 0) refl
  where
    none : (m ≡ 0 → ⊥) → NoneOf faults m → ⊥
    none y c =
        let r = above 35 m (above 34 m (above 33 m (above 32 m (above 31 m (w y).0 c.0) c.1.0) c.1.1.0) n) c.1.1.1.0 in
        let q = (w y).1 in
        omega (arith, r, q)

    past : m ≡ 0 → NoneOf faults m
    past e = (λ a. omega (arith, e, a), (λ a. omega (arith, e, a), (λ a. omega (arith, e, a), (λ a. omega (arith, e, a), tt))))

    go : (z : Bool) → eqb m 0 ≡ z → cond z (cond r 37 0) m ≡ first_met (chosen faults m ((37, r) ∷ []))
    go true z = met-first 37 r [] 0 (sym met-none) ∙ sym (chosen-past faults m ((37, r) ∷ []) (past (eqb-true m 0 z)))
    go false z = sym (chosen_met faults m ((37, r) ∷ []) (λ c. absurd (none (eqb-false m 0 z) c)))

-- 36 before that
then-rest : (h : Bool) (w n : ℕ) (ts : Tests) → ((w ≡ 0 → ⊥) → w ≡ 36) → n ≡ first_met ts → or_else (cond h 36 0) (or_else w n) ≡ first_met ((36, h || not (eqb w 0)) ∷ ts)
unfolding or_else first_met
then-rest true w n ts f e = refl
then-rest false w n ts f e = go (eqb w 0) refl
  where
    go : (z : Bool) → eqb w 0 ≡ z → cond z n w ≡ cond (not z) 36 (first_met ts)
    go true z = e
    go false z = f (eqb-false w 0 z)

pub write-table : (d : Draft) (room : ℕ) → write_refusal d room ≡ first_met (write_tests d room)
unfolding write_refusal write_tests meets36
write-table d room =
    then-rest (head_wide d) (width_of d) _ _ (width-36 d room) (then-room (given_fault d) (meets37 d room) (given_fault-within d) (fault_not-34 d))
