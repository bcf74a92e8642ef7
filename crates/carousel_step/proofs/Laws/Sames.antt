-- The record's modules and the announced ones, two at a time, as the loop that compares them takes them.
use Prim.Native.Nat.{ℕ, suc, ◌+◌, ◌≤◌, ◌<◌}
use mathlib.Core.Path.{◌≡◌, refl, ap}
use mathlib.Core.Bool.{Bool, true, false, ◌&&◌}
use mathlib.Core.List.{List, [], ◌∷◌, map}
use lib.Dec.{eqb}
use lib.ListN.{length, get_or, take, drop, drop_of_length-le}
use Rattle.wire.proofs.Laws.Tests.{fails}
use Rattle.carousel_messages.specs.declared.Listed.{Listed}
use Rattle.carousel_record.specs.declared.Module.{Module}
use Rattle.carousel_record.specs.Record.{listed_in, unused}
use Rattle.carousel_record.proofs.Laws.Entries.{next, none_left}
use Rattle.carousel_step.specs.Step.{same_modules}

-- lists of two lengths are not the same
pub modules_lengths : (xs ys : List Listed) → (length xs ≡ length ys → ⊥) → same_modules xs ys ≡ false
unfolding same_modules
modules_lengths [] [] h = absurd (h refl)
modules_lengths [] (y ∷ ys) h = refl
modules_lengths (x ∷ xs) [] h = refl
modules_lengths (x ∷ xs) (y ∷ ys) h = rw (modules_lengths xs ys (λ e. h (ap suc e))) (fails (eqb x.number y.number && eqb x.size y.size && eqb x.version y.version))

module _ (ms : List Module) (n : ℕ) (h : n ≤ length ms) (i : ℕ) where
  abbrev listed : List Listed
  listed = map listed_in (take n ms)

  -- a module that is as announced before, or is not
  module _ (l : i < n) (m : Listed) (ns : List Listed) (e : drop i ns ≡ m ∷ drop (i + 1) ns) where
    abbrev alike : Module → Listed → Bool
    alike x y = (eqb x.number y.number && eqb x.size y.size && eqb x.version y.version)

    pub same-off : alike (get_or ms i unused) m ≡ false → same_modules (drop i listed) (drop i ns) ≡ false
    unfolding same_modules
    same-off f = rw (next ms n h listed_in i l, e, f)

    pub same_next : alike (get_or ms i unused) m ≡ true → same_modules (drop (i + 1) listed) (drop (i + 1) ns) ≡ same_modules (drop i listed) (drop i ns)
    unfolding same_modules
    same_next f = rw (next ms n h listed_in i l, e, f)

  -- none left
  pub same-done : n ≤ i → (ns : List Listed) → length ns ≤ i → same_modules (drop i listed) (drop i ns) ≡ true
  unfolding same_modules
  same-done l ns f = rw (none_left ms n h listed_in i l, drop_of_length-le ns f)
