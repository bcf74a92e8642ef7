-- Why nothing is taken at a place of a stretch, from the facts that code learns on its ways.
use Prim.Native.Nat.{ℕ}
use mathlib.Core.Path.{◌≡◌, refl}
use mathlib.Core.Bool.{Bool, true, false, cond}
use mathlib.Core.List.{List}
use native.Mathlib.Omega.{arith}
use lib.ListN.{length}
use borrow.Author.Tests.{eq-eqb, ne_eqb}
use Rattle.wire.specs.Fields.{byte_at}
use Rattle.section.specs.Whole.{is_short, whole_at}
use Rattle.section.proofs.Laws.Whole.{whole_by}
use Rattle.receiver.specs.declared.Stop.TheVariants as stop
use Rattle.receiver.specs.Run.{stop_at}

module _ (s : List ℕ) where
  pub stop_end : length s ≡ 0 → stop_at s ≡ stop.End
  unfolding stop_at
  stop_end e = rw (eq-eqb (length s) 0 e)

  module _ (n : length s ≡ 0 → ⊥) where
    pub stop_stuffing : byte_at s 0 ≡ 0xFF → stop_at s ≡ stop.Stuffing
    unfolding stop_at
    stop_stuffing e = rw (ne_eqb (length s) 0 n, eq-eqb (byte_at s 0) 0xFF e)

    module _ (m : byte_at s 0 ≡ 0xFF → ⊥) where
      pub stop-short : whole_at s ≡ 0 → stop_at s ≡ stop.Short
      unfolding stop_at
      stop-short z = rw (ne_eqb (length s) 0 n, ne_eqb (byte_at s 0) 0xFF m) (go (is_short s) refl)
        where
          go : (t : Bool) → is_short s ≡ t → cond t stop.Short stop.Budget ≡ stop.Short
          go true e = refl
          go false e = let w = whole_by s m false e in absurd (omega arith)

      pub stop-budget : (whole_at s ≡ 0 → ⊥) → stop_at s ≡ stop.Budget
      unfolding stop_at
      stop-budget z = rw (ne_eqb (length s) 0 n, ne_eqb (byte_at s 0) 0xFF m) (go (is_short s) refl)
        where
          go : (t : Bool) → is_short s ≡ t → cond t stop.Short stop.Budget ≡ stop.Budget
          go true e = absurd (z (whole_by s m true e))
          go false e = refl
