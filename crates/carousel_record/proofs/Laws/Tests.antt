-- Two numbers, two tests that are met, and one table of tests after another.
use Prim.Native.Nat.{ℕ}
use mathlib.Core.Path.{◌≡◌, refl}
use mathlib.Core.Bool.{Bool, true, ◌&&◌}
use mathlib.Core.List.{[], ◌∷◌, ◌++◌}
use mathlib.Core.Logic.{◌⊎◌, inl, inr}
use native.Mathlib.Omega.{arith}
use native.Mathlib.Decide.{dec_lt}
use Rattle.wire.specs.Tests.{Tests, first_met, RisingFrom}
use Rattle.wire.proofs.Laws.Order.{None, First, Numbered}

-- two numbers are equal or not
pub alike : (m n : ℕ) → (m ≡ n) ⊎ (m ≡ n → ⊥)
alike m n = elim (dec_lt m n) [ yes p ↦ inr (λ e. omega arith) | no p ↦ elim (dec_lt n m) [ yes q ↦ inr (λ e. omega arith) | no q ↦ inl (omega arith) ] ]

-- two tests that are met, put together
pub joint : (t u : Bool) → t ≡ true → u ≡ true → (t && u) ≡ true
joint t u e f = rw (e, f)

-- a table whose numbers rise has no 0 in it
pub rising_numbered : (k : ℕ) (ts : Tests) → RisingFrom k ts → Numbered ts
rising_numbered k [] r = tt
rising_numbered k (t ∷ ts) r = let h = r.0 in (λ e. omega arith, rising_numbered t.0 ts r.1)

-- one table after another
module _ (us : Tests) where
  pub numbered-both : (ts : Tests) → Numbered ts → Numbered us → Numbered (ts ++ us)
  numbered-both [] h k = k
  numbered-both (t ∷ ts) h k = (h.0, numbered-both ts h.1 k)

  pub none_both : (ts : Tests) → None (ts ++ us) → None ts × None us
  none_both [] h = (tt, h)
  none_both (t ∷ ts) h = let q = none_both ts h.1 in ((h.0, q.0), q.1)

  pub met-before : (ts : Tests) (n : ℕ) → First n ts → first_met (ts ++ us) ≡ n
  unfolding first_met
  met-before [] n h = absurd h
  met-before (t ∷ ts) n (inl h) = rw h.0 h.1
  met-before (t ∷ ts) n (inr h) = rw h.0 (met-before ts n h.1)

  pub met-after : (ts : Tests) → None ts → first_met (ts ++ us) ≡ first_met us
  unfolding first_met
  met-after [] h = refl
  met-after (t ∷ ts) h = rw h.0 (met-after ts h.1)
