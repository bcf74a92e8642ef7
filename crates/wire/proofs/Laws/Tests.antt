-- In a table whose numbers rise, the first test that holds is the lowest.
use Prim.Native.Nat.{ℕ, zero, suc, ◌<◌, ◌≤◌}
use mathlib.Core.Path.{◌≡◌, refl, sym, ap, ◌∙◌}
use mathlib.Core.Logic.{◌↔◌}
use mathlib.Core.Bool.{Bool, true, false, cond, ◌&&◌, ◌||◌}
use mathlib.Core.List.{[], ◌∷◌, ◌++◌}
use native.Mathlib.Omega.{arith}
use lib.Dec.{eqb}
use borrow.Author.Tests.{eq-eqb, ne_eqb}
use Rattle.wire.specs.Tests.{Tests, first_met, holds, RisingFrom, Within}

-- two tests that are both met
pub both : (a b : Bool) → (a && b) ≡ true → (a ≡ true) × (b ≡ true)
both true b e = (refl, e)
both false b e = let z : ◌≡◌ {A = ℕ} 0 1 = cc in absurd (omega arith)

-- and two of which neither is
pub neither : (a b : Bool) → (a || b) ≡ false → (a ≡ false) × (b ≡ false)
neither true b e = let z : ◌≡◌ {A = ℕ} 0 1 = cc in absurd (omega arith)
neither false b e = (refl, e)

-- a test and one that fails
pub fails : (t : Bool) → (t && false) ≡ false
fails true = refl
fails false = refl

-- one test more in front, by whether it holds
module _ (t : ℕ × Bool) (ts : Tests) where
  first_hit : t.1 ≡ true → first_met (t ∷ ts) ≡ t.0
  unfolding first_met
  first_hit e = rw e

  first_miss : t.1 ≡ false → first_met (t ∷ ts) ≡ first_met ts
  unfolding first_met
  first_miss e = rw e

  holds_hit : t.1 ≡ true → holds t.0 (t ∷ ts) ≡ true
  unfolding holds
  holds_hit e = rw (eq-eqb t.0 t.0 refl, e)

  holds_miss : (m : ℕ) → t.1 ≡ false → holds m (t ∷ ts) ≡ holds m ts
  unfolding holds
  holds_miss m e = go (eqb t.0 m)
    where
      go : (b : Bool) → ((b && t.1) || holds m ts) ≡ holds m ts
      go true = rw e
      go false = refl

  holds-other : (m : ℕ) → m < t.0 → holds m (t ∷ ts) ≡ holds m ts
  unfolding holds
  holds-other m h = rw (ne_eqb t.0 m (λ e. omega arith))

-- no test up to k holds in a table that begins above it
pub holds-below : (k : ℕ) (ts : Tests) → RisingFrom k ts → (m : ℕ) → m ≤ k → holds m ts ≡ false
unfolding holds
holds-below k [] r m h = refl
holds-below k (t ∷ ts) r m h =
    let u = r.0 in
    holds-other t ts m (omega arith) ∙ holds-below t.0 ts r.1 m (omega arith)

-- the answer is the number of a test that holds; no lower one does
pub met_holds : (k : ℕ) (ts : Tests) → RisingFrom k ts → 0 < first_met ts → holds (first_met ts) ts ≡ true
unfolding first_met
met_holds k [] r p = absurd (omega arith)
met_holds k (t ∷ ts) r p = go (met_holds t.0 ts r.1) t.1 refl
  where
    go : (0 < first_met ts → holds (first_met ts) ts ≡ true) → (b : Bool) → t.1 ≡ b → holds (first_met (t ∷ ts)) (t ∷ ts) ≡ true
    go f true e = ap (λ (n : ℕ). holds n (t ∷ ts)) (first_hit t ts e) ∙ holds_hit t ts e
    go f false e =
        let q = first_miss t ts e in
        ap (λ (n : ℕ). holds n (t ∷ ts)) q ∙ holds_miss t ts (first_met ts) e ∙ f (omega arith)

pub met-lowest : (k : ℕ) (ts : Tests) → RisingFrom k ts → (m : ℕ) → m < first_met ts → holds m ts ≡ false
unfolding first_met
met-lowest k [] r m h = absurd (omega arith)
met-lowest k (t ∷ ts) r m h = go (met-lowest t.0 ts r.1 m) t.1 refl
  where
    go : (m < first_met ts → holds m ts ≡ false) → (b : Bool) → t.1 ≡ b → holds m (t ∷ ts) ≡ false
    go f true e =
        let q = first_hit t ts e in
        holds-other t ts m (omega arith) ∙ holds-below t.0 ts r.1 m (omega arith)
    go f false e = let q = first_miss t ts e in holds_miss t ts m e ∙ f (omega arith)

-- where the answer is 0, none holds
pub none-holds : (k : ℕ) (ts : Tests) → RisingFrom k ts → first_met ts ≡ 0 → (m : ℕ) → holds m ts ≡ false
unfolding holds
none-holds k [] r z m = refl
none-holds k (t ∷ ts) r z m = go (none-holds t.0 ts r.1) t.1 refl
  where
    go : (first_met ts ≡ 0 → (m : ℕ) → holds m ts ≡ false) → (b : Bool) → t.1 ≡ b → holds m (t ∷ ts) ≡ false
    go f true e = let q = first_hit t ts e in let u = r.0 in absurd (omega arith)
    go f false e = let q = first_miss t ts e in holds_miss t ts m e ∙ f (omega arith) m

-- an answer that is not 0 is one of the numbers
pub met-within : (a b : ℕ) (ts : Tests) → Within a b ts → (first_met ts ≡ 0 → ⊥) → (a ≤ first_met ts) × (first_met ts ≤ b)
unfolding first_met
met-within a b [] w z = absurd (z refl)
met-within a b (t ∷ ts) w z = go (met-within a b ts w.2) t.1 z
  where
    go : ((first_met ts ≡ 0 → ⊥) → (a ≤ first_met ts) × (first_met ts ≤ b)) → (u : Bool)
        → (cond u t.0 (first_met ts) ≡ 0 → ⊥) → (a ≤ cond u t.0 (first_met ts)) × (cond u t.0 (first_met ts) ≤ b)
    go f true z = (w.0, w.1)
    go f false z = f z

-- a table after another: its answer where the first has none
pub met_append : (k : ℕ) (ts us : Tests) → RisingFrom k ts → first_met (ts ++ us) ≡ cond (eqb (first_met ts) 0) (first_met us) (first_met ts)
unfolding first_met
met_append k [] us r = refl
met_append k (t ∷ ts) us r = go (met_append t.0 ts us r.1) t.1
  where
    go : first_met (ts ++ us) ≡ cond (eqb (first_met ts) 0) (first_met us) (first_met ts) → (b : Bool)
        → cond b t.0 (first_met (ts ++ us)) ≡ cond (eqb (cond b t.0 (first_met ts)) 0) (first_met us) (cond b t.0 (first_met ts))
    go e true = let h = r.0 in sym (rw (ne_eqb t.0 0 (λ z. omega arith)))
    go e false = e

-- no test is met and not met
pub clash : (b : Bool) → b ≡ true → b ≡ false → ⊥
clash b e f = let z : ◌≡◌ {A = ℕ} 0 1 = cc in omega arith

-- THE LOWEST: the answer is n exactly where test n holds and no lower one does, and 0 exactly where none holds.
module _ (ts : Tests) (r : RisingFrom 0 ts) where
  pub none_met : (first_met ts ≡ 0) ↔ ((m : ℕ) → holds m ts ≡ false)
  none_met = (none-holds 0 ts r, back)
    where
      back : ((m : ℕ) → holds m ts ≡ false) → first_met ts ≡ 0
      back f = go (first_met ts) refl
        where
          go : (n : ℕ) → first_met ts ≡ n → first_met ts ≡ 0
          go zero e = e
          go (suc n) e = absurd (clash (holds (first_met ts) ts) (met_holds 0 ts r (omega arith)) (f (first_met ts)))

  pub lowest_met : (n : ℕ) → 0 < n → (first_met ts ≡ n) ↔ ((holds n ts ≡ true) × ((m : ℕ) → m < n → holds m ts ≡ false))
  lowest_met n p = (there, back)
    where
      there : first_met ts ≡ n → (holds n ts ≡ true) × ((m : ℕ) → m < n → holds m ts ≡ false)
      there e = (ap (λ (k : ℕ). holds k ts) (sym e) ∙ met_holds 0 ts r (omega arith), λ m h. met-lowest 0 ts r m (omega arith))

      back : (holds n ts ≡ true) × ((m : ℕ) → m < n → holds m ts ≡ false) → first_met ts ≡ n
      back w = omega (arith, above, under)
        where
          above : first_met ts < n → ⊥
          above h = go (first_met ts) refl
            where
              go : (k : ℕ) → first_met ts ≡ k → ⊥
              go zero e = clash (holds n ts) w.0 (none-holds 0 ts r e n)
              go (suc k) e = clash (holds (first_met ts) ts) (met_holds 0 ts r (omega arith)) (w.1 (first_met ts) h)

          under : n < first_met ts → ⊥
          under h = clash (holds n ts) w.0 (met-lowest 0 ts r n h)
