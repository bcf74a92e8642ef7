-- In a table whose numbers need not rise, the answer is the number of the first test that holds.
use Prim.Native.Nat.{ℕ, ◌<◌, ◌≤◌}
use mathlib.Core.Path.{◌≡◌, refl, ap}
use mathlib.Core.Logic.{◌↔◌, ◌⊎◌, inl, inr}
use mathlib.Core.Bool.{Bool, true, false, cond}
use mathlib.Core.List.{[], ◌∷◌, ◌++◌}
use native.Mathlib.Omega.{arith}
use Rattle.wire.specs.Tests.{Tests, first_met, RisingFrom}
use Rattle.wire.proofs.Laws.Tests.{clash}

-- no test holds
abbrev pub None : Tests → Type 0
None [] = Unit {0}
None (t ∷ ts) = (t.1 ≡ false) × None ts

-- the first test that holds has the number n
abbrev pub First : ℕ → Tests → Type 0
First n [] = ⊥
First n (t ∷ ts) = ((t.1 ≡ true) × (t.0 ≡ n)) ⊎ ((t.1 ≡ false) × First n ts)

-- no number is 0, which is the answer where no test holds
abbrev pub Numbered : Tests → Type 0
Numbered [] = Unit {0}
Numbered (t ∷ ts) = (t.0 ≡ 0 → ⊥) × Numbered ts

-- 0 EXACTLY WHERE NO TEST HOLDS
pub none-exactly : (ts : Tests) → Numbered ts → (first_met ts ≡ 0) ↔ None ts
unfolding first_met
none-exactly ts u = (there ts u, back ts)
  where
    there : (ts : Tests) → Numbered ts → first_met ts ≡ 0 → None ts
    there [] u e = tt
    there (t ∷ ts) u e = go (there ts u.1) t.1 e
      where
        go : (first_met ts ≡ 0 → None ts) → (b : Bool) → cond b t.0 (first_met ts) ≡ 0 → (b ≡ false) × None ts
        go f true e = absurd (u.0 e)
        go f false e = (refl, f e)

    back : (ts : Tests) → None ts → first_met ts ≡ 0
    back [] h = refl
    back (t ∷ ts) h = rw h.0 (back ts h.1)

-- n EXACTLY WHERE THE FIRST TEST THAT HOLDS HAS THE NUMBER n
pub first-exactly : (ts : Tests) (n : ℕ) → 0 < n → (first_met ts ≡ n) ↔ First n ts
unfolding first_met
first-exactly ts n p = (there ts, back ts)
  where
    there : (ts : Tests) → first_met ts ≡ n → First n ts
    there [] e = absurd (omega arith)
    there (t ∷ ts) e = go (there ts) t.1 e
      where
        go : (first_met ts ≡ n → First n ts) → (b : Bool) → cond b t.0 (first_met ts) ≡ n → ((b ≡ true) × (t.0 ≡ n)) ⊎ ((b ≡ false) × First n ts)
        go f true e = inl (refl, e)
        go f false e = inr (refl, f e)

    back : (ts : Tests) → First n ts → first_met ts ≡ n
    back [] h = absurd h
    back (t ∷ ts) (inl h) = rw h.0 h.1
    back (t ∷ ts) (inr h) = rw h.0 (back ts h.1)

-- which is to say: one of that number holds, and none before it does
pub first_means : (ts : Tests) (n : ℕ) → First n ts ↔ ((us : Tests) × (vs : Tests) × (us ++ (n, true) ∷ vs ≡ ts) × None us)
first_means ts n = (there ts, λ q. back q.0 q.1 ts q.2 q.3)
  where
    there : (ts : Tests) → First n ts → (us : Tests) × (vs : Tests) × (us ++ (n, true) ∷ vs ≡ ts) × None us
    there [] h = absurd h
    there (t ∷ ts) (inl h) = ([], ts, rw (← h.0, ← h.1), tt)
    there (t ∷ ts) (inr h) =
        let q = there ts h.1 in
        (t ∷ q.0, q.1, ap (λ (l : Tests). t ∷ l) q.2, (h.0, q.3))

    back : (us vs ts : Tests) → us ++ (n, true) ∷ vs ≡ ts → None us → First n ts
    back us vs ts e h = rw (← e) (go us h)
      where
        go : (us : Tests) → None us → First n (us ++ (n, true) ∷ vs)
        go [] h = inl (refl, refl)
        go (u ∷ us) h = inr (h.0, go us h.1)

-- IN A TABLE WHOSE NUMBERS RISE, n exactly where n's own test holds and none before it does
above : (k : ℕ) (ts : Tests) → RisingFrom k ts → (n : ℕ) → 0 < n → n ≤ k → first_met ts ≡ n → ⊥
unfolding first_met
above k [] r n p l e = omega arith
above k (t ∷ ts) r n p l e = go t.1 e (λ f. above t.0 ts r.1 n p (omega (arith, r.0, l)) f)
  where
    go : (b : Bool) → cond b t.0 (first_met ts) ≡ n → (first_met ts ≡ n → ⊥) → ⊥
    go true e f = omega (arith, r.0, l, e)
    go false e f = f e

before : (k : ℕ) (us : Tests) (n : ℕ) (b : Bool) (vs : Tests) → RisingFrom k (us ++ (n, b) ∷ vs) → k < n
before k [] n b vs r = r.0
before k (u ∷ us) n b vs r = let h = before u.0 us n b vs r.1 in omega (arith, r.0, h)

nth-from : (n : ℕ) (b : Bool) (vs : Tests) (k : ℕ) (us : Tests) → RisingFrom k (us ++ (n, b) ∷ vs) → (first_met (us ++ (n, b) ∷ vs) ≡ n) ↔ (None us × (b ≡ true))
unfolding first_met
nth-from n b vs k [] r = go b
  where
    go : (b : Bool) → (cond b n (first_met vs) ≡ n) ↔ (Unit {0} × (b ≡ true))
    go true = (λ e. (tt, refl), λ h. refl)
    go false = (λ e. absurd (above n vs r.1 n (omega (arith, r.0)) (omega arith) e), λ h. absurd (clash false h.1 refl))
nth-from n b vs k (u ∷ us) r = go u.1 (nth-from n b vs u.0 us r.1)
  where
    go : (c : Bool) → (first_met (us ++ (n, b) ∷ vs) ≡ n) ↔ (None us × (b ≡ true)) → (cond c u.0 (first_met (us ++ (n, b) ∷ vs)) ≡ n) ↔ (((c ≡ false) × None us) × (b ≡ true))
    go true h = (λ e. let l = before u.0 us n b vs r.1 in absurd (omega (arith, l, e)), λ w. absurd (clash true refl w.0.0))
    go false h = (λ e. let w = h.0 e in ((refl, w.0), w.1), λ w. h.1 (w.0.1, w.1))

pub nth-exactly : (us : Tests) (n : ℕ) (b : Bool) (vs : Tests) → RisingFrom 0 (us ++ (n, b) ∷ vs) → (first_met (us ++ (n, b) ∷ vs) ≡ n) ↔ (None us × (b ≡ true))
nth-exactly us n b vs r = nth-from n b vs 0 us r

-- what a test that is not met says, and so what one that is met says
pub unmet : (b : Bool) {A : Type 0} → (b ≡ false) ↔ A → (b ≡ true) ↔ (A → ⊥)
unmet true e = (λ x h. clash true refl (e.1 h), λ x. refl)
unmet false e = (λ x. absurd (clash false x refl), λ x. absurd (x (e.0 refl)))
