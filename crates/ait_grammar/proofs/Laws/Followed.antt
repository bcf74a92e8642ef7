-- ONE AFTER ANOTHER. `cut` tells from the bytes where the first ends; the second may depend on what the first says.
use Prim.Native.Nat.{ℕ, ◌+◌, ◌≤◌}
use mathlib.Core.Path.{◌≡◌, sym, ap, ap₂, ◌∙◌}
use mathlib.Core.List.{List, ◌++◌}
use native.Mathlib.Omega.{arith}
use lib.ListN.{length, take, drop, length-append, take-append-drop}
use lib.Seq.{take_at, drop_at, length-take-le}
use Rattle.ait_grammar.specs.Bytes.{Bytes}
use Rattle.ait_grammar.proofs.Laws.Bytes.{bytes_take, bytes_drop, both_bytes}
use Rattle.ait_grammar.proofs.Laws.Forms.{Form, when}

module _ {A B : Type 0} {G₁ : List ℕ → Type 0} {s₁ : A → List ℕ} {F₁ : A → Type 0} (E₁ : Form G₁ s₁ F₁)
    {G₂ : A → List ℕ → Type 0} {s₂ : B → List ℕ} {F₂ : A → B → Type 0} (E₂ : (a : A) → Form (G₂ a) s₂ (F₂ a))
    (cut : List ℕ → ℕ) (cuts : (a : A) → F₁ a → (r : List ℕ) → cut (s₁ a ++ r) ≡ length (s₁ a)) where
  abbrev first : List ℕ → A
  first x = E₁.read (take (cut x) x)

  abbrev Good₊ : List ℕ → Type 0
  Good₊ x = (cut x ≤ length x) × G₁ (take (cut x) x) × G₂ (first x) (drop (cut x) x)

  abbrev both₊ : A × B → List ℕ
  both₊ p = s₁ p.0 ++ s₂ p.1

  abbrev Fits₊ : A × B → Type 0
  Fits₊ p = F₁ p.0 × F₂ p.0 p.1

  module _ (p : A × B) (f : Fits₊ p) where
    front : take (cut (both₊ p)) (both₊ p) ≡ s₁ p.0
    front = take_at (s₁ p.0) (s₂ p.1) _ (sym (cuts p.0 f.0 (s₂ p.1)))

    rest : drop (cut (both₊ p)) (both₊ p) ≡ s₂ p.1
    rest = drop_at (s₁ p.0) (s₂ p.1) _ (sym (cuts p.0 f.0 (s₂ p.1)))

    first-is : first (both₊ p) ≡ p.0
    first-is = ap E₁.read front ∙ E₁.again p.0 f.0

    inside : cut (both₊ p) ≤ length (both₊ p)
    inside = rw (cuts p.0 f.0 (s₂ p.1), length-append) (omega arith)

    pub good₊ : Good₊ (both₊ p)
    good₊ = (inside, rw front (E₁.good p.0 f.0), rw (first-is, rest) ((E₂ p.0).good p.1 f.1))

    pub again₊ : ◌≡◌ {A = A × B} (first (both₊ p), (E₂ (first (both₊ p))).read (drop (cut (both₊ p)) (both₊ p))) p
    again₊ = rw (first-is, rest, (E₂ p.0).again p.1 f.1)

  unfoldable pub followed : Form Good₊ both₊ Fits₊
  followed = record {
    bytes = λ p f. both_bytes (s₁ p.0) (s₂ p.1) (E₁.bytes p.0 f.0) ((E₂ p.0).bytes p.1 f.1);
    good = good₊;
    read = λ x. (first x, (E₂ (first x)).read (drop (cut x) x));
    fits = λ x b g. (E₁.fits (take (cut x) x) (bytes_take (cut x) x b) g.1, (E₂ (first x)).fits (drop (cut x) x) (bytes_drop (cut x) x b) g.2);
    back = λ x b g. ap₂ (λ (l m : List ℕ). l ++ m) (E₁.back (take (cut x) x) (bytes_take (cut x) x b) g.1) ((E₂ (first x)).back (drop (cut x) x) (bytes_drop (cut x) x b) g.2)
        ∙ take-append-drop (cut x) x;
    again = again₊;
  }

-- two of fixed length
module _ {A B : Type 0} {n m : ℕ} {s₁ : A → List ℕ} {F₁ : A → Type 0} (E₁ : Form (λ x. length x ≡ n) s₁ F₁)
    {s₂ : B → List ℕ} {F₂ : B → Type 0} (E₂ : Form (λ x. length x ≡ m) s₂ F₂) where
  unfoldable pub beside : Form (λ x. length x ≡ n + m) (λ (p : A × B). s₁ p.0 ++ s₂ p.1) (λ p. F₁ p.0 × F₂ p.1)
  beside = when (followed E₁ {F₂ = λ a. F₂} (λ a. E₂) (λ x. n) (λ a f r. sym (E₁.good a f))) (λ x. length x ≡ n + m) there back
    where
      there : (x : List ℕ) → (n ≤ length x) × (length (take n x) ≡ n) × (length (drop n x) ≡ m) → length x ≡ n + m
      there x g = let e = ap length (take-append-drop n x) in let f = length-append (take n x) (drop n x) in omega (arith, e, f, g)

      back : (x : List ℕ) → Bytes x → length x ≡ n + m → (n ≤ length x) × (length (take n x) ≡ n) × (length (drop n x) ≡ m)
      back x b g =
          let e = ap length (take-append-drop n x) in
          let f = length-append (take n x) (drop n x) in
          let t = length-take-le n x (omega arith) in
          (omega arith, t, omega (arith, e, f, g, t))
