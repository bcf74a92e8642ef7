-- A HEADER THAT COUNTS WHAT FOLLOWS. The header is k bytes and says a value h and a number; the number is a measure of what follows, which may depend on h.
use Prim.Native.Nat.{ℕ, ◌≤◌}
use mathlib.Core.Path.{◌≡◌, sym, ap, ap₂, ◌∙◌}
use mathlib.Core.List.{List, ◌++◌}
use native.Mathlib.Omega.{arith}
use lib.ListN.{length, take, drop, length-append, take-append-drop}
use lib.Seq.{take_at, drop_at, length-take-le}
use Rattle.ait_grammar.specs.Bytes.{Bytes}
use Rattle.ait_grammar.proofs.Laws.Bytes.{bytes_take, bytes_drop, both_bytes}
use Rattle.ait_grammar.proofs.Laws.Forms.{Form}

module _ {H A : Type 0} {k : ℕ} {sh : H × ℕ → List ℕ} {Fh : H × ℕ → Type 0} (Eh : Form (λ x. length x ≡ k) sh Fh)
    {G : H → List ℕ → Type 0} {s : A → List ℕ} {F : H → A → Type 0} (E : (h : H) → Form (G h) s (F h))
    (measure : A → ℕ) (measured : List ℕ → ℕ) (same : (h : H) (a : A) → F h a → measured (s a) ≡ measure a) where
  abbrev head : List ℕ → H × ℕ
  head x = Eh.read (take k x)

  abbrev Good₊ : List ℕ → Type 0
  Good₊ x = (k ≤ length x) × ((head x).1 ≡ measured (drop k x)) × G (head x).0 (drop k x)

  abbrev spell₊ : H × A → List ℕ
  spell₊ p = sh (p.0, measure p.1) ++ s p.1

  abbrev Fits₊ : H × A → Type 0
  Fits₊ p = Fh (p.0, measure p.1) × F p.0 p.1

  module _ (p : H × A) (f : Fits₊ p) where
    front : take k (spell₊ p) ≡ sh (p.0, measure p.1)
    front = take_at (sh (p.0, measure p.1)) (s p.1) k (Eh.good (p.0, measure p.1) f.0)

    rest : drop k (spell₊ p) ≡ s p.1
    rest = drop_at (sh (p.0, measure p.1)) (s p.1) k (Eh.good (p.0, measure p.1) f.0)

    head-is : head (spell₊ p) ≡ (p.0, measure p.1)
    head-is = ap Eh.read front ∙ Eh.again (p.0, measure p.1) f.0

    inside : k ≤ length (spell₊ p)
    inside = let e = Eh.good (p.0, measure p.1) f.0 in rw length-append (omega arith)

    pub good₊ : Good₊ (spell₊ p)
    good₊ = (inside, rw (head-is, rest) (sym (same p.0 p.1 f.1)), rw (head-is, rest) ((E p.0).good p.1 f.1))

    pub again₊ : ◌≡◌ {A = H × A} ((head (spell₊ p)).0, (E (head (spell₊ p)).0).read (drop k (spell₊ p))) p
    again₊ = rw (head-is, rest, (E p.0).again p.1 f.1)

  module _ (x : List ℕ) (b : Bytes x) (g : Good₊ x) where
    abbrev value : A
    value = (E (head x).0).read (drop k x)

    fits-rest : F (head x).0 value
    fits-rest = (E (head x).0).fits (drop k x) (bytes_drop k x b) g.2

    back-rest : s value ≡ drop k x
    back-rest = (E (head x).0).back (drop k x) (bytes_drop k x b) g.2

    counts : measure value ≡ (head x).1
    counts = sym (same (head x).0 value fits-rest) ∙ ap measured back-rest ∙ sym g.1

    pub fits₊ : Fits₊ ((head x).0, value)
    fits₊ = (rw counts (Eh.fits (take k x) (bytes_take k x b) (length-take-le k x g.0)), fits-rest)

    pub back₊ : spell₊ ((head x).0, value) ≡ x
    back₊ =
        ap₂ (λ (l m : List ℕ). l ++ m) (ap (λ (n : ℕ). sh ((head x).0, n)) counts ∙ Eh.back (take k x) (bytes_take k x b) (length-take-le k x g.0)) back-rest
        ∙ take-append-drop k x

  unfoldable pub counted : Form Good₊ spell₊ Fits₊
  counted = record {
    bytes = λ p f. both_bytes (sh (p.0, measure p.1)) (s p.1) (Eh.bytes (p.0, measure p.1) f.0) ((E p.0).bytes p.1 f.1);
    good = good₊;
    read = λ x. ((head x).0, (E (head x).0).read (drop k x));
    fits = fits₊;
    back = back₊;
    again = again₊;
  }
