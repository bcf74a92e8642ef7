-- THE GENERAL LAW OF REPEATED ITEMS: values spelled end to end are filled by the items of their kind, the items are the spelled values, and what is so
-- filled is spelled by one list of values.
use Prim.Native.Nat.{ℕ}
use mathlib.Core.Path.{◌≡◌, refl, ap, ap₂, ◌∙◌}
use mathlib.Core.Bool.{Bool, true}
use mathlib.Core.List.{List, [], ◌∷◌, ◌++◌, map}
use lib.ListN.{length, length-map}
use Rattle.wire.specs.Items.{Size, IsKind, Whole, Wholes, items, joined, fills, every}
use Rattle.wire.proofs.Laws.Meaning.{unique, wholes, fills_means}
use Rattle.wire.proofs.Laws.Tests.{both}
use Rattle.ait_grammar.specs.Bytes.{Bytes, Each, spell_all}
use Rattle.ait_grammar.proofs.Laws.Bytes.{bytes-items, both_bytes}
use Rattle.ait_grammar.proofs.Laws.Forms.{Form, when}

module _ {A : Type 0} (size : Size) (kind : IsKind size) (test : List ℕ → Bool) {spell : A → List ℕ} {Fits : A → Type 0}
    (F : Form (λ x. Whole size x × (test x ≡ true)) spell Fits) where
  pub all-joined : (vs : List A) → joined (map spell vs) ≡ spell_all spell vs
  unfolding joined spell_all
  all-joined [] = refl
  all-joined (v ∷ vs) = ap (λ (l : List ℕ). spell v ++ l) (all-joined vs)

  all_whole : (vs : List A) → Each Fits vs → Wholes size (map spell vs)
  all_whole [] f = tt
  all_whole (v ∷ vs) f = ((F.good v f.0).0, all_whole vs f.1)

  all_pass : (vs : List A) → Each Fits vs → every test (map spell vs) ≡ true
  unfolding every
  all_pass [] f = refl
  all_pass (v ∷ vs) f = rw (F.good v f.0).1 (all_pass vs f.1)

  pub all-again : (vs : List A) → Each Fits vs → map F.read (map spell vs) ≡ vs
  all-again [] f = refl
  all-again (v ∷ vs) f = ap₂ (λ (w : A) (ws : List A). w ∷ ws) (F.again v f.0) (all-again vs f.1)

  pub all-bytes : (vs : List A) → Each Fits vs → Bytes (spell_all spell vs)
  unfolding spell_all
  all-bytes [] f = tt
  all-bytes (v ∷ vs) f = both_bytes (spell v) (spell_all spell vs) (F.bytes v f.0) (all-bytes vs f.1)

  -- THE ITEMS ARE THE SPELLED VALUES
  pub all-items : (vs : List A) → Each Fits vs → items size (spell_all spell vs) ≡ map spell vs
  all-items vs f = unique size kind (map spell vs) (spell_all spell vs) (all_whole vs f) (all-joined vs)

  abbrev Good₊ : List ℕ → Type 0
  Good₊ xs = (fills size xs ≡ true) × (every test (items size xs) ≡ true)

  pub all-good : (vs : List A) → Each Fits vs → Good₊ (spell_all spell vs)
  all-good vs f = ((fills_means size kind (spell_all spell vs)).1 (map spell vs, all_whole vs f, all-joined vs), rw (all-items vs f) (all_pass vs f))

  some_fit : (is : List (List ℕ)) → Wholes size is → every test is ≡ true → Each Bytes is → Each Fits (map F.read is)
  unfolding every
  some_fit [] w e b = tt
  some_fit (x ∷ is) w e b = let q = both (test x) (every test is) e in (F.fits x b.0 (w.0, q.0), some_fit is w.1 q.1 b.1)

  some_back : (is : List (List ℕ)) → Wholes size is → every test is ≡ true → Each Bytes is → spell_all spell (map F.read is) ≡ joined is
  unfolding every joined spell_all
  some_back [] w e b = refl
  some_back (x ∷ is) w e b =
      let q = both (test x) (every test is) e in
      ap₂ (λ (l m : List ℕ). l ++ m) (F.back x b.0 (w.0, q.0)) (some_back is w.1 q.1 b.1)

  module _ (xs : List ℕ) (b : Bytes xs) (g : Good₊ xs) where
    laid : joined (items size xs) ≡ xs
    laid = let m = (fills_means size kind xs).0 g.0 in ap joined (unique size kind m.0 xs m.1 m.2) ∙ m.2

    apart : Each Bytes (items size xs)
    apart = bytes-items (items size xs) (rw laid b)

    pub fits₊ : Each Fits (map F.read (items size xs))
    fits₊ = some_fit (items size xs) (wholes size kind xs) g.1 apart

    pub back₊ : spell_all spell (map F.read (items size xs)) ≡ xs
    back₊ = some_back (items size xs) (wholes size kind xs) g.1 apart ∙ laid

  unfoldable pub repeated : Form Good₊ (spell_all spell) (Each Fits)
  repeated = record { bytes = all-bytes; good = all-good; read = λ xs. map F.read (items size xs); fits = fits₊; back = back₊; again = λ vs f. rw (all-items vs f) (all-again vs f) }

-- with no test of the items
pub every_any : (is : List (List ℕ)) → every (λ x. true) is ≡ true
unfolding every
every_any [] = refl
every_any (x ∷ is) = every_any is

module _ {A : Type 0} (size : Size) (kind : IsKind size) {spell : A → List ℕ} {Fits : A → Type 0} (F : Form (λ x. Whole size x) spell Fits) where
  any : Form (λ x. Whole size x × (true ≡ true)) spell Fits
  any = when F (λ x. Whole size x × (true ≡ true)) (λ x w. (w, refl)) (λ x b w. w.0)

  pub filled : Form (λ xs. fills size xs ≡ true) (spell_all spell) (Each Fits)
  filled = when (repeated size kind (λ x. true) any) (λ xs. fills size xs ≡ true) (λ xs g. g.0) (λ xs b g. (g, every_any (items size xs)))

  pub filled-items : (vs : List A) → Each Fits vs → items size (spell_all spell vs) ≡ map spell vs
  filled-items vs f = all-items size kind (λ x. true) any vs f

  pub filled-count : (vs : List A) → Each Fits vs → length (items size (spell_all spell vs)) ≡ length vs
  filled-count vs f = ap length (filled-items vs f) ∙ length-map vs spell
