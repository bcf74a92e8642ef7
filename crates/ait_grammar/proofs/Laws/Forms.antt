-- A FORM OF WRITING: values, how each is spelled, which of them fit, and what bytes they make. Here are the plain ones: a field,
-- bytes as they are, and the same bytes seen as other values or said otherwise.
use Prim.Native.Nat.{ℕ, ◌^◌, ◌<◌}
use mathlib.Core.Path.{◌≡◌, refl, sym, ap, ◌∙◌}
use mathlib.Core.Logic.{◌⊎◌, inl, inr}
use mathlib.Core.Bool.{Bool, true, false, cond}
use mathlib.Core.List.{List}
use lib.ListN.{length}
use Rattle.wire.specs.Fields.{field_at, spelled}
use Rattle.wire.proofs.Laws.Fields.{field_lt, spelled_length}
use Rattle.ait_grammar.specs.Bytes.{Bytes}
use Rattle.ait_grammar.proofs.Laws.Bytes.{bytes-at, spelled-bytes, reads-spelled, spelled-read}

pub record Form {A : Type 0} (Good : List ℕ → Type 0) (spell : A → List ℕ) (Fits : A → Type 0) : Type 0 where
  -- what is spelled is bytes, and good
  pub bytes : (a : A) → Fits a → Bytes (spell a)
  pub good : (a : A) → Fits a → Good (spell a)
  -- good bytes are read, and the value read fits and is spelled so
  pub read : List ℕ → A
  pub fits : (x : List ℕ) → Bytes x → Good x → Fits (read x)
  pub back : (x : List ℕ) → Bytes x → Good x → spell (read x) ≡ x
  -- what was spelled is read back
  pub again : (a : A) → Fits a → read (spell a) ≡ a

-- ONE VALUE ONLY: two that fit and are spelled alike are the same
pub one_value : {A : Type 0} {Good : List ℕ → Type 0} {spell : A → List ℕ} {Fits : A → Type 0} → Form Good spell Fits
    → (a b : A) → Fits a → Fits b → spell a ≡ spell b → a ≡ b
one_value F a b f g e = sym (F.again a f) ∙ ap F.read e ∙ F.again b g

-- a number of n bytes
unfoldable pub field : (n : ℕ) → Form (λ x. length x ≡ n) (spelled n) (λ v. v < 256 ^ n)
field n = record {
  bytes = λ v l. spelled-bytes n v;
  good = λ v l. spelled_length n v;
  read = λ x. field_at n x 0;
  fits = λ x b g. field_lt n x 0 (bytes-at x b);
  back = λ x b g. reads-spelled n x b g;
  again = λ v l. spelled-read n v l;
}

-- bytes as they are
unfoldable pub plain : Form (λ x. Unit {0}) (λ (x : List ℕ). x) Bytes
plain = record { bytes = λ x b. b; good = λ x b. tt; read = λ x. x; fits = λ x b g. b; back = λ x b g. refl; again = λ x b. refl }

-- THE SAME BYTES SEEN AS OTHER VALUES
module _ {A B : Type 0} {Good : List ℕ → Type 0} {spell : A → List ℕ} {Fits : A → Type 0} (F : Form Good spell Fits)
    (to : A → B) (spell' : B → List ℕ) (Fits' : B → Type 0)
    (spelt : (a : A) → Fits a → spell' (to a) ≡ spell a)
    (fit : (a : A) → Fits a → Fits' (to a))
    (whence : (b : B) → Fits' b → (a : A) × (to a ≡ b) × Fits a) where
  pub from-spelt : (b : B) (f : Fits' b) → spell' b ≡ spell (whence b f).0
  from-spelt b f = let w = whence b f in ap spell' (sym w.1) ∙ spelt w.0 w.2

  unfoldable pub seen : Form Good spell' Fits'
  seen = record {
    bytes = λ b f. rw (from-spelt b f) (F.bytes (whence b f).0 (whence b f).2);
    good = λ b f. rw (from-spelt b f) (F.good (whence b f).0 (whence b f).2);
    read = λ x. to (F.read x);
    fits = λ x b g. fit (F.read x) (F.fits x b g);
    back = λ x b g. spelt (F.read x) (F.fits x b g) ∙ F.back x b g;
    again = λ b f. rw (from-spelt b f) (ap to (F.again (whence b f).0 (whence b f).2) ∙ (whence b f).1);
  }

-- THE SAME BYTES SAID OTHERWISE
unfoldable pub when : {A : Type 0} {Good : List ℕ → Type 0} {spell : A → List ℕ} {Fits : A → Type 0} → Form Good spell Fits
    → (Good' : List ℕ → Type 0) → ((x : List ℕ) → Good x → Good' x) → ((x : List ℕ) → Bytes x → Good' x → Good x) → Form Good' spell Fits
when F Good' there back = record {
  bytes = F.bytes;
  good = λ a f. there _ (F.good a f);
  read = F.read;
  fits = λ x b g. F.fits x b (back x b g);
  back = λ x b g. F.back x b (back x b g);
  again = F.again;
}

-- FEWER VALUES: those of a form that keep one fact more
unfoldable pub narrowed : {A : Type 0} {Good : List ℕ → Type 0} {spell : A → List ℕ} {Fits : A → Type 0} (F : Form Good spell Fits) (P : A → Type 0)
    → Form (λ x. Good x × P (F.read x)) spell (λ a. Fits a × P a)
narrowed F P = record {
  bytes = λ a f. F.bytes a f.0;
  good = λ a f. (F.good a f.0, rw (F.again a f.0) f.1);
  read = F.read;
  fits = λ x b g. (F.fits x b g.0, g.1);
  back = λ x b g. F.back x b g.0;
  again = λ a f. F.again a f.0;
}

-- ONE FORM OR ANOTHER: a test of the bytes tells which
module _ {A : Type 0} {spell : A → List ℕ} (which : List ℕ → Bool) {G₁ G₂ : List ℕ → Type 0} {F₁ F₂ : A → Type 0}
    (E₁ : Form (λ x. (which x ≡ true) × G₁ x) spell F₁) (E₂ : Form (λ x. (which x ≡ false) × G₂ x) spell F₂) where
  abbrev Good₊ : List ℕ → Type 0
  Good₊ x = ((which x ≡ true) × G₁ x) ⊎ ((which x ≡ false) × G₂ x)

  abbrev Fits₊ : A → Type 0
  Fits₊ a = F₁ a ⊎ F₂ a

  abbrev read₊ : List ℕ → A
  read₊ x = cond (which x) (E₁.read x) (E₂.read x)

  pub bytes₊ : (a : A) → Fits₊ a → Bytes (spell a)
  bytes₊ a (inl f) = E₁.bytes a f
  bytes₊ a (inr f) = E₂.bytes a f

  pub good₊ : (a : A) → Fits₊ a → Good₊ (spell a)
  good₊ a (inl f) = inl (E₁.good a f)
  good₊ a (inr f) = inr (E₂.good a f)

  pub fits₊ : (x : List ℕ) → Bytes x → Good₊ x → Fits₊ (read₊ x)
  fits₊ x b (inl g) = rw g.0 (inl (E₁.fits x b g))
  fits₊ x b (inr g) = rw g.0 (inr (E₂.fits x b g))

  pub back₊ : (x : List ℕ) → Bytes x → Good₊ x → spell (read₊ x) ≡ x
  back₊ x b (inl g) = rw g.0 (E₁.back x b g)
  back₊ x b (inr g) = rw g.0 (E₂.back x b g)

  pub again₊ : (a : A) → Fits₊ a → read₊ (spell a) ≡ a
  again₊ a (inl f) = rw (E₁.good a f).0 (E₁.again a f)
  again₊ a (inr f) = rw (E₂.good a f).0 (E₂.again a f)

  pub either : Form Good₊ spell Fits₊
  either = record { bytes = bytes₊; good = good₊; read = read₊; fits = fits₊; back = back₊; again = again₊ }
