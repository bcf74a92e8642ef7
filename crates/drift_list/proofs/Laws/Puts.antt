-- Bytes put one after another into lent bytes, and a record's twelve bytes as three words.
use Prim.Native.Nat.{ℕ, suc, ◌+◌, ◌*◌, ◌/◌, ◌%◌, ◌^◌, ◌<◌}
use mathlib.Core.Path.{◌≡◌, sym, ap, ap₂, ◌∙◌}
use mathlib.Core.List.{List, [], ◌∷◌, ◌++◌, append_assoc}
use native.Mathlib.Omega.{arith}
use lib.ListN.{length, set, length-set}
use lib.Seq.{sets}
use Rattle.wire.specs.Fields.{spelled}
use Rattle.wire.proofs.Laws.Fields.{spelled_length}
use Rattle.drift_list.specs.declared.Fields.{Fields}
use Rattle.wire.specs.Signed.{twos}
use Rattle.drift_list.specs.Reading.{FitsFix, spell_fix}
use Rattle.wire.proofs.Laws.Spelled.{shift, spelled-join}
use Rattle.drift_list.proofs.Laws.Records.{number_of, fix-spelled}
use Rattle.wire.proofs.Laws.Signed.{twos_lt}

-- one after another
pub sets_more : (l : List ℕ) (i : ℕ) (a b : List ℕ) → sets (sets l i a) (i + length a) b ≡ sets l i (a ++ b)
sets_more l i [] b = ap (λ (k : ℕ). sets l k b) (omega arith)
sets_more l i (x ∷ a) b = ap (λ (k : ℕ). sets (sets (set l i x) (suc i) a) k b) (omega arith) ∙ sets_more (set l i x) (suc i) a b

-- three words put one after another
pub three_sets : (l l₁ l₂ l₃ : List ℕ) (i : ℕ) (a b c : List ℕ) → length a ≡ 4 → length b ≡ 4 → l₁ ≡ sets l i a → l₂ ≡ sets l₁ (i + 4) b → l₃ ≡ sets l₂ (i + 8) c
    → l₃ ≡ sets l i (a ++ (b ++ c))
three_sets l l₁ l₂ l₃ i a b c m n e f g =
    let j : i + 4 ≡ i + length a = omega arith in
    let q : l₂ ≡ sets l i (a ++ b) = f ∙ ap₂ (λ (x : List ℕ) (k : ℕ). sets x k b) e j ∙ sets_more l i a b in
    let s = lib.ListN.length-append a b in
    let k : i + 8 ≡ i + length (a ++ b) = omega arith in
    g ∙ ap₂ (λ (x : List ℕ) (k : ℕ). sets x k c) q k ∙ sets_more l i (a ++ b) c ∙ ap (sets l i) (append_assoc a b c)

-- A RECORD'S TWELVE BYTES are those of three words
module _ (f : Fields) (s : FitsFix f) (x y : ℕ) (ex : x ≡ twos 27 f.longitude) (ey : y ≡ twos 26 f.latitude) where
  abbrev pub high_of : ℕ
  high_of = f.buoy * 17592186044416 + f.state * 4398046511104 + x * 16384 + y / 8192

  abbrev pub low_of : ℕ
  low_of = y % 8192 * 524288 + f.minute * 32

  pub x_lt : x < 2 ^ 28
  x_lt = let l = twos_lt 27 f.longitude s.longitude in omega arith

  pub y_lt : y < 2 ^ 27
  y_lt = let l = twos_lt 26 f.latitude s.latitude in omega arith

  pub high_lt : high_of < 2 ^ 64
  high_lt = let a = x_lt in let b = y_lt in let c = s.buoy in let d = s.state in omega arith

  pub low_lt : low_of < 2 ^ 32
  low_lt = let m = s.minute in omega arith

  number_is : number_of f ≡ high_of * 4294967296 + low_of
  unfolding number_of
  number_is = let m = s.minute in omega arith

  pub record-words : spelled 12 (number_of f) ≡ spelled 4 (high_of / 4294967296) ++ (spelled 4 (high_of % 4294967296) ++ spelled 4 low_of)
  record-words =
      let l = low_lt in
      let e : high_of * 4294967296 + low_of ≡ high_of / 4294967296 * 256 ^ 8 + (high_of % 4294967296 * 4294967296 + low_of) = omega arith in
      let g : high_of ≡ high_of / 4294967296 * 256 ^ 4 + high_of % 4294967296 = omega arith in
      let u : spelled 8 (high_of * 256 ^ 4 + low_of) ≡ spelled 4 (high_of % 4294967296) ++ spelled 4 low_of
      = spelled-join 4 4 high_of low_of l ∙ ap₂ (λ (a b : List ℕ). a ++ b) (ap (spelled 4) g ∙ shift 4 (high_of / 4294967296) (high_of % 4294967296)) (shift 4 high_of low_of) in
      ap (spelled 12) (number_is ∙ e)
      ∙ spelled-join 4 8 (high_of / 4294967296) (high_of % 4294967296 * 4294967296 + low_of) (omega arith)
      ∙ ap (λ (r : List ℕ). spelled 4 (high_of / 4294967296) ++ r) (ap (spelled 8) (sym e) ∙ u)

  pub record_put : (l l₁ l₂ l₃ : List ℕ) (i : ℕ) → l₁ ≡ sets l i (spelled 4 (high_of / 4294967296)) → l₂ ≡ sets l₁ (i + 4) (spelled 4 (high_of % 4294967296))
      → l₃ ≡ sets l₂ (i + 8) (spelled 4 low_of) → l₃ ≡ sets l i (spell_fix f)
  record_put l l₁ l₂ l₃ i p q r =
      three_sets l l₁ l₂ l₃ i (spelled 4 (high_of / 4294967296)) (spelled 4 (high_of % 4294967296)) (spelled 4 low_of)
      (spelled_length 4 (high_of / 4294967296)) (spelled_length 4 (high_of % 4294967296)) p q r
      ∙ ap (sets l i) (sym (fix-spelled f s ∙ record-words))
