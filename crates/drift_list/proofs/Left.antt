-- What the writer leaves, byte after byte: the first k records of an accepted draft lie in the lent bytes.
use Prim.Native.Nat.{ℕ, zero, suc, ◌+◌, ◌*◌, ◌<◌, ◌≤◌}
use mathlib.Core.Path.{◌≡◌, refl, sym, ap, ap₂, ◌∙◌}
use mathlib.Core.List.{List, ◌++◌, append_assoc}
use native.Mathlib.Omega.{arith}
use lib.ListN.{length, drop, length-append}
use lib.Seq.{sets, sets-eq}
use lib.IntN.{ℤ}
use borrow.Author.Tests.{eq-eqb, ne_eqb}
use Rattle.wire.specs.Fields.{spelled}
use Rattle.wire.proofs.Laws.Fields.{spelled_length}
use Rattle.wire.proofs.Laws.Meaning.{append-nil}
use Rattle.drift_list.specs.declared.Fields.{Fields}
use Rattle.std.proofs.Common.{Ok, Err}
use Rattle.drift_list.specs.Reading.{FitsFix, fixes_from, spell_fix, spell_fixes, spell_list}
use Rattle.drift_list.specs.Writing.{Draft, fix_given, value_of, GoodDraft, write_refusal, write_answer, written_bytes}
use Rattle.wire.proofs.Laws.Spelled.{shift, spelled-join}
use Rattle.drift_list.proofs.Laws.Lists.{spelled-fixes_length, fixes_length}
use Rattle.drift_list.proofs.Laws.Puts.{sets_more}
use Rattle.drift_list.proofs.Laws.Records.{good-fits}
use Rattle.drift_list.proofs.Answers.{refused-with, taken-with}
use Rattle.drift_list.proofs.Writer.{writes-exactly, buoy_in}

-- one record more
more-from : (n k : ℕ) (g : ℕ → Fields) → spell_fixes (fixes_from (suc n) k g) ≡ spell_fixes (fixes_from n k g) ++ spell_fix (g (k + n))
unfolding spell_fixes fixes_from
more-from zero k g = append-nil (spell_fix (g k)) ∙ ap (λ (j : ℕ). spell_fix (g j)) (omega arith)
more-from (suc n) k g =
    let o : suc k + n ≡ k + suc n = omega arith in
    ap (λ (r : List ℕ). spell_fix (g k) ++ r) (more-from n (suc k) g ∙ ap (λ (j : ℕ). spell_fixes (fixes_from n (suc k) g) ++ spell_fix (g j)) o)
    ∙ sym (append_assoc (spell_fix (g k)) (spell_fixes (fixes_from n (suc k) g)) (spell_fix (g (k + suc n))))

-- the first k records
abbrev pub begun : List ℤ → ℕ → List ℕ
begun ns k = spell_fixes (fixes_from k 0 (fix_given ns))

begun_length : (ns : List ℤ) (k : ℕ) → length (begun ns k) ≡ 12 * k
begun_length ns k = spelled-fixes_length (fixes_from k 0 (fix_given ns)) ∙ ap (λ (n : ℕ). 12 * n) (fixes_length k 0 (fix_given ns))

pub none-begun : (l : List ℕ) (ns : List ℤ) → l ≡ sets l 4 (begun ns 0)
unfolding spell_fixes fixes_from
none-begun l ns = refl

-- and one more
pub onward : (ns : List ℤ) (k : ℕ) (l m n : List ℕ) (f : Fields) → m ≡ sets l 4 (begun ns k) → f ≡ fix_given ns k → n ≡ sets m (4 + 12 * k) (spell_fix f) → n ≡ sets l 4 (begun ns (k + 1))
onward ns k l m n f p g q =
    let a = begun_length ns k in
    let o : 4 + 12 * k ≡ 4 + length (begun ns k) = omega arith in
    let u : suc k ≡ k + 1 = omega arith in
    let z : 0 + k ≡ k = omega arith in
    q ∙ ap (λ (f : Fields). sets m (4 + 12 * k) (spell_fix f)) g
    ∙ ap₂ (λ (x : List ℕ) (j : ℕ). sets x j (spell_fix (fix_given ns k))) p o
    ∙ sets_more l 4 (begun ns k) (spell_fix (fix_given ns k))
    ∙ ap (sets l 4) (sym (more-from k 0 (fix_given ns) ∙ ap (λ (j : ℕ). begun ns k ++ spell_fix (fix_given ns j)) z) ∙ ap (begun ns) u)

module _ (d : Draft) (out : List ℕ) (e : write_refusal d (length out) ≡ 0) where
  abbrev given : ℕ → Fields
  given = fix_given d.numbers

  good : GoodDraft d
  good = ((writes-exactly d (length out)).0 e).0

  room : 4 + 12 * d.count ≤ length out
  room = ((writes-exactly d (length out)).0 e).1

  -- what the code needs to know of record k
  pub fits : (k : ℕ) → k < d.count → FitsFix (given k)
  fits k h = good-fits (given k) (buoy_in d good k h) (good.good k h)

  pub place_in : (k : ℕ) → k < d.count → 4 + 12 * k + 12 ≤ length out
  place_in k h = let r = room in omega arith

  pub head_in_lem : 4 ≤ length out
  head_in_lem = let r = room in omega arith

  pub numbers_in : (k : ℕ) → k < d.count → 5 * k ≤ length d.numbers
  numbers_in k h = let n = good.fitting.number in omega arith

  pub issue-small : d.issue < 65536
  issue-small = good.fitting.issue

  pub count_small : d.count < 65536
  count_small = good.fitting.count

  all-begun : spelled 4 (d.issue * 65536 + d.count) ++ begun d.numbers d.count ≡ spell_list (value_of d)
  unfolding spell_list value_of
  all-begun =
      let c = count_small in
      ap (λ (r : List ℕ). r ++ spell_fixes (fixes_from d.count 0 given))
      (spelled-join 2 2 d.issue d.count c ∙ ap (λ (r : List ℕ). spelled 2 d.issue ++ r) (shift 2 d.issue d.count))
      ∙ append_assoc (spelled 2 d.issue) (spelled 2 d.count) (spell_fixes (fixes_from d.count 0 given))
      ∙ ap (λ (n : ℕ). spelled 2 d.issue ++ (spelled 2 n ++ spell_fixes (fixes_from d.count 0 given))) (sym (fixes_length d.count 0 given))

  -- the head, and then all records
  pub left_is : (k : ℕ) (l m : List ℕ) → d.count ≡ k → l ≡ sets out 0 (spelled 4 (d.issue * 65536 + d.count)) → m ≡ sets l 4 (begun d.numbers k) → m ≡ written_bytes d out
  unfolding written_bytes
  left_is k l m c p q =
      let h : List ℕ = spelled 4 (d.issue * 65536 + d.count) in
      let b : List ℕ = begun d.numbers d.count in
      let hl : length h ≡ 4 = spelled_length 4 (d.issue * 65536 + d.count) in
      let bl : length b ≡ 12 * d.count = begun_length d.numbers d.count in
      let al : length (h ++ b) ≡ length h + length b = length-append h b in
      let r = room in
      let o : 4 ≡ 0 + length h = omega arith in
      let x : sets out 0 (h ++ b) ≡ (h ++ b) ++ drop (0 + length (h ++ b)) out = sets-eq (h ++ b) out 0 (omega arith) in
      let v : 0 + length (h ++ b) ≡ 4 + 12 * d.count = omega arith in
      q ∙ ap (λ (j : ℕ). sets l 4 (begun d.numbers j)) (sym c)
      ∙ ap₂ (λ (y : List ℕ) (j : ℕ). sets y j b) p o
      ∙ sets_more out 0 h b ∙ x
      ∙ ap₂ (λ (y : List ℕ) (j : ℕ). y ++ drop j out) all-begun v
      ∙ sym (rw (eq-eqb (write_refusal d (length out)) 0 e))

  pub answer-is : Ok (4 + 12 * d.count) ≡ write_answer d (length out)
  unfolding write_answer
  answer-is = taken-with (write_refusal d (length out)) _ e

-- and where it is refused
pub kept-is : (d : Draft) (out : List ℕ) (n : ℕ) → n ≡ write_refusal d (length out) → (n ≡ 0 → ⊥) → (Err n ≡ write_answer d (length out)) × (out ≡ written_bytes d out)
unfolding write_answer written_bytes
kept-is d out n e z =
    (refused-with n (write_refusal d (length out)) _ e z, sym (rw (ne_eqb (write_refusal d (length out)) 0 (λ f. z (e ∙ f)))))
