-- Where a spelled value lies: the k-th of some values that are spelled end to end, and the k-th in a part of a section.
use Prim.Native.Nat.{ℕ, zero, suc, ◌+◌, ◌≤◌}
use mathlib.Core.Path.{◌≡◌, refl, sym, ap, ◌∙◌}
use mathlib.Core.List.{List, [], ◌∷◌, ◌++◌, map}
use Rattle.std.proofs.Common.{Some, None}
use native.Mathlib.Omega.{arith}
use lib.ListN.{length, take, drop, length-take, length-drop}
use lib.Seq.{take_at, drop_at, drop-drop}
use Rattle.wire.specs.Items.{Size, IsKind, items, items_in}
use Rattle.wire.specs.Places.{Place, At, place_from, item_at, in_part, Inside, part_at}
use Rattle.wire.proofs.Laws.Finders.{in_part-at, part_part, item-is}
use Rattle.ait_grammar.specs.Bytes.{spell_all}
use Rattle.ait_grammar.specs.Shown.{ValueAt}

module _ {A : Type 0} (spell : A → List ℕ) where
  -- the k-th begins b bytes after the first, and its bytes are there
  placed : (vs : List A) (k : ℕ) (v : A) → ValueAt k vs v → (at : ℕ)
      → (b : ℕ) × (place_from k at (map spell vs) ≡ At (at + b) (length (spell v))) × (take (length (spell v)) (drop b (spell_all spell vs)) ≡ spell v)
  unfolding place_from spell_all
  placed [] zero v e at = absurd e
  placed [] (suc k) v e at = absurd e
  placed (x ∷ vs) zero v e at =
      let z : at + 0 ≡ at = omega arith in
      (0, rw (e, z), rw e (take_at (spell v) (spell_all spell vs) (length (spell v)) refl))
  placed (x ∷ vs) (suc k) v e at =
      let r = placed vs k v e (at + length (spell x)) in
      let n : at + length (spell x) + r.0 ≡ at + (length (spell x) + r.0) = omega arith in (
        length (spell x) + r.0,
        r.1 ∙ ap (λ (m : ℕ). At m (length (spell v))) n,
        ap (take (length (spell v))) (sym (drop-drop r.0 (length (spell x)) (spell x ++ spell_all spell vs))
            ∙ ap (drop r.0) (drop_at (spell x) (spell_all spell vs) (length (spell x)) refl)) ∙ r.2,
      )

  -- AN ITEM OF A PART IS THE VALUE'S BYTES: the part is the values spelled end to end, and its items are the spelled values
  module _ (size : Size) (kind : IsKind size) (vs : List A) (are : items size (spell_all spell vs) ≡ map spell vs) (k : ℕ) (v : A) (e : ValueAt k vs v) where
    pub value-at : (b : ℕ) × (item_at size k (spell_all spell vs) ≡ At b (length (spell v))) × (take (length (spell v)) (drop b (spell_all spell vs)) ≡ spell v)
    unfolding item_at
    value-at =
        let r = placed vs k v e 0 in
        let z : 0 + r.0 ≡ r.0 = omega arith in
        (r.0, ap (place_from k 0) are ∙ r.1 ∙ ap (λ (m : ℕ). At m (length (spell v))) z, r.2)

    pub value_found : (p : Place) (s : List ℕ) → Inside p s → part_at p s ≡ spell_all spell vs
        → (c : ℕ) × (in_part (item_at size k) p s ≡ At c (length (spell v))) × (take (length (spell v)) (drop c s) ≡ spell v)
    unfolding part_at items items_in
    value_found None s i f = absurd (none vs e (sym (ap (items size) f ∙ are)))
      where
        none : (us : List A) → ValueAt k us v → map spell us ≡ items size [] → ⊥
        none [] d g = d
        none (u ∷ us) d g = let z : ◌≡◌ {A = ℕ} 0 1 = cc in omega arith
    value_found (Some p) s i f =
        let r = value-at in
        let l : List ℕ = take p.size (drop p.start s) in
        let t : item_at size k l ≡ At r.0 (length (spell v)) = ap (item_at size k) f ∙ r.1 in
        let j = item-is size kind k l r.0 (length (spell v)) t in
        let h = i p.start p.size refl in
        let w : r.0 + length (spell v) ≤ p.size = omega (arith, simp (length-take, length-drop) at j.0) in (
          p.start + r.0,
          in_part-at (item_at size k) s p.start p.size r.0 (length (spell v)) t,
          sym (part_part s p.start p.size r.0 (length (spell v)) h w)
              ∙ ap (λ (x : List ℕ). take (length (spell v)) (drop r.0 x)) f ∙ r.2,
        )
