-- "Exactly one 0x00 descriptor": the count of the test and the two plain facts say the same.
use Prim.Native.Nat.{ℕ, zero, suc}
use mathlib.Core.Path.{◌≡◌, refl, sym, ap, ◌∙◌}
use mathlib.Core.Logic.{◌↔◌}
use mathlib.Core.Bool.{Bool, true, false, cond, ◌&&◌}
use mathlib.Core.List.{List, [], ◌∷◌, map}
use native.Mathlib.Omega.{arith}
use lib.Dec.{eqb}
use borrow.Author.Tests.{eq-eqb, eqb-true, eqb-false}
use Rattle.wire.specs.Items.{items, number}
use Rattle.wire.proofs.Laws.Tests.{both}
use Rattle.ait_descriptors.specs.Descriptor.{descriptor, tag_of}
use Rattle.ait_body.specs.Body.{good_loop, sole_loop}
use Rattle.ait_grammar.specs.Bytes.{Bytes, Each, spell_all}
use Rattle.ait_grammar.specs.Contents.{DescriptorValue, FitsDescriptor, spell_descriptor}
use Rattle.ait_grammar.specs.Table.{Is00At, Sole00}
use Rattle.ait_grammar.proofs.Laws.Forms.{Form, when, narrowed}
use Rattle.ait_grammar.proofs.Laws.Contents.{descriptor_form, tag_read, loop_form, loop-read}

abbrev is_facts : List ℕ → Bool
is_facts d = eqb (tag_of d) 0x00

abbrev read_all : List (List ℕ) → List DescriptorValue
read_all is = map descriptor_form.read is

-- a 0x00 that was read
module _ (x : List ℕ) where
  is_facts_lem : is_facts x ≡ true → (descriptor_form.read x).tag ≡ 0x00
  is_facts_lem e = tag_read x ∙ eqb-true (tag_of x) 0x00 e

  not_facts : is_facts x ≡ false → (descriptor_form.read x).tag ≡ 0x00 → ⊥
  not_facts e z = eqb-false (tag_of x) 0x00 e (sym (tag_read x) ∙ z)

none-there : (is : List (List ℕ)) → number is_facts is ≡ 0 → (k : ℕ) → Is00At k (read_all is) → ⊥
unfolding number
none-there [] e k f = f
none-there (x ∷ is) e k f = go (none-there is) (is_facts x) refl e k f
  where
    go : (number is_facts is ≡ 0 → (k : ℕ) → Is00At k (read_all is) → ⊥)
        → (t : Bool) → is_facts x ≡ t → cond t (suc (number is_facts is)) (number is_facts is) ≡ 0 → (k : ℕ) → Is00At k (read_all (x ∷ is)) → ⊥
    go ih true h e k f = absurd (omega arith)
    go ih false h e zero f = not_facts x h f
    go ih false h e (suc k) f = ih e k f

none-back : (is : List (List ℕ)) → ((k : ℕ) → Is00At k (read_all is) → ⊥) → number is_facts is ≡ 0
unfolding number
none-back [] n = refl
none-back (x ∷ is) n = go (none-back is (λ k f. n (suc k) f)) (is_facts x) refl
  where
    go : number is_facts is ≡ 0 → (t : Bool) → is_facts x ≡ t → cond t (suc (number is_facts is)) (number is_facts is) ≡ 0
    go ih true h = absurd (n zero (is_facts_lem x h))
    go ih false h = ih

module _ (x : List ℕ) (is : List (List ℕ)) where
  first_one : is_facts x ≡ true → number is_facts is ≡ 0 → Sole00 (read_all (x ∷ is))
  first_one h e = ((zero, is_facts_lem x h), one)
    where
      one : (j k : ℕ) → Is00At j (read_all (x ∷ is)) → Is00At k (read_all (x ∷ is)) → j ≡ k
      one zero zero f g = refl
      one zero (suc k) f g = absurd (none-there is e k g)
      one (suc j) k f g = absurd (none-there is e j f)

  later-one : is_facts x ≡ false → Sole00 (read_all is) → Sole00 (read_all (x ∷ is))
  later-one h s = ((suc s.0.0, s.0.1), one)
    where
      one : (j k : ℕ) → Is00At j (read_all (x ∷ is)) → Is00At k (read_all (x ∷ is)) → j ≡ k
      one zero k f g = absurd (not_facts x h f)
      one (suc j) zero f g = absurd (not_facts x h g)
      one (suc j) (suc k) f g = ap suc (s.1 j k f g)

  one_later : is_facts x ≡ false → Sole00 (read_all (x ∷ is)) → Sole00 (read_all is)
  one_later h s = (later s.0.0 s.0.1, λ j k f g. let e = s.1 (suc j) (suc k) f g in omega arith)
    where
      later : (k : ℕ) → Is00At k (read_all (x ∷ is)) → (j : ℕ) × Is00At j (read_all is)
      later zero f = absurd (not_facts x h f)
      later (suc k) f = (k, f)

sole-there : (is : List (List ℕ)) → number is_facts is ≡ 1 → Sole00 (read_all is)
unfolding number
sole-there [] e = absurd (omega arith)
sole-there (x ∷ is) e = go (sole-there is) (is_facts x) refl e
  where
    go : (number is_facts is ≡ 1 → Sole00 (read_all is)) → (t : Bool) → is_facts x ≡ t → cond t (suc (number is_facts is)) (number is_facts is) ≡ 1 → Sole00 (read_all (x ∷ is))
    go ih true h e = first_one x is h (omega arith)
    go ih false h e = later-one x is h (ih e)

sole-back : (is : List (List ℕ)) → Sole00 (read_all is) → number is_facts is ≡ 1
unfolding number
sole-back [] s = absurd s.0.1
sole-back (x ∷ is) s = go (sole-back is) (is_facts x) refl
  where
    go : (Sole00 (read_all is) → number is_facts is ≡ 1) → (t : Bool) → is_facts x ≡ t → cond t (suc (number is_facts is)) (number is_facts is) ≡ 1
    go ih true h = ap suc (none-back is (λ k f. let e = s.1 zero (suc k) (is_facts_lem x h) f in absurd (omega arith)))
    go ih false h = ih (one_later x is h s)

sole-exactly : (l : List ℕ) → (sole_loop l ≡ true) ↔ Sole00 (loop_form.read l)
unfolding sole_loop
sole-exactly l = (there, back)
  where
    there : eqb (number is_facts (items descriptor l)) 1 ≡ true → Sole00 (loop_form.read l)
    there e = rw (loop-read l) (sole-there (items descriptor l) (eqb-true _ _ e))

    back : Sole00 (loop_form.read l) → eqb (number is_facts (items descriptor l)) 1 ≡ true
    back s = eq-eqb _ _ (sole-back (items descriptor l) (rw (loop-read l) at s))

-- a loop of descriptors with exactly one 0x00
abbrev pub sole_good : List ℕ → Bool
sole_good l = good_loop l && sole_loop l

pub sole_form : Form (λ l. sole_good l ≡ true) (spell_all spell_descriptor) (λ ds. Each FitsDescriptor ds × Sole00 ds)
sole_form = when (narrowed loop_form Sole00) (λ l. sole_good l ≡ true) there back
  where
    there : (l : List ℕ) → (good_loop l ≡ true) × Sole00 (loop_form.read l) → sole_good l ≡ true
    there l g = rw g.0 ((sole-exactly l).1 g.1)

    back : (l : List ℕ) → Bytes l → sole_good l ≡ true → (good_loop l ≡ true) × Sole00 (loop_form.read l)
    back l b e = let q = both (good_loop l) (sole_loop l) e in (q.0, (sole-exactly l).0 q.1)
