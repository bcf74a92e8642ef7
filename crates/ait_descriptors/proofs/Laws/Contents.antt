-- The contents of descriptors, from the facts that code learns on its ways.
use Prim.Native.Nat.{ℕ, ◌+◌, ◌%◌, ◌≤◌, ◌<◌}
use mathlib.Core.Path.{◌≡◌, refl, sym, ap, ◌∙◌}
use mathlib.Core.Bool.{Bool, true, false, not, ◌&&◌}
use mathlib.Core.List.{List}
use native.Mathlib.Omega.{arith}
use lib.Dec.{leb, eqb}
use lib.ListN.{length, drop, drop_of_length-le}
use lib.Seq.{get_or-drop}
use Rattle.wire.specs.Fields.{byte_at}
use borrow.Author.Tests.{eq-eqb, ne_eqb, le-leb, lt-leb, leb-true}
use Rattle.wire.specs.Items.{fills}
use Rattle.ait_descriptors.specs.Tag02.{base, good02, selector1, selector3, selector, remote_of, protocol_of}
use Rattle.ait_descriptors.specs.declared.Test.{Test}
use Rattle.ait_descriptors.specs.declared.Test.TheVariants.{Malformed, Tagged, Labelled}
use Rattle.ait_descriptors.specs.Descriptor.{tag_of, contents_of}
use Rattle.ait_descriptors.specs.Contents.{well_made, test_of}
use Rattle.ait_descriptors.specs.Tag00.{profiles_length, good00}

-- contents of a descriptor too short to have any
pub no-contents : (d : List ℕ) → length d < 2 → drop (length d) d ≡ contents_of d
no-contents d h =
    let f : length d ≤ length d = omega arith in
    let g : length d ≤ 2 = omega arith in
    drop_of_length-le d f ∙ sym (drop_of_length-le d g)

module _ (c : List ℕ) where
  pub good00-odd : (profiles_length c % 5 ≡ 0 → ⊥) → false ≡ good00 c
  unfolding good00
  good00-odd z = rw (ne_eqb (profiles_length c % 5) 0 z)

  pub good00-is : profiles_length c % 5 ≡ 0 → leb (3 + profiles_length c) (length c) ≡ good00 c
  unfolding good00
  good00-is e = rw (eq-eqb (profiles_length c % 5) 0 e)

  pub remote-is : remote_of c ≡ 1 → eqb (length c) 8 ≡ selector1 c
  unfolding selector1
  remote-is e = rw (eq-eqb (remote_of c) 1 e)

  pub local-is : (remote_of c ≡ 1 → ⊥) → eqb (length c) 2 ≡ selector1 c
  unfolding selector1
  local-is n = rw (ne_eqb (remote_of c) 1 n)

  pub good02-short : length c < 3 → false ≡ good02 c
  unfolding good02
  good02-short h = rw (lt-leb 3 (length c) h)

  pub good02-long : good02 c ≡ true → 3 ≤ length c
  unfolding good02
  good02-long e = go (leb 3 (length c)) refl e
    where
      go : (t : Bool) → leb 3 (length c) ≡ t → (t && selector (protocol_of c) (drop 3 c)) ≡ true → 3 ≤ length c
      go true h e = leb-true 3 (length c) h
      go false h e = let z : ◌≡◌ {A = ℕ} 0 1 = cc in absurd (omega arith)

  pub good02-is : 3 ≤ length c → selector (protocol_of c) (drop 3 c) ≡ good02 c
  unfolding good02
  good02-is h = rw (le-leb 3 (length c) h)

module _ (p : ℕ) (c : List ℕ) where
  pub selector-1 : p ≡ 1 → selector1 c ≡ selector p c
  unfolding selector
  selector-1 e = rw (eq-eqb p 1 e)

  pub selector-3 : p ≡ 3 → fills base c ≡ selector p c
  unfolding selector selector3
  selector-3 e = rw (ne_eqb p 1 (omega arith), eq-eqb p 3 e)

  pub selector-raw : (p ≡ 1 → ⊥) → (p ≡ 3 → ⊥) → true ≡ selector p c
  unfolding selector
  selector-raw a b = rw (ne_eqb p 1 a, ne_eqb p 3 b)

-- what a descriptor is asked
module _ (d : List ℕ) where
  pub test-is : (t test : Test) → test ≡ t → test_of t d ≡ test_of test d
  test-is t test e = ap (λ (x : Test). test_of x d) (sym e)

  pub malformed-is : (w : Bool) → w ≡ well_made d → not w ≡ test_of Malformed d
  unfolding test_of
  malformed-is w e = ap not e

  pub tagged_is : (t b : ℕ) → b ≡ tag_of d → eqb b t ≡ test_of (Tagged t) d
  unfolding test_of
  tagged_is t b e = ap (λ (x : ℕ). eqb x t) e

  pub labelled-other : (l : ℕ) → (tag_of d ≡ 0x02 → ⊥) → false ≡ test_of (Labelled l) d
  unfolding test_of
  labelled-other l n = rw (ne_eqb (tag_of d) 2 n)

  pub labelled-is : (l b : ℕ) → tag_of d ≡ 0x02 → b ≡ byte_at d 4 → eqb b l ≡ test_of (Labelled l) d
  unfolding test_of
  labelled-is l b e f = rw (eq-eqb (tag_of d) 2 e, get_or-drop) (ap (λ (x : ℕ). eqb x l) f)
