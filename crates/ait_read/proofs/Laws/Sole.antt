-- The first descriptor of a loop to meet a test, by its place; and the one 0x00 descriptor of each application of a well-formed section.
use Prim.Native.Nat.{ℕ, ◌+◌, ◌%◌, ◌≤◌, ◌<◌}
use mathlib.Core.Path.{◌≡◌, sym, ap, ◌∙◌}
use mathlib.Core.Bool.{Bool, true, false}
use mathlib.Core.List as L
use Rattle.std.proofs.Common.{Some, None}
use native.Mathlib.Omega.{arith}
use lib.Dec.{eqb, leb}
use lib.ListN.{length, get_or, take, drop, length-drop}
use lib.Seq.{length-take-le}
use borrow.Author.Tests.{eq-eqb, eqb-true, leb-true}
use Rattle.wire.specs.Items.{items, count, every, number}
use Rattle.wire.specs.Places.{Place, At, item_at, first, part_at}
use Rattle.wire.proofs.Laws.Finders.{sound_item}
use Rattle.wire.proofs.Laws.Parts.{part-at, item_in, found_met, found_inside}
use Rattle.wire.proofs.Laws.Nth.{nth_item, first-at, first-nowhere, one-there, one_only}
use Rattle.wire.proofs.Laws.Tests.{both}
use Rattle.ait_descriptors.specs.declared.Kind.TheVariants as kind
use Rattle.ait_descriptors.specs.declared.Test.{Test}
use Rattle.ait_descriptors.specs.declared.Test.TheVariants.{Tagged}
use Rattle.ait_descriptors.specs.Kinds.{application, size_of, count_at}
use Rattle.ait_descriptors.specs.Descriptor.{descriptor, tag_of, contents_of}
use Rattle.ait_descriptors.specs.Tag00.{profiles_length, good00}
use Rattle.ait_descriptors.specs.Contents.{contents_good, test_of}
use Rattle.ait_descriptors.proofs.Laws.Tags.{good-at}
use Rattle.ait_descriptors.proofs.Laws.Kinds as kinds
use Rattle.ait_body.specs.Body.{own_loop, sole_loop}
use Rattle.ait_read.specs.declared.Scope.{Scope}
use Rattle.ait_read.specs.declared.Scope.TheVariants.{Own}
use Rattle.ait_read.specs.Acceptance.{FormedTable}
use Rattle.ait_read.specs.Places.{loop_at, application_at, own_at, scope_at, descriptor_at}
use Rattle.ait_read.specs.Labels.{first_to}
use Rattle.ait_read.proofs.Laws.Places.{sound_loop, sound-application, sound-own, sound_scope, sound-descriptor}
use Rattle.ait_read.proofs.Laws.Made.{loop_part, own_part, found_made}

-- the descriptors of a scope, and whether the one at a place meets a test
module _ (s : L.List ℕ) (o : Scope) where
  abbrev pub those : L.List (L.List ℕ)
  those = items (size_of kind.Descriptor) (part_at (scope_at o s) s)

  pub nth-descriptor : (j a n : ℕ) → descriptor_at o j s ≡ At a n → (j < length those) × (get_or those j L.[] ≡ take n (drop a s))
  unfolding descriptor_at count
  nth-descriptor j a n e = nth_item (size_of kind.Descriptor) (kinds.kind_of_lem kind.Descriptor) j (scope_at o s) s (sound_scope o s) a n e

  there : (j : ℕ) → j < length those → (a : ℕ) × (n : ℕ) × (descriptor_at o j s ≡ At a n)
  unfolding descriptor_at count
  there j h = item_in (size_of kind.Descriptor) (kinds.kind_of_lem kind.Descriptor) s j (scope_at o s) h

  module _ (test : Test) where
    met : (j a n : ℕ) (t : Bool) → descriptor_at o j s ≡ At a n → test_of test (get_or those j L.[]) ≡ t → test_of test (take n (drop a s)) ≡ t
    met j a n t e f = ap (test_of test) (sym (nth-descriptor j a n e).1) ∙ f

    -- the first of them to meet a test is there and meets it, and none before it does
    pub first-descriptor : (j : ℕ) → first_to test (part_at (scope_at o s) s) ≡ Some j
        → ((a : ℕ) × (n : ℕ) × (descriptor_at o j s ≡ At a n) × (test_of test (take n (drop a s)) ≡ true))
        × ((m a n : ℕ) → m < j → descriptor_at o m s ≡ At a n → test_of test (take n (drop a s)) ≡ false)
    unfolding first
    first-descriptor j e =
        let q = first-at (test_of test) 0 those j e in
        go q.0 q.1 q.2 q.3 q.4
      where
        go : (m : ℕ) → j ≡ 0 + m → m < length those → test_of test (get_or those m L.[]) ≡ true → ((i : ℕ) → i < m → test_of test (get_or those i L.[]) ≡ false)
            → ((a : ℕ) × (n : ℕ) × (descriptor_at o j s ≡ At a n) × (test_of test (take n (drop a s)) ≡ true))
            × ((m a n : ℕ) → m < j → descriptor_at o m s ≡ At a n → test_of test (take n (drop a s)) ≡ false)
        go m e l f b =
            let t = there j (omega arith) in
            let z : j ≡ m = omega arith in
            let g : test_of test (get_or those j L.[]) ≡ true = ap (λ (i : ℕ). test_of test (get_or those i L.[])) z ∙ f in
            ((t.0, t.1, t.2, met j t.0 t.1 true t.2 g), λ i a n h d. met i a n false d (b i (omega (arith, e, h))))

    pub no-descriptor : first_to test (part_at (scope_at o s) s) ≡ None → (m a n : ℕ) → descriptor_at o m s ≡ At a n → test_of test (take n (drop a s)) ≡ false
    unfolding first
    no-descriptor e m a n d = met m a n false d (first-nowhere (test_of test) 0 those e m (nth-descriptor m a n d).0)

good00-long : (c : L.List ℕ) → good00 c ≡ true → 3 + profiles_length c ≤ length c
unfolding good00
good00-long c w = leb-true (3 + profiles_length c) (length c) (both (eqb (profiles_length c % 5) 0) (leb (3 + profiles_length c) (length c)) w).1

-- AN APPLICATION OF A WELL-FORMED SECTION HAS ONE 0x00 DESCRIPTOR
module _ (s : L.List ℕ) (g : FormedTable s) where
  pub twelve : 12 ≤ length s
  twelve = omega (arith, g.section.exact, g.section.least)

  sole-number : (i a n : ℕ) → application_at i s ≡ At a n → number (test_of (Tagged 0x00)) (those s (Own i)) ≡ 1
  unfolding application_at scope_at sole_loop size_of test_of
  sole-number i a n e =
      let v : every (λ x. sole_loop (own_loop x)) (items application (part_at (loop_at s) s)) ≡ true
      = ap (λ (x : L.List ℕ). every (λ y. sole_loop (own_loop y)) (items application x)) (loop_part s twelve g.body) ∙ g.sole in
      let f = found_met application kinds.application_kind (λ x. sole_loop (own_loop x)) i (loop_at s) s (sound_loop s) v a n e in
      ap (λ (x : L.List ℕ). number (λ d. eqb (tag_of d) 0x00) (items descriptor x)) (own_part s twelve g.body i a n e) ∙ eqb-true _ _ f

  application-at : (i : ℕ) → i < count_at kind.Application (loop_at s) s → (a : ℕ) × (n : ℕ) × (application_at i s ≡ At a n)
  unfolding application_at count_at
  application-at i l = item_in (size_of kind.Application) (kinds.kind_of_lem kind.Application) s i (loop_at s) l

  -- so where its labels are looked for, it is found
  pub sole-found : (i : ℕ) → i < count_at kind.Application (loop_at s) s → (j : ℕ) × (first_to (Tagged 0x00) (part_at (own_at i s) s) ≡ Some j)
  unfolding first scope_at
  sole-found i l =
      let t = application-at i l in
      one-there (test_of (Tagged 0x00)) (those s (Own i)) (sole-number i t.0 t.1 t.2) 0

  -- its place, its tag, and that no other descriptor of the application has that tag
  pub sole-place : (i : ℕ) → i < count_at kind.Application (loop_at s) s
      → (j : ℕ) × (a : ℕ) × (n : ℕ) × (first_to (Tagged 0x00) (part_at (own_at i s) s) ≡ Some j) × (descriptor_at (Own i) j s ≡ At a n) × (tag_of (take n (drop a s)) ≡ 0x00)
      × ((k b m : ℕ) → descriptor_at (Own i) k s ≡ At b m → tag_of (take m (drop b s)) ≡ 0x00 → k ≡ j)
  unfolding scope_at test_of
  sole-place i l =
      let t = application-at i l in
      let e = sole-number i t.0 t.1 t.2 in
      let f = sole-found i l in
      let d = (first-descriptor s (Own i) (Tagged 0x00) f.0 f.1).0 in
      let p = nth-descriptor s (Own i) f.0 d.0 d.1 d.2 in (
        f.0,
        d.0,
        d.1,
        f.1,
        d.2,
        eqb-true _ _ d.3,
        λ k b m c z.
            let q = nth-descriptor s (Own i) k b m c in
            one_only (test_of (Tagged 0x00)) (those s (Own i)) e k f.0 q.0 p.0
            (ap (test_of (Tagged 0x00)) q.1 ∙ eq-eqb _ _ z) (ap (test_of (Tagged 0x00)) p.1 ∙ d.3),
      )

  -- a 0x00 descriptor has 5 bytes at least: tag, length, P, flags, priority
  long-00 : (o : Scope) (j a n : ℕ) → descriptor_at o j s ≡ At a n → tag_of (take n (drop a s)) ≡ 0x00 → 5 ≤ n
  unfolding contents_good
  long-00 o j a n e t =
      let d : L.List ℕ = take n (drop a s) in
      let m = good00-long (contents_of d) (good-at (tag_of d) (contents_of d) 0x00 t ∙ found_made s twelve g.body o j a n e) in
      let f = sound-descriptor o j s a n e in
      let l : length d ≡ n = length-take-le n (drop a s) (rw length-drop (omega arith)) in
      omega (arith, l, simp length-drop at m)

  -- "THE LEAST LENGTH, 14 BYTES": 9 of its head, and 5 of its 0x00 descriptor
  pub least_length : (i a n : ℕ) → application_at i s ≡ At a n → 14 ≤ n
  unfolding application_at descriptor_at scope_at count_at
  least_length i a n e =
      let c = (nth_item (size_of kind.Application) (kinds.kind_of_lem kind.Application) i (loop_at s) s (sound_loop s) a n e).0 in
      let d = sole-place i c in
      let q = found_inside (item_at (size_of kind.Descriptor) d.0) (sound_item (size_of kind.Descriptor) (kinds.kind_of_lem kind.Descriptor) d.0)
      (own_at i s) s (sound-own i s) d.1 d.2 d.4 in
      let m = long-00 (Own i) d.0 d.1 d.2 d.4 d.5 in
      let f = sound-application i s a n e in
      let h = sound-own i s q.0 q.1 q.2 in
      let x : length (take n (drop a s)) ≡ n = length-take-le n (drop a s) (rw length-drop (omega arith)) in
      let y : length (take q.1 (drop q.0 s)) ≡ q.1 = length-take-le q.1 (drop q.0 s) (rw length-drop (omega arith)) in
      let z = ap length (sym (ap (λ (p : Place). part_at p s) q.2 ∙ part-at s q.0 q.1) ∙ own_part s twelve g.body i a n e) in
      omega (arith, m, x, y, q.3, q.4, simp length-drop at z)
