-- WHAT `resolve` ANSWERS, SAID BY THE OTHER CALLS. 01: "A label is looked up among the application's own 0x02 descriptors, then the section's common ones; the first hit counts,
-- no hit is marked unresolved"; "Asking by place answers the section's own refusals (2 to 7, 18), then 19."
use Prim.Native.Nat.{ℕ, ◌+◌, ◌≤◌, ◌<◌}
use mathlib.Core.Path.{◌≡◌, refl, sym, ap, subst, ◌∙◌}
use mathlib.Core.Logic.{◌↔◌, inl, inr}
use mathlib.Core.Bool.{Bool, true, false, cond}
use mathlib.Core.List as L
use Rattle.std.proofs.Common.{Option, Result, Some, None, Ok, Err}
use native.Mathlib.Decide.{dec_lt}
use native.Mathlib.Omega.{arith}
use lib.Dec.{eqb}
use lib.ListN.{take, drop}
use borrow.Author.Tests.{eq-eqb, eqb-true}
use Rattle.wire.specs.Fields.{byte_at}
use Rattle.wire.specs.Items.{items, items_in}
use Rattle.wire.specs.Places.{At, Hit, item_at, after, first, first_from, on_hit, part_at}
use Rattle.wire.proofs.Laws.Finders.{in_part_has}
use Rattle.wire.proofs.Laws.Nth.{nth_item}
use Rattle.wire.proofs.Laws.Tests.{clash}
use Rattle.section.specs.declared.Refusal.{Refusal}
use Rattle.section.specs.Header.{header_of}
use Rattle.section.specs.Answer.{refused}
use Rattle.ait_descriptors.specs.Tag01.{described01}
use Rattle.ait_descriptors.specs.Tag05.{described05}
use Rattle.ait_descriptors.specs.Tag15.{described15}
use Rattle.ait_descriptors.specs.declared.Kind.TheVariants as kind
use Rattle.ait_descriptors.specs.declared.Test.TheVariants.{Tagged, Labelled}
use Rattle.ait_descriptors.specs.Kinds.{size_of, count_at}
use Rattle.ait_descriptors.specs.Descriptor.{tag_of, tagged_rest}
use Rattle.ait_descriptors.specs.Contents.{test_of, list_in, kind_of, repeated_count, described_of, item_of}
use Rattle.ait_descriptors.proofs.Laws.Contents.{labelled-other, labelled-is}
use Rattle.ait_descriptors.proofs.Laws.Kinds as kinds
use Rattle.ait_read.specs.declared.Scope.{Scope}
use Rattle.ait_read.specs.declared.Scope.TheVariants as scope
use Rattle.ait_descriptors.specs.declared.Repeated.TheVariants.{Labels}
use Rattle.ait_descriptors.specs.declared.Item.TheVariants as item
use Rattle.ait_read.specs.declared.Resolved.{Resolved}
use Rattle.ait_read.specs.declared.Resolved.TheVariants as resolved
use Rattle.ait_read.specs.Acceptance.{FormedTable}
use Rattle.ait_read.specs.Places.{loop_at, application_at, own_at, common_at, scope_at, descriptor_at, list_at, repeated_at}
use Rattle.ait_descriptors.specs.Tag00.{described00, labels_in}
use Rattle.ait_read.specs.Labels.{first_to, hit_among, resolved_in, label_at}
use Rattle.ait_read.specs.Answers.{on_located, descriptor_answer, item_answer, resolve_answer, number_of_read}
use Rattle.ait_read.specs.Resolved.{Bears, Shows, FirstShown, NoneShown, IsLabel, NoLabel, Says}
use Rattle.ait_descriptors.proofs.Laws.Records.{cases-02, cases}
use Rattle.ait_read.proofs.Laws.Places.{sound_loop}
use Rattle.ait_read.proofs.Laws.Labels.{own_hit, common_hit, no_hit, label-none, label_is}
use Rattle.ait_read.proofs.Laws.Counts.{list_count}
use Rattle.ait_read.proofs.Laws.Made.{own-none}
use Rattle.ait_read.proofs.Laws.Acceptance.{located-none, located-at}
use Rattle.ait_read.proofs.Laws.Exact.{accepted-exactly, resolve-refused}
use Rattle.ait_read.proofs.Laws.Numbers.{resolve-number}
use Rattle.ait_read.proofs.Laws.Located.{accepted-good, located-cases, nineteen-exactly, found_at, nowhere-exactly, not-found}
use Rattle.ait_read.proofs.Laws.Sole.{twelve, sole-place, first-descriptor, no-descriptor}

-- a descriptor is shown as a 0x02 with the label l exactly where the look-up's test is met
pub bears-exactly : (l : ℕ) (d : L.List ℕ) (a : ℕ) → Bears l (described_of d a) ↔ (test_of (Labelled l) d ≡ true)
unfolding described00 described01 described05 described15
bears-exactly l d a = cases (λ x. Bears l x ↔ (test_of (Labelled l) d ≡ true)) d a
    (λ t. let w = labelled-is d l (byte_at d 4) t refl in
    let e : (byte_at d 4 ≡ l) ↔ (test_of (Labelled l) d ≡ true) = (λ f. sym w ∙ eq-eqb _ _ f, λ f. eqb-true _ _ (w ∙ f)) in
    cases-02 (λ x. Bears l x ↔ (test_of (Labelled l) d ≡ true)) d a e e e e)
    (λ t. let e : ⊥ ↔ (test_of (Labelled l) d ≡ true) = (λ f. absurd f, λ f. clash _ f (sym (labelled-other d l t))) in
    (e, e, e, e, e))

module _ (s : L.List ℕ) (o : Scope) (l m : ℕ) where
  shown : Shows s o l m → (a : ℕ) × (n : ℕ) × (descriptor_at o m s ≡ At a n) × (test_of (Labelled l) (take n (drop a s)) ≡ true)
  unfolding descriptor_answer
  shown w =
      let f = (found_at s (descriptor_at o m s) (λ r. Err r) (λ a n. Ok (described_of (take n (drop a s)) a)) (Ok w.0)
      (λ r. not-found r w.0) w.1).1 in
      let e : w.0 ≡ described_of (take f.1 (drop f.0 s)) f.0 = cc in
      (f.0, f.1, f.2, (bears-exactly l (take f.1 (drop f.0 s)) f.0).0 (rw e at w.2))

  shows : FormedTable s → (a n : ℕ) → descriptor_at o m s ≡ At a n → test_of (Labelled l) (take n (drop a s)) ≡ true → Shows s o l m
  unfolding descriptor_answer
  shows g a n e t =
      let f = located-at s (descriptor_at o m s) (header_of s) ((accepted-exactly s).1 g) a n e in
      (described_of (take n (drop a s)) a, rw (sym f), (bears-exactly l (take n (drop a s)) a).1 t)

-- the first hit in a scope, and no hit, as the look-up finds them
module _ (s : L.List ℕ) (g : FormedTable s) (o : Scope) (l : ℕ) where
  is-first : (j : ℕ) → first_to (Labelled l) (part_at (scope_at o s) s) ≡ Some j → FirstShown s o l j
  is-first j e =
      let d = first-descriptor s o (Labelled l) j e in
      (shows s o l j g d.0.0 d.0.1 d.0.2 d.0.3, λ m h w. let x = shown s o l m w in clash _ x.3 (d.1 m x.0 x.1 h x.2))

  is_none : first_to (Labelled l) (part_at (scope_at o s) s) ≡ None → NoneShown s o l
  is_none e m w = let x = shown s o l m w in clash _ x.3 (no-descriptor s o (Labelled l) e m x.0 x.1 x.2)

  -- and the other way round, since two first hits are one
  hit-first : (j : ℕ) → FirstShown s o l j → first_to (Labelled l) (part_at (scope_at o s) s) ≡ Some j
  hit-first j p = go (first_to (Labelled l) (part_at (scope_at o s) s)) refl
    where
      one : (m : ℕ) → FirstShown s o l m → m ≡ j
      one m q = elim (dec_lt j m) [
        | yes h ↦ absurd (q.1 j h p.0)
        | no h ↦ elim (dec_lt m j) [
          | yes k ↦ absurd (p.1 m k q.0)
          | no k ↦ omega (arith, h, k)
        ]
      ]

      go : (h : Hit) → first_to (Labelled l) (part_at (scope_at o s) s) ≡ h → first_to (Labelled l) (part_at (scope_at o s) s) ≡ Some j
      go (Some m) e = e ∙ ap Some (one m (is-first m e))
      go None e = absurd (is_none e j p.0)

  hit-none : NoneShown s o l → first_to (Labelled l) (part_at (scope_at o s) s) ≡ None
  hit-none n = go (first_to (Labelled l) (part_at (scope_at o s) s)) refl
    where
      go : (h : Hit) → first_to (Labelled l) (part_at (scope_at o s) s) ≡ h → first_to (Labelled l) (part_at (scope_at o s) s) ≡ None
      go (Some m) e = absurd (n m (is-first m e).0)
      go None e = e

-- a label that was located is one that `item_at` shows
is-label : (s : L.List ℕ) → FormedTable s → (i k a n : ℕ) → label_at i k s ≡ At a n → IsLabel s i k (byte_at (take n (drop a s)) 0)
unfolding label_at item_answer item_of
is-label s g i k a n e = go (first_to (Tagged 0x00) (part_at (own_at i s) s)) e
  where
    go : (h : Hit) → on_hit h None (λ j. repeated_at (scope.Own i) j Labels k s) ≡ At a n → IsLabel s i k (byte_at (take n (drop a s)) 0)
    go None e = let z : ◌≡◌ {A = ℕ} 0 1 = cc in absurd (omega arith)
    go (Some j) e = (j, rw (sym (located-at s (repeated_at (scope.Own i) j Labels k s) (header_of s) ((accepted-exactly s).1 g) a n e)))

module _ (s : L.List ℕ) (g : FormedTable s) (i k : ℕ) where
  no-application : count_at kind.Application (loop_at s) s ≤ i → label_at i k s ≡ None
  unfolding application_at first first_from items items_in
  no-application l =
      let e = own-none s (twelve s g) g.body i ((nowhere-exactly kind.Application (loop_at s) s i).1 l) in
      sym (label-none i k s (ap (first_to (Tagged 0x00)) e))

  -- the labels of the 0x00 descriptor at place j
  no_such-label : (j a n : ℕ) → first_to (Tagged 0x00) (part_at (own_at i s) s) ≡ Some j → descriptor_at (scope.Own i) j s ≡ At a n
      → (label_at i k s ≡ None) ↔ (repeated_count Labels (take n (drop a s)) ≤ k)
  unfolding repeated_at
  no_such-label j a n f e =
      let x = nowhere-exactly (kind_of Labels) (list_at (scope.Own i) j Labels s) s k in
      let l = list_count s (scope.Own i) j Labels a n e in
      let y = label_is i k s j f in
      (λ z. let w = x.0 (y ∙ z) in omega (arith, w, l), λ c. sym y ∙ x.1 (omega (arith, c, l)))

  no-label-exactly : (label_at i k s ≡ None) ↔ NoLabel s i k
  no-label-exactly = (there, back)
    where
      there : label_at i k s ≡ None → NoLabel s i k
      there z = elim (dec_lt i (count_at kind.Application (loop_at s) s)) [
        | yes l ↦ let d = sole-place s g i l in inr (d.0, d.1, d.2, d.4, d.5, (no_such-label d.0 d.1 d.2 d.3 d.4).0 z)
        | no l ↦ inl (omega (arith, l))
      ]

      back : NoLabel s i k → label_at i k s ≡ None
      back (inl l) = no-application l
      back (inr w) = elim (dec_lt i (count_at kind.Application (loop_at s) s)) [
        | yes l ↦
            let d = sole-place s g i l in
            let j = d.6 w.0 w.1 w.2 w.3 w.4 in
            (no_such-label w.0 w.1 w.2 (d.3 ∙ ap Some (sym j)) w.3).1 w.5
        | no l ↦ no-application (omega (arith, l))
      ]

resolve-says : (s : L.List ℕ) (i k : ℕ) → Says s i k (resolve_answer s i k)
unfolding resolve_answer resolved_in hit_among scope_at
resolve-says s i k = located-cases s (label_at i k s)
    (λ x. Says s i k (on_located x (λ r. Err r) (λ a n. Ok (resolved_in (byte_at (take n (drop a s)) 0) (part_at (own_at i s) s) (L.◌∷◌ (part_at (common_at s) s) L.[])))))
    (λ r e. inl e) (λ h e f. let g = accepted-good s h e in inr (refl, g, (no-label-exactly s g i k).0 f))
    (λ h e a n f. let g = accepted-good s h e in
    looked g (byte_at (take n (drop a s)) 0) (is-label s g i k a n f) (first_to (Labelled (byte_at (take n (drop a s)) 0)) (part_at (own_at i s) s))
    (first_to (Labelled (byte_at (take n (drop a s)) 0)) (part_at (common_at s) s)) refl refl)
  where
    looked : FormedTable s → (l : ℕ) → IsLabel s i k l → (x y : Hit) → first_to (Labelled l) (part_at (own_at i s) s) ≡ x → first_to (Labelled l) (part_at (common_at s) s) ≡ y
        → Says s i k (Ok (on_hit x (on_hit y None (λ j. Some (resolved.Common 0 j))) (λ j. Some (resolved.Own j))))
    looked g l is (Some j) y e f = (l, is, is-first s g (scope.Own i) l j e)
    looked g l is None (Some j) e f = (l, is, refl, is_none s g (scope.Own i) l e, is-first s g scope.Common l j f)
    looked g l is None None e f = (l, is, is_none s g (scope.Own i) l e, is_none s g scope.Common l f)

-- and what was shown by `item_at` is the label that is looked up: only a 0x00 descriptor has labels, and there is one
module _ (s : L.List ℕ) (i k : ℕ) where
  tagged : (d : L.List ℕ) (b m : ℕ) → list_in Labels d ≡ At b m → tag_of d ≡ 0x00
  unfolding list_in labels_in tagged_rest
  tagged d b m e = go (eqb (tag_of d) 0x00) refl e
    where
      go : (t : Bool) → eqb (tag_of d) 0x00 ≡ t → cond t (after (5 + byte_at d 2) d) None ≡ At b m → tag_of d ≡ 0x00
      go true f e = eqb-true _ _ f
      go false f e = let z : ◌≡◌ {A = ℕ} 0 1 = cc in absurd (omega arith)

  application-there : (j a n : ℕ) → descriptor_at (scope.Own i) j s ≡ At a n → i < count_at kind.Application (loop_at s) s
  unfolding descriptor_at scope_at own_at application_at count_at
  application-there j a n e =
      let q = in_part_has (item_at (size_of kind.Descriptor) j) s (own_at i s) a n e in
      let r = in_part_has (after 9) s (application_at i s) q.0 q.1 q.3 in
      (nth_item (size_of kind.Application) (kinds.kind_of_lem kind.Application) i (loop_at s) s (sound_loop s) r.0 r.1 r.3).0

  label-there : (l : ℕ) → IsLabel s i k l → FormedTable s × ((a : ℕ) × (n : ℕ) × (label_at i k s ≡ At a n) × (byte_at (take n (drop a s)) 0 ≡ l))
  unfolding item_answer item_of repeated_at list_at
  label-there l w =
      let f = found_at s (repeated_at (scope.Own i) w.0 Labels k s) (λ r. Err r) (λ a n. Ok (item_of Labels (take n (drop a s)) a))
      (Ok (item.Label l)) (λ r. not-found r (item.Label l)) w.1 in
      let x = f.1 in
      let q = in_part_has (item_at (size_of (kind_of Labels)) k) s (list_at (scope.Own i) w.0 Labels s) x.0 x.1 x.2 in
      let r = in_part_has (list_in Labels) s (descriptor_at (scope.Own i) w.0 s) q.0 q.1 q.3 in
      let d = sole-place s f.0 i (application-there w.0 r.0 r.1 r.3) in
      let j = d.6 w.0 r.0 r.1 r.3 (tagged (take r.1 (drop r.0 s)) r.2 q.1 r.4) in
      let e : byte_at (take x.1 (drop x.0 s)) 0 ≡ l = cc in
      (f.0, (x.0, x.1, sym (label_is i k s w.0 (d.3 ∙ ap Some (sym j))) ∙ x.2, e))

  -- what the look-up of that label comes to
  looked-up : (l : ℕ) → IsLabel s i k l → resolve_answer s i k ≡ Ok (resolved_in l (part_at (own_at i s) s) (L.◌∷◌ (part_at (common_at s) s) L.[]))
  unfolding resolve_answer
  looked-up l w =
      let q = label-there l w in
      let f = located-at s (label_at i k s) (header_of s) ((accepted-exactly s).1 q.0) q.1.0 q.1.1 q.1.2 in
      rw (sym f, q.1.3)

  no_label : (r : Refusal) → (r ≡ refused 19) × FormedTable s × NoLabel s i k → resolve_answer s i k ≡ Err r
  unfolding resolve_answer
  no_label r w =
      let f = located-none s (label_at i k s) (header_of s) ((accepted-exactly s).1 w.1) ((no-label-exactly s w.1 i k).1 w.2) in
      rw (sym f) (ap Err (sym w.0))

  says_back : (r : Result (Option Resolved) Refusal) → Says s i k r → resolve_answer s i k ≡ r
  unfolding scope_at
  says_back (Err r) (inl e) = resolve-refused s r e i k
  says_back (Err r) (inr w) = no_label r w
  says_back (Ok (Some (resolved.Own j))) (l, is, f) = looked-up l is ∙ ap Ok (sym (own_hit l _ _ j (hit-first s (label-there l is).0 (scope.Own i) l j f)))
  says_back (Ok (Some (resolved.Common n j))) (l, is, z, m, f) =
      let g = (label-there l is).0 in
      looked-up l is ∙ ap Ok (sym (common_hit l _ _ (hit-none s g (scope.Own i) l m) j (hit-first s g scope.Common l j f)) ∙ ap (λ (x : ℕ). Some (resolved.Common x j)) (sym z))
  says_back (Ok None) (l, is, m, n) =
      let g = (label-there l is).0 in
      looked-up l is ∙ ap Ok (sym (no_hit l _ _ (hit-none s g (scope.Own i) l m) (hit-none s g scope.Common l n)))

-- `resolve` ANSWERS EXACTLY WHAT IS SAID: a place where the first 0x02 descriptor with that label stands, shown as such, of the application's own where one of these
-- has the label, else of the common ones; "unresolved" where neither loop has one; the section's own refusal; 19 where there is no such label
pub resolve-exactly : (s : L.List ℕ) (i k : ℕ) (r : Result (Option Resolved) Refusal) → (resolve_answer s i k ≡ r) ↔ Says s i k r
resolve-exactly s i k r = (λ e. subst (Says s i k) e (resolve-says s i k), says_back s i k r)

-- `resolve` ANSWERS 19 EXACTLY WHEN the section is well formed, and there is no application at place i, or its one 0x00 descriptor has no label at place k
pub resolve_nineteen : (s : L.List ℕ) (i k : ℕ) → (number_of_read (resolve_answer s i k) ≡ 19) ↔ (FormedTable s × NoLabel s i k)
resolve_nineteen s i k =
    let x = nineteen-exactly s (label_at i k s) in (
      λ e. let w = x.0 (sym (resolve-number s i k) ∙ e) in (w.0, (no-label-exactly s w.0 i k).0 w.1),
      λ w. resolve-number s i k ∙ x.1 (w.0, (no-label-exactly s w.0 i k).1 w.1),
    )
