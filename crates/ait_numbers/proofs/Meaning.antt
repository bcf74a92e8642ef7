-- What the numbers mean: a class bears its code; an item is of the kind that was asked for; the number of the common loop is no application's.
use Prim.Native.Nat.{ℕ, ◌<◌}
use mathlib.Core.Path.{◌≡◌, refl, sym, ap, ◌∙◌}
use mathlib.Core.Bool.{Bool, true, false, cond}
use mathlib.Core.List.{List}
use Rattle.std.proofs.Common.{Some, None, Ok}
use native.Mathlib.Omega.{arith}
use lib.Dec.{eqb}
use lib.ListN.{take, drop}
use borrow.Author.Tests.{eqb-true}
use Rattle.wire.specs.Items as wire
use Rattle.wire.specs.Items.{items_in}
use Rattle.wire.specs.Places.{Place, At, in_part, part_at, first, first_from}
use Rattle.wire.proofs.Laws.Meaning.{count-few}
use Rattle.wire.proofs.Laws.Parts.{item-past, part-few}
use Rattle.section.specs.declared.Header.{Header}
use Rattle.ait_descriptors.specs.Tag15.{described15}
use Rattle.ait_descriptors.specs.Tag05.{described05}
use Rattle.ait_descriptors.specs.Tag01.{described01}
use Rattle.ait_descriptors.specs.declared.Kind.TheVariants as kind
use Rattle.ait_descriptors.specs.Kinds.{size_of, count_at}
use Rattle.ait_descriptors.proofs.Laws.Kinds.{kind_of_lem}
use Rattle.ait_descriptors.proofs.Laws.Records.{cases-02, cases}
use Rattle.ait_read.specs.declared.Control.TheVariants as control
use Rattle.ait_read.specs.Acceptance.{table_judged}
use Rattle.ait_read.specs.declared.Scope.{Scope}
use Rattle.ait_descriptors.specs.declared.Repeated.{Repeated}
use Rattle.ait_descriptors.specs.declared.Repeated.TheVariants as repeated
use Rattle.ait_descriptors.specs.declared.Described.{Described}
use Rattle.ait_read.specs.Records.{control_of}
use Rattle.ait_descriptors.specs.Tag00.{described00}
use Rattle.ait_descriptors.specs.Contents.{described_of, repeated_count, kind_of, list_in}
use Rattle.ait_descriptors.specs.declared.Item.{Item}
use Rattle.ait_read.specs.Labels.{label_at}
use Rattle.ait_read.specs.Places.{loop_at, application_at, own_at, descriptor_at}
use Rattle.ait_read.specs.Answers.{application_answer, descriptor_answer, resolve_answer}
use Rattle.ait_read.proofs.Laws.Acceptance.{sized, judged_has, located-none, located-at}
use Rattle.ait_read.proofs.Laws.Counts.{item-there, list_count}
use Rattle.ait_numbers.specs.declared.DescriptorOut.{DescriptorOut}
use Rattle.ait_numbers.specs.Classes.{control_number}
use Rattle.ait_numbers.specs.Reading.{application_out, described_out, descriptor_out, asked_by, answer_asked, item_asked, label_out}

-- "AUTOSTART 1, PRESENT 2, DESTROY 3, KILL 4, REMOTE 6, else reserved": a code that is not reserved is its class's number
pub bears_its-code : (code : ℕ) → (control_of code ≡ control.Reserved → ⊥) → control_number (control_of code) ≡ code
unfolding control_of control_number
bears_its-code code n = go (eqb code 1) (eqb code 2) (eqb code 3) (eqb code 4) (eqb code 6) refl refl refl refl refl n
  where
    go : (a b c d e : Bool) → eqb code 1 ≡ a → eqb code 2 ≡ b → eqb code 3 ≡ c → eqb code 4 ≡ d → eqb code 6 ≡ e
        → (cond a control.Autostart (cond b control.Present (cond c control.Destroy (cond d control.Kill (cond e control.Remote control.Reserved)))) ≡ control.Reserved → ⊥)
        → control_number (cond a control.Autostart (cond b control.Present (cond c control.Destroy (cond d control.Kill (cond e control.Remote control.Reserved))))) ≡ code
    go true b c d e p q r s t n = sym (eqb-true code 1 p)
    go false true c d e p q r s t n = sym (eqb-true code 2 q)
    go false false true d e p q r s t n = sym (eqb-true code 3 r)
    go false false false true e p q r s t n = sym (eqb-true code 4 s)
    go false false false false true p q r s t n = sym (eqb-true code 6 t)
    go false false false false false p q r s t n = absurd (n refl)

-- "else reserved": the number of all other codes is a reserved code itself
pub reserved-is-reserved : control_of (control_number control.Reserved) ≡ control.Reserved
unfolding control_of control_number
reserved-is-reserved = refl

-- the number by which items are asked for
abbrev number_of : Repeated → ℕ
number_of repeated.Profiles = 1
number_of repeated.Names = 2
number_of repeated.Bases = 5
number_of repeated.Identifiers = 7
number_of repeated.Labels = 10

asked : (w : Repeated) → asked_by (number_of w) ≡ Some w
unfolding asked_by
asked repeated.Profiles = refl
asked repeated.Names = refl
asked repeated.Bases = refl
asked repeated.Identifiers = refl
asked repeated.Labels = refl

-- what a descriptor counts are the items of its own kind, and its labels those of a kind of their own
module _ (x : List ℕ) (a k : ℕ) where
  abbrev Counts : Described → Type 0
  Counts d = (k < (described_out d).count → (w : Repeated) × (number_of w ≡ (described_out d).kind) × (k < repeated_count w x))
      × (k < (described_out d).labels → k < repeated_count repeated.Labels x)

  never : {A : Type 0} → k < 0 → A
  never l = absurd (omega (arith, l))

  counted : Counts (described_of x a)
  unfolding described00 described01 described05 described15 repeated_count count_at size_of kind_of list_in
  counted = cases Counts x a
      (λ t. cases-02 Counts x a (never, never) (never, never) ((λ l. (repeated.Bases, refl, l)), never) (never, never))
      (λ n. (
        ((λ l. (repeated.Profiles, refl, l)), λ l. l),
        ((λ l. (repeated.Names, refl, l)), never),
        ((λ l. (repeated.Identifiers, refl, l)), never),
        (never, never),
        (never, never),
      ))

module _ (s : List ℕ) (h : Header) (e : table_judged s ≡ Ok h) where
  -- an item below a list's count is found by the list's number
  listed : (o : Scope) (j a n k : ℕ) → descriptor_at o j s ≡ At a n → (w : Repeated) → k < repeated_count w (take n (drop a s))
      → (y : Item) × (item_asked s o j (number_of w) k ≡ Ok y)
  listed o j a n k f w l =
      let c = list_count s o j w a n f in
      let t = item-there s h e o j w k (rw c l) in
      (t.0, ap (answer_asked s o j k) (asked w) ∙ t.1)

  -- what the answer d for a descriptor promises of its items
  abbrev Promised : Scope → (j k : ℕ) → DescriptorOut → Type 0
  Promised o j k d = (k < d.count → (y : Item) × (item_asked s o j d.kind k ≡ Ok y)) × (k < d.labels → (y : Item) × (item_asked s o j 10 k ≡ Ok y))

  -- OF A DESCRIPTOR d the items 0 to d.count - 1 are found by d.kind, and the labels 0 to d.labels - 1 by 10.
  pub items-by_kind : (o : Scope) (j k : ℕ) → Promised o j k (descriptor_out (descriptor_answer s o j))
  unfolding descriptor_answer
  items-by_kind o j k = go (descriptor_at o j s) refl
    where
      go : (p : Place) → descriptor_at o j s ≡ p → Promised o j k (descriptor_out (descriptor_answer s o j))
      go None f = rw (sym (located-none s _ h e f)) (never s 0 k, never s 0 k)
      go (Some p) f =
          let c = counted (take p.size (drop p.start s)) p.start k in
          rw (sym (located-at s _ h e p.start p.size f))
          ((λ l. let w = c.0 l in rw (sym w.1) (listed o j p.start p.size k f w.0 w.2)), λ l. listed o j p.start p.size k f repeated.Labels (c.1 l))

  -- the common loop's number, asked for as an application's
  nothing-there : application_at 0xFFFFFFFFFFFFFFFF s ≡ None
  unfolding application_at
  nothing-there =
      let l = count-few (size_of kind.Application) (part_at (loop_at s) s) in
      let m = part-few (loop_at s) s in
      let z = sized s h (judged_has s h e).0 in
      item-past (size_of kind.Application) (kind_of_lem kind.Application) s 0xFFFFFFFFFFFFFFFF (loop_at s) (omega (arith, l, m, z.1))

  -- "No such place"
  pub common-is-no-application : (application_out (application_answer s 0xFFFFFFFFFFFFFFFF)).refusal ≡ 19
  unfolding application_answer
  common-is-no-application = rw (sym (located-none s _ h e nothing-there))

  no-label-there : (k : ℕ) → label_at 0xFFFFFFFFFFFFFFFF k s ≡ None
  unfolding label_at own_at in_part part_at first first_from wire.items items_in
  no-label-there k = rw nothing-there

  pub common_has-no-labels : (k : ℕ) → (label_out (resolve_answer s 0xFFFFFFFFFFFFFFFF k)).refusal ≡ 19
  unfolding resolve_answer
  common_has-no-labels k = rw (sym (located-none s _ h e (no-label-there k)))
