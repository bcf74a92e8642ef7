-- What is read of a descriptor, from the facts that code learns on its ways.
use Prim.Native.Nat.{ℕ, ◌+◌, ◌/◌, ◌^◌, ◌<◌}
use mathlib.Core.Path.{◌≡◌, refl, sym, ap, subst, ◌∙◌}
use mathlib.Core.Bool.{Bool, true, false, cond}
use mathlib.Core.List.{List}
use native.Mathlib.Omega.{arith}
use lib.Dec.{eqb}
use borrow.Author.Tests.{eq-eqb, ne_eqb}
use Rattle.wire.specs.Fields.{byte_at, sixteen_at, bits}
use Rattle.ait_descriptors.specs.Descriptor.{tag_of}
use Rattle.ait_descriptors.specs.declared.Described.{Described}
use Rattle.ait_descriptors.specs.declared.Described.TheVariants as described
use Rattle.ait_descriptors.specs.declared.Repeated.{Repeated}
use Rattle.ait_descriptors.specs.Contents.{raw_fields, described_as, described_of, item_of}
use Rattle.ait_descriptors.specs.Tag00.{described00}
use Rattle.ait_descriptors.specs.Tag02.{local_fields, remote_fields, bases_fields, selector_fields, described1, described02}
use Rattle.ait_descriptors.specs.Tag01.{described01}
use Rattle.ait_descriptors.specs.Tag05.{described05}
use Rattle.ait_descriptors.specs.Tag15.{described15}
use Rattle.ait_descriptors.proofs.Laws.Tags.{tags, described_unknown}

-- a byte k past a place that was read
pub byte_past : (x : List ℕ) (k : ℕ) {n m b : ℕ} → b ≡ byte_at x (k + n) → n ≡ m → b ≡ byte_at x (k + m)
byte_past x k e f = e ∙ ap (λ (n : ℕ). byte_at x (k + n)) f

-- the top bit of a byte that was read
pub top-is : {x b : ℕ} → (x ≡ b) × (x < 256) → x / 2 ^ 7 ≡ bits 7 1 b
top-is e = omega arith

module _ (d : List ℕ) where
  pub is-remote : bits 7 1 (byte_at d 5) ≡ 1
      → described.Remote (remote_fields d) ≡ described1 d
  unfolding described1
  is-remote e = rw (eq-eqb (bits 7 1 (byte_at d 5)) 1 e)

  pub is_local : (bits 7 1 (byte_at d 5) ≡ 1 → ⊥) → described.Local (local_fields d) ≡ described1 d
  unfolding described1
  is_local n = rw (ne_eqb (bits 7 1 (byte_at d 5)) 1 n)

  module _ (a : ℕ) where
    pub is-1 : sixteen_at d 2 ≡ 1 → described1 d ≡ described02 d a
    unfolding described02
    is-1 e = rw (eq-eqb (sixteen_at d 2) 1 e)

    pub is-3 : sixteen_at d 2 ≡ 3 → described.Bases (bases_fields d) ≡ described02 d a
    unfolding described02
    is-3 e = rw (ne_eqb (sixteen_at d 2) 1 (omega arith), eq-eqb (sixteen_at d 2) 3 e)

    pub is-other : (sixteen_at d 2 ≡ 1 → ⊥) → (sixteen_at d 2 ≡ 3 → ⊥)
        → described.Selector (selector_fields d a) ≡ described02 d a
    unfolding described02
    is-other m n = rw (ne_eqb (sixteen_at d 2) 1 m, ne_eqb (sixteen_at d 2) 3 n)

-- the item of a sort that a match has told
pub item-is : (w what : Repeated) (x : List ℕ) (a : ℕ) → what ≡ w → item_of w x a ≡ item_of what x a
item-is w what x a e = ap (λ (r : Repeated). item_of r x a) (sym e)

-- what holds of every case holds of what is read of a descriptor
module _ (P : Described → Type 0) (d : List ℕ) (a : ℕ) where
  pub cases-02 : P (described.Remote (remote_fields d)) → P (described.Local (local_fields d))
      → P (described.Bases (bases_fields d)) → P (described.Selector (selector_fields d a)) → P (described02 d a)
  unfolding described02 described1
  cases-02 remote local bases selector = go (eqb (sixteen_at d 2) 1) (eqb (sixteen_at d 2) 3) (eqb (bits 7 1 (byte_at d 5)) 1)
    where
      go : (p q r : Bool) → P (cond p
          (cond r (described.Remote (remote_fields d)) (described.Local (local_fields d)))
          (cond q (described.Bases (bases_fields d)) (described.Selector (selector_fields d a))))
      go true q true = remote
      go true q false = local
      go false true r = bases
      go false false r = selector

  pub cases : (tag_of d ≡ 0x02 → P (described02 d a))
      → ((tag_of d ≡ 0x02 → ⊥) → P (described00 d) × P (described01 d) × P (described05 d)
      × P (described15 d a) × P (described.Raw (raw_fields d a))) → P (described_of d a)
  unfolding described_as
  cases is others = tags (λ t. tag_of d ≡ t → P (described_as t d a))
      (λ e. (others (λ z. omega (arith, e, z))).0)
      (λ e. (others (λ z. omega (arith, e, z))).1)
      is
      (λ e. (others (λ z. omega (arith, e, z))).2)
      (λ e. (others (λ z. omega (arith, e, z))).3)
      (λ t n e. subst P (described_unknown d a t n) (others (λ z. n.2 (sym e ∙ z))).4)
      (tag_of d) refl
