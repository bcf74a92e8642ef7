-- THE TAGS THAT ARE KNOWN: what holds under each of them, and under any other, holds under every tag. And what is said by a tag, where the tag is known.
use Prim.Native.Nat.{ℕ}
use mathlib.Core.Path.{◌≡◌, refl, sym, ap, subst}
use mathlib.Core.Bool.{Bool, true, false}
use mathlib.Core.List.{List}
use lib.Dec.{eqb}
use borrow.Author.Tests.{ne_eqb, eqb-true, eqb-false}
use Rattle.ait_descriptors.specs.declared.Described.TheVariants as described
use Rattle.ait_descriptors.specs.Descriptor.{tag_of}
use Rattle.ait_descriptors.specs.Contents.{contents_good, raw_fields, described_as, described_of}

-- a tag that is not known
abbrev pub Unknown : ℕ → Type 0
Unknown t = (t ≡ 0x00 → ⊥) × (t ≡ 0x01 → ⊥) × (t ≡ 0x02 → ⊥) × (t ≡ 0x05 → ⊥) × (t ≡ 0x15 → ⊥)

module _ (P : ℕ → Type 0) where
  one : (k t : ℕ) → P k → ((t ≡ k → ⊥) → P t) → P t
  one k t p q = go (eqb t k) refl
    where
      go : (b : Bool) → eqb t k ≡ b → P t
      go true e = subst P (sym (eqb-true t k e)) p
      go false e = q (eqb-false t k e)

  pub tags : P 0x00 → P 0x01 → P 0x02 → P 0x05 → P 0x15 → ((t : ℕ) → Unknown t → P t) → (t : ℕ) → P t
  tags p₀ p₁ p₂ p₅ p₁₅ other t =
      one 0x00 t p₀ (λ n₀.
      one 0x01 t p₁ (λ n₁.
      one 0x02 t p₂ (λ n₂.
      one 0x05 t p₅ (λ n₅.
      one 0x15 t p₁₅ (λ n₁₅. other t (n₀, n₁, n₂, n₅, n₁₅))))))

-- well formed
module _ (t : ℕ) (c : List ℕ) where
  pub good-at : (k : ℕ) → t ≡ k → contents_good k c ≡ contents_good t c
  good-at k e = ap (λ (u : ℕ). contents_good u c) (sym e)

  -- 0x15 has nothing that could be malformed, as an unknown one
  pub good-other : (t ≡ 0x00 → ⊥) → (t ≡ 0x01 → ⊥) → (t ≡ 0x02 → ⊥) → (t ≡ 0x05 → ⊥) → true ≡ contents_good t c
  unfolding contents_good
  good-other n₀ n₁ n₂ n₅ = rw (ne_eqb t 0x00 n₀, ne_eqb t 0x01 n₁, ne_eqb t 0x02 n₂, ne_eqb t 0x05 n₅)

  pub good_unknown : Unknown t → true ≡ contents_good t c
  good_unknown n = good-other n.0 n.1 n.2 n.3

-- what is read
module _ (d : List ℕ) (a : ℕ) where
  pub described-at : (k : ℕ) → tag_of d ≡ k → described_as k d a ≡ described_of d a
  described-at k e = ap (λ (u : ℕ). described_as u d a) (sym e)

  pub described_unknown : (t : ℕ) → Unknown t → described.Raw (raw_fields d a) ≡ described_as t d a
  unfolding described_as
  described_unknown t n = rw (ne_eqb t 0x00 n.0, ne_eqb t 0x01 n.1, ne_eqb t 0x02 n.2, ne_eqb t 0x05 n.3, ne_eqb t 0x15 n.4)
