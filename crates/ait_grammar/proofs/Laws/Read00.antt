-- WHAT IS READ OF A 0x00, AND OF ITS PROFILES AND LABELS, IS THEIR VALUE.
use Prim.Native.Nat.{ℕ, ◌+◌, ◌*◌, ◌/◌, ◌%◌, ◌^◌, ◌<◌}
use mathlib.Core.Path.{◌≡◌, refl, sym, ap, ◌∙◌}
use mathlib.Core.List.{List, [], ◌∷◌, ◌++◌, append_assoc}
use native.Mathlib.Nat.{mod-eq_of_lt}
use native.Mathlib.Omega.{arith}
use lib.ListN.{length, take, drop, length-append}
use lib.Seq.{drop_at, take_at}
use Rattle.wire.specs.Fields.{byte_at, sixteen_at, bits, spelled}
use Rattle.wire.specs.Items.{count, items}
use Rattle.wire.specs.Places.{Place, after, bytes, part_at}
use Rattle.wire.proofs.Laws.Fields.{spelled_length, spelled-reads}
use Rattle.ait_grammar.specs.Bytes.{sized8, spell_all}
use Rattle.ait_grammar.specs.Contents.{DescriptorValue, spell_contents, spell_descriptor, FitsDescriptor, of00}
use Rattle.wire.proofs.Laws.Frames.{framed_kind}
use Rattle.ait_descriptors.specs.Tag00.{profile, label, described00, profiles_in, labels_in, profile_of}
use Rattle.ait_descriptors.specs.declared.Described.TheVariants as described
use Rattle.ait_descriptors.specs.declared.Repeated.TheVariants.{Profiles, Labels}
use Rattle.ait_descriptors.specs.Contents.{described_as, described_of, item_of}
use Rattle.ait_descriptors.proofs.Laws.Lists.{tagged_is, profiles-is}
use Rattle.ait_descriptors.proofs.Laws.Tags.{described-at}
use Rattle.ait_grammar.specs.Tag00.{Value00, spell_profile, spell00, Fits00, ProfileValue, FitsProfile}
use Rattle.ait_grammar.proofs.Laws.Forms.{Form, field, seen}
use Rattle.ait_grammar.proofs.Laws.Framed.{fixed_form}
use Rattle.ait_grammar.proofs.Laws.Repeated.{filled-count}
use Rattle.ait_grammar.proofs.Laws.Tag00.{profile_form}
use Rattle.ait_grammar.proofs.Laws.Shown.{first_said, byte-behind, tag-said, byte-said, after-said, part-said, byte_last}
use Rattle.ait_descriptors.specs.declared.Item.TheVariants as item
use Rattle.ait_grammar.specs.Shown00.{shown00, profile_shown}

-- labels are bytes one after another
abbrev pub alone : ℕ → List ℕ
alone v = v ∷ []

bytes-spelled : (xs : List ℕ) → spell_all alone xs ≡ xs
unfolding spell_all
bytes-spelled [] = refl
bytes-spelled (v ∷ xs) = ap (λ (l : List ℕ). v ∷ l) (bytes-spelled xs)

pub label_form : Form (λ y. length y ≡ 1) alone (λ v. v < 0x100)
unfolding spelled
label_form = seen (field 1) (λ v. v) alone (λ v. v < 0x100) (λ v l. ap alone (sym (byte v l))) (λ v l. l) (λ v l. (v, refl, l))
  where
    byte : (v : ℕ) → v < 256 ^ 1 → v / 256 ^ 0 % 256 ≡ v
    byte v l = omega arith

pub profile-read : (p : ProfileValue) → FitsProfile p → (a : ℕ) → item_of Profiles (spell_profile p) a ≡ profile_shown p
unfolding item_of profile_of spell_profile
profile-read p f a =
    let q₁ : List ℕ = spelled 2 p.profile in
    let q₂ : List ℕ = spelled 1 p.major in
    let q₃ : List ℕ = spelled 1 p.minor in
    let q₄ : List ℕ = spelled 1 p.micro in
    let l₁ = spelled_length 2 p.profile in
    let l₂ = spelled_length 1 p.major in
    let l₃ = spelled_length 1 p.minor in
    let n₂ : length (q₁ ++ q₂) ≡ 3 = rw length-append (omega (arith, l₁, l₂)) in
    let n₃ : length ((q₁ ++ q₂) ++ q₃) ≡ 4 = rw length-append (omega (arith, n₂, l₃)) in
    let s₂ : q₁ ++ (q₂ ++ (q₃ ++ q₄)) ≡ (q₁ ++ q₂) ++ (q₃ ++ q₄) = sym (append_assoc q₁ q₂ (q₃ ++ q₄)) in
    let s₃ : q₁ ++ (q₂ ++ (q₃ ++ q₄)) ≡ ((q₁ ++ q₂) ++ q₃) ++ q₄ = s₂ ∙ sym (append_assoc (q₁ ++ q₂) q₃ q₄) in
    let b₁ : sixteen_at (q₁ ++ (q₂ ++ (q₃ ++ q₄))) 0 ≡ p.profile = spelled-reads 2 p.profile (q₂ ++ (q₃ ++ q₄)) ∙ mod-eq_of_lt f.profile in
    let b₂ : byte_at (q₁ ++ (q₂ ++ (q₃ ++ q₄))) 2 ≡ p.major = byte-behind p.major 2 q₁ (q₃ ++ q₄) f.major l₁ in
    let b₃ : byte_at (q₁ ++ (q₂ ++ (q₃ ++ q₄))) 3 ≡ p.minor = ap (λ (y : List ℕ). byte_at y 3) s₂ ∙ byte-behind p.minor 3 (q₁ ++ q₂) q₄ f.minor n₂ in
    let b₄ : byte_at (q₁ ++ (q₂ ++ (q₃ ++ q₄))) 4 ≡ p.micro = ap (λ (y : List ℕ). byte_at y 4) s₃ ∙ byte_last p.micro 4 ((q₁ ++ q₂) ++ q₃) f.micro n₃ in
    λ i. item.Profile (record { number = b₁ i; major = b₂ i; minor = b₃ i; micro = b₄ i })

pub label-read : (v a : ℕ) → item_of Labels (alone v) a ≡ item.Label v
unfolding item_of
label-read v a = refl

module _ (d : DescriptorValue) (f : FitsDescriptor d) where
  abbrev x : List ℕ
  x = spell_descriptor d

  abbrev c : List ℕ
  c = spell_contents d.contents

  module _ (v : Value00) (h : d.contents ≡ of00 v) (e : d.tag ≡ 0x00) (g : Fits00 v) where
    abbrev profs : List ℕ
    profs = spell_all spell_profile v.profiles

    abbrev n : ℕ
    n = length profs

    abbrev flags : ℕ
    flags = v.bound * 128 + v.visibility * 32 + v.reserved

    abbrev q₁ : List ℕ
    q₁ = spelled 1 flags

    abbrev q₂ : List ℕ
    q₂ = spelled 1 v.priority

    spelt-00 : c ≡ sized8 profs ++ (q₁ ++ (q₂ ++ v.labels))
    unfolding spell_contents spell00
    spelt-00 = ap spell_contents h

    spelt₁ : c ≡ (sized8 profs ++ q₁) ++ (q₂ ++ v.labels)
    spelt₁ = spelt-00 ∙ sym (append_assoc (sized8 profs) q₁ (q₂ ++ v.labels))

    spelt₂ : c ≡ ((sized8 profs ++ q₁) ++ q₂) ++ v.labels
    spelt₂ = spelt₁ ∙ sym (append_assoc (sized8 profs ++ q₁) q₂ v.labels)

    -- a length byte and the profiles; then a byte of flags, and one of priority
    len₀ : length (sized8 profs) ≡ 1 + n
    len₀ = let l = spelled_length 1 n in rw length-append (omega (arith, l))

    len₁ : length (sized8 profs ++ q₁) ≡ 2 + n
    len₁ = let l = spelled_length 1 flags in rw length-append (omega (arith, l, len₀))

    len₂ : length ((sized8 profs ++ q₁) ++ q₂) ≡ 3 + n
    len₂ = let l = spelled_length 1 v.priority in rw length-append (omega (arith, l, len₁))

    len-all : length c ≡ 3 + n + length v.labels
    len-all = ap length spelt₂ ∙ rw length-append (omega (arith, len₂))

    profiles_length_lem : byte_at x 2 ≡ n
    profiles_length_lem =
        byte-said d f 0 ∙ ap (λ (y : List ℕ). byte_at y 0) (spelt-00 ∙ append_assoc (spelled 1 n) profs (q₁ ++ (q₂ ++ v.labels)))
        ∙ first_said n (profs ++ (q₁ ++ (q₂ ++ v.labels))) g.profiles_length

    flags-small : flags < 256
    flags-small = let a = g.bound in let b = g.visibility in let r = g.reserved in omega arith

    flags-said : byte_at x (3 + byte_at x 2) ≡ flags
    flags-said =
        let z : 3 + byte_at x 2 ≡ 2 + (1 + n) = omega (arith, profiles_length_lem) in
        ap (byte_at x) z ∙ byte-said d f (1 + n) ∙ ap (λ (y : List ℕ). byte_at y (1 + n)) spelt-00 ∙ byte-behind flags (1 + n) (sized8 profs) (q₂ ++ v.labels) flags-small len₀

    priority-said : byte_at x (4 + byte_at x 2) ≡ v.priority
    priority-said =
        let z : 4 + byte_at x 2 ≡ 2 + (2 + n) = omega (arith, profiles_length_lem) in
        ap (byte_at x) z ∙ byte-said d f (2 + n) ∙ ap (λ (y : List ℕ). byte_at y (2 + n)) spelt₁ ∙ byte-behind v.priority (2 + n) (sized8 profs ++ q₁) v.labels g.priority len₁

    profiles_part : part_at (bytes 3 (byte_at x 2) x) x ≡ profs
    profiles_part =
        let u : drop 1 c ≡ profs ++ (q₁ ++ (q₂ ++ v.labels)) =
        ap (drop 1) (spelt-00 ∙ append_assoc (spelled 1 n) profs (q₁ ++ (q₂ ++ v.labels))) ∙ drop_at (spelled 1 n) (profs ++ (q₁ ++ (q₂ ++ v.labels))) 1 (spelled_length 1 n) in
        ap (λ (m : ℕ). part_at (bytes 3 m x) x) profiles_length_lem ∙ part-said d f 1 n (rw len-all (omega arith))
        ∙ ap (take n) u ∙ take_at profs (q₁ ++ (q₂ ++ v.labels)) n refl

    pub profiles-listed : part_at (profiles_in x) x ≡ profs
    profiles-listed = ap (λ (p : Place). part_at p x) (sym (profiles-is x (tag-said d f ∙ e))) ∙ profiles_part

    profiles-said : count profile (part_at (profiles_in x) x) ≡ length v.profiles
    unfolding count
    profiles-said =
        ap (λ (y : List ℕ). length (items profile y)) profiles-listed ∙ filled-count profile (framed_kind 5 _) (fixed_form 5 (omega arith) profile_form) v.profiles g.profiles

    labels_part : part_at (after (5 + byte_at x 2) x) x ≡ v.labels
    labels_part =
        let z : 5 + byte_at x 2 ≡ 2 + (3 + n) = omega (arith, profiles_length_lem) in
        ap (λ (m : ℕ). part_at (after m x) x) z ∙ after-said d f (3 + n) (rw len-all (omega arith))
        ∙ ap (drop (3 + n)) spelt₂ ∙ drop_at ((sized8 profs ++ q₁) ++ q₂) v.labels (3 + n) len₂

    pub labels-listed : part_at (labels_in x) x ≡ spell_all alone v.labels
    unfolding labels_in
    labels-listed =
        ap (λ (p : Place). part_at p x) (sym (tagged_is x 0x00 (5 + byte_at x 2) (tag-said d f ∙ e))) ∙ labels_part ∙ sym (bytes-spelled v.labels)

    labels-said : count label (part_at (labels_in x) x) ≡ length v.labels
    unfolding count
    labels-said = ap (λ (y : List ℕ). length (items label y)) labels-listed ∙ filled-count label (framed_kind 1 _) (fixed_form 1 (omega arith) label_form) v.labels g.labels

    pub shown-00 : (a : ℕ) → described_of x a ≡ described.Application (shown00 v)
    unfolding described_as described00
    shown-00 a =
        let b : bits 7 1 (byte_at x (3 + byte_at x 2)) ≡ v.bound = omega (arith, flags-said, g.bound, g.visibility, g.reserved) in
        let s : bits 5 2 (byte_at x (3 + byte_at x 2)) ≡ v.visibility = omega (arith, flags-said, g.bound, g.visibility, g.reserved) in
        sym (described-at x a 0x00 (tag-said d f ∙ e))
        ∙ (λ i. described.Application (record { profiles = profiles-said i; bound = b i; visibility = s i; priority = priority-said i; labels = labels-said i }))
