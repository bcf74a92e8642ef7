-- WHAT THE CALLS BY PLACE ANSWER ARE THE VALUES' FIELDS. A well-formed section s says one table; here g is that, and each call shows its values, in their order.
use Prim.Native.Nat.{ℕ, zero, suc, ◌+◌, ◌-◌, ◌*◌, ◌≤◌}
use mathlib.Core.Path.{◌≡◌, refl, sym, ap, subst, ◌∙◌}
use mathlib.Core.List.{List, [], ◌∷◌, map}
use Rattle.std.proofs.Common.{Ok}
use native.Mathlib.Omega.{arith}
use lib.ListN.{length, take, drop, length-map, length-append}
use Rattle.wire.specs.Items.{count, items}
use Rattle.wire.specs.Places.{Place, At, after, in_part, part_at}
use Rattle.wire.proofs.Laws.Finders.{after-at}
use Rattle.wire.proofs.Laws.Loops.{tail}
use Rattle.wire.proofs.Laws.Parts.{part-at, part-within}
use Rattle.wire.proofs.Laws.Frames.{framed_kind}
use Rattle.section.specs.Header.{header_of, body_of}
use Rattle.ait_descriptors.specs.declared.Kind.TheVariants as kind
use Rattle.ait_descriptors.specs.Kinds.{application, size_of, count_at}
use Rattle.ait_descriptors.specs.Descriptor.{descriptor}
use Rattle.ait_descriptors.specs.Tag00.{profile, label}
use Rattle.ait_descriptors.specs.Tag01.{name}
use Rattle.ait_descriptors.specs.Tag02.{base, extension, extensions_in}
use Rattle.ait_descriptors.specs.Tag05.{identifier}
use Rattle.ait_descriptors.proofs.Laws.Kinds.{application_kind, extension_kind, kind_of_lem}
use Rattle.ait_read.specs.declared.Scope.{Scope}
use Rattle.ait_read.specs.declared.Scope.TheVariants as scope
use Rattle.ait_descriptors.specs.declared.Repeated.{Repeated}
use Rattle.ait_descriptors.specs.declared.Repeated.TheVariants.{Profiles, Labels, Names, Bases, Identifiers}
use Rattle.ait_descriptors.specs.declared.Item.TheVariants as item
use Rattle.ait_read.specs.Acceptance.{table_judged}
use Rattle.ait_read.specs.Places.{common_at, loop_at, application_at, own_at, scope_at, descriptor_at, list_at, repeated_at, extensions_at, extension_at}
use Rattle.ait_descriptors.specs.Contents.{list_in, kind_of, item_of}
use Rattle.ait_read.specs.Records.{application_of, class_of, control_of}
use Rattle.ait_read.specs.Answers.{application_answer, descriptor_answer, item_answer, extension_answer, read_table}
use Rattle.ait_read.proofs.Laws.Exact as reading
use Rattle.ait_read.proofs.Laws.Acceptance.{located-at}
use Rattle.ait_read.proofs.Laws.Places.{sound_loop, sound_scope, sound-descriptor, sound-list_at, sound_repeated, sound-extensions, sound-extensions_in}
use Rattle.ait_descriptors.proofs.Laws.Lists.{sound-list}
use Rattle.ait_read.proofs.Laws.Made.{common_part, loop_part, own_part}
use Rattle.ait_body.specs.Body.{WellFormed, own_loop}
use Rattle.ait_grammar.specs.Bytes.{Each, spell_all, sized8}
use Rattle.wire.proofs.Laws.Fields.{spelled_length}
use Rattle.ait_grammar.specs.Tag00.{ProfileValue, Value00, spell_profile, FitsProfile}
use Rattle.ait_grammar.specs.Tag01.{NameValue, spell_name, FitsName}
use Rattle.ait_grammar.specs.Tag02.{Value02, SelectorValue, BaseValue, bases, spell_base, FitsBase, FitsSelector}
use Rattle.ait_grammar.specs.Tag05.{IdentifierValue, spell_identifier, FitsIdentifier}
use Rattle.ait_grammar.specs.Contents.{ContentsValue, DescriptorValue, of00, of01, of02, of05, spell_contents, spell_descriptor, FitsContents, FitsDescriptor}
use Rattle.ait_grammar.specs.Table.{ApplicationValue, TableValue, FitsApplication, Sole00, spell_application}
use Rattle.ait_grammar.specs.Good.{GoodTable}
use Rattle.ait_grammar.specs.Span.{span}
use Rattle.ait_grammar.specs.Shown00.{profile_shown}
use Rattle.ait_grammar.specs.Shown01.{name_shown}
use Rattle.ait_grammar.specs.Shown02.{base_shown}
use Rattle.ait_grammar.specs.Shown05.{identifier_shown}
use Rattle.ait_grammar.specs.Shown.{ValueAt, DescriptorsOf, application_shown, descriptor_shown}
use Rattle.ait_grammar.proofs.Laws.Placed.{value_found}
use Rattle.ait_grammar.proofs.Laws.Contents.{loop-items}
use Rattle.ait_grammar.proofs.Laws.Sole.{sole_good, sole_form}
use Rattle.ait_grammar.proofs.Laws.Applications.{applications-items, both-each}
use Rattle.ait_grammar.proofs.Laws.Loops.{common_loop_lem, application_loop_lem, own_loop_lem, organisation-said, number-said, code-said}
use Rattle.ait_grammar.proofs.Laws.Framed.{fixed_form}
use Rattle.ait_grammar.proofs.Laws.Repeated.{filled-items}
use Rattle.ait_grammar.proofs.Laws.Tag00.{profile_form}
use Rattle.ait_grammar.proofs.Laws.Tag01.{name_form}
use Rattle.ait_grammar.proofs.Laws.Bases.{base_kind, base_form, extension_form}
use Rattle.ait_grammar.proofs.Laws.Tag05.{identifier_form}
use Rattle.ait_grammar.proofs.Laws.Read00.{alone, label_form, profiles-listed, labels-listed, profile-read, label-read}
use Rattle.ait_grammar.proofs.Laws.Read01.{names-listed, name-read}
use Rattle.ait_grammar.proofs.Laws.Read02.{bases-listed, base_read, extensions-listed, extension-read}
use Rattle.ait_grammar.proofs.Laws.Read05.{identifiers-listed, identifier-read}
use Rattle.ait_grammar.proofs.Laws.Described.{descriptor-read}
use Rattle.ait_grammar.proofs.Exact.{good-formed}

-- the one at a place keeps what each keeps
pub each_at : {A : Type 0} (P : A → Type 0) (k : ℕ) (vs : List A) (v : A) → Each P vs → ValueAt k vs v → P v
each_at P k [] v f e = absurd e
each_at P zero (x ∷ vs) v f e = rw (← e) f.0
each_at P (suc k) (x ∷ vs) v f e = each_at P k vs v f.1 e

-- WHAT IS READ OF AN APPLICATION'S BYTES IS ITS VALUE
module _ (v : ApplicationValue) (f : FitsApplication v) where
  long : 9 ≤ length (spell_application v)
  unfolding spell_application
  long =
      let a = spelled_length 4 v.organisation in
      let b = spelled_length 2 v.number in
      let c = spelled_length 1 v.code in
      let d = spelled_length 2 (v.reserved * 4096 + length (spell_all spell_descriptor v.descriptors)) in
      rw (length-append, length-append, length-append, length-append) (omega arith)

  own-counted : count_at kind.Descriptor (after 9 (spell_application v)) (spell_application v) ≡ length v.descriptors
  unfolding count_at size_of count
  own-counted =
      let x = spell_application v in
      ap (λ (p : Place). length (items descriptor (part_at p x))) (after-at 9 x long)
      ∙ ap (λ (l : List ℕ). length (items descriptor l)) (part-at x 9 (length x - 9) ∙ tail x 9 ∙ own_loop_lem v f)
      ∙ ap length (loop-items v.descriptors f.descriptors) ∙ length-map v.descriptors spell_descriptor

  pub application-read : application_of (spell_application v) ≡ application_shown v
  unfolding application_of
  application-read = λ i. record {
    organisation = organisation-said v f i;
    number = number-said v f i;
    class = class_of (number-said v f i);
    code = code-said v f i;
    control = control_of (code-said v f i);
    descriptors = own-counted i;
  }

module _ (s : List ℕ) (g : GoodTable s) where
  abbrev t : TableValue
  t = g.table

  accepted : table_judged s ≡ Ok (header_of s)
  accepted = (reading.accepted-exactly s).1 (good-formed s g)

  sized : 12 ≤ length s
  sized = let e = g.section.exact in let l = g.section.least in omega arith

  formed : WellFormed (body_of s)
  formed = (good-formed s g).body

  common-spelled : part_at (common_at s) s ≡ spell_all spell_descriptor t.common
  common-spelled = common_part s sized formed ∙ rw g.body.spelt (common_loop_lem t g.body.fits)

  loop-spelled : part_at (loop_at s) s ≡ spell_all spell_application t.applications
  loop-spelled = loop_part s sized formed ∙ rw g.body.spelt (application_loop_lem t g.body.fits)

  apart : items application (spell_all spell_application t.applications) ≡ map spell_application t.applications
  apart =
      applications-items sole_good Sole00 sole_form t.applications
      (both-each FitsApplication (λ (a : ApplicationValue). Sole00 a.descriptors) t.applications g.body.fits.applications g.body.sole)

  -- `read` COUNTS THE VALUES
  pub common-counted : (read_table (header_of s) s).common ≡ length t.common
  unfolding read_table count_at size_of count
  common-counted =
      ap (λ (l : List ℕ). length (items descriptor l)) common-spelled
      ∙ ap length (loop-items t.common g.body.fits.common) ∙ length-map t.common spell_descriptor

  pub applications-counted : (read_table (header_of s) s).applications ≡ length t.applications
  unfolding read_table count_at size_of count
  applications-counted = ap (λ (l : List ℕ). length (items application l)) loop-spelled ∙ ap length apart ∙ length-map t.applications spell_application

  module _ (i : ℕ) (v : ApplicationValue) (e : ValueAt i t.applications v) where
    its : FitsApplication v
    its = each_at FitsApplication i t.applications v g.body.fits.applications e

    -- where the application lies, and that its bytes are the value's
    found : (c : ℕ) × (application_at i s ≡ At c (length (spell_application v))) × (take (length (spell_application v)) (drop c s) ≡ spell_application v)
    unfolding application_at size_of
    found = value_found spell_application application application_kind t.applications apart i v e (loop_at s) s (sound_loop s) loop-spelled

    -- `application_at` SHOWS THE VALUE
    pub application-shown : application_answer s i ≡ Ok (application_shown v)
    unfolding application_answer
    application-shown =
        let f = found in
        rw (sym (located-at s (application_at i s) (header_of s) accepted f.0 (length (spell_application v)) f.1), f.2)
        (ap Ok (application-read v its))

    -- its own descriptors, spelled end to end
    own-spelled : part_at (own_at i s) s ≡ spell_all spell_descriptor v.descriptors
    own-spelled =
        let f = found in
        own_part s sized formed i f.0 (length (spell_application v)) f.1 ∙ ap own_loop f.2 ∙ own_loop_lem v its

  -- the descriptors of a scope, spelled end to end
  scope-spelled : (o : Scope) (ds : List DescriptorValue) → DescriptorsOf t o ds → (part_at (scope_at o s) s ≡ spell_all spell_descriptor ds) × Each FitsDescriptor ds
  unfolding scope_at
  scope-spelled scope.Common ds e = (common-spelled ∙ ap (spell_all spell_descriptor) e, rw (← e) g.body.fits.common)
  scope-spelled (scope.Own i) ds e = (own-spelled i e.0 e.1 ∙ ap (spell_all spell_descriptor) e.2, rw (← e.2) (its i e.0 e.1).descriptors)

  module _ (o : Scope) (ds : List DescriptorValue) (of : DescriptorsOf t o ds) (j : ℕ) (d : DescriptorValue) (e : ValueAt j ds d) where
    fits-here : FitsDescriptor d
    fits-here = each_at FitsDescriptor j ds d (scope-spelled o ds of).1 e

    -- where the descriptor lies, and that its bytes are the value's
    pub descriptor-found : (c : ℕ) × (descriptor_at o j s ≡ At c (length (spell_descriptor d))) × (take (length (spell_descriptor d)) (drop c s) ≡ spell_descriptor d)
    unfolding descriptor_at size_of
    descriptor-found =
        let q = scope-spelled o ds of in
        value_found spell_descriptor descriptor (kind_of_lem kind.Descriptor) ds (loop-items ds q.1) j d e (scope_at o s) s (sound_scope o s) q.0

    -- `descriptor_at` SHOWS THE VALUE, its spans counted from where it lies
    pub descriptor-shown : descriptor_answer s o j ≡ Ok (descriptor_shown d descriptor-found.0)
    unfolding descriptor_answer
    descriptor-shown =
        let f = descriptor-found in
        rw (sym (located-at s (descriptor_at o j s) (header_of s) accepted f.0 (length (spell_descriptor d)) f.1), f.2)
        (ap Ok (descriptor-read d fits-here f.0))

    -- the items of a list that its values spell
    module _ {A : Type 0} (what : Repeated) (spell : A → List ℕ) (vs : List A) (are : items (size_of (kind_of what)) (spell_all spell vs) ≡ map spell vs)
        (part : part_at (list_in what (spell_descriptor d)) (spell_descriptor d) ≡ spell_all spell vs) (k : ℕ) (w : A) (at : ValueAt k vs w) where
      list-spelled : part_at (list_at o j what s) s ≡ spell_all spell vs
      unfolding list_at
      list-spelled =
          let f = descriptor-found in
          ap (λ (p : Place). part_at (in_part (list_in what) p s) s) f.1
          ∙ part-within (list_in what) (sound-list what) s f.0 (length (spell_descriptor d)) (sound-descriptor o j s f.0 (length (spell_descriptor d)) f.1)
          ∙ rw f.2 part

      pub item-found : (c : ℕ) × (repeated_at o j what k s ≡ At c (length (spell w))) × (take (length (spell w)) (drop c s) ≡ spell w)
      unfolding repeated_at
      item-found = value_found spell (size_of (kind_of what)) (kind_of_lem (kind_of what)) vs are k w at (list_at o j what s) s (sound-list_at o j what s) list-spelled

      item-told : item_answer s o j what k ≡ Ok (item_of what (spell w) item-found.0)
      unfolding item_answer
      item-told =
          let f = item-found in
          rw (sym (located-at s (repeated_at o j what k s) (header_of s) accepted f.0 (length (spell w)) f.1), f.2) refl

    its-contents : (w : ContentsValue) → d.contents ≡ w → FitsContents d.tag w
    its-contents w h = subst (λ (u : ContentsValue). FitsContents d.tag u) h fits-here.contents

    -- `item_at` SHOWS THE VALUE: profiles and labels of a 0x00
    module _ (v : Value00) (h : d.contents ≡ of00 v) where
      pub profile-shown : (k : ℕ) (p : ProfileValue) → ValueAt k v.profiles p → item_answer s o j Profiles k ≡ Ok (profile_shown p)
      unfolding size_of kind_of list_in
      profile-shown k p at =
          let g = its-contents (of00 v) h in
          item-told Profiles spell_profile v.profiles (filled-items profile (framed_kind 5 _) (fixed_form 5 (omega arith) profile_form) v.profiles g.1.profiles)
          (profiles-listed d fits-here v h g.0 g.1) k p at
          ∙ ap Ok (profile-read p (each_at FitsProfile k v.profiles p g.1.profiles at) _)

      pub label-shown : (k l : ℕ) → ValueAt k v.labels l → item_answer s o j Labels k ≡ Ok (item.Label l)
      unfolding size_of kind_of list_in
      label-shown k l at =
          let g = its-contents (of00 v) h in
          item-told Labels alone v.labels (filled-items label (framed_kind 1 _) (fixed_form 1 (omega arith) label_form) v.labels g.1.labels)
          (labels-listed d fits-here v h g.0 g.1) k l at
          ∙ ap Ok (label-read l _)

    -- names of a 0x01
    module _ (ns : List NameValue) (h : d.contents ≡ of01 ns) (k : ℕ) (n : NameValue) (at : ValueAt k ns n) where
      abbrev its-names : Each FitsName ns
      its-names = (its-contents (of01 ns) h).1

      pub name-found : (c : ℕ) × (repeated_at o j Names k s ≡ At c (length (spell_name n))) × (take (length (spell_name n)) (drop c s) ≡ spell_name n)
      unfolding size_of kind_of list_in spell_contents
      name-found =
          item-found Names spell_name ns (filled-items name (framed_kind 4 _) name_form ns its-names)
          (names-listed d fits-here (its-contents (of01 ns) h).0 ns (ap spell_contents h)) k n at

      pub name-shown : item_answer s o j Names k ≡ Ok (name_shown n name-found.0)
      unfolding size_of kind_of list_in spell_contents name-found
      name-shown =
          item-told Names spell_name ns (filled-items name (framed_kind 4 _) name_form ns its-names)
          (names-listed d fits-here (its-contents (of01 ns) h).0 ns (ap spell_contents h)) k n at
          ∙ ap Ok (name-read n (each_at FitsName k ns n its-names at) _)

    -- bases of a 0x02 of protocol 3
    module _ (v : Value02) (h : d.contents ≡ of02 v) (bs : List BaseValue) (i : v.selector ≡ bases bs) (k : ℕ) (b : BaseValue) (at : ValueAt k bs b) where
      its-bases : (v.protocol ≡ 3) × Each FitsBase bs
      its-bases = subst (λ (u : SelectorValue). FitsSelector v.protocol u) i (its-contents (of02 v) h).1.selector

      pub base-found : (c : ℕ) × (repeated_at o j Bases k s ≡ At c (length (spell_base b))) × (take (length (spell_base b)) (drop c s) ≡ spell_base b)
      unfolding size_of kind_of list_in
      base-found =
          item-found Bases spell_base bs (filled-items base base_kind base_form bs its-bases.1)
          (bases-listed d fits-here v h (its-contents (of02 v) h).0 (its-contents (of02 v) h).1 bs i its-bases.0) k b at

      pub base-shown : item_answer s o j Bases k ≡ Ok (base_shown b base-found.0)
      unfolding size_of kind_of list_in base-found
      base-shown =
          item-told Bases spell_base bs (filled-items base base_kind base_form bs its-bases.1)
          (bases-listed d fits-here v h (its-contents (of02 v) h).0 (its-contents (of02 v) h).1 bs i its-bases.0) k b at
          ∙ ap Ok (base_read b (each_at FitsBase k bs b its-bases.1 at) _)

      -- `extension_at` SHOWS THE VALUE
      module _ (m : ℕ) (xs : List ℕ) (in-base : ValueAt m b.extensions xs) where
        extensions-spelled : part_at (extensions_at o j k s) s ≡ spell_all sized8 b.extensions
        unfolding extensions_at
        extensions-spelled =
            let f = base-found in
            ap (λ (p : Place). part_at (in_part extensions_in p s) s) f.1
            ∙ part-within extensions_in sound-extensions_in s f.0 (length (spell_base b)) (sound_repeated o j Bases k s f.0 (length (spell_base b)) f.1)
            ∙ rw f.2 (extensions-listed b (each_at FitsBase k bs b its-bases.1 at))

        pub extension-found : (c : ℕ) × (extension_at o j k m s ≡ At c (length (sized8 xs))) × (take (length (sized8 xs)) (drop c s) ≡ sized8 xs)
        unfolding extension_at size_of
        extension-found =
            value_found sized8 extension extension_kind b.extensions
            (filled-items extension extension_kind extension_form b.extensions (each_at FitsBase k bs b its-bases.1 at).extensions)
            m xs in-base (extensions_at o j k s) s (sound-extensions o j k s) extensions-spelled

        pub extension-shown : extension_answer s o j k m ≡ Ok (span (extension-found.0 + 1) (length xs))
        unfolding extension_answer
        extension-shown =
            let f = extension-found in
            rw (sym (located-at s (extension_at o j k m s) (header_of s) accepted f.0 (length (sized8 xs)) f.1), f.2)
            (ap Ok (extension-read xs f.0))

    -- identifiers of a 0x05
    module _ (is : List IdentifierValue) (h : d.contents ≡ of05 is) (k : ℕ) (w : IdentifierValue) (at : ValueAt k is w) where
      abbrev its-identifiers : Each FitsIdentifier is
      its-identifiers = (its-contents (of05 is) h).1

      pub identifier-shown : item_answer s o j Identifiers k ≡ Ok (identifier_shown w)
      unfolding size_of kind_of list_in spell_contents
      identifier-shown =
          item-told Identifiers spell_identifier is (filled-items identifier (framed_kind 7 _) (fixed_form 7 (omega arith) identifier_form) is its-identifiers)
          (identifiers-listed d fits-here (its-contents (of05 is) h).0 is (ap spell_contents h)) k w at
          ∙ ap Ok (identifier-read w (each_at FitsIdentifier k is w its-identifiers at) _)
