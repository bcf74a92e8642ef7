-- The contents of a descriptor as a form, by its tag; descriptors; a loop of descriptors.
use Prim.Native.Nat.{ℕ, ◌^◌, ◌<◌}
use mathlib.Core.Path.{◌≡◌, refl, sym, ap, subst, ◌∙◌}
use mathlib.Core.Bool.{true, cond}
use mathlib.Core.List.{List, ◌++◌, append_assoc, map}
use native.Mathlib.Omega.{arith}
use lib.Dec.{eqb}
use lib.ListN.{length, take, drop}
use lib.Seq.{get_or-drop, get_or-take}
use borrow.Author.Tests.{ne_eqb}
use Rattle.wire.specs.Fields.{byte_at, field_at, spelled}
use Rattle.wire.specs.Items.{Whole, items, fills, every}
use Rattle.wire.proofs.Laws.Fields.{field-one}
use Rattle.wire.proofs.Laws.Frames.{framed_kind}
use Rattle.wire.proofs.Laws.Tests.{both}
use Rattle.ait_descriptors.specs.Descriptor.{descriptor, tag_of}
use Rattle.ait_descriptors.specs.Tag01.{good01}
use Rattle.ait_descriptors.specs.Tag05.{good05}
use Rattle.ait_descriptors.specs.Contents.{contents_good, well_made}
use Rattle.ait_descriptors.proofs.Laws.Tags.{Unknown, tags, good-at, good_unknown}
use Rattle.ait_body.specs.Body.{good_loop}
use Rattle.ait_grammar.specs.Bytes.{Bytes, Each, spell_all}
use Rattle.ait_grammar.specs.Contents.{ContentsValue, DescriptorValue, FitsContents, FitsDescriptor, of00, of01, of02, of05, of15, raw, spell_contents, spell_descriptor}
use Rattle.ait_grammar.proofs.Laws.Tag00.{form00}
use Rattle.ait_grammar.proofs.Laws.Tag01.{names_form}
use Rattle.ait_grammar.proofs.Laws.Tag02.{form02}
use Rattle.ait_grammar.proofs.Laws.Tag05.{identifiers_form}
use Rattle.ait_grammar.proofs.Laws.Forms.{Form, when, seen, field}
use Rattle.ait_grammar.proofs.Laws.Followed.{followed, beside}
use Rattle.ait_grammar.proofs.Laws.Counted.{counted}
use Rattle.ait_grammar.proofs.Laws.Repeated.{repeated, all-items}
use Rattle.ait_grammar.proofs.Laws.Framed.{frame}

-- what contents say, by their tag: a line for each tag here and in each law below
unfoldable read_as : (tag : ℕ) → List ℕ → ContentsValue
read_as t c =
    cond (eqb t 0x00) (of00 (form00.read c))
    (cond (eqb t 0x01) (of01 (names_form.read c))
    (cond (eqb t 0x02) (of02 (form02.read c))
    (cond (eqb t 0x05) (of05 (identifiers_form.read c))
    (cond (eqb t 0x15) (of15 c)
    (raw c)))))

read_unknown : (t : ℕ) (c : List ℕ) → Unknown t → raw c ≡ read_as t c
unfolding read_as
read_unknown t c n = rw (ne_eqb t 0x00 n.0, ne_eqb t 0x01 n.1, ne_eqb t 0x02 n.2, ne_eqb t 0x05 n.3, ne_eqb t 0x15 n.4)

-- good contents are read, and the value read fits and is spelled so
abbrev Says : ℕ → List ℕ → ContentsValue → Type 0
Says t c v = FitsContents t v × (spell_contents v ≡ c)

good-read : (c : List ℕ) → Bytes c → (t : ℕ) → contents_good t c ≡ true → Says t c (read_as t c)
unfolding contents_good good01 good05 read_as spell_contents
good-read c b = tags (λ t. contents_good t c ≡ true → Says t c (read_as t c))
    (λ g. ((refl, form00.fits c b g), form00.back c b g))
    (λ g. ((refl, names_form.fits c b g), names_form.back c b g))
    (λ g. ((refl, form02.fits c b g), form02.back c b g))
    (λ g. ((refl, identifiers_form.fits c b g), identifiers_form.back c b g))
    (λ g. ((refl, b), refl))
    (λ t n g. subst (Says t c) (read_unknown t c n) ((n, b), refl))

module _ (t : ℕ) where
  said-bytes : (v : ContentsValue) → FitsContents t v → Bytes (spell_contents v)
  unfolding spell_contents
  said-bytes (of00 v) f = form00.bytes v f.1
  said-bytes (of01 v) f = names_form.bytes v f.1
  said-bytes (of02 v) f = form02.bytes v f.1
  said-bytes (of05 v) f = identifiers_form.bytes v f.1
  said-bytes (of15 v) f = f.1
  said-bytes (raw v) f = f.1

  said-good : (v : ContentsValue) → FitsContents t v → contents_good t (spell_contents v) ≡ true
  unfolding contents_good good01 good05 spell_contents
  said-good (of00 v) f = sym (good-at t _ 0x00 f.0) ∙ form00.good v f.1
  said-good (of01 v) f = sym (good-at t _ 0x01 f.0) ∙ names_form.good v f.1
  said-good (of02 v) f = sym (good-at t _ 0x02 f.0) ∙ form02.good v f.1
  said-good (of05 v) f = sym (good-at t _ 0x05 f.0) ∙ identifiers_form.good v f.1
  said-good (of15 v) f = sym (good-at t _ 0x15 f.0)
  said-good (raw v) f = sym (good_unknown t v f.0)

  read_at : (k : ℕ) (c : List ℕ) → t ≡ k → read_as t c ≡ read_as k c
  read_at k c e = ap (λ (u : ℕ). read_as u c) e

  said-again : (v : ContentsValue) → FitsContents t v → read_as t (spell_contents v) ≡ v
  unfolding read_as spell_contents
  said-again (of00 v) f = read_at 0x00 _ f.0 ∙ ap of00 (form00.again v f.1)
  said-again (of01 v) f = read_at 0x01 _ f.0 ∙ ap of01 (names_form.again v f.1)
  said-again (of02 v) f = read_at 0x02 _ f.0 ∙ ap of02 (form02.again v f.1)
  said-again (of05 v) f = read_at 0x05 _ f.0 ∙ ap of05 (identifiers_form.again v f.1)
  said-again (of15 v) f = read_at 0x15 _ f.0
  said-again (raw v) f = sym (read_unknown t v f.0)

  -- KNOWN CONTENTS ARE WELL FORMED EXACTLY WHERE THEY SPELL A VALUE
  pub contents_form : Form (λ c. contents_good t c ≡ true) spell_contents (FitsContents t)
  contents_form = record {
    bytes = said-bytes;
    good = said-good;
    read = read_as t;
    fits = λ c b g. (good-read c b t g).0;
    back = λ c b g. (good-read c b t g).1;
    again = said-again;
  }

-- "tag, length, that many bytes"
length-says : (y : List ℕ) → field_at 1 (drop 1 y) 0 ≡ byte_at y 1
length-says y = field-one (drop 1 y) 0 ∙ get_or-drop 1 y 0 0

pub tag-says : (x : List ℕ) → field_at 1 (take 1 (take 2 x)) 0 ≡ tag_of x
tag-says x = field-one (take 1 (take 2 x)) 0 ∙ get_or-take 1 (take 2 x) 0 0 (omega arith) ∙ get_or-take 2 x 0 0 (omega arith)

descriptor-parts : Form (λ x. Whole descriptor x × (contents_good (field_at 1 (take 1 (take 2 x)) 0) (drop 2 x) ≡ true))
    (λ (p : ℕ × ContentsValue). (spelled 1 p.0 ++ spelled 1 (length (spell_contents p.1))) ++ spell_contents p.1)
    (λ p. ((p.0 < 256 ^ 1) × (length (spell_contents p.1) < 256 ^ 1)) × FitsContents p.0 p.1)
unfolding beside followed when field
descriptor-parts = frame (beside (field 1) (field 1)) contents_form (omega arith) (λ x. byte_at x 1) length-says

pub descriptor_form : Form (λ x. Whole descriptor x × (well_made x ≡ true)) spell_descriptor FitsDescriptor
unfolding spell_descriptor
descriptor_form =
    seen (when descriptor-parts (λ x. Whole descriptor x × (well_made x ≡ true)) (λ x g. (g.0, rw (tag-says x) at g.1)) (λ x b g. (g.0, rw (tag-says x) g.1)))
    (λ p. record { tag = p.0; contents = p.1 })
    _ _
    (λ p f. sym (append_assoc (spelled 1 p.0) (spelled 1 (length (spell_contents p.1))) (spell_contents p.1)))
    (λ p f. record { tag = f.0.0; contents_length = f.0.1; contents = f.1 })
    (λ v f. ((v.tag, v.contents), refl, ((f.tag, f.contents_length), f.contents)))

pub tag_read : (x : List ℕ) → (descriptor_form.read x).tag ≡ tag_of x
unfolding descriptor_form descriptor-parts frame counted seen beside followed when field
tag_read x = tag-says x

-- a loop of descriptors
pub loop-there : (l : List ℕ) → (fills descriptor l ≡ true) × (every well_made (items descriptor l) ≡ true) → good_loop l ≡ true
unfolding good_loop
loop-there l g = rw g.0 g.1

pub loop-back : (l : List ℕ) → good_loop l ≡ true → (fills descriptor l ≡ true) × (every well_made (items descriptor l) ≡ true)
unfolding good_loop
loop-back l g = both (fills descriptor l) (every well_made (items descriptor l)) g

pub loop_form : Form (λ l. good_loop l ≡ true) (spell_all spell_descriptor) (Each FitsDescriptor)
loop_form = when (repeated descriptor (framed_kind 2 _) well_made descriptor_form) (λ l. good_loop l ≡ true) loop-there (λ l b. loop-back l)

pub loop-read : (l : List ℕ) → loop_form.read l ≡ map descriptor_form.read (items descriptor l)
unfolding loop_form when repeated
loop-read l = refl

-- the items of a spelled loop are the spelled descriptors
pub loop-items : (ds : List DescriptorValue) → Each FitsDescriptor ds → items descriptor (spell_all spell_descriptor ds) ≡ map spell_descriptor ds
loop-items ds f = all-items descriptor (framed_kind 2 _) well_made descriptor_form ds f
