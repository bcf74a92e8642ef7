-- THE BYTES THAT A SHOWN SPAN NAMES ARE THE VALUE'S: what `part` hands back of it.
use Prim.Native.Nat.{ℕ, ◌+◌, ◌≤◌, ◌<◌}
use mathlib.Core.Path.{◌≡◌, refl, sym, ap, ◌∙◌}
use mathlib.Core.List.{List, [], ◌++◌, append_assoc}
use native.Mathlib.Omega.{arith}
use lib.ListN.{length, take, drop, length-append, length-take, length-drop}
use lib.Seq.{take_at, drop_at}
use borrow.Author.Tests.{le-leb}
use Rattle.wire.specs.Fields.{spelled}
use Rattle.wire.proofs.Laws.Fields.{spelled_length}
use Rattle.wire.proofs.Laws.Finders.{part_part}
use Rattle.wire.proofs.Laws.Meaning.{append-nil}
use Rattle.ait_read.specs.Answers.{span_part}
use Rattle.ait_grammar.specs.Bytes.{spell_all, sized8}
use Rattle.ait_grammar.specs.Tag01.{NameValue, spell_name}
use Rattle.ait_grammar.specs.Tag02.{Value02, unread, BaseValue, spell_selector, spell02, spell_base}
use Rattle.ait_grammar.specs.Contents.{DescriptorValue, of02, spell_contents, spell_descriptor}

-- bytes xs behind h others, in what lies at c
within-bytes : (s : List ℕ) (c h : ℕ) (p xs r : List ℕ) → 0 < h → length p ≡ h → take (length (p ++ (xs ++ r))) (drop c s) ≡ p ++ (xs ++ r) → span_part s (c + h) (length xs) ≡ xs
unfolding span_part
within-bytes s c h p xs r o e f =
    let y : List ℕ = p ++ (xs ++ r) in
    let n : ℕ = length y in
    let l : length y ≡ h + length xs + length r = rw (length-append, length-append) (omega (arith, e)) in
    let t : length (take n (drop c s)) ≡ n = ap length f in
    let i : c + n ≤ length s = omega (arith, simp (length-take, length-drop) at t, l, o) in
    rw (le-leb (c + h + length xs) (length s) (omega (arith, i, l)))
    (sym (part_part s c n h (length xs) i (omega (arith, l))) ∙ ap (λ (z : List ℕ). take (length xs) (drop h z)) f
    ∙ ap (take (length xs)) (drop_at p (xs ++ r) h e) ∙ take_at xs r (length xs) refl)

module _ (s : List ℕ) (c : ℕ) where
  -- all that follows h bytes
  rest-bytes : (h : ℕ) (p xs y : List ℕ) → 0 < h → length p ≡ h → y ≡ p ++ xs → take (length y) (drop c s) ≡ y → span_part s (c + h) (length xs) ≡ xs
  rest-bytes h p xs y o e w f =
      let z : y ≡ p ++ (xs ++ []) = w ∙ ap (λ (l : List ℕ). p ++ l) (sym (append-nil xs)) in
      within-bytes s c h p xs [] o e (rw z at f)

  -- a 0x15's path, and the contents of a tag that nobody knows
  pub contents-bytes : (d : DescriptorValue) → take (length (spell_descriptor d)) (drop c s) ≡ spell_descriptor d
      → span_part s (c + 2) (length (spell_contents d.contents)) ≡ spell_contents d.contents
  unfolding spell_descriptor
  contents-bytes d f =
      let x : List ℕ = spell_contents d.contents in
      let p : List ℕ = spelled 1 d.tag ++ spelled 1 (length x) in
      let a = spelled_length 1 d.tag in
      let b = spelled_length 1 (length x) in
      rest-bytes 2 p x (spell_descriptor d) (omega arith) (rw length-append (omega (arith, a, b))) (sym (append_assoc (spelled 1 d.tag) (spelled 1 (length x)) x)) f

  -- a name, a base, an extension
  pub name-bytes : (n : NameValue) → take (length (spell_name n)) (drop c s) ≡ spell_name n → span_part s (c + 4) (length n.text) ≡ n.text
  unfolding spell_name
  name-bytes n f =
      let p : List ℕ = spelled 3 n.language ++ spelled 1 (length n.text) in
      let a = spelled_length 3 n.language in
      let b = spelled_length 1 (length n.text) in
      rest-bytes 4 p n.text (spell_name n) (omega arith) (rw length-append (omega (arith, a, b))) (sym (append_assoc (spelled 3 n.language) (spelled 1 (length n.text)) n.text)) f

  pub base-bytes : (b : BaseValue) → take (length (spell_base b)) (drop c s) ≡ spell_base b → span_part s (c + 1) (length b.text) ≡ b.text
  unfolding spell_base
  base-bytes b f =
      let r : List ℕ = spelled 1 (length b.extensions) ++ spell_all sized8 b.extensions in
      within-bytes s c 1 (spelled 1 (length b.text)) b.text r (omega arith) (spelled_length 1 (length b.text))
      (rw (append_assoc (spelled 1 (length b.text)) b.text r) at f)

  pub extension-bytes : (xs : List ℕ) → take (length (sized8 xs)) (drop c s) ≡ sized8 xs → span_part s (c + 1) (length xs) ≡ xs
  extension-bytes xs f = rest-bytes 1 (spelled 1 (length xs)) xs (sized8 xs) (omega arith) (spelled_length 1 (length xs)) refl f

  -- the selector of a protocol that is neither 1 nor 3
  pub selector-bytes : (d : DescriptorValue) (v : Value02) (xs : List ℕ) → d.contents ≡ of02 v → v.selector ≡ unread xs
      → take (length (spell_descriptor d)) (drop c s) ≡ spell_descriptor d → span_part s (c + 5) (length xs) ≡ xs
  unfolding spell_descriptor spell_contents spell02 spell_selector
  selector-bytes d v xs h i f =
      let x : List ℕ = spell_contents d.contents in
      let q : List ℕ = spelled 2 v.protocol ++ spelled 1 v.label in
      let w : x ≡ q ++ xs = ap spell_contents h ∙ ap (λ (l : List ℕ). q ++ l) (ap spell_selector i) in
      let t : List ℕ = spelled 1 d.tag in
      let u : List ℕ = spelled 1 (length x) in
      let a = spelled_length 1 d.tag in
      let b = spelled_length 1 (length x) in
      let m = spelled_length 2 v.protocol in
      let n = spelled_length 1 v.label in
      let y : spell_descriptor d ≡ ((t ++ u) ++ q) ++ xs =
      sym (append_assoc t u x) ∙ ap (λ (l : List ℕ). (t ++ u) ++ l) w ∙ sym (append_assoc (t ++ u) q xs) in
      let l : length ((t ++ u) ++ q) ≡ 5 = rw (length-append, length-append, length-append) (omega (arith, a, b, m, n)) in
      rest-bytes 5 ((t ++ u) ++ q) xs (spell_descriptor d) (omega arith) l y f
