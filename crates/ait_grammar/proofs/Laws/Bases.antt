-- 0x02, protocol 3, as a form: a base with its counted extensions.
use Prim.Native.Nat.{ℕ, ◌<◌, ◌+◌, ◌≤◌}
use mathlib.Core.Path.{◌≡◌, refl, sym, ap, ◌∙◌}
use mathlib.Core.Bool.{true}
use mathlib.Core.List.{List, ◌++◌, [], ◌∷◌}
use native.Mathlib.Omega.{arith}
use lib.ListN.{length, take, drop, length-append, length-drop}
use lib.Seq.{get_or-take, get_or-drop, drop-drop, length-take-le}
use Rattle.wire.specs.Fields.{byte_at, spelled, field_at}
use Rattle.wire.specs.Items.{Whole, fills, IsKind, items, joined, end_of}
use Rattle.wire.proofs.Laws.Fields.{field-one}
use Rattle.wire.proofs.Laws.Frames.{framed_kind}
use Rattle.wire.proofs.Laws.Meaning.{fills_means, unique, append-nil, end_means, end_has}
use Rattle.ait_descriptors.specs.Tag02.{extension, base, extensions_start, extension_count}
use Rattle.ait_descriptors.specs.Kinds.{size_of}
use Rattle.ait_descriptors.specs.declared.Kind.TheVariants as kinds
use Rattle.ait_descriptors.proofs.Laws.Kinds.{base-is, base-text, extension_kind, kind_of_lem}
use Rattle.ait_grammar.specs.Bytes.{Bytes, Each, Short, sized8, spell_all}
use Rattle.ait_grammar.specs.Tag02.{FitsBase, spell_base}
use Rattle.ait_grammar.proofs.Laws.Forms.{Form, when, seen, field, plain}
use Rattle.ait_grammar.proofs.Laws.Framed.{frame}
use Rattle.ait_grammar.proofs.Laws.Repeated.{filled, filled-count}
use Rattle.ait_grammar.proofs.Laws.Followed.{followed}
use Rattle.ait_grammar.proofs.Laws.Counted.{counted}
use Rattle.ait_grammar.proofs.Laws.Sized.{counting, in8, ends8, first_byte}

-- an extension with its length
extension-whole : Form (λ x. Whole extension x × Unit {0}) (λ (p : Unit {0} × List ℕ). spelled 1 (length p.1) ++ p.1) (λ p. (length p.1 < 256) × Bytes p.1)
unfolding counting seen field
extension-whole = frame counting (λ h. plain) (omega arith) (λ x. byte_at x 0) (λ y. field-one y 0)

pub extension_form : Form (λ x. Whole extension x) sized8 Short
extension_form =
    seen (when extension-whole (λ x. Whole extension x) (λ x g. g.0) (λ x b g. (g, tt)))
    (λ p. p.1) _ _ (λ p f. refl) (λ p f. f) (λ n f. ((tt, n), refl, f))

pub extensions_form : Form (λ xs. fills extension xs ≡ true) (spell_all sized8) (Each Short)
extensions_form = filled extension (framed_kind 1 _) extension_form

-- "extension count, each extension with its length"
extensions : Form (λ x. (1 ≤ length x) × (field_at 1 (take 1 x) 0 ≡ length (items extension (drop 1 x))) × (fills extension (drop 1 x) ≡ true))
    (λ (p : Unit {0} × List (List ℕ)). spelled 1 (length p.1) ++ spell_all sized8 p.1) (λ p. (length p.1 < 256) × Each Short p.1)
unfolding counting seen field
extensions = counted counting (λ h. extensions_form) length (λ y. length (items extension y)) (λ h es f. filled-count extension extension_kind extension_form es f)

abbrev upto : List ℕ → ℕ
upto x = 1 + byte_at x 0

abbrev Parts : List ℕ → Type 0
Parts x = (upto x ≤ length x)
    × ((1 ≤ length (take (upto x) x)) × (byte_at (take (upto x) x) 0 ≡ length (drop 1 (take (upto x) x))) × Unit {0})
    × ((1 ≤ length (drop (upto x) x)) × (field_at 1 (take 1 (drop (upto x) x)) 0 ≡ length (items extension (drop 1 (drop (upto x) x)))) × (fills extension (drop 1 (drop (upto x) x)) ≡ true))

module _ (x : List ℕ) where
  behind : drop 1 (drop (upto x) x) ≡ drop (extensions_start x) x
  behind = let e : upto x + 1 ≡ extensions_start x = omega arith in drop-drop 1 (upto x) x ∙ ap (λ (n : ℕ). drop n x) e

  said : field_at 1 (take 1 (drop (upto x) x)) 0 ≡ extension_count x
  said = let e : upto x + 0 ≡ upto x = omega arith in first_byte (drop (upto x) x) ∙ get_or-drop (upto x) x 0 0 ∙ ap (byte_at x) e

  parts-there : Parts x → Whole base x
  parts-there g =
      let l = length-drop (upto x) x in
      let s : extensions_start x ≤ length x = omega (arith, l, g.0, g.2.0) in
      let m = (fills_means extension extension_kind (drop (extensions_start x) x)).0 (rw behind at g.2.2) in
      let u = unique extension extension_kind m.0 (drop (extensions_start x) x) m.1 m.2 in
      let n : length m.0 ≡ extension_count x = ap length (sym u) ∙ sym (rw behind at g.2.1) ∙ said in
      let e = end_means extension extension_kind m.0 [] (extensions_start x) m.1 in
      let j : joined m.0 ++ [] ≡ drop (extensions_start x) x = append-nil (joined m.0) ∙ m.2 in
      let k = ap length m.2 in
      let d = length-drop (extensions_start x) x in
      let f : end_of (extension_count x) (extensions_start x) (items extension (drop (extensions_start x) x)) ≡ extensions_start x + length (joined m.0) = rw (j, n) at e in
      (base-is x s ∙ f ∙ omega (arith, k, d, s), omega (arith, s))

  parts-back : Whole base x → Parts x
  parts-back w =
      let s = base-text x w.0 w.1 in
      let b : end_of (extension_count x) (extensions_start x) (items extension (drop (extensions_start x) x)) ≡ length x = sym (base-is x s) ∙ w.0 in
      let q = end_has extension extension_kind (extension_count x) (extensions_start x) (drop (extensions_start x) x) (λ z. omega (arith, z, b, w.1)) in
      let e = end_means extension extension_kind q.0 q.1 (extensions_start x) q.2 in
      let f : end_of (extension_count x) (extensions_start x) (items extension (drop (extensions_start x) x)) ≡ extensions_start x + length (joined q.0) = rw (q.4, q.3) at e in
      let c = sym (length-append (joined q.0) q.1) ∙ ap length q.4 in
      let d = length-drop (extensions_start x) x in
      let r : q.1 ≡ [] = none q.1 (omega (arith, b, f, c, d, s)) in
      let j : joined q.0 ≡ drop (extensions_start x) x = sym (append-nil (joined q.0)) ∙ rw r at q.4 in
      let u = unique extension extension_kind q.0 (drop (extensions_start x) x) q.2 j in
      let t = length-take-le (upto x) x (omega (arith, s)) in
      let o : length (drop 1 (take (upto x) x)) ≡ byte_at x 0 = rw length-drop (omega (arith, t)) in (
        omega (arith, s),
        (omega (arith, t), get_or-take (upto x) x 0 0 (omega arith) ∙ sym o, tt),
        (rw length-drop (omega (arith, s)), said ∙ rw behind (sym (ap length u ∙ q.3)), rw behind ((fills_means extension extension_kind (drop (extensions_start x) x)).1 (q.0, q.2, j))),
      )
    where
      none : (l : List ℕ) → length l ≡ 0 → l ≡ []
      none [] e = refl
      none (y ∷ l) e = absurd (omega arith)

pub base_form : Form (λ x. Whole base x) spell_base FitsBase
unfolding spell_base
base_form =
    seen (when (followed (in8 plain) (λ a. extensions) upto (λ a f r. ends8 a r f.0)) (λ x. Whole base x) parts-there (λ x b g. parts-back x g))
    (λ p. record { text = p.0; extensions = p.1.1 })
    _ _
    (λ p f. refl)
    (λ p f. record { text = f.0; count = f.1.0; extensions = f.1.1 })
    (λ v f. ((v.text, (tt, v.extensions)), refl, (f.text, (f.count, f.extensions))))

pub base_kind : IsKind base
unfolding size_of
base_kind = kind_of_lem kinds.Base

pub bases_form : Form (λ xs. fills base xs ≡ true) (spell_all spell_base) (Each FitsBase)
bases_form = filled base base_kind base_form
