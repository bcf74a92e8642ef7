-- 0x00 as a form.
use Prim.Native.Nat.{ℕ, ◌^◌, ◌<◌, ◌+◌, ◌*◌, ◌/◌, ◌%◌, ◌≤◌}
use mathlib.Core.Path.{◌≡◌, refl, sym, ◌∙◌, ap}
use mathlib.Core.Bool.{true}
use mathlib.Core.List.{List, ◌++◌, append_assoc}
use native.Mathlib.Omega.{arith}
use lib.ListN.{length, drop, take, length-drop}
use lib.Dec.{eqb, leb}
use lib.Seq.{get_or-take, length-take-le}
use borrow.Author.Tests.{eq-eqb, eqb-true, le-leb, leb-true}
use Rattle.wire.specs.Fields.{byte_at, spelled}
use Rattle.wire.specs.Items.{fills}
use Rattle.wire.proofs.Laws.Frames.{framed_kind}
use Rattle.wire.proofs.Laws.Tests.{both}
use Rattle.ait_descriptors.specs.Tag00.{profile, good00}
use Rattle.ait_grammar.specs.Bytes.{Bytes, Each, sized8, spell_all}
use Rattle.ait_grammar.specs.Tag00.{FitsProfile, spell_profile, Fits00, spell00}
use Rattle.ait_grammar.proofs.Laws.Forms.{Form, when, seen, field, plain}
use Rattle.ait_grammar.proofs.Laws.Followed.{beside, followed}
use Rattle.ait_grammar.proofs.Laws.Framed.{fixed_form, five-fills}
use Rattle.ait_grammar.proofs.Laws.Repeated.{filled}
use Rattle.ait_grammar.proofs.Laws.Sized.{in8, ends8}

-- "profiles (16, 8, 8, 8 bits)"
pub profile_form : Form (λ x. length x ≡ 5) spell_profile FitsProfile
unfolding spell_profile
profile_form =
    seen (beside (field 2) (beside (field 1) (beside (field 1) (field 1))))
    (λ p. record { profile = p.0; major = p.1.0; minor = p.1.1.0; micro = p.1.1.1 })
    _ _
    (λ p f. refl)
    (λ p f. record { profile = f.0; major = f.1.0; minor = f.1.1.0; micro = f.1.1.1 })
    (λ i f. ((i.profile, (i.major, (i.minor, i.micro))), refl, (f.profile, (f.major, (f.minor, f.micro)))))

pub profiles_form : Form (λ xs. fills profile xs ≡ true) (spell_all spell_profile) (Each FitsProfile)
profiles_form = filled profile (framed_kind 5 _) (fixed_form 5 (omega arith) profile_form)

-- "bound flag 1, visibility 2, reserved 5"
flags : Form (λ x. length x ≡ 1) (λ (p : ℕ × (ℕ × ℕ)). spelled 1 (p.0 * 128 + p.1.0 * 32 + p.1.1)) (λ p. (p.0 < 2) × ((p.1.0 < 4) × (p.1.1 < 32)))
flags =
    seen (field 1) (λ v. (v / 128, (v / 32 % 4, v % 32))) _ _
    (λ v f. ap (spelled 1) (split v f))
    (λ v f. (high v f, (middle v, lowest v)))
    (λ p f. (p.0 * 128 + p.1.0 * 32 + p.1.1, triple p f.1.0 f.1.1, low p f.0 f.1.0 f.1.1))
  where
    split : (v : ℕ) → v < 256 ^ 1 → v / 128 * 128 + v / 32 % 4 * 32 + v % 32 ≡ v
    split v f = omega arith

    high : (v : ℕ) → v < 256 ^ 1 → v / 128 < 2
    high v f = omega arith

    middle : (v : ℕ) → v / 32 % 4 < 4
    middle v = omega arith

    lowest : (v : ℕ) → v % 32 < 32
    lowest v = omega arith

    triple : (p : ℕ × (ℕ × ℕ)) → p.1.0 < 4 → p.1.1 < 32
        → ◌≡◌ {A = ℕ × (ℕ × ℕ)} ((p.0 * 128 + p.1.0 * 32 + p.1.1) / 128, ((p.0 * 128 + p.1.0 * 32 + p.1.1) / 32 % 4, (p.0 * 128 + p.1.0 * 32 + p.1.1) % 32)) p
    triple p f g =
        let a : (p.0 * 128 + p.1.0 * 32 + p.1.1) / 128 ≡ p.0 = omega arith in
        let b : (p.0 * 128 + p.1.0 * 32 + p.1.1) / 32 % 4 ≡ p.1.0 = omega arith in
        let c : (p.0 * 128 + p.1.0 * 32 + p.1.1) % 32 ≡ p.1.1 = omega arith in
        λ i. (a i, (b i, c i))

    low : (p : ℕ × (ℕ × ℕ)) → p.0 < 2 → p.1.0 < 4 → p.1.1 < 32 → p.0 * 128 + p.1.0 * 32 + p.1.1 < 256 ^ 1
    low p f g h = omega arith

-- flags, priority, labels
abbrev Rest : Type 0
Rest = ((ℕ × (ℕ × ℕ)) × ℕ) × List ℕ

rest : Form (λ x. (2 ≤ length x) × (length (take 2 x) ≡ 2) × Unit {0}) (λ (p : Rest). (spelled 1 (p.0.0.0 * 128 + p.0.0.1.0 * 32 + p.0.0.1.1) ++ spelled 1 p.0.1) ++ p.1)
    (λ p. (((p.0.0.0 < 2) × ((p.0.0.1.0 < 4) × (p.0.0.1.1 < 32))) × (p.0.1 < 256 ^ 1)) × Bytes p.1)
rest = followed two (λ a. plain) (λ x. 2) (λ a f r. sym (two.good a f))
  where
    two : Form (λ x. length x ≡ 2) (λ (p : (ℕ × (ℕ × ℕ)) × ℕ). spelled 1 (p.0.0 * 128 + p.0.1.0 * 32 + p.0.1.1) ++ spelled 1 p.1)
        (λ p. ((p.0.0 < 2) × ((p.0.1.0 < 4) × (p.0.1.1 < 32))) × (p.1 < 256 ^ 1))
    two = beside flags (field 1)

abbrev upto : List ℕ → ℕ
upto x = 1 + byte_at x 0

abbrev Parts : List ℕ → Type 0
Parts x = (upto x ≤ length x)
    × ((1 ≤ length (take (upto x) x)) × (byte_at (take (upto x) x) 0 ≡ length (drop 1 (take (upto x) x))) × (fills profile (drop 1 (take (upto x) x)) ≡ true))
    × ((2 ≤ length (drop (upto x) x)) × (length (take 2 (drop (upto x) x)) ≡ 2) × Unit {0})

parts-there : (x : List ℕ) → Parts x → good00 x ≡ true
unfolding good00
parts-there x g =
    let t = length-take-le (upto x) x g.0 in
    let d = length-drop 1 (take (upto x) x) in
    let l = length-drop (upto x) x in
    let m = (five-fills (drop 1 (take (upto x) x))).0 g.1.2 in
    let p : byte_at x 0 % 5 ≡ 0 = omega (arith, t, d, m) in
    let q : 3 + byte_at x 0 ≤ length x = omega (arith, l, g.2.0, g.0) in
    rw (eq-eqb (byte_at x 0 % 5) 0 p) (le-leb (3 + byte_at x 0) (length x) q)

parts-back : (x : List ℕ) → good00 x ≡ true → Parts x
unfolding good00
parts-back x e =
    let q = both (eqb (byte_at x 0 % 5) 0) (leb (3 + byte_at x 0) (length x)) e in
    let p = eqb-true (byte_at x 0 % 5) 0 q.0 in
    let l = leb-true (3 + byte_at x 0) (length x) q.1 in
    let u : upto x ≤ length x = omega arith in
    let t = length-take-le (upto x) x u in
    let d : length (drop 1 (take (upto x) x)) ≡ byte_at x 0 = rw length-drop (omega arith) in
    let f : byte_at (take (upto x) x) 0 ≡ byte_at x 0 = get_or-take (upto x) x 0 0 (omega arith) in
    let r : 2 ≤ length (drop (upto x) x) = rw length-drop (omega arith) in
    (u, (omega arith, f ∙ sym d, (five-fills (drop 1 (take (upto x) x))).1 (rw d p)), (r, length-take-le 2 (drop (upto x) x) r, tt))

pub form00 : Form (λ x. good00 x ≡ true) spell00 Fits00
unfolding spell00
form00 =
    seen (when (followed (in8 profiles_form) (λ a. rest) upto (λ a f r. ends8 (spell_all spell_profile a) r f.0)) (λ x. good00 x ≡ true) parts-there (λ x b g. parts-back x g))
    (λ p. record { profiles = p.0; bound = p.1.0.0.0; visibility = p.1.0.0.1.0; reserved = p.1.0.0.1.1; priority = p.1.0.1; labels = p.1.1 })
    _ _
    (λ p f. ap (λ (y : List ℕ). sized8 (spell_all spell_profile p.0) ++ y)
    (sym (append_assoc (spelled 1 (p.1.0.0.0 * 128 + p.1.0.0.1.0 * 32 + p.1.0.0.1.1)) (spelled 1 p.1.0.1) p.1.1)))
    (λ p f. record {
      profiles = f.0.1;
      profiles_length = f.0.0;
      bound = f.1.0.0.0;
      visibility = f.1.0.0.1.0;
      reserved = f.1.0.0.1.1;
      priority = f.1.0.1;
      labels = f.1.1;
    })
    (λ v f. (
      (v.profiles, (((v.bound, (v.visibility, v.reserved)), v.priority), v.labels)),
      refl,
      ((f.profiles_length, f.profiles), (((f.bound, (f.visibility, f.reserved)), f.priority), f.labels)),
    ))
