-- 0x02 as a form: the selectors by their protocol, and the descriptor's contents.
use Prim.Native.Nat.{ℕ, ◌+◌, ◌-◌, ◌^◌, ◌≤◌, ◌<◌}
use mathlib.Core.Path.{◌≡◌, refl, sym, ap, ◌∙◌}
use mathlib.Core.Logic.{◌⊎◌, inl, inr}
use mathlib.Core.Bool.{Bool, true, false}
use mathlib.Core.List.{List, ◌++◌}
use native.Mathlib.Omega.{arith}
use lib.Dec.{eqb}
use lib.ListN.{length, take, drop}
use lib.Seq.{length-take-le}
use borrow.Author.Tests.{eq-eqb, ne_eqb, eqb-true, eqb-false}
use Rattle.wire.specs.Fields.{field_at, sixteen_at, spelled}
use Rattle.wire.proofs.Laws.Fields.{field_take}
use Rattle.ait_descriptors.specs.Tag02.{remote_of, selector, good02}
use Rattle.ait_descriptors.proofs.Laws.Contents.{remote-is, local-is, selector-1, selector-3, selector-raw, good02-is, good02-long}
use Rattle.ait_grammar.specs.Bytes.{Bytes, Each}
use Rattle.ait_grammar.specs.Tag02.{BaseValue, Fits02, FitsBase, FitsLocal, FitsRemote, FitsSelector, LocalValue, RemoteValue, SelectorValue}
use Rattle.ait_grammar.specs.Tag02.{bases, here, remote, spell02, spell_local, spell_remote, spell_selector, unread}
use Rattle.ait_grammar.proofs.Laws.Bytes.{bytes-at}
use Rattle.ait_grammar.proofs.Laws.Forms.{Form, when, seen, field, plain, narrowed, either}
use Rattle.ait_grammar.proofs.Laws.Followed.{followed, beside}
use Rattle.ait_grammar.proofs.Laws.Sized.{first_byte}
use Rattle.ait_grammar.proofs.Laws.Bases.{bases_form}

abbrev afar : List ℕ → Bool
afar c = eqb (remote_of c) 1

-- protocol 1 without the flag
local-low : Form (λ x. (length x ≡ 2) × (field_at 1 (take 1 x) 0 < 128)) (λ (p : ℕ × ℕ). spelled 1 p.0 ++ spelled 1 p.1) (λ p. ((p.0 < 256 ^ 1) × (p.1 < 256 ^ 1)) × (p.0 < 128))
unfolding beside followed when field
local-low = narrowed (beside (field 1) (field 1)) (λ p. p.0 < 128)

local-there : (x : List ℕ) → (length x ≡ 2) × (field_at 1 (take 1 x) 0 < 128) → (afar x ≡ false) × (length x ≡ 2)
local-there x g =
    let f = first_byte x in
    let z : remote_of x ≡ 0 = omega (arith, f, g.1) in
    (ne_eqb (remote_of x) 1 (λ o. omega (arith, z, o)), g.0)

local_back : (x : List ℕ) → Bytes x → (afar x ≡ false) × (length x ≡ 2) → (length x ≡ 2) × (field_at 1 (take 1 x) 0 < 128)
local_back x b g =
    let z = eqb-false (remote_of x) 1 g.0 in
    let l = bytes-at x b 0 in
    let f = first_byte x in
    (g.1, omega (arith, z, l, f))

local_form : Form (λ x. (afar x ≡ false) × (length x ≡ 2)) spell_local FitsLocal
unfolding spell_local
local_form =
    seen (when local-low (λ x. (afar x ≡ false) × (length x ≡ 2)) local-there local_back)
    (λ p. record { reserved = p.0; component = p.1 })
    _ _
    (λ p f. refl)
    (λ p f. record { reserved = f.1; component = f.0.1 })
    (λ v f. ((v.reserved, v.component), refl, ((wide v.reserved f.reserved, f.component), f.reserved)))
  where
    wide : (n : ℕ) → n < 128 → n < 256 ^ 1
    wide n l = omega arith

-- and with it
remote-high : Form (λ x. (length x ≡ 8) × ((128 ≤ field_at 1 (take 1 x) 0) × (field_at 1 (take 1 x) 0 < 256)))
    (λ (p : ℕ × (ℕ × (ℕ × (ℕ × ℕ)))). spelled 1 p.0 ++ (spelled 2 p.1.0 ++ (spelled 2 p.1.1.0 ++ (spelled 2 p.1.1.1.0 ++ spelled 1 p.1.1.1.1))))
    (λ p. ((p.0 < 256 ^ 1) × ((p.1.0 < 256 ^ 2) × ((p.1.1.0 < 256 ^ 2) × ((p.1.1.1.0 < 256 ^ 2) × (p.1.1.1.1 < 256 ^ 1))))) × ((128 ≤ p.0) × (p.0 < 256)))
unfolding beside followed when field
remote-high = narrowed (beside (field 1) (beside (field 2) (beside (field 2) (beside (field 2) (field 1))))) (λ p. (128 ≤ p.0) × (p.0 < 256))

remote-there : (x : List ℕ) → (length x ≡ 8) × ((128 ≤ field_at 1 (take 1 x) 0) × (field_at 1 (take 1 x) 0 < 256)) → (afar x ≡ true) × (length x ≡ 8)
remote-there x g =
    let f = first_byte x in
    let z : remote_of x ≡ 1 = omega (arith, f, g.1.0, g.1.1) in
    (eq-eqb (remote_of x) 1 z, g.0)

remote-back : (x : List ℕ) → Bytes x → (afar x ≡ true) × (length x ≡ 8) → (length x ≡ 8) × ((128 ≤ field_at 1 (take 1 x) 0) × (field_at 1 (take 1 x) 0 < 256))
remote-back x b g =
    let z = eqb-true (remote_of x) 1 g.0 in
    let l = bytes-at x b 0 in
    let f = first_byte x in
    (g.1, (omega (arith, z, l, f), omega (arith, l, f)))

remote_form : Form (λ x. (afar x ≡ true) × (length x ≡ 8)) spell_remote FitsRemote
unfolding spell_remote
remote_form =
    seen (when remote-high (λ x. (afar x ≡ true) × (length x ≡ 8)) remote-there remote-back)
    (λ p. record { reserved = p.0 - 128; network = p.1.0; stream = p.1.1.0; service = p.1.1.1.0; component = p.1.1.1.1 })
    _ _
    (λ p f. ap (λ (n : ℕ). spelled 1 n ++ (spelled 2 p.1.0 ++ (spelled 2 p.1.1.0 ++ (spelled 2 p.1.1.1.0 ++ spelled 1 p.1.1.1.1)))) (up p.0 f.1.0))
    (λ p f. record { reserved = down p.0 f.1.0 f.1.1; network = f.0.1.0; stream = f.0.1.1.0; service = f.0.1.1.1.0; component = f.0.1.1.1.1 })
    (λ v f. (
      (128 + v.reserved, (v.network, (v.stream, (v.service, v.component)))),
      again v,
      ((wide v.reserved f.reserved, (f.network, (f.stream, (f.service, f.component)))), (least v.reserved, wide v.reserved f.reserved)),
    ))
  where
    up : (n : ℕ) → 128 ≤ n → 128 + (n - 128) ≡ n
    up n l = omega arith

    down : (n : ℕ) → 128 ≤ n → n < 256 → n - 128 < 128
    down n l k = omega arith

    wide : (n : ℕ) → n < 128 → 128 + n < 256
    wide n l = omega arith

    least : (n : ℕ) → 128 ≤ 128 + n
    least n = omega arith

    again : (v : RemoteValue) → ◌≡◌ {A = RemoteValue} (record { reserved = 128 + v.reserved - 128; network = v.network; stream = v.stream; service = v.service; component = v.component }) v
    again v =
        let e : 128 + v.reserved - 128 ≡ v.reserved = omega arith in
        λ i. record { reserved = e i; network = v.network; stream = v.stream; service = v.service; component = v.component }

-- by protocol
module _ (p : ℕ) where
  selector-is-1 : p ≡ 1 → Form (λ c. selector p c ≡ true) spell_selector (FitsSelector p)
  unfolding spell_selector
  selector-is-1 e =
      seen (when (either afar far near) (λ c. selector p c ≡ true) there (λ c b. back c)) (λ a. a) spell_selector (FitsSelector p) (λ a f. refl) fit whence
    where
      Far : SelectorValue → Type 0
      Far s = (r : RemoteValue) × (remote r ≡ s) × FitsRemote r

      Near : SelectorValue → Type 0
      Near s = (l : LocalValue) × (here l ≡ s) × FitsLocal l

      far : Form (λ x. (afar x ≡ true) × (length x ≡ 8)) spell_selector Far
      far = seen remote_form (λ r. remote r) spell_selector Far (λ r f. refl) (λ r f. (r, refl, f)) (λ s f. f)

      near : Form (λ x. (afar x ≡ false) × (length x ≡ 2)) spell_selector Near
      near = seen local_form (λ l. here l) spell_selector Near (λ l f. refl) (λ l f. (l, refl, f)) (λ s f. f)

      there : (c : List ℕ) → ((afar c ≡ true) × (length c ≡ 8)) ⊎ ((afar c ≡ false) × (length c ≡ 2)) → selector p c ≡ true
      there c (inl g) = sym (selector-1 p c e) ∙ sym (remote-is c (eqb-true (remote_of c) 1 g.0)) ∙ eq-eqb (length c) 8 g.1
      there c (inr g) = sym (selector-1 p c e) ∙ sym (local-is c (eqb-false (remote_of c) 1 g.0)) ∙ eq-eqb (length c) 2 g.1

      back : (c : List ℕ) → selector p c ≡ true → ((afar c ≡ true) × (length c ≡ 8)) ⊎ ((afar c ≡ false) × (length c ≡ 2))
      back c g = go (afar c) refl
        where
          go : (t : Bool) → afar c ≡ t → ((afar c ≡ true) × (length c ≡ 8)) ⊎ ((afar c ≡ false) × (length c ≡ 2))
          go true h = inl (h, eqb-true (length c) 8 (remote-is c (eqb-true (remote_of c) 1 h) ∙ selector-1 p c e ∙ g))
          go false h = inr (h, eqb-true (length c) 2 (local-is c (eqb-false (remote_of c) 1 h) ∙ selector-1 p c e ∙ g))

      fit : (s : SelectorValue) → Far s ⊎ Near s → FitsSelector p s
      fit s (inl f) = rw (← f.1) (e, f.2)
      fit s (inr f) = rw (← f.1) (e, f.2)

      whence : (s : SelectorValue) → FitsSelector p s → (a : SelectorValue) × (a ≡ s) × (Far a ⊎ Near a)
      whence (here l) f = (here l, refl, inr (l, refl, f.1))
      whence (remote r) f = (remote r, refl, inl (r, refl, f.1))
      whence (bases bs) f = absurd (omega (arith, e, f.0))
      whence (unread xs) f = absurd (f.0 e)

  selector-is-3 : p ≡ 3 → Form (λ c. selector p c ≡ true) spell_selector (FitsSelector p)
  unfolding spell_selector
  selector-is-3 e =
      seen (when bases_form (λ c. selector p c ≡ true) (λ c g. sym (selector-3 p c e) ∙ g) (λ c b g. selector-3 p c e ∙ g))
      (λ bs. bases bs) spell_selector (FitsSelector p) (λ bs f. refl) (λ bs f. (e, f)) whence
    where
      whence : (s : SelectorValue) → FitsSelector p s → (bs : List BaseValue) × (bases bs ≡ s) × Each FitsBase bs
      whence (here l) f = absurd (omega (arith, e, f.0))
      whence (remote r) f = absurd (omega (arith, e, f.0))
      whence (bases bs) f = (bs, refl, f.1)
      whence (unread xs) f = absurd (f.1 e)

  selector-is-raw : (p ≡ 1 → ⊥) → (p ≡ 3 → ⊥) → Form (λ c. selector p c ≡ true) spell_selector (FitsSelector p)
  unfolding spell_selector
  selector-is-raw n m =
      seen (when plain (λ c. selector p c ≡ true) (λ c g. sym (selector-raw p c n m)) (λ c b g. tt))
      (λ xs. unread xs) spell_selector (FitsSelector p) (λ xs f. refl) (λ xs f. (n, m, f)) whence
    where
      whence : (s : SelectorValue) → FitsSelector p s → (xs : List ℕ) × (unread xs ≡ s) × Bytes xs
      whence (here l) f = absurd (n f.0)
      whence (remote r) f = absurd (n f.0)
      whence (bases bs) f = absurd (m f.0)
      whence (unread xs) f = (xs, refl, f.2)

  pub selector_form : Form (λ c. selector p c ≡ true) spell_selector (FitsSelector p)
  selector_form = go (eqb p 1) refl (eqb p 3) refl
    where
      go : (t : Bool) → eqb p 1 ≡ t → (u : Bool) → eqb p 3 ≡ u → Form (λ c. selector p c ≡ true) spell_selector (FitsSelector p)
      go true e u h = selector-is-1 (eqb-true p 1 e)
      go false e true h = selector-is-3 (eqb-true p 3 h)
      go false e false h = selector-is-raw (eqb-false p 1 e) (eqb-false p 3 h)

-- "protocol 16, label 8, selector"
abbrev Parts : List ℕ → Type 0
Parts x = (3 ≤ length x) × (length (take 3 x) ≡ 3) × (selector (field_at 2 (take 2 (take 3 x)) 0) (drop 3 x) ≡ true)

protocol-is : (x : List ℕ) → field_at 2 (take 2 (take 3 x)) 0 ≡ sixteen_at x 0
protocol-is x = field_take 2 (take 3 x) 2 0 (omega arith) ∙ field_take 2 x 3 0 (omega arith)

transport-parts : Form Parts (λ (p : (ℕ × ℕ) × SelectorValue). (spelled 2 p.0.0 ++ spelled 1 p.0.1) ++ spell_selector p.1)
    (λ p. ((p.0.0 < 256 ^ 2) × (p.0.1 < 256 ^ 1)) × FitsSelector p.0.0 p.1)
unfolding beside followed when field
transport-parts = followed (beside (field 2) (field 1)) (λ a. selector_form a.0) (λ x. 3) (λ a f r. sym ((beside (field 2) (field 1)).good a f))

pub form02 : Form (λ x. good02 x ≡ true) spell02 Fits02
unfolding spell02
form02 =
    seen (when transport-parts (λ x. good02 x ≡ true) there back)
    (λ p. record { protocol = p.0.0; label = p.0.1; selector = p.1 })
    _ _
    (λ p f. refl)
    (λ p f. record { protocol = f.0.0; label = f.0.1; selector = f.1 })
    (λ v f. (((v.protocol, v.label), v.selector), refl, ((f.protocol, f.label), f.selector)))
  where
    there : (x : List ℕ) → Parts x → good02 x ≡ true
    there x g = sym (good02-is x g.0) ∙ rw (protocol-is x) at g.2

    back : (x : List ℕ) → Bytes x → good02 x ≡ true → Parts x
    back x b g = let l = good02-long x g in (l, length-take-le 3 x l, rw (protocol-is x) (good02-is x l ∙ g))
