-- THE SECTION IN HAND with more bytes, and the whole sections that bytes begin with.
use Prim.Native.Nat.{ℕ, ◌+◌, ◌-◌, ◌*◌, ◌%◌, ◌≤◌, ◌<◌}
use mathlib.Core.Path.{◌≡◌, refl, sym, ap, ap₂, ◌∙◌}
use mathlib.Core.Bool.{true, false, cond, ◌||◌, or-true}
use mathlib.Core.List.{List, [], ◌∷◌, ◌++◌, append_assoc}
use native.Mathlib.Omega.{arith}
use lib.Dec.{eqb}
use lib.ListN.{length, take, drop, length-append, length-drop}
use lib.Seq.{length-take-le, take_at, drop-drop, take-append-le, take-append-add, drop-append-add}
use borrow.Author.Tests.{eq-eqb, ne_eqb}
use Rattle.wire.specs.Copies.{overwrite, laid_at}
use Rattle.wire.specs.Fields.{byte_at, field_at}
use Rattle.wire.specs.Items.{items, joined}
use Rattle.wire.specs.Pieces.{is_none, laid_first}
use Rattle.wire.proofs.Laws.Copies.{laid-fits}
use Rattle.wire.proofs.Laws.Meaning.{append-nil}
use Rattle.wire.proofs.Laws.Steps.{items-stop, items-step}
use Rattle.section.specs.Whole.{said_length, whole_at}
use Rattle.section.proofs.Laws.Whole.{section_kind}
use Rattle.transport.specs.Feed.{is_head, ended}
use Rattle.transport.proofs.Laws.Rule.{is-head}

-- L by its two bytes
pub said-by : (s : List ℕ) (x y : ℕ) → x ≡ byte_at s 1 → y ≡ byte_at s 2 → y < 256 → 3 + x % 16 * 256 + y ≡ said_length s
unfolding field_at
said-by s x y e f b = omega (arith, e, f, b)

-- WHAT ENDS: nothing in hand, or not whole yet; or the one section
module _ (h m : List ℕ) where
  pub ended-none : length h ≡ 0 → ended h m ≡ []
  unfolding ended
  ended-none z = go h z
    where
      go : (l : List ℕ) → length l ≡ 0 → cond (is_none l || eqb (whole_at (l ++ m)) 0) [] (take (whole_at (l ++ m)) (l ++ m) ∷ []) ≡ []
      go [] e = refl
      go (x ∷ l) e = absurd (omega arith)

  pub ended-short : whole_at (h ++ m) ≡ 0 → ended h m ≡ []
  unfolding ended
  ended-short z = rw (eq-eqb (whole_at (h ++ m)) 0 z, or-true (is_none h))

  module _ (s : length h ≡ 0 → ⊥) where
    some : is_none h ≡ false
    some = go h s
      where
        go : (l : List ℕ) → (length l ≡ 0 → ⊥) → is_none l ≡ false
        go [] n = absurd (n refl)
        go (x ∷ l) n = refl

    pub ended-whole : (whole_at (h ++ m) ≡ 0 → ⊥) → ended h m ≡ take (whole_at (h ++ m)) (h ++ m) ∷ []
    unfolding ended
    ended-whole n = rw (some, ne_eqb (whole_at (h ++ m)) 0 n)

    -- more bytes than were in hand
    pub beyond-hand : is_head h ≡ true → (whole_at (h ++ m) ≡ 0 → ⊥) → length h ≤ whole_at (h ++ m)
    beyond-hand k n = go h s k n
      where
        go : (l : List ℕ) → (length l ≡ 0 → ⊥) → is_head l ≡ true → (whole_at (l ++ m) ≡ 0 → ⊥) → length l ≤ whole_at (l ++ m)
        go [] t e f = absurd (t refl)
        go (x ∷ l) t e f = omega (arith, short)
          where
            short : whole_at ((x ∷ l) ++ m) ≤ length (x ∷ l) → ⊥
            short w =
                let o = section_kind.own ((x ∷ l) ++ m) (x ∷ l) (omega (arith, f)) (sym (take-append-le (whole_at ((x ∷ l) ++ m)) (x ∷ l) m w)) in
                f (sym o ∙ (is-head x l e).1)

-- one section, laid out
pub one-long : (x : List ℕ) → joined (x ∷ []) ≡ x
unfolding joined
one-long x = append-nil x

pub none-long : length (joined []) ≡ 0
unfolding joined
none-long = refl

pub none_laid : (out : List ℕ) → laid_first (joined []) out ≡ out
unfolding joined
none_laid out = refl

-- the section in two parts: what was in hand, and what it lacked
pub both-parts : (h m : List ℕ) (n : ℕ) → length h ≤ n → take n (h ++ m) ≡ h ++ take (n - length h) m
both-parts h m n l =
    let e : n ≡ length h + (n - length h) = omega arith in
    ap (λ (k : ℕ). take k (h ++ m)) e ∙ take-append-add h m (n - length h)

-- TWO PIECES LAID one after the other
pub two_laid : (out a b : List ℕ) → length a + length b ≤ length out → laid_at (laid_at out 0 a) (length a) b ≡ laid_first (a ++ b) out
unfolding overwrite
two_laid out a b l =
    let la = length-append a (drop (length a) out) in
    let ld = length-drop (length a) out in
    let first : laid_at out 0 a ≡ a ++ drop (length a) out = laid-fits out 0 a (omega arith) ∙ ap (λ (n : ℕ). a ++ drop n out) (omega_id (length a)) in
    let rest : drop (length a + length b) (a ++ drop (length a) out) ≡ drop (length (a ++ b)) out =
    drop-append-add a (drop (length a) out) (length b) ∙ drop-drop (length b) (length a) out ∙ ap (λ (n : ℕ). drop n out) (sym (length-append a b)) in
    ap (λ (x : List ℕ). laid_at x (length a) b) first
    ∙ laid-fits (a ++ drop (length a) out) (length a) b (omega arith)
    ∙ ap₂ (λ (x y : List ℕ). x ++ (b ++ y)) (take_at a (drop (length a) out) (length a) refl) rest
    ∙ sym (append_assoc a b (drop (length (a ++ b)) out))
  where
    omega_id : (n : ℕ) → 0 + n ≡ n
    omega_id n = omega arith

-- HOW FAR WHOLE SECTIONS GO, one after another
abbrev pub Walked : List ℕ → ℕ → Type 0
Walked xs at = (at ≤ length xs) × (at + length (joined (items whole_at (drop at xs))) ≡ length (joined (items whole_at xs)))

module _ (xs : List ℕ) (at : ℕ) (w : Walked xs at) where
  pub walked_stop : whole_at (drop at xs) ≡ 0 → at ≡ length (joined (items whole_at xs))
  unfolding joined
  walked_stop z =
      let e = ap (λ (is : List (List ℕ)). at + length (joined is)) (items-stop whole_at section_kind (drop at xs) z) in
      let f = w.1 in
      omega (arith, e, f)

  pub walked_on : (n : ℕ) → n ≡ whole_at (drop at xs) → (n ≡ 0 → ⊥) → Walked xs (at + n)
  unfolding joined
  walked_on n e z =
      let f = section_kind.fits (drop at xs) in
      let d = length-drop at xs in
      let s = ap (λ (is : List (List ℕ)). length (joined is)) (items-step whole_at section_kind (drop at xs) (λ q. z (e ∙ q))) in
      let l = length-append (take (whole_at (drop at xs)) (drop at xs)) (joined (items whole_at (drop (whole_at (drop at xs)) (drop at xs)))) in
      let k = length-take-le (whole_at (drop at xs)) (drop at xs) f in
      let g : length (joined (items whole_at (drop (whole_at (drop at xs)) (drop at xs)))) ≡ length (joined (items whole_at (drop (at + n) xs))) =
      ap (λ (ys : List ℕ). length (joined (items whole_at ys))) (drop-drop (whole_at (drop at xs)) at xs ∙ ap (λ (m : ℕ). drop (at + m) xs) (sym e)) in
      let h = w.1 in
      let i = w.0 in
      (omega (arith, d, f, e, i), omega (arith, s, l, k, g, h, e))

-- what the buffer holds then: nothing new; or the section, in its two parts
pub none-given : (h m out : List ℕ) → ended h m ≡ [] → (0 ≡ length (joined (ended h m))) × (out ≡ laid_first (joined (ended h m)) out)
none-given h m out e =
    (sym none-long ∙ ap (λ (ss : List (List ℕ)). length (joined ss)) (sym e), sym (none_laid out) ∙ ap (λ (ss : List (List ℕ)). laid_first (joined ss) out) (sym e))

module _ (h m out : List ℕ) (n : ℕ) (w : n ≡ whole_at (h ++ m)) (s : length h ≡ 0 → ⊥) (z : n ≡ 0 → ⊥) (k : is_head h ≡ true) where
  whole-some : whole_at (h ++ m) ≡ 0 → ⊥
  whole-some e = z (w ∙ e)

  pub hand-inside : length h ≤ n
  hand-inside = let b = beyond-hand h m s k whole-some in omega (arith, w, b)

  pub lacking : n - length h ≤ length m
  lacking = let f = section_kind.fits (h ++ m) in let l = length-append h m in omega (arith, w, f, l)

  the_one : joined (ended h m) ≡ h ++ take (n - length h) m
  the_one = ap joined (ended-whole h m s whole-some) ∙ one-long (take (whole_at (h ++ m)) (h ++ m)) ∙ ap (λ (i : ℕ). take i (h ++ m)) (sym w) ∙ both-parts h m n hand-inside

  pub all-given : length h + length m ≤ length out
      → (n ≡ length (joined (ended h m))) × (laid_at (laid_at out 0 h) (length h) (take (n - length h) m) ≡ laid_first (joined (ended h m)) out)
  all-given l =
      let t = length-take-le (n - length h) m lacking in
      let a = length-append h (take (n - length h) m) in
      let i = hand-inside in
      let e = ap (λ (x : List ℕ). length x) the_one in
      let q = lacking in
      (omega (arith, t, a, i, e), two_laid out h (take (n - length h) m) (omega (arith, t, l, q)) ∙ ap (λ (x : List ℕ). laid_first x out) (sym the_one))
