-- Items that end exactly where their list ends, and each of which meets a test: what a loop that asks both at once knows at byte i, and what each way
-- through it makes of that. n is the size of the item at i.
use Prim.Native.Nat.{ℕ, ◌+◌, ◌≤◌, ◌<◌}
use mathlib.Core.Path.{◌≡◌, refl, sym, ap, ◌∙◌}
use mathlib.Core.Bool.{Bool, true, false, ◌&&◌}
use mathlib.Core.List.{List}
use native.Mathlib.Omega.{arith}
use lib.Dec.{eqb}
use lib.ListN.{length, take, drop}
use borrow.Author.Tests.{eqb-true, eqb-false}
use Rattle.wire.specs.Places.{place_from}
use Rattle.wire.specs.Items.{Size, IsKind, items, fills, every}
use Rattle.wire.proofs.Laws.Loops.{Filling, Seeking, Testing, fills-stop, fills-turn, fills-done, test_miss, test-turn, test-done}

-- so many are left to be passed
pub seek-left : (size : Size) (s : List ℕ) (k i m n : ℕ) → m ≡ n → Seeking size s k i n → Seeking size s k i m
seek-left size s k i m n e v = (v.0, ap (λ (l : ℕ). place_from l i (items size (drop i s))) e ∙ v.1)

-- where no item begins at byte i, they end exactly if that is the end
pub fills-end : (size : Size) → IsKind size → (s : List ℕ) (i : ℕ) → Filling size s i → size (drop i s) ≡ 0 → eqb i (length s) ≡ fills size s
fills-end size kind s i v z = go (eqb i (length s)) refl
  where
    go : (t : Bool) → eqb i (length s) ≡ t → t ≡ fills size s
    go true e = let h = eqb-true i (length s) e in fills-done size kind s i (omega (arith, h)) v
    go false e = let h = eqb-false i (length s) e in fills-stop size kind s i 0 (sym z) v (omega (arith, v.0, h)) refl

abbrev pub proper : Size → (List ℕ → Bool) → List ℕ → Bool
proper size good s = fills size s && every good (items size s)

abbrev pub Proper : Size → (List ℕ → Bool) → List ℕ → ℕ → Type 0
Proper size good s i = Filling size s i × Testing size good s i

second-fails : (a : Bool) → false ≡ (a && false)
second-fails true = refl
second-fails false = refl

module _ (size : Size) (kind : IsKind size) (good : List ℕ → Bool) (s : List ℕ) (i : ℕ) (v : Proper size good s i) where
  module _ (n : ℕ) (e : n ≡ size (drop i s)) where
    pub proper-stop : (i ≡ length s → ⊥) → n ≡ 0 → false ≡ proper size good s
    proper-stop h z = ap (λ (t : Bool). t && every good (items size s)) (fills-stop size kind s i n e v.0 (omega (arith, v.0.0, h)) z)

    pub proper_miss : (n ≡ 0 → ⊥) → good (take n (drop i s)) ≡ false → false ≡ proper size good s
    proper_miss z g = second-fails (fills size s) ∙ ap (λ (t : Bool). fills size s && t) (test_miss size kind s i n e good v.1 z g)

    pub proper-turn : (n ≡ 0 → ⊥) → good (take n (drop i s)) ≡ true → Proper size good s (i + n)
    proper-turn z g = (fills-turn size kind s i n e v.0 z, test-turn size kind s i n e good v.1 z g)

  pub proper-done : length s ≤ i → true ≡ proper size good s
  proper-done h = λ j. fills-done size kind s i h v.0 j && test-done size kind s i h good v.1 j
