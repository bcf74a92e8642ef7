-- Where modules and blocks lie in an image.
use Prim.Native.Nat.{ℕ, ◌+◌, ◌≤◌, ◌<◌}
use mathlib.Core.Path.{◌≡◌, ap}
use mathlib.Core.List.{List}
use mathlib.Core.Logic.{◌⊎◌, inl, inr}
use native.Mathlib.Omega.{arith}
use native.Mathlib.Decide.{dec_lt}
use lib.ListN.{length, get_or}
use Rattle.carousel_messages.specs.Heard.{sizes_of}
use Rattle.carousel_record.specs.Record.{Record, module_at, bytes_of, sums, block_count, block_length, block_at}
use Rattle.carousel_record.proofs.Laws.Tests.{alike}
use Rattle.carousel_record.proofs.Laws.Blocks.{ends, apart}
use Rattle.carousel_record.proofs.Laws.Places.{module-fits, modules-apart, block-size_pos}
use Rattle.carousel_record.proofs.Laws.Rule.{Kept}

-- WHERE THINGS LIE. In a record that keeps its rule: each module lies within the sizes together, no two overlap, and no two blocks do.
module _ (r : Record) (k : Kept r) where
  begins-at : (i : ℕ) → get_or r.starts i 0 ≡ get_or (sums 0 (sizes_of r.announced.modules)) i 0
  begins-at i = ap (λ (l : List ℕ). get_or l i 0) k.running

  pub modules-inside : (i : ℕ) → i < length r.announced.modules → get_or r.starts i 0 + (module_at r.announced i).size ≤ bytes_of r.announced
  modules-inside i u = let m = module-fits 0 r.announced.modules i u in let e = begins-at i in omega arith

  earlier_module : (i j : ℕ) → i < j → j < length r.announced.modules → get_or r.starts i 0 + (module_at r.announced i).size ≤ get_or r.starts j 0
  earlier_module i j l w = let m = modules-apart 0 r.announced.modules i j l w in let e = begins-at i in let f = begins-at j in omega arith

  pub modules-apart_in : (i j : ℕ) → i < length r.announced.modules → j < length r.announced.modules → (i ≡ j → ⊥)
      → (get_or r.starts i 0 + (module_at r.announced i).size ≤ get_or r.starts j 0) ⊎ (get_or r.starts j 0 + (module_at r.announced j).size ≤ get_or r.starts i 0)
  modules-apart_in i j u w n = elim (dec_lt i j) [ yes l ↦ inl (earlier_module i j l w) | no l ↦ inr (earlier_module j i (omega (arith, n)) u) ]

  -- a block lies in its module
  pub block-ends : (i b : ℕ) → b < block_count r.announced i → block_at r i b + block_length r.announced i b ≤ get_or r.starts i 0 + (module_at r.announced i).size
  unfolding block_at
  block-ends i b v =
      let h = ends r.announced.block_size (module_at r.announced i).size (block-size_pos r.announced.block_size r.announced.modules k.limits) b v in
      omega arith

  pub block_room : (i b : ℕ) → i < length r.announced.modules → b < block_count r.announced i → block_at r i b + block_length r.announced i b ≤ bytes_of r.announced
  block_room i b u v = let h = block-ends i b v in let m = modules-inside i u in omega arith

  later_module : (i b j q : ℕ) → i < j → b < block_count r.announced i → j < length r.announced.modules → block_at r i b + block_length r.announced i b ≤ block_at r j q
  unfolding block_at
  later_module i b j q l v w = let h = block-ends i b v in let m = earlier_module i j l w in omega arith

  later-block : (i b q : ℕ) → b < q → q < block_count r.announced i → block_at r i b + block_length r.announced i b ≤ block_at r i q
  unfolding block_at
  later-block i b q l v =
      let h = apart r.announced.block_size (module_at r.announced i).size (block-size_pos r.announced.block_size r.announced.modules k.limits) b q l v in
      omega arith

  pub blocks-apart : (i b j q : ℕ) → i < length r.announced.modules → b < block_count r.announced i → j < length r.announced.modules → q < block_count r.announced j
      → (i ≡ j → b ≡ q → ⊥)
      → (block_at r i b + block_length r.announced i b ≤ block_at r j q) ⊎ (block_at r j q + block_length r.announced j q ≤ block_at r i b)
  blocks-apart i b j q u v w z n = elim (alike i j) [
    | inr ne ↦ elim (dec_lt i j) [ yes l ↦ inl (later_module i b j q l v w) | no l ↦ inr (later_module j q i b (omega (arith, ne)) z u) ]
    | inl e ↦ elim (dec_lt b q) [
      | yes l ↦ inl (rw (← e) (later-block i b q l (rw e z)))
      | no l ↦ elim (dec_lt q b) [ yes m ↦ inr (rw (← e) (later-block i q b m v)) | no m ↦ absurd (n e (omega arith)) ]
    ]
  ]
