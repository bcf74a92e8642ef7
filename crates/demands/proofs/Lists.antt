-- Lists: data laid end to end, the clear ones among some marks, and the first_matching of a run's sections that passes a test.
use Prim.Native.Nat.{ℕ, zero, suc, ◌+◌, ◌-◌, ◌*◌, ◌<◌}
use mathlib.Core.Path.{◌≡◌, refl, sym, ap, ◌∙◌}
use mathlib.Core.Logic.{◌⊎◌, inl, inr}
use mathlib.Core.Bool.{Bool, true, false, cond}
use mathlib.Core.List.Memᴰ
use mathlib.Core.List.{List, [], ◌∷◌}
use native.Mathlib.Omega.{arith}
use lib.ListN.{take, drop}
use lib.Seq.{take-add}
use Rattle.wire.proofs.Laws.Tests.{clash}
use Rattle.carousel_record.specs.Blocks.{blocks_of, block_length_of}
use Rattle.carousel_record.specs.Marks.{is_marked, clear_among}
use Rattle.carousel_record.proofs.Laws.Blocks.{covers, begins, inner_length, last_length}
use Rattle.demands.specs.Demand.{section_data, joined_blocks}
use Rattle.demands.specs.Quiet.{Holds, first_matching}

pub joined_ext : (n : ℕ) (f g : ℕ → List ℕ) → ((b : ℕ) → b < n → f b ≡ g b) → joined_blocks n f ≡ joined_blocks n g
unfolding joined_blocks
joined_ext zero f g h = refl
joined_ext (suc n) f g h = rw (joined_ext n f g (λ b l. h b (omega arith)), h n (omega arith))

-- the blocks of a module of size z, laid end to end, are the module
module _ (bs z : ℕ) (some_size : 0 < bs) (l : List ℕ) where
  abbrev piece : ℕ → List ℕ
  piece b = take (block_length_of bs z b) (drop (b * bs) l)

  joined-inner : (k : ℕ) → k < blocks_of bs z → joined_blocks k (λ b. piece b) ≡ take (k * bs) l
  unfolding joined_blocks
  joined-inner zero h = let e : 0 * bs ≡ 0 = omega arith in rw e
  joined-inner (suc k) h =
      let e : suc k * bs ≡ k * bs + bs = omega arith in
      rw (joined-inner k (omega arith), inner_length bs z some_size k h, e) (sym (take-add (k * bs) bs l))

  joined-all : (n : ℕ) → n ≡ blocks_of bs z → joined_blocks n (λ b. piece b) ≡ take z l
  unfolding joined_blocks
  joined-all zero e = let c = covers bs z some_size in let q : blocks_of bs z * bs ≡ 0 * bs = rw (← e) in let w : z ≡ 0 = omega arith in rw w
  joined-all (suc k) e =
      let b = begins bs z some_size k (omega arith) in
      let w : k * bs + (z - k * bs) ≡ z = omega arith in
      rw (joined-inner k (omega arith), last_length bs z some_size k (omega arith)) (sym (take-add (k * bs) (z - k * bs) l) ∙ ap (λ (m : ℕ). take m l) w)

  pub joined_pieces : joined_blocks (blocks_of bs z) (λ b. take (block_length_of bs z b) (drop (b * bs) l)) ≡ take z l
  joined_pieces = joined-all (blocks_of bs z) refl

-- where the marks are the same, the clear ones are
pub clear_ext : (ws vs : List ℕ) (from n b : ℕ) → ((q : ℕ) → q < b + n → is_marked ws (from + q) ≡ is_marked vs (from + q)) → clear_among ws from b n ≡ clear_among vs from b n
unfolding clear_among
clear_ext ws vs from zero b h = refl
clear_ext ws vs from (suc n) b h = rw (h b (omega arith), clear_ext ws vs from n (suc b) (λ q l. h q (omega arith)))

-- whether a section of the run passes: then there is one, and the first_matching that does is one; and the other way about
unfoldable pub some : (List ℕ → Bool) → List (List ℕ) → Bool
some p [] = false
some p (s ∷ ss) = cond (p s) true (some p ss)

module _ (p : List ℕ → Bool) where
  pub some_holds : (ss : List (List ℕ)) → some p ss ≡ true → (s : List ℕ) × Holds ss s × (p s ≡ true) × (first_matching p ss ≡ section_data s)
  unfolding some first_matching
  some_holds [] e = absurd (clash _ e refl)
  some_holds (s ∷ ss) e = go (p s) refl e (λ h. some_holds ss h)
    where
      go : (t : Bool) → p s ≡ t → cond t true (some p ss) ≡ true → (some p ss ≡ true → (r : List ℕ) × Holds ss r × (p r ≡ true) × (first_matching p ss ≡ section_data r))
          → (r : List ℕ) × Holds (s ∷ ss) r × (p r ≡ true) × (cond t (section_data s) (first_matching p ss) ≡ section_data r)
      go true h e ih = (s, Memᴰ.head refl, h, refl)
      go false h e ih = let r = ih e in (r.0, Memᴰ.tail r.1, r.2, r.3)

  pub holds-some : (ss : List (List ℕ)) (s : List ℕ) → Holds ss s → p s ≡ true → some p ss ≡ true
  unfolding some
  holds-some [] s h e = absurd (Memᴰ.not-nil h)
  holds-some (r ∷ ss) s h e = go (p r) refl (Memᴰ.cases_cons h) (λ m. holds-some ss s m e)
    where
      go : (t : Bool) → p r ≡ t → (s ≡ r) ⊎ Holds ss s → (Holds ss s → some p ss ≡ true) → cond t true (some p ss) ≡ true
      go true q c ih = refl
      go false q (inl m) ih = absurd (clash _ (rw m at e) q)
      go false q (inr m) ih = ih m
