-- What "matching" means: the table's tests 12 to 16, all passed, are the seven facts of the reader's record.
use Prim.Native.Nat.{ℕ, ◌<◌}
use mathlib.Core.Path.{◌≡◌, refl, sym}
use mathlib.Core.Bool.{true, false, ◌&&◌}
use mathlib.Core.Logic.{◌↔◌}
use native.Mathlib.Omega.{arith}
use lib.Dec.{eqb}
use lib.ListN.{length}
use borrow.Author.Tests.{eq-eqb, ne_eqb, eqb-true, lt-ltb, le-ltb}
use Rattle.wire.specs.Tests.{first_met}
use Rattle.wire.proofs.Laws.Tests.{both, clash}
use Rattle.carousel_messages.specs.Limits.{twice11}
use Rattle.carousel_messages.specs.Heard.{Announced, Arrived, Heard, refusal, announced, arrived, numbers_of}
use Rattle.carousel_record.specs.Record.{module_at, place_of, bytes_of, block_count, block_length}
use Rattle.carousel_step.specs.Step.{meets12, meets14, meets16, block_refusal}
use Rattle.carousel_record.specs.Refusals.{meets13, meets15}
use Rattle.carousel_step.specs.Matching.{block_for, heard_for, block_matches, heard_matches, Matching}
use Rattle.carousel_record.proofs.Laws.Places.{place_is}
use Rattle.carousel_step.proofs.View.{fits}

module _ (a : Announced) (numbers : twice11 (numbers_of a.modules) ≡ false) (n i b : ℕ) (there : i < length a.modules) (d : Arrived) where
  place : d.number ≡ (module_at a i).number → place_of a d.number ≡ i
  place e = rw e (place_is a.modules i numbers there)

  means : block_matches a n i b d ≡ true → Matching a n i b d
  unfolding block_matches
  means e =
      let h = both (eqb (block_refusal a n d) 0) (eqb d.number (module_at a i).number && eqb d.block b) e in
      let q = both (eqb d.number (module_at a i).number) (eqb d.block b) h.1 in
      let num = eqb-true _ _ q.0 in
      let blk = eqb-true _ _ q.1 in
      let f = fits a n d (eqb-true _ _ h.0) in
      record {
        same_download = sym f.download;
        its_number = num;
        announced_version = sym (rw (place num) at f.version);
        image_holds = f.room;
        this_block = blk;
        one_of_its = rw (place num, blk) at f.within;
        its_length = rw (place num, blk) at f.whole;
      }

  meant : Matching a n i b d → block_matches a n i b d ≡ true
  unfolding block_matches block_refusal first_met meets12 meets13 meets14 meets15 meets16
  meant m =
      rw (
        place m.its_number,
        ne_eqb (length a.modules) 0 (λ z. omega arith),
        eq-eqb a.download d.download (sym m.same_download),
        lt-ltb i (length a.modules) there,
        eq-eqb (module_at a i).version d.version (sym m.announced_version),
        le-ltb n (bytes_of a) m.image_holds,
        m.this_block,
        lt-ltb b (block_count a i) m.one_of_its,
        eq-eqb (length d.bytes) (block_length a i b) m.its_length,
        eq-eqb d.number (module_at a i).number m.its_number,
        eq-eqb b b refl,
      )

same_block : (c d : Arrived) → arrived c ≡ arrived d → c ≡ d
same_block c d e = cc

-- MATCHING: a section matches block b of the module at place i exactly where it is a data section of which the seven facts hold.
pub matching_means : (a : Announced) → twice11 (numbers_of a.modules) ≡ false → (n i b : ℕ) → i < length a.modules → (h : Heard)
    → (heard_matches a n i b h ≡ true) ↔ ((d : Arrived) × (h ≡ arrived d) × Matching a n i b d)
unfolding heard_matches
matching_means a k n i b u (refusal m) = ((λ e. absurd (clash _ e refl)), (λ p. cc p.1))
matching_means a k n i b u (announced c) = ((λ e. absurd (clash _ e refl)), (λ p. cc p.1))
matching_means a k n i b u (arrived d) = ((λ e. (d, refl, means a k n i b u d e)), (λ p. rw (same_block d p.0 p.1) (meant a k n i b u p.0 p.2)))

-- what is matching for a block of a module is for that module
block_for_lem : (a : Announced) (i : ℕ) (d : Arrived) (n b : ℕ) → 0 < length a.modules → Matching a n i b d → block_for a i d ≡ true
unfolding block_for meets12
block_for_lem a i d n b some m =
    rw (ne_eqb (length a.modules) 0 (λ z. omega arith), eq-eqb a.download d.download (sym m.same_download), eq-eqb d.number (module_at a i).number m.its_number)

pub matching_for : (a : Announced) → twice11 (numbers_of a.modules) ≡ false → (n i b : ℕ) → i < length a.modules → (h : Heard) → heard_matches a n i b h ≡ true → heard_for a i h ≡ true
unfolding heard_for
matching_for a k n i b u h e =
    let q = (matching_means a k n i b u h).0 e in
    rw q.1 (block_for_lem a i q.0 n b (omega arith) q.2)
