-- WHAT transport_write WRITES IS HANDED ON: the promises of it. That it is well-formed is in Writer.antt.
use Prim.Native.Nat.{ℕ, ◌+◌, ◌%◌, ◌≤◌, ◌<◌}
use mathlib.Core.Path.{◌≡◌, sym, ap, subst, ◌∙◌}
use mathlib.Core.Bool.{false}
use mathlib.Core.List.{List, [], ◌∷◌, ◌++◌}
use native.Mathlib.Omega.{arith}
use lib.ListN.{length}
use Rattle.wire.specs.Items.{Wholes, joined}
use Rattle.wire.proofs.Laws.Pieces.{cut-back, Wide, wide_both}
use Rattle.section.specs.Whole.{whole_at}
use Rattle.transport.specs.Feed.{fresh, handed_on, packets_in}
use Rattle.transport_write.specs.Writer.{section_packets}
use Rattle.transport_write.proofs.Laws.Packets.{packets-long}
use Rattle.transport_loss.specs.Stream.{Aired, WellSent, carried, all_of, spared, Carry, comes, packets, payloads}
use Rattle.transport_loss.specs.Promise.{with_loss}
use Rattle.transport_loss.specs.Writer.{packets_of_all, carry_of_all}
use Rattle.transport_loss.proofs.Promise.{all-handed-on, one_loss, well-lost, same-sections, unharmed_loss}
use Rattle.transport_loss.proofs.Writer.{before, well-written, packets-all, all-sections}

all-long : (pid c : ℕ) (ss : List (List ℕ)) → Wide 188 (packets_of_all pid c ss)
unfolding packets_of_all
all-long pid c [] = tt
all-long pid c (s ∷ ss) =
    let n : ℕ = (c + length (section_packets pid c s)) % 16 in
    wide_both 188 (section_packets pid c s) (packets_of_all pid n ss) (packets-long pid c s) (all-long pid n ss)

module _ (pid c : ℕ) (ss : List (List ℕ)) (pl : pid < 8192) (cl : c < 16) (w : Wholes whole_at ss) where
  -- WHAT IS WRITTEN IS HANDED ON: all the sections, in order, and nothing else
  pub written-handed-on : handed_on pid fresh (packets_of_all pid c ss) ≡ ss
  written-handed-on =
      ap (handed_on pid fresh) (sym (packets-all pid c ss)) ∙ all-handed-on pid (before pid c ss pl cl w) (carry_of_all pid c ss) (well-written pid c ss pl cl w) ∙ all-sections pid c ss

  -- also where they are laid end to end, as the calls have them
  pub bytes-handed-on : handed_on pid fresh (packets_in (joined (packets_of_all pid c ss))) ≡ ss
  bytes-handed-on = ap (handed_on pid fresh) (cut-back 188 (packets_of_all pid c ss) (omega arith) (all-long pid c ss)) ∙ written-handed-on

  -- AND WITH A LOSS, in the promise's own words: of the packets, bs in a row are lost, at most 14. The sections of the stream are ss; those with no byte in bs come out, in order, and nothing else.
  pub written-with_loss : (fs bs ds : List Carry) → fs ++ (bs ++ ds) ≡ carry_of_all pid c ss → payloads bs ≤ 14
      → (handed_on pid fresh (packets fs ++ packets ds) ≡ spared (carried [] false (with_loss fs bs ds))) × (all_of (carried [] false (with_loss fs bs ds)) ≡ ss)
  written-with_loss fs bs ds e m =
      let v = subst (λ (x : List Carry). WellSent pid (before pid c ss pl cl w) [] (comes x)) (sym e) (well-written pid c ss pl cl w) in (
        one_loss pid (before pid c ss pl cl w) fs bs ds (well-lost pid fs bs ds (before pid c ss pl cl w) [] v) m,
        same-sections (with_loss fs bs ds) [] false false ∙ ap (λ (x : List Aired). all_of (carried [] false x)) (unharmed_loss fs bs ds ∙ ap comes e) ∙ all-sections pid c ss,
      )
