-- Each exported call leaves one answer, one record and one image, or one content of the bytes that it is lent to write to.
use Prim.Native.Nat.{ℕ}
use mathlib.Core.Path.{◌≡◌, sym, ◌∙◌}
use mathlib.Core.List.{List}
use lib.ListN.{length}
use contract.Lifetimes.{Lfts}
use borrow.Fn.Kinds.{Dens, res_t, ended_of}
use denote.Triple.Clauses.{AtExit}
use Rattle.wire.proofs.Once.{OneAnswer}
use Rattle.carousel_record.specs.declared.Carousel.{Carousel}
use Rattle.carousel_step.specs.Step.{image_of}
use Rattle.carousel_handout.specs.Calls.{report_of}
use Rattle.carousel_play.specs.declared.Playlist.{Playlist}
use Rattle.carousel_play.specs.Calls.{count_answer, play_answer, played_bytes}
use Rattle.receiver.specs.Run.{image_took, image_ran}
use Rattle.nebosvar.specs.declared.FateOut.{FateOut}
use Rattle.nebosvar.specs.declared.TakenOut.{TakenOut}
use Rattle.nebosvar.specs.declared.PassageOut.{PassageOut}
use Rattle.ait_numbers.specs.declared.PartOut.{PartOut}
use Rattle.nebosvar.specs.declared.LackOut.{LackOut}
use Rattle.nebosvar.specs.declared.CountedOut.{CountedOut}
use Rattle.nebosvar.specs.declared.WrittenOut.{WrittenOut}
use Rattle.nebosvar.specs.Box.{step_out, take_out, run_out, part_out, lack_out}
use Rattle.nebosvar.specs.Play.{counted_out, played_out}
use Rattle.nebosvar.proofs.nebosvar_start.Kinds as nebosvar-start-kinds
use Rattle.nebosvar.proofs.nebosvar_start.Reads as nebosvar-start-reads
use Rattle.nebosvar.proofs.nebosvar_table.Kinds as nebosvar-table-kinds
use Rattle.nebosvar.proofs.nebosvar_table.Reads as nebosvar-table-reads
use Rattle.nebosvar.proofs.nebosvar_application.Kinds as nebosvar-application-kinds
use Rattle.nebosvar.proofs.nebosvar_application.Reads as nebosvar-application-reads
use Rattle.nebosvar.proofs.nebosvar_descriptor.Kinds as nebosvar-descriptor-kinds
use Rattle.nebosvar.proofs.nebosvar_descriptor.Reads as nebosvar-descriptor-reads
use Rattle.nebosvar.proofs.nebosvar_item.Kinds as nebosvar-item-kinds
use Rattle.nebosvar.proofs.nebosvar_item.Reads as nebosvar-item-reads
use Rattle.nebosvar.proofs.nebosvar_extension.Kinds as nebosvar-extension-kinds
use Rattle.nebosvar.proofs.nebosvar_extension.Reads as nebosvar-extension-reads
use Rattle.nebosvar.proofs.nebosvar_label.Kinds as nebosvar-label-kinds
use Rattle.nebosvar.proofs.nebosvar_label.Reads as nebosvar-label-reads
use Rattle.nebosvar.proofs.nebosvar_list_read.Kinds as nebosvar-list-read-kinds
use Rattle.nebosvar.proofs.nebosvar_list_read.Reads as nebosvar-list-read-reads
use Rattle.nebosvar.proofs.nebosvar_list_record.Kinds as nebosvar-list-record-kinds
use Rattle.nebosvar.proofs.nebosvar_list_record.Reads as nebosvar-list-record-reads
use Rattle.nebosvar.proofs.nebosvar_list_walk.Kinds as nebosvar-list-walk-kinds
use Rattle.nebosvar.proofs.nebosvar_list_walk.Reads as nebosvar-list-walk-reads
use Rattle.nebosvar.proofs.nebosvar_list_write.Kinds as nebosvar-list-write-kinds
use Rattle.nebosvar.proofs.nebosvar_list_write.Reads as nebosvar-list-write-reads
use Rattle.nebosvar.proofs.nebosvar_feed.Kinds as nebosvar-feed-kinds
use Rattle.nebosvar.proofs.nebosvar_feed.Reads as nebosvar-feed-reads
use Rattle.nebosvar.proofs.nebosvar_gather.Kinds as nebosvar-gather-kinds
use Rattle.nebosvar.proofs.nebosvar_gather.Reads as nebosvar-gather-reads
use Rattle.nebosvar.proofs.nebosvar_write_packets.Kinds as nebosvar-write-packets-kinds
use Rattle.nebosvar.proofs.nebosvar_write_packets.Reads as nebosvar-write-packets-reads

nebosvar-start : OneAnswer 0 nebosvar-start-kinds.ps nebosvar-start-kinds.r nebosvar-start-reads.Post
nebosvar-start κs a x y s t p q = p ∙ sym q

nebosvar-table : OneAnswer 1 nebosvar-table-kinds.ps nebosvar-table-kinds.r nebosvar-table-reads.Post
nebosvar-table κs a x y s t p q = p ∙ sym q

nebosvar-application : OneAnswer 1 nebosvar-application-kinds.ps nebosvar-application-kinds.r nebosvar-application-reads.Post
nebosvar-application κs a x y s t p q = p ∙ sym q

nebosvar-descriptor : OneAnswer 1 nebosvar-descriptor-kinds.ps nebosvar-descriptor-kinds.r nebosvar-descriptor-reads.Post
nebosvar-descriptor κs a x y s t p q = p ∙ sym q

nebosvar_item : OneAnswer 1 nebosvar-item-kinds.ps nebosvar-item-kinds.r nebosvar-item-reads.Post
nebosvar_item κs a x y s t p q = p ∙ sym q

nebosvar-extension : OneAnswer 1 nebosvar-extension-kinds.ps nebosvar-extension-kinds.r nebosvar-extension-reads.Post
nebosvar-extension κs a x y s t p q = p ∙ sym q

nebosvar-label : OneAnswer 1 nebosvar-label-kinds.ps nebosvar-label-kinds.r nebosvar-label-reads.Post
nebosvar-label κs a x y s t p q = p ∙ sym q

nebosvar-list-read : OneAnswer 1 nebosvar-list-read-kinds.ps nebosvar-list-read-kinds.r nebosvar-list-read-reads.Post
nebosvar-list-read κs a x y s t p q = p ∙ sym q

nebosvar-list_record : OneAnswer 1 nebosvar-list-record-kinds.ps nebosvar-list-record-kinds.r nebosvar-list-record-reads.Post
nebosvar-list_record κs a x y s t p q = p ∙ sym q

nebosvar-list-walk : OneAnswer 1 nebosvar-list-walk-kinds.ps nebosvar-list-walk-kinds.r nebosvar-list-walk-reads.Post
nebosvar-list-walk κs a x y s t p q = p ∙ sym q

nebosvar-list-write : OneAnswer 2 nebosvar-list-write-kinds.ps nebosvar-list-write-kinds.r nebosvar-list-write-reads.Post
nebosvar-list-write κs a x y s t p q = p.0 ∙ sym q.0

-- and one content of the bytes lent to it
nebosvar-list-left : (κs : Lfts 2) (a : Dens κs nebosvar-list-write-kinds.ps) (x y : (res_t nebosvar-list-write-kinds.r κs).Denot)
    (s t : AtExit (ended_of 2 nebosvar-list-write-kinds.ps nebosvar-list-write-kinds.r) κs)
    → nebosvar-list-write-reads.Post κs a x s → nebosvar-list-write-reads.Post κs a y t → s.1.1.1.0.now ≡ t.1.1.1.0.now
nebosvar-list-left κs a x y s t p q = p.1 ∙ sym q.1

nebosvar_feed : OneAnswer 3 nebosvar-feed-kinds.ps nebosvar-feed-kinds.r nebosvar-feed-reads.Post
nebosvar_feed κs a x y s t p q = p.0 ∙ sym q.0

-- and one state and one buffer
nebosvar_feed-left : (κs : Lfts 3) (a : Dens κs nebosvar-feed-kinds.ps) (x y : (res_t nebosvar-feed-kinds.r κs).Denot)
    (s t : AtExit (ended_of 3 nebosvar-feed-kinds.ps nebosvar-feed-kinds.r) κs) → nebosvar-feed-reads.Post κs a x s → nebosvar-feed-reads.Post κs a y t
    → (s.1.1.0.now ≡ t.1.1.0.now) × (s.1.1.1.0.now ≡ t.1.1.1.0.now)
nebosvar_feed-left κs a x y s t p q = (p.1 ∙ sym q.1, p.2 ∙ sym q.2)

nebosvar_gather : OneAnswer 3 nebosvar-gather-kinds.ps nebosvar-gather-kinds.r nebosvar-gather-reads.Post
nebosvar_gather κs a x y s t p q = p.0 ∙ sym q.0

-- and one state and one buffer
nebosvar_gather-left : (κs : Lfts 3) (a : Dens κs nebosvar-gather-kinds.ps) (x y : (res_t nebosvar-gather-kinds.r κs).Denot)
    (s t : AtExit (ended_of 3 nebosvar-gather-kinds.ps nebosvar-gather-kinds.r) κs) → nebosvar-gather-reads.Post κs a x s → nebosvar-gather-reads.Post κs a y t
    → (s.1.1.0.now ≡ t.1.1.0.now) × (s.1.1.1.0.now ≡ t.1.1.1.0.now)
nebosvar_gather-left κs a x y s t p q = (p.1 ∙ sym q.1, p.2 ∙ sym q.2)

nebosvar-write-packets : OneAnswer 2 nebosvar-write-packets-kinds.ps nebosvar-write-packets-kinds.r nebosvar-write-packets-reads.Post
nebosvar-write-packets κs a x y s t p q = p.0 ∙ sym q.0

nebosvar-write-packets-left : (κs : Lfts 2) (a : Dens κs nebosvar-write-packets-kinds.ps) (x y : (res_t nebosvar-write-packets-kinds.r κs).Denot)
    (s t : AtExit (ended_of 2 nebosvar-write-packets-kinds.ps nebosvar-write-packets-kinds.r) κs)
    → nebosvar-write-packets-reads.Post κs a x s → nebosvar-write-packets-reads.Post κs a y t → s.1.1.1.0.now ≡ t.1.1.1.0.now
nebosvar-write-packets-left κs a x y s t p q = p.1 ∙ sym q.1

-- The entries behind a pointer, over the equations of their contracts.
module _ (c : Carousel) (s image : List ℕ) (d d' : Carousel) (l l' : List ℕ) where
  pub nebosvar-step : (r r' : FateOut) → (r ≡ (step_out c s image).answer) × (d ≡ (step_out c s image).state) × (l ≡ image_of c s image)
      → (r' ≡ (step_out c s image).answer) × (d' ≡ (step_out c s image).state) × (l' ≡ image_of c s image) → (r ≡ r') × (d ≡ d') × (l ≡ l')
  nebosvar-step r r' p q = (p.0 ∙ sym q.0, p.1 ∙ sym q.1, p.2 ∙ sym q.2)

  pub nebosvar_take : (budget : ℕ) (r r' : TakenOut) → (r ≡ (take_out c s image budget).answer) × (d ≡ (take_out c s image budget).state)
      × (l ≡ image_took c s image budget) → (r' ≡ (take_out c s image budget).answer) × (d' ≡ (take_out c s image budget).state)
      × (l' ≡ image_took c s image budget) → (r ≡ r') × (d ≡ d') × (l ≡ l')
  nebosvar_take budget r r' p q = (p.0 ∙ sym q.0, p.1 ∙ sym q.1, p.2 ∙ sym q.2)

  pub nebosvar-run : (budget : ℕ) (r r' : PassageOut) → (r ≡ (run_out c s image budget).answer) × (d ≡ (run_out c s image budget).state)
      × (l ≡ image_ran c s image budget) → (r' ≡ (run_out c s image budget).answer) × (d' ≡ (run_out c s image budget).state)
      × (l' ≡ image_ran c s image budget) → (r ≡ r') × (d ≡ d') × (l ≡ l')
  nebosvar-run budget r r' p q = (p.0 ∙ sym q.0, p.1 ∙ sym q.1, p.2 ∙ sym q.2)

pub nebosvar_handout : (c : Carousel) (image : List ℕ) (number : ℕ) (r r' : PartOut) → r ≡ part_out c image number → r' ≡ part_out c image number → r ≡ r'
nebosvar_handout c image number r r' p q = p ∙ sym q

pub nebosvar_missing : (c : Carousel) (number : ℕ) (r r' : LackOut) → r ≡ lack_out (report_of c number) → r' ≡ lack_out (report_of c number) → r ≡ r'
nebosvar_missing c number r r' p q = p ∙ sym q

pub nebosvar-section-count : (playlist : Playlist) (r r' : CountedOut) → r ≡ counted_out (count_answer playlist) → r' ≡ counted_out (count_answer playlist) → r ≡ r'
nebosvar-section-count playlist r r' p q = p ∙ sym q

pub nebosvar-write-section : (playlist : Playlist) (image : List ℕ) (identifier place : ℕ) (out l l' : List ℕ) (r r' : WrittenOut)
    → (r ≡ played_out (play_answer identifier playlist image place (length out))) × (l ≡ played_bytes identifier playlist image place out)
    → (r' ≡ played_out (play_answer identifier playlist image place (length out))) × (l' ≡ played_bytes identifier playlist image place out) → (r ≡ r') × (l ≡ l')
nebosvar-write-section playlist image identifier place out l l' r r' p q = (p.0 ∙ sym q.0, p.1 ∙ sym q.1)
