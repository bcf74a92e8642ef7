-- `print_list` lends what it may. What is written is whole by drift_report's `never-cut`.
use Rattle.std.proofs.Common.{ℕ, ◌≡◌, ◌≤◌, arith, sym}
use lib.Seq.{length-take-le}
use Rattle.text.specs.Text.{reached}
use Rattle.text.proofs.Laws.Puts.{reached-most}
use Rattle.driftlist.proofs.print_list.Goals as goal

within : (r n room size : ℕ) → r ≡ reached 0 n room → size ≡ room → r ≤ size
within r n room size e f = let m = reached-most 0 n room (omega arith) in omega arith

-- the text ends within what was lent for it
pub slice_bounds-out-end : goal.slice_bounds-out-end
slice_bounds-out-end g c = within _ _ _ _ c.write_page-size.ensures.1 c.write_page-size.auto.out

pub slice_bounds-write_all-end : goal.slice_bounds-write_all-end
slice_bounds-write_all-end g c = sym (length-take-le _ _ (within _ _ _ _ c.write_page-size.ensures.1 c.write_page-size.auto.out))
