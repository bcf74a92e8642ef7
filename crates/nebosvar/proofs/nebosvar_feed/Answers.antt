-- `nebosvar::nebosvar_feed` meets its contract.
use mathlib.Core.Path.{ap, ◌∙◌}
use Rattle.nebosvar.specs.Packets.{fed_out}
use Rattle.nebosvar.proofs.nebosvar_feed.Goals as goal

pub returns : goal.returns
returns c = let e = c.feed-handed.ensures in (c.fed_out.ensures ∙ ap fed_out e.0, e.1, e.2)
