-- `transport::state::keep` meets its contract.
use Prim.Native.Nat.{ℕ, ◌/◌, ◌%◌}
use mathlib.Core.Path.{ap, ◌∙◌}
use mathlib.Core.List.{List}
use lib.ListN.{set}
use Rattle.transport.proofs.Laws.Taking.{kept-bytes}
use Rattle.transport.proofs.state.keep.Goals as goal

pub returns : goal.returns
returns c =
    let n = c.args.held in
    ap (λ (x : List ℕ). set (set x 188 (n / 256)) 189 (n % 256)) c.copy_at.ensures ∙ kept-bytes c.args.state.now c.args.p.now n c.requires.0 c.requires.1 c.requires.2
