-- `said` meets its contract.
use Rattle.std.proofs.Common.{ℕ, ◌≡◌, ◌≤◌, List, Option, None, Some}
use Rattle.std.specs.Option.{IfSome}
use Rattle.text.specs.Digits.{said_by}
use Rattle.text.proofs.Laws.Said.{said-most}
use Rattle.player.proofs.arguments.said.Goals as goal

within : (most : ℕ) (xs : List ℕ) (r : Option ℕ) → r ≡ said_by most xs → IfSome r (λ n. n ≤ most)
within most xs None e = tt
within most xs (Some n) e = said-most most xs n e

pub returns : goal.returns
returns g c = within _ _ _ c.read_decimal.ensures
