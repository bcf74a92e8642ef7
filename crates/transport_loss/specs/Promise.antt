-- THE LOSS PROMISE (02 §2), with its number as a variable: "From a well-formed stream without repeats, a loss of 1 to 14 payload packets in a row costs exactly the sections with a byte in a
-- lost packet; longer losses promise nothing." The packets fs come, bs in a row are lost, ds come; packets without payload among bs are lost with them and do not count.
use Rattle.std.specs.Prelude.{ℕ, ◌≤◌, ◌≡◌, false, List, [], ◌++◌}
use Rattle.transport.specs.Feed.{fresh, handed_on}
use Rattle.transport_loss.specs.Stream.{Aired, WellSent, carried, spared, Carry, comes, goes, packets, payloads}

abbrev pub with_loss : (fs bs ds : List Carry) → List Aired
with_loss fs bs ds = comes fs ++ (goes bs ++ comes ds)

abbrev pub LossPromise : ℕ → Type 0
LossPromise n =
    (pid c : ℕ) (fs bs ds : List Carry) → WellSent pid c [] (with_loss fs bs ds) → payloads bs ≤ n
    → handed_on pid fresh (packets fs ++ packets ds) ≡ spared (carried [] false (with_loss fs bs ds))
