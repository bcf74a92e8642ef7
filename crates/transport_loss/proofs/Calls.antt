-- THE PROMISES OVER CALLS: packets of the stream among any others, grouped in calls in any way, from a state of zeros on. 02, §2.
use Prim.Native.Nat.{ℕ, ◌≤◌, ◌<◌}
use mathlib.Core.Path.{◌≡◌, ap, ◌∙◌}
use mathlib.Core.Bool.{false}
use mathlib.Core.List.{List, [], ◌++◌}
use Rattle.wire.specs.Items.{Wholes}
use Rattle.section.specs.Whole.{whole_at}
use Rattle.transport.specs.Feed.{State, fresh, accepted, handed_on}
use Rattle.transport.specs.Grouped.{PacketCall, all_through, all_given}
use Rattle.transport.proofs.Laws.Feeding.{only-accepted}
use Rattle.transport.proofs.Grouped.{grouping, zeros, zeros-good, zeros-fresh}
use Rattle.transport_loss.specs.Stream.{WellSent, carried, spared, Carry, packets, payloads}
use Rattle.transport_loss.specs.Promise.{with_loss}
use Rattle.transport_loss.specs.Writer.{packets_of_all}
use Rattle.transport_loss.proofs.Promise.{one_loss}
use Rattle.transport_loss.proofs.HandedOn.{written-handed-on}

-- what calls give, by the packets that are not refused
given_by : (pid : ℕ) (cs : List PacketCall) → all_given pid zeros cs ≡ handed_on pid fresh (accepted pid (all_through pid zeros cs))
given_by pid cs =
    (grouping pid zeros cs (zeros-good pid)).0
    ∙ ap (λ (x : State). handed_on pid x (all_through pid zeros cs)) zeros-fresh
    ∙ only-accepted pid (all_through pid zeros cs) fresh

-- "a loss of 1 to 14 payload packets in a row costs exactly the sections with a byte in a lost packet"
pub loss_in-calls : (pid c : ℕ) (fs bs ds : List Carry) (cs : List PacketCall) → WellSent pid c [] (with_loss fs bs ds) → payloads bs ≤ 14
    → accepted pid (all_through pid zeros cs) ≡ packets fs ++ packets ds → all_given pid zeros cs ≡ spared (carried [] false (with_loss fs bs ds))
loss_in-calls pid c fs bs ds cs w l e = given_by pid cs ∙ ap (handed_on pid fresh) e ∙ one_loss pid c fs bs ds w l

-- what the writer writes is given, in whatever calls it comes
pub written_in-calls : (pid c : ℕ) (ss : List (List ℕ)) (cs : List PacketCall) → pid < 8192 → c < 16 → Wholes whole_at ss → accepted pid (all_through pid zeros cs) ≡ packets_of_all pid c ss
    → all_given pid zeros cs ≡ ss
written_in-calls pid c ss cs p q w e = given_by pid cs ∙ ap (handed_on pid fresh) e ∙ written-handed-on pid c ss p q w
