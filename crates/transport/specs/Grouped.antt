-- CALLS IN ANY GROUPING (02 §2): one packet a call, or many; each takes up the state that the one before it left, and has a buffer of its own.
use Rattle.std.specs.Prelude.{ℕ, cond, List, [], ◌∷◌, ◌++◌, eqb}
use Rattle.transport.specs.Feed.{handed_on}
use Rattle.transport.specs.State.{state_in}
use Rattle.transport.specs.Calls.{lent_refusal, feed_outcome, feed_state, gathered_packets, gather_state}

pub data PacketCall : Type 0 where
  one : (packet : List ℕ) → (room : ℕ) → PacketCall
  many : (stretch : List ℕ) → (room : ℕ) → PacketCall

-- the packets that a call went through: none where it was refused for what was lent
unfoldable pub went_through : ℕ → List ℕ → PacketCall → List (List ℕ)
went_through pid s (one p room) = cond (eqb (lent_refusal pid s room) 0) (p ∷ []) []
went_through pid s (many xs room) = gathered_packets pid s room xs

-- the sections that it put into its buffer, and the state that it left
unfoldable pub gave : ℕ → List ℕ → PacketCall → List (List ℕ)
gave pid s (one p room) = (feed_outcome pid s room p).sections
gave pid s (many xs room) = handed_on pid (state_in s) (gathered_packets pid s room xs)

unfoldable pub left_by : ℕ → List ℕ → PacketCall → List ℕ
left_by pid s (one p room) = feed_state pid s room p
left_by pid s (many xs room) = gather_state pid s room xs

-- the same of calls, one after another
unfoldable pub all_through : ℕ → List ℕ → List PacketCall → List (List ℕ)
all_through pid s [] = []
all_through pid s (c ∷ cs) = went_through pid s c ++ all_through pid (left_by pid s c) cs

unfoldable pub all_given : ℕ → List ℕ → List PacketCall → List (List ℕ)
all_given pid s [] = []
all_given pid s (c ∷ cs) = gave pid s c ++ all_given pid (left_by pid s c) cs

unfoldable pub left_last : ℕ → List ℕ → List PacketCall → List ℕ
left_last pid s [] = s
left_last pid s (c ∷ cs) = left_last pid (left_by pid s c) cs
