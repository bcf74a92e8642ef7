-- CALLS OVER PACKETS (02 §2): transport_run's call, one after another, with one record, one image and one state; each has a buffer of its own.
use Rattle.std.specs.Prelude.{ℕ, ◌<◌, List, [], ◌∷◌}
use Rattle.receiver.specs.Run.{Held}
use Rattle.transport.specs.Calls.{gather_state}
use Rattle.transport.specs.Grouped.{PacketCall, many}
use Rattle.transport_run.specs.Heard.{any_number, heard_stretch, heard_answer, heard_state, heard_image}
use Rattle.demands.specs.Demand.{Call, running}

pub record Lending : Type 0 where
  pub packets : List ℕ
  pub room : ℕ

-- what they leave of the record and the image
unfoldable pub heard_by : ℕ → Held → (state : List ℕ) → List Lending → Held
heard_by pid x s [] = x
heard_by pid x s (k ∷ ks) =
    heard_by pid
    (record { state = (heard_answer x.state pid k.packets s k.room x.image).state; image = heard_image x.state pid k.packets s k.room x.image })
    (heard_state x.state pid k.packets s k.room)
    ks

-- the same calls to `gather`
unfoldable pub gathers : List Lending → List PacketCall
gathers [] = []
gathers (k ∷ ks) = many k.packets k.room ∷ gathers ks

-- and the runs over what each handed on
unfoldable pub runs_over : ℕ → (state : List ℕ) → List Lending → List Call
runs_over pid s [] = []
runs_over pid s (k ∷ ks) = running (heard_stretch pid s k.room k.packets) any_number ∷ runs_over pid (gather_state pid s k.room k.packets) ks

-- no buffer is longer than a machine's memory
abbrev pub Lendable : List Lending → Type 0
Lendable [] = Unit {0}
Lendable (k ∷ ks) = (k.room < 18446744073709551616) × Lendable ks
