-- THE RUN STRAIGHT FROM PACKETS (02 §2): the packets one by one; the sections that they hand on go to the receiver's run, record and image as they are.
use Rattle.std.specs.Prelude.{Result, Err, ℕ, cond, List}
use Rattle.wire.specs.Items.{joined}
use Rattle.carousel_record.specs.declared.Carousel.{Carousel}
use Rattle.carousel_record.specs.Record.{ruled_of}
use Rattle.receiver.specs.Run.{ran_of, image_ran}
use Rattle.transport.specs.declared.Gathered.{Gathered}
use Rattle.transport.specs.Feed.{handed_on}
use Rattle.transport.specs.State.{state_in}
use Rattle.transport.specs.Calls.{gathered_packets, gather_answer, gather_state, gather_out}
use Rattle.transport_run.specs.declared.Heard.{Heard}

-- more sections than any buffer has
abbrev pub any_number : ℕ
any_number = 18446744073709551615

-- the sections that the packets hand on, end to end
unfoldable pub heard_stretch : (pid : ℕ) → (state : List ℕ) → (room : ℕ) → (packets : List ℕ) → List ℕ
heard_stretch pid s room xs = joined (handed_on pid (state_in s) (gathered_packets pid s room xs))

-- 1, before all others: a record that breaks its rule. Then no packet is passed.
abbrev pub none_gathered : Result Gathered ℕ
none_gathered = Err 1

unfoldable pub heard_answer : Carousel → (pid : ℕ) → (packets state : List ℕ) → (room : ℕ) → (image : List ℕ) → Heard
heard_answer c pid xs s room image = cond (ruled_of c)
    (record { gathered = gather_answer pid s room xs; state = (ran_of c (heard_stretch pid s room xs) image any_number).state })
    (record { gathered = none_gathered; state = c })

unfoldable pub heard_state : Carousel → (pid : ℕ) → (packets state : List ℕ) → (room : ℕ) → List ℕ
heard_state c pid xs s room = cond (ruled_of c) (gather_state pid s room xs) s

unfoldable pub heard_out : Carousel → (pid : ℕ) → (packets state out : List ℕ) → List ℕ
heard_out c pid xs s out = cond (ruled_of c) (gather_out pid s xs out) out

unfoldable pub heard_image : Carousel → (pid : ℕ) → (packets state : List ℕ) → (room : ℕ) → (image : List ℕ) → List ℕ
heard_image c pid xs s room image = cond (ruled_of c) (image_ran c (heard_stretch pid s room xs) image any_number) image
