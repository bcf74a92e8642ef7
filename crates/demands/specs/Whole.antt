-- THE WORDS OF 02 §12: "Prove over any sequence of section calls: while no announcement empties or drops a module, more sections never unmark a block, never change a stored byte, and
-- never turn "complete" into refusal 20; the missing number never rises. Premise: the same record and image, carried from call to call and written by nobody else."
-- Carried from call to call: `walk` (Run), `called` (Demand). "While no announcement empties or drops a module": `Keeps` (Demand). A module is meant by its number k.
use Rattle.std.specs.Prelude.{Ok, Some, None, ℕ, ◌+◌, ◌≤◌, ◌<◌, ◌≡◌, Bool, true, false, ◌↔◌, ◌⊎◌, List, ◌++◌, length}
use Rattle.wire.specs.Fields.{byte_at}
use Rattle.carousel_messages.specs.Heard.{Announced}
use Rattle.carousel_record.specs.Record.{record_of, module_at, bytes_of, block_length, block_at, received}
use Rattle.carousel_record.specs.Keeping.{SameModule}
use Rattle.carousel_handout.specs.declared.Lack.{Lack}
use Rattle.carousel_handout.specs.Calls.{Handed, handout_place, Report, report_of}
use Rattle.receiver.specs.Run.{Held, given, walk}
use Rattle.drift_list.specs.Answers.{list_answer, fix_answer, walk_answer}
use Rattle.demands.specs.Demand.{fate_of, told, modules, place_now, Announces, blocks, missing_in, is_complete, handout_of, handed_of, Took}
use Rattle.receiver.specs.declared.Kind.TheVariants as kind
use Rattle.carousel_step.specs.declared.Answer.TheVariants as answer

-- whether block b of module k is marked, and where in the image its place begins and ends
abbrev pub is_marked_in : Held → (k b : ℕ) → Bool
is_marked_in x k b = received (record_of x.state) (place_now x k) b

abbrev pub begins_at : Held → (k b : ℕ) → ℕ
begins_at x k b = block_at (record_of x.state) (place_now x k) b

abbrev pub ends_at : Held → (k b : ℕ) → ℕ
ends_at x k b = begins_at x k b + block_length (told x) (place_now x k) b

-- "a stored byte": byte p of the image lies at the place of a marked block of the module
pub record StoredAt (x : Held) (k p : ℕ) : Type 0 where
  pub block : ℕ
  pub one_of_its : block < blocks x k
  pub marked : is_marked_in x k block ≡ true
  pub from : begins_at x k block ≤ p
  pub until : p < ends_at x k block

-- "the missing number"
abbrev pub missing_count : Held → (k : ℕ) → ℕ
missing_count x k = length (missing_in x k)

-- what the missing report says of it
abbrev pub report_in : Held → (k : ℕ) → Report
report_in x k = report_of x.state k

-- WHAT STAYS WHOLE of module k from x to y: the sentences of the request, and that it stays announced, with as many blocks
pub record StaysWhole (x : Held) (k : ℕ) (y : Held) : Type 0 where
  pub announced : Announces y k
  pub as_many : blocks y k ≡ blocks x k
  pub never_unmarked : (b : ℕ) → b < blocks x k → is_marked_in x k b ≡ true → is_marked_in y k b ≡ true
  pub never_changed : (p : ℕ) → StoredAt x k p → StoredAt y k p × (byte_at y.image p ≡ byte_at x.image p)
  pub never_rises : missing_count y k ≤ missing_count x k
  pub report_never_rises : (l : Lack) → report_in y k ≡ Ok (Some l) → (m : Lack) × (report_in x k ≡ Ok (Some m)) × (l.count ≤ m.count)
  pub stays_complete : is_complete x k ≡ true → is_complete y k ≡ true
  pub report_stays_whole : report_in x k ≡ Ok None → report_in y k ≡ Ok None
  pub never13 : handout_of y k ≡ 13 → ⊥
  pub never20 : is_complete x k ≡ true → handout_of y k ≡ 20 → ⊥

-- where in the image the bytes lie that are handed out: their start and their number
abbrev pub handed_at : Held → (k : ℕ) → Handed
handed_at x k = handout_place x.state x.image k

-- with §1: two lists of bytes are read alike, "record for record": as a whole, each record asked for, and each record on the walk
pub record ReadAlike (s t : List ℕ) : Type 0 where
  pub list : list_answer s ≡ list_answer t
  pub each : (n : ℕ) → fix_answer s n ≡ fix_answer t n
  pub walked : (n : ℕ) → walk_answer s n ≡ walk_answer t n

-- "a box whose image holds 262,144 bytes"
abbrev pub full_image : ℕ
full_image = 262144

-- FROM A HAND-OUT ON: "every later hand-out is equal to it", in its bytes, in where they lie and in what is read of them, "or is refused with 15, and that exactly while the sizes then
-- announced exceed the image"
pub record HandsOutAgain (x : Held) (k : ℕ) (y : Held) : Type 0 where
  pub equal : handout_of y k ≡ 0 → (handed_of y k ≡ handed_of x k) × (handed_at y k ≡ handed_at x k) × ReadAlike (handed_of y k) (handed_of x k)
  pub or15 : (handout_of y k ≡ 0) ⊎ (handout_of y k ≡ 15)
  pub exactly15 : (handout_of y k ≡ 15) ↔ (length x.image < bytes_of (told y))
  pub never15 : full_image ≤ length x.image → handout_of y k ≡ 0

-- "dropped": it is announced no more. "Emptied" by section s: it is announced, it is not the module that it was (the six of carousel_record `SameAt` do not all hold), and none of its
-- blocks is marked.
abbrev pub Dropped : Held → (k : ℕ) → Type 0
Dropped y k = modules y ≤ place_now y k

pub record EmptiedBy (x : Held) (k : ℕ) (s : List ℕ) : Type 0 where
  pub announced : Announces (given x s) k
  pub other : SameModule (record_of x.state) (record_of (given x s).state) k → ⊥
  pub clear : (b : ℕ) → b < blocks (given x s) k → is_marked_in (given x s) k b ≡ false

-- "some call of the run answered "new" and that announcement emptied or dropped it"
pub record Undone (x : Held) (k : ℕ) (ss : List (List ℕ)) : Type 0 where
  pub before : List (List ℕ)
  pub section : List ℕ
  pub took : Took ss before section
  pub new : fate_of (walk x before) section ≡ Ok (kind.Carousel answer.New)
  pub undone : Dropped (given (walk x before) section) k ⊎ EmptiedBy (walk x before) k section

-- unfinished: it is not announced, or a block is missing; and as the box tells it: the hand-out answers 20 or 13
abbrev pub Unfinished : (k : ℕ) → Held → Type 0
Unfinished k y = Dropped y k ⊎ (is_complete y k ≡ false)

abbrev pub AnswersUnfinished : (k : ℕ) → Held → Type 0
AnswersUnfinished k y = (handout_of y k ≡ 20) ⊎ (handout_of y k ≡ 13)

-- at some point of a run, after the sections so far
pub record AtSomePoint (P : Held → Type 0) (x : Held) (ss : List (List ℕ)) : Type 0 where
  pub sofar : List (List ℕ)
  pub rest : List (List ℕ)
  pub whole : ss ≡ sofar ++ rest
  pub there : P (walk x sofar)

-- NOT VACUOUS: every module of announcement a is announced, complete and handed out
pub record CompletesAll (a : Announced) (x : Held) : Type 0 where
  pub told : told x ≡ a
  pub complete : (i : ℕ) → i < length a.modules → is_complete x (module_at a i).number ≡ true
  pub handed : (i : ℕ) → i < length a.modules → handout_of x (module_at a i).number ≡ 0
