-- THE WORDS OF DEMAND 3 (00, 3), as 02 §5 reads it: "Demand 3 reads from the last announcement that emptied the module, and admits further new announcements that keep it, provided
-- both runs hold the same new ones, in the same order and at the same places among that module's sections; those that answer "same" are free as before."
-- One record and one image, carried from call to call: `Held`, `given` and `walk` (Run). A run is any list of sections: tables, refused ones, other modules', announcements.
-- A module is meant by its number k, for a new announcement that keeps it may move it; its place i is looked up at each call. Block numbers are b.
-- "For" and "matching" are the carousel's (carousel_step `Matching`), and so demand 2's; they are read at the call, by the record and image that it was lent.
use Rattle.std.specs.Prelude.{Ok, Err, ℕ, zero, suc, ◌≤◌, ◌<◌, ◌≡◌, Bool, true, false, cond, ◌&&◌, ◌||◌, List, [], ◌∷◌, ◌++◌, eqb, length, take}
use Rattle.section.specs.Whole.{whole_at}
use Rattle.carousel_messages.specs.Heard.{Announced, Arrived, arrived, heard_of}
use Rattle.carousel_record.specs.Record.{record_of, announced_by, module_at, place_of, bytes_of, block_count, block_length, module_part, missing_of, complete_of}
use Rattle.carousel_record.specs.Keeping.{same_module}
use Rattle.carousel_handout.specs.Calls.{handout_number, handed_out}
use Rattle.carousel_step.specs.Step.{stepped_of, image_of}
use Rattle.carousel_step.specs.Matching.{heard_for, heard_matches, heard_bytes}
use Rattle.receiver.specs.Run.{Held, given, given_of, walk, sections_of, ran_of, image_ran, took_of, image_took}
use Rattle.receiver.specs.Run.{Fate}
use Rattle.receiver.specs.declared.Kind.TheVariants as kind
use Rattle.carousel_step.specs.declared.Answer.TheVariants as answer

-- what became of a section; and of each section of a run, in order
abbrev pub fate_of : Held → List ℕ → Fate
fate_of x s = (given_of x.state s x.image).fate

unfoldable pub fates : Held → List (List ℕ) → List Fate
fates x [] = []
fates x (s ∷ ss) = fate_of x s ∷ fates (given x s) ss

abbrev pub is_new : Fate → Bool
is_new (Ok (kind.Carousel answer.New)) = true
is_new (Ok kind.Table) = false
is_new (Ok (kind.Carousel answer.Same)) = false
is_new (Ok (kind.Carousel answer.Stored)) = false
is_new (Ok (kind.Carousel answer.Repeated)) = false
is_new (Err r) = false

-- what was announced, and the number of its modules
abbrev pub told : Held → Announced
told x = announced_by x.state

abbrev pub modules : Held → ℕ
modules x = length (told x).modules

-- OF THE MODULE AT PLACE i: its blocks
abbrev pub blocks_at : Held → (i : ℕ) → ℕ
blocks_at x i = block_count (told x) i

-- "A data section is for a module when none of refusals 2 to 12 meets it and it bears that module's number."
abbrev pub is_for_at : Held → (i : ℕ) → List ℕ → Bool
is_for_at x i s = heard_for (told x) i (heard_of s)

-- "It is matching when 13 to 16 don't meet it either": for block b
abbrev pub matches_at : Held → (i b : ℕ) → List ℕ → Bool
matches_at x i b s = heard_matches (told x) (length x.image) i b (heard_of s)

-- "its stored bytes and its missing blocks": its part of the image, and the list of its blocks that have no mark; it is complete where there is none
abbrev pub bytes_at : Held → (i : ℕ) → List ℕ
bytes_at x i = module_part (record_of x.state) x.image i

abbrev pub missing_at : Held → (i : ℕ) → List ℕ
missing_at x i = missing_of (record_of x.state) i

abbrev pub is_complete_at : Held → (i : ℕ) → Bool
is_complete_at x i = complete_of (record_of x.state) i

-- OF THE MODULE WITH NUMBER k, wherever it is: its place, and that there is one; and the same words
abbrev pub place_now : Held → (k : ℕ) → ℕ
place_now x k = place_of (told x) k

abbrev pub Announces : Held → (k : ℕ) → Type 0
Announces x k = place_now x k < modules x

abbrev pub blocks : Held → (k : ℕ) → ℕ
blocks x k = blocks_at x (place_now x k)

abbrev pub is_for : Held → (k : ℕ) → List ℕ → Bool
is_for x k s = is_for_at x (place_now x k) s

abbrev pub matches : Held → (k b : ℕ) → List ℕ → Bool
matches x k b s = matches_at x (place_now x k) b s

abbrev pub bytes_in : Held → (k : ℕ) → List ℕ
bytes_in x k = bytes_at x (place_now x k)

abbrev pub missing_in : Held → (k : ℕ) → List ℕ
missing_in x k = missing_at x (place_now x k)

abbrev pub is_complete : Held → (k : ℕ) → Bool
is_complete x k = is_complete_at x (place_now x k)

-- a section's data
abbrev pub section_data : List ℕ → List ℕ
section_data s = heard_bytes (heard_of s)

-- the image holds the sizes together that are now announced
abbrev pub HasRoom : Held → Type 0
HasRoom x = bytes_of (told x) ≤ length x.image

-- the hand-out of module k: its number, and the bytes
abbrev pub handout_of : Held → (k : ℕ) → ℕ
handout_of x k = handout_number x.state x.image k

abbrev pub handed_of : Held → (k : ℕ) → List ℕ
handed_of x k = handed_out x.state x.image k

-- "a module with the same downloadId, blockSize, number, version, size and start as before": the six, of what two records say
abbrev pub same_in : (x y : Held) (k : ℕ) → Bool
same_in x y k = same_module (record_of x.state) (record_of y.state) k

-- "from the last announcement that emptied the module": some call answered "new" and left this record and this image; module k is announced, and is not the same as before
pub record Emptied (x : Held) (k : ℕ) : Type 0 where
  pub before : Held
  pub section : List ℕ
  pub new : fate_of before section ≡ Ok (kind.Carousel answer.New)
  pub left : given before section ≡ x
  pub announces : Announces x k
  pub other : same_in before x k ≡ false

-- "and admits further new announcements that keep it": each call of the run that answered "new" left the same module k as it found
abbrev pub keeps_one : Held → (k : ℕ) → List ℕ → Bool
keeps_one x k s = cond (is_new (fate_of x s)) (same_in x (given x s) k) true

unfoldable pub keeps_all : Held → (k : ℕ) → List (List ℕ) → Bool
keeps_all x k [] = true
keeps_all x k (s ∷ ss) = keeps_one x k s && keeps_all (given x s) k ss

abbrev pub Keeps : Held → (k : ℕ) → List (List ℕ) → Type 0
Keeps x k ss = keeps_all x k ss ≡ true

-- "the same data sections for one announced module, in the same order", and "the same new ones, in the same order and at the same places among that module's sections": one list of
-- both, as they came. What answered "same" is not in it.
unfoldable pub trace : Held → (k : ℕ) → List (List ℕ) → List (List ℕ)
trace x k [] = []
trace x k (s ∷ ss) = cond (is_new (fate_of x s) || is_for x k s) (s ∷ trace (given x s) k ss) (trace (given x s) k ss)

-- "that module's answers": what became of the sections that are for it
unfoldable pub answers_for : Held → (k : ℕ) → List (List ℕ) → List Fate
answers_for x k [] = []
answers_for x k (s ∷ ss) = cond (is_for x k s) (fate_of x s ∷ answers_for (given x s) k ss) (answers_for (given x s) k ss)

-- a run takes section s after the sections `before`; s was then matching, for block b of module k; and block b "came in a matching section"
pub record Took (ss before : List (List ℕ)) (s : List ℕ) : Type 0 where
  pub rest : List (List ℕ)
  pub whole : ss ≡ before ++ (s ∷ rest)

pub record Matched (x : Held) (k b : ℕ) (ss : List (List ℕ)) (s : List ℕ) : Type 0 where
  pub before : List (List ℕ)
  pub took : Took ss before s
  pub matching : matches (walk x before) k b s ≡ true

abbrev pub Came : Held → (k b : ℕ) → List (List ℕ) → Type 0
Came x k b ss = (s : List ℕ) × Matched x k b ss s

-- "every block of its announced version": what such a section is, by the announcement of the start. (A theorem says that it is.)
pub record OfModule (x : Held) (k b : ℕ) (s : List ℕ) : Type 0 where
  pub block : Arrived
  pub heard : heard_of s ≡ arrived block
  pub same_download : block.download ≡ (told x).download
  pub its_number : block.number ≡ k
  pub announced_version : block.version ≡ (module_at (told x) (place_now x k)).version
  pub this_block : block.block ≡ b
  pub one_of_its : b < blocks x k
  pub its_length : length block.bytes ≡ block_length (told x) (place_now x k) b

-- a block's data "as it first matched": those of the first section of the run that was matching when it came
unfoldable pub first_data : Held → (k : ℕ) → List (List ℕ) → (b : ℕ) → List ℕ
first_data x k [] b = []
first_data x k (s ∷ ss) b = cond (matches x k b s) (section_data s) (first_data (given x s) k ss b)

-- "those blocks' data in block order": f 0, f 1, .. , f (n - 1), one after another
unfoldable pub joined_blocks : (n : ℕ) → (ℕ → List ℕ) → List ℕ
joined_blocks zero f = []
joined_blocks (suc n) f = joined_blocks n f ++ f n

-- what was heard of a module in a run: its blocks' data in block order, each as it first matched
abbrev pub heard_module : Held → (k : ℕ) → List (List ℕ) → List ℕ
heard_module x k ss = joined_blocks (blocks x k) (λ b. first_data x k ss b)

-- "if matching repeats agree": any two sections of the run that were matching for one block of the module have the same data
abbrev pub RepeatsAgree : Held → (k : ℕ) → List (List ℕ) → Type 0
RepeatsAgree x k ss = (b : ℕ) (s t : List ℕ) → Matched x k b ss s → Matched x k b ss t → section_data s ≡ section_data t

-- "order and repeats" aside: each section of ss that was matching for the module has in us one that was matching for the same block, with the same data
abbrev pub FoundIn : Held → (k : ℕ) → List (List ℕ) → List (List ℕ) → Type 0
FoundIn x k ss us = (b : ℕ) (s : List ℕ) → Matched x k b ss s → (t : List ℕ) × Matched x k b us t × (section_data t ≡ section_data s)

-- "each being the sections its calls took". A call of any kind: of `step` or `step_in` on one section; of `take` on a stretch; of `run` or `run_in`
pub data Call : Type 0 where
  stepping : (section : List ℕ) → Call
  taking running : (stretch : List ℕ) → (budget : ℕ) → Call

-- what it leaves of the record and the image that it was lent, by its contract; and what calls leave, each on what the last one left
abbrev pub left_after : Held → Call → Held
left_after x (stepping s) = record { state = (stepped_of x.state s x.image).state; image = image_of x.state s x.image }
left_after x (taking s n) = record { state = (took_of x.state s x.image n).state; image = image_took x.state s x.image n }
left_after x (running s n) = record { state = (ran_of x.state s x.image n).state; image = image_ran x.state s x.image n }

unfoldable pub called : Held → List Call → Held
called x [] = x
called x (c ∷ cs) = called (left_after x c) cs

-- the sections that it took
abbrev pub took_one : Call → List (List ℕ)
took_one (stepping s) = s ∷ []
took_one (taking s n) = cond (eqb (whole_at s) 0 || eqb n 0) [] (take (whole_at s) s ∷ [])
took_one (running s n) = sections_of n s

unfoldable pub took_by : List Call → List (List ℕ)
took_by [] = []
took_by (c ∷ cs) = took_one c ++ took_by cs
