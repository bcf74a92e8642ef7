-- One section, whichever rules it goes by: the record and image that it leaves are those of the carousel's step, and by the paper's record; its fate; what "new" leaves.
use Prim.Native.Nat.{ℕ}
use mathlib.Core.Path.{◌≡◌, refl, sym, ap, ◌∙◌}
use mathlib.Core.Bool.{Bool, true, false, cond}
use mathlib.Core.List.{List}
use lib.Dec.{eqb}
use borrow.Author.Tests.{eqb-true}
use Rattle.wire.specs.Fields.{byte_at}
use Rattle.wire.proofs.Laws.Tests.{clash}
use Rattle.section.specs.declared.Refusal.{Refusal}
use Rattle.section.specs.Header.{application_table}
use Rattle.section.specs.Answer.{refused}
use Rattle.carousel_messages.specs.Judged.{judged_of, number_of_judged}
use Rattle.carousel_messages.specs.Heard.{Announced, Heard, refusal, announced, arrived, heard_in, heard_of}
use Rattle.carousel_messages.proofs.Exact.{good-exactly}
use Rattle.ait_read.specs.declared.Table.{Table}
use Rattle.ait_read.specs.Answers.{read_answer}
use Rattle.carousel_record.specs.declared.Carousel.{Carousel}
use Rattle.carousel_record.specs.Record.{Record, announced_by, record_of, ruled_of}
use Rattle.carousel_step.specs.Step.{StepOutcome, refusing, new, same, repeated, stored, same_announced, on_announced, on_heard, outcome_of, answer_of, carousel_after, image_after, stepped_of}
use Rattle.carousel_step.specs.Step.{image_of}
use Rattle.carousel_step.specs.Matching.{heard_for}
use Rattle.carousel_step.proofs.Views.{Held as Said, after, is_new as madeNew}
use Rattle.carousel_step.proofs.View.{arrived_old}
use Rattle.carousel_step.proofs.Simulation.{says-after, outcome-ruled}
use Rattle.carousel_step.proofs.Steps.{new_changes}
use Rattle.receiver.specs.declared.Given.{Given}
use Rattle.receiver.specs.Run.{read_fate, table_fate, carousel_fate, given_of, image_given, Held, given}
use Rattle.demands.specs.Demand.{fate_of, is_new}
use Rattle.receiver.proofs.Laws.Fates.{fate-table, fate-other}
use Rattle.std.proofs.Common.{Result, Ok, Err}
use Rattle.carousel_messages.specs.Judged.{Judged}
use Rattle.carousel_step.specs.Step.{Answered as Answer}
use Rattle.carousel_messages.specs.declared.Message.TheVariants as judged
use Rattle.carousel_step.specs.declared.Answer.TheVariants as answer

-- what the record says, and the image
abbrev pub saying : Held → Said
saying x = record { says = record_of x.state; image = x.image }

-- an application table is no carousel section: 2 or 3 meets it
table-refused : (s : List ℕ) → byte_at s 0 ≡ application_table → (r : Refusal) × (heard_of s ≡ refusal r)
unfolding heard_of heard_in
table-refused s e = go (judged_of s) refl
  where
    never : number_of_judged (judged_of s) ≡ 0 → ⊥
    never z = clash _ ((good-exactly s).0 z).0.table (rw e)

    go : (j : Judged) → judged_of s ≡ j → (r : Refusal) × (heard_in s j ≡ refusal r)
    go (Err r) f = (r, refl)
    go (Ok (judged.Announced a)) f = absurd (never (ap number_of_judged f))
    go (Ok (judged.Carried b)) f = absurd (never (ap number_of_judged f))

table_outcome : (c : Carousel) (s image : List ℕ) → byte_at s 0 ≡ application_table → (r : Refusal) × (outcome_of c s image ≡ refusing r)
unfolding outcome_of on_heard
table_outcome c s image e = go (ruled_of c)
  where
    go : (t : Bool) → (r : Refusal) × (cond t (on_heard (record_of c) image (heard_of s)) (refusing (refused 1)) ≡ refusing r)
    go true = let h = table-refused s e in (h.0, ap (λ (x : Heard). on_heard (record_of c) image x) h.1)
    go false = (refused 1, refl)

-- ONE SECTION IS ONE STEP, of the record and the image: a table, which the receiver keeps from the carousel, the carousel would refuse
pub given-steps : (x : Held) (s : List ℕ) → given x s ≡ record { state = (stepped_of x.state s x.image).state; image = image_of x.state s x.image }
unfolding given_of image_given stepped_of image_of
given-steps x s = go (eqb (byte_at s 0) application_table) refl
  where
    left : StepOutcome → Held
    left o = record { state = carousel_after x.state o; image = image_after x.image o }

    go : (t : Bool) → eqb (byte_at s 0) application_table ≡ t
        → ◌≡◌ {A = Held} (record {
          state = (cond {A = Given} t (record { fate = table_fate s; state = x.state })
              (record { fate = carousel_fate (stepped_of x.state s x.image).answer; state = (stepped_of x.state s x.image).state })).state;
          image = cond t x.image (image_of x.state s x.image);
        })
        (left (outcome_of x.state s x.image))
    go true e = sym (ap (λ (o : StepOutcome). left o) (table_outcome x.state s x.image (eqb-true _ _ e)).1)
    go false e = refl

-- what a section comes to, of a record that keeps its rule
abbrev pub came : Held → List ℕ → StepOutcome
came x s = on_heard (record_of x.state) x.image (heard_of s)

pub given-says : (x : Held) (s : List ℕ) → ruled_of x.state ≡ true → saying (given x s) ≡ after (saying x) (came x s)
unfolding stepped_of image_of
given-says x s r =
    ap saying (given-steps x s)
    ∙ ap (λ (u : Record). record { says = u; image = image_after x.image (outcome_of x.state s x.image) }) (says-after x.state (outcome_of x.state s x.image))
    ∙ ap (λ (o : StepOutcome). after (saying x) o) (outcome-ruled x.state s x.image r)

-- THE FATE of a section for a module is the step's answer, as no table is for one
for-other : (a : Announced) (i : ℕ) (s : List ℕ) → heard_for a i (heard_of s) ≡ true → eqb (byte_at s 0) application_table ≡ false
unfolding heard_for
for-other a i s e = go (eqb (byte_at s 0) application_table) refl
  where
    go : (t : Bool) → eqb (byte_at s 0) application_table ≡ t → eqb (byte_at s 0) application_table ≡ false
    go true f = absurd (clash _ e (ap (λ (h : Heard). heard_for a i h) (table-refused s (eqb-true _ _ f)).1))
    go false f = f

pub for_fate : (c : Carousel) (s image : List ℕ) (a : Announced) (i : ℕ) → heard_for a i (heard_of s) ≡ true → (given_of c s image).fate ≡ carousel_fate (stepped_of c s image).answer
for_fate c s image a i e = fate-other c s image (for-other a i s e)

pub for-came : (x : Held) (s : List ℕ) → ruled_of x.state ≡ true → (a : Announced) (i : ℕ) → heard_for a i (heard_of s) ≡ true
    → (given_of x.state s x.image).fate ≡ carousel_fate (answer_of (came x s))
unfolding stepped_of
for-came x s r a i e = for_fate x.state s x.image a i e ∙ ap (λ (o : StepOutcome). carousel_fate (answer_of o)) (outcome-ruled x.state s x.image r)

-- WHO ANSWERS "NEW": no table, and of the carousel's outcomes the new announcement
read_old : (a : Result Table Refusal) → is_new (read_fate a) ≡ false
unfolding read_fate
read_old (Err r) = refl
read_old (Ok t) = refl

new_outcome : (o : StepOutcome) → is_new (carousel_fate (answer_of o)) ≡ madeNew o
unfolding carousel_fate madeNew
new_outcome (refusing n) = refl
new_outcome (new a) = refl
new_outcome same = refl
new_outcome repeated = refl
new_outcome (stored k at bytes) = refl

pub new-says : (x : Held) (s : List ℕ) → ruled_of x.state ≡ true → is_new (fate_of x s) ≡ madeNew (came x s)
unfolding stepped_of on_heard madeNew
new-says x s r = go (eqb (byte_at s 0) application_table) refl
  where
    go : (t : Bool) → eqb (byte_at s 0) application_table ≡ t → is_new (fate_of x s) ≡ madeNew (came x s)
    go true e =
        ap is_new (fate-table x.state s x.image e)
        ∙ read_old (read_answer s)
        ∙ sym (ap (λ (h : Heard). madeNew (on_heard (record_of x.state) x.image h)) (table-refused s (eqb-true _ _ e)).1)
    go false e =
        ap is_new (fate-other x.state s x.image e)
        ∙ ap (λ (o : StepOutcome). is_new (carousel_fate (answer_of o))) (outcome-ruled x.state s x.image r)
        ∙ new_outcome (came x s)

-- only a record that keeps its rule is answered "new"
fate-new : (c : Carousel) (s image : List ℕ) → is_new (given_of c s image).fate ≡ true → (stepped_of c s image).answer ≡ Ok answer.New
unfolding carousel_fate
fate-new c s image e = go (eqb (byte_at s 0) application_table) refl
  where
    is-new : (a : Answer) → is_new (carousel_fate a) ≡ true → a ≡ Ok answer.New
    is-new (Ok answer.New) h = refl
    is-new (Ok answer.Same) h = absurd (clash _ h refl)
    is-new (Ok answer.Stored) h = absurd (clash _ h refl)
    is-new (Ok answer.Repeated) h = absurd (clash _ h refl)
    is-new (Err n) h = absurd (clash _ h refl)

    go : (t : Bool) → eqb (byte_at s 0) application_table ≡ t → (stepped_of c s image).answer ≡ Ok answer.New
    go true f = absurd (clash _ e (ap is_new (fate-table c s image f) ∙ read_old (read_answer s)))
    go false f = is-new (stepped_of c s image).answer (sym (ap is_new (fate-other c s image f)) ∙ e)

pub new-ruled : (x : Held) (s : List ℕ) → is_new (fate_of x s) ≡ true → ruled_of x.state ≡ true
new-ruled x s e = (new_changes x.state s x.image (fate-new x.state s x.image e)).ruled

-- WHAT A CALL THAT ANSWERED "NEW" HEARD AND LEFT
pub record Renewal (x : Held) (s : List ℕ) : Type 0 where
  pub told : Announced
  pub heard : heard_of s ≡ announced told
  pub other : same_announced (announced_by x.state) told ≡ false
  pub left : saying (given x s) ≡ after (saying x) (new told)

renews : (x : Held) (s : List ℕ) (h : Heard) → heard_of s ≡ h → saying (given x s) ≡ after (saying x) (on_heard (record_of x.state) x.image h)
    → madeNew (on_heard (record_of x.state) x.image h) ≡ true → Renewal x s
unfolding on_heard on_announced madeNew
renews x s (refusal n) f g e = absurd (clash _ e refl)
renews x s (announced a) f g e = go (same_announced (announced_by x.state) a) refl g e
  where
    go : (t : Bool) → same_announced (announced_by x.state) a ≡ t → saying (given x s) ≡ after (saying x) (cond t same (new a)) → madeNew (cond t same (new a)) ≡ true → Renewal x s
    go true o g e = absurd (clash _ e refl)
    go false o g e = record { told = a; heard = f; other = o; left = g }
renews x s (arrived d) f g e = absurd (clash _ e (arrived_old (record_of x.state) x.image d))

pub renewal : (x : Held) (s : List ℕ) → is_new (fate_of x s) ≡ true → Renewal x s
renewal x s n = let r = new-ruled x s n in renews x s (heard_of s) refl (given-says x s r) (sym (new-says x s r) ∙ n)
