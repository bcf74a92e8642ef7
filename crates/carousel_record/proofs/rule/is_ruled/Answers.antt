-- `carousel_record::rule::is_ruled` meets its contract.
use borrow.Author.Tests.{eq-eqb, le-leb, lt-leb}
use mathlib.Core.Path.{◌≡◌, sym, ◌∙◌}
use mathlib.Core.Bool.{Bool, true, ◌&&◌}
use mathlib.Core.List.{map}
use native.Mathlib.Omega.{arith}
use lib.ListN.{length, take}
use Rattle.wire.specs.Copies.{same_numbers}
use Rattle.carousel_messages.specs.Limits.{most_modules}
use Rattle.carousel_record.specs.declared.Carousel.{Carousel}
use Rattle.carousel_record.specs.Blocks.{blocks_of}
use Rattle.carousel_record.specs.Marks.{module_words, mark_words, marks_within}
use Rattle.carousel_messages.specs.Heard.{sizes_of}
use Rattle.carousel_record.specs.Record.{announced_by, starts_by, listed_in, start_in, sums, within_limits, ruled, ruled_of}
use Rattle.carousel_record.proofs.rule.is_ruled.Goals as goal
use Rattle.carousel_record.proofs.rule.is_ruled.Goals.{Else-not-all_unused, Else-not-is_within_limits, Start}

-- what is left of the rule after its first tests
abbrev running : Carousel → Bool
running c = same_numbers (map start_in (take c.count c.modules)) (sums 0 (sizes_of (map listed_in (take c.count c.modules))))

abbrev placed : Carousel → Bool
placed c = marks_within module_words (map (λ z. blocks_of c.block_size z) (sizes_of (announced_by c).modules)) c.marks

all_words : (c : Start) → length c.args.c.marks ≡ mark_words
all_words c = c.well_formed.0.1.1.1.1.1.1.0.1.0.1

rest-is : (c : Else-not-all_unused) → let r = c.args.c in ruled_of r ≡ (within_limits (announced_by r) && running r && placed r)
unfolding ruled_of ruled announced_by starts_by
rest-is c =
    rw (
      le-leb c.args.c.count most_modules (omega (arith, c.if-n-gt-MOST_MODULES.false)),
      sym c.all_unused.ensures ∙ c.if-not-all_unused.false,
      eq-eqb (length c.args.c.marks) mark_words (all_words (goal.at.Else-not-all_unused c).Start),
    )

within : (c : Else-not-is_within_limits) → within_limits (announced_by c.args.c) ≡ true
within c = sym c.is_within_limits.ensures ∙ c.if-not-is_within_limits.false

pub returns-then-n-gt-MOST_MODULES : goal.returns-then-n-gt-MOST_MODULES
unfolding ruled_of
returns-then-n-gt-MOST_MODULES c = rw (lt-leb c.args.c.count most_modules (omega (arith, c.if-n-gt-MOST_MODULES.true)))

pub returns-then-not-all_unused : goal.returns-then-not-all_unused
unfolding ruled_of
returns-then-not-all_unused c =
    rw (le-leb c.args.c.count most_modules (omega (arith, c.if-n-gt-MOST_MODULES.false)), sym c.all_unused.ensures ∙ c.if-not-all_unused.true)

pub returns-then-not-is_within_limits : goal.returns-then-not-is_within_limits
returns-then-not-is_within_limits c = rw (rest-is (goal.at.returns-then-not-is_within_limits c).Else-not-all_unused, sym c.is_within_limits.ensures ∙ c.if-not-is_within_limits.true)

pub returns-then-not-is_running : goal.returns-then-not-is_running
returns-then-not-is_running c =
    rw (
      rest-is (goal.at.returns-then-not-is_running c).Else-not-all_unused,
      within (goal.at.returns-then-not-is_running c).Else-not-is_within_limits,
      sym c.is_running.ensures
          ∙ c.if-not-is_running.true,
    )

pub returns : goal.returns
returns c =
    rw (rest-is (goal.at.returns c).Else-not-all_unused, within (goal.at.returns c).Else-not-is_within_limits, sym c.is_running.ensures ∙ c.if-not-is_running.false, c.is_in_place.ensures)
