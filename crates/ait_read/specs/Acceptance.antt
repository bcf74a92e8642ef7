-- Acceptance of an application section: the common check, then the body. 01, "The application section" and the table of numbers.
use Rattle.std.specs.Prelude.{Ok, Err, ℕ, ◌≡◌, cond, true, List, ◌++◌, eqb}
use Rattle.section.specs.Header.{body_of}
use Rattle.wire.specs.Items.{items, every}
use Rattle.wire.specs.Tests.{Tests}
use Rattle.section.specs.declared.Rules.TheVariants.{Application}
use Rattle.section.specs.Refusals.{section_tests, GoodSection}
use Rattle.section.specs.Answer.{Checked, refused, checked_by, on_checked}
use Rattle.section.specs.Crc.{crc_of}
use Rattle.ait_descriptors.specs.Kinds.{application}
use Rattle.ait_body.specs.Body.{application_loop, own_loop, sole_loop, body_tests, body_refusal, WellFormed}

-- the refusals of an application section, in the table's order: 2 to 7, 18
abbrev pub application_tests : List ℕ → Tests
application_tests s = section_tests Application s ++ body_tests (body_of s)

-- The section check's refusal as it came; else the body's; else accepted with the header's fields: whatever register is handed in, and by the section's own.
unfoldable pub table_judged_by : (register : ℕ) → List ℕ → Checked
table_judged_by g s =
    on_checked (checked_by g Application s) (λ r. Err r) (λ h.
    cond (eqb (body_refusal (body_of s)) 0) (Ok h) (Err (refused (body_refusal (body_of s)))))

abbrev pub table_judged : List ℕ → Checked
table_judged s = table_judged_by (crc_of s) s

-- An accepted application section by the clauses of its tests, one by one. In plain facts, none of them a test, it is `GoodTable` of ait_grammar.
pub record FormedTable (s : List ℕ) : Type 0 where
  -- the section: header, length, CRC
  pub section : GoodSection Application s
  -- the body: both loops, each descriptor and its known contents
  pub body : WellFormed (body_of s)
  -- each application has exactly one 0x00 of its own
  pub sole : every (λ a. sole_loop (own_loop a)) (items application (application_loop (body_of s))) ≡ true
