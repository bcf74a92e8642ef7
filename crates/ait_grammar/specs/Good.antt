-- A WELL-FORMED APPLICATION SECTION, in plain facts: a good section, whose body spells a table. None of the tests of refusals 7 and 18, and none of
-- their definitions, is used here or in what this file rests on.
use Rattle.std.specs.Prelude.{ℕ, List}
use Rattle.section.specs.declared.Rules.TheVariants.{Application}
use Rattle.section.specs.Header.{body_of}
use Rattle.section.specs.Refusals.{GoodSection}
use Rattle.ait_grammar.specs.Table.{TableValue, Spells}

pub record GoodTable (s : List ℕ) : Type 0 where
  -- header, length, CRC
  pub section : GoodSection Application s
  -- there are values that its body says
  pub table : TableValue
  pub body : Spells (body_of s) table
