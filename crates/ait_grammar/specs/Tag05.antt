-- 0x05, the external application authorisation descriptor, as values and their bytes: a list of identifiers. 01, "The application section"; 001, 5.3.5.7,
-- table 26.
use Rattle.std.specs.Prelude.{ℕ, ◌<◌, List, ◌++◌}
use Rattle.wire.specs.Fields.{spelled}

-- "identifier 6, priority 1"; an identifier is organisation 32, application 16
pub record IdentifierValue : Type 0 where
  pub organisation : ℕ
  pub number : ℕ
  pub priority : ℕ

unfoldable pub spell_identifier : IdentifierValue → List ℕ
spell_identifier i = spelled 4 i.organisation ++ (spelled 2 i.number ++ spelled 1 i.priority)

pub record FitsIdentifier (i : IdentifierValue) : Type 0 where
  pub organisation : i.organisation < 0x1_0000_0000
  pub number : i.number < 0x1_0000
  pub priority : i.priority < 0x100
