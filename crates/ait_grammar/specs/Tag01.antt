-- 0x01, the application name descriptor, as values and their bytes: a list of names. 01, "The application section"; 001, 5.3.5.6.1, table 24.
use Rattle.std.specs.Prelude.{ℕ, ◌<◌, List, ◌++◌}
use Rattle.wire.specs.Fields.{spelled}
use Rattle.ait_grammar.specs.Bytes.{Short, sized8}

-- "language 3 bytes, length, name"
pub record NameValue : Type 0 where
  pub language : ℕ
  pub text : List ℕ

unfoldable pub spell_name : NameValue → List ℕ
spell_name n = spelled 3 n.language ++ sized8 n.text

pub record FitsName (n : NameValue) : Type 0 where
  pub language : n.language < 0x100_0000
  pub text : Short n.text
