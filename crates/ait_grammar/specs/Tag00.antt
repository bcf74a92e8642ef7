-- 0x00, the application descriptor: what it says, as values, and the bytes of that. 01, "The application section"; 001, 5.3.5.3, table 20.
-- Reserved bits are values too, so that spelling is a function.
use Rattle.std.specs.Prelude.{ℕ, ◌+◌, ◌*◌, ◌<◌, List, ◌++◌, length}
use Rattle.wire.specs.Fields.{spelled}
use Rattle.ait_grammar.specs.Bytes.{Each, Bytes, spell_all, sized8}

-- "profiles (16, 8, 8, 8 bits)"
pub record ProfileValue : Type 0 where
  pub profile : ℕ
  pub major : ℕ
  pub minor : ℕ
  pub micro : ℕ

unfoldable pub spell_profile : ProfileValue → List ℕ
spell_profile p = spelled 2 p.profile ++ (spelled 1 p.major ++ (spelled 1 p.minor ++ spelled 1 p.micro))

pub record FitsProfile (p : ProfileValue) : Type 0 where
  pub profile : p.profile < 0x1_0000
  pub major : p.major < 0x100
  pub minor : p.minor < 0x100
  pub micro : p.micro < 0x100

-- "profile length P ..; profiles ..; bound flag 1, visibility 2, reserved 5; priority 8; the rest are transport labels"
pub record Value00 : Type 0 where
  pub profiles : List ProfileValue
  pub bound : ℕ
  pub visibility : ℕ
  pub reserved : ℕ
  pub priority : ℕ
  pub labels : List ℕ

unfoldable pub spell00 : Value00 → List ℕ
spell00 v =
    sized8 (spell_all spell_profile v.profiles)
    ++ (spelled 1 (v.bound * 128 + v.visibility * 32 + v.reserved)
    ++ (spelled 1 v.priority
    ++ v.labels))

pub record Fits00 (v : Value00) : Type 0 where
  pub profiles : Each FitsProfile v.profiles
  pub profiles_length : length (spell_all spell_profile v.profiles) < 0x100
  pub bound : v.bound < 2
  pub visibility : v.visibility < 4
  pub reserved : v.reserved < 32
  pub priority : v.priority < 0x100
  pub labels : Bytes v.labels
