-- 0x02, the transport protocol descriptor, as values and their bytes. 01, "The application section"; 001, 5.3.6, tables 28 to 32.
use Rattle.std.specs.Prelude.{ℕ, ◌+◌, ◌<◌, ◌≡◌, List, ◌++◌, length}
use Rattle.wire.specs.Fields.{spelled}
use Rattle.ait_grammar.specs.Bytes.{Each, Bytes, Short, spell_all, sized8}

-- protocol 1 (table 31): "remote flag 1, reserved 7; if set, three 16-bit numbers; component tag; nothing more". The flag not set:
pub record LocalValue : Type 0 where
  pub reserved : ℕ
  pub component : ℕ

unfoldable pub spell_local : LocalValue → List ℕ
spell_local l = spelled 1 l.reserved ++ spelled 1 l.component

pub record FitsLocal (l : LocalValue) : Type 0 where
  pub reserved : l.reserved < 128
  pub component : l.component < 0x100

-- and set
pub record RemoteValue : Type 0 where
  pub reserved : ℕ
  pub network : ℕ
  pub stream : ℕ
  pub service : ℕ
  pub component : ℕ

unfoldable pub spell_remote : RemoteValue → List ℕ
spell_remote r = spelled 1 (128 + r.reserved) ++ (spelled 2 r.network ++ (spelled 2 r.stream ++ (spelled 2 r.service ++ spelled 1 r.component)))

pub record FitsRemote (r : RemoteValue) : Type 0 where
  pub reserved : r.reserved < 128
  pub network : r.network < 0x1_0000
  pub stream : r.stream < 0x1_0000
  pub service : r.service < 0x1_0000
  pub component : r.component < 0x100

-- protocol 3 (table 32): "repeated: base length, base, extension count, each extension with its length"
pub record BaseValue : Type 0 where
  pub text : List ℕ
  pub extensions : List (List ℕ)

unfoldable pub spell_base : BaseValue → List ℕ
spell_base b = sized8 b.text ++ (spelled 1 (length b.extensions) ++ spell_all sized8 b.extensions)

pub record FitsBase (b : BaseValue) : Type 0 where
  pub text : Short b.text
  pub count : length b.extensions < 0x100
  pub extensions : Each Short b.extensions

-- the selector: "Protocol 1: ..; Protocol 3: ..; Others raw."
pub data SelectorValue : Type 0 where
  here : LocalValue → SelectorValue
  remote : RemoteValue → SelectorValue
  bases : List BaseValue → SelectorValue
  unread : List ℕ → SelectorValue

unfoldable pub spell_selector : SelectorValue → List ℕ
spell_selector (here l) = spell_local l
spell_selector (remote r) = spell_remote r
spell_selector (bases bs) = spell_all spell_base bs
spell_selector (unread xs) = xs

abbrev pub FitsSelector : (protocol : ℕ) → SelectorValue → Type 0
FitsSelector p (here l) = (p ≡ 1) × FitsLocal l
FitsSelector p (remote r) = (p ≡ 1) × FitsRemote r
FitsSelector p (bases bs) = (p ≡ 3) × Each FitsBase bs
FitsSelector p (unread xs) = (p ≡ 1 → ⊥) × (p ≡ 3 → ⊥) × Bytes xs

-- "protocol 16, label 8, selector"
pub record Value02 : Type 0 where
  pub protocol : ℕ
  pub label : ℕ
  pub selector : SelectorValue

unfoldable pub spell02 : Value02 → List ℕ
spell02 v = (spelled 2 v.protocol ++ spelled 1 v.label) ++ spell_selector v.selector

pub record Fits02 (v : Value02) : Type 0 where
  pub protocol : v.protocol < 0x1_0000
  pub label : v.label < 0x100
  pub selector : FitsSelector v.protocol v.selector
