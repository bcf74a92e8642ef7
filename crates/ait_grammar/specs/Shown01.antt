-- What the calls by place show of a 0x01's values.
use Rattle.std.specs.Prelude.{ℕ, ◌+◌, ◌/◌, ◌%◌, length}
use Rattle.ait_descriptors.specs.declared.Item.{Item}
use Rattle.ait_descriptors.specs.declared.Item.TheVariants as item
use Rattle.ait_grammar.specs.Span.{span}
use Rattle.ait_grammar.specs.Tag01.{NameValue}

-- of a name that begins at byte a: "language 3 bytes", then the length
abbrev pub name_shown : NameValue → (a : ℕ) → Item
name_shown n a =
    item.Name (record { first = n.language / 65536; second = n.language / 256 % 256; third = n.language % 256; text = span (a + 4) (length n.text) })
