-- What the calls by place show of a 0x05's values.
use Rattle.ait_descriptors.specs.declared.Item.{Item}
use Rattle.ait_descriptors.specs.declared.Item.TheVariants as item
use Rattle.ait_grammar.specs.Tag05.{IdentifierValue}

abbrev pub identifier_shown : IdentifierValue → Item
identifier_shown i = item.Identifier (record { organisation = i.organisation; number = i.number; priority = i.priority })
