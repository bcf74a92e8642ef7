-- What the calls by place show of a 0x02's values.
use Rattle.std.specs.Prelude.{ℕ, ◌+◌, length}
use Rattle.ait_descriptors.specs.declared.Described.{Described}
use Rattle.ait_descriptors.specs.declared.Described.TheVariants as described
use Rattle.ait_descriptors.specs.declared.Item.{Item}
use Rattle.ait_descriptors.specs.declared.Item.TheVariants as item
use Rattle.ait_grammar.specs.Span.{span}
use Rattle.ait_grammar.specs.Tag02.{SelectorValue, here, remote, bases, unread, BaseValue, Value02}

-- of a descriptor that begins at byte a: by its selector, which stands after tag, length, protocol and label
abbrev pub selector_shown : (protocol label : ℕ) → SelectorValue → (a : ℕ) → Described
selector_shown p l (here v) a = described.Local (record { label = l; component = v.component })
selector_shown p l (remote v) a =
    described.Remote
    (record {
      label = l;
      network = v.network;
      transport = v.stream;
      service = v.service;
      component = v.component;
    })
selector_shown p l (bases bs) a = described.Bases (record { label = l; bases = length bs })
selector_shown p l (unread xs) a = described.Selector (record { protocol = p; label = l; selector = span (a + 5) (length xs) })

abbrev pub shown02 : Value02 → (a : ℕ) → Described
shown02 v a = selector_shown v.protocol v.label v.selector a

-- of a base that begins at byte a: after its length
abbrev pub base_shown : BaseValue → (a : ℕ) → Item
base_shown b a = item.Base (record { text = span (a + 1) (length b.text); extensions = length b.extensions })
