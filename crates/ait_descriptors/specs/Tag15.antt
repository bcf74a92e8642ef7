-- 0x15, the simple application location descriptor. 01, "The application section"; 001, 5.3.7, table 33: "path, any bytes". Nothing in it can be malformed.
use Rattle.std.specs.Prelude.{ℕ, List}
use Rattle.ait_descriptors.specs.declared.Described.{Described}
use Rattle.ait_descriptors.specs.declared.Described.TheVariants as described
use Rattle.ait_descriptors.specs.Descriptor.{rest_of}

unfoldable pub described15 : List ℕ → ℕ → Described
described15 d a = described.Path (rest_of 2 d a)
