-- Where the bytes of a value lie.
use Rattle.std.specs.Prelude.{ℕ}
use Rattle.wire.specs.declared.Span.{Span}

abbrev pub span : (start size : ℕ) → Span
span a n = record { start = a; size = n }
