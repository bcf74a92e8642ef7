-- 0x15 as numbers: kind 8.
use Rattle.wire.specs.declared.Span.{Span}
use Rattle.ait_numbers.specs.declared.DescriptorOut.{DescriptorOut}
use Rattle.ait_numbers.specs.Shapes.{placed_by}

abbrev pub path_out : Span → DescriptorOut
path_out path = placed_by 8 0x15 0 0 path
