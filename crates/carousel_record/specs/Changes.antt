-- The two ways in which a record changes. 01, "The carousel record".
use Rattle.std.specs.Prelude.{ℕ, ◌+◌, ◌-◌, List, [], ◌∷◌, ◌++◌, length, replicate}
use Rattle.carousel_messages.specs.declared.Listed.{Listed}
use Rattle.carousel_messages.specs.Limits.{most_modules}
use Rattle.carousel_messages.specs.Heard.{Announced, sizes_of}
use Rattle.carousel_record.specs.declared.Module.{Module}
use Rattle.carousel_record.specs.declared.Carousel.{Carousel}
use Rattle.carousel_record.specs.Marks.{mark_words, marks_with}
use Rattle.carousel_record.specs.Record.{Record, record_of, sums, unused}
use Rattle.carousel_record.specs.Keeping.{marks_kept}

-- "Starting gives the empty record."
unfoldable pub empty_record : Carousel
empty_record = record { download = 0; block_size = 0; count = 0; modules = replicate most_modules unused; marks = replicate mark_words 0 }

-- modules with their running sums, from s on
unfoldable pub entries : ℕ → List Listed → List Module
entries s [] = []
entries s (m ∷ ms) = record { number = m.number; size = m.size; version = m.version; start = s } ∷ entries (s + m.size) ms

-- the record of an announcement of which no block has come
unfoldable pub bare_record : Announced → Carousel
bare_record a =
    record {
      download = a.download;
      block_size = a.block_size;
      count = length a.modules;
      modules = entries 0 a.modules ++ replicate (most_modules - length a.modules) unused;
      marks = replicate mark_words 0;
    }

-- "the record is made afresh", marks "all clear on a new announcement", but for those that a module keeps (02 §5). One function of the old record and the announcement.
unfoldable pub made_afresh : Carousel → Announced → Carousel
made_afresh c a =
    let b = bare_record a in
    record { download = b.download; block_size = b.block_size; count = b.count; modules = b.modules; marks = marks_kept (record_of c) (record_of b) }

-- "its mark is set, nothing else changes"
unfoldable pub with_mark : Carousel → ℕ → Carousel
with_mark c k = record { download = c.download; block_size = c.block_size; count = c.count; modules = c.modules; marks = marks_with c.marks k }

-- the same of what a record says
abbrev pub unmarked : Announced → Record
unmarked a = record { announced = a; starts = sums 0 (sizes_of a.modules); marks = replicate mark_words 0 }

unfoldable pub afresh : Record → Announced → Record
afresh r a = record { announced = a; starts = sums 0 (sizes_of a.modules); marks = marks_kept r (unmarked a) }

unfoldable pub marking : Record → ℕ → Record
marking r k = record { announced = r.announced; starts = r.starts; marks = marks_with r.marks k }
