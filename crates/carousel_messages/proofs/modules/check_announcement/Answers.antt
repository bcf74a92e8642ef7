-- `carousel_messages::modules::check_announcement` meets its contract: 7, 10, 11.
use mathlib.Core.Path.{◌≡◌, sym, ap, ◌∙◌}
use mathlib.Core.Bool.{true}
use mathlib.Core.List.{List, map}
use Prim.Native.Nat.{ℕ, ◌≤◌}
use native.Mathlib.Omega.{arith}
use lib.ListN.{length, take}
use Rattle.wire.specs.Outcomes.{passed}
use Rattle.wire.proofs.Laws.Loops.{tail}
use Rattle.carousel_messages.specs.Contents.{announcement_framed, modules_of}
use Rattle.carousel_messages.specs.Refusals.{meets10, meets11}
use Rattle.carousel_messages.specs.Heard.{listed_of, list_of}
use Rattle.carousel_messages.proofs.Laws.Listed.{list-long, list_read}
use Rattle.carousel_messages.proofs.Laws.Refusals.{framed-starts, beyond-many, read-10, read-11, announcement_open, announcement-beyond, announcement-twice, announcement-good}
use Rattle.carousel_messages.proofs.modules.check_announcement.Goals as goal
use Rattle.carousel_messages.proofs.modules.check_announcement.Goals.{After-has_twice, After-is_beyond, After-modules_start-start, After-read_modules-ms, Else-not-is_announcement}

abbrev payload : Else-not-is_announcement → List ℕ
payload c = c.args.p.now

framed : (c : Else-not-is_announcement) → announcement_framed (payload c) ≡ true
framed c = sym c.is_announcement.ensures ∙ c.if-not-is_announcement.false

starts : (c : After-modules_start-start) → c.modules_start-start.result ≤ length (payload (goal.at.After-modules_start-start c).Else-not-is_announcement)
starts c = let l = framed-starts (payload (goal.at.After-modules_start-start c).Else-not-is_announcement) (framed (goal.at.After-modules_start-start c).Else-not-is_announcement) in omega (
  arith,
  l,
  c.modules_start-start.ensures.0,
)

-- what is read are the announced modules
are : (c : After-read_modules-ms) → take c.module_count-count.result c.read_modules-ms.result ≡ map listed_of (modules_of (payload (goal.at.After-read_modules-ms c).Else-not-is_announcement))
are c =
    let n = c.module_count-count in
    c.read_modules-ms.ensures
    ∙ ap (λ (l : List ℕ). take n.result (list_of l)) (tail (payload (goal.at.After-read_modules-ms c).Else-not-is_announcement) c.modules_start-start.result)
    ∙ list_read (payload (goal.at.After-read_modules-ms c).Else-not-is_announcement) (framed (goal.at.After-read_modules-ms c).Else-not-is_announcement) _ _ c.modules_start-start.ensures.0 n.ensures.0

beyond : (c : After-is_beyond) → c.is_beyond.result ≡ meets10 (payload (goal.at.After-is_beyond c).Else-not-is_announcement)
beyond c = c.is_beyond.ensures ∙ read-10 (payload (goal.at.After-is_beyond c).Else-not-is_announcement) _ (are (goal.at.After-is_beyond c).After-read_modules-ms) _ c.sixteen_at.ensures.0

twice : (c : After-has_twice) → c.has_twice.result ≡ meets11 (payload (goal.at.After-has_twice c).Else-not-is_announcement)
twice c = c.has_twice.ensures ∙ read-11 (payload (goal.at.After-has_twice c).Else-not-is_announcement) _ (are (goal.at.After-has_twice c).After-read_modules-ms)

pub returns-then-not-is_announcement : goal.returns-then-not-is_announcement
returns-then-not-is_announcement c = ap passed (announcement_open _ c.args.p.now (sym c.is_announcement.ensures ∙ c.if-not-is_announcement.true))

pub returns-then-count-gt-MOST_MODULES : goal.returns-then-count-gt-MOST_MODULES
returns-then-count-gt-MOST_MODULES c =
    ap passed (announcement-beyond _ (payload (goal.at.returns-then-count-gt-MOST_MODULES c).Else-not-is_announcement) (framed (goal.at.returns-then-count-gt-MOST_MODULES c).Else-not-is_announcement)
    (beyond-many (payload (goal.at.returns-then-count-gt-MOST_MODULES c).Else-not-is_announcement) (framed (goal.at.returns-then-count-gt-MOST_MODULES c).Else-not-is_announcement) (omega
    (arith, c.if-count-gt-MOST_MODULES.true, c.module_count-count.ensures.0))))

pub slice_bounds-read_modules-count : goal.slice_bounds-read_modules-count
slice_bounds-read_modules-count c = starts (goal.at.slice_bounds-read_modules-count c).After-modules_start-start

pub slice_bounds-read_modules-start : goal.slice_bounds-read_modules-start
slice_bounds-read_modules-start c = starts (goal.at.slice_bounds-read_modules-start c).After-modules_start-start

pub read_modules-ms-requires : goal.read_modules-ms-requires
read_modules-ms-requires c =
    let n = c.module_count-count in (
      c.if-count-gt-MOST_MODULES.false,
      rw (tail (payload (goal.at.read_modules-ms-requires c).Else-not-is_announcement) c.modules_start-start.result) (list-long
          (payload (goal.at.read_modules-ms-requires c).Else-not-is_announcement) (framed
          (goal.at.read_modules-ms-requires c).Else-not-is_announcement) _ _ c.modules_start-start.ensures.0 n.ensures.0),
    )

pub returns-then-is_beyond : goal.returns-then-is_beyond
returns-then-is_beyond c =
    ap passed (announcement-beyond _ (payload (goal.at.returns-then-is_beyond c).Else-not-is_announcement) (framed (goal.at.returns-then-is_beyond c).Else-not-is_announcement) (sym
    (beyond (goal.at.returns-then-is_beyond c).After-is_beyond) ∙ c.if-is_beyond.true))

pub returns-then-has_twice : goal.returns-then-has_twice
returns-then-has_twice c =
    ap passed (announcement-twice _ (payload (goal.at.returns-then-has_twice c).Else-not-is_announcement) (framed (goal.at.returns-then-has_twice c).Else-not-is_announcement) (sym
    (beyond (goal.at.returns-then-has_twice c).After-is_beyond) ∙ c.if-is_beyond.false) (sym (twice (goal.at.returns-then-has_twice c).After-has_twice) ∙ c.if-has_twice.true))

pub returns : goal.returns
returns c =
    ap passed (announcement-good _ (payload (goal.at.returns c).Else-not-is_announcement) (framed (goal.at.returns c).Else-not-is_announcement) (sym (beyond (goal.at.returns c).After-is_beyond)
    ∙ c.if-is_beyond.false) (sym (twice (goal.at.returns c).After-has_twice) ∙ c.if-has_twice.false))
