-- What each finder finds lies in the section; and what the code's steps cite.
use Prim.Native.Nat.{ℕ, ◌+◌, ◌≤◌}
use mathlib.Core.Path.{◌≡◌, sym, ap, ◌∙◌}
use mathlib.Core.List as L
use Rattle.std.proofs.Common.{Some, None}
use native.Mathlib.Omega.{arith}
use borrow.Author.Tests.{le-leb}
use lib.ListN.{length, take, drop, length-take, length-drop}
use Rattle.wire.specs.Fields.{byte_at}
use Rattle.wire.specs.declared.Span.{Span}
use Rattle.wire.specs.Places.{Finder, Place, item_at, after, in_part, Inside}
use Rattle.ait_descriptors.proofs.Laws.Lists.{sound-list}
use Rattle.wire.proofs.Laws.Finders.{Sound, sound_item, sound-after, sound-bytes, sound-inner, sound-within, in_part-none}
use Rattle.ait_descriptors.specs.declared.Kind.TheVariants as kind
use Rattle.ait_descriptors.specs.Kinds.{size_of}
use Rattle.ait_descriptors.specs.Contents.{list_in, kind_of}
use Rattle.ait_body.specs.Body.{common_length}
use Rattle.ait_descriptors.proofs.Laws.Kinds as kinds
use Rattle.ait_read.specs.declared.Scope.{Scope}
use Rattle.ait_read.specs.declared.Scope.TheVariants.{Common, Own}
use Rattle.ait_descriptors.specs.declared.Repeated.{Repeated}
use Rattle.ait_descriptors.specs.declared.Repeated.TheVariants.{Bases}
use Rattle.ait_read.specs.Answers.{span_part}
use Rattle.ait_read.specs.Places.{moved, common_in, loop_in, body_at, common_at, loop_at, application_at, own_at, scope_at, descriptor_at, list_at, repeated_at, extensions_at, extension_at}
use Rattle.ait_descriptors.specs.Tag02.{extensions_in}

pub sound-common_in : Sound common_in
unfolding common_in
sound-common_in s = sound-bytes 2 (common_length s) s

pub sound-loop_in : Sound loop_in
unfolding loop_in
sound-loop_in s = sound-after (4 + common_length s) s

pub sound-extensions_in : Sound extensions_in
unfolding extensions_in
sound-extensions_in s = sound-after (2 + byte_at s 0) s

pub sound-body : Sound body_at
unfolding body_at
sound-body = sound-inner 8 4

pub sound-common : Sound common_at
unfolding common_at
sound-common = sound-within body_at common_in sound-body sound-common_in

pub sound_loop : Sound loop_at
unfolding loop_at
sound_loop = sound-within body_at loop_in sound-body sound-loop_in

pub sound-application : (i : ℕ) → Sound (application_at i)
unfolding application_at
sound-application i = sound-within loop_at (item_at (size_of kind.Application) i) sound_loop (sound_item (size_of kind.Application) (kinds.kind_of_lem kind.Application) i)

pub sound-own : (i : ℕ) → Sound (own_at i)
unfolding own_at
sound-own i = sound-within (application_at i) (after 9) (sound-application i) (sound-after 9)

pub sound_scope : (o : Scope) → Sound (scope_at o)
unfolding scope_at
sound_scope Common = sound-common
sound_scope (Own i) = sound-own i

pub sound-descriptor : (o : Scope) (j : ℕ) → Sound (descriptor_at o j)
unfolding descriptor_at
sound-descriptor o j = sound-within (scope_at o) (item_at (size_of kind.Descriptor) j) (sound_scope o) (sound_item (size_of kind.Descriptor) (kinds.kind_of_lem kind.Descriptor) j)

pub sound-list_at : (o : Scope) (j : ℕ) (what : Repeated) → Sound (list_at o j what)
unfolding list_at
sound-list_at o j what = sound-within (descriptor_at o j) (list_in what) (sound-descriptor o j) (sound-list what)

pub sound_repeated : (o : Scope) (j : ℕ) (what : Repeated) (k : ℕ) → Sound (repeated_at o j what k)
unfolding repeated_at
sound_repeated o j what k = sound-within (list_at o j what) (item_at (size_of (kind_of what)) k) (sound-list_at o j what) (sound_item (size_of (kind_of what)) (kinds.kind_of_lem (kind_of what)) k)

pub sound-extensions : (o : Scope) (j k : ℕ) → Sound (extensions_at o j k)
unfolding extensions_at
sound-extensions o j k = sound-within (repeated_at o j Bases k) extensions_in (sound_repeated o j Bases k) sound-extensions_in

pub sound-extension : (o : Scope) (j k m : ℕ) → Sound (extension_at o j k m)
unfolding extension_at
sound-extension o j k m = sound-within (extensions_at o j k) (item_at (size_of kind.Extension) m) (sound-extensions o j k) (sound_item (size_of kind.Extension) (kinds.kind_of_lem kind.Extension) m)

-- a step from a place that code found, which is q: o is where it lies, x what is cut out there, and r what the step finds in that
module _ (g : Finder) (sg : Sound g) (p q : Place) (s : L.List ℕ) (e : p ≡ q) where
  pub step-none : p ≡ None → None ≡ in_part g q s
  step-none f = sym (ap (λ (x : Place). in_part g x s) (sym e ∙ f) ∙ in_part-none g s)

  module _ (i : Inside q s) (o : Span) (f : p ≡ Some o) (x : L.List ℕ) (h : x ≡ span_part s o.start o.size) (r : Place) (k : r ≡ g x) where
    there : o.start + o.size ≤ length s
    there = i o.start o.size (sym e ∙ f)

    found : r ≡ g (take o.size (drop o.start s))
    unfolding span_part
    found = k ∙ ap g (h ∙ rw (le-leb (o.start + o.size) (length s) there))

    pub step-is : moved o.start r ≡ in_part g q s
    unfolding in_part
    step-is = rw (sym e ∙ f) (ap (moved o.start) found)

    pub step-fits : (u : Span) → r ≡ Some u → o.start + u.start ≤ length s
    step-fits u w = let t = sg (take o.size (drop o.start s)) u.start u.size (sym found ∙ w) in omega (arith, there, simp (length-take, length-drop) at t)
