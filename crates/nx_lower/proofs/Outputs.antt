-- Outputs of a reply are put into the same objects.
use Rattle.std.proofs.Common.{◌≡◌, ℕ, ◌+◌, ◌*◌, Bool, true, false, List, ◌++◌, length, map, refl, sym, ap, ◌∙◌, arith}
use Rattle.std.specs.Prelude.{slice_set, nat_le, ◌&&◌, if◌then◌else◌}
use Rattle.std.proofs.lemmas.List.{length-map}
use Rattle.nx_base.specs.ByteLists.{put_bytes}
use Rattle.nx_checked.specs.declared.checked.Element.{Element}
use Rattle.nx_checked.specs.declared.checked.Element.TheVariants as element
use Rattle.nx_cobjects.specs.declared.value.Name.TheVariants as name
use Rattle.nx_cobjects.specs.Groups.{Object, object}
use Rattle.nx_cobjects.specs.Values.{size_of}
use Rattle.nx_cobjects.specs.Memory.{object_in, object_at}
use Rattle.nx_cobjects.specs.Buffers.{with_bytes}
use Rattle.nx_slot.specs.Objects.{object_of, no_object}
use Rattle.nx_slot.specs.Objects as slot
use Rattle.nx_slot.specs.Calls.{from_place}
use Rattle.nx_slot.specs.Calls.{with_bytes as slot_bytes}
use Rattle.nx_lower.specs.Shown.{counts_of, name_of, width_of, object_shown, scalar_shown, objects_of}
use Rattle.nx_lower.specs.Laws.{OutputsAlike}
use Rattle.nx_lower.proofs.Parts.{set_mapped, set_same, set_second, set_fourth}
use Rattle.nx_lower.proofs.Objects.{shown_at}

place_same : (w : Element) (at : ℕ) → slot.bytes_of (width_of w) * at ≡ size_of w * at
place_same element.Int at = refl
place_same element.Char at = refl

-- Bytes are put into an object that may change, where they lie in it.
free_bytes : (o : Object) (at : ℕ) (bytes : List ℕ) → slot_bytes (object_shown false o) at bytes ≡ object_shown false (with_bytes o at bytes)
unfolding slot_bytes
free_bytes o at bytes =
    ap (λ n. if nat_le (n + length bytes) (length o.bytes) && true then object_shown false (object o.element (put_bytes o.bytes n bytes)) else object_shown false o) (place_same o.element at)
    ∙ go (nat_le (size_of o.element * at + length bytes) (length o.bytes))
  where
    go : (b : Bool) → (if b && true then object_shown false (object o.element (put_bytes o.bytes (size_of o.element * at) bytes)) else object_shown false o) ≡ object_shown false (if b then object o.element (put_bytes o.bytes (size_of o.element * at) bytes) else o)
    go true = refl
    go false = refl

fixed_bytes : (o : Object) (at : ℕ) (bytes : List ℕ) → slot_bytes (object_shown true o) at bytes ≡ object_shown true o
unfolding slot_bytes
fixed_bytes o at bytes = go (nat_le (from_place (object_shown true o) at + length bytes) (length o.bytes))
  where
    go : (b : Bool) → (if b && false then object_shown true (object o.element (put_bytes o.bytes (from_place (object_shown true o) at) bytes)) else object_shown true o) ≡ object_shown true o
    go true = refl
    go false = refl

set_there : (os : List slot.Object) (i : ℕ) → slice_set os i (object_of os i) ≡ os
unfolding object_of
set_there os i = set_same os i no_object

pub outputs : OutputsAlike
outputs m (name.Array i) at bytes h =
    let g = m.group in
    let s = map scalar_shown g.scalars in let a = map (object_shown false) g.arrays in let t = map (object_shown true) g.texts in let o = map (object_shown false) m.own in
    let x = object_in g.arrays i in
    ap (λ x. slice_set (objects_of m) (length g.scalars + i) (slot_bytes x at bytes)) (shown_at m (name.Array i) h)
    ∙ ap (slice_set (objects_of m) (length g.scalars + i)) (free_bytes x at bytes)
    ∙ set_second s a t o (length g.scalars) i (object_shown false (with_bytes x at bytes)) (sym (length-map g.scalars scalar_shown)) (omega (arith, h, length-map g.arrays (object_shown false)))
    ∙ ap (λ a. (s ++ (a ++ t)) ++ o) (set_mapped (object_shown false) g.arrays i (with_bytes x at bytes))
outputs m (name.Text i) at bytes h =
    let n = name_of (counts_of m.group) (name.Text i) in
    ap (λ x. slice_set (objects_of m) n (slot_bytes x at bytes)) (shown_at m (name.Text i) h)
    ∙ ap (slice_set (objects_of m) n) (fixed_bytes (object_at m (name.Text i)) at bytes ∙ sym (shown_at m (name.Text i) h))
    ∙ set_there (objects_of m) n
outputs m (name.Own i) at bytes h =
    let g = m.group in
    let s = map scalar_shown g.scalars in let a = map (object_shown false) g.arrays in let t = map (object_shown true) g.texts in let o = map (object_shown false) m.own in
    let x = object_in m.own i in let n = name_of (counts_of m.group) (name.Own i) in
    ap (λ x. slice_set (objects_of m) n (slot_bytes x at bytes)) (shown_at m (name.Own i) h)
    ∙ ap (slice_set (objects_of m) n) (free_bytes x at bytes)
    ∙ set_fourth s a t o (length g.scalars) (length g.arrays) (length g.texts) i (object_shown false (with_bytes x at bytes)) (sym (length-map g.scalars scalar_shown)) (sym (length-map g.arrays (object_shown false))) (sym (length-map g.texts (object_shown true)))
    ∙ ap (λ o. (s ++ (a ++ t)) ++ o) (set_mapped (object_shown false) m.own i (with_bytes x at bytes))
