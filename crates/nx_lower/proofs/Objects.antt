-- The objects of C and those of slot code are read and changed alike.
use Rattle.std.proofs.Common.{◌≡◌, ℕ, zero, suc, ◌+◌, ◌*◌, ◌%◌, ◌<◌, ◌≤◌, ◌^◌, Bool, true, false, List, [], ◌∷◌, ◌++◌, length, map, refl, sym, ap, ◌∙◌, subst, arith, append_assoc}
use Rattle.std.specs.Prelude.{get_or, replicate, slice_get, slice_index, slice_set, nat_le, ◌&&◌, if◌then◌else◌, Result, Ok, Err}
use Rattle.std.proofs.lemmas.Bool.{false≢true}
use Rattle.std.proofs.lemmas.Bool.Decides.{nat_tests}
use Rattle.std.proofs.lemmas.List.{length-map, length-set, map-append}
use Rattle.nx_base.specs.ByteLists.{get_bytes, put_bytes, from_le, to_le}
use Rattle.nx_checked.specs.declared.checked.Element.{Element}
use Rattle.nx_checked.specs.declared.checked.Element.TheVariants as element
use Rattle.nx_checked.specs.declared.checked.Shape.{Shape}
use Rattle.nx_checked.specs.Frames.{bytes_of as array_bytes_of, size_of as checked_size}
use Rattle.nx_cobjects.specs.declared.value.Name.{Name}
use Rattle.nx_cobjects.specs.declared.value.Name.TheVariants as name
use Rattle.nx_cobjects.specs.declared.value.Value.{Value}
use Rattle.nx_cobjects.specs.declared.value.Value.TheVariants as value
use Rattle.nx_cobjects.specs.declared.value.WrongKind.{WrongKind}
use Rattle.nx_cobjects.specs.declared.value.WrongKind.TheVariants as wrong
use Rattle.nx_cobjects.specs.Groups.{Object, object}
use Rattle.nx_cobjects.specs.Values.{same_element, size_of}
use Rattle.nx_cobjects.specs.Memory.{Memory, memory, object_in, object_at, number_at, with_number, element_at, is_of, has_elements, put_back, with_elements, with_arrays, with_own, new_object, ended}
use Rattle.nx_cobjects.specs.Memory.{has_element as has_c_element}
use Rattle.nx_slot.specs.declared.op.Width.TheVariants.{Word}
use Rattle.nx_slot.specs.Objects.{no_object, object_of, has_element, element, with_element as with_slot_element, same_width, bytes_of}
use Rattle.nx_slot.specs.Objects as slot
use Rattle.nx_slot.specs.Meaning.{without}
use Rattle.nx_lower.specs.Shown.{Counts, counts_of, statics_in, name_of, width_of, object_shown, scalar_shown, statics_of, objects_of}
use Rattle.nx_lower.specs.Laws.{object_for, LoadsAlike, WritesSame, StoresAlike, VariablesAlike, ArraysAlike, names_from, EndsAlike}
use Rattle.nx_lower.proofs.Parts.{get_mapped, set_mapped, get_first, get_second, get_third, get_fourth, set_first, set_second, set_fourth}

-- An object is one of its list.
abbrev pub Known : Memory → Name → Type 0
Known m (name.Array i) = i < length m.group.arrays
Known m (name.Text i) = i < length m.group.texts
Known m (name.Own i) = i < length m.own

abbrev pub is_text : Name → Bool
is_text (name.Array i) = false
is_text (name.Text i) = true
is_text (name.Own i) = false

in_list : (os : List Object) (i : ℕ) → 1 ≤ length (object_in os i).bytes → i < length os
in_list [] i h = absurd (omega arith)
in_list (o ∷ os) zero h = omega arith
in_list (o ∷ os) (suc i) h = let q = in_list os i h in omega (arith, q)

-- It is there where it has elements, which are of its kind.
same_kind : (w e : Element) → same_element w e ≡ true → e ≡ w
same_kind element.Int element.Int h = refl
same_kind element.Char element.Char h = refl
same_kind element.Int element.Char h = absurd (false≢true h)
same_kind element.Char element.Int h = absurd (false≢true h)

of_list : (w : Element) (os : List Object) (i : ℕ) → is_of w (slice_get os i) ≡ true → (i < length os) × ((object_in os i).element ≡ w)
of_list w [] i h = absurd (false≢true h)
of_list w (o ∷ os) zero h = (omega arith, same_kind w o.element h)
of_list w (o ∷ os) (suc i) h = let q = of_list w os i h in let g = q.0 in (omega (arith, g), q.1)

pub has_kind : (m : Memory) (w : Element) (o : Name) → has_elements m w o ≡ true → Known m o × ((object_at m o).element ≡ w)
has_kind m w (name.Array i) h = of_list w m.group.arrays i h
has_kind m w (name.Text i) h = of_list w m.group.texts i h
has_kind m w (name.Own i) h = of_list w m.own i h

pub known : (m : Memory) (o : Name) → 1 ≤ length (object_at m o).bytes → Known m o
known m (name.Array i) h = in_list m.group.arrays i h
known m (name.Text i) h = in_list m.group.texts i h
known m (name.Own i) h = in_list m.own i h

-- Each object that is known is shown at its name.
pub shown_at : (m : Memory) (o : Name) → Known m o → object_for m o ≡ object_shown (is_text o) (object_at m o)
unfolding object_of
shown_at m (name.Array i) h =
    let g = m.group in
    let s = map scalar_shown g.scalars in let a = map (object_shown false) g.arrays in let t = map (object_shown true) g.texts in let o = map (object_shown false) m.own in
    get_second s a t o (length g.scalars) i no_object (sym (length-map g.scalars scalar_shown)) (omega (arith, h, length-map g.arrays (object_shown false)))
    ∙ get_mapped (object_shown false) g.arrays i no_object (object element.Char []) h
shown_at m (name.Text i) h =
    let g = m.group in
    let s = map scalar_shown g.scalars in let a = map (object_shown false) g.arrays in let t = map (object_shown true) g.texts in let o = map (object_shown false) m.own in
    get_third s a t o (length g.scalars) (length g.arrays) i no_object (sym (length-map g.scalars scalar_shown)) (sym (length-map g.arrays (object_shown false))) (omega (arith, h, length-map g.texts (object_shown true)))
    ∙ get_mapped (object_shown true) g.texts i no_object (object element.Char []) h
shown_at m (name.Own i) h =
    let g = m.group in
    let s = map scalar_shown g.scalars in let a = map (object_shown false) g.arrays in let t = map (object_shown true) g.texts in let o = map (object_shown false) m.own in
    get_fourth s a t o (length g.scalars) (length g.arrays) (length g.texts) i no_object (sym (length-map g.scalars scalar_shown)) (sym (length-map g.arrays (object_shown false))) (sym (length-map g.texts (object_shown true)))
    ∙ get_mapped (object_shown false) m.own i no_object (object element.Char []) h

widths_same : (w : Element) → same_width (width_of w) (width_of w) ≡ true
widths_same element.Int = refl
widths_same element.Char = refl

sizes_same : (w : Element) → bytes_of (width_of w) ≡ size_of w
sizes_same element.Int = refl
sizes_same element.Char = refl

-- The element of an object that is shown.
pub element_there : (fixed : Bool) (o : Object) (w : Element) (at : ℕ) → o.element ≡ w → nat_le (size_of w * (at + 1)) (length o.bytes) ≡ true → has_element (object_shown fixed o) (width_of w) at ≡ true
unfolding has_element
element_there fixed o w at e h =
    ap (λ v. same_width (width_of v) (width_of w) && nat_le (bytes_of (width_of w) * (at + 1)) (length o.bytes)) e
    ∙ ap (λ b. b && nat_le (bytes_of (width_of w) * (at + 1)) (length o.bytes)) (widths_same w)
    ∙ ap (λ n. nat_le (n * (at + 1)) (length o.bytes)) (sizes_same w)
    ∙ h

element_same : (fixed : Bool) (o : Object) (w : Element) (at : ℕ) → element (width_of w) (object_shown fixed o) at ≡ number_at w o.bytes at
unfolding element
element_same fixed o element.Int at = refl
element_same fixed o element.Char at = refl

stored_same : (fixed : Bool) (o : Object) (w : Element) (at n : ℕ) → with_slot_element (width_of w) (object_shown fixed o) at n ≡ object_shown fixed (object o.element (with_number w o.bytes at n))
unfolding with_slot_element
stored_same fixed o element.Int at n = refl
stored_same fixed o element.Char at n = refl

-- What the test of an element says where it holds.
pub record Within (w : Element) (o : Object) (at : ℕ) : Type 0 where
  pub kind : o.element ≡ w
  pub test : nat_le (size_of w * (at + 1)) (length o.bytes) ≡ true
  pub some : 1 ≤ length o.bytes

size_some : (w : Element) (at n : ℕ) → nat_le (size_of w * (at + 1)) n ≡ true → 1 ≤ n
size_some element.Int at n h = grind (arith, nat_tests)
size_some element.Char at n h = grind (arith, nat_tests)

both : (w e : Element) (b : Bool) → (same_element w e && b) ≡ true → (e ≡ w) × (b ≡ true)
both element.Int element.Int b h = (refl, h)
both element.Char element.Char b h = (refl, h)
both element.Int element.Char b h = absurd (false≢true h)
both element.Char element.Int b h = absurd (false≢true h)

within : (w : Element) (o : Object) (at : ℕ) → has_c_element w o at ≡ true → Within w o at
within w o at h =
    let q = both w o.element (nat_le (size_of w * (at + 1)) (length o.bytes)) h in
    record { kind = q.0; test = q.1; some = size_some w at (length o.bytes) q.1 }

value_or : Value → Result Value WrongKind → Value
value_or x (Ok y) = y
value_or x (Err k) = x

pub ok_value : (x y : Value) → ◌≡◌ {A = Result Value WrongKind} (Ok x) (Ok y) → x ≡ y
unfolding value_or
ok_value x y e = ap (value_or x) e

memory_or : Memory → Result Memory WrongKind → Memory
memory_or x (Ok y) = y
memory_or x (Err k) = x

ok_memory : (x y : Memory) → ◌≡◌ {A = Result Memory WrongKind} (Ok x) (Ok y) → x ≡ y
unfolding memory_or
ok_memory x y e = ap (memory_or x) e

read_within : (w : Element) (o : Object) (at : ℕ) (v : Value) → element_at w o at ≡ Ok v → (i : Within w o at) × (v ≡ value.Int (number_at w o.bytes at))
read_within w o at v e = go (has_c_element w o at) refl e
  where
    go : (b : Bool) → has_c_element w o at ≡ b → ◌≡◌ {A = Result Value WrongKind} (if b then Ok (value.Int (number_at w o.bytes at)) else Err wrong.Bounds) (Ok v) → (i : Within w o at) × (v ≡ value.Int (number_at w o.bytes at))
    go true q e = (within w o at q, sym (ok_value (value.Int (number_at w o.bytes at)) v e))
    go false q e = absurd cc

pub loads : LoadsAlike
loads m w o at v h =
    let r = read_within w (object_at m o) at v h in
    let k = known m o r.0.some in
    let s = shown_at m o k in
    record {
      there = ap (λ x. has_element x (width_of w) at) s ∙ element_there (is_text o) (object_at m o) w at r.0.kind r.0.test;
      same = r.1 ∙ ap value.Int (sym (ap (λ x. element (width_of w) x at) s ∙ element_same (is_text o) (object_at m o) w at));
    }

-- A store leads to a memory with one element changed.
write_array : (m : Memory) (w : Element) (i at n : ℕ) (new : Memory) → with_arrays m (with_elements w m.group.arrays i at n) ≡ Ok new
    → (k : Within w (object_in m.group.arrays i) at) × (memory (record { scalars = m.group.scalars; arrays = slice_set m.group.arrays i (object (object_in m.group.arrays i).element (with_number w (object_in m.group.arrays i).bytes at n)); texts = m.group.texts }) m.own ≡ new)
write_array m w i at n new e = go (has_c_element w (object_in m.group.arrays i) at) refl e
  where
    go : (b : Bool) → has_c_element w (object_in m.group.arrays i) at ≡ b
        → ◌≡◌ {A = Result Memory WrongKind} (with_arrays m (put_back m.group.arrays i (if b then Ok (object (object_in m.group.arrays i).element (with_number w (object_in m.group.arrays i).bytes at n)) else Err wrong.Bounds))) (Ok new)
        → (k : Within w (object_in m.group.arrays i) at) × (memory (record { scalars = m.group.scalars; arrays = slice_set m.group.arrays i (object (object_in m.group.arrays i).element (with_number w (object_in m.group.arrays i).bytes at n)); texts = m.group.texts }) m.own ≡ new)
    go true q e = (within w (object_in m.group.arrays i) at q, ok_memory _ new e)
    go false q e = absurd cc

write_own : (m : Memory) (w : Element) (i at n : ℕ) (new : Memory) → with_own m (with_elements w m.own i at n) ≡ Ok new
    → (k : Within w (object_in m.own i) at) × (memory m.group (slice_set m.own i (object (object_in m.own i).element (with_number w (object_in m.own i).bytes at n))) ≡ new)
write_own m w i at n new e = go (has_c_element w (object_in m.own i) at) refl e
  where
    go : (b : Bool) → has_c_element w (object_in m.own i) at ≡ b
        → ◌≡◌ {A = Result Memory WrongKind} (with_own m (put_back m.own i (if b then Ok (object (object_in m.own i).element (with_number w (object_in m.own i).bytes at n)) else Err wrong.Bounds))) (Ok new)
        → (k : Within w (object_in m.own i) at) × (memory m.group (slice_set m.own i (object (object_in m.own i).element (with_number w (object_in m.own i).bytes at n))) ≡ new)
    go true q e = (within w (object_in m.own i) at q, ok_memory _ new e)
    go false q e = absurd cc

pub stores : StoresAlike
stores m w (name.Text i) at n new h = absurd cc
stores m w (name.Array i) at n new h =
    let g = m.group in
    let s = map scalar_shown g.scalars in let a = map (object_shown false) g.arrays in let t = map (object_shown true) g.texts in let o = map (object_shown false) m.own in
    let r = write_array m w i at n new h in
    let x = object_in g.arrays i in
    let y = object x.element (with_number w x.bytes at n) in
    let k = in_list g.arrays i r.0.some in
    let z = shown_at m (name.Array i) k in
    subst (λ new. WritesSame m w (name.Array i) at n new) r.1
    (record {
      there = ap (λ x. has_element x (width_of w) at) z ∙ element_there false x w at r.0.kind r.0.test;
      free = ap (λ x. x.fixed) z;
      counts = ap (λ k. let c : Counts = record { scalars = length g.scalars; arrays = k; texts = length g.texts } in c) (length-set g.arrays i y);
      objects =
          ap (λ x. slice_set (objects_of m) (length g.scalars + i) (with_slot_element (width_of w) x at n)) z
          ∙ ap (slice_set (objects_of m) (length g.scalars + i)) (stored_same false x w at n)
          ∙ set_second s a t o (length g.scalars) i (object_shown false y) (sym (length-map g.scalars scalar_shown)) (omega (arith, k, length-map g.arrays (object_shown false)))
          ∙ ap (λ a. (s ++ (a ++ t)) ++ o) (set_mapped (object_shown false) g.arrays i y);
    })
stores m w (name.Own i) at n new h =
    let g = m.group in
    let s = map scalar_shown g.scalars in let a = map (object_shown false) g.arrays in let t = map (object_shown true) g.texts in let o = map (object_shown false) m.own in
    let r = write_own m w i at n new h in
    let x = object_in m.own i in
    let y = object x.element (with_number w x.bytes at n) in
    let k = in_list m.own i r.0.some in
    let z = shown_at m (name.Own i) k in
    subst (λ new. WritesSame m w (name.Own i) at n new) r.1
    (record {
      there = ap (λ x. has_element x (width_of w) at) z ∙ element_there false x w at r.0.kind r.0.test;
      free = ap (λ x. x.fixed) z;
      counts = refl;
      objects =
          ap (λ x. slice_set (objects_of m) (name_of (counts_of g) (name.Own i)) (with_slot_element (width_of w) x at n)) z
          ∙ ap (slice_set (objects_of m) (name_of (counts_of g) (name.Own i))) (stored_same false x w at n)
          ∙ set_fourth s a t o (length g.scalars) (length g.arrays) (length g.texts) i (object_shown false y) (sym (length-map g.scalars scalar_shown)) (sym (length-map g.arrays (object_shown false))) (sym (length-map g.texts (object_shown true)))
          ∙ ap (λ o. (s ++ (a ++ t)) ++ o) (set_mapped (object_shown false) m.own i y);
    })

-- A variable's word.
word_there : (n : ℕ) → has_element (scalar_shown n) Word 0 ≡ true
unfolding has_element to_le
word_there n = refl

word_bytes : (n : ℕ) → get_bytes (to_le 4 n) 0 4 ≡ to_le 4 n
unfolding get_bytes to_le
word_bytes n = refl

word_kept : (n : ℕ) → from_le (to_le 4 n) ≡ n % 2 ^ 32
unfolding from_le to_le
word_kept n = omega arith

word_read : (n : ℕ) → element Word (scalar_shown n) 0 ≡ n % 2 ^ 32
unfolding element
word_read n = ap from_le (word_bytes n) ∙ word_kept n

word_written : (old n : ℕ) → with_slot_element Word (scalar_shown old) 0 n ≡ scalar_shown n
unfolding with_slot_element put_bytes to_le
word_written old n = refl

scalar_at : (m : Memory) (i : ℕ) → i < length m.group.scalars → object_of (objects_of m) i ≡ scalar_shown (slice_index m.group.scalars i)
unfolding object_of
scalar_at m i h =
    let g = m.group in
    get_first (map scalar_shown g.scalars) (map (object_shown false) g.arrays) (map (object_shown true) g.texts) (map (object_shown false) m.own) i no_object (omega (arith, h, length-map g.scalars scalar_shown))
    ∙ get_mapped scalar_shown g.scalars i no_object 0 h

pub variables : VariablesAlike
variables m i n h =
    let g = m.group in
    let s = map scalar_shown g.scalars in let a = map (object_shown false) g.arrays in let t = map (object_shown true) g.texts in let o = map (object_shown false) m.own in
    let z = scalar_at m i h in
    record {
      there = ap (λ x. has_element x Word 0) z ∙ word_there (slice_index g.scalars i);
      free = ap (λ x. x.fixed) z;
      reads = ap (λ x. element Word x 0) z ∙ word_read (slice_index g.scalars i);
      writes =
          ap (λ x. slice_set (objects_of m) i (with_slot_element Word x 0 n)) z
          ∙ ap (slice_set (objects_of m) i) (word_written (slice_index g.scalars i) n)
          ∙ set_first s a t o i (scalar_shown n) (omega (arith, h, length-map g.scalars scalar_shown))
          ∙ ap (λ s. (s ++ (a ++ t)) ++ o) (set_mapped scalar_shown g.scalars i n);
    }

pub shapes_same : (s : Shape) → s.count * size_of s.element ≡ array_bytes_of s
shapes_same s = ap (λ n. s.count * n) (go s.element)
  where
    go : (w : Element) → size_of w ≡ checked_size w
    go element.Int = refl
    go element.Char = refl

pub arrays : ArraysAlike
arrays m s =
    ap (λ l. statics_of m.group ++ l) (map-append (object_shown false) m.own (new_object s ∷ []))
    ∙ sym (append_assoc (statics_of m.group) (map (object_shown false) m.own) (object_shown false (new_object s) ∷ []))
    ∙ ap (λ n. objects_of m ++ object_shown false (object s.element (replicate n 0)) ∷ []) (shapes_same s)

-- Of a list of objects that are shown, one ends.
end_mapped : (os : List Object) (i : ℕ) → slice_set (map (object_shown false) os) i (slot.ended (get_or (map (object_shown false) os) i no_object)) ≡ map (object_shown false) (slice_set os i (ended (object_in os i)))
end_mapped [] i = refl
end_mapped (o ∷ os) zero = refl
end_mapped (o ∷ os) (suc i) = ap (λ l. object_shown false o ∷ l) (end_mapped os i)

end_one : (m : Memory) (i : ℕ) → slice_set (objects_of m) (statics_in (counts_of m.group) + i) (slot.ended (object_of (objects_of m) (statics_in (counts_of m.group) + i))) ≡ objects_of (memory m.group (slice_set m.own i (ended (object_in m.own i))))
unfolding object_of
end_one m i =
    let g = m.group in
    let s = map scalar_shown g.scalars in let a = map (object_shown false) g.arrays in let t = map (object_shown true) g.texts in let o = map (object_shown false) m.own in
    let e = sym (length-map g.scalars scalar_shown) in let f = sym (length-map g.arrays (object_shown false)) in let h = sym (length-map g.texts (object_shown true)) in
    let n = statics_in (counts_of g) + i in
    ap (λ x. slice_set (objects_of m) n (slot.ended x)) (get_fourth s a t o (length g.scalars) (length g.arrays) (length g.texts) i no_object e f h)
    ∙ set_fourth s a t o (length g.scalars) (length g.arrays) (length g.texts) i (slot.ended (get_or o i no_object)) e f h
    ∙ ap (λ o. (s ++ (a ++ t)) ++ o) (end_mapped m.own i)

pub ends : EndsAlike
ends m from zero = refl
ends m from (suc k) =
    let own = slice_set m.own from (ended (object_in m.own from)) in
    let n = statics_in (counts_of m.group) in
    let e : n + (from + 1) ≡ n + from + 1 = omega arith in
    ends (memory m.group own) (from + 1) k
    ∙ ap (λ i. without (names_from i k) (objects_of (memory m.group own))) e
    ∙ ap (without (names_from (n + from + 1) k)) (sym (end_one m from))
