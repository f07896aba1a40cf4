-- What is said of the objects of C and those of slot code.
use Rattle.std.specs.Prelude.{◌≡◌, ℕ, zero, suc, ◌+◌, ◌%◌, ◌<◌, ◌^◌, true, false, List, [], ◌∷◌, ◌++◌, length, map, replicate, slice_index, slice_set, Some, Ok}
use Rattle.nx_base.specs.Calls.{Row}
use Rattle.nx_checked.specs.declared.checked.UsedCall.{UsedCall}
use Rattle.nx_checked.specs.declared.checked.Element.{Element}
use Rattle.nx_checked.specs.declared.checked.Shape.{Shape}
use Rattle.nx_checked.specs.Frames.{bytes_of}
use Rattle.nx_cobjects.specs.declared.value.Name.{Name}
use Rattle.nx_cobjects.specs.declared.value.Name.TheVariants as name
use Rattle.nx_cobjects.specs.declared.value.Value.{Value}
use Rattle.nx_cobjects.specs.declared.value.Value.TheVariants as value
use Rattle.nx_cobjects.specs.Memory.{Memory, memory, load, store, group_with, new_object, end_arrays}
use Rattle.nx_cobjects.specs.Buffers.{enters, inputs_of, words_of, outputs_of, with_output}
use Rattle.nx_slot.specs.declared.op.Width.TheVariants.{Word}
use Rattle.nx_slot.specs.Objects.{object_of, has_element, element, with_element}
use Rattle.nx_slot.specs.Objects as slot
use Rattle.nx_slot.specs.Calls.{call_inputs}
use Rattle.nx_slot.specs.Calls.{with_output as slot_output, words_of as slot_words, outputs_of as slot_pointers}
use Rattle.nx_slot.specs.Meaning.{without}
use Rattle.nx_lower.specs.Shown.{counts_of, statics_in, name_of, shown, width_of, objects_of}

-- The object of slot code that stands for one of C.
abbrev pub object_for : Memory → Name → slot.Object
object_for m o = object_of (objects_of m) (name_of (counts_of m.group) o)

-- An element that C reads is there, and is the same number.
pub record ReadsSame (m : Memory) (w : Element) (o : Name) (at : ℕ) (v : Value) : Type 0 where
  pub there : has_element (object_for m o) (width_of w) at ≡ true
  pub same : v ≡ value.Int (element (width_of w) (object_for m o) at)

abbrev pub LoadsAlike : Type 0
LoadsAlike = (m : Memory) (w : Element) (o : Name) (at : ℕ) (v : Value) → load m w (value.Point o at) ≡ Ok v → ReadsSame m w o at v

-- What C stores is stored there too, and nothing else changes.
pub record WritesSame (m : Memory) (w : Element) (o : Name) (at n : ℕ) (new : Memory) : Type 0 where
  pub there : has_element (object_for m o) (width_of w) at ≡ true
  pub free : (object_for m o).fixed ≡ false
  pub counts : counts_of new.group ≡ counts_of m.group
  pub objects : slice_set (objects_of m) (name_of (counts_of m.group) o) (with_element (width_of w) (object_for m o) at n) ≡ objects_of new

abbrev pub StoresAlike : Type 0
StoresAlike = (m : Memory) (w : Element) (o : Name) (at n : ℕ) (new : Memory) → store m w (value.Point o at) n ≡ Ok new → WritesSame m w o at n new

-- A variable of the file is an object of one word.
pub record VariableSame (m : Memory) (i n : ℕ) : Type 0 where
  pub there : has_element (object_of (objects_of m) i) Word 0 ≡ true
  pub free : (object_of (objects_of m) i).fixed ≡ false
  pub reads : element Word (object_of (objects_of m) i) 0 ≡ slice_index m.group.scalars i % 2 ^ 32
  pub writes : slice_set (objects_of m) i (with_element Word (object_of (objects_of m) i) 0 n) ≡ objects_of (memory (group_with m.group i n) m.own)

abbrev pub VariablesAlike : Type 0
VariablesAlike = (m : Memory) (i n : ℕ) → i < length m.group.scalars → VariableSame m i n

-- A new array is the next object, and arrays that end are without bytes in both.
abbrev pub ArraysAlike : Type 0
ArraysAlike = (m : Memory) (s : Shape) → objects_of (memory m.group (m.own ++ new_object s ∷ [])) ≡ objects_of m ++ record { bytes = replicate (bytes_of s) 0; width = width_of s.element; fixed = false } ∷ []

-- So many names from one on.
abbrev pub names_from : ℕ → ℕ → List ℕ
names_from i zero = []
names_from i (suc k) = i ∷ names_from (i + 1) k

abbrev pub EndsAlike : Type 0
EndsAlike = (m : Memory) (from k : ℕ) → objects_of (memory m.group (end_arrays m.own from k)) ≡ without (names_from (statics_in (counts_of m.group) + from) k) (objects_of m)

-- The object is one of its list.
abbrev pub IsThere : Memory → Name → Type 0
IsThere m (name.Array i) = i < length m.group.arrays
IsThere m (name.Text i) = i < length m.group.texts
IsThere m (name.Own i) = i < length m.own

-- What comes with a reply is put into the same object. Texts stay as they are.
abbrev pub OutputsAlike : Type 0
OutputsAlike = (m : Memory) (o : Name) (at : ℕ) (bytes : List ℕ) → IsThere m o → slot_output (objects_of m) (slot.Pointer (name_of (counts_of m.group) o) at) bytes ≡ objects_of (with_output m (value.Point o at) bytes)

-- The row of the call table that a program names.
abbrev pub row_of : UsedCall → Row
row_of c = record { kinds = c.kinds; enters = enters c }

-- A call of the kernel that isn't wrong in C has the same words, inputs and pointers for outputs in slot code.
pub record CallSame (m : Memory) (c : UsedCall) (vs : List Value) (inputs : List (List ℕ)) : Type 0 where
  pub inputs_are : call_inputs (row_of c) (objects_of m) (map (shown (counts_of m.group)) vs) ≡ Some inputs
  pub words : slot_words (map (shown (counts_of m.group)) vs) ≡ words_of vs
  pub pointers : slot_pointers c.kinds (map (shown (counts_of m.group)) vs) ≡ map (shown (counts_of m.group)) (outputs_of c.kinds vs)

abbrev pub CallsAlike : Type 0
CallsAlike = (m : Memory) (c : UsedCall) (vs : List Value) (inputs : List (List ℕ)) → length vs ≡ length c.kinds → inputs_of m c vs ≡ Some inputs → CallSame m c vs inputs
