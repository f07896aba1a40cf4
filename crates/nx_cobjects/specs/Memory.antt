-- Objects, and what is read from them and stored in them.
use Rattle.std.specs.Prelude.{ℕ, zero, suc, ◌+◌, ◌*◌, ◌%◌, ◌^◌, ◌==◌, Bool, false, not, ◌&&◌, List, [], length, replicate, get_or, slice_get, slice_index, slice_set, nat_le, if◌then◌else◌, Option, Some, None, Result, Ok, Err}
use Rattle.nx_base.specs.Arithmetic.{flag, alu_of}
use Rattle.nx_base.specs.ByteLists.{get_bytes, put_bytes, from_le, to_le}
use Rattle.nx_base.specs.declared.operations.AluOp.TheVariants as alu
use Rattle.nx_checked.specs.declared.checked.Cell.{Cell}
use Rattle.nx_checked.specs.declared.checked.Cell.TheVariants as cell
use Rattle.nx_checked.specs.declared.checked.Element.{Element}
use Rattle.nx_checked.specs.declared.checked.Element.TheVariants as element
use Rattle.nx_checked.specs.declared.checked.Shape.{Shape}
use Rattle.nx_checked.specs.declared.checked.IntPrefix.{IntPrefix}
use Rattle.nx_checked.specs.declared.checked.IntPrefix.TheVariants as int_prefix
use Rattle.nx_checked.specs.declared.checked.Conversion.TheVariants as conversion
use Rattle.nx_cobjects.specs.declared.value.Name.{Name}
use Rattle.nx_cobjects.specs.declared.value.Name.TheVariants as name
use Rattle.nx_cobjects.specs.declared.value.Value.{Value}
use Rattle.nx_cobjects.specs.declared.value.Value.TheVariants.{Int, Point, Forged, Entry}
use Rattle.nx_cobjects.specs.declared.value.WrongKind.{WrongKind}
use Rattle.nx_cobjects.specs.declared.value.WrongKind.TheVariants as wrong
use Rattle.nx_cobjects.specs.declared.value.Prefix.{Prefix}
use Rattle.nx_cobjects.specs.declared.value.Prefix.TheVariants as before
use Rattle.nx_cobjects.specs.declared.value.Infix.{Infix}
use Rattle.nx_cobjects.specs.declared.value.Infix.TheVariants as between
use Rattle.nx_cobjects.specs.Values.{◌>>=◌, number_in, operated, same_element, size_of}
use Rattle.nx_cobjects.specs.Groups.{Object, Group, object}

-- The objects that a thread reaches: those of its group, and its own. An own object's name is its place, and none is
-- given twice.
pub record Memory : Type 0 where
  pub group : Group
  pub own : List Object

abbrev pub memory : Group → List Object → Memory
memory g own = record { group = g; own = own }

-- The object at a place. Outside the list it has no bytes.
abbrev pub object_in : List Object → ℕ → Object
object_in os i = get_or os i (object element.Char [])

abbrev pub object_at : Memory → Name → Object
object_at m (name.Array i) = object_in m.group.arrays i
object_at m (name.Text i) = object_in m.group.texts i
object_at m (name.Own i) = object_in m.own i

-- The number of an element that lies in these bytes, the lowest byte first.
abbrev pub number_at : Element → List ℕ → ℕ → ℕ
number_at element.Int bytes at = from_le (get_bytes bytes (4 * at) 4)
number_at element.Char bytes at = slice_index bytes at

-- The bytes with an element changed.
abbrev pub with_number : Element → List ℕ → ℕ → ℕ → List ℕ
with_number element.Int bytes at n = put_bytes bytes (4 * at) (to_le 4 n)
with_number element.Char bytes at n = slice_set bytes at (n % 256)

-- Whether an element lies in an object of such elements.
abbrev pub has_element : Element → Object → ℕ → Bool
has_element w o at = same_element w o.element && nat_le (size_of w * (at + 1)) (length o.bytes)

-- What is read from the element at a place.
abbrev pub element_at : Element → Object → ℕ → Result Value WrongKind
element_at w o at = if has_element w o at then Ok (Int (number_at w o.bytes at)) else Err wrong.Bounds

abbrev pub load : Memory → Element → Value → Result Value WrongKind
load m w (Point o at) = element_at w (object_at m o) at
load m w (Forged n) = Err wrong.Forged
load m w (Int n) = Err wrong.Bounds
load m w (Entry f) = Err wrong.Bounds

-- An object with an element changed.
abbrev pub with_element : Element → Object → ℕ → ℕ → Result Object WrongKind
with_element w o at n =
    if has_element w o at then Ok (object o.element (with_number w o.bytes at n)) else Err wrong.Bounds

-- A list of objects with one changed.
abbrev pub put_back : List Object → ℕ → Result Object WrongKind → Result (List Object) WrongKind
put_back os i (Ok o) = Ok (slice_set os i o)
put_back os i (Err kind) = Err kind

abbrev pub with_elements : Element → List Object → ℕ → ℕ → ℕ → Result (List Object) WrongKind
with_elements w os i at n = put_back os i (with_element w (object_in os i) at n)

abbrev pub with_arrays : Memory → Result (List Object) WrongKind → Result Memory WrongKind
with_arrays m (Ok os) = Ok (memory (record { scalars = m.group.scalars; arrays = os; texts = m.group.texts }) m.own)
with_arrays m (Err kind) = Err kind

abbrev pub with_own : Memory → Result (List Object) WrongKind → Result Memory WrongKind
with_own m (Ok os) = Ok (memory m.group os)
with_own m (Err kind) = Err kind

-- A number is stored at a pointer. Texts have no pointer through which one may be.
abbrev pub store : Memory → Element → Value → ℕ → Result Memory WrongKind
store m w (Point (name.Array i) at) n = with_arrays m (with_elements w m.group.arrays i at n)
store m w (Point (name.Text i) at) n = Err wrong.Bounds
store m w (Point (name.Own i) at) n = with_own m (with_elements w m.own i at n)
store m w (Forged k) n = Err wrong.Forged
store m w (Int k) n = Err wrong.Bounds
store m w (Entry f) n = Err wrong.Bounds

-- Whether an object is there, with such elements.
abbrev pub is_of : Element → Option Object → Bool
is_of w None = false
is_of w (Some o) = same_element w o.element

abbrev pub has_elements : Memory → Element → Name → Bool
has_elements m w (name.Array i) = is_of w (slice_get m.group.arrays i)
has_elements m w (name.Text i) = is_of w (slice_get m.group.texts i)
has_elements m w (name.Own i) = is_of w (slice_get m.own i)

-- A pointer that is moved up by n elements, of which its object must be. One that points to nothing moves by their bytes.
abbrev pub moved : Memory → Element → Value → ℕ → Result Value WrongKind
moved m w (Point o at) n = if has_elements m w o then Ok (Point o ((at + n) % 2 ^ 32)) else Err wrong.Bounds
moved m w (Forged k) n = Ok (Forged ((k + size_of w * n) % 2 ^ 32))
moved m w (Int k) n = Err wrong.Bounds
moved m w (Entry f) n = Err wrong.Bounds

-- What is done to one value.
abbrev pub of_prefix : IntPrefix → ℕ → ℕ
of_prefix int_prefix.Minus n = alu_of alu.Sub 0 n
of_prefix int_prefix.Not n = flag (n == 0)
of_prefix int_prefix.Complement n = alu_of alu.Xor n 4294967295

abbrev pub prefixed : Memory → Prefix → Value → Result Value WrongKind
prefixed m (before.Number op) v = do
  n ← number_in v
  Ok (Int (of_prefix op n))
prefixed m (before.Cast conversion.ToInt) v = Ok v
prefixed m (before.Cast conversion.ToChar) v = do
  n ← number_in v
  Ok (Int (n % 256))
prefixed m (before.Cast conversion.ToPointer) v = do
  n ← number_in v
  Ok (Forged n)
prefixed m before.Truth v = do
  n ← number_in v
  Ok (Int (flag (not (n == 0))))
prefixed m (before.Load w) v = load m w v

-- What is done to two values.
abbrev pub infixed : Memory → Infix → Value → Value → Result Value WrongKind
infixed m (between.Number op) a b = do
  x ← number_in a
  y ← number_in b
  Ok (Int (operated op x y))
infixed m (between.Advance w) a b = do
  n ← number_in b
  moved m w a n
infixed m (between.AdvanceBy w) a b = do
  n ← number_in a
  moved m w b n
infixed m (between.Retreat w) a b = do
  n ← number_in b
  moved m w a (alu_of alu.Sub 0 n)
infixed m (between.Load w) a b = do
  n ← number_in b
  p ← moved m w a n
  load m w p

-- The value of a variable, in a call with these cells. One of the file has 32 bits.
abbrev pub value_in : List Value → ℕ → Value
value_in cells i = get_or cells i (Int 0)

abbrev pub cell_value : Memory → List Value → Cell → Value
cell_value m cells (cell.Local i) = value_in cells i
cell_value m cells (cell.Global i) = Int (slice_index m.group.scalars i % 2 ^ 32)

-- A variable of the file gets a number.
abbrev pub group_with : Group → ℕ → ℕ → Group
group_with g i n = record { scalars = slice_set g.scalars i n; arrays = g.arrays; texts = g.texts }

-- An array of zeros.
abbrev pub new_object : Shape → Object
new_object s = object s.element (replicate (s.count * size_of s.element) 0)

-- An array that has ended has no bytes.
abbrev pub ended : Object → Object
ended o = object o.element []

-- So many objects from a place on have ended.
abbrev pub end_arrays : List Object → ℕ → ℕ → List Object
end_arrays os from zero = os
end_arrays os from (suc n) = end_arrays (slice_set os from (ended (object_in os from))) (from + 1) n
