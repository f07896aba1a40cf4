-- The values and objects of C as those of slot code.
use Rattle.std.specs.Prelude.{ℕ, ◌+◌, Bool, true, false, List, ◌++◌, length, map}
use Rattle.nx_base.specs.ByteLists.{to_le}
use Rattle.nx_checked.specs.declared.checked.Element.{Element}
use Rattle.nx_checked.specs.declared.checked.Element.TheVariants as element
use Rattle.nx_cobjects.specs.declared.value.Name.{Name}
use Rattle.nx_cobjects.specs.declared.value.Name.TheVariants as name
use Rattle.nx_cobjects.specs.declared.value.Value.{Value}
use Rattle.nx_cobjects.specs.declared.value.Value.TheVariants as value
use Rattle.nx_cobjects.specs.Groups.{Object, Group}
use Rattle.nx_cobjects.specs.Memory.{Memory}
use Rattle.nx_slot.specs.declared.op.Width.{Width}
use Rattle.nx_slot.specs.declared.op.Width.TheVariants.{Byte, Word}
use Rattle.nx_slot.specs.Objects as slot

-- How many variables, arrays and texts a group has.
pub record Counts : Type 0 where
  pub scalars : ℕ
  pub arrays : ℕ
  pub texts : ℕ

abbrev pub counts_of : Group → Counts
counts_of g = record { scalars = length g.scalars; arrays = length g.arrays; texts = length g.texts }

-- Objects that are there from the start: variables, arrays, and then texts.
abbrev pub statics_in : Counts → ℕ
statics_in c = c.scalars + (c.arrays + c.texts)

abbrev pub name_of : Counts → Name → ℕ
name_of c (name.Array i) = c.scalars + i
name_of c (name.Text i) = c.scalars + (c.arrays + i)
name_of c (name.Own i) = statics_in c + i

abbrev pub shown : Counts → Value → slot.Value
shown c (value.Int n) = slot.Int n
shown c (value.Point o at) = slot.Pointer (name_of c o) at
shown c (value.Forged n) = slot.Forged n
shown c (value.Entry f) = slot.Entry f

abbrev pub width_of : Element → Width
width_of element.Int = Word
width_of element.Char = Byte

abbrev pub object_shown : Bool → Object → slot.Object
object_shown fixed o = record { bytes = o.bytes; width = width_of o.element; fixed = fixed }

-- A variable is an object of one word.
abbrev pub scalar_shown : ℕ → slot.Object
scalar_shown n = record { bytes = to_le 4 n; width = Word; fixed = false }

abbrev pub statics_of : Group → List slot.Object
statics_of g = map scalar_shown g.scalars ++ (map (object_shown false) g.arrays ++ map (object_shown true) g.texts)

abbrev pub objects_of : Memory → List slot.Object
objects_of m = statics_of m.group ++ map (object_shown false) m.own
