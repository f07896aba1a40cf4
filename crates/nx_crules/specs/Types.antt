-- Which types there are, and which may be given where one is wanted.
use Rattle.std.specs.Prelude.{Bool, true, false, if◌then◌else◌}
use Rattle.nx_checked.specs.declared.checked.Element.{Element}
use Rattle.nx_checked.specs.declared.checked.Element.TheVariants as element
use Rattle.nx_checked.specs.declared.checked.Scalar.{Scalar}
use Rattle.nx_checked.specs.declared.checked.Scalar.TheVariants as scalar
use Rattle.nx_crules.specs.declared.types.CType.{CType}
use Rattle.nx_crules.specs.declared.types.CType.TheVariants as type
use Rattle.nx_crules.specs.declared.types.Held.{Held}

-- The type of what a variable holds: a char is a number.
abbrev pub scalar_type : Scalar → Bool → CType
scalar_type scalar.Int constant = type.Int
scalar_type scalar.Char constant = type.Int
scalar_type (scalar.Pointer w) constant = type.Pointer w constant

abbrev pub type_of : Held → CType
type_of h = scalar_type h.scalar h.constant

-- A value of the second type may be given where the first is wanted: both are numbers, or pointers of one type; a
-- "char *" may stand where a "const char *" is wanted.
abbrev pub is_same : Element → Element → Bool
is_same element.Int element.Int = true
is_same element.Char element.Char = true
is_same _ _ = false

abbrev pub takes_pointer : Bool → Bool → Bool
takes_pointer true constant = true
takes_pointer false true = false
takes_pointer false false = true

abbrev pub takes : CType → CType → Bool
takes type.Int type.Int = true
takes (type.Pointer w c) (type.Pointer v d) = if is_same w v then takes_pointer c d else false
takes _ _ = false
