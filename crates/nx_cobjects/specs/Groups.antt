-- The objects of a group.
use Rattle.std.specs.Prelude.{ℕ, List}
use Rattle.nx_checked.specs.declared.checked.Element.{Element}

-- Bytes, and what they are elements of. A number takes four bytes, the lowest first.
pub record Object : Type 0 where
  pub element : Element
  pub bytes : List ℕ

abbrev pub object : Element → List ℕ → Object
object w bytes = record { element = w; bytes = bytes }

-- The variables of the file that are no arrays, its arrays, and the texts of the program.
pub record Group : Type 0 where
  pub scalars : List ℕ
  pub arrays : List Object
  pub texts : List Object
