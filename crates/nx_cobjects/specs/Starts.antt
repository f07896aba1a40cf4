-- The objects of a new group.
use Rattle.std.specs.Prelude.{map}
use Rattle.nx_checked.specs.declared.checked.Element.TheVariants as element
use Rattle.nx_checked.specs.declared.checked.GlobalArray.{GlobalArray}
use Rattle.nx_checked.specs.declared.checked.Checked.{Checked}
use Rattle.nx_cobjects.specs.Groups.{Object, Group, object}

abbrev pub array_of : GlobalArray → Object
array_of a = object a.shape.element a.bytes

-- Each variable of the file has its first value, and each text is an object of its own.
abbrev pub first_group : Checked → Group
first_group p = record {
  scalars = map (λ x. x.value) p.scalars;
  arrays = map array_of p.arrays;
  texts = map (object element.Char) p.literals;
}
