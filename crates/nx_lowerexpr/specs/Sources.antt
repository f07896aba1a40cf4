-- What the slot code of a checked program depends on.
use Rattle.std.specs.Prelude.{length, map}
use Rattle.nx_checked.specs.declared.checked.GlobalArray.{GlobalArray}
use Rattle.nx_checked.specs.declared.checked.Checked.{Checked}
use Rattle.nx_checked.specs.declared.checked.Shape.{Shape}
use Rattle.nx_checked.specs.Trees.{program_of}
use Rattle.nx_lower.specs.Code.{Source}

abbrev pub shape_of : GlobalArray → Shape
shape_of a = a.shape

abbrev pub source_of : Checked → Source
source_of p = record {
  program = program_of p;
  scalars = length p.scalars;
  arrays = map shape_of p.arrays;
  texts = map length p.literals;
}
