-- Where the bytes of a lowered file's objects stand.
use Rattle.std.specs.Prelude.{◌≡◌, ℕ, ◌+◌, ◌*◌, ◌<◌, List, length, map, sum, take, drop}
use Rattle.nx_checked.specs.declared.checked.Checked.{Checked}
use Rattle.nx_checked.specs.Frames.{array_bytes}
use Rattle.nx_cobjects.specs.Starts.{first_group}
use Rattle.nx_slot.specs.declared.op.Section.{Section}
use Rattle.nx_slot.specs.declared.op.Section.TheVariants.{Global, Literal as InLiterals}
use Rattle.nx_slot.specs.declared.op.StaticObject.{StaticObject}
use Rattle.nx_slot.specs.declared.program.SlotProgram.{SlotProgram}
use Rattle.nx_slot.specs.Objects.{Object, object_of}
use Rattle.nx_lower.specs.Shown.{statics_of}
use Rattle.nx_lower.specs.Code.{scalar_object, array_object, text_object}
use Rattle.nx_lowerexpr.specs.Sources.{source_of, shape_of}
use Rattle.nx_lowering.specs.Programs.{lowered_program}
use Rattle.nx_sound.specs.Laws.{HasBytes}

-- So many bytes from a place of the globals or of the literals on.
abbrev pub bytes_at : SlotProgram → Section → ℕ → List ℕ
bytes_at p (Global at) n = take n (drop at p.globals)
bytes_at p (InLiterals at) n = take n (drop at p.literals)

-- The objects that there are from the start.
abbrev pub first_objects : Checked → List Object
first_objects p = statics_of (first_group p)

-- An object of the program's code stands where the code says, with its first bytes.
pub record IsThere (p : Checked) (o : StaticObject) : Type 0 where
  pub known : o.name < length (first_objects p)
  pub bytes : bytes_at (lowered_program p) o.section (length (object_of (first_objects p) o.name).bytes) ≡ (object_of (first_objects p) o.name).bytes

pub record AreThere (p : Checked) : Type 0 where
  pub scalars : (i : ℕ) → i < length p.scalars → IsThere p (scalar_object (source_of p) i)
  pub arrays : (i : ℕ) → i < length p.arrays → IsThere p (array_object (source_of p) i)
  pub texts : (i : ℕ) → i < length p.literals → IsThere p (text_object (source_of p) i)
  pub globals : length (lowered_program p).globals ≡ 4 * length p.scalars + array_bytes (map shape_of p.arrays)
  pub literals : length (lowered_program p).literals ≡ sum (map length p.literals)

abbrev pub ObjectsAreThere : Type 0
ObjectsAreThere = (p : Checked) → HasBytes p → AreThere p
