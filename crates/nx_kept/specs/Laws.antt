-- Words keep slot code.
use Rattle.nx_base.specs.declared.regs.Regs.{Regs}
use Rattle.nx_base.specs.Views.{View}
use Rattle.nx_slot.specs.Objects.{Object}
use Rattle.nx_slot.specs.Meaning.{SlotFrame, step_of}
use Rattle.std.specs.Prelude.{List, ◌∷◌}
use Rattle.nx_linked.specs.Linked.{Program, IsLinked}
use Rattle.nx_linked.specs.Standing.{IsActive}
use Rattle.nx_linked.specs.Doing.{Does}
use Rattle.nx_kept.specs.Keeps.{KeepsProgram}

abbrev pub StepsAreDone : Type 0
StepsAreDone = (c : Program) (os : List Object) (f : SlotFrame) (fs : List SlotFrame) (r : Regs) (v : View) → IsLinked c → IsActive c os f fs r v → Does c r v (step_of c.code os (f ∷ fs))

abbrev pub WordsKeepSlotCode : Type 0
WordsKeepSlotCode = (c : Program) → IsLinked c → KeepsProgram c
