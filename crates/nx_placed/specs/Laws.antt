-- The words of a placed program keep its slot code as a program of the system.
use Rattle.nx_keeps.specs.Keeps.{KeepsProgram}
use Rattle.nx_keeps.specs.Programs.{slot_program}
use Rattle.nx_placed.specs.Placing.{Placing, home_of_slots, IsPlaced}

abbrev pub WordsKeepSlotPrograms : Type 0
WordsKeepSlotPrograms = (d : Placing) → IsPlaced d → KeepsProgram (slot_program d.program.code d.main) (home_of_slots d) 1
