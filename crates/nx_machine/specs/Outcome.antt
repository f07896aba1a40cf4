-- What the machine answers, as the table has it.
use Rattle.nx_base.specs.declared.regs.Regs.{Regs}
use Rattle.nx_base.specs.Views.{View}
use Rattle.nx_rv.specs.Execution.{Turn, Goes, Calls, Traps, Halt, Call, Trap, Fuel}
use Rattle.nx_machine.specs.declared.exec.Step.{Step}
use Rattle.nx_machine.specs.declared.exec.Step.TheVariants as step
use Rattle.nx_machine.specs.declared.machine.Stop.{Stop}
use Rattle.nx_machine.specs.declared.machine.Stop.TheVariants as stop

-- the turn of a step that left these registers and this view
abbrev pub turn_of : Step → Regs → View → Turn
turn_of step.Goes r v = Goes r v
turn_of step.Calls r v = Calls r v
turn_of (step.Traps cause) r v = Traps cause r v

-- why a stretch ended
abbrev pub halt_of : Stop → Halt
halt_of stop.Call = Call
halt_of (stop.Trap cause) = Trap cause
halt_of stop.Fuel = Fuel
