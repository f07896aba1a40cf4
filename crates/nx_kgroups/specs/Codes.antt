-- Codes of children and values of threads, as they were copied, and what `waitpid` refuses.
use Rattle.std.specs.Prelude.{ℕ, ◌==◌, ◌&&◌, ◌||◌, nat_lt, Bool, not}
use Rattle.nx_ksys.specs.Telling.{minus_one}
use Rattle.nx_ksys.specs.Answers.{is_negative}
use Rattle.nx_ksys.specs.State.{Code, ThreadValue}
use Rattle.nx_kgroups.specs.declared.children.ChildCode.{ChildCode}
use Rattle.nx_kgroups.specs.declared.joining.LeftValue.{LeftValue}

abbrev pub code_of : ChildCode → Code
code_of c = record { parent = c.parent; child = c.child; code = c.code }

abbrev pub value_of : LeftValue → ThreadValue
value_of v = record { group = v.group; thread = v.thread; value = v.value }

-- a child of which there is none ever, or an option that isn't 0 or 1
abbrev pub waits_wrongly : ℕ → ℕ → Bool
waits_wrongly pid option = pid == 0 || (is_negative pid && not (pid == minus_one)) || nat_lt 1 option
