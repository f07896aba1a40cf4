-- Whole abstract runs, computed over the kernel.
use Rattle.std.proofs.Common.{◌≡◌, false, [], ◌∷◌, Option, Some, None, codes, refl}
use Rattle.std.specs.Fmt.{digits}
use Rattle.nx_base.specs.ByteLists.{from_le, to_le}
use Rattle.nx_ksys.specs.declared.pick.Pick.{Pick}
use Rattle.nx_ksys.specs.State.{Limits}
use Rattle.nx_ksys.specs.Threads.{first_of, thread_of, slot_of, change_thread, wake, block, with_error}
use Rattle.nx_ksys.specs.Paths.{normal, node_at, resolved}
use Rattle.nx_ksys.specs.Descriptors.{opened, free_descriptor, swept, without_idle, released, closed}
use Rattle.nx_ksys.specs.FileCalls.{with_written, write_row, read_row, open_row, close_row}
use Rattle.nx_ksys.specs.Ends.{first_lost, vanished, without_descriptors, left_alone, told_parent, end_group, exit_row}
use Rattle.nx_ksys.specs.GroupCalls.{spawn_row, waitpid_row}
use Rattle.nx_ksys.specs.Step.{step}
use Rattle.nx_ksys.specs.Picking.{picked, advanced}
use Rattle.nx_ksys.specs.ThreadTable.{Seen, seen, threads}
use Rattle.nx_ksys.specs.Boot.{booted}
use Rattle.nx_shrun.specs.Builtins.{all_builtins}
use Rattle.nx_shrun.specs.Texts.{spaced, lines, echo_text, program_path, command_not_found}
use Rattle.nx_shrun.specs.Numbers.{number}
use Rattle.nx_shrun.specs.Tests.{plain_test, test_of}
use Rattle.nx_shrun.specs.Table.{is_too_long, begun_with}
use Rattle.nx_shrun.specs.Systems.{System, told, responded}
use Rattle.nx_shrun.specs.AbstractRuns.{Ends, Programs, Threads, Abstract, Fine, Astray, at_number, turn, run_step, run, first_system, no_threads}
use Rattle.nx_shrun.proofs.Rows.{files_script, code_script}

-- programs that end at once with 300
abbrev ending : Programs (Unit {0}) (Unit {0}) (Unit {0})
ending = record {
  first = λ place. tt;
  main = λ place. tt;
  thread = λ place words. tt;
  step = λ place g t. Ends 300 tt;
  reply = λ place g t r. record { globals = tt; thread = tt };
  has_globals = λ place. false;
  is_raw = λ place. false;
  which = λ number. None;
  shared = tt;
  raw = tt;
}

abbrev limits : Limits
limits = record { programs = codes "p" ∷ []; blocks = 16; objects = 8; console = 4096 }

abbrev Run1 : Type 0
Run1 = System (Threads (Unit {0}) (Unit {0}))

abbrev first : Run1
first = first_system limits 2 [] [] no_threads

-- what is seen of a run, and what it would run next
abbrev seen_of : Abstract Run1 (Unit {0}) → Option Seen
seen_of (Fine s) = Some (seen s.kernel)
seen_of (Astray why pid) = None

abbrev next_of : Abstract Run1 (Unit {0}) → Option Pick
next_of (Fine s) = Some (picked s.kernel).pick
next_of (Astray why pid) = None

empty_run : seen_of (run ending [] 1 (Fine first)) ≡ Some (record { console = []; ended = record { pid = 1; name = 1; code = 0 } ∷ []; calls = 1 })
unfolding run run_step turn told responded picked advanced booted step thread_of first_of exit_row end_group vanished without_idle without_descriptors left_alone told_parent closed released swept
empty_run = refl

code_run : seen_of (run ending code_script 7 (Fine first)) ≡ Some (record { console = codes "44\n"; ended = record { pid = 2; name = 0; code = 44 } ∷ record { pid = 1; name = 1; code = 0 } ∷ []; calls = 7 })
unfolding run run_step turn told responded picked advanced booted step thread_of first_of slot_of threads exit_row end_group vanished without_idle without_descriptors left_alone told_parent first_lost closed released swept change_thread wake block with_error spawn_row waitpid_row resolved normal node_at write_row opened to_le from_le at_number digits all_builtins spaced lines echo_text program_path is_too_long begun_with
code_run = refl

files_run : seen_of (run ending files_script 23 (Fine first)) ≡ Some (record { console = codes "a\nb\nyes\nnsh: zz: command not found\n1\n"; ended = record { pid = 1; name = 1; code = 0 } ∷ []; calls = 23 })
unfolding run run_step turn told responded picked advanced booted step thread_of first_of exit_row end_group vanished without_idle without_descriptors left_alone told_parent closed released swept change_thread wake block with_error spawn_row resolved normal node_at open_row close_row read_row write_row with_written opened free_descriptor digits all_builtins spaced lines echo_text program_path command_not_found number plain_test test_of is_too_long begun_with
files_run = refl
