-- Worked calls, computed by the definitions.
use Rattle.nx_ksys.specs.Telling.{reply, failure}
use Rattle.std.proofs.Common.{◌≡◌, ℕ, List, [], ◌∷◌, Some, None, refl, replicate}
use Rattle.std.specs.Prelude.{codes}
use Rattle.nx_base.specs.Calls.{Reply}
use Rattle.nx_base.specs.declared.calls.KCall.{KCall}
use Rattle.nx_base.specs.declared.calls.KCall.TheVariants as call
use Rattle.nx_base.specs.declared.errno.Errno.TheVariants as errno
use Rattle.nx_ksys.specs.State.{Limits, KernelState, free_blocks}
use Rattle.nx_ksys.specs.Boot.{booted}
use Rattle.nx_ksys.specs.Step.{step}
use Rattle.nx_base.specs.ByteLists.{to_le}
use Rattle.nx_ksys.specs.ThreadTable.{threads}
use Rattle.nx_ksys.specs.Ends.{first_lost, vanished, without_descriptors, left_alone, told_parent, end_group, exit_row}
use Rattle.nx_ksys.specs.Threads.{thread_of, slot_of, first_of, change_thread, wake, block, with_error}
use Rattle.nx_ksys.specs.Paths.{normal, node_at, resolved}
use Rattle.nx_ksys.specs.Descriptors.{opened, free_descriptor, swept, without_idle, released, closed}
use Rattle.nx_ksys.specs.FileCalls.{with_written, write_row, open_row, close_row}
use Rattle.nx_ksys.specs.TreeCalls.{unlink_row, mkdir_row, rename_row}
use Rattle.nx_ksys.specs.GroupCalls.{spawn_row, waitpid_row}

abbrev small : Limits
small = record { programs = codes "p" ∷ []; blocks = 16; objects = 16; console = 1024 }

-- a kernel of two threads
abbrev first : KernelState
first = booted small 1 [] []

-- calls of the shell, one after the other
abbrev after : KernelState → KCall → List ℕ → List (List ℕ) → KernelState
after k which words inputs = (step k 1 (Some which) words inputs).to

abbrev said : KernelState → KCall → List ℕ → List (List ℕ) → List Reply
said k which words inputs = (step k 1 (Some which) words inputs).replies

abbrev made : KernelState
made = after first call.Mkdir (0 ∷ 0 ∷ []) (codes "/tmp/a" ∷ [])

a_directory_is_made : said first call.Mkdir (0 ∷ 0 ∷ []) (codes "/tmp/a" ∷ []) ≡ reply 1 0 [] ∷ []
unfolding booted step thread_of mkdir_row resolved normal node_at
a_directory_is_made = refl

it_moves_not_below_itself : said made call.Rename (0 ∷ 0 ∷ []) (codes "/tmp/a" ∷ codes "/tmp/a/b" ∷ []) ≡ failure 1 errno.Einval ∷ []
unfolding booted step thread_of mkdir_row rename_row resolved normal node_at change_thread with_error
it_moves_not_below_itself = refl

nothing_is_made_among_devices : said first call.Open (0 ∷ 6 ∷ 0 ∷ []) (codes "/dev/x" ∷ []) ≡ failure 1 errno.Einval ∷ []
unfolding booted step thread_of open_row resolved normal node_at change_thread with_error
nothing_is_made_among_devices = refl

dots_drop_out : said first call.Open (0 ∷ 6 ∷ 0 ∷ []) (codes "/tmp/../tmp/./x" ∷ []) ≡ reply 1 3 [] ∷ []
unfolding booted step thread_of open_row resolved normal node_at change_thread with_error free_descriptor
dots_drop_out = refl

-- 16 blocks
abbrev open_x : KernelState
open_x = after first call.Open (0 ∷ 6 ∷ 0 ∷ []) (codes "/tmp/x" ∷ [])

abbrev full : KernelState
full = after open_x call.Write (3 ∷ 0 ∷ 1025 ∷ []) (replicate 1025 65 ∷ [])

a_write_is_cut_to_the_blocks : said open_x call.Write (3 ∷ 0 ∷ 1025 ∷ []) (replicate 1025 65 ∷ []) ≡ reply 1 1024 [] ∷ []
unfolding booted step thread_of open_row resolved normal node_at change_thread with_error free_descriptor write_row opened with_written
a_write_is_cut_to_the_blocks = refl

then_no_byte_fits : said full call.Write (3 ∷ 0 ∷ 1 ∷ []) ((65 ∷ []) ∷ []) ≡ failure 1 errno.Enospc ∷ []
unfolding booted step thread_of open_row resolved normal node_at change_thread with_error free_descriptor write_row opened with_written
then_no_byte_fits = refl

abbrev unlinked : KernelState
unlinked = after full call.Unlink (0 ∷ []) (codes "/tmp/x" ∷ [])

an_open_file_keeps_its_blocks : free_blocks unlinked ≡ 0
unfolding booted step thread_of open_row resolved normal node_at change_thread with_error free_descriptor write_row opened with_written unlink_row swept
an_open_file_keeps_its_blocks = refl

a_closed_one_gives_them_back : free_blocks (after unlinked call.Close (3 ∷ []) []) ≡ 16
unfolding booted step thread_of open_row resolved normal node_at change_thread with_error free_descriptor write_row opened with_written unlink_row swept close_row closed released
a_closed_one_gives_them_back = refl

a_program_starts : said first call.NxSpawn (0 ∷ 0 ∷ 0 ∷ []) (codes "/bin/p" ∷ [] ∷ []) ≡ reply 1 2 [] ∷ []
unfolding booted step thread_of spawn_row resolved normal node_at change_thread with_error
a_program_starts = refl

no_third_thread : said (after first call.NxSpawn (0 ∷ 0 ∷ 0 ∷ []) (codes "/bin/p" ∷ [] ∷ [])) call.NxSpawn (0 ∷ 0 ∷ 0 ∷ []) (codes "/bin/p" ∷ [] ∷ []) ≡ failure 1 errno.Eagain ∷ []
unfolding booted step thread_of spawn_row resolved normal node_at change_thread with_error
no_third_thread = refl

-- ---- what is seen of threads

abbrev with_child : KernelState
with_child = after first call.NxSpawn (0 ∷ 0 ∷ 0 ∷ []) (codes "/bin/p" ∷ [] ∷ [])

abbrev parent_waits : KernelState
parent_waits = after with_child call.Waitpid (2 ∷ 9 ∷ 0 ∷ []) []

the_shell_stands_ready : threads first 1 ≡ Some (record { group = 1; program = 1; slot = 0; waits = None })
unfolding booted threads thread_of slot_of
the_shell_stands_ready = refl

it_waits_without_its_pointer : threads parent_waits 1 ≡ Some (record { group = 1; program = 1; slot = 0; waits = Some (record { call = Some call.Waitpid; words = 2 ∷ 0 ∷ 0 ∷ [] }) })
unfolding booted step threads thread_of slot_of spawn_row waitpid_row resolved normal node_at change_thread block
it_waits_without_its_pointer = refl

its_child_ends_with_7 : (step parent_waits 2 (Some call.Exit) (7 ∷ []) []).replies ≡ reply 1 2 ((7 ∷ 0 ∷ 0 ∷ 0 ∷ []) ∷ []) ∷ []
unfolding booted step thread_of spawn_row waitpid_row exit_row end_group told_parent first_of first_lost vanished without_idle without_descriptors left_alone closed released swept resolved normal node_at change_thread block wake to_le
its_child_ends_with_7 = refl
