-- The other rows keep what bounds the paths, and so does each call, and each choice.
use Rattle.nx_ksys.specs.Telling.{minus_one}
use Rattle.std.proofs.Common.{ℕ, ◌%◌, ◌==◌, ◌&&◌, ◌||◌, Bool, true, false, List, [], Option, Some, None, Ok, Err, refl, arith}
use Rattle.std.specs.Prelude.{if◌then◌else◌, not, nat_lt, nat_le, Result, slice_get}
use Rattle.std.specs.List.{find}
use Rattle.nx_base.specs.declared.errno.Errno.{Errno}
use Rattle.nx_base.specs.declared.errno.Errno.TheVariants as errno
use Rattle.nx_base.specs.declared.calls.KCall.{KCall}
use Rattle.nx_base.specs.declared.calls.KCall.TheVariants as call
use Rattle.nx_ksys.specs.declared.node.Node.{Node}
use Rattle.nx_ksys.specs.declared.node.NodeKind.{NodeKind}
use Rattle.nx_ksys.specs.declared.node.NodeKind.TheVariants as node
use Rattle.nx_ksys.specs.declared.thread.Thread.{Thread}
use Rattle.nx_ksys.specs.declared.thread.Wait.{Wait}
use Rattle.nx_ksys.specs.declared.thread.Wait.TheVariants as wait
use Rattle.nx_ksys.specs.declared.thread.Search.TheVariants as search
use Rattle.nx_ksys.specs.Threads.{flat, first_of, free_slot, thread_of}
use Rattle.nx_ksys.specs.State.{Group, Code, ThreadValue, KernelState, is_directory, objects}
use Rattle.nx_ksys.specs.Paths.{resolved, node_at, parent_of, is_closed, is_in, has_children, nth_name, shown}
use Rattle.nx_ksys.specs.Answers.{Caller, place_of, is_negative, word_at, input_at}
use Rattle.nx_ksys.specs.TreeCalls.{unlink_kind, unlink_node, unlink_path, unlink_row, mkdir_node, mkdir_path, mkdir_row, rmdir_node, rmdir_path, rmdir_row, may_move, is_too_long, is_taken, rename_to, rename_second, rename_node, rename_path, rename_row, resolve, chdir_node, chdir_path, chdir_row, getcwd_row, listed_name, list_name, readdir_node, readdir_path, readdir_row, kind_node, kind_path, kind_row}
use Rattle.nx_ksys.specs.Ends.{WithReplies, has_child, has_any_child, is_code, is_any_code, and_lost, vanished, without_descriptors, left_alone, hand_over, told_parent, end_of, end_group, exit_row, gone, hand_value, thread_exit_row}
use Rattle.nx_ksys.specs.GroupCalls.{is_ended, spawn_priority, most_numbers, spawn_at, spawn_kind, spawn_node, spawn_path, spawn_row, wait_for, wait_child, waitpid_row, arg_out, arg_row, nth_group, status_of, ps_out, ps_row}
use Rattle.nx_ksys.specs.ThreadCalls.{set_priority, setpriority_row, yield_row, thread_at, thread_row, is_value, may_join, join_live, join_value, join_row, errno_row}
use Rattle.nx_ksys.specs.Step.{row_of, asked, counted, meant_call, called_in, called_by, called, step}
use Rattle.std.specs.List.{list_any}
use Rattle.std.specs.Option.{is_some}
use Rattle.nx_ksys.specs.declared.pick.Pick.TheVariants.{Ended}
use Rattle.nx_ksys.specs.Picking.{Picked, passed, passed_if, advanced, picked_after, picked}
use Rattle.nx_ksys.specs.Boot.{booted, first_entries}
use Rattle.nx_ksys.specs.Bounds.{file_place, queue_place, BootIsBounded, CallsStayBounded, ChoicesStayBounded}
use Rattle.nx_ksys.proofs.BoundLemmas.{swept_bounded, but_bounded, renamed_bounded, made_bounded, unled, lasting_few}
use Rattle.nx_ksys.proofs.EnvironmentBounds.{sleep_bounds, ticks_bounds, getenv_bounds, setenv_bounds, unsetenv_bounds, env_bounds}
use Rattle.nx_ksys.proofs.QueueBounds.{sem_open_bounds, sem_wait_bounds, sem_trywait_bounds, sem_post_bounds, sem_close_bounds, mq_open_bounds, mq_close_bounds, mq_unlink_bounds, mq_send_bounds, mq_receive_bounds, mq_timedreceive_bounds}
use Rattle.nx_ksys.proofs.Bounding.{Bounds, Keeps, bounds_same, either, fails, texts, idle_keeps, all_closed_keeps, write_bounds, read_bounds, open_bounds, close_bounds, lseek_bounds, dup_bounds, dup2_bounds}

-- ---- paths

unlink_bounds : (k : KernelState) (c : Caller) (text : List ℕ) → Bounds k (unlink_row k c text)
unfolding unlink_row
unlink_bounds k c text = by_path (resolve k c text)
  where
    by_kind : (path : List ℕ) (n : NodeKind) → Bounds k (unlink_kind k c path n)
    by_kind path node.Directory = fails k c errno.Eisdir
    by_kind path (node.File place) = bounds_same k _ (record { kept = λ first h. swept_bounded first _ k.queues k.opens place (but_bounded first k.tree k.queues path h) })
    by_kind path node.Console = fails k c errno.Einval
    by_kind path node.Null = fails k c errno.Einval
    by_kind path (node.Program place) = fails k c errno.Einval
    by_kind path (node.Queue place) = fails k c errno.Einval

    by_node : (path : List ℕ) (n : Option Node) → Bounds k (unlink_node k c path n)
    by_node path None = fails k c errno.Enoent
    by_node path (Some n) = by_kind path n.kind

    by_path : (r : Result (List ℕ) Errno) → Bounds k (unlink_path k c r)
    by_path (Err e) = fails k c e
    by_path (Ok path) = by_node path (node_at k.tree.entries path)

mkdir_bounds : (k : KernelState) (c : Caller) (text : List ℕ) → Bounds k (mkdir_row k c text)
unfolding mkdir_row
mkdir_bounds k c text = by_path (resolve k c text)
  where
    by_node : (path : List ℕ) (n : Option Node) → Bounds k (mkdir_node k c path n)
    by_node path (Some n) = fails k c errno.Eexist
    by_node path None =
        either k (is_closed (parent_of path)) _ _ (fails k c errno.Einval) (either k (nat_le k.limits.objects (objects k)) _ _ (fails k c errno.Enospc) (bounds_same k _ (record { kept = λ first h. made_bounded first k.tree k.queues path h })))

    by_path : (r : Result (List ℕ) Errno) → Bounds k (mkdir_path k c r)
    by_path (Err e) = fails k c e
    by_path (Ok path) = by_node path (node_at k.tree.entries path)

rmdir_bounds : (k : KernelState) (c : Caller) (text : List ℕ) → Bounds k (rmdir_row k c text)
unfolding rmdir_row
rmdir_bounds k c text = by_path (resolve k c text)
  where
    by_node : (path : List ℕ) (n : Option Node) → Bounds k (rmdir_node k c path n)
    by_node path None = fails k c errno.Enoent
    by_node path (Some n) =
        either k (not (is_directory n.kind)) _ _ (fails k c errno.Enotdir) (either k n.fixed _ _ (fails k c errno.Einval)
        (either k (has_children path k.tree.entries) _ _ (fails k c errno.Enotempty) (bounds_same k _ (record { kept = λ first h. but_bounded first k.tree k.queues path h }))))

    by_path : (r : Result (List ℕ) Errno) → Bounds k (rmdir_path k c r)
    by_path (Err e) = fails k c e
    by_path (Ok path) = by_node path (node_at k.tree.entries path)

rename_bounds : (k : KernelState) (c : Caller) (first second : List ℕ) → Bounds k (rename_row k c first second)
unfolding rename_row
rename_bounds k c first second = by_path (resolve k c first)
  where
    to : (one two : List ℕ) → Bounds k (rename_to k c one two)
    to one two =
        either k (is_taken two k.tree.entries) _ _ (fails k c errno.Eexist)
        (either k (is_closed (parent_of two) || is_in one two || is_too_long one two k.tree.entries) _ _ (fails k c errno.Einval) (bounds_same k _ (record { kept = λ first h. renamed_bounded first k.tree k.queues one two h })))

    by_second : (one : List ℕ) (r : Result (List ℕ) Errno) → Bounds k (rename_second k c one r)
    by_second one (Err e) = fails k c e
    by_second one (Ok two) = to one two

    by_node : (one : List ℕ) (n : Option Node) → Bounds k (rename_node k c one second n)
    by_node one None = fails k c errno.Enoent
    by_node one (Some n) = either k (may_move n) _ _ (by_second one (resolve k c second)) (fails k c errno.Einval)

    by_path : (r : Result (List ℕ) Errno) → Bounds k (rename_path k c second r)
    by_path (Err e) = fails k c e
    by_path (Ok one) = by_node one (node_at k.tree.entries one)

chdir_bounds : (k : KernelState) (c : Caller) (text : List ℕ) → Bounds k (chdir_row k c text)
unfolding chdir_row
chdir_bounds k c text = by_path (resolve k c text)
  where
    by_node : (path : List ℕ) (n : Option Node) → Bounds k (chdir_node k c path n)
    by_node path None = fails k c errno.Enoent
    by_node path (Some n) = either k (is_directory n.kind) _ _ (bounds_same k _ (record { kept = λ first h. h })) (fails k c errno.Enotdir)

    by_path : (r : Result (List ℕ) Errno) → Bounds k (chdir_path k c r)
    by_path (Err e) = fails k c e
    by_path (Ok path) = by_node path (node_at k.tree.entries path)

getcwd_bounds : (k : KernelState) (c : Caller) (size : ℕ) → Bounds k (getcwd_row k c size)
unfolding getcwd_row
getcwd_bounds k c size = texts k c size (shown c.group.directory)

readdir_bounds : (k : KernelState) (c : Caller) (text : List ℕ) (index size : ℕ) → Bounds k (readdir_row k c text index size)
unfolding readdir_row
readdir_bounds k c text index size = by_path (resolve k c text)
  where
    by_name : (e : Option (List ℕ × Node)) → Bounds k (list_name k c size e)
    by_name None = bounds_same k _ (record { kept = λ first h. h })
    by_name (Some e) = texts k c size (listed_name e.0 e.1)

    by_node : (path : List ℕ) (n : Option Node) → Bounds k (readdir_node k c path index size n)
    by_node path None = fails k c errno.Enoent
    by_node path (Some n) =
        either k (not (is_directory n.kind)) _ _ (fails k c errno.Enotdir) (either k (is_negative index) _ _ (fails k c errno.Einval) (by_name (nth_name path index k.tree.entries)))

    by_path : (r : Result (List ℕ) Errno) → Bounds k (readdir_path k c index size r)
    by_path (Err e) = fails k c e
    by_path (Ok path) = by_node path (node_at k.tree.entries path)

kind_bounds : (k : KernelState) (c : Caller) (text : List ℕ) → Bounds k (kind_row k c text)
unfolding kind_row
kind_bounds k c text = by_path (resolve k c text)
  where
    by_node : (n : Option Node) → Bounds k (kind_node k c n)
    by_node None = fails k c errno.Enoent
    by_node (Some n) = bounds_same k _ (record { kept = λ first h. h })

    by_path : (r : Result (List ℕ) Errno) → Bounds k (kind_path k c r)
    by_path (Err e) = fails k c e
    by_path (Ok path) = by_node (node_at k.tree.entries path)

-- ---- ends

parent_keeps : (code : Code) (k : KernelState) → Keeps k (told_parent code k).to
unfolding told_parent
parent_keeps code k = by_parent (code.parent == 0) (first_of (search.Parent code.parent code.child) k.sched.threads)
  where
    handed : (t : Option Thread) → Keeps k (hand_over k code t).to
    handed None = record { kept = λ first h. h }
    handed (Some t) = record { kept = λ first h. h }

    by_parent : (b : Bool) (t : Option Thread) → Keeps k (let told : WithReplies = if b then record { to = k; replies = [] } else and_lost code.parent (hand_over k code t) in told).to
    by_parent true t = record { kept = λ first h. h }
    by_parent false t = let h = handed t in record { kept = h.kept }

vanished_keeps : (group : ℕ) (k : KernelState) → Keeps k (vanished group k)
unfolding vanished
vanished_keeps group k = record { kept = (idle_keeps _).kept }

pub end_keeps : (k : KernelState) (place code : ℕ) → Keeps k (end_group k place code).to
unfolding end_group without_descriptors left_alone
end_keeps k place code = by_group (flat (slice_get k.groups place))
  where
    by_group : (g : Option Group) → Keeps k (end_of k place code g).to
    by_group None = record { kept = λ first h. h }
    by_group (Some g) =
        let v = vanished_keeps g.number k in
        let d = all_closed_keeps 32 0 place (vanished g.number k) in
        let p = parent_keeps (record { parent = g.parent; child = g.number; code = code }) _ in
        record { kept = λ first h. p.kept first (d.kept first (v.kept first h)) }

exit_bounds : (k : KernelState) (c : Caller) (value : ℕ) → Bounds k (exit_row k c value)
unfolding exit_row
exit_bounds k c value = bounds_same k _ (let s = end_keeps k c.place (value % 256) in record { kept = s.kept })

thread_exit_bounds : (k : KernelState) (c : Caller) (value : ℕ) → Bounds k (thread_exit_row k c value)
unfolding thread_exit_row
thread_exit_bounds k c value = either k (c.thread.number == c.group.number) _ _ (exit_bounds k c value) (bounds_same k _ (by_joiner _ _))
  where
    by_joiner : (v : ThreadValue) (t : Option Thread) → Keeps k (hand_value (gone k c.thread.number) v t).to
    by_joiner v None = record { kept = λ first h. h }
    by_joiner v (Some t) = record { kept = λ first h. h }

-- ---- groups

spawn_bounds : (k : KernelState) (c : Caller) (path text : List ℕ) (word : ℕ) → Bounds k (spawn_row k c path text word)
unfolding spawn_row
spawn_bounds k c path text word = either k (not (is_ended text) || nat_lt 255 word) _ _ (fails k c errno.Einval) (by_path (spawn_priority word) (resolved k.tree.entries c.group.directory path))
  where
    by_slot : (program priority : ℕ) (arguments : List (List ℕ)) (slot : Option ℕ) → Bounds k (spawn_at k c program priority arguments slot)
    by_slot program priority arguments None = fails k c errno.Eagain
    by_slot program priority arguments (Some slot) = either k (nat_le most_numbers k.numbers) _ _ (fails k c errno.Eagain) (bounds_same k _ (record { kept = λ first h. h }))

    by_kind : (at : List ℕ) (priority : ℕ) (n : NodeKind) → Bounds k (spawn_kind k c at text priority n)
    by_kind at priority node.Directory = fails k c errno.Einval
    by_kind at priority (node.File place) = fails k c errno.Einval
    by_kind at priority node.Console = fails k c errno.Einval
    by_kind at priority node.Null = fails k c errno.Einval
    by_kind at priority (node.Program program) = by_slot program priority _ (free_slot k.sched.threads)
    by_kind at priority (node.Queue place) = fails k c errno.Einval

    by_node : (at : List ℕ) (priority : ℕ) (n : Option Node) → Bounds k (spawn_node k c at text priority n)
    by_node at priority None = fails k c errno.Enoent
    by_node at priority (Some n) = by_kind at priority n.kind

    by_path : (priority : ℕ) (r : Result (List ℕ) Errno) → Bounds k (spawn_path k c text priority r)
    by_path priority (Err e) = fails k c e
    by_path priority (Ok at) = by_node at priority (node_at k.tree.entries at)

waitpid_bounds : (k : KernelState) (c : Caller) (pid option : ℕ) → Bounds k (waitpid_row k c pid option)
unfolding waitpid_row
waitpid_bounds k c pid option =
    either k (pid == 0 || (is_negative pid && not (pid == minus_one)) || nat_lt 1 option) _ _ (fails k c errno.Einval)
    (either k (pid == minus_one) _ _ (by_code wait.AnyChild (has_any_child k.groups k.codes c.group.number) (find (is_any_code c.group.number) k.codes))
    (by_code (wait.Child pid) (has_child k.groups k.codes c.group.number pid) (find (is_code c.group.number pid) k.codes)))
  where
    waiting : (for : Wait) → Bounds k (wait_for k c for option)
    waiting for = either k (option == 1) _ _ (bounds_same k _ (record { kept = λ first h. h })) (bounds_same k _ (record { kept = λ first h. h }))

    by_code : (for : Wait) (there : Bool) (code : Option Code) → Bounds k (wait_child k c for option there code)
    by_code for there (Some code) = bounds_same k _ (record { kept = λ first h. h })
    by_code for true None = waiting for
    by_code for false None = fails k c errno.Echild

arg_bounds : (k : KernelState) (c : Caller) (index size : ℕ) → Bounds k (arg_row k c index size)
unfolding arg_row
arg_bounds k c index size = by_argument (slice_get c.group.arguments index)
  where
    by_argument : (a : Option (List ℕ)) → Bounds k (arg_out k c size a)
    by_argument None = fails k c errno.Einval
    by_argument (Some a) = texts k c size a

ps_bounds : (k : KernelState) (c : Caller) (index size : ℕ) → Bounds k (ps_row k c index size)
unfolding ps_row
ps_bounds k c index size = either k (is_negative index) _ _ (fails k c errno.Einval) (by_group (nth_group k.groups index))
  where
    by_group : (g : Option Group) → Bounds k (ps_out k c size g)
    by_group None = bounds_same k _ (record { kept = λ first h. h })
    by_group (Some g) = texts k c size (status_of k g)

-- ---- threads

priority_bounds : (k : KernelState) (c : Caller) (thread priority : ℕ) → Bounds k (setpriority_row k c thread priority)
unfolding setpriority_row
priority_bounds k c thread priority = by_thread (thread_of k.sched.threads (if thread == 0 then c.thread.number else thread))
  where
    by_thread : (t : Option Thread) → Bounds k (set_priority k c priority t)
    by_thread None = fails k c errno.Einval
    by_thread (Some t) =
        either k (not (t.group == c.group.number) || priority == 0 || nat_lt 255 priority) _ _ (fails k c errno.Einval) (bounds_same k _ (record { kept = λ first h. h }))

yield_bounds : (k : KernelState) (c : Caller) → Bounds k (yield_row k c)
unfolding yield_row
yield_bounds k c = bounds_same k _ (record { kept = λ first h. h })

thread_bounds : (k : KernelState) (c : Caller) → Bounds k (thread_row k c)
unfolding thread_row
thread_bounds k c = by_slot (free_slot k.sched.threads)
  where
    by_slot : (slot : Option ℕ) → Bounds k (thread_at k c slot)
    by_slot None = fails k c errno.Eagain
    by_slot (Some slot) = either k (nat_le most_numbers k.numbers) _ _ (fails k c errno.Eagain) (bounds_same k _ (record { kept = λ first h. h }))

join_bounds : (k : KernelState) (c : Caller) (thread : ℕ) → Bounds k (join_row k c thread)
unfolding join_row
join_bounds k c thread = by_value (find (is_value c.group.number thread) k.values)
  where
    by_thread : (t : Option Thread) → Bounds k (join_live k c t)
    by_thread None = fails k c errno.Einval
    by_thread (Some t) = either k (may_join k c t) _ _ (bounds_same k _ (record { kept = λ first h. h })) (fails k c errno.Einval)

    by_value : (v : Option ThreadValue) → Bounds k (join_value k c thread v)
    by_value None = by_thread (thread_of k.sched.threads thread)
    by_value (Some v) = bounds_same k _ (record { kept = λ first h. h })

errno_bounds : (k : KernelState) (c : Caller) → Bounds k (errno_row k c)
unfolding errno_row
errno_bounds k c = bounds_same k _ (record { kept = λ first h. h })

-- ---- each call

row_bounds : (which : KCall) (k : KernelState) (c : Caller) (words : List ℕ) (inputs : List (List ℕ)) → Bounds k (row_of which k c words inputs)
row_bounds call.Write k c words inputs = write_bounds k c (word_at words 0) (input_at inputs 0)
row_bounds call.Read k c words inputs = read_bounds k c (word_at words 0) (word_at words 2)
row_bounds call.Open k c words inputs = open_bounds k c (input_at inputs 0) (word_at words 1)
row_bounds call.Close k c words inputs = close_bounds k c (word_at words 0)
row_bounds call.Lseek k c words inputs = lseek_bounds k c (word_at words 0) (word_at words 1) (word_at words 2)
row_bounds call.Dup k c words inputs = dup_bounds k c (word_at words 0)
row_bounds call.Dup2 k c words inputs = dup2_bounds k c (word_at words 0) (word_at words 1)
row_bounds call.Unlink k c words inputs = unlink_bounds k c (input_at inputs 0)
row_bounds call.Mkdir k c words inputs = mkdir_bounds k c (input_at inputs 0)
row_bounds call.Rmdir k c words inputs = rmdir_bounds k c (input_at inputs 0)
row_bounds call.Rename k c words inputs = rename_bounds k c (input_at inputs 0) (input_at inputs 1)
row_bounds call.Chdir k c words inputs = chdir_bounds k c (input_at inputs 0)
row_bounds call.NxGetcwd k c words inputs = getcwd_bounds k c (word_at words 1)
row_bounds call.NxReaddir k c words inputs = readdir_bounds k c (input_at inputs 0) (word_at words 1) (word_at words 3)
row_bounds call.NxKind k c words inputs = kind_bounds k c (input_at inputs 0)
row_bounds call.NxSpawn k c words inputs = spawn_bounds k c (input_at inputs 0) (input_at inputs 1) (word_at words 2)
row_bounds call.Exit k c words inputs = exit_bounds k c (word_at words 0)
row_bounds call.Getpid k c words inputs = bounds_same k _ (record { kept = λ first h. h })
row_bounds call.Waitpid k c words inputs = waitpid_bounds k c (word_at words 0) (word_at words 2)
row_bounds call.NxArgc k c words inputs = bounds_same k _ (record { kept = λ first h. h })
row_bounds call.NxArg k c words inputs = arg_bounds k c (word_at words 0) (word_at words 2)
row_bounds call.NxSetpriority k c words inputs = priority_bounds k c (word_at words 0) (word_at words 1)
row_bounds call.SchedYield k c words inputs = yield_bounds k c
row_bounds call.NxPs k c words inputs = ps_bounds k c (word_at words 0) (word_at words 2)
row_bounds call.NxThread k c words inputs = thread_bounds k c
row_bounds call.NxThreadExit k c words inputs = thread_exit_bounds k c (word_at words 0)
row_bounds call.NxJoin k c words inputs = join_bounds k c (word_at words 0)
row_bounds call.GetErrno k c words inputs = errno_bounds k c
row_bounds call.NxMqOpen k c words inputs = mq_open_bounds k c (input_at inputs 0) (word_at words 1) (word_at words 2) (word_at words 3)
row_bounds call.MqClose k c words inputs = mq_close_bounds k c (word_at words 0)
row_bounds call.MqUnlink k c words inputs = mq_unlink_bounds k c (input_at inputs 0)
row_bounds call.MqSend k c words inputs = mq_send_bounds k c (word_at words 0) (input_at inputs 0) (word_at words 2) (word_at words 3)
row_bounds call.MqReceive k c words inputs = mq_receive_bounds k c (word_at words 0) (word_at words 2)
row_bounds call.NxMqTimedreceive k c words inputs = mq_timedreceive_bounds k c (word_at words 0) (word_at words 2) (word_at words 4)
row_bounds call.NxSemOpen k c words inputs = sem_open_bounds k c (input_at inputs 0) (word_at words 1) (word_at words 2)
row_bounds call.NxSemWait k c words inputs = sem_wait_bounds k c (word_at words 0)
row_bounds call.NxSemTrywait k c words inputs = sem_trywait_bounds k c (word_at words 0)
row_bounds call.NxSemPost k c words inputs = sem_post_bounds k c (word_at words 0)
row_bounds call.NxSemClose k c words inputs = sem_close_bounds k c (word_at words 0)
row_bounds call.NxSleep k c words inputs = sleep_bounds k c (word_at words 0)
row_bounds call.NxTicks k c words inputs = ticks_bounds k c
row_bounds call.NxGetenv k c words inputs = getenv_bounds k c (input_at inputs 0) (word_at words 2)
row_bounds call.Setenv k c words inputs = setenv_bounds k c (input_at inputs 0) (input_at inputs 1) (word_at words 2)
row_bounds call.Unsetenv k c words inputs = unsetenv_bounds k c (input_at inputs 0)
row_bounds call.NxEnv k c words inputs = env_bounds k c (word_at words 0) (word_at words 2)

pub step_bounds : (k : KernelState) (thread : ℕ) (which : Option KCall) (words : List ℕ) (inputs : List (List ℕ)) → Bounds (counted k) (step k thread which words inputs)
unfolding step
step_bounds k thread which words inputs = by_thread (thread_of k.sched.threads thread)
  where
    by_call : (w : Option KCall) (c : Caller) → Bounds (counted k) (asked w (counted k) c words inputs)
    by_call None c = fails (counted k) c errno.Enosys
    by_call (Some w) c = row_bounds w (counted k) c words inputs

    by_group : (t : Thread) (place : ℕ) (g : Option Group) → Bounds (counted k) (called_in (counted k) t which words inputs place g)
    by_group t place None = bounds_same (counted k) _ (record { kept = λ first h. h })
    by_group t place (Some g) = by_call which (record { thread = t; place = place; group = g; asked = meant_call which words })

    by_place : (t : Thread) (place : Option ℕ) → Bounds (counted k) (called_by (counted k) t which words inputs place)
    by_place t None = bounds_same (counted k) _ (record { kept = λ first h. h })
    by_place t (Some place) = by_group t place (flat (slice_get k.groups place))

    by_thread : (t : Option Thread) → Bounds (counted k) (called (counted k) t which words inputs)
    by_thread None = bounds_same (counted k) _ (record { kept = λ first h. h })
    by_thread (Some t) = by_place t (place_of k.groups t.group)

pub calls_stay_bounded : CallsStayBounded
calls_stay_bounded first k thread which words inputs h = (step_bounds k thread which words inputs).kept first h

-- ---- choices, and boot

advanced_keeps : (k : KernelState) → Keeps k (advanced k).to
unfolding advanced
advanced_keeps k = by_ready (first_of search.Ready k.sched.threads)
  where
    by_timed : (t : Option Thread) → Keeps k (passed k t).to
    by_timed None = record { kept = λ first h. h }
    by_timed (Some t) = record { kept = (idle_keeps _).kept }

    by_ready : (t : Option Thread) → Keeps k (passed_if k t).to
    by_ready (Some t) = record { kept = λ first h. h }
    by_ready None = by_timed (first_of search.Timed k.sched.threads)

picked_keeps : (k : KernelState) → Keeps k (picked k).to
unfolding picked
picked_keeps k = by_test (list_any is_some k.groups)
  where
    by_test : (b : Bool) → Keeps k (let p : Picked = if b then picked_after (advanced k) else record { to = k; replies = []; pick = Ended } in p).to
    by_test true = advanced_keeps k
    by_test false = record { kept = λ first h. h }

pub choices_stay_bounded : ChoicesStayBounded
choices_stay_bounded first k h = (picked_keeps k).kept first h

pub boot_is_bounded : BootIsBounded
unfolding booted
boot_is_bounded limits others input late = record {
  few = lasting_few (first_entries limits.programs);
  file = λ p. (let r = unled file_place p 0 limits.programs (λ n. refl) in omega (arith, r));
  queue = λ p. (let r = unled queue_place p 0 limits.programs (λ n. refl) in omega (arith, r));
}
