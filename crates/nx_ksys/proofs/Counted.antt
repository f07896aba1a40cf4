-- The other rows count one and leave the console, and so does each call.
use Rattle.nx_ksys.specs.Telling.{minus_one}
use Rattle.std.proofs.Common.{ℕ, ◌%◌, ◌==◌, ◌&&◌, ◌||◌, Bool, true, false, List, [], Option, Some, None, Ok, Err, refl, ◌∙◌}
use Rattle.std.specs.Prelude.{if◌then◌else◌, not, nat_lt, nat_le, Result, slice_get}
use Rattle.std.specs.List.{find}
use Rattle.nx_base.specs.declared.errno.Errno.{Errno}
use Rattle.nx_base.specs.declared.errno.Errno.TheVariants as errno
use Rattle.nx_base.specs.declared.calls.KCall.{KCall}
use Rattle.nx_base.specs.declared.calls.KCall.TheVariants as call
use Rattle.nx_ksys.specs.declared.node.Node.{Node}
use Rattle.nx_ksys.specs.declared.node.NodeKind.{NodeKind}
use Rattle.nx_ksys.specs.declared.node.NodeKind.TheVariants as node
use Rattle.nx_ksys.specs.declared.thread.Thread.{Thread}
use Rattle.nx_ksys.specs.declared.thread.Wait.{Wait}
use Rattle.nx_ksys.specs.declared.thread.Wait.TheVariants as wait
use Rattle.nx_ksys.specs.declared.thread.Search.TheVariants as search
use Rattle.nx_ksys.specs.Threads.{flat, first_of, free_slot, thread_of}
use Rattle.nx_ksys.specs.State.{Group, Code, ThreadValue, KernelState, is_directory, objects}
use Rattle.nx_ksys.specs.Paths.{resolved, node_at, parent_of, is_closed, is_in, has_children, nth_name, shown}
use Rattle.nx_ksys.specs.Answers.{Caller, place_of, is_negative, word_at, input_at}
use Rattle.nx_ksys.specs.TreeCalls.{unlink_kind, unlink_node, unlink_path, unlink_row, mkdir_node, mkdir_path, mkdir_row, rmdir_node, rmdir_path, rmdir_row, may_move, is_too_long, is_taken, rename_to, rename_second, rename_node, rename_path, rename_row, resolve, chdir_node, chdir_path, chdir_row, getcwd_row, listed_name, list_name, readdir_node, readdir_path, readdir_row, kind_node, kind_path, kind_row}
use Rattle.nx_ksys.specs.Descriptors.{without_idle}
use Rattle.nx_ksys.specs.Ends.{WithReplies, has_child, has_any_child, is_code, is_any_code, and_lost, vanished, without_descriptors, left_alone, hand_over, told_parent, end_of, end_group, exit_row, gone, hand_value, thread_exit_row}
use Rattle.nx_ksys.specs.GroupCalls.{is_ended, spawn_priority, most_numbers, spawn_at, spawn_kind, spawn_node, spawn_path, spawn_row, wait_for, wait_child, waitpid_row, arg_out, arg_row, nth_group, status_of, ps_out, ps_row}
use Rattle.nx_ksys.specs.ThreadCalls.{set_priority, setpriority_row, yield_row, thread_at, thread_row, is_value, may_join, join_live, join_value, join_row, errno_row}
use Rattle.nx_ksys.specs.Step.{row_of, asked, counted, meant_call, called_in, called_by, called, step}
use Rattle.nx_ksys.proofs.EnvironmentCounts.{sleep_counts, ticks_counts, getenv_counts, setenv_counts, unsetenv_counts, env_counts}
use Rattle.nx_ksys.proofs.QueueCounts.{sem_open_counts, sem_wait_counts, sem_trywait_counts, sem_post_counts, sem_close_counts, mq_open_counts, mq_close_counts, mq_unlink_counts, mq_send_counts, mq_receive_counts, mq_timedreceive_counts}
use Rattle.nx_ksys.proofs.Counting.{Counts, Stays, counts_same, either, fails, texts, all_closed_stays, write_counts, read_counts, open_counts, close_counts, lseek_counts, dup_counts, dup2_counts}

-- ---- paths

unlink_counts : (k : KernelState) (c : Caller) (text : List ℕ) → Counts k (unlink_row k c text)
unfolding unlink_row
unlink_counts k c text = by_path (resolve k c text)
  where
    by_kind : (path : List ℕ) (n : NodeKind) → Counts k (unlink_kind k c path n)
    by_kind path node.Directory = fails k c errno.Eisdir
    by_kind path (node.File place) = counts_same k _ (record { calls = refl; console = refl })
    by_kind path node.Console = fails k c errno.Einval
    by_kind path node.Null = fails k c errno.Einval
    by_kind path (node.Program place) = fails k c errno.Einval
    by_kind path (node.Queue place) = fails k c errno.Einval

    by_node : (path : List ℕ) (n : Option Node) → Counts k (unlink_node k c path n)
    by_node path None = fails k c errno.Enoent
    by_node path (Some n) = by_kind path n.kind

    by_path : (r : Result (List ℕ) Errno) → Counts k (unlink_path k c r)
    by_path (Err e) = fails k c e
    by_path (Ok path) = by_node path (node_at k.tree.entries path)

mkdir_counts : (k : KernelState) (c : Caller) (text : List ℕ) → Counts k (mkdir_row k c text)
unfolding mkdir_row
mkdir_counts k c text = by_path (resolve k c text)
  where
    by_node : (path : List ℕ) (n : Option Node) → Counts k (mkdir_node k c path n)
    by_node path (Some n) = fails k c errno.Eexist
    by_node path None =
        either k (is_closed (parent_of path)) _ _ (fails k c errno.Einval) (either k (nat_le k.limits.objects (objects k)) _ _ (fails k c errno.Enospc) (counts_same k _ (record { calls = refl; console = refl })))

    by_path : (r : Result (List ℕ) Errno) → Counts k (mkdir_path k c r)
    by_path (Err e) = fails k c e
    by_path (Ok path) = by_node path (node_at k.tree.entries path)

rmdir_counts : (k : KernelState) (c : Caller) (text : List ℕ) → Counts k (rmdir_row k c text)
unfolding rmdir_row
rmdir_counts k c text = by_path (resolve k c text)
  where
    by_node : (path : List ℕ) (n : Option Node) → Counts k (rmdir_node k c path n)
    by_node path None = fails k c errno.Enoent
    by_node path (Some n) =
        either k (not (is_directory n.kind)) _ _ (fails k c errno.Enotdir) (either k n.fixed _ _ (fails k c errno.Einval)
        (either k (has_children path k.tree.entries) _ _ (fails k c errno.Enotempty) (counts_same k _ (record { calls = refl; console = refl }))))

    by_path : (r : Result (List ℕ) Errno) → Counts k (rmdir_path k c r)
    by_path (Err e) = fails k c e
    by_path (Ok path) = by_node path (node_at k.tree.entries path)

rename_counts : (k : KernelState) (c : Caller) (first second : List ℕ) → Counts k (rename_row k c first second)
unfolding rename_row
rename_counts k c first second = by_path (resolve k c first)
  where
    to : (one two : List ℕ) → Counts k (rename_to k c one two)
    to one two =
        either k (is_taken two k.tree.entries) _ _ (fails k c errno.Eexist)
        (either k (is_closed (parent_of two) || is_in one two || is_too_long one two k.tree.entries) _ _ (fails k c errno.Einval) (counts_same k _ (record { calls = refl; console = refl })))

    by_second : (one : List ℕ) (r : Result (List ℕ) Errno) → Counts k (rename_second k c one r)
    by_second one (Err e) = fails k c e
    by_second one (Ok two) = to one two

    by_node : (one : List ℕ) (n : Option Node) → Counts k (rename_node k c one second n)
    by_node one None = fails k c errno.Enoent
    by_node one (Some n) = either k (may_move n) _ _ (by_second one (resolve k c second)) (fails k c errno.Einval)

    by_path : (r : Result (List ℕ) Errno) → Counts k (rename_path k c second r)
    by_path (Err e) = fails k c e
    by_path (Ok one) = by_node one (node_at k.tree.entries one)

chdir_counts : (k : KernelState) (c : Caller) (text : List ℕ) → Counts k (chdir_row k c text)
unfolding chdir_row
chdir_counts k c text = by_path (resolve k c text)
  where
    by_node : (path : List ℕ) (n : Option Node) → Counts k (chdir_node k c path n)
    by_node path None = fails k c errno.Enoent
    by_node path (Some n) = either k (is_directory n.kind) _ _ (counts_same k _ (record { calls = refl; console = refl })) (fails k c errno.Enotdir)

    by_path : (r : Result (List ℕ) Errno) → Counts k (chdir_path k c r)
    by_path (Err e) = fails k c e
    by_path (Ok path) = by_node path (node_at k.tree.entries path)

getcwd_counts : (k : KernelState) (c : Caller) (size : ℕ) → Counts k (getcwd_row k c size)
unfolding getcwd_row
getcwd_counts k c size = texts k c size (shown c.group.directory)

readdir_counts : (k : KernelState) (c : Caller) (text : List ℕ) (index size : ℕ) → Counts k (readdir_row k c text index size)
unfolding readdir_row
readdir_counts k c text index size = by_path (resolve k c text)
  where
    by_name : (e : Option (List ℕ × Node)) → Counts k (list_name k c size e)
    by_name None = counts_same k _ (record { calls = refl; console = refl })
    by_name (Some e) = texts k c size (listed_name e.0 e.1)

    by_node : (path : List ℕ) (n : Option Node) → Counts k (readdir_node k c path index size n)
    by_node path None = fails k c errno.Enoent
    by_node path (Some n) =
        either k (not (is_directory n.kind)) _ _ (fails k c errno.Enotdir) (either k (is_negative index) _ _ (fails k c errno.Einval) (by_name (nth_name path index k.tree.entries)))

    by_path : (r : Result (List ℕ) Errno) → Counts k (readdir_path k c index size r)
    by_path (Err e) = fails k c e
    by_path (Ok path) = by_node path (node_at k.tree.entries path)

kind_counts : (k : KernelState) (c : Caller) (text : List ℕ) → Counts k (kind_row k c text)
unfolding kind_row
kind_counts k c text = by_path (resolve k c text)
  where
    by_node : (n : Option Node) → Counts k (kind_node k c n)
    by_node None = fails k c errno.Enoent
    by_node (Some n) = counts_same k _ (record { calls = refl; console = refl })

    by_path : (r : Result (List ℕ) Errno) → Counts k (kind_path k c r)
    by_path (Err e) = fails k c e
    by_path (Ok path) = by_node (node_at k.tree.entries path)

-- ---- ends

parent_stays : (code : Code) (k : KernelState) → Stays k (told_parent code k).to
unfolding told_parent
parent_stays code k = by_parent (code.parent == 0) (first_of (search.Parent code.parent code.child) k.sched.threads)
  where
    handed : (t : Option Thread) → Stays k (hand_over k code t).to
    handed None = record { calls = refl; console = refl }
    handed (Some t) = record { calls = refl; console = refl }

    by_parent : (b : Bool) (t : Option Thread) → Stays k (let told : WithReplies = if b then record { to = k; replies = [] } else and_lost code.parent (hand_over k code t) in told).to
    by_parent true t = record { calls = refl; console = refl }
    by_parent false t = let h = handed t in record { calls = h.calls; console = h.console }

pub end_stays : (k : KernelState) (place code : ℕ) → Stays k (end_group k place code).to
unfolding end_group vanished without_idle without_descriptors left_alone
end_stays k place code = by_group (flat (slice_get k.groups place))
  where
    by_group : (g : Option Group) → Stays k (end_of k place code g).to
    by_group None = record { calls = refl; console = refl }
    by_group (Some g) =
        let v = vanished g.number k in
        let d = all_closed_stays 32 0 place v in
        let p = parent_stays (record { parent = g.parent; child = g.number; code = code }) _ in
        record { calls = p.calls ∙ d.calls; console = p.console ∙ d.console }

exit_counts : (k : KernelState) (c : Caller) (value : ℕ) → Counts k (exit_row k c value)
unfolding exit_row
exit_counts k c value = counts_same k _ (let s = end_stays k c.place (value % 256) in record { calls = s.calls; console = s.console })

thread_exit_counts : (k : KernelState) (c : Caller) (value : ℕ) → Counts k (thread_exit_row k c value)
unfolding thread_exit_row
thread_exit_counts k c value = either k (c.thread.number == c.group.number) _ _ (exit_counts k c value) (counts_same k _ (by_joiner _ _))
  where
    by_joiner : (v : ThreadValue) (t : Option Thread) → Stays k (hand_value (gone k c.thread.number) v t).to
    by_joiner v None = record { calls = refl; console = refl }
    by_joiner v (Some t) = record { calls = refl; console = refl }

-- ---- groups

spawn_counts : (k : KernelState) (c : Caller) (path text : List ℕ) (word : ℕ) → Counts k (spawn_row k c path text word)
unfolding spawn_row
spawn_counts k c path text word = either k (not (is_ended text) || nat_lt 255 word) _ _ (fails k c errno.Einval) (by_path (spawn_priority word) (resolved k.tree.entries c.group.directory path))
  where
    by_slot : (program priority : ℕ) (arguments : List (List ℕ)) (slot : Option ℕ) → Counts k (spawn_at k c program priority arguments slot)
    by_slot program priority arguments None = fails k c errno.Eagain
    by_slot program priority arguments (Some slot) = either k (nat_le most_numbers k.numbers) _ _ (fails k c errno.Eagain) (counts_same k _ (record { calls = refl; console = refl }))

    by_kind : (at : List ℕ) (priority : ℕ) (n : NodeKind) → Counts k (spawn_kind k c at text priority n)
    by_kind at priority node.Directory = fails k c errno.Einval
    by_kind at priority (node.File place) = fails k c errno.Einval
    by_kind at priority node.Console = fails k c errno.Einval
    by_kind at priority node.Null = fails k c errno.Einval
    by_kind at priority (node.Program program) = by_slot program priority _ (free_slot k.sched.threads)
    by_kind at priority (node.Queue place) = fails k c errno.Einval

    by_node : (at : List ℕ) (priority : ℕ) (n : Option Node) → Counts k (spawn_node k c at text priority n)
    by_node at priority None = fails k c errno.Enoent
    by_node at priority (Some n) = by_kind at priority n.kind

    by_path : (priority : ℕ) (r : Result (List ℕ) Errno) → Counts k (spawn_path k c text priority r)
    by_path priority (Err e) = fails k c e
    by_path priority (Ok at) = by_node at priority (node_at k.tree.entries at)

waitpid_counts : (k : KernelState) (c : Caller) (pid option : ℕ) → Counts k (waitpid_row k c pid option)
unfolding waitpid_row
waitpid_counts k c pid option =
    either k (pid == 0 || (is_negative pid && not (pid == minus_one)) || nat_lt 1 option) _ _ (fails k c errno.Einval)
    (either k (pid == minus_one) _ _ (by_code wait.AnyChild (has_any_child k.groups k.codes c.group.number) (find (is_any_code c.group.number) k.codes))
    (by_code (wait.Child pid) (has_child k.groups k.codes c.group.number pid) (find (is_code c.group.number pid) k.codes)))
  where
    waiting : (for : Wait) → Counts k (wait_for k c for option)
    waiting for = either k (option == 1) _ _ (counts_same k _ (record { calls = refl; console = refl })) (counts_same k _ (record { calls = refl; console = refl }))

    by_code : (for : Wait) (there : Bool) (code : Option Code) → Counts k (wait_child k c for option there code)
    by_code for there (Some code) = counts_same k _ (record { calls = refl; console = refl })
    by_code for true None = waiting for
    by_code for false None = fails k c errno.Echild

arg_counts : (k : KernelState) (c : Caller) (index size : ℕ) → Counts k (arg_row k c index size)
unfolding arg_row
arg_counts k c index size = by_argument (slice_get c.group.arguments index)
  where
    by_argument : (a : Option (List ℕ)) → Counts k (arg_out k c size a)
    by_argument None = fails k c errno.Einval
    by_argument (Some a) = texts k c size a

ps_counts : (k : KernelState) (c : Caller) (index size : ℕ) → Counts k (ps_row k c index size)
unfolding ps_row
ps_counts k c index size = either k (is_negative index) _ _ (fails k c errno.Einval) (by_group (nth_group k.groups index))
  where
    by_group : (g : Option Group) → Counts k (ps_out k c size g)
    by_group None = counts_same k _ (record { calls = refl; console = refl })
    by_group (Some g) = texts k c size (status_of k g)

-- ---- threads

priority_counts : (k : KernelState) (c : Caller) (thread priority : ℕ) → Counts k (setpriority_row k c thread priority)
unfolding setpriority_row
priority_counts k c thread priority = by_thread (thread_of k.sched.threads (if thread == 0 then c.thread.number else thread))
  where
    by_thread : (t : Option Thread) → Counts k (set_priority k c priority t)
    by_thread None = fails k c errno.Einval
    by_thread (Some t) =
        either k (not (t.group == c.group.number) || priority == 0 || nat_lt 255 priority) _ _ (fails k c errno.Einval) (counts_same k _ (record { calls = refl; console = refl }))

yield_counts : (k : KernelState) (c : Caller) → Counts k (yield_row k c)
unfolding yield_row
yield_counts k c = counts_same k _ (record { calls = refl; console = refl })

thread_counts : (k : KernelState) (c : Caller) → Counts k (thread_row k c)
unfolding thread_row
thread_counts k c = by_slot (free_slot k.sched.threads)
  where
    by_slot : (slot : Option ℕ) → Counts k (thread_at k c slot)
    by_slot None = fails k c errno.Eagain
    by_slot (Some slot) = either k (nat_le most_numbers k.numbers) _ _ (fails k c errno.Eagain) (counts_same k _ (record { calls = refl; console = refl }))

join_counts : (k : KernelState) (c : Caller) (thread : ℕ) → Counts k (join_row k c thread)
unfolding join_row
join_counts k c thread = by_value (find (is_value c.group.number thread) k.values)
  where
    by_thread : (t : Option Thread) → Counts k (join_live k c t)
    by_thread None = fails k c errno.Einval
    by_thread (Some t) = either k (may_join k c t) _ _ (counts_same k _ (record { calls = refl; console = refl })) (fails k c errno.Einval)

    by_value : (v : Option ThreadValue) → Counts k (join_value k c thread v)
    by_value None = by_thread (thread_of k.sched.threads thread)
    by_value (Some v) = counts_same k _ (record { calls = refl; console = refl })

errno_counts : (k : KernelState) (c : Caller) → Counts k (errno_row k c)
unfolding errno_row
errno_counts k c = counts_same k _ (record { calls = refl; console = refl })

-- ---- each call

row_counts : (which : KCall) (k : KernelState) (c : Caller) (words : List ℕ) (inputs : List (List ℕ)) → Counts k (row_of which k c words inputs)
row_counts call.Write k c words inputs = write_counts k c (word_at words 0) (input_at inputs 0)
row_counts call.Read k c words inputs = read_counts k c (word_at words 0) (word_at words 2)
row_counts call.Open k c words inputs = open_counts k c (input_at inputs 0) (word_at words 1)
row_counts call.Close k c words inputs = close_counts k c (word_at words 0)
row_counts call.Lseek k c words inputs = lseek_counts k c (word_at words 0) (word_at words 1) (word_at words 2)
row_counts call.Dup k c words inputs = dup_counts k c (word_at words 0)
row_counts call.Dup2 k c words inputs = dup2_counts k c (word_at words 0) (word_at words 1)
row_counts call.Unlink k c words inputs = unlink_counts k c (input_at inputs 0)
row_counts call.Mkdir k c words inputs = mkdir_counts k c (input_at inputs 0)
row_counts call.Rmdir k c words inputs = rmdir_counts k c (input_at inputs 0)
row_counts call.Rename k c words inputs = rename_counts k c (input_at inputs 0) (input_at inputs 1)
row_counts call.Chdir k c words inputs = chdir_counts k c (input_at inputs 0)
row_counts call.NxGetcwd k c words inputs = getcwd_counts k c (word_at words 1)
row_counts call.NxReaddir k c words inputs = readdir_counts k c (input_at inputs 0) (word_at words 1) (word_at words 3)
row_counts call.NxKind k c words inputs = kind_counts k c (input_at inputs 0)
row_counts call.NxSpawn k c words inputs = spawn_counts k c (input_at inputs 0) (input_at inputs 1) (word_at words 2)
row_counts call.Exit k c words inputs = exit_counts k c (word_at words 0)
row_counts call.Getpid k c words inputs = counts_same k _ (record { calls = refl; console = refl })
row_counts call.Waitpid k c words inputs = waitpid_counts k c (word_at words 0) (word_at words 2)
row_counts call.NxArgc k c words inputs = counts_same k _ (record { calls = refl; console = refl })
row_counts call.NxArg k c words inputs = arg_counts k c (word_at words 0) (word_at words 2)
row_counts call.NxSetpriority k c words inputs = priority_counts k c (word_at words 0) (word_at words 1)
row_counts call.SchedYield k c words inputs = yield_counts k c
row_counts call.NxPs k c words inputs = ps_counts k c (word_at words 0) (word_at words 2)
row_counts call.NxThread k c words inputs = thread_counts k c
row_counts call.NxThreadExit k c words inputs = thread_exit_counts k c (word_at words 0)
row_counts call.NxJoin k c words inputs = join_counts k c (word_at words 0)
row_counts call.GetErrno k c words inputs = errno_counts k c
row_counts call.NxMqOpen k c words inputs = mq_open_counts k c (input_at inputs 0) (word_at words 1) (word_at words 2) (word_at words 3)
row_counts call.MqClose k c words inputs = mq_close_counts k c (word_at words 0)
row_counts call.MqUnlink k c words inputs = mq_unlink_counts k c (input_at inputs 0)
row_counts call.MqSend k c words inputs = mq_send_counts k c (word_at words 0) (input_at inputs 0) (word_at words 2) (word_at words 3)
row_counts call.MqReceive k c words inputs = mq_receive_counts k c (word_at words 0) (word_at words 2)
row_counts call.NxMqTimedreceive k c words inputs = mq_timedreceive_counts k c (word_at words 0) (word_at words 2) (word_at words 4)
row_counts call.NxSemOpen k c words inputs = sem_open_counts k c (input_at inputs 0) (word_at words 1) (word_at words 2)
row_counts call.NxSemWait k c words inputs = sem_wait_counts k c (word_at words 0)
row_counts call.NxSemTrywait k c words inputs = sem_trywait_counts k c (word_at words 0)
row_counts call.NxSemPost k c words inputs = sem_post_counts k c (word_at words 0)
row_counts call.NxSemClose k c words inputs = sem_close_counts k c (word_at words 0)
row_counts call.NxSleep k c words inputs = sleep_counts k c (word_at words 0)
row_counts call.NxTicks k c words inputs = ticks_counts k c
row_counts call.NxGetenv k c words inputs = getenv_counts k c (input_at inputs 0) (word_at words 2)
row_counts call.Setenv k c words inputs = setenv_counts k c (input_at inputs 0) (input_at inputs 1) (word_at words 2)
row_counts call.Unsetenv k c words inputs = unsetenv_counts k c (input_at inputs 0)
row_counts call.NxEnv k c words inputs = env_counts k c (word_at words 0) (word_at words 2)

pub step_counts : (k : KernelState) (thread : ℕ) (which : Option KCall) (words : List ℕ) (inputs : List (List ℕ)) → Counts (counted k) (step k thread which words inputs)
unfolding step
step_counts k thread which words inputs = by_thread (thread_of k.sched.threads thread)
  where
    by_call : (w : Option KCall) (c : Caller) → Counts (counted k) (asked w (counted k) c words inputs)
    by_call None c = fails (counted k) c errno.Enosys
    by_call (Some w) c = row_counts w (counted k) c words inputs

    by_group : (t : Thread) (place : ℕ) (g : Option Group) → Counts (counted k) (called_in (counted k) t which words inputs place g)
    by_group t place None = counts_same (counted k) _ (record { calls = refl; console = refl })
    by_group t place (Some g) = by_call which (record { thread = t; place = place; group = g; asked = meant_call which words })

    by_place : (t : Thread) (place : Option ℕ) → Counts (counted k) (called_by (counted k) t which words inputs place)
    by_place t None = counts_same (counted k) _ (record { calls = refl; console = refl })
    by_place t (Some place) = by_group t place (flat (slice_get k.groups place))

    by_thread : (t : Option Thread) → Counts (counted k) (called (counted k) t which words inputs)
    by_thread None = counts_same (counted k) _ (record { calls = refl; console = refl })
    by_thread (Some t) = by_place t (place_of k.groups t.group)
