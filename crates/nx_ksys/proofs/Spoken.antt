-- Each call tells words and bytes, and so does boot's state.
use Rattle.std.proofs.Common.{◌≡◌, ℕ, suc, ◌+◌, ◌<◌, ◌^◌, Bool, true, List, [], ◌∷◌, ◌++◌, length, Option, Some, None, refl, sym, subst, arith}
use Rattle.std.specs.Prelude.{codes, ◌&&◌}
use Rattle.std.proofs.lemmas.Bool.{and_parts}
use Rattle.nx_base.specs.ByteLists.{AreBytes}
use Rattle.nx_base.specs.declared.calls.KCall.{KCall}
use Rattle.nx_base.specs.declared.calls.KCall.TheVariants as call
use Rattle.nx_base.specs.declared.errno.Errno.TheVariants as errno
use Rattle.nx_ksys.specs.declared.node.Node.{Node}
use Rattle.nx_ksys.specs.declared.node.NodeKind.TheVariants as node
use Rattle.nx_ksys.specs.declared.thread.Thread.{Thread}
use Rattle.nx_ksys.specs.Threads.{thread_of}
use Rattle.nx_ksys.specs.State.{Group, KernelState}
use Rattle.nx_ksys.specs.Answers.{word_at, input_at}
use Rattle.nx_ksys.specs.Step.{row_of, asked, counted, step}
use Rattle.nx_ksys.specs.Boot.{booted, shell, shell_thread, fixed, program_nodes, first_entries}
use Rattle.nx_ksys.specs.Soundness.{Stands, IsSound}
use Rattle.nx_ksys.specs.ByteLaws.{Each, IsGroupOfBytes, IsThreadOfBytes, IsCodeOfWord, IsOfBytes, IsInput, BootIsOfBytes, CallsTellBytes, ChoicesTellBytes}
use Rattle.nx_ksys.proofs.ByteWalks.{no_bytes, joined_bytes, are_small, text_bytes, each_none, each_more, each_joined, each_rest, each_or}
use Rattle.nx_ksys.proofs.Starting.{nothing_more, first_alone}
use Rattle.nx_ksys.proofs.Steps.{caller, found, step_is, nobody}
use Rattle.nx_ksys.proofs.Saying.{Says, plain, quiet, fails}
use Rattle.nx_ksys.proofs.FileBytes.{write_says, read_says, open_says, close_says, lseek_says, dup_says, dup2_says}
use Rattle.nx_ksys.proofs.TreeBytes.{unlink_says, mkdir_says, rmdir_says, rename_says, chdir_says, getcwd_says, readdir_says, kind_says}
use Rattle.nx_ksys.proofs.EnvironmentBytes.{sleep_says, ticks_says, getenv_says, setenv_says, unsetenv_says, env_says}
use Rattle.nx_ksys.proofs.SemaphoreBytes.{sem_open_says, sem_wait_says, sem_trywait_says, sem_post_says, sem_close_says}
use Rattle.nx_ksys.proofs.QueueBytes.{mq_open_says, mq_close_says, mq_unlink_says, mq_send_says, mq_receive_says, mq_timedreceive_says}
use Rattle.nx_ksys.proofs.EndBytes.{exit_says, thread_exit_says, choice_tells}
use Rattle.nx_ksys.proofs.ThreadBytes.{spawn_says, thread_says, waitpid_says, arg_says, ps_says, priority_says, yield_says, join_says, errno_says}

-- a group's number is a word
group_word : (k : KernelState) → IsSound k → (p : ℕ) (g : Group) → Stands k.groups p g → g.number < 2 ^ 32
group_word k sound p g h =
    let m = sound.each_group p g h in
    let l = (sound.each_thread p m.main m.stands).most in
    let n = m.number in
    let f = sound.few in
    omega (arith, l, n, f)

module _ (k : KernelState) (t : Thread) (place : ℕ) (g : Group) (words : List ℕ) (inputs : List (List ℕ)) (sound : IsSound k) (b : IsOfBytes k) (living : Stands k.groups place g) (known : IsThreadOfBytes t) (given : Each IsInput inputs) where
  its : IsGroupOfBytes g
  its = b.each_group place g living

  -- an input that there isn't has no bytes
  input : (i : ℕ) → IsInput (input_at inputs i)
  input i = each_or IsInput inputs i [] (record { bytes = no_bytes; few = omega arith }) given

  text : (i : ℕ) → AreBytes (input_at inputs i)
  text i = (input i).bytes

  here : AreBytes g.directory
  here = its.directory

  row_says : (which : KCall) → Says (row_of which k (caller t place g (Some which) words) words inputs)
  row_says call.Write = write_says k (caller t place g (Some call.Write) words) b (word_at words 0) (input_at inputs 0) (input 0)
  row_says call.Read = read_says k (caller t place g (Some call.Read) words) b (word_at words 0) (word_at words 2)
  row_says call.Open = open_says k (caller t place g (Some call.Open) words) b (input_at inputs 0) (word_at words 1) here (text 0)
  row_says call.Close = close_says k (caller t place g (Some call.Close) words) b (word_at words 0)
  row_says call.Lseek = lseek_says k (caller t place g (Some call.Lseek) words) b (word_at words 0) (word_at words 1) (word_at words 2)
  row_says call.Dup = dup_says k (caller t place g (Some call.Dup) words) b (word_at words 0)
  row_says call.Dup2 = dup2_says k (caller t place g (Some call.Dup2) words) b (word_at words 0) (word_at words 1)
  row_says call.Unlink = unlink_says k (caller t place g (Some call.Unlink) words) b (input_at inputs 0) here (text 0)
  row_says call.Mkdir = mkdir_says k (caller t place g (Some call.Mkdir) words) b (input_at inputs 0) here (text 0)
  row_says call.Rmdir = rmdir_says k (caller t place g (Some call.Rmdir) words) b (input_at inputs 0) here (text 0)
  row_says call.Rename = rename_says k (caller t place g (Some call.Rename) words) b (input_at inputs 0) (input_at inputs 1) here (text 1)
  row_says call.Chdir = chdir_says k (caller t place g (Some call.Chdir) words) b (input_at inputs 0) its (text 0)
  row_says call.NxGetcwd = getcwd_says k (caller t place g (Some call.NxGetcwd) words) b (word_at words 1) here
  row_says call.NxReaddir = readdir_says k (caller t place g (Some call.NxReaddir) words) b (input_at inputs 0) (word_at words 1) (word_at words 3) here (text 0)
  row_says call.NxKind = kind_says k (caller t place g (Some call.NxKind) words) b (input_at inputs 0)
  row_says call.NxSpawn = spawn_says k (caller t place g (Some call.NxSpawn) words) b (input_at inputs 0) (input_at inputs 1) (word_at words 2) its (text 0) (input 1)
  row_says call.Exit = exit_says k (caller t place g (Some call.Exit) words) b (word_at words 0) (group_word k sound place)
  row_says call.Getpid = plain k (caller t place g (Some call.Getpid) words) g.number b (group_word k sound place g living)
  row_says call.Waitpid = waitpid_says k (caller t place g (Some call.Waitpid) words) b (word_at words 0) (word_at words 2)
  row_says call.NxArgc = plain k (caller t place g (Some call.NxArgc) words) (length g.arguments) b its.few
  row_says call.NxArg = arg_says k (caller t place g (Some call.NxArg) words) b (word_at words 0) (word_at words 2) its
  row_says call.NxSetpriority = priority_says k (caller t place g (Some call.NxSetpriority) words) b (word_at words 0) (word_at words 1)
  row_says call.SchedYield = yield_says k (caller t place g (Some call.SchedYield) words) b
  row_says call.NxPs = ps_says k (caller t place g (Some call.NxPs) words) b (word_at words 0) (word_at words 2) (group_word k sound)
  row_says call.NxThread = thread_says k (caller t place g (Some call.NxThread) words) b known
  row_says call.NxThreadExit = thread_exit_says k (caller t place g (Some call.NxThreadExit) words) b (word_at words 0) (group_word k sound place)
  row_says call.NxJoin = join_says k (caller t place g (Some call.NxJoin) words) b (word_at words 0)
  row_says call.GetErrno = errno_says k (caller t place g (Some call.GetErrno) words) b known
  row_says call.NxMqOpen = mq_open_says k (caller t place g (Some call.NxMqOpen) words) b (input_at inputs 0) (word_at words 1) (word_at words 2) (word_at words 3) (text 0)
  row_says call.MqClose = mq_close_says k (caller t place g (Some call.MqClose) words) b (word_at words 0)
  row_says call.MqUnlink = mq_unlink_says k (caller t place g (Some call.MqUnlink) words) b (input_at inputs 0)
  row_says call.MqSend = mq_send_says k (caller t place g (Some call.MqSend) words) b (word_at words 0) (input_at inputs 0) (word_at words 2) (word_at words 3) (text 0)
  row_says call.MqReceive = mq_receive_says k (caller t place g (Some call.MqReceive) words) b (word_at words 0) (word_at words 2)
  row_says call.NxMqTimedreceive = mq_timedreceive_says k (caller t place g (Some call.NxMqTimedreceive) words) b (word_at words 0) (word_at words 2) (word_at words 4)
  row_says call.NxSemOpen = sem_open_says k (caller t place g (Some call.NxSemOpen) words) b (input_at inputs 0) (word_at words 1) (word_at words 2)
  row_says call.NxSemWait = sem_wait_says k (caller t place g (Some call.NxSemWait) words) b (word_at words 0)
  row_says call.NxSemTrywait = sem_trywait_says k (caller t place g (Some call.NxSemTrywait) words) b (word_at words 0)
  row_says call.NxSemPost = sem_post_says k (caller t place g (Some call.NxSemPost) words) b (word_at words 0)
  row_says call.NxSemClose = sem_close_says k (caller t place g (Some call.NxSemClose) words) b (word_at words 0)
  row_says call.NxSleep = sleep_says k (caller t place g (Some call.NxSleep) words) b (word_at words 0)
  row_says call.NxTicks = ticks_says k (caller t place g (Some call.NxTicks) words) b
  row_says call.NxGetenv = getenv_says k (caller t place g (Some call.NxGetenv) words) b (input_at inputs 0) (word_at words 2) its
  row_says call.Setenv = setenv_says k (caller t place g (Some call.Setenv) words) b (input_at inputs 0) (input_at inputs 1) (word_at words 2) its (text 0) (text 1)
  row_says call.Unsetenv = unsetenv_says k (caller t place g (Some call.Unsetenv) words) b (input_at inputs 0) its
  row_says call.NxEnv = env_says k (caller t place g (Some call.NxEnv) words) b (word_at words 0) (word_at words 2) its

  asked_says : (which : Option KCall) → Says (asked which k (caller t place g which words) words inputs)
  asked_says None = fails k (caller t place g None words) errno.Enosys b
  asked_says (Some which) = row_says which

step_says : (k : KernelState) (i : ℕ) (which : Option KCall) (words : List ℕ) (inputs : List (List ℕ)) → IsSound k → IsOfBytes k → Each IsInput inputs → Says (step k i which words inputs)
step_says k i which words inputs sound b given = by_thread (thread_of k.sched.threads i) refl
  where
    by_thread : (o : Option Thread) → thread_of k.sched.threads i ≡ o → Says (step k i which words inputs)
    by_thread None e = subst Says (sym (nobody k i which words inputs e)) (quiet (counted k) b)
    by_thread (Some t) e =
        let f = found k i t sound e in
        subst Says (sym (step_is k i which words inputs t e f)) (asked_says (counted k) t f.place f.group words inputs sound b f.lives (b.each_thread f.slot t f.stands) given which)

pub calls_tell_bytes : CallsTellBytes
calls_tell_bytes k i which words inputs sound b given = let s = step_says k i which words inputs sound b given in (s.kept, s.told)

pub choices_tell_bytes : ChoicesTellBytes
choices_tell_bytes k sound b = choice_tells k b

-- ---- boot

node_paths : (place : ℕ) (names : List (List ℕ)) → Each AreBytes names → Each (λ e. AreBytes e.0) (program_nodes place names)
node_paths place [] h = each_none (λ e. AreBytes e.0)
node_paths place (name ∷ names) h =
    each_more (λ e. AreBytes e.0) (codes "/bin/" ++ name, fixed (node.Program place)) (program_nodes (place + 1) names)
    (joined_bytes (codes "/bin/") name (text_bytes (codes "/bin/") refl) (h 0 name refl)) (node_paths (place + 1) names (each_rest AreBytes name names h))

abbrev are_paths : List (List ℕ × Node) → Bool
are_paths [] = true
are_paths (e ∷ es) = are_small e.0 && are_paths es

entries_bytes : (es : List (List ℕ × Node)) → are_paths es ≡ true → Each (λ e. AreBytes e.0) es
entries_bytes [] q = each_none (λ e. AreBytes e.0)
entries_bytes (e ∷ es) q = let p = and_parts (are_small e.0) (are_paths es) q in each_more (λ f. AreBytes f.0) e es (text_bytes e.0 p.0) (entries_bytes es p.1)

first_paths : (names : List (List ℕ)) → Each AreBytes names → Each (λ e. AreBytes e.0) (first_entries names)
first_paths names h = each_joined (λ e. AreBytes e.0) (first_entries []) (program_nodes 0 names) (entries_bytes (first_entries []) refl) (node_paths 0 names h)

pub boot_is_of_bytes : BootIsOfBytes
unfolding booted
boot_is_of_bytes limits others input late names i = record {
  names = names;
  paths = first_paths limits.programs names;
  contents = λ p x h. absurd (nothing_more limits.objects p x h);
  each_group = λ p g h. subst IsGroupOfBytes (sym (first_alone (shell limits) g others p h).1) (record { directory = no_bytes; arguments = each_more AreBytes (codes "nsh") [] (text_bytes (codes "nsh") refl) (each_none AreBytes); few = omega arith; names = each_none (λ v. AreBytes v.0); values = each_none (λ v. AreBytes v.1) });
  each_thread = λ p t h. subst IsThreadOfBytes (sym (first_alone shell_thread t others p h).1) (record { priority = omega arith; errno = omega arith });
  children = each_none IsCodeOfWord;
  rest = i;
  each_queue = λ p q h. absurd (nothing_more limits.objects p q h);
  each_sent = λ p m h. absurd (nothing_more (suc others) p m h);
}
