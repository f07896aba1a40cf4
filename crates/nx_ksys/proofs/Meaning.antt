-- No row asks for a word that is a pointer, or for a thread's entry.
use Rattle.std.proofs.Common.{◌≡◌, ℕ, zero, suc, Bool, true, false, List, [], ◌∷◌, Option, Some, None, refl, ap, ◌∙◌}
use Rattle.std.specs.Prelude.{if◌then◌else◌, slice_get}
use Rattle.nx_base.specs.Calls.{is_pointer}
use Rattle.nx_base.specs.KernelCalls.{kinds_of}
use Rattle.nx_base.specs.declared.calls.Kind.{Kind}
use Rattle.nx_base.specs.declared.calls.KCall.{KCall}
use Rattle.nx_base.specs.declared.calls.KCall.TheVariants as call
use Rattle.nx_ksys.specs.declared.thread.Thread.{Thread}
use Rattle.nx_ksys.specs.Threads.{flat, thread_of}
use Rattle.nx_ksys.specs.State.{Group, KernelState}
use Rattle.nx_ksys.specs.Answers.{Caller, place_of, word_at, input_at}
use Rattle.nx_ksys.specs.Step.{without_pointers, meant_words, meant_call, row_of, asked, counted, called_in, called_by, called, step}
use Rattle.nx_ksys.specs.FileCalls.{write_row, read_row, open_row, close_row, lseek_row, dup_row, dup2_row}
use Rattle.nx_ksys.specs.TreeCalls.{getcwd_row, readdir_row}
use Rattle.nx_ksys.specs.Ends.{exit_row, thread_exit_row}
use Rattle.nx_ksys.specs.GroupCalls.{spawn_row, waitpid_row, arg_row, ps_row}
use Rattle.nx_ksys.specs.ThreadCalls.{setpriority_row, join_row}
use Rattle.nx_ksys.specs.QueueCalls.{mq_open_row, mq_close_row, mq_send_row, mq_receive_row, mq_timedreceive_row}
use Rattle.nx_ksys.specs.SemaphoreCalls.{sem_open_row, sem_wait_row, sem_trywait_row, sem_post_row, sem_close_row}
use Rattle.nx_ksys.specs.TimeCalls.{sleep_row}
use Rattle.nx_ksys.specs.EnvironmentCalls.{getenv_row, setenv_row, env_row}
use Rattle.nx_ksys.specs.Laws.{PointersMeanNothing}

-- the i-th parameter is no pointer
abbrev IsPlain : List Kind → ℕ → Type 0
IsPlain [] i = Unit {0}
IsPlain (kind ∷ kinds) zero = is_pointer kind ≡ false
IsPlain (kind ∷ kinds) (suc i) = IsPlain kinds i

plain : (kinds : List Kind) (words : List ℕ) (i : ℕ) → IsPlain kinds i → word_at (without_pointers kinds words) i ≡ word_at words i
plain [] words i p = refl
plain (kind ∷ kinds) [] i p = refl
plain (kind ∷ kinds) (word ∷ words) zero p = ap (λ b. if b then 0 else word) p
plain (kind ∷ kinds) (word ∷ words) (suc i) p = plain kinds words i p

-- taking the pointers out twice is taking them out once
twice : (kinds : List Kind) (words : List ℕ) → without_pointers kinds (without_pointers kinds words) ≡ without_pointers kinds words
twice [] words = refl
twice (kind ∷ kinds) [] = refl
twice (kind ∷ kinds) (word ∷ words) = by_kind (is_pointer kind) (twice kinds words)
  where
    by_kind : (b : Bool) → without_pointers kinds (without_pointers kinds words) ≡ without_pointers kinds words → (if b then 0 else if b then 0 else word) ∷ without_pointers kinds (without_pointers kinds words) ≡ (if b then 0 else word) ∷ without_pointers kinds words
    by_kind true e = ap (λ ws. 0 ∷ ws) e
    by_kind false e = ap (λ ws. word ∷ ws) e

-- a row reads the same of the words that mean something
row_means : (which : KCall) (k : KernelState) (c : Caller) (words : List ℕ) (inputs : List (List ℕ)) → row_of which k c (meant_words (Some which) words) inputs ≡ row_of which k c words inputs
row_means call.Write k c words inputs = ap (λ w. write_row k c w (input_at inputs 0)) (plain (kinds_of call.Write) words 0 refl)
row_means call.Read k c words inputs = ap (λ w. read_row k c w (word_at (without_pointers (kinds_of call.Read) words) 2)) (plain (kinds_of call.Read) words 0 refl)
    ∙ ap (λ w. read_row k c (word_at words 0) w) (plain (kinds_of call.Read) words 2 refl)
row_means call.Open k c words inputs = ap (λ w. open_row k c (input_at inputs 0) w) (plain (kinds_of call.Open) words 1 refl)
row_means call.Close k c words inputs = ap (λ w. close_row k c w) (plain (kinds_of call.Close) words 0 refl)
row_means call.Lseek k c words inputs = ap (λ w. lseek_row k c w (word_at (without_pointers (kinds_of call.Lseek) words) 1) (word_at (without_pointers (kinds_of call.Lseek) words) 2)) (plain (kinds_of call.Lseek) words 0 refl)
    ∙ ap (λ w. lseek_row k c (word_at words 0) w (word_at (without_pointers (kinds_of call.Lseek) words) 2)) (plain (kinds_of call.Lseek) words 1 refl)
    ∙ ap (λ w. lseek_row k c (word_at words 0) (word_at words 1) w) (plain (kinds_of call.Lseek) words 2 refl)
row_means call.Dup k c words inputs = ap (λ w. dup_row k c w) (plain (kinds_of call.Dup) words 0 refl)
row_means call.Dup2 k c words inputs = ap (λ w. dup2_row k c w (word_at (without_pointers (kinds_of call.Dup2) words) 1)) (plain (kinds_of call.Dup2) words 0 refl)
    ∙ ap (λ w. dup2_row k c (word_at words 0) w) (plain (kinds_of call.Dup2) words 1 refl)
row_means call.NxGetcwd k c words inputs = ap (λ w. getcwd_row k c w) (plain (kinds_of call.NxGetcwd) words 1 refl)
row_means call.NxReaddir k c words inputs = ap (λ w. readdir_row k c (input_at inputs 0) w (word_at (without_pointers (kinds_of call.NxReaddir) words) 3)) (plain (kinds_of call.NxReaddir) words 1 refl)
    ∙ ap (λ w. readdir_row k c (input_at inputs 0) (word_at words 1) w) (plain (kinds_of call.NxReaddir) words 3 refl)
row_means call.NxSpawn k c words inputs = ap (λ w. spawn_row k c (input_at inputs 0) (input_at inputs 1) w) (plain (kinds_of call.NxSpawn) words 2 refl)
row_means call.Exit k c words inputs = ap (λ w. exit_row k c w) (plain (kinds_of call.Exit) words 0 refl)
row_means call.Waitpid k c words inputs = ap (λ w. waitpid_row k c w (word_at (without_pointers (kinds_of call.Waitpid) words) 2)) (plain (kinds_of call.Waitpid) words 0 refl)
    ∙ ap (λ w. waitpid_row k c (word_at words 0) w) (plain (kinds_of call.Waitpid) words 2 refl)
row_means call.NxArg k c words inputs = ap (λ w. arg_row k c w (word_at (without_pointers (kinds_of call.NxArg) words) 2)) (plain (kinds_of call.NxArg) words 0 refl)
    ∙ ap (λ w. arg_row k c (word_at words 0) w) (plain (kinds_of call.NxArg) words 2 refl)
row_means call.NxSetpriority k c words inputs = ap (λ w. setpriority_row k c w (word_at (without_pointers (kinds_of call.NxSetpriority) words) 1)) (plain (kinds_of call.NxSetpriority) words 0 refl)
    ∙ ap (λ w. setpriority_row k c (word_at words 0) w) (plain (kinds_of call.NxSetpriority) words 1 refl)
row_means call.NxPs k c words inputs = ap (λ w. ps_row k c w (word_at (without_pointers (kinds_of call.NxPs) words) 2)) (plain (kinds_of call.NxPs) words 0 refl)
    ∙ ap (λ w. ps_row k c (word_at words 0) w) (plain (kinds_of call.NxPs) words 2 refl)
row_means call.NxThreadExit k c words inputs = ap (λ w. thread_exit_row k c w) (plain (kinds_of call.NxThreadExit) words 0 refl)
row_means call.NxJoin k c words inputs = ap (λ w. join_row k c w) (plain (kinds_of call.NxJoin) words 0 refl)
row_means call.Unlink k c words inputs = refl
row_means call.Mkdir k c words inputs = refl
row_means call.Rmdir k c words inputs = refl
row_means call.Rename k c words inputs = refl
row_means call.Chdir k c words inputs = refl
row_means call.NxKind k c words inputs = refl
row_means call.Getpid k c words inputs = refl
row_means call.NxArgc k c words inputs = refl
row_means call.SchedYield k c words inputs = refl
row_means call.NxThread k c words inputs = refl
row_means call.GetErrno k c words inputs = refl
row_means call.NxMqOpen k c words inputs = ap (λ w. mq_open_row k c (input_at inputs 0) w (word_at (without_pointers (kinds_of call.NxMqOpen) words) 2) (word_at (without_pointers (kinds_of call.NxMqOpen) words) 3)) (plain (kinds_of call.NxMqOpen) words 1 refl)
    ∙ ap (λ w. mq_open_row k c (input_at inputs 0) (word_at words 1) w (word_at (without_pointers (kinds_of call.NxMqOpen) words) 3)) (plain (kinds_of call.NxMqOpen) words 2 refl)
    ∙ ap (λ w. mq_open_row k c (input_at inputs 0) (word_at words 1) (word_at words 2) w) (plain (kinds_of call.NxMqOpen) words 3 refl)
row_means call.MqClose k c words inputs = ap (λ w. mq_close_row k c w) (plain (kinds_of call.MqClose) words 0 refl)
row_means call.MqUnlink k c words inputs = refl
row_means call.MqSend k c words inputs = ap (λ w. mq_send_row k c w (input_at inputs 0) (word_at (without_pointers (kinds_of call.MqSend) words) 2) (word_at (without_pointers (kinds_of call.MqSend) words) 3)) (plain (kinds_of call.MqSend) words 0 refl)
    ∙ ap (λ w. mq_send_row k c (word_at words 0) (input_at inputs 0) w (word_at (without_pointers (kinds_of call.MqSend) words) 3)) (plain (kinds_of call.MqSend) words 2 refl)
    ∙ ap (λ w. mq_send_row k c (word_at words 0) (input_at inputs 0) (word_at words 2) w) (plain (kinds_of call.MqSend) words 3 refl)
row_means call.MqReceive k c words inputs = ap (λ w. mq_receive_row k c w (word_at (without_pointers (kinds_of call.MqReceive) words) 2)) (plain (kinds_of call.MqReceive) words 0 refl)
    ∙ ap (λ w. mq_receive_row k c (word_at words 0) w) (plain (kinds_of call.MqReceive) words 2 refl)
row_means call.NxMqTimedreceive k c words inputs = ap (λ w. mq_timedreceive_row k c w (word_at (without_pointers (kinds_of call.NxMqTimedreceive) words) 2) (word_at (without_pointers (kinds_of call.NxMqTimedreceive) words) 4)) (plain (kinds_of call.NxMqTimedreceive) words 0 refl)
    ∙ ap (λ w. mq_timedreceive_row k c (word_at words 0) w (word_at (without_pointers (kinds_of call.NxMqTimedreceive) words) 4)) (plain (kinds_of call.NxMqTimedreceive) words 2 refl)
    ∙ ap (λ w. mq_timedreceive_row k c (word_at words 0) (word_at words 2) w) (plain (kinds_of call.NxMqTimedreceive) words 4 refl)
row_means call.NxSemOpen k c words inputs = ap (λ w. sem_open_row k c (input_at inputs 0) w (word_at (without_pointers (kinds_of call.NxSemOpen) words) 2)) (plain (kinds_of call.NxSemOpen) words 1 refl)
    ∙ ap (λ w. sem_open_row k c (input_at inputs 0) (word_at words 1) w) (plain (kinds_of call.NxSemOpen) words 2 refl)
row_means call.NxSemWait k c words inputs = ap (λ w. sem_wait_row k c w) (plain (kinds_of call.NxSemWait) words 0 refl)
row_means call.NxSemTrywait k c words inputs = ap (λ w. sem_trywait_row k c w) (plain (kinds_of call.NxSemTrywait) words 0 refl)
row_means call.NxSemPost k c words inputs = ap (λ w. sem_post_row k c w) (plain (kinds_of call.NxSemPost) words 0 refl)
row_means call.NxSemClose k c words inputs = ap (λ w. sem_close_row k c w) (plain (kinds_of call.NxSemClose) words 0 refl)
row_means call.NxSleep k c words inputs = ap (λ w. sleep_row k c w) (plain (kinds_of call.NxSleep) words 0 refl)
row_means call.NxTicks k c words inputs = refl
row_means call.NxGetenv k c words inputs = ap (λ w. getenv_row k c (input_at inputs 0) w) (plain (kinds_of call.NxGetenv) words 2 refl)
row_means call.Setenv k c words inputs = ap (λ w. setenv_row k c (input_at inputs 0) (input_at inputs 1) w) (plain (kinds_of call.Setenv) words 2 refl)
row_means call.Unsetenv k c words inputs = refl
row_means call.NxEnv k c words inputs = ap (λ w. env_row k c w (word_at (without_pointers (kinds_of call.NxEnv) words) 2)) (plain (kinds_of call.NxEnv) words 0 refl)
    ∙ ap (λ w. env_row k c (word_at words 0) w) (plain (kinds_of call.NxEnv) words 2 refl)

words_twice : (which : Option KCall) (words : List ℕ) → meant_words which (meant_words which words) ≡ meant_words which words
words_twice None words = refl
words_twice (Some call.Write) words = twice (kinds_of call.Write) words
words_twice (Some call.Read) words = twice (kinds_of call.Read) words
words_twice (Some call.Open) words = twice (kinds_of call.Open) words
words_twice (Some call.Close) words = twice (kinds_of call.Close) words
words_twice (Some call.Lseek) words = twice (kinds_of call.Lseek) words
words_twice (Some call.Dup) words = twice (kinds_of call.Dup) words
words_twice (Some call.Dup2) words = twice (kinds_of call.Dup2) words
words_twice (Some call.NxGetcwd) words = twice (kinds_of call.NxGetcwd) words
words_twice (Some call.NxReaddir) words = twice (kinds_of call.NxReaddir) words
words_twice (Some call.NxSpawn) words = twice (kinds_of call.NxSpawn) words
words_twice (Some call.Exit) words = twice (kinds_of call.Exit) words
words_twice (Some call.Waitpid) words = twice (kinds_of call.Waitpid) words
words_twice (Some call.NxArg) words = twice (kinds_of call.NxArg) words
words_twice (Some call.NxSetpriority) words = twice (kinds_of call.NxSetpriority) words
words_twice (Some call.NxPs) words = twice (kinds_of call.NxPs) words
words_twice (Some call.NxThreadExit) words = twice (kinds_of call.NxThreadExit) words
words_twice (Some call.NxJoin) words = twice (kinds_of call.NxJoin) words
words_twice (Some call.Unlink) words = twice (kinds_of call.Unlink) words
words_twice (Some call.Mkdir) words = twice (kinds_of call.Mkdir) words
words_twice (Some call.Rmdir) words = twice (kinds_of call.Rmdir) words
words_twice (Some call.Rename) words = twice (kinds_of call.Rename) words
words_twice (Some call.Chdir) words = twice (kinds_of call.Chdir) words
words_twice (Some call.NxKind) words = twice (kinds_of call.NxKind) words
words_twice (Some call.Getpid) words = twice (kinds_of call.Getpid) words
words_twice (Some call.NxArgc) words = twice (kinds_of call.NxArgc) words
words_twice (Some call.SchedYield) words = twice (kinds_of call.SchedYield) words
words_twice (Some call.NxThread) [] = refl
words_twice (Some call.NxThread) (word ∷ words) = refl
words_twice (Some call.GetErrno) words = twice (kinds_of call.GetErrno) words
words_twice (Some call.NxMqOpen) words = twice (kinds_of call.NxMqOpen) words
words_twice (Some call.MqClose) words = twice (kinds_of call.MqClose) words
words_twice (Some call.MqUnlink) words = twice (kinds_of call.MqUnlink) words
words_twice (Some call.MqSend) words = twice (kinds_of call.MqSend) words
words_twice (Some call.MqReceive) words = twice (kinds_of call.MqReceive) words
words_twice (Some call.NxMqTimedreceive) words = twice (kinds_of call.NxMqTimedreceive) words
words_twice (Some call.NxSemOpen) words = twice (kinds_of call.NxSemOpen) words
words_twice (Some call.NxSemWait) words = twice (kinds_of call.NxSemWait) words
words_twice (Some call.NxSemTrywait) words = twice (kinds_of call.NxSemTrywait) words
words_twice (Some call.NxSemPost) words = twice (kinds_of call.NxSemPost) words
words_twice (Some call.NxSemClose) words = twice (kinds_of call.NxSemClose) words
words_twice (Some call.NxSleep) words = twice (kinds_of call.NxSleep) words
words_twice (Some call.NxTicks) words = twice (kinds_of call.NxTicks) words
words_twice (Some call.NxGetenv) words = twice (kinds_of call.NxGetenv) words
words_twice (Some call.Setenv) words = twice (kinds_of call.Setenv) words
words_twice (Some call.Unsetenv) words = twice (kinds_of call.Unsetenv) words
words_twice (Some call.NxEnv) words = twice (kinds_of call.NxEnv) words

asked_means : (which : Option KCall) (k : KernelState) (c : Caller) (words : List ℕ) (inputs : List (List ℕ)) → asked which k c (meant_words which words) inputs ≡ asked which k c words inputs
asked_means None k c words inputs = refl
asked_means (Some which) k c words inputs = row_means which k c words inputs

pub pointers_mean_nothing : PointersMeanNothing
unfolding step
pointers_mean_nothing k thread which words inputs = by_thread (thread_of k.sched.threads thread)
  where
    same : meant_call which (meant_words which words) ≡ meant_call which words
    same = ap (λ ws. record { call = which; words = ws }) (words_twice which words)

    by_group : (t : Thread) (place : ℕ) (g : Option Group) → called_in (counted k) t which (meant_words which words) inputs place g ≡ called_in (counted k) t which words inputs place g
    by_group t place None = refl
    by_group t place (Some g) =
        ap (λ a. asked which (counted k) (record { thread = t; place = place; group = g; asked = a }) (meant_words which words) inputs) same
        ∙ asked_means which (counted k) (record { thread = t; place = place; group = g; asked = meant_call which words }) words inputs

    by_place : (t : Thread) (place : Option ℕ) → called_by (counted k) t which (meant_words which words) inputs place ≡ called_by (counted k) t which words inputs place
    by_place t None = refl
    by_place t (Some place) = by_group t place (flat (slice_get k.groups place))

    by_thread : (t : Option Thread) → called (counted k) t which (meant_words which words) inputs ≡ called (counted k) t which words inputs
    by_thread None = refl
    by_thread (Some t) = by_place t (place_of k.groups t.group)
