-- Time and the environment: who sleeps waits, and a group that is renewed is the same to the table.
use Rattle.std.proofs.Common.{ℕ, ◌+◌, ◌==◌, List, [], ◌∷◌, length, Option, Some, None, refl}
use Rattle.std.specs.Prelude.{not, nat_le, slice_set}
use Rattle.std.specs.List.{find, list_any}
use Rattle.nx_base.specs.declared.errno.Errno.TheVariants as errno
use Rattle.nx_ksys.specs.declared.thread.Wait.TheVariants as wait
use Rattle.nx_ksys.specs.State.{Group, KernelState}
use Rattle.nx_ksys.specs.Answers.{Caller, is_negative}
use Rattle.nx_ksys.specs.TimeCalls.{sleep_row, ticks_row}
use Rattle.nx_ksys.specs.EnvironmentCalls.{is_variable, value_out, getenv_row, most_variables, is_variable_name, with_environment, setenv_row, unsetenv_row, is_nth_variable, variable_out, env_row}
use Rattle.nx_ksys.specs.ThreadTable.{ThreadRow}
use Rattle.nx_ksys.proofs.Standing.{length_set}
use Rattle.nx_ksys.proofs.Regrouping.{sound_regrouped, table_regrouped, renewed_were, renewed_are}
use Rattle.nx_ksys.proofs.Waking.{nothing_fits}
use Rattle.nx_ksys.proofs.Owing.{Same, Calls, Lawful, Takes, either, answers, plain, fails, texts, blocks}

pub sleep_lawful : (k : KernelState) (c : Caller) (x : ThreadRow) (h : Calls k c) (ticks : ℕ) → Lawful k c x (sleep_row k c ticks)
unfolding sleep_row
sleep_lawful k c x h ticks =
    either k c x (is_negative ticks) _ _ (fails k c x h errno.Einval)
    (either k c x (ticks == 0) _ _ (plain k c x h k 0 (record { sound = λ s. s; table = refl; slots = refl })) (blocks k c x h wait.Sleep (Some (k.time + ticks)) tt))

pub ticks_lawful : (k : KernelState) (c : Caller) (x : ThreadRow) (h : Calls k c) → Lawful k c x (ticks_row k c)
unfolding ticks_row
ticks_lawful k c x h = plain k c x h k _ (record { sound = λ s. s; table = refl; slots = refl })

pub getenv_lawful : (k : KernelState) (c : Caller) (x : ThreadRow) (h : Calls k c) (name : List ℕ) (size : ℕ) → Takes c.asked size → Lawful k c x (getenv_row k c name size)
unfolding getenv_row
getenv_lawful k c x h name size takes = by_variable (find (is_variable name) c.group.environment)
  where
    by_variable : (v : Option (List ℕ × List ℕ)) → Lawful k c x (value_out k c size v)
    by_variable None = fails k c x h errno.Enoent
    by_variable (Some v) = texts k c x h size v.1 takes

renewed : (k : KernelState) (c : Caller) (h : Calls k c) (variables : List (List ℕ × List ℕ)) → Same k (with_environment k c variables)
renewed k c h variables =
    let g : Group = record c.group { environment = variables } in
    let were = renewed_were k.groups c.place c.group g h.lives refl refl in
    let are = renewed_are k.groups c.place c.group g h.lives refl refl in
    let size = length_set k.groups c.place (Some g) in
    record {
      sound = λ s. sound_regrouped k.sched.threads k.groups (slice_set k.groups c.place (Some g)) k.numbers s size were are;
      table = table_regrouped k.sched.threads k.groups (slice_set k.groups c.place (Some g)) k.numbers h.sound size were are;
      slots = refl;
    }

pub setenv_lawful : (k : KernelState) (c : Caller) (x : ThreadRow) (h : Calls k c) (name value : List ℕ) (replace : ℕ) → Lawful k c x (setenv_row k c name value replace)
unfolding setenv_row
setenv_lawful k c x h name value replace =
    either k c x (not (is_variable_name name)) _ _ (fails k c x h errno.Einval)
    (either k c x (list_any (is_variable name) c.group.environment) _ _
    (either k c x (replace == 0) _ _ (plain k c x h k 0 (record { sound = λ s. s; table = refl; slots = refl })) (plain k c x h _ 0 (renewed k c h _)))
    (either k c x (nat_le most_variables (length c.group.environment)) _ _ (fails k c x h errno.Enomem) (plain k c x h _ 0 (renewed k c h _))))

pub unsetenv_lawful : (k : KernelState) (c : Caller) (x : ThreadRow) (h : Calls k c) (name : List ℕ) → Lawful k c x (unsetenv_row k c name)
unfolding unsetenv_row
unsetenv_lawful k c x h name = either k c x (not (is_variable_name name)) _ _ (fails k c x h errno.Einval) (plain k c x h _ 0 (renewed k c h _))

pub env_lawful : (k : KernelState) (c : Caller) (x : ThreadRow) (h : Calls k c) (index size : ℕ) → Takes c.asked size → Lawful k c x (env_row k c index size)
unfolding env_row
env_lawful k c x h index size takes = either k c x (is_negative index) _ _ (fails k c x h errno.Einval) (by_variable (find (is_nth_variable c.group.environment index) c.group.environment))
  where
    by_variable : (v : Option (List ℕ × List ℕ)) → Lawful k c x (variable_out k c size v)
    by_variable None = answers k c x h k 0 ([] ∷ []) (record { sound = λ s. s; table = refl; slots = refl }) (nothing_fits c.asked)
    by_variable (Some v) = texts k c x h size _ takes
