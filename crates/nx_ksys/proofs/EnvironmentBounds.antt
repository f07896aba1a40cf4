-- Time and the environment: their calls keep what bounds the paths.
use Rattle.std.proofs.Common.{ℕ, ◌==◌, List, length, Option, Some, None}
use Rattle.std.specs.Prelude.{not, nat_le}
use Rattle.std.specs.List.{find, list_any}
use Rattle.nx_base.specs.declared.errno.Errno.TheVariants as errno
use Rattle.nx_ksys.specs.State.{KernelState}
use Rattle.nx_ksys.specs.Answers.{Caller, is_negative}
use Rattle.nx_ksys.specs.TimeCalls.{sleep_row, ticks_row}
use Rattle.nx_ksys.specs.EnvironmentCalls.{is_variable, value_out, getenv_row, most_variables, is_variable_name, setenv_row, unsetenv_row, is_nth_variable, variable_out, env_row}
use Rattle.nx_ksys.proofs.Bounding.{Bounds, bounds_same, either, fails, texts}

pub sleep_bounds : (k : KernelState) (c : Caller) (ticks : ℕ) → Bounds k (sleep_row k c ticks)
unfolding sleep_row
sleep_bounds k c ticks =
    either k (is_negative ticks) _ _ (fails k c errno.Einval) (either k (ticks == 0) _ _ (bounds_same k _ (record { kept = λ first h. h })) (bounds_same k _ (record { kept = λ first h. h })))

pub ticks_bounds : (k : KernelState) (c : Caller) → Bounds k (ticks_row k c)
unfolding ticks_row
ticks_bounds k c = bounds_same k _ (record { kept = λ first h. h })

pub getenv_bounds : (k : KernelState) (c : Caller) (name : List ℕ) (size : ℕ) → Bounds k (getenv_row k c name size)
unfolding getenv_row
getenv_bounds k c name size = by_variable (find (is_variable name) c.group.environment)
  where
    by_variable : (v : Option (List ℕ × List ℕ)) → Bounds k (value_out k c size v)
    by_variable None = fails k c errno.Enoent
    by_variable (Some v) = texts k c size v.1

pub setenv_bounds : (k : KernelState) (c : Caller) (name value : List ℕ) (replace : ℕ) → Bounds k (setenv_row k c name value replace)
unfolding setenv_row
setenv_bounds k c name value replace =
    either k (not (is_variable_name name)) _ _ (fails k c errno.Einval)
    (either k (list_any (is_variable name) c.group.environment) _ _ (either k (replace == 0) _ _ (bounds_same k _ (record { kept = λ first h. h })) (bounds_same k _ (record { kept = λ first h. h })))
    (either k (nat_le most_variables (length c.group.environment)) _ _ (fails k c errno.Enomem) (bounds_same k _ (record { kept = λ first h. h }))))

pub unsetenv_bounds : (k : KernelState) (c : Caller) (name : List ℕ) → Bounds k (unsetenv_row k c name)
unfolding unsetenv_row
unsetenv_bounds k c name = either k (not (is_variable_name name)) _ _ (fails k c errno.Einval) (bounds_same k _ (record { kept = λ first h. h }))

pub env_bounds : (k : KernelState) (c : Caller) (index size : ℕ) → Bounds k (env_row k c index size)
unfolding env_row
env_bounds k c index size = either k (is_negative index) _ _ (fails k c errno.Einval) (by_variable (find (is_nth_variable c.group.environment index) c.group.environment))
  where
    by_variable : (v : Option (List ℕ × List ℕ)) → Bounds k (variable_out k c size v)
    by_variable None = bounds_same k _ (record { kept = λ first h. h })
    by_variable (Some v) = texts k c size _
