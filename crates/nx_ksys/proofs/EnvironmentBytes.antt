-- Time and the environment: what their calls tell is words and bytes.
use Rattle.std.proofs.Common.{◌≡◌, ℕ, ◌+◌, ◌%◌, ◌==◌, List, [], ◌∷◌, ◌++◌, length, map, Option, Some, None, refl, arith}
use Rattle.std.specs.Prelude.{◌^◌, not, nat_le, filter, slice_set}
use Rattle.std.specs.List.{find, list_any}
use Rattle.nx_base.specs.ByteLists.{AreBytes}
use Rattle.nx_base.specs.declared.errno.Errno.TheVariants as errno
use Rattle.nx_ksys.specs.declared.thread.Wait.TheVariants as wait
use Rattle.nx_ksys.specs.State.{Group, KernelState}
use Rattle.nx_ksys.specs.Answers.{Caller, is_negative}
use Rattle.nx_ksys.specs.TimeCalls.{sleep_row, ticks_row}
use Rattle.nx_ksys.specs.EnvironmentCalls.{is_variable, value_out, getenv_row, most_variables, is_variable_name, with_environment, with_value, setenv_row, unsetenv_row, is_nth_variable, variable_out, env_row}
use Rattle.nx_ksys.specs.ByteLaws.{Each, IsGroupOfBytes, IsOfBytes}
use Rattle.nx_ksys.proofs.Standing.{first_found}
use Rattle.nx_ksys.proofs.ByteWalks.{more_bytes, joined_bytes, each_none, each_more, each_joined, each_kept, each_changed, standing_set}
use Rattle.nx_ksys.proofs.PathBytes.{either_is}
use Rattle.nx_ksys.proofs.Saying.{with_groups_bytes, Says, either, plain, nothing_read, fails, blocks, texts}

pub sleep_says : (k : KernelState) (c : Caller) (b : IsOfBytes k) (ticks : ℕ) → Says (sleep_row k c ticks)
unfolding sleep_row
sleep_says k c b ticks = either (is_negative ticks) _ _ (fails k c errno.Einval b) (either (ticks == 0) _ _ (plain k c 0 b (omega arith)) (blocks k c wait.Sleep (Some (k.time + ticks)) b))

pub ticks_says : (k : KernelState) (c : Caller) (b : IsOfBytes k) → Says (ticks_row k c)
unfolding ticks_row
ticks_says k c b = plain k c (k.time % 2 ^ 31) b (omega arith)

pub getenv_says : (k : KernelState) (c : Caller) (b : IsOfBytes k) (name : List ℕ) (size : ℕ) → IsGroupOfBytes c.group → Says (getenv_row k c name size)
unfolding getenv_row
getenv_says k c b name size g = by_variable (find (is_variable name) c.group.environment) refl
  where
    by_variable : (v : Option (List ℕ × List ℕ)) → find (is_variable name) c.group.environment ≡ v → Says (value_out k c size v)
    by_variable None e = fails k c errno.Enoent b
    by_variable (Some v) e = let f = first_found (is_variable name) c.group.environment v e in texts k c size v.1 b (g.values f.place v f.at)

-- a group with other variables
renewed : (k : KernelState) (c : Caller) (variables : List (List ℕ × List ℕ)) → IsOfBytes k → IsGroupOfBytes c.group → Each (λ v. AreBytes v.0) variables → Each (λ v. AreBytes v.1) variables → IsOfBytes (with_environment k c variables)
renewed k c variables b g names values =
    let group : Group = record c.group { environment = variables } in
    let d = g.directory in
    let a = g.arguments in
    let f = g.few in
    with_groups_bytes k (slice_set k.groups c.place (Some group)) b (standing_set IsGroupOfBytes k.groups c.place group (record { directory = d; arguments = a; few = f; names = names; values = values }) b.each_group)

pub setenv_says : (k : KernelState) (c : Caller) (b : IsOfBytes k) (name value : List ℕ) (replace : ℕ) → IsGroupOfBytes c.group → AreBytes name → AreBytes value → Says (setenv_row k c name value replace)
unfolding setenv_row
setenv_says k c b name value replace g n w =
    either (not (is_variable_name name)) _ _ (fails k c errno.Einval b)
    (either (list_any (is_variable name) c.group.environment) _ _ (either (replace == 0) _ _ (plain k c 0 b (omega arith)) (plain (with_environment k c (map (with_value name value) c.group.environment)) c 0 changed (omega arith)))
    (either (nat_le most_variables (length c.group.environment)) _ _ (fails k c errno.Enomem b) (plain (with_environment k c (c.group.environment ++ (name, value) ∷ [])) c 0 added (omega arith))))
  where
    changed : IsOfBytes (with_environment k c (map (with_value name value) c.group.environment))
    changed = renewed k c (map (with_value name value) c.group.environment) b g
        (each_changed (λ v. AreBytes v.0) (with_value name value) c.group.environment (λ v p. either_is (λ u. AreBytes u.0) (is_variable name v) (v.0, value) v p p) g.names)
        (each_changed (λ v. AreBytes v.1) (with_value name value) c.group.environment (λ v p. either_is (λ u. AreBytes u.1) (is_variable name v) (v.0, value) v w p) g.values)

    added : IsOfBytes (with_environment k c (c.group.environment ++ (name, value) ∷ []))
    added = renewed k c (c.group.environment ++ (name, value) ∷ []) b g
        (each_joined (λ v. AreBytes v.0) c.group.environment ((name, value) ∷ []) g.names (each_more (λ v. AreBytes v.0) (name, value) [] n (each_none (λ v. AreBytes v.0))))
        (each_joined (λ v. AreBytes v.1) c.group.environment ((name, value) ∷ []) g.values (each_more (λ v. AreBytes v.1) (name, value) [] w (each_none (λ v. AreBytes v.1))))

pub unsetenv_says : (k : KernelState) (c : Caller) (b : IsOfBytes k) (name : List ℕ) → IsGroupOfBytes c.group → Says (unsetenv_row k c name)
unfolding unsetenv_row
unsetenv_says k c b name g = either (not (is_variable_name name)) _ _ (fails k c errno.Einval b) (plain (with_environment k c left) c 0 kept (omega arith))
  where
    left : List (List ℕ × List ℕ)
    left = filter (λ v. not (is_variable name v)) c.group.environment

    kept : IsOfBytes (with_environment k c left)
    kept = renewed k c left b g
        (each_kept (λ v. AreBytes v.0) (λ v. not (is_variable name v)) c.group.environment g.names)
        (each_kept (λ v. AreBytes v.1) (λ v. not (is_variable name v)) c.group.environment g.values)

pub env_says : (k : KernelState) (c : Caller) (b : IsOfBytes k) (index size : ℕ) → IsGroupOfBytes c.group → Says (env_row k c index size)
unfolding env_row
env_says k c b index size g = either (is_negative index) _ _ (fails k c errno.Einval b) (by_variable (find (is_nth_variable c.group.environment index) c.group.environment) refl)
  where
    by_variable : (v : Option (List ℕ × List ℕ)) → find (is_nth_variable c.group.environment index) c.group.environment ≡ v → Says (variable_out k c size v)
    by_variable None e = nothing_read k c b
    by_variable (Some v) e =
        let f = first_found (is_nth_variable c.group.environment index) c.group.environment v e in
        texts k c size (v.0 ++ 61 ∷ v.1) b (joined_bytes v.0 (61 ∷ v.1) (g.names f.place v f.at) (more_bytes 61 v.1 (omega arith) (g.values f.place v f.at)))
