-- Calls on the environment: nx_getenv, setenv, unsetenv, nx_env.
use Rattle.std.specs.Prelude.{ℕ, ◌==◌, ◌&&◌, nat_le, Bool, not, if◌then◌else◌, List, [], ◌∷◌, ◌++◌, length, map, filter, Option, Some, None}
use Rattle.std.specs.List.{find, list_any, count_by}
use Rattle.std.specs.Str.{bytes_eq}
use Rattle.nx_base.specs.declared.errno.Errno.TheVariants.{Enoent, Enomem, Einval}
use Rattle.nx_ksys.specs.State.{KernelState}
use Rattle.nx_ksys.specs.Paths.{name_before}
use Rattle.nx_ksys.specs.TreeCalls.{with_group}
use Rattle.nx_ksys.specs.Answers.{Stepped, Caller, replied, failed, text_out, is_negative}

-- a variable is its name with its value
abbrev pub is_variable : List ℕ → List ℕ × List ℕ → Bool
is_variable name v = bytes_eq name v.0

-- ---- nx_getenv

abbrev pub value_out : KernelState → Caller → ℕ → Option (List ℕ × List ℕ) → Stepped
value_out k c size None = failed k c Enoent
value_out k c size (Some v) = text_out k c size v.1

unfoldable pub getenv_row : KernelState → Caller → List ℕ → ℕ → Stepped
getenv_row k c name size = value_out k c size (find (is_variable name) c.group.environment)

-- ---- setenv, unsetenv

-- a group has at most so many variables
abbrev pub most_variables : ℕ
most_variables = 16

-- 1 to 32 bytes without `=`
abbrev pub is_variable_name : List ℕ → Bool
is_variable_name name = nat_le 1 (length name) && nat_le (length name) 32 && not (list_any (λ b. b == 61) name)

abbrev pub with_environment : KernelState → Caller → List (List ℕ × List ℕ) → KernelState
with_environment k c variables = with_group k c.place (record c.group { environment = variables })

abbrev pub with_value : List ℕ → List ℕ → List ℕ × List ℕ → List ℕ × List ℕ
with_value name value v = if is_variable name v then (v.0, value) else v

-- a variable that is there gets the value, unless it is to keep its own
abbrev pub set_variable : KernelState → Caller → List ℕ → List ℕ → ℕ → Stepped
set_variable k c name value replace =
    if replace == 0 then replied k c 0 [] else replied (with_environment k c (map (with_value name value) c.group.environment)) c 0 []

abbrev pub add_variable : KernelState → Caller → List ℕ → List ℕ → Stepped
add_variable k c name value =
    if nat_le most_variables (length c.group.environment) then failed k c Enomem
    else replied (with_environment k c (c.group.environment ++ (name, value) ∷ [])) c 0 []

unfoldable pub setenv_row : KernelState → Caller → List ℕ → List ℕ → ℕ → Stepped
setenv_row k c name value replace =
    if not (is_variable_name name) then failed k c Einval
    else if list_any (is_variable name) c.group.environment then set_variable k c name value replace
    else add_variable k c name value

unfoldable pub unsetenv_row : KernelState → Caller → List ℕ → Stepped
unsetenv_row k c name =
    if not (is_variable_name name) then failed k c Einval
    else replied (with_environment k c (filter (λ v. not (is_variable name v)) c.group.environment)) c 0 []

-- ---- nx_env

-- how many names come before a name, byte by byte
abbrev pub names_before : List ℕ → List (List ℕ × List ℕ) → ℕ
names_before name variables = count_by (λ v. name_before v.0 name) variables

-- the index-th variable in the order of the names
abbrev pub is_nth_variable : List (List ℕ × List ℕ) → ℕ → List ℕ × List ℕ → Bool
is_nth_variable variables index v = names_before v.0 variables == index

-- as NAME=VALUE
abbrev pub variable_out : KernelState → Caller → ℕ → Option (List ℕ × List ℕ) → Stepped
variable_out k c size None = replied k c 0 ([] ∷ [])
variable_out k c size (Some v) = text_out k c size (v.0 ++ 61 ∷ v.1)

unfoldable pub env_row : KernelState → Caller → ℕ → ℕ → Stepped
env_row k c index size =
    if is_negative index then failed k c Einval
    else variable_out k c size (find (is_nth_variable c.group.environment index) c.group.environment)
