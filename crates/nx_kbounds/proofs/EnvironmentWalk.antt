-- The changes of which calls on time and the environment are made.
use Rattle.std.proofs.Common.{◌≡◌, ℕ, suc, ◌+◌, ◌<◌, ◌≤◌, ◌^◌, ◌==◌, ◌&&◌, ◌++◌, Bool, true, false, List, [], ◌∷◌, length, map, Option, Some, None, refl, arith, length-append}
use Rattle.std.specs.Prelude.{not, nat_le, filter, slice_get}
use Rattle.std.specs.List.{find, list_any}
use Rattle.std.proofs.lemmas.Bool.{and_parts}
use Rattle.std.proofs.lemmas.Bool.Decides.{nat_tests}
use Rattle.nx_base.specs.declared.errno.Errno.TheVariants as errno
use Rattle.nx_ksys.specs.declared.thread.Wait.TheVariants as wait
use Rattle.nx_ksys.specs.Threads.{flat}
use Rattle.nx_ksys.specs.State.{KernelState}
use Rattle.nx_ksys.specs.Answers.{Caller, is_negative}
use Rattle.nx_ksys.specs.TimeCalls.{sleep_row, ticks_row}
use Rattle.nx_ksys.specs.EnvironmentCalls.{is_variable, with_value, value_out, getenv_row, most_variables, is_variable_name, setenv_row, unsetenv_row, is_nth_variable, variable_out, env_row}
use Rattle.nx_ksys.specs.ByteLaws.{Each}
use Rattle.nx_ksys.proofs.Standing.{some_same, length_map}
use Rattle.nx_ksys.proofs.ByteWalks.{each_none, each_more, each_joined, each_kept, each_changed}
use Rattle.nx_ksys.proofs.PathBytes.{either_is}
use Rattle.nx_kbounds.specs.Shortness.{IsShortText, AreShortVariables}
use Rattle.nx_kbounds.proofs.Changes.{Sets, IsNear, AreNumbered}
use Rattle.nx_kbounds.proofs.Walking.{Made, quiet, test, fails, same, texts, blocks}
use Rattle.nx_kbounds.proofs.ShortTexts.{not_false}

-- ---- variables

replaced_short : (name value : List ℕ) (vs : List (List ℕ × List ℕ)) → length value ≤ 260 → AreShortVariables vs → AreShortVariables (map (with_value name value) vs)
replaced_short name value vs le h = record {
  few = (let a = h.few in let b = length_map (with_value name value) vs in omega (arith, a, b));
  names = each_changed (λ v. length v.0 ≤ 32) (with_value name value) vs (λ v l. either_is (λ (w : List ℕ × List ℕ). length w.0 ≤ 32) (is_variable name v) (v.0, value) v l l) h.names;
  values = each_changed (λ v. IsShortText v.1) (with_value name value) vs (λ v l. either_is (λ (w : List ℕ × List ℕ). IsShortText w.1) (is_variable name v) (v.0, value) v le l) h.values;
}

one_more : (vs : List (List ℕ × List ℕ)) (v : List ℕ × List ℕ) → nat_le most_variables (length vs) ≡ false → length (vs ++ v ∷ []) ≤ 16
one_more vs v room = let b = length-append vs (v ∷ []) in let less : length vs < 16 = grind (arith, nat_tests) in omega (arith, b, less)

added_short : (name value : List ℕ) (vs : List (List ℕ × List ℕ)) → length name ≤ 32 → length value ≤ 260 → nat_le most_variables (length vs) ≡ false → AreShortVariables vs → AreShortVariables (vs ++ (name, value) ∷ [])
added_short name value vs short le room h =
    let one : Each (λ v. length v.0 ≤ 32) ((name, value) ∷ []) = each_more (λ (v : List ℕ × List ℕ). length v.0 ≤ 32) (name, value) [] short (each_none (λ (v : List ℕ × List ℕ). length v.0 ≤ 32)) in
    let other : Each (λ v. IsShortText v.1) ((name, value) ∷ []) = each_more (λ (v : List ℕ × List ℕ). IsShortText v.1) (name, value) [] le (each_none (λ (v : List ℕ × List ℕ). IsShortText v.1)) in
    record {
      few = one_more vs (name, value) room;
      names = each_joined (λ v. length v.0 ≤ 32) vs ((name, value) ∷ []) h.names one;
      values = each_joined (λ v. IsShortText v.1) vs ((name, value) ∷ []) h.values other;
    }

pub fewer : {A : Type 0} (test : A → Bool) (xs : List A) → length (filter test xs) ≤ length xs
fewer test [] = omega arith
fewer {A} test (x ∷ xs) = either_is (λ (ys : List A). length ys ≤ suc (length xs)) (test x) (x ∷ filter test xs) (filter test xs) (let m = fewer test xs in omega (arith, m)) (let m = fewer test xs in omega (arith, m))

left_short : (name : List ℕ) (vs : List (List ℕ × List ℕ)) → AreShortVariables vs → AreShortVariables (filter (λ v. not (is_variable name v)) vs)
left_short name vs h = record {
  few = (let a = h.few in let b = fewer (λ v. not (is_variable name v)) vs in omega (arith, a, b));
  names = each_kept (λ v. length v.0 ≤ 32) (λ v. not (is_variable name v)) vs h.names;
  values = each_kept (λ v. IsShortText v.1) (λ v. not (is_variable name v)) vs h.values;
}

name_short : (name : List ℕ) → not (is_variable_name name) ≡ false → length name ≤ 32
name_short name e =
    let named = not_false (is_variable_name name) e in
    let first = and_parts (nat_le 1 (length name) && nat_le (length name) 32) (not (list_any (λ b. b == 61) name)) named in
    let second = and_parts (nat_le 1 (length name)) (nat_le (length name) 32) first.0 in
    let short : nat_le (length name) 32 ≡ true = second.1 in
    grind (arith, nat_tests)

-- ---- calls

pub near : (time ticks : ℕ) → is_negative ticks ≡ false → IsNear time (Some (time + ticks))
near time ticks e d q =
    let is = some_same (time + ticks) d q in
    let few : ticks < 2 ^ 31 = grind (arith, nat_tests) in
    omega (arith, is, few)

module _ (k : KernelState) (c : Caller) where
  pub sleep_made : AreNumbered k.sched.threads → (ticks : ℕ) → Made k (sleep_row k c ticks)
  unfolding sleep_row
  sleep_made h ticks = test k (is_negative ticks) _ _ (λ t. fails k c errno.Einval) (λ t. test k (ticks == 0) _ _ (λ u. same k _ refl) (λ u. blocks k c h wait.Sleep (Some (k.time + ticks)) (near k.time ticks t) tt))

  pub ticks_made : Made k (ticks_row k c)
  unfolding ticks_row
  ticks_made = same k _ refl

  pub getenv_made : (name : List ℕ) (size : ℕ) → Made k (getenv_row k c name size)
  unfolding getenv_row
  getenv_made name size = by_variable (find (is_variable name) c.group.environment)
    where
      by_variable : (v : Option (List ℕ × List ℕ)) → Made k (value_out k c size v)
      by_variable None = fails k c errno.Enoent
      by_variable (Some v) = texts k c size v.1

  pub setenv_made : flat (slice_get k.groups c.place) ≡ Some c.group → (name value : List ℕ) (replace : ℕ) → length value ≤ 260 → Made k (setenv_row k c name value replace)
  unfolding setenv_row
  setenv_made there name value replace le =
      test k (not (is_variable_name name)) _ _ (λ t. fails k c errno.Einval)
      (λ t. test k (list_any (is_variable name) c.group.environment) _ _
      (λ u. test k (replace == 0) _ _ (λ v. same k _ refl) (λ v. quiet k _ (Sets c.place c.group (map (with_value name value) c.group.environment) there (λ h. replaced_short name value c.group.environment le h))))
      (λ u. test k (nat_le most_variables (length c.group.environment)) _ _ (λ v. fails k c errno.Enomem)
      (λ v. quiet k _ (Sets c.place c.group (c.group.environment ++ (name, value) ∷ []) there (λ h. added_short name value c.group.environment (name_short name t) le v h)))))

  pub unsetenv_made : flat (slice_get k.groups c.place) ≡ Some c.group → (name : List ℕ) → Made k (unsetenv_row k c name)
  unfolding unsetenv_row
  unsetenv_made there name =
      test k (not (is_variable_name name)) _ _ (λ t. fails k c errno.Einval) (λ t. quiet k _ (Sets c.place c.group (filter (λ v. not (is_variable name v)) c.group.environment) there (λ h. left_short name c.group.environment h)))

  pub env_made : (index size : ℕ) → Made k (env_row k c index size)
  unfolding env_row
  env_made index size = test k (is_negative index) _ _ (λ t. fails k c errno.Einval) (λ t. by_variable (find (is_nth_variable c.group.environment index) c.group.environment))
    where
      by_variable : (v : Option (List ℕ × List ℕ)) → Made k (variable_out k c size v)
      by_variable None = same k _ refl
      by_variable (Some v) = texts k c size _
