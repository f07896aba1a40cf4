-- The rows of calls that wait for a child, and of a thread's end, by their tests.
use Rattle.std.proofs.Common.{◌≡◌, ◌≢◌, ℕ, ◌==◌, Bool, true, false, List, sym, ap, subst, ◌∙◌}
use Rattle.std.specs.Prelude.{◌||◌, if◌then◌else◌}
use Rattle.std.specs.List.{find}
use Rattle.nx_base.specs.Calls.{Reply}
use Rattle.nx_base.specs.declared.errno.Errno.TheVariants.{Einval}
use Rattle.nx_ksys.specs.declared.thread.Wait.TheVariants as wait
use Rattle.nx_ksys.specs.State.{KernelState}
use Rattle.nx_ksys.specs.Telling.{minus_one}
use Rattle.nx_ksys.specs.Ends.{has_child, has_any_child, is_code, is_any_code, exit_row, end_thread, thread_exit_row}
use Rattle.nx_ksys.specs.Answers.{Effect, Stays, Stepped, Caller, failed}
use Rattle.nx_ksys.specs.GroupCalls.{wait_child, waitpid_row}
use Rattle.nx_ksys.proofs.Standing.{ne_to, eq_to}
use Rattle.nx_kgroups.specs.Outcomes.{Leaves}
use Rattle.nx_kgroups.specs.Codes.{waits_wrongly}

pub or_true : (a x y : Bool) → a ≡ x → a ≡ true → a ≡ (x || y)
or_true a x y e t = t ∙ ap (λ b. b || y) (sym t ∙ e)

pub or_false : (a b x y : Bool) → a ≡ x → a ≡ false → b ≡ y → b ≡ (x || y)
or_false a b x y e t h = h ∙ ap (λ b. b || y) (sym t ∙ e)

module _ (k : KernelState) (c : Caller) (pid option : ℕ) where
  abbrev any_or_one : Bool → Stepped
  any_or_one any =
      if any then wait_child k c wait.AnyChild option (has_any_child k.groups k.codes c.group.number) (find (is_any_code c.group.number) k.codes)
      else wait_child k c (wait.Child pid) option (has_child k.groups k.codes c.group.number pid) (find (is_code c.group.number pid) k.codes)

  abbrev tested : Bool → Bool → Stepped
  tested wrong any = if wrong then failed k c Einval else any_or_one any

  pub wrong_row : (wrong : Bool) → wrong ≡ waits_wrongly pid option → wrong ≡ true → waitpid_row k c pid option ≡ failed k c Einval
  unfolding waitpid_row
  wrong_row wrong e t = ap (λ b. tested b (pid == minus_one)) (sym e ∙ t)

  pub any_row : (wrong : Bool) → wrong ≡ waits_wrongly pid option → wrong ≡ false → pid ≡ minus_one
      → waitpid_row k c pid option ≡ wait_child k c wait.AnyChild option (has_any_child k.groups k.codes c.group.number) (find (is_any_code c.group.number) k.codes)
  unfolding waitpid_row
  any_row wrong e t m = ap (λ b. tested b (pid == minus_one)) (sym e ∙ t) ∙ ap any_or_one (eq_to pid minus_one m)

  pub one_row : (wrong : Bool) → wrong ≡ waits_wrongly pid option → wrong ≡ false → pid ≢ minus_one
      → waitpid_row k c pid option ≡ wait_child k c (wait.Child pid) option (has_child k.groups k.codes c.group.number pid) (find (is_code c.group.number pid) k.codes)
  unfolding waitpid_row
  one_row wrong e t m = ap (λ b. tested b (pid == minus_one)) (sym e ∙ t) ∙ ap any_or_one (ne_to pid minus_one m)

-- ---- the end of a thread

pub leaves_as : (now : KernelState) (before after : List Reply) (left : Effect) (row row' : Stepped) → row ≡ row' → Leaves now before after left row' → Leaves now before after left row
leaves_as now before after left row row' e l = subst (Leaves now before after left) (sym e) l

module _ (k : KernelState) (c : Caller) (value : ℕ) where
  abbrev thread_ends : Stepped
  thread_ends = let told = end_thread k c value in record { to = told.to; effect = Stays; replies = told.replies }

  abbrev main_or_other : Bool → Stepped
  main_or_other main = if main then exit_row k c value else thread_ends

  pub main_row : c.thread.number ≡ c.group.number → thread_exit_row k c value ≡ exit_row k c value
  unfolding thread_exit_row
  main_row e = ap main_or_other (eq_to c.thread.number c.group.number e)

  pub other_row : c.thread.number ≢ c.group.number → thread_exit_row k c value ≡ thread_ends
  unfolding thread_exit_row
  other_row ne = ap main_or_other (ne_to c.thread.number c.group.number ne)
