-- The changes of which ends, and calls on groups and threads, are made.
use Rattle.std.proofs.Common.{sym}
use Rattle.nx_ksys.proofs.Standing.{none_some}
use Rattle.std.proofs.Common.{◌<◌, arith, zero, suc}
use Rattle.std.proofs.Common.{◌≡◌, ℕ, zero, suc, ◌≤◌, ◌%◌, ◌==◌, ◌&&◌, ◌||◌, Bool, true, false, List, [], ◌∷◌, length, map, Option, Some, None, Ok, Err, refl, ap, ◌∙◌}
use Rattle.std.specs.Prelude.{not, nat_le, nat_lt, filter, Result, slice_get, if◌then◌else◌}
use Rattle.std.specs.List.{find}
use Rattle.std.proofs.lemmas.Bool.{and_parts}
use Rattle.nx_base.specs.declared.errno.Errno.{Errno}
use Rattle.nx_base.specs.declared.errno.Errno.TheVariants as errno
use Rattle.nx_ksys.specs.Telling.{minus_one}
use Rattle.nx_ksys.specs.declared.node.Node.{Node}
use Rattle.nx_ksys.specs.declared.node.NodeKind.{NodeKind}
use Rattle.nx_ksys.specs.declared.node.NodeKind.TheVariants as node
use Rattle.nx_ksys.specs.declared.thread.Thread.{Thread}
use Rattle.nx_ksys.specs.declared.thread.Wait.{Wait}
use Rattle.nx_ksys.specs.declared.thread.Wait.TheVariants as wait
use Rattle.nx_ksys.specs.declared.thread.Search.TheVariants as search
use Rattle.nx_ksys.specs.Threads.{Schedule, flat, awaited, is_for_child, comes_before, first_of, free_slot, thread_of, wake, with_error}
use Rattle.nx_ksys.specs.State.{Group, Code, ThreadValue, Ending, KernelState}
use Rattle.nx_ksys.specs.Paths.{resolved, node_at, last_part}
use Rattle.nx_ksys.specs.Descriptors.{without_idle, closed_from}
use Rattle.nx_ksys.specs.Answers.{Caller, is_negative, with_threads}
use Rattle.nx_ksys.specs.Ends.{WithReplies, has_child, has_any_child, is_code, is_any_code, is_lost_wait, is_lost, first_lost, refuse_first, refuse_lost, and_lost, vanished, without_descriptors, without_group, kept_messages, left_alone, recorded, hand_over, told_parent, end_of, end_group, exit_row, gone, hand_value, thread_exit_row}
use Rattle.nx_ksys.specs.GroupCalls.{is_ended, spawn_priority, most_numbers, arguments_of, spawn_at, spawn_kind, spawn_node, spawn_path, spawn_row, wait_for, wait_child, waitpid_row, arg_out, arg_row, nth_group, status_of, ps_out, ps_row}
use Rattle.nx_ksys.specs.ThreadCalls.{set_priority, setpriority_row, yield_row, thread_at, thread_row, is_value, may_join, join_live, join_value, join_row, errno_row}
use Rattle.nx_ksys.specs.Soundness.{Stands}
use Rattle.nx_ksys.proofs.Waking.{best_found, first_stands, child_waits, thread_waits, awaited_waits}
use Rattle.nx_kbounds.proofs.Changes.{Change, Same, Fails, Wakes, Prioritises, Yields, ThreadBegins, GroupBegins, ThreadGoes, ThreadLeaves, Vanishes, Idles, GroupGoes, GroupLeaves, CodeTaken, ValueTaken, AreNumbered}
use Rattle.nx_kbounds.proofs.Holding.{all_closed_groups, all_closed_own}
use Rattle.nx_kbounds.specs.Leading.{WaitStands}
use Rattle.nx_ksys.specs.Soundness.{AreSound, IsSound}
use Rattle.nx_ksys.proofs.Starting.{no_group}
use Rattle.nx_ksys.proofs.Standing.{free_place, within}
use Rattle.nx_kbounds.proofs.Changes.{AreClosed}
use Rattle.nx_kbounds.proofs.Walking.{Made, quiet, once, followed, test, fails, same, texts, blocks, never, all_closed_change}
use Rattle.nx_kbounds.proofs.ShortTexts.{resolved_short, arguments_short}

-- ---- what a closing leaves alone

vanished_groups : (group : ℕ) (k : KernelState) → (vanished group k).groups ≡ k.groups
unfolding vanished without_idle
vanished_groups group k = refl

-- ---- places

-- where no thread has a slot, no group has its place
free_group : (ts : List (Option Thread)) (gs : List (Option Group)) (num slot : ℕ) → AreSound ts gs num → slice_get ts slot ≡ Some None → slice_get gs slot ≡ Some None
free_group ts gs num slot sound e = by_group (slice_get gs slot) refl (some_at gs slot (let lt = within ts slot None e in let same = sound.slots in omega (arith, lt, same)))
  where
    some_at : {A : Type 0} (xs : List A) (p : ℕ) → p < length xs → (x : A) × (slice_get xs p ≡ Some x)
    some_at [] p lt = absurd (omega (arith, lt))
    some_at (x ∷ xs) zero lt = (x, refl)
    some_at (x ∷ xs) (suc p) lt = some_at xs p (omega (arith, lt))

    by_group : (o : Option (Option Group)) → slice_get gs slot ≡ o → (x : Option Group) × (slice_get gs slot ≡ Some x) → slice_get gs slot ≡ Some None
    by_group None f x = absurd (none_some x.0 (sym f ∙ x.1))
    by_group (Some None) f x = f
    by_group (Some (Some g)) f x = absurd (no_group ts gs num slot sound e slot g f refl)

-- ---- ends

abbrev with_sched : KernelState → Schedule → KernelState
with_sched k s = record k { sched = s }

lost_wakes : (groups : List (Option Group)) (codes : List Code) (parent : ℕ) (k : KernelState) (t : Thread) → first_lost groups codes parent k.sched ≡ Some t → Change 0 k (with_sched k (wake k.sched t.number))
unfolding first_lost
lost_wakes groups codes parent k t e =
    let f = best_found (is_lost groups codes parent) comes_before k.sched.threads t e in
    let both = and_parts (t.group == parent) (is_lost_wait groups codes parent (awaited t.doing)) f.passes in
    Wakes t f.slot f.stands (awaited_waits (is_lost_wait groups codes parent) refl t.doing both.1)

lost_change : (groups : List (Option Group)) (codes : List Code) (parent n : ℕ) (k : KernelState) → Change 0 k (with_sched k (refuse_lost groups codes parent n k.sched).sched)
lost_change groups codes parent zero k = Same
lost_change groups codes parent (suc n) k = by_first (first_lost groups codes parent k.sched) refl (λ l. lost_change groups codes parent n l)
  where
    by_first : (o : Option Thread) → first_lost groups codes parent k.sched ≡ o → ((l : KernelState) → Change 0 l (with_sched l (refuse_lost groups codes parent n l.sched).sched)) → Change 0 k (with_sched k (refuse_first k.sched (refuse_lost groups codes parent n) o).sched)
    by_first None e more = Same
    by_first (Some t) e more =
        let l = with_sched k (wake k.sched t.number) in
        let m = with_sched k (with_error (wake k.sched t.number) t.number errno.Echild) in
        followed k m _ (followed k l m (lost_wakes groups codes parent k t e) (Fails t.number errno.Echild)) (more m)

and_lost_change : (k : KernelState) (parent : ℕ) (told : WithReplies) → Change 0 k told.to → Change 0 k (and_lost parent told).to
and_lost_change k parent told a = followed k told.to _ a (lost_change told.to.groups told.to.codes parent (length told.to.sched.threads) told.to)

-- the group is gone, and its parent is told
told_change : (k : KernelState) (place : ℕ) (g : Group) (e : Ending) (code : Code) → flat (slice_get k.groups place) ≡ Some g → AreClosed place k.descriptors → Change 0 k (told_parent code (recorded e (left_alone place g.number k))).to
unfolding told_parent
told_change k place g e code there none = by_parent (code.parent == 0) (first_of (search.Parent code.parent code.child) m.sched.threads) refl
  where
    m : KernelState
    m = recorded e (left_alone place g.number k)

    handed : (t : Option Thread) → first_of (search.Parent code.parent code.child) m.sched.threads ≡ t → Change 0 k (hand_over m code t).to
    handed None f = GroupLeaves place g e code there none
    handed (Some t) f =
        let s = first_stands (search.Parent code.parent code.child) m.sched.threads t f in
        let both = and_parts (t.group == code.parent) (is_for_child code.child (awaited t.doing)) s.passes in
        followed k m _ (GroupGoes place g e there none) (Wakes t s.slot s.stands (child_waits code.child t.doing both.1))

    by_parent : (b : Bool) (t : Option Thread) → first_of (search.Parent code.parent code.child) m.sched.threads ≡ t → Change 0 k (let told : WithReplies = if b then record { to = m; replies = [] } else and_lost code.parent (hand_over m code t) in told).to
    by_parent true t f = GroupGoes place g e there none
    by_parent false t f = and_lost_change k code.parent (hand_over m code t) (handed t f)

vanished_change : (group : ℕ) (k : KernelState) → Change 0 k (vanished group k)
unfolding vanished
vanished_change group k =
    followed k (record (with_threads k (map (without_group group) k.sched.threads)) { sending = kept_messages group k.sched.threads k.sending; values = filter (λ v. not (v.group == group)) k.values }) _ (Vanishes group) Idles

pub end_change : (k : KernelState) (place code : ℕ) → Change 0 k (end_group k place code).to
unfolding end_group without_descriptors
end_change k place code = by_group (flat (slice_get k.groups place)) refl
  where
    by_group : (g : Option Group) → flat (slice_get k.groups place) ≡ g → Change 0 k (end_of k place code g).to
    by_group None e = Same
    by_group (Some g) e =
        let v = vanished g.number k in
        let d = closed_from 32 0 place v in
        let there : flat (slice_get d.groups place) ≡ Some g = ap (λ gs. flat (slice_get gs place)) (all_closed_groups 32 0 place v ∙ vanished_groups g.number k) ∙ e in
        followed k d _ (followed k v d (vanished_change g.number k) (all_closed_change 32 0 place v))
        (told_change d place g (record { pid = g.number; name = g.program; code = code }) (record { parent = g.parent; child = g.number; code = code }) there (λ fd few. all_closed_own 32 0 place v fd (omega arith) (omega (arith, few)) few))

module _ (k : KernelState) (c : Caller) where
  pub exit_made : (value : ℕ) → Made k (exit_row k c value)
  unfolding exit_row
  exit_made value = quiet k _ (end_change k c.place (value % 256))

  pub thread_exit_made : (slot : ℕ) → Stands k.sched.threads slot c.thread → (value : ℕ) → Made k (thread_exit_row k c value)
  unfolding thread_exit_row
  thread_exit_made slot stands value =
      test k (c.thread.number == c.group.number) _ _ (λ t. exit_made value) (λ t. quiet k _ (by_joiner (record { group = c.group.number; thread = c.thread.number; value = value }) (first_of (search.Joiner c.thread.number) (gone k c.thread.number).sched.threads) refl))
    where
      by_joiner : (v : ThreadValue) (t : Option Thread) → first_of (search.Joiner c.thread.number) (gone k c.thread.number).sched.threads ≡ t → Change 0 k (hand_value (gone k c.thread.number) v t).to
      by_joiner v None e = ThreadLeaves c.thread slot v stands
      by_joiner v (Some t) e =
          let f = first_stands (search.Joiner c.thread.number) (gone k c.thread.number).sched.threads t e in
          followed k (gone k c.thread.number) _ (ThreadGoes c.thread slot stands) (Wakes t f.slot f.stands (thread_waits c.thread.number t.doing f.passes))

  -- ---- groups

  pub spawn_made : IsSound k → flat (slice_get k.groups c.place) ≡ Some c.group → (path text : List ℕ) (word : ℕ) → length text ≤ 260 → Made k (spawn_row k c path text word)
  unfolding spawn_row
  spawn_made sound there path text word le =
      test k (not (is_ended text) || nat_lt 255 word) _ _ (λ t. fails k c errno.Einval) (λ t. by_path (spawn_priority word) (resolved k.tree.entries c.group.directory path) refl)
    where
      by_slot : (program priority : ℕ) (at : List ℕ) → length at ≤ 255 → (slot : Option ℕ) → free_slot k.sched.threads ≡ slot → Made k (spawn_at k c program priority (last_part [] at ∷ arguments_of text) slot)
      by_slot program priority at short None e = fails k c errno.Eagain
      by_slot program priority at short (Some slot) e =
          test k (nat_le most_numbers k.numbers) _ _ (λ t. fails k c errno.Eagain) (λ t. once k _ (GroupBegins c slot program priority (last_part [] at ∷ arguments_of text) e t there (arguments_short at text short le) (free_group k.sched.threads k.groups k.numbers slot sound (free_place k.sched.threads slot e))))

      by_kind : (at : List ℕ) → length at ≤ 255 → (priority : ℕ) (n : NodeKind) → Made k (spawn_kind k c at text priority n)
      by_kind at short priority node.Directory = fails k c errno.Einval
      by_kind at short priority (node.File place) = fails k c errno.Einval
      by_kind at short priority node.Console = fails k c errno.Einval
      by_kind at short priority node.Null = fails k c errno.Einval
      by_kind at short priority (node.Program program) = by_slot program priority at short (free_slot k.sched.threads) refl
      by_kind at short priority (node.Queue place) = fails k c errno.Einval

      by_node : (at : List ℕ) → length at ≤ 255 → (priority : ℕ) (n : Option Node) → Made k (spawn_node k c at text priority n)
      by_node at short priority None = fails k c errno.Enoent
      by_node at short priority (Some n) = by_kind at short priority n.kind

      by_path : (priority : ℕ) (r : Result (List ℕ) Errno) → resolved k.tree.entries c.group.directory path ≡ r → Made k (spawn_path k c text priority r)
      by_path priority (Err why) e = fails k c why
      by_path priority (Ok at) e = by_node at (resolved_short k.tree.entries c.group.directory path at e) priority (node_at k.tree.entries at)

  pub waitpid_made : AreNumbered k.sched.threads → (pid option : ℕ) → Made k (waitpid_row k c pid option)
  unfolding waitpid_row
  waitpid_made numbered pid option =
      test k (pid == 0 || (is_negative pid && not (pid == minus_one)) || nat_lt 1 option) _ _ (λ t. fails k c errno.Einval)
      (λ t. test k (pid == minus_one) _ _ (λ u. by_code wait.AnyChild tt (has_any_child k.groups k.codes c.group.number) (find (is_any_code c.group.number) k.codes))
      (λ u. by_code (wait.Child pid) tt (has_child k.groups k.codes c.group.number pid) (find (is_code c.group.number pid) k.codes)))
    where
      waiting : (for : Wait) → WaitStands k.queues k.semaphores (Some for) → Made k (wait_for k c for option)
      waiting for awaits = test k (option == 1) _ _ (λ t. same k _ refl) (λ t. blocks k c numbered for None (never k.time) awaits)

      by_code : (for : Wait) → WaitStands k.queues k.semaphores (Some for) → (there : Bool) (code : Option Code) → Made k (wait_child k c for option there code)
      by_code for awaits there (Some code) = quiet k _ (CodeTaken code)
      by_code for awaits true None = waiting for awaits
      by_code for awaits false None = fails k c errno.Echild

  pub arg_made : (index size : ℕ) → Made k (arg_row k c index size)
  unfolding arg_row
  arg_made index size = by_argument (slice_get c.group.arguments index)
    where
      by_argument : (a : Option (List ℕ)) → Made k (arg_out k c size a)
      by_argument None = fails k c errno.Einval
      by_argument (Some a) = texts k c size a

  pub ps_made : (index size : ℕ) → Made k (ps_row k c index size)
  unfolding ps_row
  ps_made index size = test k (is_negative index) _ _ (λ t. fails k c errno.Einval) (λ t. by_group (nth_group k.groups index))
    where
      by_group : (g : Option Group) → Made k (ps_out k c size g)
      by_group None = same k _ refl
      by_group (Some g) = texts k c size (status_of k g)

  -- ---- threads

  pub priority_made : (thread priority : ℕ) → Made k (setpriority_row k c thread priority)
  unfolding setpriority_row
  priority_made thread priority = by_thread (thread_of k.sched.threads (if thread == 0 then c.thread.number else thread))
    where
      by_thread : (t : Option Thread) → Made k (set_priority k c priority t)
      by_thread None = fails k c errno.Einval
      by_thread (Some t) = test k (not (t.group == c.group.number) || priority == 0 || nat_lt 255 priority) _ _ (λ u. fails k c errno.Einval) (λ u. once k _ (Prioritises t.number priority))

  pub yield_made : Made k (yield_row k c)
  unfolding yield_row
  yield_made = once k _ (Yields c.thread.number)

  pub thread_made : Made k (thread_row k c)
  unfolding thread_row
  thread_made = by_slot (free_slot k.sched.threads) refl
    where
      by_slot : (slot : Option ℕ) → free_slot k.sched.threads ≡ slot → Made k (thread_at k c slot)
      by_slot None e = fails k c errno.Eagain
      by_slot (Some slot) e = test k (nat_le most_numbers k.numbers) _ _ (λ t. fails k c errno.Eagain) (λ t. once k _ (ThreadBegins slot c.group.number c.thread.priority e t))

  pub join_made : AreNumbered k.sched.threads → (thread : ℕ) → Made k (join_row k c thread)
  unfolding join_row
  join_made numbered thread = by_value (find (is_value c.group.number thread) k.values)
    where
      by_thread : (t : Option Thread) → Made k (join_live k c t)
      by_thread None = fails k c errno.Einval
      by_thread (Some t) = test k (may_join k c t) _ _ (λ u. blocks k c numbered (wait.Thread t.number) None (never k.time) tt) (λ u. fails k c errno.Einval)

      by_value : (v : Option ThreadValue) → Made k (join_value k c thread v)
      by_value None = by_thread (thread_of k.sched.threads thread)
      by_value (Some v) = quiet k _ (ValueTaken v)

  pub errno_made : Made k (errno_row k c)
  unfolding errno_row
  errno_made = same k _ refl
