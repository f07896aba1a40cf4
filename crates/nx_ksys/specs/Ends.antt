-- The end of a thread and of a group, step by step.
use Rattle.std.specs.Prelude.{ℕ, zero, suc, ◌%◌, ◌==◌, ◌&&◌, ◌||◌, Bool, false, not, if◌then◌else◌, List, [], ◌∷◌, ◌++◌, length, map, filter, Option, Some, None, slice_get, slice_set}
use Rattle.std.specs.List.{list_any}
use Rattle.nx_base.specs.Calls.{Reply}
use Rattle.nx_base.specs.declared.errno.Errno.TheVariants.{Echild}
use Rattle.nx_ksys.specs.declared.thread.Wait.{Wait}
use Rattle.nx_ksys.specs.declared.thread.Wait.TheVariants as wait
use Rattle.nx_ksys.specs.declared.thread.Thread.{Thread}
use Rattle.nx_ksys.specs.declared.thread.Search.TheVariants as search
use Rattle.nx_ksys.specs.Threads.{Schedule, flat, awaited, comes_before, best_from, first_of, Woken, none_woken, woken_then, woken_with, woken_failing}
use Rattle.nx_ksys.specs.State.{Group, Message, Code, ThreadValue, Ending, KernelState}
use Rattle.nx_ksys.specs.Descriptors.{per_group, closed_from, without_idle}
use Rattle.nx_ksys.specs.Answers.{Stays, EndsGroup, Stepped, Caller, int_out, with_threads}

-- ---- children, and who waits for them

abbrev pub is_child : ℕ → ℕ → Option Group → Bool
is_child parent child None = false
is_child parent child (Some g) = g.parent == parent && g.number == child

abbrev pub is_any_child : ℕ → Option Group → Bool
is_any_child parent None = false
is_any_child parent (Some g) = g.parent == parent

abbrev pub is_code : ℕ → ℕ → Code → Bool
is_code parent child c = c.parent == parent && c.child == child

abbrev pub is_any_code : ℕ → Code → Bool
is_any_code parent c = c.parent == parent

-- a child that lives, or whose code wasn't taken
abbrev pub has_child : List (Option Group) → List Code → ℕ → ℕ → Bool
has_child groups codes parent child = list_any (is_child parent child) groups || list_any (is_code parent child) codes

abbrev pub has_any_child : List (Option Group) → List Code → ℕ → Bool
has_any_child groups codes parent = list_any (is_any_child parent) groups || list_any (is_any_code parent) codes

-- a wait for a child where there is none to wait for
abbrev pub is_lost_wait : List (Option Group) → List Code → ℕ → Option Wait → Bool
is_lost_wait groups codes parent (Some (wait.Child child)) = not (has_child groups codes parent child)
is_lost_wait groups codes parent (Some wait.AnyChild) = not (has_any_child groups codes parent)
is_lost_wait groups codes parent other = false

abbrev pub is_lost : List (Option Group) → List Code → ℕ → Thread → Bool
is_lost groups codes parent t = t.group == parent && is_lost_wait groups codes parent (awaited t.doing)

-- of a group's threads that wait for no child any more the first, by the schedule's order
unfoldable pub first_lost : List (Option Group) → List Code → ℕ → Schedule → Option Thread
first_lost groups codes parent s = best_from (is_lost groups codes parent) comes_before None s.threads

-- a state with replies
pub record WithReplies : Type 0 where
  pub to : KernelState
  pub replies : List Reply

abbrev pub refuse_first : Schedule → (Schedule → Woken) → Option Thread → Woken
refuse_first s more None = none_woken s
refuse_first s more (Some t) = woken_then (woken_failing s t Echild) more

-- at most so many threads that wait for no child any more go on, one after the other
abbrev pub refuse_lost : List (Option Group) → List Code → ℕ → ℕ → Schedule → Woken
refuse_lost groups codes parent zero s = none_woken s
refuse_lost groups codes parent (suc n) s = refuse_first s (refuse_lost groups codes parent n) (first_lost groups codes parent s)

-- and then those of a group that wait for no child any more
abbrev pub and_lost : ℕ → WithReplies → WithReplies
and_lost parent told =
    let w = refuse_lost told.to.groups told.to.codes parent (length told.to.sched.threads) told.to.sched in
    record { to = record told.to { sched = w.sched }; replies = told.replies ++ w.replies }

-- the state after threads went on
abbrev pub told_by : KernelState → Woken → WithReplies
told_by k w = record { to = record k { sched = w.sched }; replies = w.replies }

-- ---- the end of a group

abbrev pub without_group : ℕ → Option Thread → Option Thread
without_group group None = None
without_group group (Some t) = if t.group == group then None else Some t

-- the message that a thread of the group waits to send is given up
abbrev pub kept_message : ℕ → Option Thread → Option Message → Option Message
kept_message group None m = m
kept_message group (Some t) m = if t.group == group then None else m

abbrev pub kept_messages : ℕ → List (Option Thread) → List (Option Message) → List (Option Message)
kept_messages group [] ms = ms
kept_messages group (t ∷ ts) [] = []
kept_messages group (t ∷ ts) (m ∷ ms) = kept_message group t m ∷ kept_messages group ts ms

-- its threads vanish, with the messages that they wait to send, the values that nobody took, and the queues and
-- semaphores that lived by their waits alone
unfoldable pub vanished : ℕ → KernelState → KernelState
vanished group k = without_idle (record (with_threads k (map (without_group group) k.sched.threads)) {
  sending = kept_messages group k.sched.threads k.sending;
  values = filter (λ v. not (v.group == group)) k.values;
})

-- its descriptors close, from 0 up
unfoldable pub without_descriptors : ℕ → KernelState → KernelState
without_descriptors place k = closed_from per_group 0 place k

abbrev pub nobodys : ℕ → Option Group → Option Group
nobodys parent None = None
nobodys parent (Some g) = if g.parent == parent then Some (record g { parent = 0 }) else Some g

-- its children are nobody's, and it is gone
unfoldable pub left_alone : ℕ → ℕ → KernelState → KernelState
left_alone place group k = record k { groups = map (nobodys group) (slice_set k.groups place None); codes = filter (λ c. not (c.parent == group)) k.codes }

-- its end is recorded
abbrev pub recorded : Ending → KernelState → KernelState
recorded e k = record k { ended = k.ended ++ e ∷ [] }

-- the first of the parent's threads that wait for it takes its code; without one the code is kept
abbrev pub hand_over : KernelState → Code → Option Thread → WithReplies
hand_over k code None = record { to = record k { codes = k.codes ++ code ∷ [] }; replies = [] }
hand_over k code (Some t) = told_by k (woken_with k.sched t code.child (int_out code.code ∷ []))

unfoldable pub told_parent : Code → KernelState → WithReplies
told_parent code k =
    if code.parent == 0 then record { to = k; replies = [] }
    else and_lost code.parent (hand_over k code (first_of (search.Parent code.parent code.child) k.sched.threads))

abbrev pub end_of : KernelState → ℕ → ℕ → Option Group → WithReplies
end_of k place code None = record { to = k; replies = [] }
end_of k place code (Some g) =
    told_parent (record { parent = g.parent; child = g.number; code = code })
    (recorded (record { pid = g.number; name = g.program; code = code }) (left_alone place g.number (without_descriptors place (vanished g.number k))))

-- the group at a place ends with a code
unfoldable pub end_group : KernelState → ℕ → ℕ → WithReplies
end_group k place code = end_of k place code (flat (slice_get k.groups place))

-- the caller's group ends, with a value modulo 256
unfoldable pub exit_row : KernelState → Caller → ℕ → Stepped
exit_row k c value = let told = end_group k c.place (value % 256) in record { to = told.to; effect = EndsGroup c.group.number; replies = told.replies }

-- ---- the end of a thread

abbrev pub is_thread : ℕ → Option Thread → Bool
is_thread number None = false
is_thread number (Some t) = t.number == number

abbrev pub without_thread : ℕ → Option Thread → Option Thread
without_thread number t = if is_thread number t then None else t

abbrev pub gone : KernelState → ℕ → KernelState
gone k number = with_threads k (map (without_thread number) k.sched.threads)

-- a thread that waits for it takes its value; without one the value is kept
abbrev pub hand_value : KernelState → ThreadValue → Option Thread → WithReplies
hand_value k v None = record { to = record k { values = k.values ++ v ∷ [] }; replies = [] }
hand_value k v (Some t) = told_by k (woken_with k.sched t 0 (int_out v.value ∷ []))

abbrev pub end_thread : KernelState → Caller → ℕ → WithReplies
end_thread k c value =
    hand_value (gone k c.thread.number) (record { group = c.group.number; thread = c.thread.number; value = value })
    (first_of (search.Joiner c.thread.number) (gone k c.thread.number).sched.threads)

-- the main thread's end is its group's
unfoldable pub thread_exit_row : KernelState → Caller → ℕ → Stepped
thread_exit_row k c value =
    if c.thread.number == c.group.number then exit_row k c value
    else (let told = end_thread k c value in record { to = told.to; effect = Stays; replies = told.replies })
