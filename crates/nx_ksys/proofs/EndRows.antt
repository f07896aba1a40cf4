-- A group or a thread ends: who waited for it goes on.
use Rattle.std.proofs.Common.{◌≡◌, ◌≢◌, ℕ, ◌%◌, ◌==◌, ⊎_elim, Bool, true, false, [], ◌∷◌, ◌++◌, length, map, Option, Some, None, refl, sym, ap, ◌∙◌, subst}
use mathlib.Core.Path.{fun_ext}
use Rattle.std.specs.Prelude.{slice_set, if◌then◌else◌}
use Rattle.std.proofs.lemmas.Bool.{cases_eq, and_parts}
use Rattle.nx_base.specs.declared.calls.KCall.{KCall}
use Rattle.nx_ksys.specs.declared.thread.Thread.{Thread}
use Rattle.nx_ksys.specs.declared.thread.Search.TheVariants as search
use Rattle.nx_ksys.specs.Threads.{flat, awaited, first_of, Woken, woken_with}
use Rattle.nx_ksys.specs.State.{Group, Code, ThreadValue, Ending, KernelState}
use Rattle.nx_ksys.specs.Answers.{Stays, Caller, int_out}
use Rattle.nx_ksys.specs.Descriptors.{without_idle}
use Rattle.nx_ksys.specs.Ends.{WithReplies, told_by, and_lost, refuse_lost, without_group, vanished, without_descriptors, nobodys, left_alone, recorded, hand_over, told_parent, end_of, end_group, exit_row, without_thread, gone, hand_value, end_thread, thread_exit_row}
use Rattle.nx_ksys.specs.ThreadTable.{ThreadRow}
use Rattle.nx_ksys.specs.Soundness.{IsSound}
use Rattle.nx_ksys.specs.TableLaws.{set_at, after_replies, unless_in, without, is_last}
use Rattle.nx_ksys.proofs.Standing.{eq_to, ne_from, length_map}
use Rattle.nx_ksys.proofs.Tables.{set_at_same, set_at_other, row_of}
use Rattle.nx_ksys.proofs.Dropping.{sound_without_thread, table_without_thread, sound_without_group, table_without_group}
use Rattle.nx_ksys.proofs.Waking.{AreFit, fit_append, replies_append, no_replies, fits_waitpid, fits_join, Wakes, wakes_with, first_stands, child_waits, child_asked, thread_waits, thread_asked, refused_wake}
use Rattle.nx_ksys.proofs.FileRows.{all_closed_keeps}
use Rattle.nx_ksys.proofs.Owing.{tab, tab_at, sound_at, Calls, IsReady, Owes, caller_row}

-- a state with replies, each of which was due
pub record Tells (k : KernelState) (told : WithReplies) : Type 0 where
  pub sound : IsSound told.to
  pub fit : AreFit (tab k) told.replies
  pub table : tab told.to ≡ after_replies (tab k) told.replies
  pub slots : length told.to.sched.threads ≡ length k.sched.threads

pub tells_nothing : (k l : KernelState) → IsSound l → tab l ≡ tab k → length l.sched.threads ≡ length k.sched.threads → Tells k (record { to = l; replies = [] })
tells_nothing k l sound same slots = record { sound = sound; fit = tt; table = same ∙ sym (no_replies (tab k)); slots = slots }

pub tells_woken : (k : KernelState) (w : Woken) → Wakes k.groups k.numbers k.sched w → Tells k (told_by k w)
tells_woken k w h = record { sound = h.sound; fit = h.fit; table = h.table; slots = h.slots }

-- and then those that wait for no child any more
lost_told : (k : KernelState) (parent : ℕ) (told : WithReplies) → Tells k told → Tells k (and_lost parent told)
lost_told k parent told h =
    let l = told.to in
    let w = refuse_lost l.groups l.codes parent (length l.sched.threads) l.sched in
    let r = refused_wake l.groups l.codes parent l.groups l.numbers (length l.sched.threads) l.sched h.sound in
    record {
      sound = r.sound;
      fit = fit_append told.replies w.replies (tab k) h.fit (subst (λ t. AreFit t w.replies) h.table r.fit);
      table = r.table ∙ ap (λ t. after_replies t w.replies) h.table ∙ sym (replies_append told.replies w.replies (tab k));
      slots = r.slots ∙ h.slots;
    }

handed : (k : KernelState) (code : Code) → IsSound k → (o : Option Thread) → first_of (search.Parent code.parent code.child) k.sched.threads ≡ o → Tells k (hand_over k code o)
handed k code sound None e = tells_nothing k (record k { codes = k.codes ++ code ∷ [] }) sound refl refl
handed k code sound (Some t) e =
    let f = first_stands (search.Parent code.parent code.child) k.sched.threads t e in
    let for = (and_parts _ _ f.passes).1 in
    let asked = child_asked code.child (awaited t.doing) t.asked for (let o = sound.each_thread f.slot t f.stands in o.agrees) in
    tells_woken k (woken_with k.sched t code.child (int_out code.code ∷ []))
    (wakes_with k.groups k.numbers k.sched f.slot t sound f.stands (child_waits code.child t.doing for) code.child (int_out code.code ∷ []) (fits_waitpid t.asked code.code asked))

parent_told : (k : KernelState) (code : Code) → IsSound k → Tells k (told_parent code k)
unfolding told_parent
parent_told k code sound = by_test (code.parent == 0)
  where
    by_test : (b : Bool) → Tells k (if b then record { to = k; replies = [] } else and_lost code.parent (hand_over k code (first_of (search.Parent code.parent code.child) k.sched.threads)))
    by_test true = tells_nothing k k sound refl refl
    by_test false = lost_told k code.parent _ (handed k code sound (first_of (search.Parent code.parent code.child) k.sched.threads) refl)

-- ---- the end of a group

-- the state with a group gone
record HasEnded (k : KernelState) (place : ℕ) (g : Group) (l : KernelState) : Type 0 where
  threads : l.sched.threads ≡ map (without_group g.number) k.sched.threads
  groups : l.groups ≡ map (nobodys g.number) (slice_set k.groups place None)
  numbers : l.numbers ≡ k.numbers

has_ended : (k : KernelState) (place : ℕ) (g : Group) (e : Ending) → HasEnded k place g (recorded e (left_alone place g.number (without_descriptors place (vanished g.number k))))
unfolding left_alone without_descriptors vanished without_idle
has_ended k place g e =
    let v = vanished g.number k in
    let d = all_closed_keeps 32 0 place v in
    record {
      threads = ap (λ s. s.threads) d.sched;
      groups = ap (λ gs. map (nobodys g.number) (slice_set gs place None)) d.groups;
      numbers = d.numbers;
    }

-- the end of the caller's group, in a table without it
pub record EndsIn (k : KernelState) (g : Group) (told : WithReplies) : Type 0 where
  pub sound : IsSound told.to
  pub fit : AreFit (without (tab k) g.number) told.replies
  pub table : tab told.to ≡ after_replies (without (tab k) g.number) told.replies
  pub slots : length told.to.sched.threads ≡ length k.sched.threads

module _ (k : KernelState) (c : Caller) (x : ThreadRow) (h : Calls k c) where
  group_ends : (code : ℕ) → EndsIn k c.group (end_group k c.place code)
  unfolding end_group
  group_ends code = subst (λ o. EndsIn k c.group (end_of k c.place code o)) (sym (ap flat h.lives)) ended
    where
      after : KernelState
      after = recorded (record { pid = c.group.number; name = c.group.program; code = code }) (left_alone c.place c.group.number (without_descriptors c.place (vanished c.group.number k)))

      ended : EndsIn k c.group (end_of k c.place code (Some c.group))
      ended =
          let e = has_ended k c.place c.group (record { pid = c.group.number; name = c.group.program; code = code }) in
          let s = sound_without_group k.sched.threads k.groups k.numbers c.place c.group h.sound h.lives in
          let sound = sound_at after (map (without_group c.group.number) k.sched.threads) (map (nobodys c.group.number) (slice_set k.groups c.place None)) k.numbers e.threads e.groups e.numbers s in
          let same = tab_at after (map (without_group c.group.number) k.sched.threads) (map (nobodys c.group.number) (slice_set k.groups c.place None)) e.threads e.groups
          ∙ fun_ext (table_without_group k.sched.threads k.groups k.numbers c.place c.group h.sound h.lives) in
          let p = parent_told after (record { parent = c.group.parent; child = c.group.number; code = code }) sound in
          record {
            sound = p.sound;
            fit = subst (λ t. AreFit t (told_parent (record { parent = c.group.parent; child = c.group.number; code = code }) after).replies) same p.fit;
            table = p.table ∙ ap (λ t. after_replies t (told_parent (record { parent = c.group.parent; child = c.group.number; code = code }) after).replies) same;
            slots = p.slots ∙ ap length e.threads ∙ length_map (without_group c.group.number) k.sched.threads;
          }

  -- the caller is gone with its group
  gone_with : IsReady k c.thread.number x → without (set_at (tab k) c.thread.number None) c.group.number ≡ without (tab k) c.group.number
  gone_with r = fun_ext (λ n. ⊎_elim
      (λ e. ap (unless_in c.group.number) (ap (set_at (tab k) c.thread.number None) e ∙ set_at_same (tab k) c.thread.number None)
      ∙ sym (ap (unless_in c.group.number) (ap (tab k) e ∙ r ∙ ap Some (sym (caller_row k c x h r)))
      ∙ ap (λ b. if b then None else Some (row_of k.sched.threads k.groups c.thread)) (eq_to c.thread.group c.group.number h.member)))
      (λ ne. ap (unless_in c.group.number) (set_at_other (tab k) c.thread.number n None ne)) (cases_eq n c.thread.number))

  pub exit_owes : (which : Option KCall) (value : ℕ) → is_last which ≡ true → Owes k c.thread.number x which (set_at (tab k) c.thread.number None) (exit_row k c value)
  unfolding exit_row
  exit_owes which value last =
      let e = group_ends (value % 256) in
      record {
        effect = λ r. (last, sym h.member ∙ ap (λ y. y.group) (caller_row k c x h r));
        fit = λ r. subst (λ t. AreFit t (end_group k c.place (value % 256)).replies) (sym (gone_with r)) e.fit;
        table = λ r. e.table ∙ ap (λ t. after_replies t (end_group k c.place (value % 256)).replies) (sym (gone_with r));
        sound = e.sound;
        slots = e.slots;
      }

  -- ---- the end of a thread

  handed_value : (l : KernelState) (v : ThreadValue) (number : ℕ) → IsSound l → (o : Option Thread) → first_of (search.Joiner number) l.sched.threads ≡ o → Tells l (hand_value l v o)
  handed_value l v number sound None e = tells_nothing l (record l { values = l.values ++ v ∷ [] }) sound refl refl
  handed_value l v number sound (Some t) e =
      let f = first_stands (search.Joiner number) l.sched.threads t e in
      let asked = thread_asked number (awaited t.doing) t.asked f.passes (let o = sound.each_thread f.slot t f.stands in o.agrees) in
      tells_woken l (woken_with l.sched t 0 (int_out v.value ∷ []))
      (wakes_with l.groups l.numbers l.sched f.slot t sound f.stands (thread_waits number t.doing f.passes) 0 (int_out v.value ∷ []) (fits_join t.asked v.value asked))

  alone_ends : (which : Option KCall) (value : ℕ) → c.thread.number ≢ c.group.number → Owes k c.thread.number x which (set_at (tab k) c.thread.number None) (let told = end_thread k c value in record { to = told.to; effect = Stays; replies = told.replies })
  alone_ends which value ne =
      let l = gone k c.thread.number in
      let v : ThreadValue = record { group = c.group.number; thread = c.thread.number; value = value } in
      let s = sound_without_thread k.sched.threads k.groups k.numbers h.slot c.thread h.sound h.stands (λ e. ne (e ∙ h.member)) in
      let same : tab l ≡ set_at (tab k) c.thread.number None = fun_ext (table_without_thread k.sched.threads k.groups k.numbers h.slot c.thread h.sound h.stands s) in
      let p = handed_value l v c.thread.number s (first_of (search.Joiner c.thread.number) l.sched.threads) refl in
      record {
        effect = λ r. tt;
        fit = λ r. subst (λ t. AreFit t (end_thread k c value).replies) same p.fit;
        table = λ r. p.table ∙ ap (λ t. after_replies t (end_thread k c value).replies) same;
        sound = p.sound;
        slots = p.slots ∙ length_map (without_thread c.thread.number) k.sched.threads;
      }

  pub thread_exit_owes : (which : Option KCall) (value : ℕ) → is_last which ≡ true → Owes k c.thread.number x which (set_at (tab k) c.thread.number None) (thread_exit_row k c value)
  unfolding thread_exit_row
  thread_exit_owes which value last = by_test (c.thread.number == c.group.number) refl
    where
      by_test : (b : Bool) → (c.thread.number == c.group.number) ≡ b → Owes k c.thread.number x which (set_at (tab k) c.thread.number None) (if b then exit_row k c value else (let told = end_thread k c value in record { to = told.to; effect = Stays; replies = told.replies }))
      by_test true e = exit_owes which value last
      by_test false e = alone_ends which value (ne_from c.thread.number c.group.number e)
