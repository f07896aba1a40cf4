-- A program or a thread starts.
use Rattle.std.proofs.Common.{◌≡◌, ◌≢◌, ℕ, zero, suc, ◌+◌, ◌<◌, ◌≤◌, ◌==◌, ◌||◌, ⊎_elim, Bool, true, false, List, [], ◌∷◌, length, Option, Some, None, Ok, Err, refl, sym, ap, ◌∙◌, subst, arith}
use Rattle.std.specs.Prelude.{nat_le, nat_lt, not, slice_get, slice_set, if◌then◌else◌, Result, pos}
use mathlib.Core.Path.{fun_ext}
use Rattle.std.specs.List.{list_any}
use Rattle.std.proofs.lemmas.Bool.{cases_eq, not-true}
use Rattle.std.proofs.lemmas.Bool.Decides.{nat_tests}
use Rattle.nx_base.specs.declared.calls.KCall.TheVariants as call
use Rattle.nx_base.specs.declared.errno.Errno.{Errno}
use Rattle.nx_base.specs.declared.errno.Errno.TheVariants as errno
use Rattle.nx_ksys.specs.declared.node.Node.{Node}
use Rattle.nx_ksys.specs.declared.node.NodeKind.{NodeKind}
use Rattle.nx_ksys.specs.declared.node.NodeKind.TheVariants as node
use Rattle.nx_ksys.specs.declared.thread.Doing.TheVariants.{Ready}
use Rattle.nx_ksys.specs.declared.thread.Thread.{Thread}
use Rattle.nx_ksys.specs.Telling.{reply}
use Rattle.nx_ksys.specs.Threads.{free_slot}
use Rattle.nx_ksys.specs.State.{Group, KernelState}
use Rattle.nx_ksys.specs.Paths.{resolved, node_at, last_part}
use Rattle.nx_ksys.specs.Answers.{Start, Begins, Caller, group_of, failed}
use Rattle.nx_ksys.specs.GroupCalls.{arguments_of, is_ended, spawn_priority, most_numbers, nothing_asked, with_new_thread, with_new_group, has_program, is_fresh, spawned, spawn_at, spawn_kind, spawn_node, spawn_path, spawn_row}
use Rattle.nx_ksys.specs.ThreadCalls.{thread_at, thread_row}
use Rattle.nx_ksys.specs.ThreadTable.{ThreadRow, program_of}
use Rattle.nx_ksys.specs.Soundness.{IsSound}
use Rattle.nx_ksys.specs.TableLaws.{set_at, waiting, ready, after_replies, started_row, IsStart}
use Rattle.nx_ksys.proofs.Standing.{some_same, none_some, off_on, set_same, set_other, set_stood, within, length_set, free_place, eq_to, ne_to}
use Rattle.nx_ksys.proofs.Tables.{set_at_same, set_at_other, set_id, set_swap, group_only, entry_of}
use Rattle.nx_ksys.proofs.Starting.{Hosts, sound_started, table_started, elsewhere, no_group, kept_main}
use Rattle.nx_ksys.proofs.Waking.{AreFit, no_replies, call_of, nothing_fits}
use Rattle.nx_ksys.proofs.Owing.{tab, Calls, IsReady, Lawful, waits_table, either, caller_replied, caller_fits, fails, caller_row}

none_passes : {A : Type 0} (test : A → Bool) (xs : List A) (p : ℕ) (y : A) → list_any test xs ≡ false → slice_get xs p ≡ Some y → test y ≡ false
none_passes test [] p y e h = absurd (none_some y h)
none_passes test (z ∷ xs) zero y e h = ap test (sym (some_same z y h)) ∙ first (test z) (list_any test xs) e
  where
    first : (a b : Bool) → (a || b) ≡ false → a ≡ false
    first true b q = q
    first false b q = refl
none_passes test (z ∷ xs) (suc p) y e h = none_passes test xs p y (rest (test z) (list_any test xs) e) h
  where
    rest : (a b : Bool) → (a || b) ≡ false → b ≡ false
    rest true b q = absurd cc
    rest false b q = q

module _ (k : KernelState) (c : Caller) (x : ThreadRow) (h : Calls k c) where
  given : (n : ℕ) (y : ThreadRow) → tab k n ≡ Some y → n ≤ k.numbers
  given n y q =
      let e = entry_of k.sched.threads k.groups k.numbers n y h.sound q in
      let m = (h.sound.each_thread e.slot e.thread e.stands).most in
      let i = e.number in omega (arith, m, i)

  -- the new number isn't the caller's
  apart : (st : Start) → IsStart k (waits_table k c x) x c.asked.call st → IsReady k c.thread.number x → c.thread.number ≢ st.thread
  apart st start r e = let n = start.number in let g = given c.thread.number (ready x) r in absurd (omega (arith, n, g, e))

  swapped : (st : Start) → IsStart k (waits_table k c x) x c.asked.call st → IsReady k c.thread.number x → set_at (waits_table k c x) st.thread (Some (started_row st)) ≡ set_at (set_at (tab k) st.thread (Some (started_row st))) c.thread.number (Some (waiting x (call_of c.asked)))
  swapped st start r = set_swap (tab k) c.thread.number st.thread (Some (waiting x (call_of c.asked))) (Some (started_row st)) (apart st start r)

  -- a lawful start, whose number goes to the caller
  starts : (st : Start) (to : KernelState) (value : ℕ) → (IsReady k c.thread.number x → IsStart k (waits_table k c x) x c.asked.call st) → tab to ≡ set_at (tab k) st.thread (Some (started_row st)) → IsSound to → length to.sched.threads ≡ length k.sched.threads → Lawful k c x (record { to = to; effect = Begins st; replies = reply c.thread.number value [] ∷ [] })
  starts st to value start table sound slots =
      let i = c.thread.number in
      let t = set_at (tab k) st.thread (Some (started_row st)) in
      let a = reply c.thread.number value [] in
      record {
        owes = record {
          effect = start;
          fit = λ r. subst (λ u. AreFit u (a ∷ [])) (sym (swapped st (start r) r)) (caller_fits t x (call_of c.asked) a (nothing_fits c.asked));
          table = λ r. table ∙ sym (set_id t i (Some (ready x)) (set_at_other (tab k) st.thread i (Some (started_row st)) (apart st (start r) r) ∙ r)) ∙ sym (no_replies (set_at t i (Some (ready x))))
              ∙ sym (caller_replied t x (call_of c.asked) a []) ∙ ap (λ u. after_replies u (a ∷ [])) (sym (swapped st (start r) r));
          sound = sound;
          slots = slots;
        };
      }

  -- who stands in the table in which the caller waits stood in the one before
  was : IsReady k c.thread.number x → (j : ℕ) (y : ThreadRow) → waits_table k c x j ≡ Some y → (z : ThreadRow) × (tab k j ≡ Some z) × (z.group ≡ y.group) × (z.program ≡ y.program) × (z.slot ≡ y.slot)
  was r j y q = ⊎_elim
      (λ e.
      let w : Some (waiting x (call_of c.asked)) ≡ Some y = sym (set_at_same (tab k) c.thread.number (Some (waiting x (call_of c.asked)))) ∙ ap (waits_table k c x) (sym e) ∙ q in
      let same = some_same (waiting x (call_of c.asked)) y w in
      (ready x, ap (tab k) e ∙ r, ap (λ r. r.group) same, ap (λ r. r.program) same, ap (λ r. r.slot) same))
      (λ ne. (y, sym (set_at_other (tab k) c.thread.number j (Some (waiting x (call_of c.asked))) ne) ∙ q, refl, refl, refl))
      (cases_eq j c.thread.number)

  -- what a start in a free slot with the next number owes in each case
  module _ (slot : ℕ) (free : free_slot k.sched.threads ≡ Some slot) (room : nat_le most_numbers k.numbers ≡ false) where
    empty : slice_get k.sched.threads slot ≡ Some None
    empty = free_place k.sched.threads slot free

    few : k.numbers + 1 ≤ most_numbers
    few = grind (arith, nat_tests)

    other_slot : IsReady k c.thread.number x → (j : ℕ) (y : ThreadRow) → waits_table k c x j ≡ Some y → y.slot ≢ slot
    other_slot r j y q e =
        let w = was r j y q in
        let o = entry_of k.sched.threads k.groups k.numbers j w.0 h.sound w.1 in
        elsewhere k.sched.threads slot empty o.slot o.thread o.stands (ap (λ r. r.slot) o.is ∙ w.4 ∙ e)

    later : IsReady k c.thread.number x → (j : ℕ) (y : ThreadRow) → waits_table k c x j ≡ Some y → j < k.numbers + 1
    later r j y q = let w = was r j y q in let g = given j w.0 w.1 in omega (arith, g)

    below : slot < length k.sched.threads
    below = within k.sched.threads slot None empty

    -- a new group has a number that no group has
    other_group : IsReady k c.thread.number x → (j : ℕ) (y : ThreadRow) → waits_table k c x j ≡ Some y → y.group ≢ k.numbers + 1
    other_group r j y q e =
        let w = was r j y q in
        let o = entry_of k.sched.threads k.groups k.numbers j w.0 h.sound w.1 in
        let m = h.sound.each_group o.place o.group o.lives in
        let t = (h.sound.each_thread o.place m.main m.stands).most in
        let n = m.number in
        let g = sym (ap (λ r. r.group) o.is ∙ w.2 ∙ e) ∙ o.member in
        absurd (omega (arith, t, n, g))

    other_program : IsReady k c.thread.number x → (program j : ℕ) (y : ThreadRow) → is_fresh k program ≡ true → waits_table k c x j ≡ Some y → y.program ≢ program
    other_program r program j y fresh q e =
        let w = was r j y q in
        let o = entry_of k.sched.threads k.groups k.numbers j w.0 h.sound w.1 in
        off_on (o.group.program == program) (none_passes (has_program program) k.groups o.place (Some o.group) (not-true (list_any (has_program program) k.groups) fresh) o.lives)
        (eq_to o.group.program program (ap (λ r. r.program) o.is ∙ w.3 ∙ e))

    -- ---- a group

    module _ (program priority : ℕ) (arguments : List (List ℕ)) where
      abbrev main : Thread
      main = record { number = k.numbers + 1; group = k.numbers + 1; priority = priority; errno = pos 0; doing = Ready k.sched.moments; asked = nothing_asked }

      abbrev group : Group
      group = record { number = k.numbers + 1; program = program; parent = c.group.number; directory = c.group.directory; arguments = arguments; environment = c.group.environment }

      hosts : Hosts k.sched.threads k.groups (slice_set k.groups slot (Some group)) k.numbers slot main h.sound empty refl
      hosts = record {
        few = few;
        size = length_set k.groups slot (Some group);
        keeps = λ p g a. set_other k.groups slot p (Some group) (no_group k.sched.threads k.groups k.numbers slot h.sound empty p g a) ∙ a;
        host_place = slot;
        host = group;
        lives = set_same k.groups slot (Some group) (let l = h.sound.slots in let b = below in omega (arith, l, b));
        member = refl;
        agrees = tt;
        mains = λ p g a. ⊎_elim
            (λ e. record {
              main = main;
              stands = ap (slice_get (slice_set k.sched.threads slot (Some main))) e.0 ∙ set_same k.sched.threads slot (Some main) below;
              number = ap (λ v. v.number) (sym e.1);
              member = ap (λ v. v.number) (sym e.1);
            })
            (λ e. kept_main k.sched.threads k.groups (slice_set k.groups slot (Some group)) k.numbers slot main h.sound empty refl p g e.1)
            (set_stood k.groups slot p group g (let l = h.sound.slots in let b = below in omega (arith, l, b)) a);
      }

      pub spawn_starts : Lawful k c x (spawned k c slot program priority arguments)
      unfolding set_at hosts
      spawn_starts = starts (record { thread = k.numbers + 1; group = k.numbers + 1; program = program; slot = slot; is_thread = false; fresh = is_fresh k program })
          (with_new_group (with_new_thread k slot 0 priority) c slot program arguments) (k.numbers + 1)
          (λ r. record {
            may = below;
            slot = other_slot r;
            number = refl;
            later = later r;
            thread = λ q. absurd cc;
            group = λ q. (refl, other_group r);
            fresh = λ q f j y a. other_program r program j y f a;
          })
          (fun_ext (table_started k.sched.threads k.groups (slice_set k.groups slot (Some group)) k.numbers slot main h.sound empty refl hosts))
          (sound_started k.sched.threads k.groups (slice_set k.groups slot (Some group)) k.numbers slot main h.sound empty refl hosts)
          (length_set k.sched.threads slot (Some main))

    -- ---- a thread

    has_number : (c.group.number == 0) ≡ false
    has_number =
        let m = h.sound.each_group c.place c.group h.lives in
        let l = (h.sound.each_thread c.place m.main m.stands).least in
        let n = m.number in
        ne_to c.group.number 0 (λ e. absurd (omega (arith, l, n, e)))

    abbrev fellow : Thread
    fellow = record { number = k.numbers + 1; group = if c.group.number == 0 then k.numbers + 1 else c.group.number; priority = c.thread.priority; errno = pos 0; doing = Ready k.sched.moments; asked = nothing_asked }

    its_group : fellow.group ≡ c.group.number
    its_group = ap (λ b. if b then k.numbers + 1 else c.group.number) has_number

    fellow_hosts : Hosts k.sched.threads k.groups k.groups k.numbers slot fellow h.sound empty refl
    fellow_hosts = record {
      few = few;
      size = refl;
      keeps = λ p g a. a;
      host_place = c.place;
      host = c.group;
      lives = h.lives;
      member = its_group;
      agrees = tt;
      mains = λ p g a. kept_main k.sched.threads k.groups k.groups k.numbers slot fellow h.sound empty refl p g a;
    }

    pub thread_starts : c.asked.call ≡ Some call.NxThread → Lawful k c x (record {
      to = with_new_thread k slot c.group.number c.thread.priority;
      effect = Begins (record { thread = k.numbers + 1; group = c.group.number; program = c.group.program; slot = slot; is_thread = true; fresh = false });
      replies = reply c.thread.number (k.numbers + 1) [] ∷ [];
    })
    unfolding set_at fellow_hosts
    thread_starts which = starts (record { thread = k.numbers + 1; group = c.group.number; program = c.group.program; slot = slot; is_thread = true; fresh = false })
        (with_new_thread k slot c.group.number c.thread.priority) (k.numbers + 1)
        (λ r. record {
          may = below;
          slot = other_slot r;
          number = refl;
          later = later r;
          thread = λ q. (
            which,
            sym h.member ∙ ap (λ y. y.group) (caller_row k c x h r),
            sym (ap program_of (ap (group_of k.groups) h.member ∙ (group_only k.sched.threads k.groups k.numbers c.place c.group h.sound h.lives).0)) ∙ ap (λ y. y.program) (caller_row k c x h r),
          );
          group = λ q. absurd cc;
          fresh = λ q f. absurd cc;
        })
        (fun_ext (table_started k.sched.threads k.groups k.groups k.numbers slot fellow h.sound empty refl fellow_hosts)
        ∙ ap (λ g. set_at (tab k) (k.numbers + 1) (Some (let y : ThreadRow = record { group = g; program = c.group.program; slot = slot; waits = None } in y))) its_group)
        (sound_started k.sched.threads k.groups k.groups k.numbers slot fellow h.sound empty refl fellow_hosts)
        (length_set k.sched.threads slot (Some fellow))

-- ---- the rows

pub spawn_lawful : (k : KernelState) (c : Caller) (x : ThreadRow) (h : Calls k c) (path text : List ℕ) (word : ℕ) → Lawful k c x (spawn_row k c path text word)
unfolding spawn_row
spawn_lawful k c x h path text word = either k c x (not (is_ended text) || nat_lt 255 word) _ _ (fails k c x h errno.Einval) (by_path (spawn_priority word) (resolved k.tree.entries c.group.directory path))
  where
    by_room : (slot program priority : ℕ) (arguments : List (List ℕ)) → free_slot k.sched.threads ≡ Some slot → (b : Bool) → nat_le most_numbers k.numbers ≡ b → Lawful k c x (if b then failed k c errno.Eagain else spawned k c slot program priority arguments)
    by_room slot program priority arguments free true e = fails k c x h errno.Eagain
    by_room slot program priority arguments free false e = spawn_starts k c x h slot free e program priority arguments

    by_slot : (program priority : ℕ) (arguments : List (List ℕ)) (slot : Option ℕ) → free_slot k.sched.threads ≡ slot → Lawful k c x (spawn_at k c program priority arguments slot)
    by_slot program priority arguments None e = fails k c x h errno.Eagain
    by_slot program priority arguments (Some slot) e = by_room slot program priority arguments e (nat_le most_numbers k.numbers) refl

    by_kind : (at : List ℕ) (priority : ℕ) (n : NodeKind) → Lawful k c x (spawn_kind k c at text priority n)
    by_kind at priority node.Directory = fails k c x h errno.Einval
    by_kind at priority (node.File place) = fails k c x h errno.Einval
    by_kind at priority node.Console = fails k c x h errno.Einval
    by_kind at priority node.Null = fails k c x h errno.Einval
    by_kind at priority (node.Program program) = by_slot program priority (last_part [] at ∷ arguments_of text) (free_slot k.sched.threads) refl
    by_kind at priority (node.Queue place) = fails k c x h errno.Einval

    by_node : (at : List ℕ) (priority : ℕ) (n : Option Node) → Lawful k c x (spawn_node k c at text priority n)
    by_node at priority None = fails k c x h errno.Enoent
    by_node at priority (Some n) = by_kind at priority n.kind

    by_path : (priority : ℕ) (r : Result (List ℕ) Errno) → Lawful k c x (spawn_path k c text priority r)
    by_path priority (Err e) = fails k c x h e
    by_path priority (Ok at) = by_node at priority (node_at k.tree.entries at)

pub thread_lawful : (k : KernelState) (c : Caller) (x : ThreadRow) (h : Calls k c) → c.asked.call ≡ Some call.NxThread → Lawful k c x (thread_row k c)
unfolding thread_row
thread_lawful k c x h which = by_slot (free_slot k.sched.threads) refl
  where
    by_room : (slot : ℕ) → free_slot k.sched.threads ≡ Some slot → (b : Bool) → nat_le most_numbers k.numbers ≡ b → Lawful k c x (if b then failed k c errno.Eagain else (let number = k.numbers + 1 in record {
      to = with_new_thread k slot c.group.number c.thread.priority;
      effect = Begins (record { thread = number; group = c.group.number; program = c.group.program; slot = slot; is_thread = true; fresh = false });
      replies = reply c.thread.number number [] ∷ [];
    }))
    by_room slot free true e = fails k c x h errno.Eagain
    by_room slot free false e = thread_starts k c x h slot free e which

    by_slot : (slot : Option ℕ) → free_slot k.sched.threads ≡ slot → Lawful k c x (thread_at k c slot)
    by_slot None e = fails k c x h errno.Eagain
    by_slot (Some slot) e = by_room slot e (nat_le most_numbers k.numbers) refl
