-- The end of a group from outside, and boot, lead to states that are reached.
use Rattle.std.proofs.Common.{◌≡◌, ◌≤◌, ◌<◌, ℕ, ◌+◌, ◌-◌, ◌^◌, true, List, [], length, refl, sym, subst, ap, ◌∙◌, arith}
use Rattle.std.specs.Prelude.{Option, Some, None, slice_get, ◌%◌}
use Rattle.std.specs.Option.{is_some}
use Rattle.std.specs.List.{count_by}
use Rattle.nx_config.specs.declared.limits.Limits.{Limits}
use Rattle.nx_pool.specs.declared.chain.Chain.{Chain}
use Rattle.nx_base.specs.Calls.{Reply}
use Rattle.nx_base.specs.declared.calls.KCall.TheVariants as call
use Rattle.nx_ksys.specs.declared.thread.Thread.{Thread}
use Rattle.nx_ksys.specs.Threads.{flat, thread_of}
use Rattle.nx_ksys.specs.State as state
use Rattle.nx_ksys.specs.State.{Group, KernelState}
use Rattle.nx_ksys.specs.Boot.{booted, first_entries}
use Rattle.nx_ksys.specs.Descriptors.{without_idle}
use Rattle.nx_ksys.specs.Ends.{left_alone, end_group, exit_row}
use Rattle.nx_ksys.specs.Answers.{Caller, is_group, place_of}
use Rattle.nx_ksys.specs.GroupCalls.{nothing_asked}
use Rattle.nx_ksys.specs.Soundness.{IsSound}
use Rattle.nx_ksys.proofs.Standing.{IsPlace, place_found, within, flat_some}
use Rattle.nx_ksys.proofs.Tables.{row_of}
use Rattle.nx_ksys.proofs.Owing.{Calls}
use Rattle.nx_ksys.proofs.EndRows.{exit_owes}
use Rattle.nx_ksys.proofs.Steps.{Found, found}
use Rattle.nx_ksys.proofs.Bounded.{end_keeps, boot_is_bounded}
use Rattle.nx_ksys.proofs.Starting.{boot_is_sound}
use Rattle.nx_kbounds.specs.Counts.{Places, places}
use Rattle.nx_kbounds.specs.Laws.{AreLate}
use Rattle.nx_kbounds.proofs.Changes.{Change, Same, Then}
use Rattle.nx_kbounds.proofs.GroupWalk.{end_change}
use Rattle.nx_kbounds.proofs.Standings.{standing_counted, one_fewer}
use Rattle.nx_kbounds.proofs.Reached.{ends_take_none, ends_stay_few, ends_stay_timely, ends_stay_short, boot_is_few, boot_is_timely, boot_is_short}
use Rattle.nx_group.specs.Living.{IsTold}
use Rattle.nx_env.specs.Joined.{Variables, joined_one, joined}
use Rattle.nx_env.proofs.JoinedLemmas.{length-joined, joined_at, joined_position}
use Rattle.nx_objects.specs.Tables.{chains_of}
use Rattle.nx_ktables.specs.declared.tables.Tables.{Tables}
use Rattle.nx_ktables.specs.State.{state_of, rooms_of, configured, Rooms}
use Rattle.nx_kturns.specs.Standing.{Stands, IsReached}
use Rattle.nx_kturns.specs.Turns.{ended_at, ended_with, killed, IsFirst}
use Rattle.nx_kturns.proofs.Reaching.{bounded_as, stands_then}

-- ---- who ends

group_one : (number : ℕ) (v : Variables) (g : Option Group) → is_group number (joined_one v g) ≡ is_group number g
group_one number v None = refl
group_one number v (Some g) = refl

-- a group stands at the same place, whatever variables it has
pub place_joined : (gs : List (Option Group)) (vs : List Variables) (number : ℕ) → place_of (joined gs vs) number ≡ place_of gs number
place_joined gs vs number = joined_position (is_group number) (group_one number) 0 gs vs

pub record IsThere (gs : List (Option Group)) (place : ℕ) : Type 0 where
  pub group : Group
  pub stands : slice_get gs place ≡ Some (Some group)

pub there : (gs : List (Option Group)) (number place : ℕ) → place_of gs number ≡ Some place → IsThere gs place
there gs number place e = by_item (place_found (is_group number) gs 0 place e)
  where
    by_group : (p : ℕ) (o : Option Group) → place ≡ p → slice_get gs p ≡ Some o → is_group number o ≡ true → IsThere gs place
    by_group p None q at t = absurd cc
    by_group p (Some g) q at t = record { group = g; stands = ap (slice_get gs) q ∙ at }

    by_item : IsPlace (is_group number) gs 0 place → IsThere gs place
    by_item f = by_group f.place f.item (let q = f.is in omega (arith, q)) f.at f.passes

-- who stands somewhere is one of those that are counted
one_counted : {A : Type 0} (xs : List (Option A)) (p : ℕ) (x : A) → flat (slice_get xs p) ≡ Some x → 1 ≤ count_by is_some xs
one_counted xs p x e = let f = one_fewer xs p x e in let c = standing_counted xs in omega (arith, f, c)

-- what an end may count on
pub record MayEnd (t : Tables) (place : ℕ) : Type 0 where
  pub within : place < length t.threads.threads
  pub groups : length t.groups ≡ length t.threads.threads
  pub moments : t.threads.moments + length t.threads.threads < 2 ^ 64
  pub number : (g : Group) → flat (slice_get t.groups place) ≡ Some g → g.number < 2 ^ 31
  pub codes : length t.codes.codes < t.codes.room
  pub ends : length t.ended.ends < t.ended.room

module _ (holds : List Chain → Type 0) (content : Chain → List ℕ) (blocks : ℕ) (t : Tables) (s : Stands holds content blocks t) where
  slots : length t.groups ≡ length t.threads.threads
  slots = sym (length-joined t.groups t.environments) ∙ s.reached.sound.slots

  numbered : (place : ℕ) (g : Group) → flat (slice_get t.groups place) ≡ Some g → g.number < 2 ^ 31
  numbered place g e =
      let m = s.reached.sound.each_group place _ (joined_at t.groups t.environments place g (flat_some (slice_get t.groups place) g e)) in
      let n = s.reached.sound.each_thread place m.main m.stands in
      omega (arith, m.number, n.most, s.reached.few.given)

  pub may_end : (number place : ℕ) → place_of t.groups number ≡ Some place → MayEnd t place
  may_end number place e =
      let r = s.reached in
      let h = there t.groups number place e in
      let groups = one_counted (joined t.groups t.environments) place _ (ap flat (joined_at t.groups t.environments place h.group h.stands)) in
      let p = within t.groups place (Some h.group) h.stands in
      record {
        within = omega (arith, p, slots);
        groups = slots;
        moments = omega (arith, r.few.made, s.placed.few, s.calls);
        number = numbered place;
        codes = omega (arith, r.few.children, r.few.given, groups, s.codes);
        ends = omega (arith, r.few.ends, r.few.given, groups, s.ends);
      }

-- ---- what an end leaves

change_calls : {a : ℕ} {k l : KernelState} → Change a k l → l.calls ≡ k.calls
unfolding without_idle left_alone
change_calls Same = refl
change_calls (Then c d) = change_calls d ∙ change_calls c
change_calls c = refl

exit_is : (k : KernelState) (c : Caller) (value : ℕ) → (exit_row k c value).to ≡ (end_group k c.place (value % 256)).to
unfolding exit_row
exit_is k c value = refl

whole_code : (code : ℕ) → code < 256 → code % 256 ≡ code
whole_code code lt = omega (arith, lt)

ended_sound : (k : KernelState) (thread code : ℕ) (t : Thread) → code < 256 → IsSound k → (f : Found k thread t) → IsSound (end_group k f.place code).to
ended_sound k thread code t lt s f =
    let c : Caller = record { thread = t; place = f.place; group = f.group; asked = nothing_asked } in
    let h : Calls k c = record { sound = s; slot = f.slot; stands = f.stands; lives = f.lives; member = f.member } in
    let o = exit_owes k c (row_of k.sched.threads k.groups t) h (Some call.Exit) code refl in
    subst IsSound (exit_is k c code ∙ ap (λ n. (end_group k f.place n).to) (whole_code code lt)) o.sound

ended_reached : (k : KernelState) (place code : ℕ) → IsReached k → IsSound (end_group k place code).to → IsReached (end_group k place code).to
ended_reached k place code r s =
    let limits = ap (λ (x : Places). x.limits) (ends_take_none k place code) in
    let b = end_keeps k place code in record {
      sound = s;
      few = ends_stay_few k place code r.few;
      timely = ends_stay_timely k place code r.timely;
      short = ends_stay_short k place code r.short;
      bounded = bounded_as k (end_group k place code).to limits (b.kept (length (first_entries k.limits.programs)) r.bounded);
    }

-- the state is reached, in the same places and after as many calls
record IsLeft (k l : KernelState) : Type 0 where
  reached : IsReached l
  same : places l ≡ places k
  calls : l.calls ≡ k.calls

killed_left : (k : KernelState) (thread code : ℕ) → code < 256 → IsReached k → IsLeft k (killed k thread code).to
unfolding killed
killed_left k thread code lt r = by_thread (thread_of k.sched.threads thread) refl
  where
    by_thread : (o : Option Thread) → thread_of k.sched.threads thread ≡ o → IsLeft k (ended_with k code o).to
    by_thread None e = record { reached = r; same = refl; calls = refl }
    by_thread (Some t) e =
        let f = found k thread t r.sound e in
        subst (λ p. IsLeft k (ended_at k code p).to) (sym f.placed) (record {
          reached = ended_reached k f.place code r (ended_sound k thread code t lt r.sound f);
          same = ends_take_none k f.place code;
          calls = change_calls (end_change k f.place code);
        })

-- ---- what an end tells

pub ended_none : (k : KernelState) (code number : ℕ) (rs : List Reply) → rs ≡ [] → place_of k.groups number ≡ None → IsTold [] rs k (ended_at k code (place_of k.groups number))
ended_none k code number rs z e = subst (λ p. IsTold [] rs k (ended_at k code p)) (sym e) (record { state = refl; replies = z })

pub ended_some : (before after : List Reply) (now k : KernelState) (code number place : ℕ) → before ≡ [] → place_of k.groups number ≡ Some place → IsTold before after now (end_group k place code) → IsTold [] after now (ended_at k code (place_of k.groups number))
ended_some before after now k code number place z e t = subst (λ p. IsTold [] after now (ended_at k code p)) (sym e) (subst (λ rs. IsTold rs after now (end_group k place code)) z t)

pub killed_none : (k : KernelState) (thread code : ℕ) (rs : List Reply) → rs ≡ [] → thread_of k.sched.threads thread ≡ None → IsTold [] rs k (killed k thread code)
unfolding killed
killed_none k thread code rs z e = subst (λ o. IsTold [] rs k (ended_with k code o)) (sym e) (record { state = refl; replies = z })

pub killed_some : (after : List Reply) (now k : KernelState) (thread code : ℕ) (t : Thread) → thread_of k.sched.threads thread ≡ Some t → IsTold [] after now (ended_with k code (Some t)) → IsTold [] after now (killed k thread code)
unfolding killed
killed_some after now k thread code t e d = subst (λ o. IsTold [] after now (ended_with k code o)) (sym e) d

module _ (holds holds' : List Chain → Type 0) (content content' : Chain → List ℕ) (blocks blocks' : ℕ) (t t' : Tables) where
  pub killed_stands : (thread code : ℕ) → code < 256 → Stands holds content blocks t → blocks' ≡ blocks → holds' (chains_of t'.objects) → rooms_of t' ≡ rooms_of t → state_of content' t' ≡ (killed (state_of content t) thread code).to → Stands holds' content' blocks' t'
  killed_stands thread code lt s b held r e =
      let k = state_of content t in
      let l = killed_left k thread code lt s.reached in
      let calls : t'.calls ≡ t.calls = ap (λ (x : KernelState). x.calls) e ∙ l.calls in
      let most = s.calls in
      stands_then holds holds' content content' blocks blocks' t t' s b held (ap places e ∙ l.same) r (omega (arith, calls, most)) (subst IsReached (sym e) l.reached)

-- ---- boot

booted_limits : (limits : state.Limits) (others : ℕ) (input late : List ℕ) → (booted limits others input late).limits ≡ limits
unfolding booted
booted_limits limits others input late = refl

booted_calls : (limits : state.Limits) (others : ℕ) (input late : List ℕ) → (booted limits others input late).calls ≡ 0
unfolding booted
booted_calls limits others input late = refl

booted_reached : (limits : state.Limits) (others : ℕ) (input late : List ℕ) → ((place : ℕ) (name : List ℕ) → slice_get limits.programs place ≡ Some name → length name ≤ 250) → AreLate late → IsReached (booted limits others input late)
booted_reached limits others input late names l = record {
  sound = boot_is_sound limits others input late;
  few = boot_is_few limits others input late;
  timely = boot_is_timely limits others input late l;
  short = boot_is_short limits others input late (λ place name h. let n = names place name h in omega (arith, n));
  bounded = bounded_as (record (booted limits others input late) { limits = limits }) (booted limits others input late) (booted_limits limits others input late) (boot_is_bounded limits others input late);
}

pub first_stands : (holds : List Chain → Type 0) (content : Chain → List ℕ) (blocks : ℕ) (limits : Limits) (programs : List (List ℕ)) (input late : List ℕ) (t : Tables)
    → IsFirst content limits programs input late t → AreLate late → holds [] → limits.blocks ≡ blocks → Stands holds content blocks t
first_stands holds content blocks limits programs input late t f l held b =
    let c = configured limits programs in
    let same = ap (λ (x : KernelState). x.limits) f.state ∙ booted_limits c (limits.threads - 1) input late in
    let names : t.programs.items ≡ programs = ap (λ (x : state.Limits). x.programs) same in
    let variables : length t.environments ≡ limits.threads = ap (λ (x : Rooms). x.environments) f.rooms in
    let most : t.limit ≡ limits.nodes = ap (λ (x : state.Limits). x.objects) same in
    let first : length (first_entries t.programs.items) ≡ length (first_entries programs) = ap (λ ps. length (first_entries ps)) names in
    let paths = ap (λ (x : Rooms). x.paths) f.rooms in
    let calls : t.calls ≡ 0 = ap (λ (x : KernelState). x.calls) f.state ∙ booted_calls c (limits.threads - 1) input late in
    record {
      held = subst holds (sym f.chains) held;
      store = ap (λ (x : state.Limits). x.blocks) same ∙ b;
      placed = f.placed;
      several = omega (arith, f.several, f.slots);
      variables = variables ∙ sym f.slots;
      paths = omega (arith, paths, first, most);
      codes = ap (λ (x : Rooms). x.codes) f.rooms;
      values = ap (λ (x : Rooms). x.values) f.rooms;
      ends = ap (λ (x : Rooms). x.ended) f.rooms;
      names = λ place name h. f.names place name (ap (λ ps. slice_get ps place) (sym names) ∙ h);
      calls = omega (arith, calls);
      reached = subst IsReached (sym f.state) (booted_reached c (limits.threads - 1) input late f.names l);
    }
