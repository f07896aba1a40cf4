-- The laws of what bounds the kernel's tables.
use Rattle.std.proofs.Common.{◌≡◌, ℕ, suc, ◌+◌, ◌*◌, ◌≤◌, ◌&&◌, Bool, true, List, [], ◌∷◌, ◌++◌, length, replicate, Option, Some, None, refl, sym, ap, ◌∙◌, subst, arith, length-append}
use Rattle.std.proofs.lemmas.List.{length-replicate}
use Rattle.std.specs.Prelude.{codes, nat_le}
use Rattle.std.proofs.lemmas.Bool.{and_parts}
use Rattle.std.proofs.lemmas.Bool.Decides.{nat_tests}
use Rattle.nx_ksys.specs.declared.node.Node.{Node}
use Rattle.nx_ksys.specs.declared.node.NodeKind.TheVariants as node
use Rattle.nx_ksys.specs.declared.thread.Thread.{Thread}
use Rattle.nx_ksys.specs.Threads.{deadline_of}
use Rattle.nx_ksys.specs.State.{Message, Group, Limits, KernelState}
use Rattle.nx_ksys.specs.Descriptors.{without_idle}
use Rattle.nx_ksys.specs.Ends.{left_alone, end_group}
use Rattle.nx_ksys.specs.Step.{counted as count_call, step}
use Rattle.nx_ksys.specs.Picking.{picked}
use Rattle.nx_ksys.specs.Boot.{booted, shell, shell_thread, console_open, with_places, fixed, program_nodes, first_entries}
use Rattle.nx_ksys.specs.Soundness.{Stands}
use Rattle.nx_ksys.specs.ByteLaws.{Each}
use Rattle.nx_ksys.proofs.Standing.{some_same, none_some}
use Rattle.nx_ksys.proofs.Starting.{nothing_more, first_alone}
use Rattle.nx_ksys.proofs.ByteWalks.{each_none, each_more, each_rest, each_joined}
use Rattle.nx_kbounds.specs.Counts.{Places, AreFew, IsFew, IsTimely}
use Rattle.nx_kbounds.specs.Shortness.{IsShortText, IsShortGroup, IsShort}
use Rattle.nx_kbounds.specs.Laws.{CallsKeep, ChoicesKeep, EndsKeep, BootTakesPlaces, CallsTakeNone, ChoicesTakeNone, EndsTakeNone, BootIsFew, GroupsAreFew, BootIsTimely, BootIsShort}
use Rattle.nx_kbounds.proofs.Changes.{Change, Same, Then}
use Rattle.nx_kbounds.proofs.StepWalk.{step_made, picked_change}
use Rattle.nx_kbounds.proofs.GroupWalk.{end_change}
use Rattle.nx_kbounds.proofs.Standings.{standing, standing_counted, nothing_stands, nothing_waits}
use Rattle.nx_kbounds.proofs.FewWalk.{Counted, counted, Grows, change_grows}
use Rattle.nx_kbounds.proofs.PlaceWalk.{change_places}
use Rattle.nx_kbounds.proofs.NearWalk.{change_near}
use Rattle.nx_kbounds.proofs.ShortWalk.{change_short}

-- ---- places

pub calls_take_none : CallsTakeNone
calls_take_none k thread which words inputs sound given = let m = step_made k thread which words inputs sound given in change_places m.change

pub choices_take_none : ChoicesTakeNone
choices_take_none k = change_places (picked_change k)

pub ends_take_none : EndsTakeNone
ends_take_none k place code = change_places (end_change k place code)

length_places : {A : Type 0} (front : List (Option A)) (n : ℕ) → length (with_places front n) ≡ length front + n
length_places {A} front n = let a = length-append front (replicate {A = Option A} n None) in let b = length-replicate {A = Option A} n None in omega (arith, a, b)

same_places : (limits : Limits) (threads groups sending descriptors opens files queues semaphores threads' groups' sending' descriptors' opens' files' queues' semaphores' : ℕ) → threads ≡ threads' → groups ≡ groups' → sending ≡ sending' → descriptors ≡ descriptors' → opens ≡ opens' → files ≡ files' → queues ≡ queues' → semaphores ≡ semaphores'
    → (let p : Places = record { limits = limits; threads = threads; groups = groups; sending = sending; descriptors = descriptors; opens = opens; files = files; queues = queues; semaphores = semaphores } in p)
    ≡ record { limits = limits; threads = threads'; groups = groups'; sending = sending'; descriptors = descriptors'; opens = opens'; files = files'; queues = queues'; semaphores = semaphores' }
same_places limits threads groups sending descriptors opens files queues semaphores threads' groups' sending' descriptors' opens' files' queues' semaphores' a b c d e f g h = cc

pub boot_takes_places : BootTakesPlaces
unfolding booted
boot_takes_places limits others input late = same_places limits _ _ _ _ _ _ _ _ _ _ _ _ _ _ _ _
    (let l = length_places (Some shell_thread ∷ []) others in omega (arith, l))
    (let l = length_places (Some (shell limits) ∷ []) others in omega (arith, l))
    (let l = length_places {A = Message} (None ∷ []) others in omega (arith, l))
    (let l = length_places {A = ℕ} (Some 0 ∷ Some 0 ∷ Some 0 ∷ []) (29 + 32 * others) in omega (arith, l))
    (let l = length_places (Some console_open ∷ []) (31 + 32 * others) in omega (arith, l))
    (length-replicate limits.objects None)
    (length-replicate limits.objects None)
    (length-replicate limits.objects None)

-- ---- counts

change_calls : {a : ℕ} {k l : KernelState} → Change a k l → l.calls ≡ k.calls
unfolding without_idle left_alone
change_calls Same = refl
change_calls (Then c d) = change_calls d ∙ change_calls c
change_calls c = refl

few_after : (a calls : ℕ) (x y : Counted) → Grows a x y → AreFew x.sched x.groups x.codes x.values x.ended x.numbers calls → (later : ℕ) → 2 * calls + a ≤ 2 * later → AreFew y.sched y.groups y.codes y.values y.ended y.numbers later
few_after a calls x y g h later le = record {
  given = g.given h.given;
  ends = (let p = g.ends (let e = h.ends in let s = standing_counted x.groups in omega (arith, e, s)) in let s = standing_counted y.groups in omega (arith, p, s));
  children = (let p = g.children (let e = h.children in let s = standing_counted x.groups in omega (arith, e, s)) in let s = standing_counted y.groups in omega (arith, p, s));
  results = (let p = g.results (let e = h.results in let s = standing_counted x.sched.threads in omega (arith, e, s)) in let s = standing_counted y.sched.threads in omega (arith, p, s));
  made = (let p = g.made in let e = h.made in omega (arith, p, e, le));
}

pub calls_stay_few : CallsKeep IsFew
calls_stay_few k thread which words inputs sound given h =
    let m = step_made k thread which words inputs sound given in
    let s = step k thread which words inputs in
    let calls : s.to.calls ≡ k.calls + 1 = change_calls m.change in
    let few = m.few in
    few_after m.moments k.calls (counted (count_call k)) (counted s.to) (change_grows m.change) h s.to.calls (omega (arith, calls, few))

pub choices_stay_few : ChoicesKeep IsFew
choices_stay_few k h = let c = picked_change k in let calls = change_calls c in few_after 0 k.calls (counted k) (counted (picked k).to) (change_grows c) h (picked k).to.calls (omega (arith, calls))

pub ends_stay_few : EndsKeep IsFew
ends_stay_few k place code h = let c = end_change k place code in let calls = change_calls c in few_after 0 k.calls (counted k) (counted (end_group k place code).to) (change_grows c) h (end_group k place code).to.calls (omega (arith, calls))

pub boot_is_few : BootIsFew
unfolding booted
boot_is_few limits others input late = record {
  given = omega arith;
  ends = (let s = standing_counted (with_places (Some (shell limits) ∷ []) others) in let n = nothing_stands Group others in omega (arith, s, n));
  children = (let s = standing_counted (with_places (Some (shell limits) ∷ []) others) in let n = nothing_stands Group others in omega (arith, s, n));
  results = (let s = standing_counted (with_places (Some shell_thread ∷ []) others) in let n = nothing_stands Thread others in omega (arith, s, n));
  made = (let n = nothing_waits others in omega (arith, n));
}

-- where each that stands in one list has one that stands at its place in another
fewer_where : {A B : Type 0} (xs : List (Option A)) (ys : List (Option B)) → ((p : ℕ) (x : A) → Stands xs p x → (y : B) × Stands ys p y) → standing xs ≤ standing ys
fewer_where [] ys h = omega arith
fewer_where {A} {B} (None ∷ xs) [] h = let r = fewer_where {A = A} {B = B} xs [] (λ p x s. let z = h (suc p) x s in absurd (none_some (Some z.0) z.1)) in omega (arith, r)
fewer_where (Some x ∷ xs) [] h = let z = h 0 x refl in absurd (none_some (Some z.0) z.1)
fewer_where (None ∷ xs) (y ∷ ys) h = let r = fewer_where xs ys (λ p x s. h (suc p) x s) in omega (arith, r)
fewer_where (Some x ∷ xs) (None ∷ ys) h = let z = h 0 x refl in absurd (none_some z.0 (some_same None (Some z.0) z.1))
fewer_where (Some x ∷ xs) (Some y ∷ ys) h = let r = fewer_where xs ys (λ p x s. h (suc p) x s) in omega (arith, r)

within_length : {A : Type 0} (xs : List (Option A)) → standing xs ≤ length xs
within_length [] = omega arith
within_length (None ∷ xs) = let r = within_length xs in omega (arith, r)
within_length (Some x ∷ xs) = let r = within_length xs in omega (arith, r)

pub groups_are_few : GroupsAreFew
groups_are_few k sound =
    let f = fewer_where k.groups k.sched.threads (λ p g s. let m = sound.each_group p g s in (m.main, m.stands)) in
    let a = standing_counted k.groups in
    let b = standing_counted k.sched.threads in
    let l = within_length k.sched.threads in
    (omega (arith, f, a, b), omega (arith, b, l))

-- ---- time

pub calls_stay_timely : CallsKeep IsTimely
calls_stay_timely k thread which words inputs sound given h = let m = step_made k thread which words inputs sound given in change_near m.change h

pub choices_stay_timely : ChoicesKeep IsTimely
choices_stay_timely k h = change_near (picked_change k) h

pub ends_stay_timely : EndsKeep IsTimely
ends_stay_timely k place code h = change_near (end_change k place code) h

pub boot_is_timely : BootIsTimely
unfolding booted
boot_is_timely limits others input late l = record {
  lateness = l.1;
  passed = (let few = l.0 in omega (arith, few));
  deadlines = λ p t s. (let few = l.0 in let same : deadline_of t.doing ≡ 0 = ap (λ (u : Thread). deadline_of u.doing) (first_alone shell_thread t others p s).1 in omega (arith, few, same));
}

-- ---- texts

pub calls_stay_short : CallsKeep IsShort
calls_stay_short k thread which words inputs sound given h = let m = step_made k thread which words inputs sound given in change_short m.change h

pub choices_stay_short : ChoicesKeep IsShort
choices_stay_short k h = change_short (picked_change k) h

pub ends_stay_short : EndsKeep IsShort
ends_stay_short k place code h = change_short (end_change k place code) h

abbrev IsShortEntry : List ℕ × Node → Type 0
IsShortEntry e = length e.0 ≤ 255

node_paths : (place : ℕ) (names : List (List ℕ)) → Each (λ name. length name + 5 ≤ 255) names → Each IsShortEntry (program_nodes place names)
node_paths place [] h = each_none IsShortEntry
node_paths place (name ∷ names) h =
    each_more IsShortEntry (codes "/bin/" ++ name, fixed (node.Program place)) (program_nodes (place + 1) names)
    (let l = h 0 name refl in let a = length-append (codes "/bin/") name in omega (arith, l, a)) (node_paths (place + 1) names (each_rest (λ (n : List ℕ). length n + 5 ≤ 255) name names h))

abbrev are_short : List (List ℕ × Node) → Bool
are_short [] = true
are_short (e ∷ es) = nat_le (length e.0) 255 && are_short es

entries_short : (es : List (List ℕ × Node)) → are_short es ≡ true → Each IsShortEntry es
entries_short [] q = each_none IsShortEntry
entries_short (e ∷ es) q = let p = and_parts (nat_le (length e.0) 255) (are_short es) q in each_more IsShortEntry e es (own (length e.0) p.0) (entries_short es p.1)
  where
    own : (n : ℕ) → nat_le n 255 ≡ true → n ≤ 255
    own n f = grind (arith, nat_tests)

first_short : (limits : Limits) → IsShortGroup (shell limits)
first_short limits = record {
  directory = omega arith;
  words = record { few = omega arith; each = each_more IsShortText (codes "nsh") [] (omega arith) (each_none IsShortText) };
  variables = record { few = omega arith; names = each_none (λ (v : List ℕ × List ℕ). length v.0 ≤ 32); values = each_none (λ (v : List ℕ × List ℕ). IsShortText v.1) };
}

pub boot_is_short : BootIsShort
unfolding booted
boot_is_short limits others input late names = record {
  paths = each_joined IsShortEntry (first_entries []) (program_nodes 0 limits.programs) (entries_short (first_entries []) refl) (node_paths 0 limits.programs names);
  contents = λ p x h. absurd (nothing_more limits.objects p x h);
  each_group = λ p g h. subst IsShortGroup (sym (first_alone (shell limits) g others p h).1) (first_short limits);
  each_queue = λ p q h. absurd (nothing_more limits.objects p q h);
  each_sent = λ p m h. absurd (nothing_more (suc others) p m h);
  each_semaphore = λ p s h. absurd (nothing_more limits.objects p s h);
  shows = omega arith;
}
