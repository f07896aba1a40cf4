-- What leads somewhere still leads to what stands there.
use Rattle.std.proofs.Common.{◌≡◌, ◌≢◌, ℕ, zero, suc, ◌+◌, ◌*◌, ◌/◌, ◌<◌, ◌≤◌, ◌==◌, ◌||◌, inl, inr, ◌⊎◌, ⊎_elim, Bool, true, false, List, [], ◌∷◌, map, Option, Some, None, refl, sym, ap, ◌∙◌, subst, arith}
use Rattle.std.specs.Prelude.{if◌then◌else◌, slice_get, slice_set, ◌-◌}
use Rattle.std.specs.List.{list_any}
use Rattle.std.specs.Option.{is_some}
use Rattle.std.proofs.lemmas.Bool.{cases_eq}
use Rattle.nx_base.specs.ErrorNumbers.{number_of}
use Rattle.nx_ksys.specs.declared.node.Open.{Open}
use Rattle.nx_ksys.specs.declared.node.Target.{Target}
use Rattle.nx_ksys.specs.declared.node.Target.TheVariants as target
use Rattle.nx_ksys.specs.declared.thread.Doing.{Doing}
use Rattle.nx_ksys.specs.declared.thread.Doing.TheVariants as doing
use Rattle.nx_ksys.specs.declared.thread.Thread.{Thread}
use Rattle.nx_ksys.specs.declared.thread.Wait.{Wait}
use Rattle.nx_ksys.specs.declared.thread.Wait.TheVariants as wait
use Rattle.nx_ksys.specs.Threads.{flat, awaited, is_for_message, is_for_room, is_for_semaphore, begin_wait, wake, block, with_error}
use Rattle.nx_ksys.specs.State.{FileTree, Queue, Semaphore, Group, KernelState}
use Rattle.nx_ksys.specs.Descriptors.{description_at, set_descriptor, is_held, leads_to_file, leads_to_queue, leads_to_semaphore, is_open_file, lives, swept, is_open_queue, awaits_queue, queue_lives, is_open_semaphore, awaits_semaphore, semaphore_lives, kept_if, living_from, without_idle}
use Rattle.nx_ksys.specs.Ends.{without_group, without_thread, nobodys, left_alone}
use Rattle.nx_ksys.specs.GroupCalls.{with_streams}
use Rattle.nx_ksys.specs.ThreadCalls.{at_the_end}
use Rattle.nx_ksys.specs.Bounds.{one_if, stands, IsBounded}
use Rattle.nx_ksys.specs.Soundness.{Stands, EachStanding}
use Rattle.nx_ksys.proofs.Standing.{some_same, none_some, off_on, eq_to, set_same, set_other, within, flat_some, free_place}
use Rattle.nx_ksys.proofs.ByteWalks.{standing_set, standing_gone}
use Rattle.nx_ksys.proofs.BoundLemmas.{file_bounded, new_bounded, but_bounded, renamed_bounded, made_bounded, new_queue_bounded, swept_bounded, queue_bounded, unled_queue, kept_bounded, living_bounded}
use Rattle.nx_kbounds.specs.Leading.{TargetStands, WaitStands, AreLed, IsLed}
use Rattle.nx_kbounds.proofs.Holding.{stands_held, held_somewhere, descriptor_stands}
use Rattle.nx_kbounds.proofs.Naming.{is_standing, new_stands, still_stands}
use Rattle.nx_kbounds.proofs.ShortTexts.{or_false, or_first}
use Rattle.nx_kbounds.proofs.NearWalk.{each_changed, each_left, left_of_group, left_of_number}
use Rattle.nx_kbounds.proofs.Changes.{Change, Same, Then, Fails, Wakes, Waits, Prioritises, Yields, ThreadBegins, GroupBegins, ThreadGoes, ThreadLeaves, Vanishes, Idles, GroupGoes, GroupLeaves, Enters, Sets, Shares, Closes, ClosesLast, Opens, Seeks, Writes, Empties, FileBegins, FileSweeps, PathGoes, DirectoryBegins, Renames, QueueBegins, QueueChanges, QueueSweeps, SemaphoreBegins, SemaphoreChanges, SemaphoreSweeps, Leads, AreClosed, IsFree}

-- ---- paths stay bounded by what stands

pub change_bounded : {a : ℕ} {k l : KernelState} → Change a k l → (first : ℕ) → IsBounded first k → IsBounded first l
unfolding left_alone without_idle
change_bounded Same first h = h
change_bounded (Then c d) first h = change_bounded d first (change_bounded c first h)
change_bounded (Idles {k = k}) first h = living_bounded first k.tree k.queues (queue_lives k) (unled_queue k) h
change_bounded (Writes {k = k} place old new there short) first h = file_bounded first k.tree k.queues place new h
change_bounded (Empties {k = k} path n place there kind) first h = file_bounded first k.tree k.queues place [] h
change_bounded (FileBegins {k = k} path place free short room) first h = new_bounded first k.tree k.queues path place free h
change_bounded (FileSweeps {k = k} place) first h = swept_bounded first k.tree k.queues k.opens place h
change_bounded (PathGoes {k = k} path) first h = but_bounded first k.tree k.queues path h
change_bounded (DirectoryBegins {k = k} path short room) first h = made_bounded first k.tree k.queues path h
change_bounded (Renames {k = k} one two fits) first h = renamed_bounded first k.tree k.queues one two h
change_bounded (QueueBegins {k = k} path place limit size free short room q) first h = new_queue_bounded first k.tree k.queues path place (record { limit = limit; size = size; messages = [] }) free h
change_bounded (QueueChanges {k = k} place old new there short) first h = queue_bounded first k.tree k.queues place new h
change_bounded (QueueSweeps {k = k} place) first h = kept_bounded first k.tree k.queues place (queue_lives k place) (unled_queue k place) h
change_bounded c first h = h

-- ---- what stood stands

-- what stood in the one stands in the other
abbrev Stay : {A : Type 0} → List (Option A) → List (Option A) → Type 0
Stay {A} xs ys = (p : ℕ) → stands xs p ≡ true → stands ys p ≡ true

stay : {A : Type 0} (xs : List (Option A)) → Stay xs xs
stay xs p h = h

set_stay : {A : Type 0} (xs : List (Option A)) (p : ℕ) (x : A) → Stay xs (slice_set xs p (Some x))
set_stay xs p x q h = still_stands xs p q x h

target_stays : (fs gs : List (Option (List ℕ))) (qs rs : List (Option Queue)) (ss us : List (Option Semaphore)) → Stay fs gs → Stay qs rs → Stay ss us → (t : Target) → TargetStands fs qs ss t → TargetStands gs rs us t
target_stays fs gs qs rs ss us a b c (target.File place) h = a place h
target_stays fs gs qs rs ss us a b c target.Console h = tt
target_stays fs gs qs rs ss us a b c target.Null h = tt
target_stays fs gs qs rs ss us a b c (target.Queue place) h = b place h
target_stays fs gs qs rs ss us a b c (target.Semaphore place) h = c place h

wait_stays : (qs rs : List (Option Queue)) (ss us : List (Option Semaphore)) → Stay qs rs → Stay ss us → (w : Option Wait) → WaitStands qs ss w → WaitStands rs us w
wait_stays qs rs ss us b c None h = tt
wait_stays qs rs ss us b c (Some wait.Sleep) h = tt
wait_stays qs rs ss us b c (Some (wait.Receive place)) h = b place h
wait_stays qs rs ss us b c (Some (wait.Send place)) h = b place h
wait_stays qs rs ss us b c (Some (wait.Semaphore place)) h = c place h
wait_stays qs rs ss us b c (Some (wait.Child number)) h = tt
wait_stays qs rs ss us b c (Some wait.AnyChild) h = tt
wait_stays qs rs ss us b c (Some (wait.Thread number)) h = tt

-- files, queues and semaphores only come
comes : (k : KernelState) (fs : List (Option (List ℕ))) (qs : List (Option Queue)) (ss : List (Option Semaphore)) → Stay k.tree.files fs → Stay k.queues qs → Stay k.semaphores ss → IsLed k → AreLed k.groups k.descriptors k.opens fs qs ss k.sched.threads
comes k fs qs ss a b c h = record {
  owned = h.owned;
  described = h.described;
  held = h.held;
  leads = λ p o s. target_stays k.tree.files fs k.queues qs k.semaphores ss a b c o.target (h.leads p o s);
  waits = λ p t s. wait_stays k.queues qs k.semaphores ss b c (awaited t.doing) (h.waits p t s);
}

-- threads change
threads_led : (k : KernelState) (ts : List (Option Thread)) → IsLed k → EachStanding (λ t. WaitStands k.queues k.semaphores (awaited t.doing)) ts → AreLed k.groups k.descriptors k.opens k.tree.files k.queues k.semaphores ts
threads_led k ts h each = record { owned = h.owned; described = h.described; held = h.held; leads = h.leads; waits = each }

groups_led : (k : KernelState) (gs : List (Option Group)) → IsLed k → ((i d : ℕ) → Stands k.descriptors i d → stands gs (i / 32) ≡ true) → AreLed gs k.descriptors k.opens k.tree.files k.queues k.semaphores k.sched.threads
groups_led k gs h owned = record { owned = owned; described = h.described; held = h.held; leads = h.leads; waits = h.waits }

end_waits : (qs : List (Option Queue)) (ss : List (Option Semaphore)) (moment : ℕ) (d : Doing) → WaitStands qs ss (awaited d) → WaitStands qs ss (awaited (at_the_end moment d))
end_waits qs ss moment (doing.Ready since) h = tt
end_waits qs ss moment (doing.Waits for since) h = h
end_waits qs ss moment (doing.Until for since deadline) h = h

begun_waits : (qs : List (Option Queue)) (ss : List (Option Semaphore)) (moment : ℕ) (for : Wait) (deadline : Option ℕ) → WaitStands qs ss (Some for) → WaitStands qs ss (awaited (begin_wait moment for deadline))
begun_waits qs ss moment for None h = h
begun_waits qs ss moment for (Some d) h = h

-- ---- what stands in a list that is set

set_cases : {A : Type 0} (xs : List (Option A)) (p q : ℕ) (x : Option A) (y : A) → Stands (slice_set xs p x) q y → ((q ≡ p) × (x ≡ Some y)) ⊎ ((q ≢ p) × Stands xs q y)
set_cases xs p q x y h = ⊎_elim (λ e. inl (e, here xs p q x y e h)) (λ ne. inr (ne, sym (set_other xs p q x ne) ∙ h)) (cases_eq q p)
  where
    here : {A : Type 0} (xs : List (Option A)) (p q : ℕ) (x : Option A) (y : A) → q ≡ p → Stands (slice_set xs p x) q y → x ≡ Some y
    here [] p q x y e h = absurd (none_some (Some y) h)
    here (z ∷ xs) zero zero x y e h = some_same x (Some y) h
    here (z ∷ xs) zero (suc q) x y e h = absurd (omega (arith, e))
    here (z ∷ xs) (suc p) zero x y e h = absurd (omega (arith, e))
    here (z ∷ xs) (suc p) (suc q) x y e h = here xs p q x y (omega (arith, e)) h

stands_is : {A : Type 0} (xs : List (Option A)) (p : ℕ) → stands xs p ≡ true → (x : A) × Stands xs p x
stands_is {A} xs p h = by_flat (flat (slice_get xs p)) refl h
  where
    by_flat : (o : Option A) → flat (slice_get xs p) ≡ o → is_some o ≡ true → (x : A) × Stands xs p x
    by_flat None e f = absurd (off_on false refl f)
    by_flat (Some x) e f = (x, flat_some (slice_get xs p) x e)

stands_from : {A : Type 0} (xs : List (Option A)) (p : ℕ) (x : A) → Stands xs p x → stands xs p ≡ true
stands_from xs p x h = ap (λ o. is_some (flat o)) h

not_standing : {A : Type 0} (xs : List (Option A)) (p : ℕ) (x : A) → flat (slice_get xs p) ≡ None → Stands xs p x → ⊥
not_standing xs p x e h = none_some x (sym e ∙ ap flat h)

-- another description keeps its descriptor
still_held : (ds : List (Option ℕ)) (at : ℕ) (to : Option ℕ) (place d : ℕ) → flat (slice_get ds at) ≡ Some d → place ≢ d → is_held place ds ≡ true → is_held place (slice_set ds at to) ≡ true
still_held ds at to place d e ne h =
    let i = held_somewhere place ds h in
    stands_held (slice_set ds at to) i.0 place (set_other ds at i.0 to (λ s. ne (some_same place d (sym (ap flat i.1) ∙ ap (λ j. flat (slice_get ds j)) s ∙ e))) ∙ i.1)

-- and where a closed descriptor opens each does
open_held : (ds : List (Option ℕ)) (at : ℕ) (to : ℕ) (place : ℕ) → flat (slice_get ds at) ≡ None → is_held place ds ≡ true → is_held place (slice_set ds at (Some to)) ≡ true
open_held ds at to place e h =
    let i = held_somewhere place ds h in
    stands_held (slice_set ds at (Some to)) i.0 place (set_other ds at i.0 (Some to) (λ s. not_standing ds at place e (sym (ap (slice_get ds) s) ∙ i.1)) ∙ i.1)

own_place : (place fd : ℕ) → fd < 32 → (32 * place + fd) / 32 ≡ place
own_place place fd lt = omega (arith, lt)

-- ---- a descriptor opens

opened_led : (k : KernelState) (place fd d : ℕ) (f : IsFree k place fd) → stands k.opens d ≡ true → IsLed k → AreLed k.groups (set_descriptor k.descriptors place fd (Some d)) k.opens k.tree.files k.queues k.semaphores k.sched.threads
opened_led k place fd d f there h =
    let few = f.few in record {
      owned = λ i e s. ⊎_elim (λ c. subst (λ j. stands k.groups (j / 32) ≡ true) (sym c.0) (subst (λ j. stands k.groups j ≡ true) (sym (own_place place fd few)) (is_standing k.groups place f.group f.lives))) (λ c. h.owned i e c.1) (set_cases k.descriptors (32 * place + fd) i (Some d) e s);
      described = λ i e s. ⊎_elim (λ c. subst (λ j. stands k.opens j ≡ true) (some_same d e c.1) there) (λ c. h.described i e c.1) (set_cases k.descriptors (32 * place + fd) i (Some d) e s);
      held = λ p o s. open_held k.descriptors (32 * place + fd) d p f.closed (h.held p o s);
      leads = h.leads;
      waits = h.waits;
    }

-- ---- what is swept away

open_leads : (place : ℕ) (opens : List (Option Open)) (test : ℕ → Option Open → Bool) → list_any (test place) opens ≡ false → (p : ℕ) (o : Open) → Stands opens p o → test place (Some o) ≡ false
open_leads place [] test e p o s = absurd (none_some (Some o) s)
open_leads place (x ∷ xs) test e zero o s = ap (test place) (sym (some_same x (Some o) s)) ∙ or_first (test place x) (list_any (test place) xs) e
open_leads place (x ∷ xs) test e (suc p) o s = open_leads place xs test (or_false (test place x) (list_any (test place) xs) e) p o s

waits_for : (place : ℕ) (ts : List (Option Thread)) (test : ℕ → Option Thread → Bool) → list_any (test place) ts ≡ false → (p : ℕ) (t : Thread) → Stands ts p t → test place (Some t) ≡ false
waits_for place [] test e p t s = absurd (none_some (Some t) s)
waits_for place (x ∷ xs) test e zero t s = ap (test place) (sym (some_same x (Some t) s)) ∙ or_first (test place x) (list_any (test place) xs) e
waits_for place (x ∷ xs) test e (suc p) t s = waits_for place xs test (or_false (test place x) (list_any (test place) xs) e) p t s

-- what stands elsewhere stays when one goes
gone_stays : {A : Type 0} (xs : List (Option A)) (p q : ℕ) → q ≢ p → stands xs q ≡ true → stands (slice_set xs p None) q ≡ true
gone_stays {A} xs p q ne h = ap (λ (o : Option (Option A)). is_some (flat o)) (set_other xs p q None ne) ∙ h

other_than : (p q : ℕ) → (p == q) ≡ false → p ≢ q
other_than p q e s = off_on (p == q) e (eq_to p q s)

-- so where what no description leads to and nobody awaits goes, those that are left still lead to what stands
abbrev FileStays : List (Option (List ℕ)) → List (Option (List ℕ)) → List (Option Open) → Type 0
FileStays fs gs opens = (p : ℕ) (o : Open) → Stands opens p o → (q : ℕ) → leads_to_file q o.target ≡ true → stands fs q ≡ true → stands gs q ≡ true

living_stays : {A : Type 0} (test : ℕ → Bool) (b : ℕ) (xs : List (Option A)) (q : ℕ) → test (b + q) ≡ true → stands xs q ≡ true → stands (living_from test b xs) q ≡ true
living_stays test b [] q e h = h
living_stays {A} test b (x ∷ xs) zero e h = ap (λ c. is_some (if c then x else None)) (ap test (omega arith) ∙ e) ∙ h
living_stays test b (x ∷ xs) (suc q) e h = living_stays test (b + 1) xs q (ap test (let s : b + 1 + q ≡ b + suc q = omega arith in s) ∙ e) h

-- where something leads to a place, what stands there lives
lives_open : {A : Type 0} (test : A → Bool) (xs : List A) (p : ℕ) (x : A) → slice_get xs p ≡ Some x → test x ≡ true → list_any test xs ≡ true
lives_open test [] p x h e = absurd (none_some x h)
lives_open test (y ∷ xs) zero x h e = ap (λ b. b || list_any test xs) (ap test (some_same y x h) ∙ e)
lives_open test (y ∷ xs) (suc p) x h e = or_true (test y) (lives_open test xs p x h e)
  where
    or_true : (b : Bool) → list_any test xs ≡ true → (b || list_any test xs) ≡ true
    or_true true f = refl
    or_true false f = f

or_either : (a b : Bool) → b ≡ true → (a || b) ≡ true
or_either true b e = refl
or_either false b e = e

or_left : (a b : Bool) → a ≡ true → (a || b) ≡ true
or_left a b e = ap (λ c. c || b) e

-- the queues and semaphores that descriptions lead to and threads wait for stay
record AreKept (k : KernelState) (qs : List (Option Queue)) (ss : List (Option Semaphore)) : Type 0 where
  queue : (q : ℕ) → queue_lives k q ≡ true → stands k.queues q ≡ true → stands qs q ≡ true
  semaphore : (q : ℕ) → semaphore_lives k q ≡ true → stands k.semaphores q ≡ true → stands ss q ≡ true

kept_target : (k : KernelState) (qs : List (Option Queue)) (ss : List (Option Semaphore)) → AreKept k qs ss → (p : ℕ) (o : Open) → Stands k.opens p o → (t : Target) → o.target ≡ t → TargetStands k.tree.files k.queues k.semaphores t → TargetStands k.tree.files qs ss t
kept_target k qs ss a p o s (target.File place) e h = h
kept_target k qs ss a p o s target.Console e h = tt
kept_target k qs ss a p o s target.Null e h = tt
kept_target k qs ss a p o s (target.Queue place) e h =
    let own : is_open_queue place (Some o) ≡ true = ap (leads_to_queue place) e ∙ eq_to place place refl in
    a.queue place (or_left _ _ (or_either _ _ (lives_open (is_open_queue place) k.opens p (Some o) s own))) h
kept_target k qs ss a p o s (target.Semaphore place) e h =
    let own : is_open_semaphore place (Some o) ≡ true = ap (leads_to_semaphore place) e ∙ eq_to place place refl in
    a.semaphore place (or_left _ _ (lives_open (is_open_semaphore place) k.opens p (Some o) s own)) h

kept_wait : (k : KernelState) (qs : List (Option Queue)) (ss : List (Option Semaphore)) → AreKept k qs ss → (p : ℕ) (t : Thread) → Stands k.sched.threads p t → (w : Option Wait) → awaited t.doing ≡ w → WaitStands k.queues k.semaphores w → WaitStands qs ss w
kept_wait k qs ss a p t s None e h = tt
kept_wait k qs ss a p t s (Some wait.Sleep) e h = tt
kept_wait k qs ss a p t s (Some (wait.Receive place)) e h =
    let own : awaits_queue place (Some t) ≡ true = ap (λ w. is_for_message place w || is_for_room place w) e ∙ or_left _ _ (eq_to place place refl) in
    a.queue place (or_either _ _ (lives_open (awaits_queue place) k.sched.threads p (Some t) s own)) h
kept_wait k qs ss a p t s (Some (wait.Send place)) e h =
    let own : awaits_queue place (Some t) ≡ true = ap (λ w. is_for_message place w || is_for_room place w) e ∙ or_either (is_for_message place (Some (wait.Send place))) _ (eq_to place place refl) in
    a.queue place (or_either _ _ (lives_open (awaits_queue place) k.sched.threads p (Some t) s own)) h
kept_wait k qs ss a p t s (Some (wait.Semaphore place)) e h =
    let own : awaits_semaphore place (Some t) ≡ true = ap (is_for_semaphore place) e ∙ eq_to place place refl in
    a.semaphore place (or_either _ _ (lives_open (awaits_semaphore place) k.sched.threads p (Some t) s own)) h
kept_wait k qs ss a p t s (Some (wait.Child number)) e h = tt
kept_wait k qs ss a p t s (Some wait.AnyChild) e h = tt
kept_wait k qs ss a p t s (Some (wait.Thread number)) e h = tt

kept_led : (k : KernelState) (qs : List (Option Queue)) (ss : List (Option Semaphore)) → AreKept k qs ss → IsLed k → AreLed k.groups k.descriptors k.opens k.tree.files qs ss k.sched.threads
kept_led k qs ss a h = record {
  owned = h.owned;
  described = h.described;
  held = h.held;
  leads = λ p o s. kept_target k qs ss a p o s o.target refl (h.leads p o s);
  waits = λ p t s. kept_wait k qs ss a p t s (awaited t.doing) refl (h.waits p t s);
}

-- one that doesn't live goes
kept_one : {A : Type 0} (xs : List (Option A)) (place : ℕ) (test : ℕ → Bool) (q : ℕ) → test q ≡ true → stands xs q ≡ true → stands (kept_if (test place) xs place) q ≡ true
kept_one {A} xs place test q e h = by_test (test place) refl
  where
    by_test : (b : Bool) → test place ≡ b → stands (kept_if b xs place) q ≡ true
    by_test true f = h
    by_test false f = gone_stays xs place q (λ s. off_on (test place) f (ap test (sym s) ∙ e)) h

file_swept : (tree : FileTree) (opens : List (Option Open)) (place : ℕ) (p : ℕ) (o : Open) → Stands opens p o → (q : ℕ) → o.target ≡ target.File q → stands tree.files q ≡ true → stands (swept tree opens place).files q ≡ true
unfolding swept
file_swept tree opens place p o s q e h = by_test (lives place tree.entries opens) refl
  where
    own : is_open_file q (Some o) ≡ true
    own = ap (leads_to_file q) e ∙ eq_to q q refl

    by_test : (b : Bool) → lives place tree.entries opens ≡ b → stands (let t : FileTree = if b then tree else record tree { files = slice_set tree.files place None } in t).files q ≡ true
    by_test true f = h
    by_test false f = gone_stays tree.files place q (λ r. off_on (lives place tree.entries opens) f (or_either _ _ (lives_open (is_open_file place) opens p (Some o) s (ap (λ i. is_open_file i (Some o)) (sym r) ∙ own)))) h

swept_target_stands : (tree : FileTree) (opens : List (Option Open)) (place : ℕ) (qs : List (Option Queue)) (ss : List (Option Semaphore)) (p : ℕ) (o : Open) → Stands opens p o → (t : Target) → o.target ≡ t → TargetStands tree.files qs ss t → TargetStands (swept tree opens place).files qs ss t
swept_target_stands tree opens place qs ss p o s (target.File q) e h = file_swept tree opens place p o s q e h
swept_target_stands tree opens place qs ss p o s target.Console e h = tt
swept_target_stands tree opens place qs ss p o s target.Null e h = tt
swept_target_stands tree opens place qs ss p o s (target.Queue q) e h = h
swept_target_stands tree opens place qs ss p o s (target.Semaphore q) e h = h

-- ---- descriptions

-- what a new description leads to stands
led_target : (first : ℕ) (k : KernelState) (t : Target) → IsBounded first k → Leads k t → TargetStands k.tree.files k.queues k.semaphores t
led_target first k (target.File place) b l = ⊎_elim (λ e. e) (λ n. let f = b.file place in one_stands (stands k.tree.files place) (omega (arith, n, f))) l
  where
    one_stands : (c : Bool) → 1 ≤ one_if c → c ≡ true
    one_stands true n = refl
    one_stands false n = absurd (omega (arith, n))
led_target first k target.Console b l = tt
led_target first k target.Null b l = tt
led_target first k (target.Queue place) b l = ⊎_elim (λ e. e) (λ n. let f = b.queue place in one_stands (stands k.queues place) (omega (arith, n, f))) l
  where
    one_stands : (c : Bool) → 1 ≤ one_if c → c ≡ true
    one_stands true n = refl
    one_stands false n = absurd (omega (arith, n))
led_target first k (target.Semaphore place) b l = l

new_opened : (k : KernelState) (place fd at : ℕ) (o : Open) → IsFree k place fd → slice_get k.descriptors (32 * place + fd) ≡ Some None → slice_get k.opens at ≡ Some None → TargetStands k.tree.files k.queues k.semaphores o.target → IsLed k → AreLed k.groups (set_descriptor k.descriptors place fd (Some at)) (slice_set k.opens at (Some o)) k.tree.files k.queues k.semaphores k.sched.threads
new_opened k place fd at o f slot free there h =
    let few = f.few in record {
      owned = λ i e s. ⊎_elim (λ c. subst (λ j. stands k.groups (j / 32) ≡ true) (sym c.0) (subst (λ j. stands k.groups j ≡ true) (sym (own_place place fd few)) (is_standing k.groups place f.group f.lives))) (λ c. h.owned i e c.1) (set_cases k.descriptors (32 * place + fd) i (Some at) e s);
      described = λ i e s. ⊎_elim (λ c. subst (λ j. stands (slice_set k.opens at (Some o)) j ≡ true) (some_same at e c.1) (new_stands k.opens at o free)) (λ c. still_stands k.opens at e o (h.described i e c.1)) (set_cases k.descriptors (32 * place + fd) i (Some at) e s);
      held = λ p v s. ⊎_elim (λ c. subst (λ j. is_held j (set_descriptor k.descriptors place fd (Some at)) ≡ true) (sym c.0) (stands_held (set_descriptor k.descriptors place fd (Some at)) (32 * place + fd) at (set_same k.descriptors (32 * place + fd) (Some at) (within k.descriptors (32 * place + fd) None slot)))) (λ c. open_held k.descriptors (32 * place + fd) at p f.closed (h.held p v c.1)) (set_cases k.opens at p (Some o) v s);
      leads = standing_set (λ v. TargetStands k.tree.files k.queues k.semaphores v.target) k.opens at o there h.leads;
      waits = h.waits;
    }

-- a group of its own begins with what its parent shares
stream_stands : (k : KernelState) (from i d : ℕ) → description_at k.descriptors from i ≡ Some d → IsLed k → (stands k.opens d ≡ true) × (is_held d k.descriptors ≡ true)
stream_stands k from i d e h = let s = descriptor_stands k.descriptors from i d e in (h.described (32 * from + i) d s, stands_held k.descriptors (32 * from + i) d s)

-- a descriptor of a new group
shared_led : (groups : List (Option Group)) (ds : List (Option ℕ)) (k : KernelState) (slot fd : ℕ) (to : Option ℕ) → fd < 32 → stands groups slot ≡ true → flat (slice_get ds (32 * slot + fd)) ≡ None → ((d : ℕ) → to ≡ Some d → stands k.opens d ≡ true)
    → AreLed groups ds k.opens k.tree.files k.queues k.semaphores k.sched.threads → AreLed groups (set_descriptor ds slot fd to) k.opens k.tree.files k.queues k.semaphores k.sched.threads
shared_led groups ds k slot fd to few lives free there h = record {
  owned = λ i e s. ⊎_elim (λ c. subst (λ j. stands groups (j / 32) ≡ true) (sym c.0) (subst (λ j. stands groups j ≡ true) (sym (own_place slot fd few)) lives)) (λ c. h.owned i e c.1) (set_cases ds (32 * slot + fd) i to e s);
  described = λ i e s. ⊎_elim (λ c. there e c.1) (λ c. h.described i e c.1) (set_cases ds (32 * slot + fd) i to e s);
  held = λ p o s. (let i = held_somewhere p ds (h.held p o s) in stands_held (set_descriptor ds slot fd to) i.0 p (set_other ds (32 * slot + fd) i.0 to (λ q. not_standing ds (32 * slot + fd) p free (sym (ap (slice_get ds) q) ∙ i.1)) ∙ i.1));
  leads = h.leads;
  waits = h.waits;
}

-- descriptors of a place without a group are closed
none_owned : (k : KernelState) (slot fd : ℕ) → fd < 32 → slice_get k.groups slot ≡ Some None → IsLed k → flat (slice_get k.descriptors (32 * slot + fd)) ≡ None
none_owned k slot fd few none h = by_one (flat (slice_get k.descriptors (32 * slot + fd))) refl
  where
    by_one : (o : Option ℕ) → flat (slice_get k.descriptors (32 * slot + fd)) ≡ o → flat (slice_get k.descriptors (32 * slot + fd)) ≡ None
    by_one None e = e
    by_one (Some d) e =
        let s : Stands k.descriptors (32 * slot + fd) d = flat_some (slice_get k.descriptors (32 * slot + fd)) d e in
        let lives : stands k.groups slot ≡ true = subst (λ j. stands k.groups j ≡ true) (own_place slot fd few) (h.owned (32 * slot + fd) d s) in
        absurd (off_on (stands k.groups slot) (ap (λ o. is_some (flat o)) none) lives)

-- another descriptor than one that was set
other_free : (ds : List (Option ℕ)) (slot fd other : ℕ) (to : Option ℕ) → fd ≢ other → flat (slice_get ds (32 * slot + other)) ≡ None → flat (slice_get (set_descriptor ds slot fd to) (32 * slot + other)) ≡ None
other_free ds slot fd other to ne h = ap flat (set_other ds (32 * slot + fd) (32 * slot + other) to (λ s. ne (omega (arith, s)))) ∙ h

streams_led : (k : KernelState) (g : Group) (from slot : ℕ) → slice_get k.groups slot ≡ Some None → IsLed k → AreLed (slice_set k.groups slot (Some g)) (with_streams k.descriptors from slot) k.opens k.tree.files k.queues k.semaphores k.sched.threads
streams_led k g from slot none h =
    let gs = slice_set k.groups slot (Some g) in
    let d = k.descriptors in
    let zero_to = description_at d from 0 in
    let one_to = description_at d from 1 in
    let two_to = description_at d from 2 in
    let d1 = set_descriptor d slot 0 zero_to in
    let d2 = set_descriptor d1 slot 1 one_to in
    let lives = new_stands k.groups slot g none in
    let start = groups_led k gs h (λ i e s. still_stands k.groups slot (i / 32) g (h.owned i e s)) in
    let f0 = none_owned k slot 0 (omega arith) none h in
    let f1 = other_free d slot 0 1 zero_to (λ e. omega (arith, e)) (none_owned k slot 1 (omega arith) none h) in
    let f2 = other_free d1 slot 1 2 one_to (λ e. omega (arith, e)) (other_free d slot 0 2 zero_to (λ e. omega (arith, e)) (none_owned k slot 2 (omega arith) none h)) in
    shared_led gs d2 k slot 2 two_to (omega arith) lives f2 (λ e q. (stream_stands k from 2 e q h).0)
    (shared_led gs d1 k slot 1 one_to (omega arith) lives f1 (λ e q. (stream_stands k from 1 e q h).0)
    (shared_led gs d k slot 0 zero_to (omega arith) lives f0 (λ e q. (stream_stands k from 0 e q h).0) start))

-- a group whose descriptors are closed goes
group_stays : (gs : List (Option Group)) (group place p : ℕ) → p ≢ place → stands gs p ≡ true → stands (map (nobodys group) (slice_set gs place None)) p ≡ true
group_stays gs group place p ne h = mapped (slice_set gs place None) p (gone_stays gs place p ne h)
  where
    nobodys_stands : (o : Option Group) → is_some (nobodys group o) ≡ is_some o
    nobodys_stands None = refl
    nobodys_stands (Some g) = by_test (g.parent == group)
      where
        by_test : (b : Bool) → is_some (if b then Some (record g { parent = 0 }) else Some g) ≡ true
        by_test true = refl
        by_test false = refl

    mapped : (xs : List (Option Group)) (q : ℕ) → stands xs q ≡ true → stands (map (nobodys group) xs) q ≡ true
    mapped [] q e = e
    mapped (x ∷ xs) zero e = nobodys_stands x ∙ e
    mapped (x ∷ xs) (suc q) e = mapped xs q e

parts : (i : ℕ) → i ≡ 32 * (i / 32) + (i - 32 * (i / 32))
parts i = omega arith

rest_few : (i : ℕ) → i - 32 * (i / 32) < 32
rest_few i = omega arith

group_gone_led : (k : KernelState) (place group : ℕ) → AreClosed place k.descriptors → IsLed k → AreLed (map (nobodys group) (slice_set k.groups place None)) k.descriptors k.opens k.tree.files k.queues k.semaphores k.sched.threads
group_gone_led k place group none h = groups_led k _ h (λ i d s. group_stays k.groups group place (i / 32) (λ e. not_standing k.descriptors i d (ap (λ j. flat (slice_get k.descriptors j)) (parts i ∙ ap (λ j. 32 * j + (i - 32 * (i / 32))) e) ∙ none (i - 32 * (i / 32)) (rest_few i)) s) (h.owned i d s))

-- ---- every change

pub change_led : {a : ℕ} {k l : KernelState} → Change a k l → (first : ℕ) → IsBounded first k → IsLed k → IsLed l
unfolding wake block with_error left_alone without_idle
change_led Same first b h = h
change_led (Then c d) first b h = change_led d first (change_bounded c first b) (change_led c first b h)
change_led (Fails {k = k} thread e) first b h = threads_led k _ h
    (each_changed thread (λ t. record t { errno = number_of e }) (λ t. WaitStands k.queues k.semaphores (awaited t.doing)) (λ t. WaitStands k.queues k.semaphores (awaited t.doing)) k.sched.threads (λ t p. p) (λ t p. p) h.waits)
change_led (Wakes {k = k} t slot s r) first b h = threads_led k _ h
    (each_changed t.number (λ u. record u { doing = doing.Ready k.sched.moments }) (λ t. WaitStands k.queues k.semaphores (awaited t.doing)) (λ t. WaitStands k.queues k.semaphores (awaited t.doing)) k.sched.threads (λ t p. tt) (λ t p. p) h.waits)
change_led (Waits {k = k} thread asked for deadline numbered near awaits) first b h = threads_led k _ h
    (each_changed thread (λ t. record t { doing = begin_wait k.sched.moments for deadline; asked = asked }) (λ t. WaitStands k.queues k.semaphores (awaited t.doing)) (λ t. WaitStands k.queues k.semaphores (awaited t.doing)) k.sched.threads
    (λ t p. begun_waits k.queues k.semaphores k.sched.moments for deadline awaits) (λ t p. p) h.waits)
change_led (Prioritises {k = k} thread priority) first b h = threads_led k _ h
    (each_changed thread (λ t. record t { priority = priority; doing = at_the_end k.sched.moments t.doing }) (λ t. WaitStands k.queues k.semaphores (awaited t.doing)) (λ t. WaitStands k.queues k.semaphores (awaited t.doing)) k.sched.threads
    (λ t p. end_waits k.queues k.semaphores k.sched.moments t.doing p) (λ t p. p) h.waits)
change_led (Yields {k = k} thread) first b h = threads_led k _ h
    (each_changed thread (λ t. record t { doing = at_the_end k.sched.moments t.doing }) (λ t. WaitStands k.queues k.semaphores (awaited t.doing)) (λ t. WaitStands k.queues k.semaphores (awaited t.doing)) k.sched.threads
    (λ t p. end_waits k.queues k.semaphores k.sched.moments t.doing p) (λ t p. p) h.waits)
change_led (ThreadBegins {k = k} slot group priority free few) first b h = threads_led k _ h (standing_set (λ t. WaitStands k.queues k.semaphores (awaited t.doing)) k.sched.threads slot _ tt h.waits)
change_led (GroupBegins {k = k} c slot program priority arguments free few there short empty) first b h =
    let s = streams_led k _ c.place slot empty h in
    record { owned = s.owned; described = s.described; held = s.held; leads = s.leads; waits = standing_set (λ t. WaitStands k.queues k.semaphores (awaited t.doing)) k.sched.threads slot _ tt h.waits }
change_led (ThreadGoes {k = k} t slot s) first b h = threads_led k _ h (each_left (λ t. WaitStands k.queues k.semaphores (awaited t.doing)) (without_thread t.number) (left_of_number t.number) k.sched.threads h.waits)
change_led (ThreadLeaves {k = k} t slot v s) first b h = threads_led k _ h (each_left (λ t. WaitStands k.queues k.semaphores (awaited t.doing)) (without_thread t.number) (left_of_number t.number) k.sched.threads h.waits)
change_led (Vanishes {k = k} group) first b h = threads_led k _ h (each_left (λ t. WaitStands k.queues k.semaphores (awaited t.doing)) (without_group group) (left_of_group group) k.sched.threads h.waits)
change_led (Idles {k = k}) first b h = kept_led k _ _ (record { queue = λ q e s. living_stays (queue_lives k) 0 k.queues q (ap (queue_lives k) (omega arith) ∙ e) s; semaphore = λ q e s. living_stays (semaphore_lives k) 0 k.semaphores q (ap (semaphore_lives k) (omega arith) ∙ e) s }) h
change_led (GroupGoes {k = k} place g e there none) first b h = group_gone_led k place g.number none h
change_led (GroupLeaves {k = k} place g e code there none) first b h = group_gone_led k place g.number none h
change_led (Enters {k = k} place g path there short) first b h = groups_led k _ h (λ i d s. set_stay k.groups place _ (i / 32) (h.owned i d s))
change_led (Sets {k = k} place g variables there short) first b h = groups_led k _ h (λ i d s. set_stay k.groups place _ (i / 32) (h.owned i d s))
change_led (Shares {k = k} place fd d held free) first b h = opened_led k place fd d free (let i = held_somewhere d k.descriptors held in h.described i.0 d i.1) h
change_led (Closes {k = k} place fd d rest there) first b h = record {
  owned = λ i e s. ⊎_elim (λ c. absurd (none_some e c.1)) (λ c. h.owned i e c.1) (set_cases k.descriptors (32 * place + fd) i None e s);
  described = λ i e s. ⊎_elim (λ c. absurd (none_some e c.1)) (λ c. h.described i e c.1) (set_cases k.descriptors (32 * place + fd) i None e s);
  held = λ p o s. ⊎_elim (λ e. ⊎_elim (λ r. subst (λ j. is_held j (set_descriptor k.descriptors place fd None) ≡ true) (sym e) r) (λ r. absurd (not_standing k.opens d o r (sym (ap (slice_get k.opens) e) ∙ s))) rest)
      (λ ne. still_held k.descriptors (32 * place + fd) None p d there ne (h.held p o s)) (cases_eq p d);
  leads = h.leads;
  waits = h.waits;
}
change_led (ClosesLast {k = k} place fd d last there) first b h = record {
  owned = λ i e s. ⊎_elim (λ c. absurd (none_some e c.1)) (λ c. h.owned i e c.1) (set_cases k.descriptors (32 * place + fd) i None e s);
  described = λ i e s. ⊎_elim (λ c. absurd (none_some e c.1)) (λ c. gone_stays k.opens d e (λ q. off_on (is_held d (set_descriptor k.descriptors place fd None)) last (stands_held (set_descriptor k.descriptors place fd None) i d (s ∙ ap (λ j. Some (Some j)) q))) (h.described i e c.1)) (set_cases k.descriptors (32 * place + fd) i None e s);
  held = λ p o s. ⊎_elim (λ c. absurd (none_some o c.1)) (λ c. still_held k.descriptors (32 * place + fd) None p d there c.0 (h.held p o c.1)) (set_cases k.opens d p None o s);
  leads = standing_gone (λ o. TargetStands k.tree.files k.queues k.semaphores o.target) k.opens d h.leads;
  waits = h.waits;
}
change_led (Opens {k = k} place fd at to flags free slot least leads) first b h = new_opened k place fd at _ free slot (free_place k.opens at least) (led_target first k to b leads) h
change_led (Seeks {k = k} place o offset there) first b h = record {
  owned = h.owned;
  described = λ i d s. still_stands k.opens place d _ (h.described i d s);
  held = λ p v s. ⊎_elim (λ c. h.held p o (flat_some (slice_get k.opens p) o (ap (λ j. flat (slice_get k.opens j)) c.0 ∙ there))) (λ c. h.held p v c.1) (set_cases k.opens place p _ v s);
  leads = standing_set (λ v. TargetStands k.tree.files k.queues k.semaphores v.target) k.opens place _ (h.leads place o (flat_some (slice_get k.opens place) o there)) h.leads;
  waits = h.waits;
}
change_led (Writes {k = k} place old new there short) first b h = comes k _ _ _ (set_stay k.tree.files place new) (stay k.queues) (stay k.semaphores) h
change_led (Empties {k = k} path n place there kind) first b h = comes k _ _ _ (set_stay k.tree.files place []) (stay k.queues) (stay k.semaphores) h
change_led (FileBegins {k = k} path place free short room) first b h = comes k _ _ _ (set_stay k.tree.files place []) (stay k.queues) (stay k.semaphores) h
change_led (FileSweeps {k = k} place) first b h = record {
  owned = h.owned;
  described = h.described;
  held = h.held;
  leads = λ p o s. swept_target_stands k.tree k.opens place k.queues k.semaphores p o s o.target refl (h.leads p o s);
  waits = h.waits;
}
change_led (QueueBegins {k = k} path place limit size free short room q) first b h = comes k _ _ _ (stay k.tree.files) (set_stay k.queues place _) (stay k.semaphores) h
change_led (QueueChanges {k = k} place old new there short) first b h = comes k _ _ _ (stay k.tree.files) (set_stay k.queues place new) (stay k.semaphores) h
change_led (QueueSweeps {k = k} place) first b h = kept_led k _ _ (record { queue = λ q e s. kept_one k.queues place (queue_lives k) q e s; semaphore = λ q e s. s }) h
change_led (SemaphoreBegins {k = k} place s free room short) first b h = comes k _ _ _ (stay k.tree.files) (stay k.queues) (set_stay k.semaphores place s) h
change_led (SemaphoreChanges {k = k} place old new there short) first b h = comes k _ _ _ (stay k.tree.files) (stay k.queues) (set_stay k.semaphores place new) h
change_led (SemaphoreSweeps {k = k} place) first b h = kept_led k _ _ (record { queue = λ q e s. s; semaphore = λ q e s. kept_one k.semaphores place (semaphore_lives k) q e s }) h
change_led c first b h = h
