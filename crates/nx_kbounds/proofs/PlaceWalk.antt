-- No change takes or brings places.
use Rattle.std.proofs.Common.{◌≡◌, ℕ, suc, ◌+◌, Bool, true, false, List, [], ◌∷◌, length, map, Option, Some, None, refl, ap, ◌∙◌}
use Rattle.std.specs.Prelude.{if◌then◌else◌, slice_set}
use Rattle.nx_ksys.specs.declared.node.Open.{Open}
use Rattle.nx_ksys.specs.declared.thread.Thread.{Thread}
use Rattle.nx_ksys.specs.Threads.{change_thread, wake, block, with_error}
use Rattle.nx_ksys.specs.State.{FileTree, Message, Group, KernelState}
use Rattle.nx_ksys.specs.Descriptors.{lives, swept, kept_if, living_from, queue_lives, semaphore_lives, without_idle}
use Rattle.nx_ksys.specs.Ends.{without_group, without_thread, kept_messages, nobodys, left_alone}
use Rattle.nx_ksys.specs.GroupCalls.{with_streams, with_new_thread, with_new_group}
use Rattle.nx_ksys.specs.QueueCalls.{with_sent}
use Rattle.nx_ksys.proofs.Standing.{length_map, length_set}
use Rattle.nx_kbounds.specs.Counts.{places}
use Rattle.nx_kbounds.proofs.Changes.{Change, Same, Then, Fails, Wakes, Waits, Prioritises, Yields, ThreadBegins, GroupBegins, ThreadGoes, ThreadLeaves, Vanishes, Idles, GroupGoes, GroupLeaves, Enters, Sets, Shares, Closes, ClosesLast, Opens, Seeks, Writes, Empties, FileBegins, FileSweeps, QueueBegins, QueueChanges, Sends, QueueSweeps, SemaphoreBegins, SemaphoreChanges, SemaphoreSweeps}

changed_places : (number : ℕ) (f : Thread → Thread) (ts : List (Option Thread)) → length (change_thread number f ts) ≡ length ts
unfolding change_thread
changed_places number f ts = length_map _ ts

kept_places : (group : ℕ) (ts : List (Option Thread)) (ms : List (Option Message)) → length (kept_messages group ts ms) ≡ length ms
kept_places group [] ms = refl
kept_places group (t ∷ ts) [] = refl
kept_places group (t ∷ ts) (m ∷ ms) = ap suc (kept_places group ts ms)

living_places : {A : Type 0} (test : ℕ → Bool) (place : ℕ) (xs : List (Option A)) → length (living_from test place xs) ≡ length xs
living_places test place [] = refl
living_places test place (x ∷ xs) = ap suc (living_places test (place + 1) xs)

swept_places : (tree : FileTree) (opens : List (Option Open)) (place : ℕ) → length (swept tree opens place).files ≡ length tree.files
unfolding swept
swept_places tree opens place = by_test (lives place tree.entries opens)
  where
    by_test : (b : Bool) → length (let t : FileTree = if b then tree else record tree { files = slice_set tree.files place None } in t).files ≡ length tree.files
    by_test true = refl
    by_test false = length_set tree.files place None

kept_one : {A : Type 0} (b : Bool) (xs : List (Option A)) (place : ℕ) → length (kept_if b xs place) ≡ length xs
kept_one true xs place = refl
kept_one false xs place = length_set xs place None

sent_places : (sending : List (Option Message)) (slot : Option ℕ) (m : Option Message) → length (with_sent sending slot m) ≡ length sending
sent_places sending None m = refl
sent_places sending (Some slot) m = length_set sending slot m

stream_places : (ds : List (Option ℕ)) (from to : ℕ) → length (with_streams ds from to) ≡ length ds
stream_places ds from to = length_set _ _ _ ∙ length_set _ _ _ ∙ length_set ds _ _

gone_places : (group place : ℕ) (gs : List (Option Group)) → length (map (nobodys group) (slice_set gs place None)) ≡ length gs
gone_places group place gs = length_map (nobodys group) (slice_set gs place None) ∙ length_set gs place None

pub change_places : {a : ℕ} {k l : KernelState} → Change a k l → places l ≡ places k
unfolding wake block with_error left_alone without_idle
change_places Same = refl
change_places (Then c d) = change_places d ∙ change_places c
change_places (Fails {k = k} thread e) = ap (λ n. record (places k) { threads = n }) (changed_places thread _ k.sched.threads)
change_places (Wakes {k = k} t slot s r) = ap (λ n. record (places k) { threads = n }) (changed_places t.number _ k.sched.threads)
change_places (Waits {k = k} thread asked for deadline numbered near awaits) = ap (λ n. record (places k) { threads = n }) (changed_places thread _ k.sched.threads)
change_places (Prioritises {k = k} thread priority) = ap (λ n. record (places k) { threads = n }) (changed_places thread _ k.sched.threads)
change_places (Yields {k = k} thread) = ap (λ n. record (places k) { threads = n }) (changed_places thread _ k.sched.threads)
change_places (ThreadBegins {k = k} slot group priority free few) = ap (λ n. record (places k) { threads = n }) (length_set k.sched.threads slot _)
change_places (GroupBegins {k = k} c slot program priority arguments free few there short empty) =
    ap (λ n. record (places k) { threads = n; groups = length (with_new_group (with_new_thread k slot 0 priority) c slot program arguments).groups; descriptors = length (with_streams k.descriptors c.place slot) }) (length_set k.sched.threads slot _)
    ∙ ap (λ n. record (places k) { groups = n; descriptors = length (with_streams k.descriptors c.place slot) }) (length_set k.groups slot _)
    ∙ ap (λ n. record (places k) { descriptors = n }) (stream_places k.descriptors c.place slot)
change_places (ThreadGoes {k = k} t slot s) = ap (λ n. record (places k) { threads = n }) (length_map (without_thread t.number) k.sched.threads)
change_places (ThreadLeaves {k = k} t slot v s) = ap (λ n. record (places k) { threads = n }) (length_map (without_thread t.number) k.sched.threads)
change_places (Vanishes {k = k} group) =
    ap (λ n. record (places k) { threads = n; sending = length (kept_messages group k.sched.threads k.sending) }) (length_map (without_group group) k.sched.threads)
    ∙ ap (λ n. record (places k) { sending = n }) (kept_places group k.sched.threads k.sending)
change_places (Idles {k = k}) =
    ap (λ n. record (places k) { queues = n; semaphores = length (living_from (semaphore_lives k) 0 k.semaphores) }) (living_places (queue_lives k) 0 k.queues)
    ∙ ap (λ n. record (places k) { semaphores = n }) (living_places (semaphore_lives k) 0 k.semaphores)
change_places (GroupGoes {k = k} place g e there none) = ap (λ n. record (places k) { groups = n }) (gone_places g.number place k.groups)
change_places (GroupLeaves {k = k} place g e code there none) = ap (λ n. record (places k) { groups = n }) (gone_places g.number place k.groups)
change_places (Enters {k = k} place g path there short) = ap (λ n. record (places k) { groups = n }) (length_set k.groups place _)
change_places (Sets {k = k} place g variables there short) = ap (λ n. record (places k) { groups = n }) (length_set k.groups place _)
change_places (Shares {k = k} place fd description held free) = ap (λ n. record (places k) { descriptors = n }) (length_set k.descriptors _ _)
change_places (Closes {k = k} place fd d held there) = ap (λ n. record (places k) { descriptors = n }) (length_set k.descriptors _ _)
change_places (ClosesLast {k = k} place fd d held there) =
    ap (λ n. record (places k) { descriptors = n; opens = length (slice_set k.opens d None) }) (length_set k.descriptors _ _)
    ∙ ap (λ n. record (places k) { opens = n }) (length_set k.opens d None)
change_places (Opens {k = k} place fd at to flags free there least leads) =
    ap (λ n. record (places k) { descriptors = n; opens = length (slice_set k.opens at (Some (record { target = to; flags = flags; offset = 0 }))) }) (length_set k.descriptors _ _)
    ∙ ap (λ n. record (places k) { opens = n }) (length_set k.opens at _)
change_places (Seeks {k = k} place o offset there) = ap (λ n. record (places k) { opens = n }) (length_set k.opens place _)
change_places (Writes {k = k} place old new there short) = ap (λ n. record (places k) { files = n }) (length_set k.tree.files place _)
change_places (Empties {k = k} path node place there kind) = ap (λ n. record (places k) { files = n }) (length_set k.tree.files place _)
change_places (FileBegins {k = k} path place free short room) = ap (λ n. record (places k) { files = n }) (length_set k.tree.files place _)
change_places (FileSweeps {k = k} place) = ap (λ n. record (places k) { files = n }) (swept_places k.tree k.opens place)
change_places (QueueBegins {k = k} path place limit size free short room q) = ap (λ n. record (places k) { queues = n }) (length_set k.queues place _)
change_places (QueueChanges {k = k} place old new there short) = ap (λ n. record (places k) { queues = n }) (length_set k.queues place _)
change_places (Sends {k = k} slot m short) = ap (λ n. record (places k) { sending = n }) (sent_places k.sending slot m)
change_places (QueueSweeps {k = k} place) = ap (λ n. record (places k) { queues = n }) (kept_one (queue_lives k place) k.queues place)
change_places (SemaphoreBegins {k = k} place s free room short) = ap (λ n. record (places k) { semaphores = n }) (length_set k.semaphores place _)
change_places (SemaphoreChanges {k = k} place old new there short) = ap (λ n. record (places k) { semaphores = n }) (length_set k.semaphores place _)
change_places (SemaphoreSweeps {k = k} place) = ap (λ n. record (places k) { semaphores = n }) (kept_one (semaphore_lives k place) k.semaphores place)
change_places c = refl
