-- What is kept stays short.
use Rattle.std.proofs.Common.{◌≡◌, ℕ, zero, suc, ◌+◌, ◌≤◌, ◌==◌, Bool, true, false, List, [], ◌∷◌, length, map, Option, Some, None, refl, sym, ap, subst, arith}
use Rattle.std.specs.Prelude.{if◌then◌else◌, not, nat_le, slice_get, slice_set}
use Rattle.std.specs.Str.{bytes_eq}
use Rattle.std.proofs.lemmas.Bool.Decides.{nat_tests}
use Rattle.nx_ksys.specs.declared.node.Node.{Node}
use Rattle.nx_ksys.specs.declared.node.Open.{Open}
use Rattle.nx_ksys.specs.declared.thread.Thread.{Thread}
use Rattle.nx_ksys.specs.Threads.{flat}
use Rattle.nx_ksys.specs.State.{FileTree, Message, Group, KernelState}
use Rattle.nx_ksys.specs.Paths.{renamed}
use Rattle.nx_ksys.specs.Descriptors.{lives, swept, kept_if, living_from, queue_lives, semaphore_lives, without_idle}
use Rattle.nx_ksys.specs.Ends.{kept_message, kept_messages, nobodys, left_alone}
use Rattle.nx_ksys.specs.TreeCalls.{is_too_long, renamed_entries}
use Rattle.nx_ksys.specs.QueueCalls.{with_sent}
use Rattle.nx_ksys.specs.Soundness.{EachStanding}
use Rattle.nx_ksys.specs.ByteLaws.{Each}
use Rattle.nx_ksys.proofs.Standing.{some_same, none_some, flat_some}
use Rattle.nx_ksys.proofs.ByteWalks.{each_none, each_more, each_joined, each_kept, standing_changed, standing_set, standing_gone}
use Rattle.nx_kbounds.specs.Shortness.{IsShortGroup, IsShortMessage, IsShortQueue, IsShortSemaphore, IsShortFile, IsShort}
use Rattle.nx_kbounds.proofs.ShortTexts.{or_false, or_first}
use Rattle.nx_kbounds.proofs.Changes.{Change, Same, Then, GroupBegins, Vanishes, Idles, GroupGoes, GroupLeaves, Enters, Sets, Writes, Empties, FileBegins, FileSweeps, PathGoes, DirectoryBegins, Renames, QueueBegins, QueueChanges, Sends, QueueSweeps, SemaphoreBegins, SemaphoreChanges, SemaphoreSweeps, Prints}

-- ---- those that are left

nobodys_short : (group : ℕ) (gs : List (Option Group)) → EachStanding IsShortGroup gs → EachStanding IsShortGroup (map (nobodys group) gs)
nobodys_short group gs h = standing_changed IsShortGroup (nobodys group) gs by_one h
  where
    by_one : (o : Option Group) (y : Group) → nobodys group o ≡ Some y → ((x : Group) → o ≡ Some x → IsShortGroup x) → IsShortGroup y
    by_one None y e k = absurd (none_some y e)
    by_one (Some g) y e k = by_test (g.parent == group) e (k g refl)
      where
        by_test : (b : Bool) → (if b then Some (record g { parent = 0 }) else Some g) ≡ Some y → IsShortGroup g → IsShortGroup y
        by_test true q s = subst IsShortGroup (some_same (record g { parent = 0 }) y q) (record { directory = s.directory; words = s.words; variables = s.variables })
        by_test false q s = subst IsShortGroup (some_same g y q) s

gone_short : (group place : ℕ) (gs : List (Option Group)) → EachStanding IsShortGroup gs → EachStanding IsShortGroup (map (nobodys group) (slice_set gs place None))
gone_short group place gs h = nobodys_short group (slice_set gs place None) (standing_gone IsShortGroup gs place h)

living_short : {A : Type 0} (P : A → Type 0) (test : ℕ → Bool) (place : ℕ) (xs : List (Option A)) → EachStanding P xs → EachStanding P (living_from test place xs)
living_short P test place [] h p y e = absurd (none_some (Some y) e)
living_short {A} P test place (x ∷ xs) h zero y e = by_test (test place) (some_same _ (Some y) e)
  where
    by_test : (b : Bool) → (if b then x else None) ≡ Some y → P y
    by_test true q = h 0 y (ap Some q)
    by_test false q = absurd (none_some y q)
living_short P test place (x ∷ xs) h (suc p) y e = living_short P test (place + 1) xs (λ q z f. h (suc q) z f) p y e

kept_short : {A : Type 0} (P : A → Type 0) (b : Bool) (xs : List (Option A)) (place : ℕ) → EachStanding P xs → EachStanding P (kept_if b xs place)
kept_short P true xs place h = h
kept_short P false xs place h = standing_gone P xs place h

messages_short : (group : ℕ) (ts : List (Option Thread)) (ms : List (Option Message)) → EachStanding IsShortMessage ms → EachStanding IsShortMessage (kept_messages group ts ms)
messages_short group [] ms h p y e = h p y e
messages_short group (t ∷ ts) [] h p y e = absurd (none_some (Some y) e)
messages_short group (t ∷ ts) (m ∷ ms) h zero y e = by_thread t (some_same _ (Some y) e)
  where
    by_thread : (u : Option Thread) → kept_message group u m ≡ Some y → IsShortMessage y
    by_thread None q = h 0 y (ap Some q)
    by_thread (Some u) q = by_test (u.group == group) q
      where
        by_test : (b : Bool) → (if b then None else m) ≡ Some y → IsShortMessage y
        by_test true r = absurd (none_some y r)
        by_test false r = h 0 y (ap Some r)
messages_short group (t ∷ ts) (m ∷ ms) h (suc p) y e = messages_short group ts ms (λ q z f. h (suc q) z f) p y e

sent_short : (sending : List (Option Message)) (slot : Option ℕ) (m : Option Message) → ((n : Message) → m ≡ Some n → IsShortMessage n) → EachStanding IsShortMessage sending → EachStanding IsShortMessage (with_sent sending slot m)
sent_short sending None m short h = h
sent_short sending (Some slot) None short h = standing_gone IsShortMessage sending slot h
sent_short sending (Some slot) (Some m) short h = standing_set IsShortMessage sending slot m (short m refl) h

-- ---- the tree

abbrev IsShortEntry : List ℕ × Node → Type 0
IsShortEntry e = length e.0 ≤ 255

one_entry : (path : List ℕ) (n : Node) → length path ≤ 255 → Each IsShortEntry ((path, n) ∷ [])
one_entry path n le = each_more IsShortEntry (path, n) [] le (each_none IsShortEntry)

swept_short : (tree : FileTree) (opens : List (Option Open)) (place : ℕ) → EachStanding IsShortFile tree.files → EachStanding IsShortFile (swept tree opens place).files
unfolding swept
swept_short tree opens place h = by_test (lives place tree.entries opens)
  where
    by_test : (b : Bool) → EachStanding IsShortFile (let t : FileTree = if b then tree else record tree { files = slice_set tree.files place None } in t).files
    by_test true = h
    by_test false = standing_gone IsShortFile tree.files place h

swept_entries : (tree : FileTree) (opens : List (Option Open)) (place : ℕ) → (swept tree opens place).entries ≡ tree.entries
unfolding swept
swept_entries tree opens place = by_test (lives place tree.entries opens)
  where
    by_test : (b : Bool) → (let t : FileTree = if b then tree else record tree { files = slice_set tree.files place None } in t).entries ≡ tree.entries
    by_test true = refl
    by_test false = refl

renamed_short : (first second : List ℕ) (es : List (List ℕ × Node)) → is_too_long first second es ≡ false → Each IsShortEntry (renamed_entries first second es)
renamed_short first second [] h = each_none IsShortEntry
renamed_short first second (e ∷ es) h =
    let rest = is_too_long first second es in
    let own = or_first (nat_le 256 (length (renamed first second e.0))) rest h in
    each_more IsShortEntry (renamed first second e.0, e.1) (renamed_entries first second es) (fits (length (renamed first second e.0)) own) (renamed_short first second es (or_false (nat_le 256 (length (renamed first second e.0))) rest h))
  where
    fits : (n : ℕ) → nat_le 256 n ≡ false → n ≤ 255
    fits n e = grind (arith, nat_tests)

group_at : (gs : List (Option Group)) (place : ℕ) (g : Group) → flat (slice_get gs place) ≡ Some g → EachStanding IsShortGroup gs → IsShortGroup g
group_at gs place g e h = h place g (flat_some (slice_get gs place) g e)

pub change_short : {a : ℕ} {k l : KernelState} → Change a k l → IsShort k → IsShort l
unfolding left_alone without_idle
change_short Same h = h
change_short (Then c d) h = change_short d (change_short c h)
change_short (GroupBegins {k = k} c slot program priority arguments free few there short empty) h =
    let own = group_at k.groups c.place c.group there h.each_group in
    record {
      paths = h.paths;
      contents = h.contents;
      each_group = standing_set IsShortGroup k.groups slot _ (record { directory = own.directory; words = short; variables = own.variables }) h.each_group;
      each_queue = h.each_queue;
      each_sent = h.each_sent;
      each_semaphore = h.each_semaphore;
      shows = h.shows;
    }
change_short (Vanishes {k = k} group) h = record { paths = h.paths; contents = h.contents; each_group = h.each_group; each_queue = h.each_queue; each_sent = messages_short group k.sched.threads k.sending h.each_sent; each_semaphore = h.each_semaphore; shows = h.shows }
change_short (Idles {k = k}) h = record {
  paths = h.paths;
  contents = h.contents;
  each_group = h.each_group;
  each_queue = living_short IsShortQueue (queue_lives k) 0 k.queues h.each_queue;
  each_sent = h.each_sent;
  each_semaphore = living_short IsShortSemaphore (semaphore_lives k) 0 k.semaphores h.each_semaphore;
  shows = h.shows;
}
change_short (GroupGoes {k = k} place g e there none) h = record { paths = h.paths; contents = h.contents; each_group = gone_short g.number place k.groups h.each_group; each_queue = h.each_queue; each_sent = h.each_sent; each_semaphore = h.each_semaphore; shows = h.shows }
change_short (GroupLeaves {k = k} place g e code there none) h = record { paths = h.paths; contents = h.contents; each_group = gone_short g.number place k.groups h.each_group; each_queue = h.each_queue; each_sent = h.each_sent; each_semaphore = h.each_semaphore; shows = h.shows }
change_short (Enters {k = k} place g path there short) h =
    let own = group_at k.groups place g there h.each_group in
    record {
      paths = h.paths;
      contents = h.contents;
      each_group = standing_set IsShortGroup k.groups place _ (record { directory = short; words = own.words; variables = own.variables }) h.each_group;
      each_queue = h.each_queue;
      each_sent = h.each_sent;
      each_semaphore = h.each_semaphore;
      shows = h.shows;
    }
change_short (Sets {k = k} place g variables there short) h =
    let own = group_at k.groups place g there h.each_group in
    record {
      paths = h.paths;
      contents = h.contents;
      each_group = standing_set IsShortGroup k.groups place _ (record { directory = own.directory; words = own.words; variables = short own.variables }) h.each_group;
      each_queue = h.each_queue;
      each_sent = h.each_sent;
      each_semaphore = h.each_semaphore;
      shows = h.shows;
    }
change_short (Writes {k = k} place old new there short) h = record {
  paths = h.paths;
  contents = standing_set IsShortFile k.tree.files place new (short (h.contents place old (flat_some (slice_get k.tree.files place) old there))) h.contents;
  each_group = h.each_group;
  each_queue = h.each_queue;
  each_sent = h.each_sent;
  each_semaphore = h.each_semaphore;
  shows = h.shows;
}
change_short (Empties {k = k} path n place there kind) h = record {
  paths = h.paths;
  contents = standing_set IsShortFile k.tree.files place [] (omega arith) h.contents;
  each_group = h.each_group;
  each_queue = h.each_queue;
  each_sent = h.each_sent;
  each_semaphore = h.each_semaphore;
  shows = h.shows;
}
change_short (FileBegins {k = k} path place free short room) h = record {
  paths = each_joined IsShortEntry k.tree.entries ((path, _) ∷ []) h.paths (one_entry path _ short);
  contents = standing_set IsShortFile k.tree.files place [] (omega arith) h.contents;
  each_group = h.each_group;
  each_queue = h.each_queue;
  each_sent = h.each_sent;
  each_semaphore = h.each_semaphore;
  shows = h.shows;
}
change_short (FileSweeps {k = k} place) h = record {
  paths = subst (Each IsShortEntry) (sym (swept_entries k.tree k.opens place)) h.paths;
  contents = swept_short k.tree k.opens place h.contents;
  each_group = h.each_group;
  each_queue = h.each_queue;
  each_sent = h.each_sent;
  each_semaphore = h.each_semaphore;
  shows = h.shows;
}
change_short (PathGoes {k = k} path) h = record { paths = each_kept IsShortEntry (λ e. not (bytes_eq path e.0)) k.tree.entries h.paths; contents = h.contents; each_group = h.each_group; each_queue = h.each_queue; each_sent = h.each_sent; each_semaphore = h.each_semaphore; shows = h.shows }
change_short (DirectoryBegins {k = k} path short room) h = record {
  paths = each_joined IsShortEntry k.tree.entries ((path, _) ∷ []) h.paths (one_entry path _ short);
  contents = h.contents;
  each_group = h.each_group;
  each_queue = h.each_queue;
  each_sent = h.each_sent;
  each_semaphore = h.each_semaphore;
  shows = h.shows;
}
change_short (Renames {k = k} first second fits) h = record { paths = renamed_short first second k.tree.entries fits; contents = h.contents; each_group = h.each_group; each_queue = h.each_queue; each_sent = h.each_sent; each_semaphore = h.each_semaphore; shows = h.shows }
change_short (QueueBegins {k = k} path place limit size free short room q) h = record {
  paths = each_joined IsShortEntry k.tree.entries ((path, _) ∷ []) h.paths (one_entry path _ short);
  contents = h.contents;
  each_group = h.each_group;
  each_queue = standing_set IsShortQueue k.queues place _ q h.each_queue;
  each_sent = h.each_sent;
  each_semaphore = h.each_semaphore;
  shows = h.shows;
}
change_short (QueueChanges {k = k} place old new there short) h = record {
  paths = h.paths;
  contents = h.contents;
  each_group = h.each_group;
  each_queue = standing_set IsShortQueue k.queues place new (short h.each_sent (h.each_queue place old (flat_some (slice_get k.queues place) old there))) h.each_queue;
  each_sent = h.each_sent;
  each_semaphore = h.each_semaphore;
  shows = h.shows;
}
change_short (Sends {k = k} slot m short) h = record { paths = h.paths; contents = h.contents; each_group = h.each_group; each_queue = h.each_queue; each_sent = sent_short k.sending slot m short h.each_sent; each_semaphore = h.each_semaphore; shows = h.shows }
change_short (QueueSweeps {k = k} place) h = record { paths = h.paths; contents = h.contents; each_group = h.each_group; each_queue = kept_short IsShortQueue (queue_lives k place) k.queues place h.each_queue; each_sent = h.each_sent; each_semaphore = h.each_semaphore; shows = h.shows }
change_short (SemaphoreBegins {k = k} place s free room short) h = record { paths = h.paths; contents = h.contents; each_group = h.each_group; each_queue = h.each_queue; each_sent = h.each_sent; each_semaphore = standing_set IsShortSemaphore k.semaphores place s short h.each_semaphore; shows = h.shows }
change_short (SemaphoreChanges {k = k} place old new there short) h = record {
  paths = h.paths;
  contents = h.contents;
  each_group = h.each_group;
  each_queue = h.each_queue;
  each_sent = h.each_sent;
  each_semaphore = standing_set IsShortSemaphore k.semaphores place new (short (h.each_semaphore place old (flat_some (slice_get k.semaphores place) old there))) h.each_semaphore;
  shows = h.shows;
}
change_short (SemaphoreSweeps {k = k} place) h = record { paths = h.paths; contents = h.contents; each_group = h.each_group; each_queue = h.each_queue; each_sent = h.each_sent; each_semaphore = kept_short IsShortSemaphore (semaphore_lives k place) k.semaphores place h.each_semaphore; shows = h.shows }
change_short (Prints {k = k} bytes fits) h = record { paths = h.paths; contents = h.contents; each_group = h.each_group; each_queue = h.each_queue; each_sent = h.each_sent; each_semaphore = h.each_semaphore; shows = fits h.shows }
change_short c h = h
