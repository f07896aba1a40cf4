-- Starts, children, arguments, reports and threads: what their calls tell is words and bytes.
use Rattle.std.proofs.Common.{◌≡◌, ℕ, ◌+◌, ◌<◌, ◌≤◌, ◌^◌, ◌==◌, ◌&&◌, ◌||◌, Bool, true, false, List, [], ◌∷◌, ◌++◌, Option, Some, None, Ok, Err, refl, arith}
use Rattle.std.specs.Prelude.{not, nat_le, nat_lt, nat_abs, slice_get, filter, decimal, if◌then◌else◌, Result}
use Rattle.std.specs.List.{find}
use Rattle.std.proofs.lemmas.Bool.Decides.{nat_tests}
use Rattle.std.proofs.lemmas.Fmt.{IsAscii-decimal}
use Rattle.nx_base.specs.ByteLists.{AreBytes}
use Rattle.nx_base.specs.declared.errno.Errno.{Errno}
use Rattle.nx_base.specs.declared.errno.Errno.TheVariants as errno
use Rattle.nx_ksys.specs.declared.node.Node.{Node}
use Rattle.nx_ksys.specs.declared.node.NodeKind.{NodeKind}
use Rattle.nx_ksys.specs.declared.node.NodeKind.TheVariants as node
use Rattle.nx_ksys.specs.declared.thread.Thread.{Thread}
use Rattle.nx_ksys.specs.declared.thread.Wait.{Wait}
use Rattle.nx_ksys.specs.declared.thread.Wait.TheVariants as wait
use Rattle.nx_ksys.specs.Telling.{minus_one, reply}
use Rattle.nx_ksys.specs.Threads.{is_numbered, thread_of, free_slot}
use Rattle.nx_ksys.specs.State.{Group, Code, ThreadValue, KernelState}
use Rattle.nx_ksys.specs.Paths.{resolved, node_at, last_part}
use Rattle.nx_ksys.specs.Answers.{Begins, Caller, replied, failed, int_out, is_negative}
use Rattle.nx_ksys.specs.Ends.{has_child, has_any_child, is_code, is_any_code}
use Rattle.nx_ksys.specs.GroupCalls.{arguments_of, is_ended, spawn_priority, most_numbers, with_new_thread, spawned, spawn_at, spawn_kind, spawn_node, spawn_path, spawn_row, without_code, wait_for, wait_child, waitpid_row, arg_out, arg_row, name_of_program, priority_of, nth_group, is_nth, status_of, ps_out, ps_row}
use Rattle.nx_ksys.specs.ThreadCalls.{at_the_end, prioritised, set_priority, setpriority_row, yielded, yield_row, thread_at, thread_row, is_value, may_join, join_live, join_value, join_row, errno_row}
use Rattle.nx_ksys.specs.Soundness.{Stands, EachStanding}
use Rattle.nx_ksys.specs.ByteLaws.{IsGroupOfBytes, IsThreadOfBytes, IsCodeOfWord, IsOfBytes, IsInput}
use Rattle.nx_ksys.proofs.Standing.{first_found, found_at}
use Rattle.nx_ksys.proofs.ByteWalks.{no_bytes, more_bytes, joined_bytes, each_none, each_more, each_kept, standing_set}
use Rattle.nx_ksys.proofs.PathBytes.{either_is, resolved_bytes, last_bytes, lines_bytes, few_lines}
use Rattle.nx_ksys.proofs.Saying.{told_reply, one_told, int_output, changed_bytes, with_threads_bytes, with_codes_bytes, Says, either, says, plain, nothing_read, fails, blocks, texts}

-- ---- starts

new_thread : (k : KernelState) (slot group priority : ℕ) → IsOfBytes k → priority < 256 → EachStanding IsThreadOfBytes (with_new_thread k slot group priority).sched.threads
new_thread k slot group priority b lt = standing_set IsThreadOfBytes k.sched.threads slot _ (record { priority = lt; errno = omega arith }) b.each_thread

few_numbers : (k : KernelState) → nat_le most_numbers k.numbers ≡ false → k.numbers + 1 < 2 ^ 32
few_numbers k e = let l : k.numbers < most_numbers = grind (arith, nat_tests) in omega (arith, l)

pub spawn_says : (k : KernelState) (c : Caller) (b : IsOfBytes k) (path text : List ℕ) (word : ℕ) → IsGroupOfBytes c.group → AreBytes path → IsInput text → Says (spawn_row k c path text word)
unfolding spawn_row
spawn_says k c b path text word g p t = by_test (not (is_ended text)) (nat_lt 255 word) refl
  where
    group : (at : List ℕ) (program : ℕ) → AreBytes at → IsGroupOfBytes (record { number = k.numbers + 1; program = program; parent = c.group.number; directory = c.group.directory; arguments = last_part [] at ∷ arguments_of text; environment = c.group.environment })
    group at program a =
        let d = g.directory in
        let few = few_lines text [] in
        let short = t.few in
        let n = g.names in
        let v = g.values in
        record {
          directory = d;
          arguments = each_more AreBytes (last_part [] at) (arguments_of text) (last_bytes at [] no_bytes a) (lines_bytes text [] no_bytes t.bytes);
          few = omega (arith, few, short);
          names = n;
          values = v;
        }

    starts : (slot program priority : ℕ) (at : List ℕ) → priority < 256 → AreBytes at → k.numbers + 1 < 2 ^ 32 → Says (spawned k c slot program priority (last_part [] at ∷ arguments_of text))
    starts slot program priority at low a lt = record {
      kept = record {
        names = b.names;
        paths = b.paths;
        contents = b.contents;
        each_group = standing_set IsGroupOfBytes k.groups slot _ (group at program a) b.each_group;
        each_thread = new_thread k slot 0 priority b low;
        children = b.children;
        rest = b.rest;
        each_queue = b.each_queue;
        each_sent = b.each_sent;
      };
      told = one_told (reply c.thread.number (k.numbers + 1) []) (told_reply c.thread.number (k.numbers + 1) [] lt (each_none AreBytes));
    }

    by_room : (slot program priority : ℕ) (at : List ℕ) → priority < 256 → AreBytes at → (r : Bool) → nat_le most_numbers k.numbers ≡ r → Says (if r then failed k c errno.Eagain else spawned k c slot program priority (last_part [] at ∷ arguments_of text))
    by_room slot program priority at low a true e = fails k c errno.Eagain b
    by_room slot program priority at low a false e = starts slot program priority at low a (few_numbers k e)

    by_slot : (program priority : ℕ) (at : List ℕ) → priority < 256 → AreBytes at → (slot : Option ℕ) → Says (spawn_at k c program priority (last_part [] at ∷ arguments_of text) slot)
    by_slot program priority at low a None = fails k c errno.Eagain b
    by_slot program priority at low a (Some slot) = by_room slot program priority at low a (nat_le most_numbers k.numbers) refl

    by_kind : (at : List ℕ) → AreBytes at → (priority : ℕ) → priority < 256 → (n : NodeKind) → Says (spawn_kind k c at text priority n)
    by_kind at a priority low node.Directory = fails k c errno.Einval b
    by_kind at a priority low (node.File place) = fails k c errno.Einval b
    by_kind at a priority low node.Console = fails k c errno.Einval b
    by_kind at a priority low node.Null = fails k c errno.Einval b
    by_kind at a priority low (node.Program program) = by_slot program priority at low a (free_slot k.sched.threads)
    by_kind at a priority low (node.Queue place) = fails k c errno.Einval b

    by_node : (at : List ℕ) → AreBytes at → (priority : ℕ) → priority < 256 → (n : Option Node) → Says (spawn_node k c at text priority n)
    by_node at a priority low None = fails k c errno.Enoent b
    by_node at a priority low (Some n) = by_kind at a priority low n.kind

    by_path : (priority : ℕ) → priority < 256 → (r : Result (List ℕ) Errno) → resolved k.tree.entries c.group.directory path ≡ r → Says (spawn_path k c text priority r)
    by_path priority low (Err e) q = fails k c e b
    by_path priority low (Ok at) q = by_node at (resolved_bytes k.tree.entries c.group.directory path at g.directory p q) priority low (node_at k.tree.entries at)

    is_low : nat_lt 255 word ≡ false → spawn_priority word < 256
    is_low e = either_is (λ n. n < 256) (word == 0) 100 word (omega arith) (let l : word ≤ 255 = grind (arith, nat_tests) in omega (arith, l))

    by_test : (one two : Bool) → nat_lt 255 word ≡ two → Says (if one || two then failed k c errno.Einval else spawn_path k c text (spawn_priority word) (resolved k.tree.entries c.group.directory path))
    by_test true two e = fails k c errno.Einval b
    by_test false true e = fails k c errno.Einval b
    by_test false false e = by_path (spawn_priority word) (is_low e) (resolved k.tree.entries c.group.directory path) refl

pub thread_says : (k : KernelState) (c : Caller) (b : IsOfBytes k) → IsThreadOfBytes c.thread → Says (thread_row k c)
unfolding thread_row
thread_says k c b t = by_slot (free_slot k.sched.threads)
  where
    by_room : (slot : ℕ) (r : Bool) → nat_le most_numbers k.numbers ≡ r → Says (if r then failed k c errno.Eagain else (let number = k.numbers + 1 in record {
      to = with_new_thread k slot c.group.number c.thread.priority;
      effect = Begins (record { thread = number; group = c.group.number; program = c.group.program; slot = slot; is_thread = true; fresh = false });
      replies = reply c.thread.number number [] ∷ [];
    }))
    by_room slot true e = fails k c errno.Eagain b
    by_room slot false e = record {
      kept = with_threads_bytes k (with_new_thread k slot c.group.number c.thread.priority).sched.threads b (new_thread k slot c.group.number c.thread.priority b t.priority);
      told = one_told (reply c.thread.number (k.numbers + 1) []) (told_reply c.thread.number (k.numbers + 1) [] (few_numbers k e) (each_none AreBytes));
    }

    by_slot : (slot : Option ℕ) → Says (thread_at k c slot)
    by_slot None = fails k c errno.Eagain b
    by_slot (Some slot) = by_room slot (nat_le most_numbers k.numbers) refl

-- ---- children, arguments and reports

pub waitpid_says : (k : KernelState) (c : Caller) (b : IsOfBytes k) (pid option : ℕ) → Says (waitpid_row k c pid option)
unfolding waitpid_row
waitpid_says k c b pid option =
    either (pid == 0 || (is_negative pid && not (pid == minus_one)) || nat_lt 1 option) _ _ (fails k c errno.Einval b)
    (either (pid == minus_one) _ _ (by_code wait.AnyChild (has_any_child k.groups k.codes c.group.number) (find (is_any_code c.group.number) k.codes) (λ code e. let f = first_found (is_any_code c.group.number) k.codes code e in b.children f.place code f.at))
    (by_code (wait.Child pid) (has_child k.groups k.codes c.group.number pid) (find (is_code c.group.number pid) k.codes) (λ code e. let f = first_found (is_code c.group.number pid) k.codes code e in b.children f.place code f.at)))
  where
    waiting : (for : Wait) → Says (wait_for k c for option)
    waiting for = either (option == 1) _ _ (nothing_read k c b) (blocks k c for None b)

    by_code : (for : Wait) (there : Bool) (code : Option Code) → ((d : Code) → code ≡ Some d → IsCodeOfWord d) → Says (wait_child k c for option there code)
    by_code for there (Some code) h =
        says (record k { codes = without_code code k.codes }) c code.child (int_out code.code ∷ []) (with_codes_bytes k (without_code code k.codes) b (each_kept IsCodeOfWord (λ other. not (other.child == code.child)) k.codes b.children)) (h code refl) (int_output code.code)
    by_code for true None h = waiting for
    by_code for false None h = fails k c errno.Echild b

pub arg_says : (k : KernelState) (c : Caller) (b : IsOfBytes k) (index size : ℕ) → IsGroupOfBytes c.group → Says (arg_row k c index size)
unfolding arg_row
arg_says k c b index size g = by_argument (slice_get c.group.arguments index) refl
  where
    by_argument : (a : Option (List ℕ)) → slice_get c.group.arguments index ≡ a → Says (arg_out k c size a)
    by_argument None e = fails k c errno.Einval b
    by_argument (Some a) e = texts k c size a b (g.arguments index a e)

decimal_bytes : (n : ℕ) → n < 2 ^ 64 → AreBytes (decimal n)
decimal_bytes n lt i = let a = IsAscii-decimal n lt i in omega (arith, a)

program_bytes : (k : KernelState) (place : ℕ) → IsOfBytes k → (o : Option (List ℕ)) → slice_get k.limits.programs place ≡ o → AreBytes (name_of_program k.limits.programs o)
program_bytes k place b None e = more_bytes 110 (115 ∷ 104 ∷ []) (omega arith) (more_bytes 115 (104 ∷ []) (omega arith) (more_bytes 104 [] (omega arith) no_bytes))
program_bytes k place b (Some name) e = b.names place name e

low_priority : (k : KernelState) (number : ℕ) → IsOfBytes k → (o : Option Thread) → thread_of k.sched.threads number ≡ o → priority_of o < 256
unfolding thread_of
low_priority k number b None e = omega arith
low_priority k number b (Some t) e = let f = found_at (is_numbered number) k.sched.threads t e in (b.each_thread f.place t f.stands).priority

pub ps_says : (k : KernelState) (c : Caller) (b : IsOfBytes k) (index size : ℕ) → ((p : ℕ) (g : Group) → Stands k.groups p g → g.number < 2 ^ 32) → Says (ps_row k c index size)
unfolding ps_row nth_group
ps_says k c b index size numbers = either (is_negative index) _ _ (fails k c errno.Einval b) (by_group (nth_group k.groups index) refl)
  where
    status : (g : Group) → g.number < 2 ^ 32 → AreBytes (status_of k g)
    status g lt =
        let priority = priority_of (thread_of k.sched.threads g.number) in
        let low = low_priority k g.number b (thread_of k.sched.threads g.number) refl in
        let name = name_of_program k.limits.programs (slice_get k.limits.programs g.program) in
        joined_bytes (decimal g.number ++ 32 ∷ decimal priority) (32 ∷ name)
        (joined_bytes (decimal g.number) (32 ∷ decimal priority) (decimal_bytes g.number (omega (arith, lt))) (more_bytes 32 (decimal priority) (omega arith) (decimal_bytes priority (omega (arith, low)))))
        (more_bytes 32 name (omega arith) (program_bytes k g.program b (slice_get k.limits.programs g.program) refl))

    by_group : (o : Option Group) → nth_group k.groups index ≡ o → Says (ps_out k c size o)
    by_group None e = nothing_read k c b
    by_group (Some g) e = let f = found_at (is_nth k.groups index) k.groups g e in texts k c size (status_of k g) b (status g (numbers f.place g f.stands))

-- ---- threads

pub priority_says : (k : KernelState) (c : Caller) (b : IsOfBytes k) (thread priority : ℕ) → Says (setpriority_row k c thread priority)
unfolding setpriority_row
priority_says k c b thread priority = by_thread (thread_of k.sched.threads (if thread == 0 then c.thread.number else thread))
  where
    is_low : nat_lt 255 priority ≡ false → priority < 256
    is_low e = let l : priority ≤ 255 = grind (arith, nat_tests) in omega (arith, l)

    changes : (t : Thread) → priority < 256 → IsOfBytes (record k { sched = prioritised k.sched t.number priority })
    changes t low = with_threads_bytes k (prioritised k.sched t.number priority).threads b (changed_bytes (λ u. record u { priority = priority; doing = at_the_end k.sched.moments u.doing }) t.number k.sched.threads (λ u h. let e = h.errno in record { priority = low; errno = e }) b.each_thread)

    by_test : (t : Thread) (one two three : Bool) → nat_lt 255 priority ≡ three → Says (if one || two || three then failed k c errno.Einval else replied (record k { sched = prioritised k.sched t.number priority }) c 0 [])
    by_test t true two three e = fails k c errno.Einval b
    by_test t false true three e = fails k c errno.Einval b
    by_test t false false true e = fails k c errno.Einval b
    by_test t false false false e = plain (record k { sched = prioritised k.sched t.number priority }) c 0 (changes t (is_low e)) (omega arith)

    by_thread : (t : Option Thread) → Says (set_priority k c priority t)
    by_thread None = fails k c errno.Einval b
    by_thread (Some t) = by_test t (not (t.group == c.group.number)) (priority == 0) (nat_lt 255 priority) refl

pub yield_says : (k : KernelState) (c : Caller) (b : IsOfBytes k) → Says (yield_row k c)
unfolding yield_row
yield_says k c b = plain (record k { sched = yielded k.sched c.thread.number }) c 0
    (with_threads_bytes k (yielded k.sched c.thread.number).threads b (changed_bytes (λ u. record u { doing = at_the_end k.sched.moments u.doing }) c.thread.number k.sched.threads (λ u h. let p = h.priority in let e = h.errno in record { priority = p; errno = e }) b.each_thread))
    (omega arith)

pub join_says : (k : KernelState) (c : Caller) (b : IsOfBytes k) (thread : ℕ) → Says (join_row k c thread)
unfolding join_row
join_says k c b thread = by_value (find (is_value c.group.number thread) k.values)
  where
    by_thread : (t : Option Thread) → Says (join_live k c t)
    by_thread None = fails k c errno.Einval b
    by_thread (Some t) = either (may_join k c t) _ _ (blocks k c (wait.Thread t.number) None b) (fails k c errno.Einval b)

    by_value : (v : Option ThreadValue) → Says (join_value k c thread v)
    by_value None = by_thread (thread_of k.sched.threads thread)
    by_value (Some v) = says (record k { values = filter (λ other. not (other.thread == v.thread)) k.values }) c 0 (int_out v.value ∷ []) b (omega arith) (int_output v.value)

pub errno_says : (k : KernelState) (c : Caller) (b : IsOfBytes k) → IsThreadOfBytes c.thread → Says (errno_row k c)
unfolding errno_row
errno_says k c b t = plain k c (nat_abs c.thread.errno) b t.errno
