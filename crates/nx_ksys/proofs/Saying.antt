-- What a row tells is words and bytes, and what it keeps is bytes.
use Rattle.std.proofs.Common.{◌≡◌, ℕ, ◌<◌, ◌^◌, ◌==◌, Bool, true, false, List, [], ◌∷◌, ◌++◌, length, min, Option, Some, None, refl, subst, arith}
use Rattle.std.specs.Prelude.{nat_lt, nat_abs, if◌then◌else◌}
use Rattle.std.proofs.lemmas.Bool.Decides.{nat_tests}
use Rattle.nx_base.specs.ByteLists.{AreBytes}
use Rattle.nx_base.specs.Calls.{Reply}
use Rattle.nx_base.specs.Replies.{most_moved}
use Rattle.nx_base.specs.ErrorNumbers.{number_of}
use Rattle.nx_base.specs.declared.errno.Errno.{Errno}
use Rattle.nx_base.specs.declared.errno.Errno.TheVariants as errno
use Rattle.nx_ksys.specs.declared.thread.Thread.{Thread}
use Rattle.nx_ksys.specs.declared.thread.Wait.{Wait}
use Rattle.nx_ksys.specs.Telling.{both, reply, failure}
use Rattle.nx_ksys.specs.Threads.{changed, change_thread, with_error, block}
use Rattle.nx_ksys.specs.State.{FileTree, Message, Queue, Group, Code, KernelState}
use Rattle.nx_ksys.specs.Answers.{Stepped, Caller, with_errno, replied, failed, silent, waits, text_out, int_out}
use Rattle.nx_ksys.specs.Soundness.{EachStanding}
use Rattle.nx_ksys.specs.ByteLaws.{Each, IsGroupOfBytes, IsThreadOfBytes, IsCodeOfWord, IsMessageOfBytes, IsQueueOfBytes, AreOfBytes, IsOfBytes, IsTold}
use Rattle.nx_ksys.proofs.Standing.{some_same, none_some}
use Rattle.nx_ksys.proofs.ByteWalks.{no_bytes, more_bytes, joined_bytes, number_bytes, each_none, each_more, all_from_each, standing_changed}

-- ---- replies

both_bytes : (outputs : List (List ℕ)) → Each AreBytes outputs → Each AreBytes (both outputs)
both_bytes [] h = each_more AreBytes [] ([] ∷ []) no_bytes (each_more AreBytes [] [] no_bytes (each_none AreBytes))
both_bytes (a ∷ []) h = each_more AreBytes a ([] ∷ []) (h 0 a refl) (each_more AreBytes [] [] no_bytes (each_none AreBytes))
both_bytes (a ∷ b ∷ outputs) h = each_more AreBytes a (b ∷ []) (h 0 a refl) (each_more AreBytes b [] (h 1 b refl) (each_none AreBytes))

pub told_reply : (thread value : ℕ) (outputs : List (List ℕ)) → value < 2 ^ 32 → Each AreBytes outputs → IsTold (reply thread value outputs)
told_reply thread value outputs v o = record { value = v; bytes = all_from_each AreBytes (both outputs) (both_bytes outputs o) }

pub told_failure : (thread : ℕ) (e : Errno) → IsTold (failure thread e)
told_failure thread e = record { value = omega arith; bytes = all_from_each AreBytes (both []) (both_bytes [] (each_none AreBytes)) }

pub one_told : (a : Reply) → IsTold a → Each IsTold (a ∷ [])
one_told a h = each_more IsTold a [] h (each_none IsTold)

pub one_output : (bytes : List ℕ) → AreBytes bytes → Each AreBytes (bytes ∷ [])
one_output bytes h = each_more AreBytes bytes [] h (each_none AreBytes)

pub int_output : (n : ℕ) → Each AreBytes (int_out n ∷ [])
int_output n = one_output (int_out n) (number_bytes 4 n)

-- ---- threads

pub errno_fits : (e : Errno) → nat_abs (number_of e) < 2 ^ 32
errno_fits errno.Enoent = omega arith
errno_fits errno.Ebadf = omega arith
errno_fits errno.Echild = omega arith
errno_fits errno.Eagain = omega arith
errno_fits errno.Enomem = omega arith
errno_fits errno.Efault = omega arith
errno_fits errno.Eexist = omega arith
errno_fits errno.Enotdir = omega arith
errno_fits errno.Eisdir = omega arith
errno_fits errno.Einval = omega arith
errno_fits errno.Emfile = omega arith
errno_fits errno.Efbig = omega arith
errno_fits errno.Enospc = omega arith
errno_fits errno.Enosys = omega arith
errno_fits errno.Enotempty = omega arith
errno_fits errno.Emsgsize = omega arith
errno_fits errno.Etimedout = omega arith

-- one thread changes, and keeps what is asked of it
pub changed_bytes : (f : Thread → Thread) (n : ℕ) (ts : List (Option Thread)) → ((t : Thread) → IsThreadOfBytes t → IsThreadOfBytes (f t)) → EachStanding IsThreadOfBytes ts → EachStanding IsThreadOfBytes (change_thread n f ts)
unfolding change_thread
changed_bytes f n ts keep h = standing_changed IsThreadOfBytes (changed n f) ts by_one h
  where
    by_test : (t y : Thread) (b : Bool) → (if b then Some (f t) else Some t) ≡ Some y → IsThreadOfBytes t → IsThreadOfBytes y
    by_test t y true e g = subst IsThreadOfBytes (some_same (f t) y e) (keep t g)
    by_test t y false e g = subst IsThreadOfBytes (some_same t y e) g

    by_one : (o : Option Thread) (y : Thread) → changed n f o ≡ Some y → ((x : Thread) → o ≡ Some x → IsThreadOfBytes x) → IsThreadOfBytes y
    by_one None y e g = absurd (none_some y e)
    by_one (Some t) y e g = by_test t y (t.number == n) e (g t refl)

pub with_threads_bytes : (k : KernelState) (ts : List (Option Thread)) → IsOfBytes k → EachStanding IsThreadOfBytes ts → AreOfBytes k.limits k.tree k.groups ts k.codes k.input k.queues k.sending
with_threads_bytes k ts h t = record { names = h.names; paths = h.paths; contents = h.contents; each_group = h.each_group; each_thread = t; children = h.children; rest = h.rest; each_queue = h.each_queue; each_sent = h.each_sent }

pub with_tree_bytes : (k : KernelState) (tree : FileTree) → IsOfBytes k → Each (λ e. AreBytes e.0) tree.entries → EachStanding AreBytes tree.files → AreOfBytes k.limits tree k.groups k.sched.threads k.codes k.input k.queues k.sending
with_tree_bytes k tree h p c = record { names = h.names; paths = p; contents = c; each_group = h.each_group; each_thread = h.each_thread; children = h.children; rest = h.rest; each_queue = h.each_queue; each_sent = h.each_sent }

pub with_groups_bytes : (k : KernelState) (gs : List (Option Group)) → IsOfBytes k → EachStanding IsGroupOfBytes gs → AreOfBytes k.limits k.tree gs k.sched.threads k.codes k.input k.queues k.sending
with_groups_bytes k gs h g = record { names = h.names; paths = h.paths; contents = h.contents; each_group = g; each_thread = h.each_thread; children = h.children; rest = h.rest; each_queue = h.each_queue; each_sent = h.each_sent }

pub with_codes_bytes : (k : KernelState) (cs : List Code) → IsOfBytes k → Each IsCodeOfWord cs → AreOfBytes k.limits k.tree k.groups k.sched.threads cs k.input k.queues k.sending
with_codes_bytes k cs h c = record { names = h.names; paths = h.paths; contents = h.contents; each_group = h.each_group; each_thread = h.each_thread; children = c; rest = h.rest; each_queue = h.each_queue; each_sent = h.each_sent }

pub with_input_bytes : (k : KernelState) (input : List ℕ) → IsOfBytes k → AreBytes input → AreOfBytes k.limits k.tree k.groups k.sched.threads k.codes input k.queues k.sending
with_input_bytes k input h i = record { names = h.names; paths = h.paths; contents = h.contents; each_group = h.each_group; each_thread = h.each_thread; children = h.children; rest = i; each_queue = h.each_queue; each_sent = h.each_sent }

pub with_queues_bytes : (k : KernelState) (qs : List (Option Queue)) (ms : List (Option Message)) → IsOfBytes k → EachStanding IsQueueOfBytes qs → EachStanding IsMessageOfBytes ms → AreOfBytes k.limits k.tree k.groups k.sched.threads k.codes k.input qs ms
with_queues_bytes k qs ms h q m = record { names = h.names; paths = h.paths; contents = h.contents; each_group = h.each_group; each_thread = h.each_thread; children = h.children; rest = h.rest; each_queue = q; each_sent = m }

pub errno_bytes : (k : KernelState) (n : ℕ) (e : Errno) → IsOfBytes k → IsOfBytes (with_errno k n e)
unfolding with_error
errno_bytes k n e h = with_threads_bytes k (change_thread n (λ t. record t { errno = number_of e }) k.sched.threads) h
    (changed_bytes (λ t. record t { errno = number_of e }) n k.sched.threads (λ t g. let p = g.priority in record { priority = p; errno = errno_fits e }) h.each_thread)

-- ---- rows

-- what a row keeps and tells
pub record Says (s : Stepped) : Type 0 where
  pub kept : IsOfBytes s.to
  pub told : Each IsTold s.replies

pub either : (b : Bool) (s t : Stepped) → Says s → Says t → Says (if b then s else t)
either true s t p q = p
either false s t p q = q

pub says : (l : KernelState) (c : Caller) (value : ℕ) (outputs : List (List ℕ)) → IsOfBytes l → value < 2 ^ 32 → Each AreBytes outputs → Says (replied l c value outputs)
says l c value outputs h v o = record { kept = h; told = one_told (reply c.thread.number value outputs) (told_reply c.thread.number value outputs v o) }

pub plain : (l : KernelState) (c : Caller) (value : ℕ) → IsOfBytes l → value < 2 ^ 32 → Says (replied l c value [])
plain l c value h v = says l c value [] h v (each_none AreBytes)

pub nothing_read : (l : KernelState) (c : Caller) → IsOfBytes l → Says (replied l c 0 ([] ∷ []))
nothing_read l c h = says l c 0 ([] ∷ []) h (omega arith) (one_output [] no_bytes)

pub fails : (l : KernelState) (c : Caller) (e : Errno) → IsOfBytes l → Says (failed l c e)
fails l c e h = record { kept = errno_bytes l c.thread.number e h; told = one_told (failure c.thread.number e) (told_failure c.thread.number e) }

pub quiet : (l : KernelState) → IsOfBytes l → Says (silent l)
quiet l h = record { kept = h; told = each_none IsTold }

pub blocks : (k : KernelState) (c : Caller) (for : Wait) (deadline : Option ℕ) → IsOfBytes k → Says (waits k c for deadline)
unfolding block
blocks k c for deadline h = quiet (record k { sched = block k.sched c.thread.number c.asked for deadline })
    (with_threads_bytes k (block k.sched c.thread.number c.asked for deadline).threads h
    (changed_bytes _ c.thread.number k.sched.threads (λ t g. let p = g.priority in let e = g.errno in record { priority = p; errno = e }) h.each_thread))

pub texts : (k : KernelState) (c : Caller) (size : ℕ) (text : List ℕ) → IsOfBytes k → AreBytes text → Says (text_out k c size text)
texts k c size text h b = by_test (nat_lt (length text) (min size most_moved)) refl
  where
    by_test : (t : Bool) → nat_lt (length text) (min size most_moved) ≡ t → Says (if t then replied k c (length text) ((text ++ 0 ∷ []) ∷ []) else failed k c errno.Einval)
    by_test true e = says k c (length text) ((text ++ 0 ∷ []) ∷ []) h (short e) (one_output (text ++ 0 ∷ []) (joined_bytes text (0 ∷ []) b (more_bytes 0 [] (omega arith) no_bytes)))
      where
        short : nat_lt (length text) (min size most_moved) ≡ true → length text < 2 ^ 32
        short q = let l : length text < min size most_moved = grind (arith, nat_tests) in omega (arith, l)
    by_test false e = fails k c errno.Einval h
