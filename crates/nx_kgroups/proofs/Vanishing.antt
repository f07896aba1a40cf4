-- Threads that vanish, and tables that keep their places.
use Rattle.std.proofs.Common.{◌≡◌, ◌≤◌, ℕ, suc, cond, Bool, true, false, List, [], ◌∷◌, length, arith}
use Rattle.std.specs.Prelude.{Option, Some, None, if◌then◌else◌, filter}
use Rattle.nx_ksys.specs.declared.thread.Thread.{Thread}
use Rattle.nx_ksys.specs.Threads.{is_ready}
use Rattle.nx_ipc.specs.Tables as ipc
use Rattle.nx_group.specs.Waiting.{waits_one, waiting}
use Rattle.nx_objects.specs.declared.objects.Objects.{Objects}
use Rattle.nx_objects.specs.Tables.{ArePlaced}

pub placed_given : (m n : ℕ) (o : Objects) (q : ipc.Tables) → m ≡ n → length q.queues ≡ length o.queues.queues → ArePlaced n o → ArePlaced m (record o { queues = q })
placed_given m n o q e l p = record {
  few = omega (arith, e, p.few);
  descriptors = omega (arith, e, p.descriptors);
  descriptions = omega (arith, e, p.descriptions);
  queues = omega (arith, l, p.queues);
  semaphores = p.semaphores;
}

one_waits : (b : Bool) → (if b then 0 else 1) ≤ 1
one_waits true = omega arith
one_waits false = omega arith

waits_few : (t : Option Thread) → waits_one t ≤ 1
waits_few None = omega arith
waits_few (Some t) = one_waits (is_ready t.doing)

-- no more threads wait than there are slots
pub waiting_few : (ts : List (Option Thread)) → waiting ts ≤ length ts
waiting_few [] = omega arith
waiting_few (t ∷ ts) = let a = waits_few t in let b = waiting_few ts in omega (arith, a, b)

-- a filter keeps no more
pub shorter : {A : Type 0} (test : A → Bool) (xs : List A) → length (filter test xs) ≤ length xs
shorter test [] = omega arith
shorter {A} test (x ∷ xs) = by_test (test x) (shorter test xs)
  where
    by_test : (b : Bool) → length (filter test xs) ≤ length xs → length (cond b (x ∷ filter test xs) (filter test xs)) ≤ suc (length xs)
    by_test true m = omega (arith, m)
    by_test false m = omega (arith, m)
