use Rattle.std.proofs.Common.{arith}
use Rattle.nx_objects.proofs.tests.a_semaphore_ends_when_no_thread_waits_on_it.Goals as goal

pub begin-requires-clause-moments : goal.begin-requires-clause-moments
begin-requires-clause-moments g c = omega (arith, c.in_ok-store.ensures.moments)
