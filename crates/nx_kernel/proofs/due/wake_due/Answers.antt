use Rattle.std.proofs.Common.{◌+◌, ◌-◌, [], ◌∷◌, ◌++◌, ap, sym, ◌∙◌, arith, append_assoc, subst, length, ◌≤◌, ◌<◌, ◌^◌}
use Rattle.nx_ksys.specs.Gathered.{replies_of}
use Rattle.nx_ksys.specs.Threads.{awaited}
use Rattle.nx_ksys.specs.Picking.{timed_out, wake_due}
use Rattle.nx_kbounds.specs.Counts.{waiting}
use Rattle.nx_kernel.proofs.Timing.{leaves, due_next}
use Rattle.nx_kernel.proofs.due.wake_due.Goals as goal

pub time_out-requires-clause-moments : goal.time_out-requires-clause-moments
time_out-requires-clause-moments c =
    let t = c.in-Some.thread in
    let one = leaves c.args.time c.loop.threads t (sym c.in-Some.ensures) (awaited t.doing) in
    omega (arith, one.fewer, c.loop.invariant.moments)

pub time_out-requires-clause-room : goal.time_out-requires-clause-room
time_out-requires-clause-room c =
    let t = c.in-Some.thread in
    let one = leaves c.args.time c.loop.threads t (sym c.in-Some.ensures) (awaited t.doing) in
    omega (arith, one.fewer, c.loop.invariant.few, c.loop.invariant.room)

pub loop-preserved : goal.loop-preserved
loop-preserved c =
    let t = c.in-Some.thread in
    let left = c.args.count - (c.loop.counter + 1) in
    let first = sym c.in-Some.ensures in
    let goes : _ = wake_due c.args.time in
    let next = due_next c.args.time (c.args.count - c.loop.counter) left c.loop.threads t first (omega (arith, c.loop-test.true)) in
    let one = leaves c.args.time c.loop.threads t first (awaited t.doing) in
    let is = c.time_out.ensures.state in
    record {
      state = ap (λ s. (goes left s).sched) is ∙ sym (ap (λ w. w.sched) next) ∙ c.loop.invariant.state;
      told = ap (λ rs. rs ++ (goes left c.time_out.new.threads).replies) c.time_out.ensures.told
          ∙ append_assoc (replies_of c.loop.replies.replies) _ _
          ∙ ap (λ s. replies_of c.loop.replies.replies ++ ((timed_out c.loop.threads t (awaited t.doing)).replies ++ (goes left s).replies)) is
          ∙ sym (ap (λ w. replies_of c.loop.replies.replies ++ w.replies) next) ∙ c.loop.invariant.told;
      room = c.time_out.ensures.room ∙ c.loop.invariant.room;
      few = rw is (omega (arith, one.fewer, c.time_out.ensures.len, c.loop.invariant.few));
      moments = rw is (omega (arith, one.fewer, one.moments, c.loop.invariant.moments));
    }
