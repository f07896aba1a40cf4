use Rattle.std.proofs.Common.{◌+◌, ◌-◌, [], ◌∷◌, ◌++◌, ap, sym, ◌∙◌, arith, append_assoc, subst, length, ◌≤◌, ◌<◌, ◌^◌}
use Rattle.nx_base.specs.declared.errno.Errno.TheVariants.{Echild}
use Rattle.nx_ksys.specs.Telling.{failure}
use Rattle.nx_ksys.specs.Gathered.{replies_of}
use Rattle.nx_ksys.specs.Threads.{with_error}
use Rattle.nx_ksys.specs.Ends.{refuse_lost}
use Rattle.nx_group.specs.Waiting.{waiting}
use Rattle.nx_group.proofs.Waits.{refused, refused_next, refused_none}
use Rattle.nx_group.proofs.lost.refuse_some.Goals as goal

pub wake-requires : goal.wake-requires
wake-requires c =
    let one = refused c.args.groups.now c.args.codes.now.codes c.args.parent c.loop.threads c.in-Some.thread (sym c.in-Some.ensures) in
    omega (arith, one.fewer, c.loop.invariant.moments)

pub fail-requires-in-Some : goal.fail-requires-in-Some
fail-requires-in-Some c =
    let one = refused c.args.groups.now c.args.codes.now.codes c.args.parent c.loop.threads c.in-Some.thread (sym c.in-Some.ensures) in
    omega (arith, one.fewer, c.loop.invariant.few, c.loop.invariant.room)

pub loop-preserved : goal.loop-preserved
loop-preserved c =
    let t = c.in-Some.thread in
    let left = c.args.count - (c.loop.counter + 1) in
    let first = sym c.in-Some.ensures in
    let goes : _ = refuse_lost c.args.groups.now c.args.codes.now.codes c.args.parent in
    let next = refused_next c.args.groups.now c.args.codes.now.codes c.args.parent (c.args.count - c.loop.counter) left c.loop.threads t first (omega (arith, c.loop-test.true)) in
    let one = refused c.args.groups.now c.args.codes.now.codes c.args.parent c.loop.threads t first in
    let is = c.fail.ensures ∙ ap (λ s. with_error s t.number Echild) c.wake.ensures in
    record {
      state = ap (λ s. (goes left s).sched) is ∙ sym (ap (λ w. w.sched) next) ∙ c.loop.invariant.state;
      told = ap (λ rs. rs ++ (goes left c.fail.new.self).replies) c.fail-in-Some.ensures.told
          ∙ append_assoc (replies_of c.loop.replies.replies) _ _
          ∙ ap (λ s. replies_of c.loop.replies.replies ++ failure t.number Echild ∷ (goes left s).replies) is
          ∙ sym (ap (λ w. replies_of c.loop.replies.replies ++ w.replies) next) ∙ c.loop.invariant.told;
      room = c.fail-in-Some.ensures.room ∙ c.loop.invariant.room;
      few = rw is (omega (arith, one.fewer, c.fail-in-Some.ensures.len, c.loop.invariant.few));
      moments = rw is (omega (arith, one.fewer, one.moments, c.loop.invariant.moments));
    }
