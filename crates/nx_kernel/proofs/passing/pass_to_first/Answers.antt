use Rattle.std.proofs.Common.{◌<◌, ◌+◌, ◌^◌, sym, subst}
use Rattle.nx_ksys.specs.Picking.{next_late}
use Rattle.nx_kernel.proofs.Timing.{time_fits}
use Rattle.nx_kernel.proofs.passing.pass_to_first.Goals as goal

pub pass-requires-clause-near : goal.pass-requires-clause-near
pass-requires-clause-near c =
    let fits = time_fits c.args.clock.now.time c.args.clock.now.late c.args.threads.now c.in-Some.thread c.requires.near c.requires.few (sym c.in-Some.ensures) in
    subst (λ d. d + next_late c.args.clock.now.late < 2 ^ 64) (sym c.deadline.ensures) fits
