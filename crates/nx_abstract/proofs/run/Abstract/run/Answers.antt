use Rattle.std.proofs.Common.{sym, ◌∙◌, subst, arith}
use Rattle.nx_shrun.specs.AbstractRuns.{Fine, run_step}
use Rattle.nx_abstract.specs.Running.{StandsAt, HasCome}
use Rattle.nx_abstract.proofs.Steps.{come_more}
use Rattle.nx_abstract.proofs.run.Abstract.run.Goals as goal

pub loop-preserved : goal.loop-preserved
loop-preserved g c =
    let p = g.P.Programs in
    let x = c.loop.self in
    let n = c.make_step.new.self in
    let f = c.args.self.now in
    let k = g.K.Kernel.state x.kernel in
    let k2 = g.K.Kernel.state n.kernel in
    let going = sym c.is_going-going.ensures ∙ c.if-going.true in
    let count = c.in_ok-make_step.ensures.count in
    let so_far = c.loop.invariant in
    record {
      keeps = c.make_step.ensures.keeps;
      programs = c.make_step.ensures.programs ∙ so_far.programs;
      running = c.in_ok-make_step.ensures.running;
      comes = λ script first h.
          subst (λ made. HasCome p.thread_of p.globals_of p.fault_of (p.meaning f.guests.programs) script first k2 n.shell n.guests.threads.items.items n.guests.globals.items.items made n.stop) (sym count)
          (come_more p.thread_of p.globals_of p.fault_of (p.meaning f.guests.programs) script first k k2 x.shell n.shell x.guests.threads.items.items n.guests.threads.items.items x.guests.globals.items.items n.guests.globals.items.items x.steps x.stop n.stop going
          (λ s hs. subst (λ ps. StandsAt p.thread_of p.globals_of p.fault_of script k2 n.shell n.guests.threads.items.items n.guests.globals.items.items n.stop (run_step (p.meaning ps) script (Fine s))) so_far.programs (c.in_ok-make_step.ensures.comes script s hs))
          (so_far.comes script first h));
      most = omega (arith, count, so_far.most);
      all = λ e. let before = so_far.all going in omega (arith, count, before);
    }
