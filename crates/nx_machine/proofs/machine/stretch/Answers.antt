use Rattle.std.proofs.Common.{◌-◌, refl, sym, ◌∙◌, ap, arith}
use Rattle.nx_rv.proofs.Stretch.{stretch_more, stretch_over}
use Rattle.nx_space.specs.World.{view_in}
use Rattle.nx_space.proofs.Stores.{only_refl, only_trans}
use Rattle.nx_space.proofs.Stays.{entered_stays}
use Rattle.nx_machine.proofs.machine.stretch.Goals as goal

pub loop-regs-init : goal.loop-regs-init
loop-regs-init g c = record {
  entered = c.requires;
  later = omega arith;
  within = λ h. h;
  limit = refl;
  rest = refl;
  only = only_refl (g.S.Space.world c.args.space.now);
}

pub loop-regs-preserved : goal.loop-regs-preserved
loop-regs-preserved g c = record {
  entered = entered_stays _ _ c.in-Goes.ensures.only c.loop-regs.invariant.entered;
  later = omega (arith, c.loop-regs-test.ensures.counted, c.loop-regs.invariant.later);
  within = λ h. omega (arith, c.loop-regs-test.ensures.counted, c.loop-regs-test.ensures.limit);
  limit = c.tick.ensures.limit ∙ c.loop-regs.invariant.limit;
  rest = sym (stretch_more _ _ _ _ _ (omega (arith, c.loop-regs-test.ensures.counted)) c.in-Goes.ensures.turn) ∙ c.loop-regs.invariant.rest;
  only = only_trans _ _ _ c.loop-regs.invariant.only c.in-Goes.ensures.only;
}

pub returns-in-Calls-clause-stretch : goal.returns-in-Calls-clause-stretch
returns-in-Calls-clause-stretch g c =
    sym (stretch_more _ _ _ _ _ (omega (arith, c.loop-regs-test.ensures.counted)) c.in-Calls.ensures.turn) ∙ c.loop-regs.invariant.rest

pub returns-in-Traps-clause-stretch : goal.returns-in-Traps-clause-stretch
returns-in-Traps-clause-stretch g c =
    sym (stretch_more _ _ _ _ _ (omega (arith, c.loop-regs-test.ensures.counted)) c.in-Traps.ensures.turn) ∙ c.loop-regs.invariant.rest

pub returns-clause-stretch : goal.returns-clause-stretch
returns-clause-stretch g c =
    let counted = c.loop-regs-test.ensures.counted in
    let left = ap (λ s. s.limit - s.used) counted.1 in
    stretch_over (c.loop-regs.count.limit - c.loop-regs.count.used) (c.tick.new.self.limit - c.tick.new.self.used) c.loop-regs.regs (view_in (g.S.Space.world c.loop-regs.space)) (omega (arith, counted)) (omega (arith, counted, left)) ∙ c.loop-regs.invariant.rest

pub returns-in-Calls-clause-only : goal.returns-in-Calls-clause-only
returns-in-Calls-clause-only g c = only_trans _ _ _ c.loop-regs.invariant.only c.in-Calls.ensures.only

pub returns-in-Traps-clause-only : goal.returns-in-Traps-clause-only
returns-in-Traps-clause-only g c = only_trans _ _ _ c.loop-regs.invariant.only c.in-Traps.ensures.only
