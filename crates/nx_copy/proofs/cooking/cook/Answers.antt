use Rattle.std.proofs.Common.{◌≤◌, sym, ◌∙◌, subst}
use Rattle.std.proofs.lemmas.Result.{IfErr-weaker}
use Rattle.nx_space.specs.World.{view_in}
use Rattle.nx_copy.specs.Taking.{inputs}
use Rattle.nx_copy.proofs.Inputs.{few_inputs, call_taken, call_bad, on_ok}
use Rattle.nx_copy.proofs.cooking.cook.Goals as goal

pub take_inputs-requires-clause-inputs : goal.take_inputs-requires-clause-inputs
take_inputs-requires-clause-inputs g c = subst (λ ks. inputs ks ≤ 2) (sym c.as_slice-kinds.ensures.value) (few_inputs c.args.gate.now.kernel c.args.gate.now.kinds.items c.requires.gate.kinds)

pub returns-clause-taken : goal.returns-clause-taken
returns-clause-taken g c = λ rows stands.
    on_ok c.take_inputs.result _ _
    (λ all. call_taken rows (view_in (g.S.Space.world c.args.space.now)) c.args.regs.now c.args.gate.now c.take_inputs.new.into c.as_slice-kinds.result.now c.as_slice-kinds.ensures.value stands c.take_inputs.ensures.call (c.take_inputs.ensures.words ∙ c.words-into.ensures) all)
    c.take_inputs.ensures.good

pub returns-clause-bad : goal.returns-clause-bad
returns-clause-bad g c = λ rows stands.
    IfErr-weaker c.take_inputs.result _ _
    (λ e is. call_bad rows (view_in (g.S.Space.world c.args.space.now)) c.args.regs.now c.args.gate.now c.as_slice-kinds.result.now e.param c.as_slice-kinds.ensures.value stands is)
    c.take_inputs.ensures.bad
