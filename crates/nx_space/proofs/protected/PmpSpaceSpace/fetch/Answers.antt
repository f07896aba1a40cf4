use Rattle.std.proofs.Common.{◌-◌, ◌∙◌, ap, sym, refl, Ok, arith, inl, inr}
use Rattle.nx_base.specs.declared.access.Access.TheVariants.{Fetch}
use Rattle.nx_space.specs.Shared.{ram_start}
use Rattle.nx_space.specs.Protected.{bound, protected_parts, protected_lawful}
use Rattle.nx_space.proofs.SharedAccesses.{fetch_some, fetch_none}
use Rattle.nx_space.proofs.ProtectedLemmas.{asked_true, asked_false}
use Rattle.nx_space.proofs.protected.PmpSpaceSpace.fetch.Goals as goal

pub overflow_sub-at : goal.overflow_sub-at
overflow_sub-at c = let s = c.args.self.now in (asked_true s.unit.pmp s.shared c.args.at 4 Fetch c.ask.result s.lawful s.protected (inr (inr refl)) c.requires.aligned c.ask.ensures.answer c.if-ask.true).low

pub load-requires-clause-inside : goal.load-requires-clause-inside
load-requires-clause-inside c = let s = c.args.self.now in (asked_true s.unit.pmp s.shared c.args.at 4 Fetch c.ask.result s.lawful s.protected (inr (inr refl)) c.requires.aligned c.ask.ensures.answer c.if-ask.true).fits

pub returns-then-ask-clause-answer : goal.returns-then-ask-clause-answer
returns-then-ask-clause-answer c =
    let s = c.args.self.now in
    let t = asked_true s.unit.pmp s.shared c.args.at 4 Fetch c.ask.result s.lawful s.protected (inr (inr refl)) c.requires.aligned c.ask.ensures.answer c.if-ask.true in
    ap Ok c.load.ensures.value ∙ sym (fetch_some (protected_parts s.unit.pmp) (bound s.unit.pmp 0 - ram_start) s.shared c.args.at (c.args.at - ram_start) (protected_lawful s.unit.pmp s.shared s.lawful s.protected) c.requires.entered t.place)

pub returns-else-ask-clause-answer : goal.returns-else-ask-clause-answer
returns-else-ask-clause-answer c =
    let s = c.args.self.now in
    sym (fetch_none (protected_parts s.unit.pmp) (bound s.unit.pmp 0 - ram_start) s.shared c.args.at (protected_lawful s.unit.pmp s.shared s.lawful s.protected) c.requires.entered (asked_false s.unit.pmp s.shared c.args.at 4 Fetch c.ask.result s.lawful s.protected (inr (inr refl)) c.requires.aligned c.ask.ensures.answer c.if-ask.false))
