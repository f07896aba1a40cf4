use Rattle.std.proofs.Common.{◌-◌, ◌∙◌, ap, sym, subst, refl, arith}
use Rattle.nx_base.specs.declared.access.Access.TheVariants.{Store}
use Rattle.nx_space.specs.World.{World}
use Rattle.nx_space.specs.Lawful.{OnlyEntered}
use Rattle.nx_space.specs.Shared.{ram_start}
use Rattle.nx_space.specs.Protected.{bound, protected_parts, protected_world, protected_lawful}
use Rattle.nx_space.proofs.Stores.{Stored, only_refl}
use Rattle.nx_space.proofs.SharedAccesses.{store_some, store_none}
use Rattle.nx_space.proofs.ProtectedLemmas.{asked_true, asked_false}
use Rattle.nx_space.proofs.protected.PmpSpaceSpace.store.Goals as goal

pub overflow_sub-at : goal.overflow_sub-at
overflow_sub-at c = let s = c.args.self.now in (asked_true s.unit.pmp s.shared c.args.at c.args.width Store c.ask.result s.lawful s.protected c.requires.width c.requires.aligned c.ask.ensures.answer c.if-ask.true).low

pub store-requires-clause-inside : goal.store-requires-clause-inside
store-requires-clause-inside c = let s = c.args.self.now in (asked_true s.unit.pmp s.shared c.args.at c.args.width Store c.ask.result s.lawful s.protected c.requires.width c.requires.aligned c.ask.ensures.answer c.if-ask.true).fits

pub returns-then-ask-clause-answer : goal.returns-then-ask-clause-answer
returns-then-ask-clause-answer c =
    let s = c.args.self.now in
    let t = asked_true s.unit.pmp s.shared c.args.at c.args.width Store c.ask.result s.lawful s.protected c.requires.width c.requires.aligned c.ask.ensures.answer c.if-ask.true in
    (subst (λ q. Stored (protected_world s.unit.pmp s.shared) (protected_world q c.store.new.self) c.args.at c.args.width c.args.value) (sym c.ask.ensures.pmp)
    (subst (λ u. Stored (protected_world s.unit.pmp s.shared) (protected_world s.unit.pmp u) c.args.at c.args.width c.args.value) (sym c.store.ensures.new)
    (store_some (protected_parts s.unit.pmp) (bound s.unit.pmp 0 - ram_start) s.shared c.args.at c.args.width c.args.value (c.args.at - ram_start) (protected_lawful s.unit.pmp s.shared s.lawful s.protected) c.requires.entered t.place))).answer

pub returns-then-ask-clause-only : goal.returns-then-ask-clause-only
returns-then-ask-clause-only c =
    let s = c.args.self.now in
    let t = asked_true s.unit.pmp s.shared c.args.at c.args.width Store c.ask.result s.lawful s.protected c.requires.width c.requires.aligned c.ask.ensures.answer c.if-ask.true in
    (subst (λ q. Stored (protected_world s.unit.pmp s.shared) (protected_world q c.store.new.self) c.args.at c.args.width c.args.value) (sym c.ask.ensures.pmp)
    (subst (λ u. Stored (protected_world s.unit.pmp s.shared) (protected_world s.unit.pmp u) c.args.at c.args.width c.args.value) (sym c.store.ensures.new)
    (store_some (protected_parts s.unit.pmp) (bound s.unit.pmp 0 - ram_start) s.shared c.args.at c.args.width c.args.value (c.args.at - ram_start) (protected_lawful s.unit.pmp s.shared s.lawful s.protected) c.requires.entered t.place))).only

pub returns-else-ask-clause-answer : goal.returns-else-ask-clause-answer
returns-else-ask-clause-answer c =
    let s = c.args.self.now in
    store_none (protected_parts s.unit.pmp) (bound s.unit.pmp 0 - ram_start) s.shared c.args.at c.args.width c.args.value (protected_lawful s.unit.pmp s.shared s.lawful s.protected) c.requires.entered (asked_false s.unit.pmp s.shared c.args.at c.args.width Store c.ask.result s.lawful s.protected c.requires.width c.requires.aligned c.ask.ensures.answer c.if-ask.false)

pub returns-else-ask-clause-only : goal.returns-else-ask-clause-only
returns-else-ask-clause-only c =
    let s = c.args.self.now in
    subst (λ q. OnlyEntered (protected_world s.unit.pmp s.shared) (protected_world q s.shared)) (sym c.ask.ensures.pmp) (only_refl (protected_world s.unit.pmp s.shared))
