use Rattle.std.proofs.Common.{◌-◌, sym, subst}
use Rattle.nx_base.specs.declared.access.Access.TheVariants.{Store}
use Rattle.nx_space.specs.Shared.{ram_start}
use Rattle.nx_space.specs.Protected.{bound, protected_parts, protected_world, protected_lawful}
use Rattle.nx_space.proofs.Stores.{Stored}
use Rattle.nx_space.proofs.SharedAccesses.{store_some}
use Rattle.nx_space.proofs.ProtectedLemmas.{good_stands}
use Rattle.nx_space.proofs.protected.PmpSpaceSpace.poke.Goals as goal

pub overflow_sub-at : goal.overflow_sub-at
overflow_sub-at c = let s = c.args.self.now in (good_stands s.unit.pmp s.shared c.args.at Store s.lawful s.protected c.requires.entered c.requires.good).low

pub store-requires-clause-inside : goal.store-requires-clause-inside
store-requires-clause-inside c = let s = c.args.self.now in (good_stands s.unit.pmp s.shared c.args.at Store s.lawful s.protected c.requires.entered c.requires.good).fits

pub returns-clause-answer : goal.returns-clause-answer
returns-clause-answer c =
    let s = c.args.self.now in
    let t = good_stands s.unit.pmp s.shared c.args.at Store s.lawful s.protected c.requires.entered c.requires.good in
    (subst (λ u. Stored (protected_world s.unit.pmp s.shared) (protected_world s.unit.pmp u) c.args.at 1 c.args.value) (sym c.store.ensures.new)
    (store_some (protected_parts s.unit.pmp) (bound s.unit.pmp 0 - ram_start) s.shared c.args.at 1 c.args.value (c.args.at - ram_start) (protected_lawful s.unit.pmp s.shared s.lawful s.protected) c.requires.entered t.place)).answer

pub returns-clause-only : goal.returns-clause-only
returns-clause-only c =
    let s = c.args.self.now in
    let t = good_stands s.unit.pmp s.shared c.args.at Store s.lawful s.protected c.requires.entered c.requires.good in
    (subst (λ u. Stored (protected_world s.unit.pmp s.shared) (protected_world s.unit.pmp u) c.args.at 1 c.args.value) (sym c.store.ensures.new)
    (store_some (protected_parts s.unit.pmp) (bound s.unit.pmp 0 - ram_start) s.shared c.args.at 1 c.args.value (c.args.at - ram_start) (protected_lawful s.unit.pmp s.shared s.lawful s.protected) c.requires.entered t.place)).only
