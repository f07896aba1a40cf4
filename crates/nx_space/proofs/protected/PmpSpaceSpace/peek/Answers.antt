use Rattle.std.proofs.Common.{◌-◌, ◌∙◌, ap, sym, Ok}
use Rattle.nx_base.specs.declared.access.Access.TheVariants.{Load}
use Rattle.nx_space.specs.Shared.{ram_start}
use Rattle.nx_space.specs.Protected.{bound, protected_parts, protected_lawful}
use Rattle.nx_space.proofs.SharedAccesses.{load_some}
use Rattle.nx_space.proofs.ProtectedLemmas.{good_stands}
use Rattle.nx_space.proofs.protected.PmpSpaceSpace.peek.Goals as goal

pub overflow_sub-at : goal.overflow_sub-at
overflow_sub-at c = let s = c.args.self.now in (good_stands s.unit.pmp s.shared c.args.at Load s.lawful s.protected c.requires.entered c.requires.good).low

pub load-requires-clause-inside : goal.load-requires-clause-inside
load-requires-clause-inside c = let s = c.args.self.now in (good_stands s.unit.pmp s.shared c.args.at Load s.lawful s.protected c.requires.entered c.requires.good).fits

pub returns-clause-answer : goal.returns-clause-answer
returns-clause-answer c =
    let s = c.args.self.now in
    let t = good_stands s.unit.pmp s.shared c.args.at Load s.lawful s.protected c.requires.entered c.requires.good in
    load_some (protected_parts s.unit.pmp) (bound s.unit.pmp 0 - ram_start) s.shared c.args.at 1 (c.args.at - ram_start) (protected_lawful s.unit.pmp s.shared s.lawful s.protected) c.requires.entered t.place ∙ sym (ap Ok c.load.ensures.value)
