use Rattle.std.proofs.Common.{◌∙◌, ap}
use Rattle.nx_space.specs.Protected.{is_protected_good}
use Rattle.nx_space.proofs.ProtectedLemmas.{good_protected}
use Rattle.nx_space.proofs.protected.PmpSpaceSpace.good.Goals as goal

pub returns-clause-answer : goal.returns-clause-answer
returns-clause-answer c =
    let s = c.args.self.now in
    c.is_good.ensures ∙ ap (λ q. is_protected_good q c.args.at c.args.len c.args.access) c.pmp.ensures ∙ good_protected s.unit.pmp s.shared c.args.at c.args.len c.args.access s.lawful s.protected c.requires.entered
