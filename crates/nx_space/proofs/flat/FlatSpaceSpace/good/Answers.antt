use Rattle.std.proofs.Common.{◌≡◌, ◌∙◌, ◌||◌, Bool, true, false, refl, sym, ap}
use Rattle.std.specs.Option.{is_some}
use Rattle.nx_space.proofs.Groups.{same_number, other_number}
use Rattle.nx_space.proofs.FlatLemmas.{good_flat}
use Rattle.nx_space.proofs.flat.FlatSpaceSpace.good.Goals as goal

true_first : (a b : Bool) → a ≡ true → a ≡ (a || b)
true_first true b e = refl
true_first false b e = absurd cc

false_first : (a b : Bool) → a ≡ false → b ≡ (a || b)
false_first true b e = absurd cc
false_first false b e = refl

pub returns-then-len-eq0-clause-answer : goal.returns-then-len-eq0-clause-answer
returns-then-len-eq0-clause-answer c =
    let s = c.args.self.now in
    true_first _ _ (same_number c.args.len 0 c.if-len-eq0.true) ∙ good_flat s.shared c.args.at c.args.len c.args.access s.lawful c.requires.entered

pub returns-else-len-eq0-clause-answer : goal.returns-else-len-eq0-clause-answer
returns-else-len-eq0-clause-answer c =
    let s = c.args.self.now in
    c.is_some.ensures ∙ ap is_some c.place.ensures ∙ false_first _ _ (other_number c.args.len 0 c.if-len-eq0.false) ∙ good_flat s.shared c.args.at c.args.len c.args.access s.lawful c.requires.entered
