use Rattle.std.proofs.Common.{◌∙◌, [], ◌∷◌, ap, sym, refl, Ok, arith}
use Rattle.nx_base.specs.declared.access.Access.TheVariants.{Load}
use Rattle.nx_space.specs.Flat.{flat_part, flat_lawful}
use Rattle.nx_space.proofs.SharedAccesses.{spot, load_some}
use Rattle.nx_space.proofs.FlatLemmas.{good_inside, place_flat, place_inside}
use Rattle.nx_space.proofs.flat.FlatSpaceSpace.peek.Goals as goal

pub overflow_sub-at : goal.overflow_sub-at
overflow_sub-at c = let s = c.args.self.now in (good_inside s.shared c.args.at Load s.lawful c.requires.entered c.requires.good).0

pub load-requires-clause-inside : goal.load-requires-clause-inside
load-requires-clause-inside c = let s = c.args.self.now in let h = good_inside s.shared c.args.at Load s.lawful c.requires.entered c.requires.good in omega (arith, h.0, h.1)

pub returns-clause-answer : goal.returns-clause-answer
returns-clause-answer c =
    let s = c.args.self.now in
    let h = good_inside s.shared c.args.at Load s.lawful c.requires.entered c.requires.good in
    load_some (flat_part s.shared.size ∷ []) 0 s.shared c.args.at 1 _ (flat_lawful s.shared s.lawful) c.requires.entered (place_flat (λ p. p.reads) s.shared.size c.args.at 1 refl ∙ ap spot (sym (place_inside s.shared.size c.args.at 1 h)))
    ∙ sym (ap Ok c.load.ensures.value)
