use Rattle.std.proofs.Common.{◌∙◌, [], ◌∷◌, ap, sym, refl, Ok}
use Rattle.nx_space.specs.Flat.{flat_part, flat_lawful}
use Rattle.nx_space.proofs.SharedAccesses.{spot, load_some, load_none}
use Rattle.nx_space.proofs.FlatLemmas.{place_flat}
use Rattle.nx_space.proofs.flat.FlatSpaceSpace.load.Goals as goal

pub returns-in-Some-clause-answer : goal.returns-in-Some-clause-answer
returns-in-Some-clause-answer c =
    let s = c.args.self.now in
    ap Ok c.load.ensures.value
    ∙ sym (load_some (flat_part s.shared.size ∷ []) 0 s.shared c.args.at c.args.width c.in-Some.i (flat_lawful s.shared s.lawful) c.requires.entered (place_flat (λ p. p.reads) s.shared.size c.args.at c.args.width refl ∙ ap spot (sym c.in-Some.ensures)))

pub returns-in-None-clause-answer : goal.returns-in-None-clause-answer
returns-in-None-clause-answer c =
    let s = c.args.self.now in
    sym (load_none (flat_part s.shared.size ∷ []) 0 s.shared c.args.at c.args.width (flat_lawful s.shared s.lawful) c.requires.entered (place_flat (λ p. p.reads) s.shared.size c.args.at c.args.width refl ∙ ap spot (sym c.in-None.ensures)))
