use Rattle.std.proofs.Common.{◌∙◌, [], ◌∷◌, ap, sym, refl, Ok}
use Rattle.nx_space.specs.Flat.{flat_part, flat_lawful}
use Rattle.nx_space.proofs.SharedAccesses.{spot, fetch_some, fetch_none}
use Rattle.nx_space.proofs.FlatLemmas.{place_flat}
use Rattle.nx_space.proofs.flat.FlatSpaceSpace.fetch.Goals as goal

pub returns-in-Some-clause-answer : goal.returns-in-Some-clause-answer
returns-in-Some-clause-answer c =
    let s = c.args.self.now in
    ap Ok c.load.ensures.value
    ∙ sym (fetch_some (flat_part s.shared.size ∷ []) 0 s.shared c.args.at c.in-Some.i (flat_lawful s.shared s.lawful) c.requires.entered (place_flat (λ p. p.runs) s.shared.size c.args.at 4 refl ∙ ap spot (sym c.in-Some.ensures)))

pub returns-in-None-clause-answer : goal.returns-in-None-clause-answer
returns-in-None-clause-answer c =
    let s = c.args.self.now in
    sym (fetch_none (flat_part s.shared.size ∷ []) 0 s.shared c.args.at (flat_lawful s.shared s.lawful) c.requires.entered (place_flat (λ p. p.runs) s.shared.size c.args.at 4 refl ∙ ap spot (sym c.in-None.ensures)))
