use Rattle.std.proofs.Common.{◌∙◌, [], ◌∷◌, ap, sym, subst, refl}
use Rattle.nx_space.specs.Flat.{flat_part, flat_world, flat_lawful}
use Rattle.nx_space.proofs.Stores.{Stored, only_refl}
use Rattle.nx_space.proofs.SharedAccesses.{spot, store_some, store_none}
use Rattle.nx_space.proofs.FlatLemmas.{place_flat}
use Rattle.nx_space.proofs.flat.FlatSpaceSpace.store.Goals as goal

pub returns-in-Some-clause-answer : goal.returns-in-Some-clause-answer
returns-in-Some-clause-answer c =
    let s = c.args.self.now in
    let place = place_flat (λ p. p.writes) s.shared.size c.args.at c.args.width refl ∙ ap spot (sym c.in-Some.ensures) in
    (subst (λ t. Stored (flat_world s.shared) (flat_world t) c.args.at c.args.width c.args.value) (sym c.store.ensures.new)
    (store_some (flat_part s.shared.size ∷ []) 0 s.shared c.args.at c.args.width c.args.value c.in-Some.i (flat_lawful s.shared s.lawful) c.requires.entered place)).answer

pub returns-in-Some-clause-only : goal.returns-in-Some-clause-only
returns-in-Some-clause-only c =
    let s = c.args.self.now in
    let place = place_flat (λ p. p.writes) s.shared.size c.args.at c.args.width refl ∙ ap spot (sym c.in-Some.ensures) in
    (subst (λ t. Stored (flat_world s.shared) (flat_world t) c.args.at c.args.width c.args.value) (sym c.store.ensures.new)
    (store_some (flat_part s.shared.size ∷ []) 0 s.shared c.args.at c.args.width c.args.value c.in-Some.i (flat_lawful s.shared s.lawful) c.requires.entered place)).only

pub returns-in-None-clause-answer : goal.returns-in-None-clause-answer
returns-in-None-clause-answer c =
    let s = c.args.self.now in
    store_none (flat_part s.shared.size ∷ []) 0 s.shared c.args.at c.args.width c.args.value (flat_lawful s.shared s.lawful) c.requires.entered (place_flat (λ p. p.writes) s.shared.size c.args.at c.args.width refl ∙ ap spot (sym c.in-None.ensures))

pub returns-in-None-clause-only : goal.returns-in-None-clause-only
returns-in-None-clause-only c = only_refl (flat_world c.args.self.now.shared)
