use Rattle.std.proofs.Common.{◌∙◌, [], ◌∷◌, ap, sym, subst, refl, arith}
use Rattle.nx_base.specs.declared.access.Access.TheVariants.{Store}
use Rattle.nx_space.specs.Flat.{flat_part, flat_world, flat_lawful}
use Rattle.nx_space.proofs.Stores.{Stored}
use Rattle.nx_space.proofs.SharedAccesses.{spot, store_some}
use Rattle.nx_space.proofs.FlatLemmas.{good_inside, place_flat, place_inside}
use Rattle.nx_space.proofs.flat.FlatSpaceSpace.poke.Goals as goal

pub overflow_sub-at : goal.overflow_sub-at
overflow_sub-at c = let s = c.args.self.now in (good_inside s.shared c.args.at Store s.lawful c.requires.entered c.requires.good).0

pub store-requires-clause-inside : goal.store-requires-clause-inside
store-requires-clause-inside c = let s = c.args.self.now in let h = good_inside s.shared c.args.at Store s.lawful c.requires.entered c.requires.good in omega (arith, h.0, h.1)

pub returns-clause-answer : goal.returns-clause-answer
returns-clause-answer c =
    let s = c.args.self.now in
    let h = good_inside s.shared c.args.at Store s.lawful c.requires.entered c.requires.good in
    let place = place_flat (λ p. p.writes) s.shared.size c.args.at 1 refl ∙ ap spot (sym (place_inside s.shared.size c.args.at 1 h)) in
    (subst (λ t. Stored (flat_world s.shared) (flat_world t) c.args.at 1 c.args.value) (sym c.store.ensures.new)
    (store_some (flat_part s.shared.size ∷ []) 0 s.shared c.args.at 1 c.args.value _ (flat_lawful s.shared s.lawful) c.requires.entered place)).answer

pub returns-clause-only : goal.returns-clause-only
returns-clause-only c =
    let s = c.args.self.now in
    let h = good_inside s.shared c.args.at Store s.lawful c.requires.entered c.requires.good in
    let place = place_flat (λ p. p.writes) s.shared.size c.args.at 1 refl ∙ ap spot (sym (place_inside s.shared.size c.args.at 1 h)) in
    (subst (λ t. Stored (flat_world s.shared) (flat_world t) c.args.at 1 c.args.value) (sym c.store.ensures.new)
    (store_some (flat_part s.shared.size ∷ []) 0 s.shared c.args.at 1 c.args.value _ (flat_lawful s.shared s.lawful) c.requires.entered place)).only
