use Rattle.std.proofs.Common.{◌∙◌, ap, sym, subst, arith, Ok}
use Rattle.nx_base.specs.declared.access.Access.TheVariants.{Store}
use Rattle.nx_space.specs.World.{view_in}
use Rattle.nx_space.specs.Lawful.{OnlyEntered}
use Rattle.nx_paged.specs.Paging.{IsPlaced, IsPaged, paged_world}
use Rattle.nx_paged.proofs.Saves.{with_ram}
use Rattle.nx_paged.proofs.Accesses.{InPage, one_byte, writes_store}
use Rattle.nx_paged.specs.State.{state_of}
use Rattle.nx_paged.proofs.Answers.{Asks, inside_of, store_ok, store_only, store_placed, store_paged, good_no_fault}
use Rattle.nx_paged.proofs.paged.PagedSpaceSpace.poke.Goals as goal

pub overflow_sub-to : goal.overflow_sub-to
overflow_sub-to c =
    let s = c.args.self.now in
    let a : Asks (state_of s) c.satp.result = record { placed = s.placed; paged = s.paged; entered = c.requires.entered; named = c.satp.ensures } in
    let i : InPage c.args.at 1 = one_byte c.args.at (omega (arith, c.ranges.at.fits)) in
    (inside_of (state_of s) c.satp.result c.args.at 1 c.in-Ok.to (λ p. p.writes) Store a i writes_store c.in-Ok.ensures).low

pub store-requires-clause-inside : goal.store-requires-clause-inside
store-requires-clause-inside c =
    let s = c.args.self.now in
    let a : Asks (state_of s) c.satp.result = record { placed = s.placed; paged = s.paged; entered = c.requires.entered; named = c.satp.ensures } in
    let i : InPage c.args.at 1 = one_byte c.args.at (omega (arith, c.ranges.at.fits)) in
    (inside_of (state_of s) c.satp.result c.args.at 1 c.in-Ok.to (λ p. p.writes) Store a i writes_store c.in-Ok.ensures).high

pub invariant_of-self : goal.invariant_of-self
invariant_of-self c =
    let s = c.args.self.now in
    let a : Asks (state_of s) c.satp.result = record { placed = s.placed; paged = s.paged; entered = c.requires.entered; named = c.satp.ensures } in
    let i : InPage c.args.at 1 = one_byte c.args.at (omega (arith, c.ranges.at.fits)) in
    record {
      placed = subst (λ r. IsPlaced (with_ram (state_of s) r)) (sym c.store.ensures.bytes) (store_placed (state_of s) c.satp.result c.args.at 1 c.args.value c.in-Ok.to a i c.in-Ok.ensures);
      paged = subst (λ r. ∥ IsPaged (with_ram (state_of s) r) ∥₁) (sym c.store.ensures.bytes) (store_paged (state_of s) c.satp.result c.args.at 1 c.args.value c.in-Ok.to a i c.in-Ok.ensures);
      root_is = s.root_is;
      root_low = s.root_low;
      room = s.room;
    }

pub returns-clause-answer : goal.returns-clause-answer
returns-clause-answer c =
    let s = c.args.self.now in
    let a : Asks (state_of s) c.satp.result = record { placed = s.placed; paged = s.paged; entered = c.requires.entered; named = c.satp.ensures } in
    let i : InPage c.args.at 1 = one_byte c.args.at (omega (arith, c.ranges.at.fits)) in
    store_ok (state_of s) c.satp.result c.args.at 1 c.args.value c.in-Ok.to a i c.in-Ok.ensures ∙ ap (λ r. Ok (view_in (paged_world (with_ram (state_of s) r)))) (sym c.store.ensures.bytes)

pub returns-clause-only : goal.returns-clause-only
returns-clause-only c =
    let s = c.args.self.now in
    let a : Asks (state_of s) c.satp.result = record { placed = s.placed; paged = s.paged; entered = c.requires.entered; named = c.satp.ensures } in
    let i : InPage c.args.at 1 = one_byte c.args.at (omega (arith, c.ranges.at.fits)) in
    subst (λ r. OnlyEntered (paged_world (state_of s)) (paged_world (with_ram (state_of s) r))) (sym c.store.ensures.bytes) (store_only (state_of s) c.satp.result c.args.at 1 c.args.value c.in-Ok.to a i c.in-Ok.ensures)

pub unreachable-requires : goal.unreachable-requires
unreachable-requires c =
    let s = c.args.self.now in
    let a : Asks (state_of s) c.satp.result = record { placed = s.placed; paged = s.paged; entered = c.requires.entered; named = c.satp.ensures } in
    good_no_fault (state_of s) c.satp.result c.args.at c.in-Err.field-0 Store a c.requires.good c.in-Err.ensures
