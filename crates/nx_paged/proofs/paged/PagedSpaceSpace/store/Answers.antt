use Rattle.std.proofs.Common.{◌∙◌, ap, sym, subst, arith, Ok}
use Rattle.nx_base.specs.declared.access.Access.TheVariants.{Store}
use Rattle.nx_space.specs.World.{view_in}
use Rattle.nx_space.specs.Lawful.{OnlyEntered}
use Rattle.nx_space.proofs.Stores.{only_refl}
use Rattle.nx_paged.specs.Paging.{IsPlaced, IsPaged, paged_world}
use Rattle.nx_paged.proofs.Saves.{with_ram}
use Rattle.nx_paged.proofs.Accesses.{InPage, in_page, writes_store}
use Rattle.nx_paged.specs.State.{state_of}
use Rattle.nx_paged.proofs.Answers.{Asks, inside_of, store_ok, store_only, store_placed, store_paged, store_err}
use Rattle.nx_paged.proofs.paged.PagedSpaceSpace.store.Goals as goal

pub overflow_sub-to : goal.overflow_sub-to
overflow_sub-to c =
    let s = c.args.self.now in
    let a : Asks (state_of s) c.satp.result = record { placed = s.placed; paged = s.paged; entered = c.requires.entered; named = c.satp.ensures } in
    let i : InPage c.args.at c.args.width = in_page c.args.at c.args.width (omega (arith, c.ranges.at.fits)) c.requires.width c.requires.aligned in
    (inside_of (state_of s) c.satp.result c.args.at c.args.width c.in-Ok.to (λ p. p.writes) Store a i writes_store c.in-Ok.ensures).low

pub store-requires-clause-inside : goal.store-requires-clause-inside
store-requires-clause-inside c =
    let s = c.args.self.now in
    let a : Asks (state_of s) c.satp.result = record { placed = s.placed; paged = s.paged; entered = c.requires.entered; named = c.satp.ensures } in
    let i : InPage c.args.at c.args.width = in_page c.args.at c.args.width (omega (arith, c.ranges.at.fits)) c.requires.width c.requires.aligned in
    (inside_of (state_of s) c.satp.result c.args.at c.args.width c.in-Ok.to (λ p. p.writes) Store a i writes_store c.in-Ok.ensures).high

pub invariant_of-self : goal.invariant_of-self
invariant_of-self c =
    let s = c.args.self.now in
    let a : Asks (state_of s) c.satp.result = record { placed = s.placed; paged = s.paged; entered = c.requires.entered; named = c.satp.ensures } in
    let i : InPage c.args.at c.args.width = in_page c.args.at c.args.width (omega (arith, c.ranges.at.fits)) c.requires.width c.requires.aligned in
    record {
      placed = subst (λ r. IsPlaced (with_ram (state_of s) r)) (sym c.store.ensures.bytes) (store_placed (state_of s) c.satp.result c.args.at c.args.width c.args.value c.in-Ok.to a i c.in-Ok.ensures);
      paged = subst (λ r. ∥ IsPaged (with_ram (state_of s) r) ∥₁) (sym c.store.ensures.bytes) (store_paged (state_of s) c.satp.result c.args.at c.args.width c.args.value c.in-Ok.to a i c.in-Ok.ensures);
      root_is = s.root_is;
      root_low = s.root_low;
      room = s.room;
    }

pub returns-in-Ok-clause-answer : goal.returns-in-Ok-clause-answer
returns-in-Ok-clause-answer c =
    let s = c.args.self.now in
    let a : Asks (state_of s) c.satp.result = record { placed = s.placed; paged = s.paged; entered = c.requires.entered; named = c.satp.ensures } in
    let i : InPage c.args.at c.args.width = in_page c.args.at c.args.width (omega (arith, c.ranges.at.fits)) c.requires.width c.requires.aligned in
    store_ok (state_of s) c.satp.result c.args.at c.args.width c.args.value c.in-Ok.to a i c.in-Ok.ensures ∙ ap (λ r. Ok (view_in (paged_world (with_ram (state_of s) r)))) (sym c.store.ensures.bytes)

pub returns-in-Ok-clause-only : goal.returns-in-Ok-clause-only
returns-in-Ok-clause-only c =
    let s = c.args.self.now in
    let a : Asks (state_of s) c.satp.result = record { placed = s.placed; paged = s.paged; entered = c.requires.entered; named = c.satp.ensures } in
    let i : InPage c.args.at c.args.width = in_page c.args.at c.args.width (omega (arith, c.ranges.at.fits)) c.requires.width c.requires.aligned in
    subst (λ r. OnlyEntered (paged_world (state_of s)) (paged_world (with_ram (state_of s) r))) (sym c.store.ensures.bytes) (store_only (state_of s) c.satp.result c.args.at c.args.width c.args.value c.in-Ok.to a i c.in-Ok.ensures)

pub returns-in-Err-clause-answer : goal.returns-in-Err-clause-answer
returns-in-Err-clause-answer c =
    let s = c.args.self.now in
    let a : Asks (state_of s) c.satp.result = record { placed = s.placed; paged = s.paged; entered = c.requires.entered; named = c.satp.ensures } in
    let i : InPage c.args.at c.args.width = in_page c.args.at c.args.width (omega (arith, c.ranges.at.fits)) c.requires.width c.requires.aligned in
    store_err (state_of s) c.satp.result c.args.at c.args.width c.args.value c.in-Err.field-0 a i c.in-Err.ensures

pub returns-in-Err-clause-only : goal.returns-in-Err-clause-only
returns-in-Err-clause-only c = only_refl (paged_world (state_of c.args.self.now))
