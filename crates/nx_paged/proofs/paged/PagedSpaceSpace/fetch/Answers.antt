use Rattle.std.proofs.Common.{◌∙◌, ap, sym, arith, Ok, refl, inr}
use Rattle.nx_base.specs.declared.access.Access.TheVariants.{Fetch}
use Rattle.nx_paged.proofs.Accesses.{InPage, in_page, runs_fetch}
use Rattle.nx_paged.specs.State.{state_of}
use Rattle.nx_paged.proofs.Answers.{Asks, inside_of, fetch_ok, fetch_err}
use Rattle.nx_paged.proofs.paged.PagedSpaceSpace.fetch.Goals as goal

pub overflow_sub-to : goal.overflow_sub-to
overflow_sub-to c =
    let s = c.args.self.now in
    let a : Asks (state_of s) c.satp.result = record { placed = s.placed; paged = s.paged; entered = c.requires.entered; named = c.satp.ensures } in
    let i : InPage c.args.at 4 = in_page c.args.at 4 (omega (arith, c.ranges.at.fits)) (inr (inr refl)) c.requires.aligned in
    (inside_of (state_of s) c.satp.result c.args.at 4 c.in-Ok.to (λ p. p.runs) Fetch a i runs_fetch c.in-Ok.ensures).low

pub load32-requires : goal.load32-requires
load32-requires c =
    let s = c.args.self.now in
    let a : Asks (state_of s) c.satp.result = record { placed = s.placed; paged = s.paged; entered = c.requires.entered; named = c.satp.ensures } in
    let i : InPage c.args.at 4 = in_page c.args.at 4 (omega (arith, c.ranges.at.fits)) (inr (inr refl)) c.requires.aligned in
    (inside_of (state_of s) c.satp.result c.args.at 4 c.in-Ok.to (λ p. p.runs) Fetch a i runs_fetch c.in-Ok.ensures).high

pub returns-in-Ok-clause-answer : goal.returns-in-Ok-clause-answer
returns-in-Ok-clause-answer c =
    let s = c.args.self.now in
    let a : Asks (state_of s) c.satp.result = record { placed = s.placed; paged = s.paged; entered = c.requires.entered; named = c.satp.ensures } in
    let i : InPage c.args.at 4 = in_page c.args.at 4 (omega (arith, c.ranges.at.fits)) (inr (inr refl)) c.requires.aligned in
    ap Ok c.load32.ensures ∙ sym (fetch_ok (state_of s) c.satp.result c.args.at c.in-Ok.to a i c.in-Ok.ensures)

pub returns-in-Err-clause-answer : goal.returns-in-Err-clause-answer
returns-in-Err-clause-answer c =
    let s = c.args.self.now in
    let a : Asks (state_of s) c.satp.result = record { placed = s.placed; paged = s.paged; entered = c.requires.entered; named = c.satp.ensures } in
    let i : InPage c.args.at 4 = in_page c.args.at 4 (omega (arith, c.ranges.at.fits)) (inr (inr refl)) c.requires.aligned in
    sym (fetch_err (state_of s) c.satp.result c.args.at c.in-Err.field-0 a i c.in-Err.ensures)
