use Rattle.std.proofs.Common.{◌∙◌, ap, sym, arith, Ok}
use Rattle.nx_base.specs.declared.access.Access.TheVariants.{Load}
use Rattle.nx_paged.proofs.Accesses.{InPage, in_page, reads_load}
use Rattle.nx_paged.specs.State.{state_of}
use Rattle.nx_paged.proofs.Answers.{Asks, inside_of, load_ok, load_err}
use Rattle.nx_paged.proofs.paged.PagedSpaceSpace.load.Goals as goal

pub overflow_sub-to : goal.overflow_sub-to
overflow_sub-to c =
    let s = c.args.self.now in
    let a : Asks (state_of s) c.satp.result = record { placed = s.placed; paged = s.paged; entered = c.requires.entered; named = c.satp.ensures } in
    let i : InPage c.args.at c.args.width = in_page c.args.at c.args.width (omega (arith, c.ranges.at.fits)) c.requires.width c.requires.aligned in
    (inside_of (state_of s) c.satp.result c.args.at c.args.width c.in-Ok.to (λ p. p.reads) Load a i reads_load c.in-Ok.ensures).low

pub load-requires-clause-inside : goal.load-requires-clause-inside
load-requires-clause-inside c =
    let s = c.args.self.now in
    let a : Asks (state_of s) c.satp.result = record { placed = s.placed; paged = s.paged; entered = c.requires.entered; named = c.satp.ensures } in
    let i : InPage c.args.at c.args.width = in_page c.args.at c.args.width (omega (arith, c.ranges.at.fits)) c.requires.width c.requires.aligned in
    (inside_of (state_of s) c.satp.result c.args.at c.args.width c.in-Ok.to (λ p. p.reads) Load a i reads_load c.in-Ok.ensures).high

pub returns-in-Ok-clause-answer : goal.returns-in-Ok-clause-answer
returns-in-Ok-clause-answer c =
    let s = c.args.self.now in
    let a : Asks (state_of s) c.satp.result = record { placed = s.placed; paged = s.paged; entered = c.requires.entered; named = c.satp.ensures } in
    let i : InPage c.args.at c.args.width = in_page c.args.at c.args.width (omega (arith, c.ranges.at.fits)) c.requires.width c.requires.aligned in
    ap Ok c.load.ensures.value ∙ sym (load_ok (state_of s) c.satp.result c.args.at c.args.width c.in-Ok.to a i c.in-Ok.ensures)

pub returns-in-Err-clause-answer : goal.returns-in-Err-clause-answer
returns-in-Err-clause-answer c =
    let s = c.args.self.now in
    let a : Asks (state_of s) c.satp.result = record { placed = s.placed; paged = s.paged; entered = c.requires.entered; named = c.satp.ensures } in
    let i : InPage c.args.at c.args.width = in_page c.args.at c.args.width (omega (arith, c.ranges.at.fits)) c.requires.width c.requires.aligned in
    sym (load_err (state_of s) c.satp.result c.args.at c.args.width c.in-Err.field-0 a i c.in-Err.ensures)
