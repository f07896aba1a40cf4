use Rattle.std.proofs.Common.{ap, sym, ◌∙◌, arith}
use Rattle.std.specs.List.{position_from}
use Rattle.std.specs.Option.{is_none}
use Rattle.nx_ipc.proofs.Choosing.{free_at}
use Rattle.nx_ipc.proofs.semaphores.Semaphores.open.Goals as goal

pub returns-in-None-clause-free : goal.returns-in-None-clause-free
returns-in-None-clause-free c = λ made e.
    let there = c.as_slice-in-None.ensures.value ∙ c.self.view_is in
    let first = c.first_free.ensures ∙ ap (position_from is_none 0) there in
    free_at 0 made made c.args.self.now (sym first ∙ c.create.ensures.free made e) (omega arith)
