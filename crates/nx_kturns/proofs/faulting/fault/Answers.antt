use Rattle.std.proofs.Common.{◌+◌, refl, ap}
use Rattle.nx_ksys.specs.Threads.{Schedule}
use Rattle.nx_ktables.specs.State.{state_of}
use Rattle.nx_kturns.proofs.Reached.{faulted_stands}
use Rattle.nx_kturns.proofs.faulting.fault.Goals as goal

pub returns-clause-stands : goal.returns-clause-stands
returns-clause-stands g c =
    let store = g.B.BlockStore in
    let old = c.args.tables.now in
    let at = c.args.blocks.now in
    let k = state_of (store.content at) old in
    let new = record old { threads = c.fail.new.self; calls = old.calls + 1 } in
    faulted_stands (store.holds at) (store.holds at) (store.content at) (store.content at) (store.blocks at) (store.blocks at) old new c.args.thread c.requires.stands
    refl c.requires.stands.held refl c.requires.few refl (ap (λ (s : Schedule). record k { sched = s; calls = k.calls + 1 }) c.fail.ensures)
