use Rattle.std.proofs.Common.{[]}
use Rattle.nx_pool.proofs.tests.an_append_goes_on_in_the_next_block.Goals as goal

pub append-requires-clause-held : goal.append-requires-clause-held
append-requires-clause-held g c = record { before = []; after = []; held = c.in_ok-chain.ensures.ok.held [] [] c.in_ok-store.ensures.empty }

pub read-requires-clause-held : goal.read-requires-clause-held
read-requires-clause-held g c =
    let one = c.in_ok-chain.ensures.ok.held [] [] c.in_ok-store.ensures.empty in
    record { before = []; after = []; held = c.in_ok-append.ensures.ok.held [] [] one }
