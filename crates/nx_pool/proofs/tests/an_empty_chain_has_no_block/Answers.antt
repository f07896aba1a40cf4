use Rattle.std.proofs.Common.{[]}
use Rattle.nx_pool.proofs.tests.an_empty_chain_has_no_block.Goals as goal

pub read-requires-clause-held : goal.read-requires-clause-held
read-requires-clause-held g c = record { before = []; after = []; held = c.in_ok-chain.ensures.ok.held [] [] c.in_ok-store.ensures.empty }

pub grow-requires-clause-held : goal.grow-requires-clause-held
grow-requires-clause-held g c = record { before = []; after = []; held = c.in_ok-chain.ensures.ok.held [] [] c.in_ok-store.ensures.empty }

pub read-requires-2-clause-held : goal.read-requires-2-clause-held
read-requires-2-clause-held g c =
    let one = c.in_ok-chain.ensures.ok.held [] [] c.in_ok-store.ensures.empty in
    record { before = []; after = []; held = c.in_ok-grow.ensures.ok.held [] [] one }

pub give-requires : goal.give-requires
give-requires g c =
    let one = c.in_ok-chain.ensures.ok.held [] [] c.in_ok-store.ensures.empty in
    record { before = []; after = []; held = c.in_ok-grow.ensures.ok.held [] [] one }
