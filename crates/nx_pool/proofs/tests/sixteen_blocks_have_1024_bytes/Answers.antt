use Rattle.std.proofs.Common.{[]}
use Rattle.nx_pool.proofs.tests.sixteen_blocks_have_1024_bytes.Goals as goal

pub grow-requires-clause-held : goal.grow-requires-clause-held
grow-requires-clause-held g c = record { before = []; after = []; held = c.in_ok-chain.ensures.ok.held [] [] c.in_ok-store.ensures.empty }

pub give-requires : goal.give-requires
give-requires g c =
    let refused = c.in-Err.ensures.err in
    rw (refused.1, refused.2) (record { before = []; after = []; held = c.in_ok-chain.ensures.ok.held [] [] c.in_ok-store.ensures.empty })
