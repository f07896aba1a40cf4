use Rattle.std.proofs.Common.{[], ◌∷◌}
use Rattle.nx_pool.proofs.tests.a_write_crosses_borders_and_leaves_the_other_chain.Goals as goal

pub write-requires-clause-held : goal.write-requires-clause-held
write-requires-clause-held g c =
    let one = c.in_ok-long.ensures.ok.held [] [] c.in_ok-store.ensures.empty in
    record { before = c.in_ok-long.long ∷ []; after = []; held = c.in_ok-short.ensures.ok.held (c.in_ok-long.long ∷ []) [] one }

pub write-requires-2-clause-held : goal.write-requires-2-clause-held
write-requires-2-clause-held g c =
    let first = c.in_ok-long.long ∷ [] in
    let two = c.in_ok-short.ensures.ok.held first [] (c.in_ok-long.ensures.ok.held [] [] c.in_ok-store.ensures.empty) in
    record { before = []; after = c.in_ok-short.short ∷ []; held = c.write.ensures.wrote.held first [] two }

pub write-requires-3-clause-held : goal.write-requires-3-clause-held
write-requires-3-clause-held g c =
    let first = c.in_ok-long.long ∷ [] in
    let rest = c.in_ok-short.short ∷ [] in
    let two = c.in_ok-short.ensures.ok.held first [] (c.in_ok-long.ensures.ok.held [] [] c.in_ok-store.ensures.empty) in
    record { before = []; after = rest; held = c.write-2.ensures.wrote.held [] rest (c.write.ensures.wrote.held first [] two) }

pub read-requires-clause-held : goal.read-requires-clause-held
read-requires-clause-held g c =
    let first = c.in_ok-long.long ∷ [] in
    let rest = c.in_ok-short.short ∷ [] in
    let two = c.in_ok-short.ensures.ok.held first [] (c.in_ok-long.ensures.ok.held [] [] c.in_ok-store.ensures.empty) in
    record { before = []; after = rest; held = c.write-3.ensures.wrote.held [] rest (c.write-2.ensures.wrote.held [] rest (c.write.ensures.wrote.held first [] two)) }

pub read-requires-2-clause-held : goal.read-requires-2-clause-held
read-requires-2-clause-held g c =
    let first = c.in_ok-long.long ∷ [] in
    let rest = c.in_ok-short.short ∷ [] in
    let two = c.in_ok-short.ensures.ok.held first [] (c.in_ok-long.ensures.ok.held [] [] c.in_ok-store.ensures.empty) in
    record { before = []; after = rest; held = c.write-3.ensures.wrote.held [] rest (c.write-2.ensures.wrote.held [] rest (c.write.ensures.wrote.held first [] two)) }

pub read-requires-3-clause-held : goal.read-requires-3-clause-held
read-requires-3-clause-held g c =
    let first = c.in_ok-long.long ∷ [] in
    let rest = c.in_ok-short.short ∷ [] in
    let two = c.in_ok-short.ensures.ok.held first [] (c.in_ok-long.ensures.ok.held [] [] c.in_ok-store.ensures.empty) in
    record { before = first; after = []; held = c.write-3.ensures.wrote.held [] rest (c.write-2.ensures.wrote.held [] rest (c.write.ensures.wrote.held first [] two)) }
