use Rattle.std.proofs.Common.{length, ap, ◌∙◌, arith}
use Rattle.nx_base.specs.ByteLists.{get_bytes}
use Rattle.nx_base.proofs.Puts.{get_bytes-put_bytes, get_bytes-put_bytes_other}
use Rattle.nx_pool.proofs.EffectLemmas.{others_kept}
use Rattle.nx_pool.proofs.laws.a_write_changes_its_bytes_alone.Goals as goal

pub returns-clause-written : goal.returns-clause-written
returns-clause-written g c = λ s t chain at bytes inside wrote.
    let long = g.met.B.BlockStore.sized s chain in
    ap (λ bs. get_bytes bs at (length bytes)) wrote.own ∙ get_bytes-put_bytes (g.B.BlockStore.content s chain) at bytes (omega (arith, long, inside))

pub returns-clause-elsewhere : goal.returns-clause-elsewhere
returns-clause-elsewhere g c = λ s t chain at bytes inside wrote place count apart.
    let long = g.met.B.BlockStore.sized s chain in
    ap (λ bs. get_bytes bs place count) wrote.own ∙ get_bytes-put_bytes_other (g.B.BlockStore.content s chain) at bytes place count (omega (arith, long, inside)) apart

pub returns-clause-others : goal.returns-clause-others
returns-clause-others g c = λ s t chain other at bytes xs ys wrote held among. others_kept _ _ xs ys other (wrote.others xs ys held) among
