use Rattle.std.proofs.Common.{◌∙◌, ◌+◌, ◌-◌, ◌≤◌, ◌≡◌, ap, sym, arith, min, length, take}
use Rattle.std.proofs.lemmas.List.{length-take-le}
use Rattle.nx_ksys.specs.FileCalls.{reach}
use Rattle.nx_fs.proofs.ByteLemmas.{extended_written, some_fit}
use Rattle.nx_fs.proofs.bytes.write_chain.Goals as goal

pub returns-clause-told : goal.returns-clause-told
returns-clause-told g c =
    let long = g.met.B.BlockStore.sized c.args.blocks.now c.args.chain.now in
    let within : c.min-count.result ≤ length c.args.bytes.now = omega (arith, c.min-count.ensures) in
    let short = length-take-le c.min-count.result c.args.bytes.now within in
    let w = extended_written _ _ _ _ _ _ c.args.chain.now c.extend.new.chain c.args.at (c.args.at + c.min-count.result) _ (take c.min-count.result c.args.bytes.now) long (ap (λ n. c.args.at + n) (sym short)) c.extend.ensures.becomes c.write.ensures.wrote in
    let room : c.saturating_sub-room.result ≡ reach (g.B.BlockStore.free_blocks c.args.blocks.now) (length (g.B.BlockStore.content c.args.blocks.now c.args.chain.now)) - c.args.at = c.saturating_sub-room.ensures ∙ ap (λ n. n - c.args.at) (c.last_end.ensures ∙ ap (λ n. reach n c.bytes.result) c.free.ensures ∙ ap (reach (g.B.BlockStore.free_blocks c.args.blocks.now)) (c.bytes.ensures ∙ sym long)) in
    some_fit (g.B.BlockStore.free_blocks c.args.blocks.now) c.args.at c.min-count.result (g.B.BlockStore.content c.args.blocks.now c.args.chain.now) c.args.bytes.now _ (omega arith)
    (c.min-count.ensures ∙ ap (min (length c.args.bytes.now)) room) (omega arith) w.own
