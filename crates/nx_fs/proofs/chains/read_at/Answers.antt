use Rattle.std.proofs.Common.{◌∙◌, ap, sym, []}
use Rattle.nx_fs.specs.Chains.{bytes_in}
use Rattle.nx_fs.proofs.PlaceLemmas.{chain_held, flat_some, get_file, read_none, read_some}
use Rattle.nx_fs.proofs.chains.read_at.Goals as goal

pub read_chain-requires : goal.read_chain-requires
read_chain-requires g c = record { held = chain_held _ c.args.chains.now c.args.place c.in-Some.chain.now c.requires.held (flat_some c.args.chains.now c.args.place c.in-Some.chain.now (sym c.in-Some.ensures)) }

pub returns-in-None : goal.returns-in-None
returns-in-None g c = λ k d at.
    let content = g.B.BlockStore.content c.args.blocks.now in
    read_none _ d at _ c.args.description [] _ (get_file content c.args.chains.now c.args.place ∙ ap (bytes_in content) (sym c.in-None.ensures))

pub returns-in-Some : goal.returns-in-Some
returns-in-Some g c = λ k d at.
    let content = g.B.BlockStore.content c.args.blocks.now in
    read_some _ d at _ c.read_chain.result c.args.description (content c.in-Some.chain.now) _ _ (get_file content c.args.chains.now c.args.place ∙ ap (bytes_in content) (sym c.in-Some.ensures)) c.read_chain.ensures.bytes c.read_chain.ensures.count
