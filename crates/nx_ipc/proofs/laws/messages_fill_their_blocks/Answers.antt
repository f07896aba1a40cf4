use Rattle.nx_ipc.proofs.Blocks.{of_tables}
use Rattle.nx_ipc.proofs.laws.messages_fill_their_blocks.Goals as goal

pub returns : goal.returns
returns g c = λ s t. of_tables (g.B.BlockStore.content s) t (λ x. g.met.B.BlockStore.sized s x)
