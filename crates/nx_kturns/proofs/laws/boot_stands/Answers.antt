use Rattle.nx_kturns.proofs.Ended.{first_stands}
use Rattle.nx_kturns.proofs.laws.boot_stands.Goals as goal

pub returns : goal.returns
returns g c = λ store limits programs input late t f l held b.
    first_stands (g.B.BlockStore.holds store) (g.B.BlockStore.content store) (g.B.BlockStore.blocks store) limits programs input late t f l held b
