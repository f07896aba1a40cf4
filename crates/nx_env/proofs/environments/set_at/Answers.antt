use Rattle.std.proofs.Common.{refl, get_or}
use Rattle.nx_ksys.specs.EnvironmentCalls.{setenv_row}
use Rattle.nx_env.proofs.JoinedLemmas.{row_at}
use Rattle.nx_env.proofs.environments.set_at.Goals as goal

pub returns : goal.returns
returns c = λ k c' groups g at.
    row_at k c' groups c.args.items.now c.args.place g (get_or c.args.items.now c.args.place c.index-items-place.result) c.index-items-place.result c.set.new.self (λ s caller. setenv_row s caller c.args.name.now c.args.value.now c.args.replace) c.set.result c.requires.place refl at c.set.ensures
