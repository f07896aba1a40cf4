use Rattle.std.proofs.Common.{refl, get_or}
use Rattle.nx_ksys.specs.EnvironmentCalls.{unsetenv_row}
use Rattle.nx_env.proofs.JoinedLemmas.{row_at}
use Rattle.nx_env.proofs.environments.unset_at.Goals as goal

pub returns : goal.returns
returns c = λ k c' groups g at.
    row_at k c' groups c.args.items.now c.args.place g (get_or c.args.items.now c.args.place c.index-items-place.result) c.index-items-place.result c.unset.new.self (λ s caller. unsetenv_row s caller c.args.name.now) c.unset.result c.requires refl at c.unset.ensures
