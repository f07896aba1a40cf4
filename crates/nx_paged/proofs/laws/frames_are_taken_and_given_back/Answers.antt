use Rattle.nx_paged.proofs.Shares.{start_takes, end_gives}
use Rattle.nx_paged.proofs.GrownShares.{stack_takes}
use Rattle.nx_paged.proofs.laws.frames_are_taken_and_given_back.Goals as goal

pub returns-clause-start : goal.returns-clause-start
returns-clause-start c = start_takes

pub returns-clause-end : goal.returns-clause-end
returns-clause-end c = end_gives

pub returns-clause-stack : goal.returns-clause-stack
returns-clause-stack c = stack_takes
