use Rattle.nx_ktables.specs.State.{state_of}
use Rattle.nx_kgroups.proofs.children.wait_known.Goals as goal

pub returns-then-not-is_there-clause-does : goal.returns-then-not-is_there-clause-does
returns-then-not-is_there-clause-does c = λ content place group. rw (c.in-None.is, c.if-not-is_there.true) (c.done.ensures.does (state_of content c.args.tables.now) place group)

pub returns-in-Some-clause-does : goal.returns-in-Some-clause-does
returns-in-Some-clause-does c = λ content place group. rw c.in-Some.is (c.take_code.ensures.does content place group)

pub returns-else-not-is_there-clause-does : goal.returns-else-not-is_there-clause-does
returns-else-not-is_there-clause-does c = λ content place group. rw (c.in-None.is, c.if-not-is_there.false) (c.wait_or_not.ensures.does (state_of content c.args.tables.now) place group)
