use Rattle.nx_kgroups.proofs.variables.tell_value.Goals as goal

pub returns-in-Some-clause-does : goal.returns-in-Some-clause-does
returns-in-Some-clause-does c = λ k place group. rw c.in-Some.is (c.tell_text.ensures.does k place group)
