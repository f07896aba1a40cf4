use Rattle.nx_kgroups.proofs.variables.tell_listed.Goals as goal

pub returns-in-Some-clause-does : goal.returns-in-Some-clause-does
returns-in-Some-clause-does c = λ k place group. rw (c.in-Ok.is, c.in-Some.is, ← c.as_slice.ensures.value) (c.tell_text.ensures.does k place group)
