use Rattle.nx_top.proofs.top.put_answer.Goals as goal

pub returns-in-CannotRead : goal.returns-in-CannotRead
returns-in-CannotRead g c = rw (c.in-CannotRead.is, ← c.as_slice.ensures) c.put_refusal-in-CannotRead.ensures
