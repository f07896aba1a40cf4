use Rattle.nx_objectcalls.proofs.room.describe.Goals as goal

pub returns : goal.returns
returns c = (λ i. record c.args.objects.now { descriptors = c.set.ensures i; descriptions = c.add.ensures i })
