use Rattle.nx_objects.proofs.objects.Objects.sweep_target.Goals as goal

pub returns-in-File-clause-state : goal.returns-in-File-clause-state
returns-in-File-clause-state g c = λ k. rw c.in-File.is (c.sweep_file.ensures.state k c.args.threads.now)

pub returns-in-Queue-clause-state : goal.returns-in-Queue-clause-state
returns-in-Queue-clause-state g c = λ k. rw c.in-Queue.is (c.sweep_queue.ensures.state k)

pub returns-in-Semaphore-clause-state : goal.returns-in-Semaphore-clause-state
returns-in-Semaphore-clause-state g c = λ k. rw c.in-Semaphore.is (c.sweep_semaphore.ensures.state k (g.B.BlockStore.content c.args.blocks.now))
