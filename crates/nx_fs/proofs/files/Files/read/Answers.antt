use Rattle.nx_fs.proofs.files.Files.read.Goals as goal

pub returns : goal.returns
returns g c = rw (← c.self.view_is) (rw c.as_slice.ensures.value at c.read_at.ensures)
