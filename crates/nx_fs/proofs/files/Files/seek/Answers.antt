use Rattle.nx_fs.proofs.files.Files.seek.Goals as goal

pub returns : goal.returns
returns c = rw (← c.self.view_is) (rw c.as_slice.ensures.value at c.seek_at.ensures)
