use Rattle.std.proofs.Common.{◌∙◌}
use Rattle.nx_fs.proofs.PlaceLemmas.{free_of_files}
use Rattle.nx_fs.proofs.files.Files.free.Goals as goal

pub returns : goal.returns
returns c = record { found = λ content. rw (← c.self.view_is) (rw c.as_slice.ensures.value at c.first_free.ensures ∙ free_of_files content 0 c.self.inside.chains.items) }
