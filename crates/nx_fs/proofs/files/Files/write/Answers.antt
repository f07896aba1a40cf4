use Rattle.std.proofs.Common.{◌∙◌}
use Rattle.std.proofs.lemmas.List.{with_items_is}
use Rattle.nx_pool.proofs.Holders.{are_still_held}
use Rattle.nx_fs.proofs.files.Files.write.Goals as goal

pub returns-clause-row : goal.returns-clause-row
returns-clause-row g c =
    let items = with_items_is c.self.inside.chains c.write_at.new.chains (c.write_at.auto.chains ∙ c.deref_mut.ensures.len) in
    rw (← c.self.view_is, items) (rw c.deref_mut.ensures.value at c.write_at.ensures.row)

pub returns-clause-held : goal.returns-clause-held
returns-clause-held g c =
    let items = with_items_is c.self.inside.chains c.write_at.new.chains (c.write_at.auto.chains ∙ c.deref_mut.ensures.len) in
    rw items (are_still_held _ _ _ _ _ _ c.requires.held (rw (c.deref_mut.ensures.value, c.self.view_is) at c.write_at.ensures.moves))
