use Rattle.std.proofs.Common.{◌∙◌}
use Rattle.std.proofs.lemmas.List.{with_items_is}
use Rattle.nx_pool.proofs.Holders.{are_still_held}
use Rattle.nx_fs.proofs.files.Files.set_empty.Goals as goal

pub returns-clause-held : goal.returns-clause-held
returns-clause-held g c =
    let items = with_items_is c.self.inside.chains c.empty_at.new.chains (c.empty_at.auto.chains ∙ c.deref_mut.ensures.len) in
    rw items (are_still_held _ _ _ _ _ _ c.requires.held (rw (c.deref_mut.ensures.value, c.self.view_is) at c.empty_at.ensures.moves))
