use Rattle.std.proofs.Common.{ap, sym, ◌∙◌}
use Rattle.std.specs.Option.{is_none}
use Rattle.std.specs.List.{position_from}
use Rattle.nx_group.proofs.Keys.{free_seen}
use Rattle.nx_group.proofs.descriptions.Descriptions.free.Goals as goal

pub returns : goal.returns
returns c =
    c.first_free.ensures ∙ ap (position_from is_none 0) c.as_slice.ensures.value
    ∙ sym (free_seen c.self.inside.slab c.self.inside.keys.items 0 c.self.invariant.there) ∙ ap (position_from is_none 0) c.self.view_is
