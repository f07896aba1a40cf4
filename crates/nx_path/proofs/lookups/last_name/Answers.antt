use Rattle.std.proofs.Common.{◌∙◌, ◌-◌, ap, arith, length, drop}
use Rattle.std.proofs.lemmas.List.{take_all, length-drop}
use Rattle.nx_path.proofs.EntryLemmas.{last_is_dropped}
use Rattle.nx_path.proofs.lookups.last_name.Goals as goal

pub returns : goal.returns
returns c =
    let path = c.args.path.now in
    let start = length path - c.last_length.result in
    take_all (length path - start) (drop start path) (omega (arith, length-drop start path)) ∙ last_is_dropped path start (ap (λ m. length path - m) c.last_length.ensures.last)
