use Rattle.std.proofs.Common.{◌+◌, length, ap, ◌∙◌}
use Rattle.std.specs.Prelude.{max}
use Rattle.nx_checked.specs.Frames.{all_initials, all_values, array_bytes}
use Rattle.nx_cframes.specs.Counts.{capped}
use Rattle.nx_cframes.proofs.frame.frame_bytes.Goals as goal

pub returns-clause-bytes : goal.returns-clause-bytes
returns-clause-bytes c =
    let f = c.args.function.now in
    c.bytes_with.ensures.bytes (length f.params + length f.locals + max (all_initials f.initials) (all_values f.body)) (array_bytes f.arrays) c.cells-cells.ensures (c.arrays_bytes-arrays.ensures ∙ ap (λ zs. capped (array_bytes zs)) c.as_slice.ensures)

pub returns-clause-beyond : goal.returns-clause-beyond
returns-clause-beyond c =
    let f = c.args.function.now in
    c.bytes_with.ensures.beyond (length f.params + length f.locals + max (all_initials f.initials) (all_values f.body)) (array_bytes f.arrays) c.cells-cells.ensures (c.arrays_bytes-arrays.ensures ∙ ap (λ zs. capped (array_bytes zs)) c.as_slice.ensures)
