use Rattle.std.proofs.Common.{◌≤◌, ◌^◌, subst}
use Rattle.nx_cframes.proofs.Bounds.{reached, exact_bytes, many_cells, many_arrays}
use Rattle.nx_cframes.proofs.counts.bytes_with.Goals as goal

pub returns-then-cells-ge-LIMIT-clause-beyond : goal.returns-then-cells-ge-LIMIT-clause-beyond
returns-then-cells-ge-LIMIT-clause-beyond c x y h g = many_cells x y (reached c.args.cells x h c.if-cells-ge-LIMIT.true)

pub returns-then-arrays-ge-LIMIT-clause-beyond : goal.returns-then-arrays-ge-LIMIT-clause-beyond
returns-then-arrays-ge-LIMIT-clause-beyond c x y h g = many_arrays x y (reached c.args.arrays y g c.if-arrays-ge-LIMIT.true)

pub returns-then-bytes-lt-LIMIT-clause-bytes : goal.returns-then-bytes-lt-LIMIT-clause-bytes
returns-then-bytes-lt-LIMIT-clause-bytes c x y h g = exact_bytes c.args.cells c.args.arrays x y h g c.if-cells-ge-LIMIT.false c.if-arrays-ge-LIMIT.false

pub returns-else-bytes-lt-LIMIT-clause-beyond : goal.returns-else-bytes-lt-LIMIT-clause-beyond
returns-else-bytes-lt-LIMIT-clause-beyond c x y h g = subst (λ n. 2 ^ 32 ≤ n) (exact_bytes c.args.cells c.args.arrays x y h g c.if-cells-ge-LIMIT.false c.if-arrays-ge-LIMIT.false) c.if-bytes-lt-LIMIT.false
