use Rattle.std.proofs.Common.{◌≡◌, drop}
use Rattle.nx_cbody.specs.Declarations.{items_verdict}
use Rattle.nx_cdeclcheck.specs.Done.{declared, IsSameFile}
use Rattle.nx_cdeclcheck.proofs.items.add_items.Given as goal

-- What the names that are left give is what all of them give.
abbrev pub invariant-loop-item : goal.invariant-loop-item
invariant-loop-item l = record {
  left : items_verdict l.rows l.base (declared l.names l.locals) (drop l.item-index l.items) l.used ≡ items_verdict l.rows l.base (declared l.fn.names l.fn.locals) l.items l.fn.used;
  same : IsSameFile l.fn.names l.names;
}
