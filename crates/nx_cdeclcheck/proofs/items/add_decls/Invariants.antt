use Rattle.std.proofs.Common.{◌≡◌, drop}
use Rattle.nx_cbody.specs.Declarations.{decls_verdict}
use Rattle.nx_cdeclcheck.specs.Done.{declared, IsSameFile}
use Rattle.nx_cdeclcheck.proofs.items.add_decls.Given as goal

-- What the declarations that are left give is what all of them give.
abbrev pub invariant-loop-decl : goal.invariant-loop-decl
invariant-loop-decl l = record {
  left : decls_verdict l.rows (declared l.names l.locals) (drop l.decl-index l.decls) l.used ≡ decls_verdict l.rows (declared l.fn.names l.fn.locals) l.decls l.fn.used;
  same : IsSameFile l.fn.names l.names;
}
