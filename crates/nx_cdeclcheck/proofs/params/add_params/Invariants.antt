use Rattle.std.proofs.Common.{◌≡◌, drop}
use Rattle.nx_cbody.specs.Declarations.{params_verdict}
use Rattle.nx_cdeclcheck.specs.Done.{declared, IsSameFile}
use Rattle.nx_cdeclcheck.proofs.params.add_params.Given as goal

-- What the parameters that are left give is what all of them give.
abbrev pub invariant-loop-param : goal.invariant-loop-param
invariant-loop-param l = record {
  left : params_verdict (declared l.names l.locals) (drop l.param-index l.params) ≡ params_verdict (declared l.fn.names l.fn.locals) l.params;
  same : IsSameFile l.fn.names l.names;
}
