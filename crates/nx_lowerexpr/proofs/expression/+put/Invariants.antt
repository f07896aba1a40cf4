use Rattle.std.proofs.Common.{◌≡◌, ◌≤◌, ◌+◌, ◌++◌, length, drop}
use Rattle.nx_checked.specs.Trees.{args_of}
use Rattle.nx_lower.specs.Code.{args_code}
use Rattle.nx_lowerexpr.specs.Sources.{source_of}
use Rattle.nx_lowerexpr.proofs.expression.+put.Given as goal

-- the arguments from the one that is left on have their code before what stood there
abbrev pub invariant-put_args-loop-left : goal.invariant-put_args-loop-left
invariant-put_args-loop-left l = record {
  within : l.left ≤ length l.xs;
  rest : l.code ≡ args_code (source_of l.program) l.n (l.d + l.left) (args_of (drop l.left l.xs)) ++ l.fn.code;
}

abbrev pub decreases-put_args-loop-left : goal.decreases-put_args-loop-left
decreases-put_args-loop-left l = l.left
