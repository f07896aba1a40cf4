use Rattle.std.proofs.Common.{sym, subst, refl, arith}
use Rattle.nx_codegen.specs.Frames.{IsFunction, words_end}
use Rattle.nx_codegen.proofs.tests.a_function_that_gives_a_number.Goals as goal

pub emit-requires-clause-framed : goal.emit-requires-clause-framed
unfolding words_end
emit-requires-clause-framed given c = subst IsFunction (sym c.in_ok-g.ensures) (record { aligned = refl; small = omega arith; temporaries = omega arith; params = omega arith; has_params = omega arith; holds = omega arith })
