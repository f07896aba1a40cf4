use Rattle.std.proofs.Common.{subst, sym}
use Rattle.nx_ccheck.specs.TypedFiles.{IsFile}
use Rattle.nx_cfront.proofs.Passes.{refused, no_program, of_tree}
use Rattle.nx_cfront.proofs.front.check_text.Goals as goal

pub returns-in-Err-clause-read : goal.returns-in-Err-clause-read
returns-in-Err-clause-read c = refused c.args.rows.now c.args.text.now c.in-Err.fault c.in-Err.ensures.read

pub returns-in-Err-clause-all : goal.returns-in-Err-clause-all
returns-in-Err-clause-all c p h = no_program c.in-Err.fault h.tree p (c.in-Err.ensures.only h.tree h.has)

pub returns-in-Ok-clause-read : goal.returns-in-Ok-clause-read
returns-in-Ok-clause-read c = of_tree c.args.rows.now c.args.text.now c.in-Ok.tree c.check.result c.in-Ok.ensures.read c.check.ensures.given c.check.ensures.typed

pub returns-in-Ok-clause-all : goal.returns-in-Ok-clause-all
returns-in-Ok-clause-all c p h = c.check.ensures.all p (subst (λ a. IsFile c.args.rows.now a p) (sym (c.in-Ok.ensures.only h.tree h.has)) h.is)
