-- The expressions in files.
use Rattle.std.proofs.Common.{ℕ, ◌+◌, ◌≤◌, ap, ◌∙◌}
use Rattle.nx_grammar.specs.Reading.{bind, done}
use Rattle.nx_grammar.specs.Growing.{PickGrown}
use Rattle.nx_grammar.specs.Sparing.{SparesPick}
use Rattle.nx_grammar.proofs.Growth.{wider_done, grows_done}
use Rattle.nx_grammar.proofs.Spares.{spares_done}
use Rattle.nx_grammar.proofs.Thens.{then_grown}
use Rattle.nx_ctree.specs.Expressions.{whole}
use Rattle.nx_ctree.specs.declared.sign.Sign.TheVariants as sign
use Rattle.nx_ctree.specs.declared.sign.Signed.{Signed}
use Rattle.nx_cexpr.specs.Signs.{Stops}
use Rattle.nx_cexpr.specs.Reading.{expr_pick}
use Rattle.nx_cexpr.proofs.Growth.{expr_grown}
use Rattle.nx_cexpr.proofs.Spared.{expr_spares}
use Rattle.nx_cexpr.proofs.Complete.{expr_complete}
use Rattle.nx_cstmt.specs.Reading.{part_pick}
use Rattle.nx_cstmt.proofs.Signs.{Is}
use Rattle.nx_cstmt.proofs.Lists.{then_spares}
use Rattle.nx_cstmt.proofs.PartLaws.{PartLives, Parts}
use Rattle.nx_cstmt.proofs.Expressions as expressions
use Rattle.nx_cstmt.proofs.Expressions.{part_on, part_sound}

pub part_lives : PartLives part_pick (Stops whole)
part_lives = expressions.part_lives

part_grown : (d e : ℕ) → d + 2 ≤ e → (t : Signed) → PickGrown (part_pick d t) (part_pick e t)
part_grown d e h t = then_grown (λ x. done x.expr) (λ x. done x.expr) (λ x. (wider_done x.expr).short) (expr_pick d t) (expr_pick e t) (expr_grown d e h t) (λ x. grows_done x.expr)

part_spares : (d : ℕ) (t : Signed) → SparesPick (Is sign.End) t (part_pick d t)
part_spares d t = then_spares (Is sign.End) t (expr_pick d t) (λ x. done x.expr) (expr_spares d t) (λ x. spares_done (Is sign.End) x.expr)

-- Expressions with at most so many nodes are read as their grammar says.
pub part_law : Parts part_pick (Stops whole) 2
part_law = record {
  lives = part_lives;
  sound = part_sound;
  complete = λ d ts a rest p h. part_on d ts ∙ ap (λ o. bind o (λ x. done x.expr)) (expr_complete p.has p.within h);
  grown = part_grown;
  spares = part_spares;
}
