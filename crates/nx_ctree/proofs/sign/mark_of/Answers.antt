use Rattle.std.proofs.Common.{Bool, sym, ◌∙◌, ap}
use Rattle.std.specs.List.{find}
use Rattle.std.specs.Str.{bytes_eq}
use Rattle.nx_ctree.specs.declared.sign.Sign.{Sign}
use Rattle.nx_ctree.specs.Signs.{mark_text}
use Rattle.nx_base.proofs.Finding.{find_here}
use Rattle.nx_ctree.proofs.sign.mark_of.Goals as goal

pub returns-then-eq : goal.returns-then-eq
returns-then-eq c =
    let P : Sign → Bool = λ k. bytes_eq c.args.bytes.now (mark_text k) in
    let hit = ap (bytes_eq c.args.bytes.now) (sym c.mark_text.ensures) ∙ sym c.if-eq.ensures in
    sym (find_here P _ _ _ c.loop-mark-test.true hit) ∙ c.loop-mark.invariant ∙ ap (find P) c.marks-mark-items.ensures
