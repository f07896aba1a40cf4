use Rattle.std.proofs.Common.{Bool, sym, ◌∙◌, ap}
use Rattle.std.specs.List.{find}
use Rattle.std.specs.Str.{bytes_eq}
use Rattle.nx_ctok.specs.declared.keyword.Keyword.{Keyword}
use Rattle.nx_ctok.specs.Spellings.{keyword_text}
use Rattle.nx_base.proofs.Finding.{find_here}
use Rattle.nx_ctok.proofs.keyword.Keyword.named.Goals as goal

pub returns-then-eq : goal.returns-then-eq
returns-then-eq c =
    let P : Keyword → Bool = λ k. bytes_eq c.args.bytes.now (keyword_text k) in
    let hit = ap (bytes_eq c.args.bytes.now) (sym c.text.ensures) ∙ sym c.if-eq.ensures in
    sym (find_here P _ _ _ c.loop-keyword-test.true hit) ∙ c.loop-keyword.invariant ∙ ap (find P) c.all-keyword-items.ensures
