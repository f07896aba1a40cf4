use Rattle.std.proofs.Common.{Bool, sym, ◌∙◌, ap}
use Rattle.std.specs.List.{find}
use Rattle.std.specs.Str.{bytes_eq}
use Rattle.nx_ctok.specs.declared.predefined.Predefined.{Predefined}
use Rattle.nx_ctok.specs.Predefined.{name_text}
use Rattle.nx_base.proofs.Finding.{find_here}
use Rattle.nx_ctok.proofs.predefined.Predefined.named.Goals as goal

pub returns-then-eq : goal.returns-then-eq
returns-then-eq c =
    let P : Predefined → Bool = λ k. bytes_eq c.args.bytes.now (name_text k) in
    let hit = ap (bytes_eq c.args.bytes.now) (sym c.name.ensures) ∙ sym c.if-eq.ensures in
    sym (find_here P _ _ _ c.loop-predefined-test.true hit) ∙ c.loop-predefined.invariant ∙ ap (find P) c.all-predefined-items.ensures
