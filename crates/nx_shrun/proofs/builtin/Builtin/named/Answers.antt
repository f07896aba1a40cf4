use Rattle.std.proofs.Common.{Bool, sym, ◌∙◌, ap}
use Rattle.std.specs.List.{find}
use Rattle.std.specs.Str.{bytes_eq}
use Rattle.nx_base.proofs.Finding.{find_here}
use Rattle.nx_shrun.specs.declared.builtin.Builtin.{Builtin}
use Rattle.nx_shrun.specs.Builtins.{name_of}
use Rattle.nx_shrun.proofs.builtin.Builtin.named.Goals as goal

pub returns-then-eq : goal.returns-then-eq
returns-then-eq c =
    let P : Builtin → Bool = λ b. bytes_eq c.args.name.now (name_of b) in
    let hit = ap (bytes_eq c.args.name.now) (sym c.name.ensures) ∙ sym c.if-eq.ensures in
    sym (find_here P _ _ _ c.loop-builtin-test.true hit) ∙ c.loop-builtin.invariant ∙ ap (find P) c.all-builtin-items.ensures
