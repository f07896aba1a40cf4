use Rattle.std.proofs.Common.{Bool, sym, ◌∙◌, ap}
use Rattle.std.specs.List.{find}
use Rattle.std.specs.Str.{bytes_eq}
use Rattle.nx_base.specs.declared.calls.KCall.{KCall}
use Rattle.nx_base.specs.KernelCalls.{name_of}
use Rattle.nx_base.proofs.Finding.{find_here}
use Rattle.nx_base.proofs.calls.KCall.named.Goals as goal

pub returns-then-eq : goal.returns-then-eq
returns-then-eq c =
    let P : KCall → Bool = λ k. bytes_eq c.args.name.now (name_of k) in
    let hit = ap (bytes_eq c.args.name.now) (sym c.name.ensures) ∙ sym c.if-eq.ensures in
    sym (find_here P _ _ _ c.loop-call-test.true hit) ∙ c.loop-call.invariant ∙ ap (find P) c.all-call-items.ensures
