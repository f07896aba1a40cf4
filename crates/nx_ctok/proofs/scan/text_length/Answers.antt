use Rattle.std.proofs.Common.{◌≡◌, true, arith, drop, sym, ap, ◌∙◌}
use Rattle.std.proofs.lemmas.Grind.{common_steps}
use Rattle.nx_ctok.specs.Scanning.{starts_with_quote, longer}
use Rattle.nx_ctok.proofs.Texts.{text_closed}
use Rattle.nx_ctok.proofs.scan.text_length.Goals as goal

pub returns-clause-count : goal.returns-clause-count
returns-clause-count c =
    let e : starts_with_quote (drop c.loop-count.count c.args.bytes.now) ≡ true = grind (arith, common_steps) in
    sym (c.loop-count.invariant.same ∙ ap (longer c.loop-count.count) (text_closed (drop c.loop-count.count c.args.bytes.now) e))
