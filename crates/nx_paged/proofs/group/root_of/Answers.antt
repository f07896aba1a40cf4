use Rattle.std.proofs.Common.{◌∙◌, sym, ap}
use Rattle.std.proofs.lemmas.List.{get_or_read}
use Rattle.nx_paged.proofs.Numbers.{root_here, root_later, root_none}
use Rattle.nx_paged.proofs.group.root_of.Goals as goal

pub returns-then-number : goal.returns-then-number
returns-then-number c =
    let t = c.index-groups-i.result in
    c.root.ensures ∙ ap (λ x. x.root) (get_or_read c.args.groups.now c.loop-i.i c.index-groups-i-then-number.result c.loop-i-test.true c.index-groups-i-then-number.is t)
    ∙ sym (root_here c.args.groups.now c.loop-i.i c.args.number t c.loop-i-test.true (ap (λ t. t.number) (sym c.index-groups-i.is) ∙ sym c.number.ensures ∙ c.if-number.true)) ∙ c.loop-i.invariant

pub loop-i-preserved : goal.loop-i-preserved
loop-i-preserved c =
    sym (root_later c.args.groups.now c.loop-i.i c.args.number c.index-groups-i.result c.loop-i-test.true (λ q. c.if-number.false (c.number.ensures ∙ ap (λ t. t.number) c.index-groups-i.is ∙ q))) ∙ c.loop-i.invariant

pub returns : goal.returns
returns c = sym (root_none c.args.groups.now c.loop-i.i c.args.number c.loop-i-test.false) ∙ c.loop-i.invariant
