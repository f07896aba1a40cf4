use Rattle.std.proofs.Common.{◌∙◌, ◌&&◌, ◌+◌, ◌-◌, not, ap, sym}
use Rattle.nx_sv32.specs.Walk.{walk}
use Rattle.nx_paged.specs.Walks.{all_walked}
use Rattle.nx_paged.proofs.Goods.{walked_more, walked_none, fault_is}
use Rattle.nx_paged.proofs.walks.are_walked.Goals as goal

pub returns-then-is_err : goal.returns-then-is_err
returns-then-is_err c =
    let a = c.args in
    let i = c.loop-i.i in
    let rest = all_walked a.ram.now a.satp a.access (a.at + (i + 1)) (a.len - (i + 1)) in
    sym (walked_more a.ram.now a.satp a.access a.at i a.len c.loop-i-test.true
    ∙ ap (λ b. b && rest) (fault_is (walk a.ram.now a.satp (a.at + i) a.access) c.walk.result c.walk.ensures ∙ ap not (sym c.is_err.ensures.value ∙ c.if-is_err.true)))
    ∙ c.loop-i.invariant

pub loop-i-preserved : goal.loop-i-preserved
loop-i-preserved c =
    let a = c.args in
    let i = c.loop-i.i in
    let rest = all_walked a.ram.now a.satp a.access (a.at + (i + 1)) (a.len - (i + 1)) in
    sym (walked_more a.ram.now a.satp a.access a.at i a.len c.loop-i-test.true
    ∙ ap (λ b. b && rest) (fault_is (walk a.ram.now a.satp (a.at + i) a.access) c.walk.result c.walk.ensures ∙ ap not (sym c.is_err.ensures.value ∙ c.if-is_err.false)))
    ∙ c.loop-i.invariant

pub returns : goal.returns
returns c = sym (walked_none c.args.ram.now c.args.satp c.args.access c.args.at c.loop-i.i c.args.len c.loop-i-test.false) ∙ c.loop-i.invariant
