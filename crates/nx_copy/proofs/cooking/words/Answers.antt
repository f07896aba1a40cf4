use Rattle.nx_copy.proofs.Inputs.{six}
use Rattle.nx_copy.proofs.cooking.words.Goals as goal

pub returns : goal.returns
returns c =
    let a = c.word_or_zero.ensures in
    let b = c.word_or_zero-2.ensures in
    let d = c.word_or_zero-3.ensures in
    let e = c.word_or_zero-4.ensures in
    let f = c.word_or_zero-5.ensures in
    let h = c.word_or_zero-6.ensures in
    six c.args.regs.now c.args.kinds.now _ _ _ _ _ _ c.requires a.there a.past b.there b.past d.there d.past e.there e.past f.there f.past h.there h.past
