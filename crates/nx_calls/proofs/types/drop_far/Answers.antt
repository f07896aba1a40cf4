use Rattle.std.proofs.Common.{◌++◌, ap, sym, ◌∙◌, drop}
use Rattle.std.proofs.Math.ListN.{drop_of_length-le}
use Rattle.nx_calls.proofs.Pieces.{far_end}
use Rattle.nx_calls.proofs.types.drop_far.Goals as goal

pub returns : goal.returns
returns c =
    let l = c.loop-byte in
    c.in_ok-put_word.ensures
    ∙ sym (ap (λ xs. l.text ++ xs) (far_end l.word (drop l.byte-index c.args.part.now) (drop_of_length-le c.args.part.now c.loop-byte-test.false) l.invariant.word))
    ∙ l.invariant.text
