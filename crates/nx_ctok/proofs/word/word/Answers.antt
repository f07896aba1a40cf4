use Rattle.std.proofs.Common.{◌≡◌, ◌∙◌, refl, sym, ap, drop, arith}
use Rattle.std.proofs.lemmas.Grind.{common_steps}
use Rattle.nx_ctok.proofs.Lexemes.{word_of, word_scanned}
use Rattle.nx_ctok.proofs.Words.{word_left}
use Rattle.nx_ctok.proofs.word.word.Goals as goal

pub returns-in-Some-clause-gives : goal.returns-in-Some-clause-gives
returns-in-Some-clause-gives c =
    let r : c.new-in-Some.result ≡ drop c.in-Some.count c.args.bytes.now = grind (arith, common_steps) in
    sym (word_scanned c.args.bytes.now ∙ ap (word_of c.args.bytes.now) (sym c.in-Some.ensures.gives) ∙ rw (c.new.ensures, r) refl)

pub returns-in-None-clause-gives : goal.returns-in-None-clause-gives
returns-in-None-clause-gives c = sym (word_scanned c.args.bytes.now ∙ ap (word_of c.args.bytes.now) (sym c.in-None.ensures.gives))

pub returns-in-Some-clause-left : goal.returns-in-Some-clause-left
returns-in-Some-clause-left c =
    let r : c.new-in-Some.result ≡ drop c.in-Some.count c.args.bytes.now = grind (arith, common_steps) in
    word_left c.args.bytes.now (record { kind = c.in-Some.kind; text = c.new.result; rest = c.new-in-Some.result })
    (word_scanned c.args.bytes.now ∙ ap (word_of c.args.bytes.now) (sym c.in-Some.ensures.gives) ∙ rw (c.new.ensures, r) refl)
