use Rattle.std.proofs.Common.{rules, ◌≡◌, ◌+◌, ◌*◌, ◌^◌, ◌≤◌, drop, get_or, arith, drop-cons, suc}
use Rattle.std.proofs.Math.ListN.{drop_of_length-le}
use Rattle.nx_base.proofs.Digits.{wide, whole, not_less}
use Rattle.nx_base.proofs.text_bytes.number_of.Goals as goal

pub returns-in-None : goal.returns-in-None
returns-in-None c =
    let all = c.args.digits.now in
    let i = c.loop-digit.digit-index in
    let w : 2 ^ 64 ≤ c.loop-digit.value * c.args.base = not_less (c.loop-digit.value * c.args.base) (2 ^ 64) c.in-None.ensures in
    wide c.args.base c.loop-digit.value (get_or all i 0) (drop i all) (drop (suc i) all) all c.requires (drop-cons all i 0 (omega arith)) c.loop-digit.invariant.same (omega (arith, w))

pub returns-in-None-checked_add : goal.returns-in-None-checked_add
returns-in-None-checked_add c =
    let all = c.args.digits.now in
    let i = c.loop-digit.digit-index in
    let w : 2 ^ 64 ≤ c.in-Some.shifted + c.from.result = not_less (c.in-Some.shifted + c.from.result) (2 ^ 64) c.in-None-checked_add.ensures in
    let s : c.in-Some.shifted ≡ c.loop-digit.value * c.args.base = search rules in
    wide c.args.base c.loop-digit.value (get_or all i 0) (drop i all) (drop (suc i) all) all c.requires (drop-cons all i 0 (omega arith)) c.loop-digit.invariant.same (omega (arith, w, s, c.from.ensures, c.digit_value.ensures))

pub returns : goal.returns
returns c =
    let all = c.args.digits.now in
    let i = c.loop-digit.digit-index in
    whole c.args.base c.loop-digit.value (drop i all) all (drop_of_length-le all c.loop-digit-test.false) c.loop-digit.invariant.same c.loop-digit.invariant.fits
