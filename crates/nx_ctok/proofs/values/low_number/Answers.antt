use Rattle.std.proofs.Common.{◌≡◌, ◌^◌, drop, get_or, suc, drop-cons, arith, rules, add-one}
use Rattle.std.specs.Char.{digit_value}
use Rattle.nx_ctok.proofs.Numbers.{low_more}
use Rattle.nx_ctok.proofs.values.low_number.Goals as goal

pub loop-digit-preserved : goal.loop-digit-preserved
loop-digit-preserved c =
    let all = c.args.digits.now in
    let i = c.loop-digit.digit-index in
    let v : c.from.result ≡ digit_value (get_or all i 0) = search rules in
    record {
      same = rw (v, add-one i) (low_more c.args.base c.loop-digit.value (get_or all i 0) (2 ^ 32) (drop i all) (drop (suc i) all) all (drop-cons all i 0 (omega arith)) c.loop-digit.invariant.same);
      fits = omega arith;
    }
