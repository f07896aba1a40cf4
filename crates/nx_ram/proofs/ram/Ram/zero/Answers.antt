use Rattle.std.proofs.Common.{◌∙◌, sym, arith}
use Rattle.std.proofs.lemmas.List.{length-set}
use Rattle.nx_ram.proofs.Puts.{small_set, zero_more, zero_all}
use Rattle.nx_ram.proofs.ram.Ram.zero.Goals as goal

pub loop-i-preserved : goal.loop-i-preserved
loop-i-preserved c =
    record {
      long = length-set c.loop-i.self-inside.bytes.items _ _ ∙ c.loop-i.invariant.long;
      small = small_set c.loop-i.self-inside.bytes.items _ _ c.loop-i.invariant.small (omega arith);
      rest = sym (zero_more c.loop-i.self-inside.bytes.items c.args.at c.loop-i.i c.args.count (omega (arith, c.loop-i-test.true, c.loop-i.auto.i-end)) (omega (arith, c.loop-i.invariant.long, c.requires))) ∙ c.loop-i.invariant.rest;
    }

pub returns-clause-bytes : goal.returns-clause-bytes
returns-clause-bytes c =
    sym (zero_all c.loop-i.self-inside.bytes.items c.args.at c.loop-i.i c.args.count (omega (arith, c.loop-i-test.false, c.loop-i.auto.i-end))) ∙ c.loop-i.invariant.rest
