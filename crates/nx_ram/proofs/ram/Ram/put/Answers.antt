use Rattle.std.proofs.Common.{◌∙◌, sym, arith}
use Rattle.std.specs.Prelude.{slice_index}
use Rattle.std.proofs.lemmas.List.{length-set}
use Rattle.nx_ram.proofs.Puts.{small_set, put_more, put_all}
use Rattle.nx_ram.proofs.ram.Ram.put.Goals as goal

pub loop-i-preserved : goal.loop-i-preserved
loop-i-preserved c =
    record {
      long = length-set c.loop-i.self-inside.bytes.items _ _ ∙ c.loop-i.invariant.long;
      small = small_set c.loop-i.self-inside.bytes.items _ (slice_index c.args.bytes.now c.loop-i.i) c.loop-i.invariant.small (omega (arith, c.type_inv.bytes c.loop-i.i));
      rest = sym (put_more c.loop-i.self-inside.bytes.items c.args.bytes.now c.args.at c.loop-i.i (omega (arith, c.loop-i-test.true, c.loop-i.auto.i-end)) (omega (arith, c.loop-i.invariant.long, c.requires))) ∙ c.loop-i.invariant.rest;
    }

pub returns-clause-bytes : goal.returns-clause-bytes
returns-clause-bytes c =
    sym (put_all c.loop-i.self-inside.bytes.items c.args.bytes.now c.args.at c.loop-i.i (omega (arith, c.loop-i-test.false, c.loop-i.auto.i-end))) ∙ c.loop-i.invariant.rest
