use Rattle.std.proofs.Common.{arith, ◌++◌, ◌∙◌, ap, length}
use Rattle.nx_top.specs.first.Compiled.{code_bytes, write_code}
use Rattle.nx_top.proofs.first_path.CodeLemmas.{writes_more, writes_done}
use Rattle.nx_top.proofs.first.compile.put_writes.Goals as goal

pub loop-string-preserved : goal.loop-string-preserved
loop-string-preserved c =
    let lt = c.loop-string-test.true in
    let at = ap length c.string-item.is in
    let short = c.requires.short c.loop-string.string-index c.string-item.result lt in
    record {
      rest = writes_more c.args.strings.now _ _ _ c.loop-string.string-index c.loop-string.here c.loop-string.literal _ c.string-item.result lt (c.in_ok-put_write.ensures ∙ ap (λ k. c.loop-string.code ++ code_bytes (write_code c.loop-string.here c.loop-string.literal k)) (c.len.ensures ∙ at)) (omega (arith, at)) c.loop-string.invariant.rest;
      here = omega (arith, c.loop-string.invariant.here);
      literal = omega (arith, c.loop-string.invariant.literal, at, short);
    }

pub returns : goal.returns
returns c = writes_done c.args.strings.now _ _ _ c.loop-string.here c.loop-string.literal (omega arith) c.loop-string.invariant.rest
