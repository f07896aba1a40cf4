use Rattle.std.proofs.Common.{◌≡◌, ◌+◌, ◌*◌, ◌≤◌, ◌++◌, drop}
use Rattle.nx_top.specs.first.Compiled.{code_bytes, writes_code}
use Rattle.nx_top.proofs.first.compile.put_writes.Given as goal

abbrev pub invariant-loop-string : goal.invariant-loop-string
invariant-loop-string l = record {
  rest : l.code ++ code_bytes (writes_code l.here l.literal (drop l.string-index l.strings)) ≡ l.fn.code ++ code_bytes (writes_code l.fn.here l.fn.literal l.strings);
  here : l.here ≡ l.fn.here + 20 * l.string-index;
  literal : l.literal ≤ l.fn.literal + 256 * l.string-index;
}
