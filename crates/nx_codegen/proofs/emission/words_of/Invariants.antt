use Rattle.std.proofs.Common.{◌≡◌, map, take}
use Rattle.nx_rv.specs.Table.{encode_of}
use Rattle.nx_codegen.proofs.emission.words_of.Given as goal

abbrev pub invariant-loop-inst : goal.invariant-loop-inst
invariant-loop-inst l = l.words.items ≡ map encode_of (take l.inst-index l.code)
