use Rattle.std.proofs.Common.{◌≡◌, ◌++◌, true, drop}
use Rattle.std.specs.List.{list_all}
use Rattle.nx_base.specs.TextBytes.{is_word_byte}
use Rattle.nx_calls.specs.Types.{without_far}
use Rattle.nx_calls.proofs.types.drop_far.Given as goal

abbrev pub invariant-loop-byte : goal.invariant-loop-byte
invariant-loop-byte l = record {
  word : list_all is_word_byte l.word ≡ true;
  text : l.text ++ without_far (l.word ++ drop l.byte-index l.part) ≡ without_far l.part;
}
