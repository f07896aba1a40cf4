use Rattle.std.proofs.Common.{◌≡◌, ◌+◌, length}
use Rattle.std.specs.List.{prefix_len}
use Rattle.nx_base.specs.TextBytes.{is_word_byte}
use Rattle.nx_shtok.proofs.expansion.word_length.Given as goal

abbrev pub invariant-loop-rest : goal.invariant-loop-rest
invariant-loop-rest l = record { same : prefix_len is_word_byte l.bytes ≡ l.count + prefix_len is_word_byte l.rest; whole : l.count + length l.rest ≡ length l.bytes }

abbrev pub decreases-loop-rest : goal.decreases-loop-rest
decreases-loop-rest l = length l.rest
