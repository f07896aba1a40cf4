use Rattle.std.proofs.Common.{◌≡◌, ◌++◌, drop, map}
use Rattle.nx_gate.specs.Gates.{word_text, spaced}
use Rattle.nx_gate.proofs.listing_text.put_words.Given as goal

abbrev pub invariant-loop-word : goal.invariant-loop-word
invariant-loop-word l = l.text ++ spaced (map word_text (drop l.word-index l.words)) ≡ l.fn.text ++ spaced (map word_text l.words)
