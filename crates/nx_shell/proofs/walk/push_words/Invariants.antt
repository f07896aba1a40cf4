use Rattle.std.proofs.Common.{◌≡◌, ◌+◌, ◌-◌, ◌≤◌, ◌++◌, length, drop}
use Rattle.nx_shell.proofs.walk.push_words.Given as goal

abbrev pub invariant-loop-word : goal.invariant-loop-word
invariant-loop-word l = record {
  words : l.command.running.words ++ drop l.word-index l.words ≡ l.fn.command.running.words ++ l.words;
  file : l.command.running.file ≡ l.fn.command.running.file;
  room : l.command.room ≡ l.fn.command.room;
  fits : length l.command.running.words + (length l.words - l.word-index) ≤ l.fn.command.room;
}
