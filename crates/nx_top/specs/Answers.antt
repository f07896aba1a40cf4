-- The status and the text of each answer.
use Rattle.std.specs.Prelude.{◌≡◌, ℕ, ◌++◌, List, codes}
use Rattle.std.specs.List.{flat_map}
use Rattle.nx_outside.specs.declared.files.FileStop.{FileStop}
use Rattle.nx_outside.specs.declared.files.FileStop.TheVariants.{Failed, TooLong as Long, Memory}
use Rattle.nx_top.specs.declared.answer.Answer.{Answer}
use Rattle.nx_top.specs.declared.answer.Answer.TheVariants.{Usage, CannotRead, TooLong, Faulty, NotBuilt, Done}
use Rattle.nx_top.specs.Refusals.{refusal, fault_text}

-- the exit status
abbrev pub status_of : Answer → ℕ
status_of Usage = 2
status_of (CannotRead file) = 9
status_of (TooLong file) = 10
status_of (Faulty fault) = 3
status_of (NotBuilt file) = 13
status_of (Done status pieces) = status

-- what is printed: one line, or the pieces one after the other
abbrev pub text_of : Answer → List ℕ
text_of Usage = refusal (codes "usage")
text_of (CannotRead file) = refusal (codes "cannot read " ++ file)
text_of (TooLong file) = refusal (codes "too long " ++ file)
text_of (Faulty fault) = refusal (fault_text fault)
text_of (NotBuilt file) = refusal (codes "not built " ++ file)
text_of (Done status pieces) = flat_map (λ p. p) pieces

-- the answer to a file at which reading stopped
abbrev pub IsStopAnswer : Answer → FileStop → List ℕ → Type 0
IsStopAnswer a Failed name = a ≡ CannotRead name
IsStopAnswer a Long name = a ≡ TooLong name
IsStopAnswer a Memory name = ⊥
