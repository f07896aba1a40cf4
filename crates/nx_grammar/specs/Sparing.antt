-- A reading that takes no last token leaves one, so that each fault has a token.
use Rattle.std.specs.Prelude.{◌≡◌, List}
use Rattle.nx_grammar.specs.Reading.{Reading, Pick, Take}
use Rattle.nx_grammar.specs.Growing.{left}
use Rattle.nx_grammar.specs.Faults.{EndsIn}

-- Where the list ends in a token of E, so does what is left of it.
pub record Spares {T A : Type 0} (E : T → Type 0) (read : Reading T A) : Type 0 where
  pub on : (ts : List T) → EndsIn E ts → EndsIn E (left (read ts))

-- What a pick takes is no last token, and what follows spares it too.
pub record SparesPick {T A : Type 0} (E : T → Type 0) (t : T) (x : Pick T A) : Type 0 where
  pub takes : (read : Reading T A) → x ≡ Take read → (E t → ⊥) × Spares E read
