-- Operators between parts, from the left.
use Rattle.std.specs.Prelude.{Bool, if◌then◌else◌, List, [], ◌∷◌, Option, None, Some, Ok, Err}
use Rattle.nx_grammar.specs.declared.kind.Kind.TheVariants.{Syntax}
use Rattle.nx_grammar.specs.Reading.{Reading, Pick, Pass, Take}

-- An operator takes its right side, and each other token ends the chain.
abbrev pub chain_pick : {T A : Type 0} → (T → Bool) → (A → Reading T A) → A → T → Pick T A
chain_pick test right a t = if test t then Take (right a) else Pass a

-- What stands after an operator at the front.
abbrev pub after_first : {T : Type 0} → (T → Bool) → List T → Option (List T)
after_first test [] = None
after_first test (t ∷ ts) = if test t then Some ts else None

-- A chain that is over: a token stands after it.
abbrev pub closed : {T A : Type 0} → A → Reading T A
closed a [] = Err (Syntax, [])
closed a (t ∷ ts) = Ok (a, t ∷ ts)
