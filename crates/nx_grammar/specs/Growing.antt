-- A reading within a limit against one within a wider limit.
use Rattle.std.specs.Prelude.{◌≡◌, List, ◌∷◌, ◌++◌, Ok, Err}
use Rattle.nx_grammar.specs.declared.kind.Kind.{Kind}
use Rattle.nx_grammar.specs.declared.kind.Kind.TheVariants.{Syntax, Limit}
use Rattle.nx_grammar.specs.Reading.{Out, Reading, Pick, Refuse, Pass, Take}

-- The tokens that were not taken.
abbrev pub left : {T A : Type 0} → Out T A → List T
left (Ok x) = x.1
left (Err e) = e.1

-- The first token of rest was taken.
pub record Beyond {T A : Type 0} (rest : List T) (o : Out T A) : Type 0 where
  pub token : T
  pub taken : List T
  pub is : rest ≡ token ∷ taken ++ left o

-- A fault of syntax stays, and what the limit alone refused is passed.
abbrev pub GrownFault : {T A : Type 0} → Kind → List T → Out T A → Type 0
GrownFault Syntax rest o = o ≡ Err (Syntax, rest)
GrownFault Limit rest o = Beyond rest o

-- What was read stays too.
abbrev pub Grown : {T A : Type 0} → Out T A → Out T A → Type 0
Grown (Ok x) o = o ≡ Ok x
Grown (Err e) o = GrownFault e.0 e.1 o

-- The second reading does so against the first on each list.
pub record Grows {T A : Type 0} (narrow wide : Reading T A) : Type 0 where
  pub on : (ts : List T) → Grown (narrow ts) (wide ts)

-- A reading leaves an end of the list that it reads.
pub record Shortens {T A : Type 0} (read : Reading T A) : Type 0 where
  pub on : (ts : List T) → (taken : List T) × (ts ≡ taken ++ left (read ts))

-- Both at once.
pub record Wider {T A : Type 0} (narrow wide : Reading T A) : Type 0 where
  pub grows : Grows narrow wide
  pub short : Shortens wide

-- What became of a refused token: syntax refuses it still, and what the limit refused is taken.
abbrev pub RefusalGrown : {T A : Type 0} → Kind → Pick T A → Type 0
RefusalGrown {T = T} {A = A} Syntax x = x ≡ Refuse Syntax
RefusalGrown {T = T} {A = A} Limit x = (read : Reading T A) × (x ≡ Take read) × Shortens read

-- What became of a pick.
abbrev pub PickGrown : {T A : Type 0} → Pick T A → Pick T A → Type 0
PickGrown {T = T} {A = A} (Refuse kind) x = RefusalGrown kind x
PickGrown {T = T} {A = A} (Pass a) x = x ≡ Pass a
PickGrown {T = T} {A = A} (Take narrow) x = (wide : Reading T A) × (x ≡ Take wide) × Grows narrow wide
