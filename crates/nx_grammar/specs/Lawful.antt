-- What one token of lookahead means: a reading looks at no token but the next one, and what it began can be ended.
use Rattle.std.specs.Prelude.{◌≡◌, ◌≤◌, length, List, [], ◌∷◌, ◌++◌, Option, None, Some, Ok, Err, ◌⊎◌}
use Rattle.nx_grammar.specs.declared.kind.Kind.{Kind}
use Rattle.nx_grammar.specs.Reading.{Out, Reading, Pick, Pass, Take}

-- The next token.
abbrev pub head_of : {T : Type 0} → List T → Option T
head_of [] = None
head_of (t ∷ ts) = Some t

-- The next token is one of these.
abbrev pub Heads : {T : Type 0} → (T → Type 0) → List T → Type 0
Heads F [] = ⊥
Heads F (t ∷ ts) = F t

-- Any token at all.
abbrev pub Any : {T : Type 0} → T → Type 0
Any t = Unit {0}

-- The next token of the second list is that of the first, or one of these.
abbrev pub Meets : {T : Type 0} → (T → Type 0) → List T → List T → Type 0
Meets I ts others = (head_of others ≡ head_of ts) ⊎ Heads I others

-- The tokens of ts that stand before rest, put before other tokens.
pub record Front {T : Type 0} (ts rest : List T) : Type 0 where
  pub before : List T → List T
  pub from : ts ≡ before rest
  pub same : (r : List T) → head_of r ≡ head_of rest → head_of (before r) ≡ head_of ts
  pub list : List T
  pub listed : (r : List T) → before r ≡ list ++ r

-- What was read of ts up to rest is read of those tokens again, before each token of F and before that of rest.
pub record Passed {T A : Type 0} (read : Reading T A) (F I : T → Type 0) (ts : List T) (a : A) (rest : List T) : Type 0 where
  pub front : Front ts rest
  pub again : (r : List T) → head_of r ≡ head_of rest → read (front.before r) ≡ Ok (a, r)
  pub other : (r : List T) → Heads F r → read (front.before r) ≡ Ok (a, r)
  pub meets : (r : List T) → Heads F r → Meets I ts (front.before r)

-- What was begun can be ended: some words after it make it whole, before each token of F.
pub record Ending {T A : Type 0} (read : Reading T A) (F I : T → Type 0) (ts : List T) (begun : List T → List T) : Type 0 where
  pub value : A
  pub words : List T → List T
  pub ends : (r : List T) → Heads F r → read (begun (words r)) ≡ Ok (value, r)
  pub meets : (r : List T) → Heads F r → Meets I ts (begun (words r))

-- What was refused at rest is refused again before the same token, and with other words in its place it can be ended.
pub record Failed {T A : Type 0} (read : Reading T A) (F I : T → Type 0) (ts : List T) (kind : Kind) (rest : List T) : Type 0 where
  pub front : Front ts rest
  pub again : (r : List T) → head_of r ≡ head_of rest → read (front.before r) ≡ Err (kind, r)
  pub ending : Ending read F I ts front.before

-- The law of one outcome.
abbrev pub Lawful : {T A : Type 0} → Reading T A → (T → Type 0) → (T → Type 0) → List T → Out T A → Type 0
Lawful read F I ts (Ok x) = Passed read F I ts x.0 x.1
Lawful read F I ts (Err e) = Failed read F I ts e.0 e.1

-- A reading that is lawful on each list: at the tokens of F it surely stops, and with one of I its shortest completion begins.
pub record Lives {T A : Type 0} (read : Reading T A) (F I : T → Type 0) : Type 0 where
  pub on : (ts : List T) → Lawful read F I ts (read ts)

-- Some words are read whole, and begin with a token of I.
pub record Opens {T A : Type 0} (read : Reading T A) (F I : T → Type 0) : Type 0 where
  pub value : A
  pub words : List T → List T
  pub ends : (r : List T) → Heads F r → read (words r) ≡ Ok (value, r)
  pub first : (r : List T) → Heads F r → Heads I (words r)

-- Both at once: the law that readings are put together by.
pub record Law {T A : Type 0} (read : Reading T A) (F I : T → Type 0) : Type 0 where
  pub lives : Lives read F I
  pub opens : Opens read F I

-- A lawful choice: what is taken is lawful, and what is passed at one token is passed alike at all of F.
pub record Picks {T A : Type 0} (pick : T → Pick T A) (F I : T → Type 0) : Type 0 where
  pub takes : (t : T) (read : Reading T A) → pick t ≡ Take read → Lives read F Any
  pub passes : (t : T) (a : A) → pick t ≡ Pass a → (u : T) → F u → (pick u ≡ Pass a) × I u

-- A lawful round of a loop that stops at the tokens of F, where a round ends at those of H.
pub record Rounds {T A : Type 0} (pick : A → T → Pick T A) (F H : T → Type 0) : Type 0 where
  pub takes : (a : A) (t : T) (read : Reading T A) → pick a t ≡ Take read → Lives read H Any
  pub stops : (a : A) (t : T) → F t → pick a t ≡ Pass a
  pub same : (a b : A) (t : T) → pick a t ≡ Pass b → b ≡ a
  pub fits : (t : T) → F t → H t

-- What a round reads leaves no more tokens than there were.
pub record Shorter {T A : Type 0} (pick : A → T → Pick T A) : Type 0 where
  pub on : (a : A) (t : T) (read : Reading T A) → pick a t ≡ Take read → (ts : List T) (b : A) (rest : List T) → read ts ≡ Ok (b, rest) → length rest ≤ length ts
