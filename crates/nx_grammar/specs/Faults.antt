-- Where a list of tokens that has no tree goes wrong, by a grammar with a limit.
use Rattle.std.specs.Prelude.{◌≡◌, ℕ, ◌+◌, ◌≤◌, List, [], ◌∷◌, ◌++◌, Ok}
use Rattle.nx_grammar.specs.declared.kind.Kind.{Kind}
use Rattle.nx_grammar.specs.declared.kind.Kind.TheVariants.{Syntax, Limit}
use Rattle.nx_grammar.specs.Reading.{Reading}
use Rattle.nx_grammar.specs.Lawful.{Lives}
use Rattle.nx_grammar.specs.Growing.{Grows}

-- Some list that begins so has a tree.
abbrev pub Begins : {T A : Type 0} → (List T → A → Type 0) → List T → Type 0
Begins {T = T} {A = A} Has front = (more : List T) × (tree : A) × Has (front ++ more) tree

-- Syntax: with no limit does any list that begins so have a tree. Limit: with some limit one does.
abbrev pub IsOfKind : {T A : Type 0} → Kind → (ℕ → List T → A → Type 0) → List T → Type 0
IsOfKind Syntax Has begun = (limit : ℕ) → Begins (Has limit) begun → ⊥
IsOfKind Limit Has begun = (limit : ℕ) × Begins (Has limit) begun

-- Has limit ts tree: the tokens have this tree within the limit.
-- The fault of ts stands at the first token that ends no beginning of a list with a tree; rest is that token and those after it.
pub record IsFault {T A : Type 0} (Has : ℕ → List T → A → Type 0) (limit : ℕ) (ts : List T) (kind : Kind) (rest : List T) : Type 0 where
  pub front : List T
  pub token : T
  pub more : List T
  pub at : rest ≡ token ∷ more
  pub is : ts ≡ front ++ rest
  pub before : Begins (Has limit) front
  pub here : Begins (Has limit) (front ++ token ∷ []) → ⊥
  pub why : IsOfKind kind Has (front ++ token ∷ [])

-- The last token is one of these.
abbrev pub EndsIn : {T : Type 0} → (T → Type 0) → List T → Type 0
EndsIn E [] = ⊥
EndsIn E (t ∷ []) = E t
EndsIn E (t ∷ u ∷ us) = EndsIn E (u ∷ us)

-- A reading within a limit that is the grammar's: what it reads up to the last token has that tree, what has a tree is read with it,
-- it looks one token ahead, and a limit that is wider by the margin takes what the limit alone refused.
pub record Reads {T A : Type 0} (read : ℕ → Reading T A) (Has : ℕ → List T → A → Type 0) (F I : T → Type 0) (last : T) (margin : ℕ) : Type 0 where
  pub sound : (limit : ℕ) (ts : List T) (a : A) → read limit ts ≡ Ok (a, last ∷ []) → Has limit ts a
  pub complete : (limit : ℕ) (ts : List T) (a : A) → Has limit ts a → (rest : List T) × (read limit ts ≡ Ok (a, rest))
  pub lives : (limit : ℕ) → Lives (read limit) F I
  pub grows : (limit wider : ℕ) → limit + margin ≤ wider → Grows (read limit) (read wider)
  pub stops : F last
