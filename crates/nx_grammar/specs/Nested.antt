-- A number in parentheses: the smallest grammar with a limit.
use Rattle.std.specs.Prelude.{◌≡◌, ℕ, zero, suc, Bool, true, false, if◌then◌else◌, List, ◌∷◌, Result, Ok, Err}
use Rattle.nx_grammar.specs.declared.kind.Kind.TheVariants.{Syntax, Limit}
use Rattle.nx_grammar.specs.declared.parens.Piece.{Piece}
use Rattle.nx_grammar.specs.declared.parens.Piece.TheVariants as piece
use Rattle.nx_grammar.specs.declared.parens.Nested.{Nested}
use Rattle.nx_grammar.specs.declared.parens.Refusal.{Refusal}
use Rattle.nx_grammar.specs.Reading.{Out, Reading, Pick, Refuse, Pass, Take, dispatch, seq, done, expect}
use Rattle.nx_grammar.specs.Faults.{IsFault}

-- A number alone.
abbrev pub bare : ℕ → Nested
bare n = record { number = n; depth = 0 }

-- The same number with a pair of parentheses more.
abbrev pub deeper : Nested → Nested
deeper x = record { number = x.number; depth = suc x.depth }

-- At most so many pairs of parentheses; the tokens, the number, the tokens after it.
pub data IsNested : ℕ → List Piece → Nested → List Piece → Type 0 where
  Bare : (d n : ℕ) (rest : List Piece) → IsNested d (piece.Number n ∷ rest) (bare n) rest
  Within : (d : ℕ) (ts rest : List Piece) (x : Nested) → IsNested d ts x (piece.Close ∷ rest) → IsNested (suc d) (piece.Open ∷ ts) (deeper x) rest

-- And then the end.
pub record IsWhole (limit : ℕ) (ts : List Piece) (x : Nested) : Type 0 where
  pub rest : List Piece
  pub has : IsNested limit ts x (piece.End ∷ rest)

-- The token at the end.
abbrev pub IsEnd : Piece → Type 0
IsEnd t = t ≡ piece.End

abbrev pub is_close : Piece → Bool
is_close piece.Close = true
is_close _ = false

abbrev pub is_end : Piece → Bool
is_end piece.End = true
is_end _ = false

-- What stands after a "(".
unfoldable pub inner_rest : Reading Piece Nested → Reading Piece Nested
inner_rest inner = seq inner (λ x. seq (expect is_close) (λ c. done (deeper x)))

-- What a token begins, where a "(" does this.
abbrev pub begun : Pick Piece Nested → Piece → Pick Piece Nested
begun nested (piece.Number n) = Take (done (bare n))
begun nested piece.Open = nested
begun nested _ = Refuse Syntax

-- What a "(" does, where so many pairs are left.
unfoldable pub open_pick : ℕ → Pick Piece Nested
open_pick zero = Refuse Limit
open_pick (suc d) = Take (inner_rest (dispatch (begun (open_pick d))))

abbrev pub nested_pick : ℕ → Piece → Pick Piece Nested
nested_pick d = begun (open_pick d)

abbrev pub nested_at : ℕ → Reading Piece Nested
nested_at d = dispatch (nested_pick d)

-- The end is left.
abbrev pub end_pick : Nested → Piece → Pick Piece Nested
end_pick x t = if is_end t then Pass x else Refuse Syntax

abbrev pub whole_at : ℕ → Reading Piece Nested
whole_at limit = seq (nested_at limit) (λ x. dispatch (end_pick x))

-- What a function returned is what the reading gives.
abbrev pub Gives : {X Y : Type 0} → (X → Y × List Piece) → Result X Refusal → Out Piece Y → Type 0
Gives view (Ok x) read = read ≡ Ok (view x)
Gives view (Err e) read = read ≡ Err (e.kind, e.from.now)

-- What is returned has its tree by the grammar, and what is refused goes wrong there.
abbrev pub IsReadOf : ℕ → List Piece → Result Nested Refusal → Type 0
IsReadOf limit ts (Ok x) = IsWhole limit ts x
IsReadOf limit ts (Err e) = IsFault IsWhole limit ts e.kind e.from.now
