-- What the reading of scripts says of the grammar.
use Rattle.std.specs.Prelude.{◌≡◌, ℕ, true, List, [], ◌∷◌, Ok, Err}
use Rattle.nx_grammar.specs.declared.kind.Kind.{Kind}
use Rattle.nx_grammar.specs.Faults.{IsFault, EndsIn}
use Rattle.nx_shtok.specs.declared.token.TokenKind.TheVariants as mark
use Rattle.nx_shtok.specs.declared.token.Token.{Token}
use Rattle.nx_shtree.specs.Words.{head_of}
use Rattle.nx_shtree.specs.Trees.{Item}
use Rattle.nx_shtree.specs.Grammar.{IsScript}
use Rattle.nx_shtree.specs.Reading.{ends_list, script_at}

-- The token at the end of a script.
abbrev pub IsEnd : Token → Type 0
IsEnd t = t.kind ≡ mark.End

abbrev pub end_token : Token
end_token = record { kind = mark.End; line = 0 }

-- A token that ends a list.
abbrev pub EndsList : Token → Type 0
EndsList t = ends_list (head_of t) ≡ true

-- What is read up to one last token is a script within the limit.
abbrev pub ReadsScripts : Type 0
ReadsScripts = (limit : ℕ) (ts : List Token) (xs : List Item) (t : Token) → script_at limit ts ≡ Ok (xs, t ∷ []) → IsScript limit ts xs

-- Each script within the limit is read.
abbrev pub ReadsAllScripts : Type 0
ReadsAllScripts = (limit : ℕ) (ts : List Token) (xs : List Item) → IsScript limit ts xs → (rest : List Token) × (script_at limit ts ≡ Ok (xs, rest))

-- Tokens are at most one script.
abbrev pub HasOneTree : Type 0
HasOneTree = (limit : ℕ) (ts : List Token) (xs ys : List Item) → IsScript limit ts xs → IsScript limit ts ys → xs ≡ ys

-- Tokens up to an end that are refused are refused at the first that ends no beginning of a script.
abbrev pub GoesWrongThere : Type 0
GoesWrongThere = (limit : ℕ) (ts : List Token) (why : Kind) (rest : List Token) → EndsIn IsEnd ts → script_at limit ts ≡ Err (why, rest) → IsFault IsScript limit ts why rest
