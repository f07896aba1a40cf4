-- How far a text is read.
use Rattle.std.specs.Prelude.{◌≡◌, ℕ, ◌+◌, ◌<◌, ◌≤◌, List, ◌++◌, length, Result, Err}
use Rattle.nx_ctok.specs.declared.fault.CFault.{CFault}
use Rattle.nx_ctok.specs.declared.fault.CFault.TheVariants as fault
use Rattle.nx_ctok.specs.declared.token.Token.{Token}
use Rattle.nx_ctok.specs.declared.reader.Reader.{Reader}
use Rattle.nx_ctok.specs.Comments.{newlines, line_at}
use Rattle.nx_ctok.specs.Tokens.{Tokenizes, HasTokens, ahead}
use Rattle.nx_ctok.specs.Views.{values_in}

-- What the rest of a text gives from here on.
abbrev pub TokenizesFrom : List ℕ → Reader → List ℕ → Result (List Token) CFault → Type 0
TokenizesFrom text r rest out = Tokenizes text r.fresh (values_in r.table) rest out

-- From one place to the next: what the text gives from the next place on, it gives after these tokens from the first.
pub record LeadsTo (old : Reader) (rest : List ℕ) (new : Reader) (after : List ℕ) : Type 0 where
  pub found : List Token
  pub is : new.found.items ≡ old.found.items ++ found
  pub line : new.line + newlines after ≡ old.line + newlines rest
  pub later : old.line ≤ new.line
  pub less : length after < length rest
  pub gives : (text : List ℕ) → old.line ≡ line_at text rest → (out : Result (List Token) CFault) → TokenizesFrom text new after out → TokenizesFrom text old rest (ahead found out)

-- The text is refused here; out of memory is free.
abbrev pub IsRefused : CFault → Reader → List ℕ → Type 0
IsRefused fault.Memory r rest = Unit {0}
IsRefused (fault.Text line kind) r rest = (text : List ℕ) → r.line ≡ line_at text rest → TokenizesFrom text r rest (Err (fault.Text line kind))

-- From the start to a place.
pub record Reached (text : List ℕ) (r : Reader) (rest : List ℕ) : Type 0 where
  pub first : 1 ≤ r.line
  pub line : r.line + newlines rest ≡ 1 + newlines text
  pub gives : (out : Result (List Token) CFault) → TokenizesFrom text r rest out → HasTokens text (ahead r.found.items out)
