-- How far a text is read.
use Rattle.std.specs.Prelude.{◌≡◌, ℕ, ◌+◌, ◌<◌, ◌≤◌, List, ◌++◌, length, Result, Err, ◌⊎◌}
use Rattle.nx_shtok.specs.declared.fault.ShKind.{ShKind}
use Rattle.nx_shtok.specs.declared.fault.ShFault.{ShFault}
use Rattle.nx_shtok.specs.declared.fault.ShFault.TheVariants as fault
use Rattle.nx_shtok.specs.declared.token.Token.{Token}
use Rattle.nx_shtok.specs.declared.reader.Reader.{Reader}
use Rattle.nx_shtok.specs.declared.part.Part.{Part}
use Rattle.nx_shtok.specs.declared.piece.Quote.{Quote}
use Rattle.nx_shtok.specs.declared.word.Begun.{Begun}
use Rattle.nx_shtok.specs.declared.word.Step.{Step}
use Rattle.nx_shtok.specs.declared.word.Step.TheVariants as step
use Rattle.nx_shtok.specs.Bytes.{newlines}
use Rattle.nx_shtok.specs.Views.{IsAfter}
use Rattle.nx_shtok.specs.Words.{Over, Plain, front_at, quoted_after, Quotes, Spelled, word_after, Spells}
use Rattle.nx_shtok.specs.Tokens.{Tokenizes, HasTokens, ahead}

-- What the rest of a quote comes to, its beginning comes to with these parts before.
pub record QuoteOn (z : Quote) (bytes : List ℕ) (found : List Part) (rest : List ℕ) : Type 0 where
  pub gives : (out : Result (List Part × List ℕ) ShKind) → Quotes z rest out → Quotes z bytes (quoted_after found out)
  pub left : IsAfter 0 rest bytes

-- What the rest of a word comes to, its beginning comes to with these parts before.
pub record WordOn (bytes : List ℕ) (begun : Begun) (rest : List ℕ) : Type 0 where
  pub gives : (out : Spelled) → Spells rest out → Spells bytes (word_after begun.parts begun.quoted out)
  pub left : IsAfter begun.lines rest bytes
  pub few : begun.lines + length rest ≤ length bytes
  pub taken : (length rest < length bytes) ⊎ (rest ≡ bytes)

-- A word goes on with a piece.
pub record GoesOn (old : Begun) (rest : List ℕ) (new : Begun) (after : List ℕ) : Type 0 where
  pub follows : (bytes : List ℕ) → WordOn bytes old rest → WordOn bytes new after
  pub less : length after < length rest

-- A word is over.
pub record IsOver (old : Begun) (rest : List ℕ) (new : Begun) (after : List ℕ) : Type 0 where
  pub is : front_at rest ≡ Plain (Over after)
  pub left : IsAfter 0 after rest
  pub same : new ≡ old

-- What the next piece of a word does.
abbrev pub StepLeads : Step → Begun → List ℕ → Begun → Type 0
StepLeads (step.Goes after) old rest new = GoesOn old rest new after.now
StepLeads (step.Over after) old rest new = IsOver old rest new after.now
StepLeads (step.Broken k) old rest new = Spells rest (Err (k, rest))

-- The line is that of this rest of the text.
pub record IsOnLine (text : List ℕ) (line : ℕ) (rest : List ℕ) : Type 0 where
  pub first : 1 ≤ line
  pub counts : line + newlines rest ≡ 1 + newlines text
  pub within : length rest ≤ length text

-- From one place to the next: what the text gives from the next place on, it gives after these tokens from the first.
pub record LeadsTo (text : List ℕ) (old : Reader) (rest : List ℕ) (new : Reader) (after : List ℕ) : Type 0 where
  pub found : List Token
  pub is : new.found ≡ old.found ++ found
  pub place : IsOnLine text new.line after
  pub less : length after < length rest
  pub gives : (out : Result (List Token) ShFault) → Tokenizes text after out → Tokenizes text rest (ahead found out)

-- The text is refused here; out of memory is free.
abbrev pub IsRefused : ShFault → List ℕ → List ℕ → Type 0
IsRefused fault.Memory text rest = Unit {0}
IsRefused (fault.Text line kind) text rest = Tokenizes text rest (Err (fault.Text line kind))

-- From the start to a place.
pub record Reached (text : List ℕ) (r : Reader) (rest : List ℕ) : Type 0 where
  pub place : IsOnLine text r.line rest
  pub gives : (out : Result (List Token) ShFault) → Tokenizes text rest out → HasTokens text (ahead r.found out)
