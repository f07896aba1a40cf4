-- The words of a command as the code expands them. Of each word it keeps at most 256 bytes: one of so many is too long.
use Rattle.std.specs.Prelude.{ℕ, zero, suc, ◌-◌, ◌≤◌, ◌<◌, nat_lt, Bool, true, false, if◌then◌else◌, List, [], ◌∷◌, ◌++◌, length, take, drop, map, decimal, Option, None, Some}
use Rattle.nx_shtok.specs.declared.part.Part.TheVariants as part
use Rattle.nx_shtok.specs.declared.token.Word.{Word}
use Rattle.nx_shtree.specs.declared.tree.Redirection.{Redirection}
use Rattle.nx_shtree.specs.declared.tree.Simple.{Simple}
use Rattle.nx_ksys.specs.Answers.{input_at}
use Rattle.nx_shrun.specs.Calls.{Call, getenv}
use Rattle.nx_shrun.specs.Texts.{word_at}
use Rattle.nx_shrun.specs.Expansion.{Piece, Of, Ends, Spread, Whole, Wants, pieces_in}
use Rattle.nx_shstep.specs.Held.{Held}
use Rattle.nx_shell.specs.declared.filling.Filling.{Filling}
use Rattle.nx_shell.specs.declared.filling.Progress.{Progress}
use Rattle.nx_shell.specs.declared.filling.Progress.TheVariants as progress

-- What is kept of a word.
unfoldable pub cut : List ℕ → List ℕ
cut w = take 256 w

-- What is kept where bytes follow.
unfoldable pub kept : List ℕ → List ℕ → List ℕ
kept w bytes = w ++ take (256 - length w) bytes

-- The words of a command, that of its redirection last.
abbrev pub output_words : Option Redirection → List Word
output_words None = []
output_words (Some r) = r.file ∷ []

abbrev pub all_words : Simple → List Word
all_words c = c.words ++ output_words c.output

-- The pieces from a part of a word on.
abbrev pub rest_of : List Word → ℕ → ℕ → List Piece
rest_of [] place part = []
rest_of (w ∷ ws) zero part = map Of (drop part w.parts) ++ Ends ∷ pieces_in ws
rest_of (w ∷ ws) (suc place) part = rest_of ws place part

-- Words from left to right, of which no more than that is kept.
abbrev pub kept_spread : ℕ → List (List ℕ) → List ℕ → List Piece → Spread
kept_spread status ws w [] = Whole ws
kept_spread status ws w (Ends ∷ ps) = kept_spread status (ws ++ w ∷ []) [] ps
kept_spread status ws w (Of (part.Byte b) ∷ ps) = kept_spread status ws (kept w (b ∷ [])) ps
kept_spread status ws w (Of part.Status ∷ ps) = kept_spread status ws (kept w (decimal status)) ps
kept_spread status ws w (Of (part.Name name) ∷ ps) = if nat_lt 255 (length name) then kept_spread status ws w ps else Wants name ws w ps

-- Where the code stands in a command's words.
abbrev pub rest_in : Simple → Filling → List Piece
rest_in c f = rest_of (all_words c) (length f.words.words) f.part

-- The name for whose value a call asks.
abbrev pub asked : Call → List ℕ
asked q = input_at q.inputs 0

-- A name's value is wanted, or all words are there.
abbrev pub comes_to : Bool → Call → Filling → List Piece → Spread
comes_to true q f ps = Wants (asked q) f.words.words f.text ps
comes_to false q f ps = Whole f.words.words

-- The same, or there is more to do.
abbrev pub goes_to : Progress → Call → ℕ → Filling → List Piece → Spread
goes_to progress.More q status f ps = kept_spread status f.words.words f.text ps
goes_to progress.Wants q status f ps = Wants (asked q) f.words.words f.text ps
goes_to progress.Whole q status f ps = Whole f.words.words

-- A part was taken: its value is wanted, or there is more to do.
abbrev pub takes_to : Bool → Call → ℕ → Filling → List Piece → Spread
takes_to true q status f ps = Wants (asked q) f.words.words f.text ps
takes_to false q status f ps = kept_spread status f.words.words f.text ps

-- Where there is more to do, fewer pieces are left.
abbrev pub Shrinks : Progress → List Piece → List Piece → Type 0
Shrinks progress.More new old = length new < length old
Shrinks progress.Wants new old = Unit {0}
Shrinks progress.Whole new old = Unit {0}

-- The command after a value was asked for, or not.
abbrev pub after_asking : Bool → Held → Call → Held
after_asking true h q = record h { call = getenv (asked q) }
after_asking false h q = h

abbrev pub asks : Progress → Bool
asks progress.More = false
asks progress.Wants = true
asks progress.Whole = false

-- No word has more than what is kept.
abbrev pub AreKept : List (List ℕ) → Type 0
AreKept words = (place : ℕ) → length (word_at words place) ≤ 256

pub record IsKept (f : Filling) : Type 0 where
  pub text : length f.text ≤ 256
  pub words : AreKept f.words.words
  pub few : length f.words.words ≤ f.words.room
