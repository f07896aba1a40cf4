-- Which tokens are a script, with which tree.
use Rattle.std.specs.Prelude.{◌≡◌, ℕ, suc, ◌≤◌, List, [], ◌∷◌, ◌++◌, length, Option, None, Some}
use Rattle.nx_shtok.specs.declared.token.TokenKind.{TokenKind}
use Rattle.nx_shtok.specs.declared.token.TokenKind.TheVariants as mark
use Rattle.nx_shtok.specs.declared.token.Token.{Token}
use Rattle.nx_shtok.specs.declared.token.Word.{Word}
use Rattle.nx_shtree.specs.declared.keyword.Keyword.TheVariants as key
use Rattle.nx_shtree.specs.declared.tree.Mode.{Mode}
use Rattle.nx_shtree.specs.declared.tree.Mode.TheVariants.{Truncate, Append}
use Rattle.nx_shtree.specs.declared.tree.Redirection.{Redirection}
use Rattle.nx_shtree.specs.declared.tree.Simple.{Simple}
use Rattle.nx_shtree.specs.Words.{Reserved, First, Separator, head_of}
use Rattle.nx_shtree.specs.Trees as tree
use Rattle.nx_shtree.specs.Trees.{Item, At, items}

-- What a redirection's mark does with its file.
abbrev pub mode_of : TokenKind → Option Mode
mode_of mark.Into = Some Truncate
mode_of mark.Append = Some Append
mode_of _ = None

-- A redirection that begins at a token.
abbrev pub redirection : Token → Mode → Word → Redirection
redirection t m w = record { line = t.line; mode = m; file = w }

-- A simple command that begins at a token.
abbrev pub simple : Token → List Word → Option Redirection → Simple
simple t ws o = record { line = t.line; words = ws; output = o }

-- Words in their order: the tokens, the words, the tokens after them.
pub data AreWords : List Token → List Word → List Token → Type 0 where
  Done : (ts : List Token) → AreWords ts [] ts
  More : (ts rest : List Token) (ws : List Word) (t : Token) (w : Word) → AreWords ts ws (t ∷ rest) → t.kind ≡ mark.Word w → AreWords ts (ws ++ w ∷ []) rest

-- A redirection, or none.
pub data IsOutput : List Token → Option Redirection → List Token → Type 0 where
  Console : (ts : List Token) → IsOutput ts None ts
  File : (t u : Token) (m : Mode) (w : Word) (rest : List Token) → mode_of t.kind ≡ Some m → u.kind ≡ mark.Word w → IsOutput (t ∷ u ∷ rest) (Some (redirection t m w)) rest

-- A simple command of at most so many words, that of its redirection not counted. No reserved word is its first word.
pub data IsSimple : ℕ → List Token → Simple → List Token → Type 0 where
  Words : (m : ℕ) (t : Token) (ts us rest : List Token) (w : Word) (ws : List Word) (o : Option Redirection) → head_of t ≡ First w → AreWords ts ws us → suc (length ws) ≤ m → IsOutput us o rest →
      IsSimple m (t ∷ ts) (simple t (w ∷ ws) o) rest

-- One or more newlines and ";".
pub data AreSeparators : List Token → List Token → Type 0 where
  One : (t : Token) (rest : List Token) → head_of t ≡ Separator → AreSeparators (t ∷ rest) rest
  More : (t : Token) (ts rest : List Token) → AreSeparators ts (t ∷ rest) → head_of t ≡ Separator → AreSeparators ts rest

-- A condition: a simple command and what ends its line.
pub data IsCondition : ℕ → List Token → Simple → List Token → Type 0 where
  Condition : (m : ℕ) (ts us rest : List Token) (c : Simple) → IsSimple m ts c us → AreSeparators us rest → IsCondition m ts c rest

mutual
  -- At most so many words in a command, and so many levels of "if", "while" and "until"; the tokens, the tree, the tokens after it.
  pub data IsItem : ℕ → ℕ → List Token → Item → List Token → Type 0 where
    Command : (m d : ℕ) (s : Token) (ts rest : List Token) (c : Simple) → IsSimple m ts c (s ∷ rest) → head_of s ≡ Separator → IsItem m d ts (At c.line (tree.Command c)) rest
    Background : (m d : ℕ) (s : Token) (ts rest : List Token) (c : Simple) → IsSimple m ts c (s ∷ rest) → s.kind ≡ mark.And → IsItem m d ts (At c.line (tree.Background c)) rest
    If : (m d : ℕ) (t u f s : Token) (ts us rest : List Token) (c : Simple) (xs : List Item) → head_of t ≡ Reserved key.If → IsCondition m ts c (u ∷ us) → head_of u ≡ Reserved key.Then →
        IsList m d us xs (f ∷ s ∷ rest) → head_of f ≡ Reserved key.Fi → head_of s ≡ Separator → IsItem m (suc d) (t ∷ ts) (At t.line (tree.If c (items xs))) rest
    IfElse : (m d : ℕ) (t u e f s : Token) (ts us vs rest : List Token) (c : Simple) (xs ys : List Item) → head_of t ≡ Reserved key.If → IsCondition m ts c (u ∷ us) → head_of u ≡ Reserved key.Then →
        IsList m d us xs (e ∷ vs) → head_of e ≡ Reserved key.Else → IsList m d vs ys (f ∷ s ∷ rest) → head_of f ≡ Reserved key.Fi → head_of s ≡ Separator →
        IsItem m (suc d) (t ∷ ts) (At t.line (tree.IfElse c (items xs) (items ys))) rest
    While : (m d : ℕ) (t u f s : Token) (ts us rest : List Token) (c : Simple) (xs : List Item) → head_of t ≡ Reserved key.While → IsCondition m ts c (u ∷ us) → head_of u ≡ Reserved key.Do →
        IsList m d us xs (f ∷ s ∷ rest) → head_of f ≡ Reserved key.Done → head_of s ≡ Separator → IsItem m (suc d) (t ∷ ts) (At t.line (tree.While c (items xs))) rest
    Until : (m d : ℕ) (t u f s : Token) (ts us rest : List Token) (c : Simple) (xs : List Item) → head_of t ≡ Reserved key.Until → IsCondition m ts c (u ∷ us) → head_of u ≡ Reserved key.Do →
        IsList m d us xs (f ∷ s ∷ rest) → head_of f ≡ Reserved key.Done → head_of s ≡ Separator → IsItem m (suc d) (t ∷ ts) (At t.line (tree.Until c (items xs))) rest

  -- Items in their order, and separators between them.
  pub data IsList : ℕ → ℕ → List Token → List Item → List Token → Type 0 where
    Empty : (m d : ℕ) (ts : List Token) → IsList m d ts [] ts
    Separated : (m d : ℕ) (s : Token) (ts rest : List Token) (xs : List Item) → IsList m d ts xs (s ∷ rest) → head_of s ≡ Separator → IsList m d ts xs rest
    Added : (m d : ℕ) (ts us rest : List Token) (xs : List Item) (x : Item) → IsList m d ts xs us → IsItem m d us x rest → IsList m d ts (xs ++ x ∷ []) rest

-- A whole script, up to the end: at most limit words in a command, and limit levels.
pub data IsScript : ℕ → List Token → List Item → Type 0 where
  Script : (limit : ℕ) (t : Token) (ts : List Token) (xs : List Item) → IsList limit limit ts xs (t ∷ []) → t.kind ≡ mark.End → IsScript limit ts xs
