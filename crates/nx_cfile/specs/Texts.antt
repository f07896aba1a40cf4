-- What the answer to a text says: its tokens are a file, or the text has a first fault.
use Rattle.std.specs.Prelude.{ℕ, List, Result, Ok, Err}
use Rattle.nx_ctok.specs.declared.token.Token.{Token}
use Rattle.nx_ctok.specs.declared.fault.CKind.{CKind}
use Rattle.nx_ctok.specs.declared.fault.CFault.{CFault}
use Rattle.nx_ctok.specs.declared.fault.CFault.TheVariants as fault
use Rattle.nx_ctok.specs.Tokens.{HasTokens}
use Rattle.nx_ctree.specs.declared.program.Unit.{Unit as File}
use Rattle.nx_ctree.specs.Programs.{IsUnit}
use Rattle.nx_cparse.specs.Answers.{signs_of, IsRefusal}

-- The tokens of a text are a file with this tree, of at most 64 nodes on a path.
pub record HasTree (text : List ℕ) (a : File) : Type 0 where
  pub tokens : List Token
  pub has : HasTokens text (Ok tokens)
  pub is : IsUnit 64 (signs_of tokens) a

-- The first fault of a text is one of its tokens, or where they are no beginning of a file.
pub data HasFault (text : List ℕ) (line : ℕ) (k : CKind) : Type 0 where
  InToken : HasTokens text (Err (fault.Text line k)) → HasFault text line k
  InFile : (tokens : List Token) → HasTokens text (Ok tokens) → IsRefusal (signs_of tokens) line k → HasFault text line k

-- A fault is the text's, unless memory ran out.
abbrev pub IsFaultIn : List ℕ → CFault → Type 0
IsFaultIn text fault.Memory = Unit {0}
IsFaultIn text (fault.Text line k) = HasFault text line k

-- A tree or a fault is the text's.
abbrev pub IsTextRead : List ℕ → Result File CFault → Type 0
IsTextRead text (Ok a) = HasTree text a
IsTextRead text (Err e) = IsFaultIn text e
