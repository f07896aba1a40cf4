-- What the answer of the parser says.
use Rattle.std.specs.Prelude.{◌≡◌, ℕ, List, map, Result, Ok, Err}
use Rattle.nx_grammar.specs.declared.kind.Kind.{Kind}
use Rattle.nx_grammar.specs.declared.kind.Kind.TheVariants as why
use Rattle.nx_grammar.specs.Reading.{Out}
use Rattle.nx_grammar.specs.Faults.{IsFault}
use Rattle.nx_ctok.specs.declared.token.Token.{Token}
use Rattle.nx_ctok.specs.declared.fault.CKind.{CKind}
use Rattle.nx_ctok.specs.declared.fault.CKind.TheVariants as kind
use Rattle.nx_ctok.specs.declared.fault.CFault.{CFault}
use Rattle.nx_ctok.specs.declared.fault.CFault.TheVariants as fault
use Rattle.nx_ctree.specs.declared.sign.Signed.{Signed}
use Rattle.nx_ctree.specs.declared.program.Unit.{Unit as File}
use Rattle.nx_ctree.specs.Signs.{with_sign}
use Rattle.nx_ctree.specs.Programs.{first_line, IsUnit}

-- The tokens as the grammar sees them.
abbrev pub signs_of : List Token → List Signed
signs_of ts = map with_sign ts

-- The kind of a fault.
abbrev pub fault_kind : Kind → CKind
fault_kind why.Syntax = kind.Syntax
fault_kind why.Limit = kind.Limit

-- A fault stands at the line of the first token that ends no beginning of a file of at most 64 nodes on a path:
-- it is a limit where some file of more nodes goes on with that token, and else a fault of syntax.
pub record IsRefusal (ts : List Signed) (line : ℕ) (k : CKind) : Type 0 where
  pub why : Kind
  pub rest : List Signed
  pub fault : IsFault IsUnit 64 ts why rest
  pub at : line ≡ first_line rest
  pub says : k ≡ fault_kind why

-- A fault is the grammar's, unless memory ran out.
abbrev pub IsRefused : List Signed → CFault → Type 0
IsRefused ts fault.Memory = Unit {0}
IsRefused ts (fault.Text line k) = IsRefusal ts line k

-- A tree is the file's.
abbrev pub IsParsed : List Signed → Result File CFault → Type 0
IsParsed ts (Ok a) = IsUnit 64 ts a
IsParsed ts (Err e) = IsRefused ts e

-- This tree was given, unless memory ran out.
abbrev pub GivesTree : Result File CFault → File → Type 0
GivesTree (Ok b) a = b ≡ a
GivesTree (Err fault.Memory) a = Unit {0}
GivesTree (Err (fault.Text line k)) a = ⊥

-- What a fault says of a reading, unless memory ran out.
abbrev pub IsFaultOf : {Y : Type 0} → CFault → Out Signed Y → Type 0
IsFaultOf fault.Memory read = Unit {0}
IsFaultOf (fault.Text line k) read = (why : Kind) × (rest : List Signed) × (read ≡ Err (why, rest)) × (line ≡ first_line rest) × (k ≡ fault_kind why)

-- What an answer says of a reading.
abbrev pub IsAnswerOf : {Y : Type 0} → Result Y CFault → Out Signed Y → Type 0
IsAnswerOf (Ok a) read = (rest : List Signed) × (read ≡ Ok (a, rest))
IsAnswerOf (Err e) read = IsFaultOf e read
