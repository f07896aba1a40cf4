-- What the reading of files says of the grammar.
use Rattle.std.specs.Prelude.{◌≡◌, ℕ, List, [], Ok, Err}
use Rattle.nx_grammar.specs.declared.kind.Kind.{Kind}
use Rattle.nx_grammar.specs.Faults.{IsFault, EndsIn}
use Rattle.nx_ctree.specs.declared.sign.Sign.TheVariants as sign
use Rattle.nx_ctree.specs.declared.sign.Signed.{Signed}
use Rattle.nx_ctree.specs.declared.program.Unit.{Unit as File}
use Rattle.nx_ctree.specs.Programs.{IsUnit}
use Rattle.nx_cstmt.specs.Reading.{part_pick}
use Rattle.nx_cparse.specs.Reading.{unit_at}

-- The token at the end of a file.
abbrev pub IsEnd : Signed → Type 0
IsEnd t = t.sign ≡ sign.End

abbrev pub last : Signed
last = record { sign = sign.End; text = []; line = 0 }

-- What is read is a file of at most so many nodes.
abbrev pub ReadsFiles : Type 0
ReadsFiles = (limit : ℕ) (ts : List Signed) (a : File) (rest : List Signed) → unit_at part_pick limit ts ≡ Ok (a, rest) → IsUnit limit ts a

-- Each file of at most so many nodes is read.
abbrev pub ReadsAllFiles : Type 0
ReadsAllFiles = (limit : ℕ) (ts : List Signed) (a : File) → IsUnit limit ts a → (rest : List Signed) × (unit_at part_pick limit ts ≡ Ok (a, rest))

-- Tokens are at most one file.
abbrev pub HasOneTree : Type 0
HasOneTree = (limit : ℕ) (ts : List Signed) (a b : File) → IsUnit limit ts a → IsUnit limit ts b → a ≡ b

-- Tokens up to an end that are refused are refused at the first that ends no beginning of a file.
abbrev pub GoesWrongThere : Type 0
GoesWrongThere = (limit : ℕ) (ts : List Signed) (why : Kind) (rest : List Signed) → EndsIn IsEnd ts → unit_at part_pick limit ts ≡ Err (why, rest) → IsFault IsUnit limit ts why rest
