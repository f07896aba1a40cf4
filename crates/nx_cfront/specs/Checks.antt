-- What the answer to a text says: it is a well-typed file, or it has a first fault.
use Rattle.std.specs.Prelude.{◌≡◌, ℕ, List, Result, Ok, Err}
use Rattle.nx_calls.specs.declared.row.CallRow.{CallRow}
use Rattle.nx_ctok.specs.declared.fault.CKind.{CKind}
use Rattle.nx_ctok.specs.declared.fault.CFault.{CFault}
use Rattle.nx_ctok.specs.declared.fault.CFault.TheVariants as fault
use Rattle.nx_ctree.specs.declared.program.Unit.{Unit as File}
use Rattle.nx_checked.specs.declared.checked.Checked.{Checked}
use Rattle.nx_ccheck.specs.Files.{file_verdict}
use Rattle.nx_ccheck.specs.TypedFiles.{IsFile}
use Rattle.nx_cfile.specs.Texts.{HasTree, HasFault}

-- A text is a file whose tree is well typed, and what it does.
pub record HasProgram (rows : List CallRow) (text : List ℕ) (p : Checked) : Type 0 where
  pub tree : File
  pub has : HasTree text tree
  pub is : IsFile rows tree p

-- The first fault of a text is one of its tokens or of its grammar; where it has a tree, it is the first fault of types and names.
pub data HasFirst (rows : List CallRow) (text : List ℕ) (line : ℕ) (k : CKind) : Type 0 where
  InText : HasFault text line k → HasFirst rows text line k
  InTypes : (tree : File) → HasTree text tree → file_verdict rows tree ≡ Err (fault.Text line k) → HasFirst rows text line k

-- A fault is the text's, unless memory ran out.
abbrev pub IsFirstIn : List CallRow → List ℕ → CFault → Type 0
IsFirstIn rows text fault.Memory = Unit {0}
IsFirstIn rows text (fault.Text line k) = HasFirst rows text line k

-- A program or a fault is the text's.
abbrev pub IsTextChecked : List CallRow → List ℕ → Result Checked CFault → Type 0
IsTextChecked rows text (Ok p) = HasProgram rows text p
IsTextChecked rows text (Err e) = IsFirstIn rows text e
