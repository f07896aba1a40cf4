-- A file is accepted exactly where it is well typed.
use Rattle.std.proofs.Common.{◌≡◌, List}
use Rattle.std.specs.Prelude.{Ok}
use Rattle.nx_calls.specs.declared.row.CallRow.{CallRow}
use Rattle.nx_ctree.specs.declared.program.Unit.{Unit as File}
use Rattle.nx_checked.specs.declared.checked.Checked.{Checked}
use Rattle.nx_ccheck.specs.Files.{file_verdict}
use Rattle.nx_ccheck.specs.TypedFiles.{IsFile}
use Rattle.nx_ccheck.proofs.StepsSound.{whole_on}
use Rattle.nx_ccheck.proofs.StepsComplete.{whole_back}
use Rattle.nx_ccheck.proofs.ToSteps.{typed_on}
use Rattle.nx_ccheck.proofs.FromSteps.{typed_back}

pub file_on : (rows : List CallRow) {file : File} {p : Checked} → IsFile rows file p → file_verdict rows file ≡ Ok p
file_on rows h = whole_on rows (typed_on rows h)

pub file_back : (rows : List CallRow) (file : File) (p : Checked) → file_verdict rows file ≡ Ok p → IsFile rows file p
file_back rows file p h = typed_back rows (whole_back rows file p h)
