-- What each pass answers is the answer to the text.
use Rattle.std.proofs.Common.{◌≡◌, refl, ℕ, List, ◌⊎◌, inr}
use Rattle.std.specs.Prelude.{Result, Ok, Err, IfOk}
use Rattle.nx_calls.specs.declared.row.CallRow.{CallRow}
use Rattle.nx_ctok.specs.declared.fault.CFault.{CFault}
use Rattle.nx_ctok.specs.declared.fault.CFault.TheVariants as fault
use Rattle.nx_ctree.specs.declared.program.Unit.{Unit as File}
use Rattle.nx_checked.specs.declared.checked.Checked.{Checked}
use Rattle.nx_crules.specs.Answers.{IsGiven}
use Rattle.nx_ccheck.specs.Files.{file_verdict}
use Rattle.nx_ccheck.specs.TypedFiles.{IsFile}
use Rattle.nx_cparse.specs.Answers.{GivesTree}
use Rattle.nx_cfile.specs.Texts.{HasTree, IsFaultIn}
use Rattle.nx_cfront.specs.Checks.{InText, InTypes, IsFirstIn, IsTextChecked}

pub refused : (rows : List CallRow) (text : List ℕ) (e : CFault) → IsFaultIn text e → IsFirstIn rows text e
refused rows text fault.Memory p = tt
refused rows text (fault.Text line k) p = InText p

pub no_program : (e : CFault) (a : File) (p : Checked) → GivesTree (Err e) a → let r : Result Checked CFault = Err e in (r ≡ Ok p) ⊎ (r ≡ Err fault.Memory)
no_program fault.Memory a p g = inr refl
no_program (fault.Text line k) a p g = absurd g

pub of_tree : (rows : List CallRow) (text : List ℕ) (a : File) (r : Result Checked CFault) → HasTree text a → IsGiven r (file_verdict rows a) → IfOk r (λ p. IsFile rows a p) → IsTextChecked rows text r
of_tree rows text a (Ok p) h g t = record { tree = a; has = h; is = t }
of_tree rows text a (Err fault.Memory) h g t = tt
of_tree rows text a (Err (fault.Text line k)) h g t = InTypes a h g
