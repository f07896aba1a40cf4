use Rattle.std.proofs.Common.{◌≡◌, subst, None}
use Rattle.nx_top.specs.declared.first.program.ReadStop.{ReadStop}
use Rattle.nx_top.specs.first.ProgramReading.{Fails, reading}
use Rattle.nx_top.proofs.first_path.Programs.{reading_sound}
use Rattle.nx_top.proofs.first_path.Spellings.{reading_whole}
use Rattle.nx_top.proofs.first.program.read_program.Goals as goal

pub returns-in-Ok : goal.returns-in-Ok
returns-in-Ok c = reading_sound c.args.bytes.now c.in-Ok.program c.in-Ok.ensures

pub returns-in-Err-Refused : goal.returns-in-Err-Refused
returns-in-Err-Refused c =
    let none : reading c.args.bytes.now ≡ None = subst (λ (e : ReadStop). Fails e (reading c.args.bytes.now)) c.in-Err-Refused.field-0-is c.in-Err-Refused.ensures in
    λ p h. let some = reading_whole c.args.bytes.now p h in cc
