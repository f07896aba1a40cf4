-- From a program to slot code, and from slot code to words.
use Rattle.std.proofs.Common.{◌≡◌, ℕ, refl, subst}
use Rattle.nx_base.specs.Calls.{Call}
use Rattle.nx_slot.specs.Meaning.{Code}
use Rattle.nx_cmean.specs.Lowered.{LowersProgram}
use Rattle.nx_keeps.specs.Programs.{slot_program}
use Rattle.nx_keeps.proofs.Lowering.{IsHeld, keeps_source}
use Rattle.nx_lower.specs.Shown.{statics_of}
use Rattle.nx_lower.specs.Code.{Source}
use Rattle.nx_lower.specs.Programs.{source_program, SameGlobals}
use Rattle.nx_lower.proofs.Kept.{lowers_programs}
use Rattle.nx_placed.specs.Placing.{Placing, rows_of, Holds, home_of_slots}
use Rattle.nx_placed.proofs.Kept.{keeps_slot_program}
use Rattle.nx_compiled.specs.Laws.{HoldsGlobals, WordsKeepPrograms}

abbrev Entry : Call → Call → Type 0
Entry c d = d ≡ c

held : (s : Source) (d : Placing) (stack : ℕ) → IsHeld (source_program s (rows_of d) d.main stack) (slot_program d.program.code d.main) (home_of_slots d) (SameGlobals s) (HoldsGlobals s d) (home_of_slots d).SameEntry Entry 64
held s d stack = record {
  down = λ g b h. (statics_of g, record { counts = h.counts; objects = refl }, h.holds);
  up = λ g os b same h. record { counts = same.counts; holds = subst (λ xs. Holds d xs b) same.objects h };
  entry = λ made c e q k. subst (λ y. (home_of_slots d).SameEntry made y) q k;
  begun = λ made c k. (c, record { means = refl; entry = refl }, k);
}

pub words_keep : WordsKeepPrograms
words_keep s d stack sound placed code main params =
    keeps_source (source_program s (rows_of d) d.main stack) (slot_program d.program.code d.main) (home_of_slots d) (SameGlobals s) (HoldsGlobals s d) (home_of_slots d).SameEntry Entry 64 (held s d stack)
    (subst (λ (p : Code). LowersProgram (source_program s (rows_of d) d.main stack) (slot_program p d.main) (rows_of d) (SameGlobals s) Entry 64) code (lowers_programs s (rows_of d) d.main stack sound main params))
    (keeps_slot_program d placed)
