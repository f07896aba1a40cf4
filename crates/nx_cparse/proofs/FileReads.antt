-- The reading of files is that of their grammar.
use Rattle.std.proofs.Common.{◌≡◌, ℕ, List, [], ◌∷◌, refl}
use Rattle.std.specs.Prelude.{Ok}
use Rattle.nx_grammar.specs.Faults.{Reads}
use Rattle.nx_grammar.specs.Sparing.{Spares}
use Rattle.nx_ctree.specs.Expressions.{whole}
use Rattle.nx_ctree.specs.declared.sign.Signed.{Signed}
use Rattle.nx_ctree.specs.declared.program.Unit.{Unit as File}
use Rattle.nx_ctree.specs.Programs.{IsUnit}
use Rattle.nx_cexpr.specs.Signs.{Stops}
use Rattle.nx_cstmt.specs.Reading.{part_pick}
use Rattle.nx_cparse.specs.Reading.{unit_at}
use Rattle.nx_cparse.specs.Files.{IsEnd, last}
use Rattle.nx_cparse.proofs.Expressions.{part_law}
use Rattle.nx_cparse.proofs.FileLaws.{unit_law}
use Rattle.nx_cparse.proofs.Sound.{unit_sound}
use Rattle.nx_cparse.proofs.Complete.{unit_complete}
use Rattle.nx_cparse.proofs.Growth.{unit_grows}
use Rattle.nx_cparse.proofs.Last.{unit_last}

pub file_sound : (limit : ℕ) (ts : List Signed) (a : File) (rest : List Signed) → unit_at part_pick limit ts ≡ Ok (a, rest) → IsUnit limit ts a
file_sound = unit_sound part_pick (Stops whole) 2 part_law

pub file_complete : (limit : ℕ) (ts : List Signed) (a : File) → IsUnit limit ts a → (rest : List Signed) × (unit_at part_pick limit ts ≡ Ok (a, rest))
file_complete = unit_complete part_pick (Stops whole) 2 part_law

-- No reading takes the end.
pub file_spares : (limit : ℕ) → Spares IsEnd (unit_at part_pick limit)
file_spares = unit_last part_pick (Stops whole) 2 part_law

-- What the laws of grammars ask for.
pub file_reads : Reads (unit_at part_pick) IsUnit IsEnd IsEnd last 4
file_reads = record {
  sound = λ limit ts a e. file_sound limit ts a (last ∷ []) e;
  complete = file_complete;
  lives = λ limit. (unit_law part_pick (Stops whole) part_law.lives limit).lives;
  grows = λ limit wider l. unit_grows part_pick (Stops whole) 2 part_law limit wider l;
  stops = refl;
}
