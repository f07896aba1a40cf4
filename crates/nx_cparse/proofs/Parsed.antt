-- What the parser answers, by the reading and by the grammar.
use Rattle.std.proofs.Common.{List, [], ◌∷◌, refl, sym, ◌∙◌}
use Rattle.std.specs.Prelude.{map, Result, Ok, Err}
use Rattle.nx_grammar.specs.Faults.{EndsIn}
use Rattle.nx_grammar.proofs.Faults.{ended_faults}
use Rattle.nx_grammar.proofs.Results.{ok_same}
use Rattle.nx_ctok.specs.declared.token.Token.{Token}
use Rattle.nx_ctok.specs.declared.fault.CFault.{CFault}
use Rattle.nx_ctok.specs.declared.fault.CFault.TheVariants as fault
use Rattle.nx_ctok.specs.Tokens.{AreEnded, Last, Next}
use Rattle.nx_ctree.specs.declared.sign.Signed.{Signed}
use Rattle.nx_ctree.specs.declared.program.Unit.{Unit as File}
use Rattle.nx_ctree.specs.Signs.{with_sign}
use Rattle.nx_ctree.specs.Programs.{IsUnit}
use Rattle.nx_cstmt.specs.Reading.{part_pick}
use Rattle.nx_cparse.specs.Reading.{unit_at}
use Rattle.nx_cparse.specs.Files.{IsEnd, last}
use Rattle.nx_cparse.specs.Answers.{IsRefused, IsParsed, GivesTree, IsFaultOf, IsAnswerOf}
use Rattle.nx_cparse.proofs.FileReads.{file_sound, file_complete, file_spares, file_reads}

-- Tokens that end with their only end do so as the grammar sees them.
next_ends : (t : Token) (ts : List Token) → EndsIn IsEnd (map with_sign ts) → EndsIn IsEnd (map with_sign (t ∷ ts))
next_ends t [] h = absurd h
next_ends t (u ∷ us) h = h

pub ends : {ts : List Token} → AreEnded ts → EndsIn IsEnd (map with_sign ts)
ends (Last line) = refl
ends (Next t ts s h) = next_ends t ts (ends h)

-- A fault of the reading is the grammar's.
refused : (ts : List Signed) (e : CFault) → EndsIn IsEnd ts → IsFaultOf e (unit_at part_pick 64 ts) → IsRefused ts e
refused ts fault.Memory h f = tt
refused ts (fault.Text line k) h f = record {
  why = f.0;
  rest = f.1;
  fault = ended_faults (unit_at part_pick) IsUnit IsEnd IsEnd last 4 file_reads file_spares 64 ts f.0 f.1 h f.2;
  at = f.3;
  says = f.4;
}

-- What an answer says of the reading it says of the grammar.
pub parsed : (ts : List Signed) (r : Result File CFault) → EndsIn IsEnd ts → IsAnswerOf r (unit_at part_pick 64 ts) → IsParsed ts r
parsed ts (Ok a) h f = file_sound 64 ts a f.0 f.1
parsed ts (Err e) h f = refused ts e h f

given_fault : (ts : List Signed) (e : CFault) → IsFaultOf e (unit_at part_pick 64 ts) → (a : File) → IsUnit 64 ts a → GivesTree (Err e) a
given_fault ts fault.Memory f a p = tt
given_fault ts (fault.Text line k) f a p = let yes = (file_complete 64 ts a p).1 in let bad = f.2 in absurd cc

-- What has a tree is answered so.
pub given : (ts : List Signed) (r : Result File CFault) → IsAnswerOf r (unit_at part_pick 64 ts) → (a : File) → IsUnit 64 ts a → GivesTree r a
given ts (Ok b) f a p = let k = file_complete 64 ts a p in (ok_same b a f.0 k.0 (sym f.1 ∙ k.1)).0
given ts (Err e) f a p = given_fault ts e f a p
