-- The reading of scripts is that of their grammar.
use Rattle.std.proofs.Common.{refl, arith}
use Rattle.nx_grammar.specs.Faults.{Reads}
use Rattle.nx_shtree.specs.Grammar.{IsScript}
use Rattle.nx_shtree.specs.Reading.{script_at}
use Rattle.nx_shtree.specs.Laws.{EndsList, IsEnd, end_token}
use Rattle.nx_shtree.proofs.ListLaws.{script_law}
use Rattle.nx_shtree.proofs.Growth.{script_wider}
use Rattle.nx_shtree.proofs.Sound.{script_sound}
use Rattle.nx_shtree.proofs.Complete.{script_complete}

-- What the laws of grammars ask for.
pub script_reads : Reads script_at IsScript IsEnd EndsList end_token 1
script_reads = record {
  sound = λ limit ts xs e. script_sound limit ts xs end_token e;
  complete = λ limit ts xs h. script_complete h;
  lives = λ limit. (script_law limit).lives;
  grows = λ limit wider l. (script_wider limit wider (omega (arith, l))).grows;
  stops = refl;
}
