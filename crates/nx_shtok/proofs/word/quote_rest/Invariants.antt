use Rattle.std.proofs.Common.{length}
use Rattle.nx_shtok.specs.Places.{QuoteOn}
use Rattle.nx_shtok.proofs.word.quote_rest.Given as goal

abbrev pub invariant-loop-found : goal.invariant-loop-found
invariant-loop-found l = QuoteOn l.quote l.bytes l.found l.rest

abbrev pub decreases-loop-found : goal.decreases-loop-found
decreases-loop-found l = length l.rest
