use Rattle.std.proofs.Common.{sym, ◌∙◌}
use Rattle.nx_rv.proofs.Rows.{encode_decode}
use Rattle.nx_words.proofs.listing.round_trip.Goals as goal

pub returns-clause-encoded : goal.returns-clause-encoded
returns-clause-encoded c =
    c.encode.ensures.table ∙ encode_decode c.args.word c.in_ok-inst.inst c.ranges.word.fits (sym c.in_ok-inst.ensures.table)
