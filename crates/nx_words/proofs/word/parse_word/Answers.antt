use Rattle.std.proofs.Common.{sym, refl, ◌∙◌}
use Rattle.std.proofs.lemmas.Bool.{false≢true}
use Rattle.hex.proofs.HexLemmas.{IsOk-decode_sized}
use Rattle.nx_words.proofs.word.parse_word.Goals as goal

pub returns-in_err-bytes-clause-found : goal.returns-in_err-bytes-clause-found
returns-in_err-bytes-clause-found c =
    let digits = IsOk-decode_sized c.args.text.now 4 in
    let sized = c.from_hex.ensures in (
      λ h. absurd (false≢true (rw c.from_residual.ensures at h)),
      λ h. absurd (false≢true (c.in_err-bytes.ensures.variant ∙ rw sized (digits.1 h))),
    )

pub returns-clause-found : goal.returns-clause-found
returns-clause-found c =
    let digits = IsOk-decode_sized c.args.text.now 4 in
    let sized = c.from_hex.ensures in (
      λ h. digits.0 (rw sized at (sym c.in_ok-bytes.ensures.variant)),
      λ h. refl,
    )
