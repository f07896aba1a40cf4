-- How faults of a script are printed.
use Rattle.std.specs.Prelude.{ℕ, List, codes}
use Rattle.nx_shtok.specs.declared.fault.ShKind.{ShKind}
use Rattle.nx_shtok.specs.declared.fault.ShKind.TheVariants.{BadByte, OpenQuote, Syntax, Limit}

-- The words for a kind of fault.
abbrev pub kind_text : ShKind → List ℕ
kind_text BadByte = codes "bad byte"
kind_text OpenQuote = codes "open quote"
kind_text Syntax = codes "syntax"
kind_text Limit = codes "limit"
