-- How faults of a C program are printed.
use Rattle.std.specs.Prelude.{ℕ, List, codes}
use Rattle.nx_ctok.specs.declared.fault.CKind.{CKind}
use Rattle.nx_ctok.specs.declared.fault.CKind.TheVariants.{BadToken, TooWide, Syntax, UnknownName, NameTwice, TypeMismatch, Limit, NoMain, BadHex}

-- The words for a kind of fault.
abbrev pub kind_text : CKind → List ℕ
kind_text BadToken = codes "bad token"
kind_text TooWide = codes "number too wide"
kind_text Syntax = codes "syntax"
kind_text UnknownName = codes "unknown name"
kind_text NameTwice = codes "name twice"
kind_text TypeMismatch = codes "type mismatch"
kind_text Limit = codes "limit"
kind_text NoMain = codes "no main"
kind_text BadHex = codes "bad hex"
