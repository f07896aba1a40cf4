-- What a text's tokens are answered, the text is.
use Rattle.std.proofs.Common.{ℕ, List}
use Rattle.std.specs.Prelude.{Result, Ok, Err}
use Rattle.nx_ctok.specs.declared.token.Token.{Token}
use Rattle.nx_ctok.specs.declared.fault.CFault.{CFault}
use Rattle.nx_ctok.specs.declared.fault.CFault.TheVariants as fault
use Rattle.nx_ctok.specs.Tokens.{HasTokens}
use Rattle.nx_ctree.specs.declared.program.Unit.{Unit as File}
use Rattle.nx_cparse.specs.Answers.{signs_of, IsRefused, IsParsed}
use Rattle.nx_cfile.specs.Texts.{InFile, IsFaultIn, IsTextRead}

refused_file : (text : List ℕ) (ts : List Token) (e : CFault) → HasTokens text (Ok ts) → IsRefused (signs_of ts) e → IsFaultIn text e
refused_file text ts fault.Memory h p = tt
refused_file text ts (fault.Text line k) h p = InFile ts h p

pub of_tokens : (text : List ℕ) (ts : List Token) (r : Result File CFault) → HasTokens text (Ok ts) → IsParsed (signs_of ts) r → IsTextRead text r
of_tokens text ts (Ok a) h p = record { tokens = ts; has = h; is = p }
of_tokens text ts (Err e) h p = refused_file text ts e h p
