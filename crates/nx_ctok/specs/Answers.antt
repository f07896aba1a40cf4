-- What the answer of the reading says of a text.
use Rattle.std.specs.Prelude.{◌≡◌, ℕ, List, Result, Ok, Err}
use Rattle.std.specs.Global.{Vec}
use Rattle.nx_ctok.specs.declared.fault.CFault.{CFault}
use Rattle.nx_ctok.specs.declared.fault.CFault.TheVariants as fault
use Rattle.nx_ctok.specs.declared.token.Token.{Token}
use Rattle.nx_ctok.specs.Tokens.{HasTokens}

-- A fault is the text's, unless memory ran out.
abbrev pub Faults : List ℕ → CFault → Type 0
Faults text fault.Memory = Unit {0}
Faults text (fault.Text line kind) = HasTokens text (Err (fault.Text line kind))

-- What was answered is what the text gives, unless memory ran out.
abbrev pub IsAnswer : List ℕ → Result (Vec Token) CFault → Type 0
IsAnswer text (Ok ts) = HasTokens text (Ok ts.items)
IsAnswer text (Err e) = Faults text e

-- A fault that was answered is this, unless memory ran out.
abbrev pub IsFault : CFault → Result (List Token) CFault → Type 0
IsFault fault.Memory out = Unit {0}
IsFault (fault.Text line kind) out = out ≡ Err (fault.Text line kind)

-- This was answered, unless memory ran out.
abbrev pub IsGiven : Result (Vec Token) CFault → Result (List Token) CFault → Type 0
IsGiven (Ok ts) out = out ≡ Ok ts.items
IsGiven (Err e) out = IsFault e out
