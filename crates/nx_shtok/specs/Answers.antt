-- What the answers of the reading say of a text.
use Rattle.std.specs.Prelude.{◌≡◌, List, ℕ, Result, Ok, Err}
use Rattle.nx_shtok.specs.declared.fault.ShFault.{ShFault}
use Rattle.nx_shtok.specs.declared.fault.ShFault.TheVariants as fault
use Rattle.nx_shtok.specs.declared.token.Token.{Token}
use Rattle.nx_shtok.specs.Tokens.{HasTokens}

-- A fault is the text's, unless memory ran out.
abbrev pub Faults : List ℕ → ShFault → Type 0
Faults text fault.Memory = Unit {0}
Faults text (fault.Text line kind) = HasTokens text (Err (fault.Text line kind))

-- What was answered is what the text gives, unless memory ran out.
abbrev pub IsAnswer : List ℕ → Result (List Token) ShFault → Type 0
IsAnswer text (Ok ts) = HasTokens text (Ok ts)
IsAnswer text (Err e) = Faults text e

-- A fault that was answered is this, unless memory ran out.
abbrev pub IsFault : ShFault → Result (List Token) ShFault → Type 0
IsFault fault.Memory out = Unit {0}
IsFault (fault.Text line kind) out = out ≡ Err (fault.Text line kind)

-- This was answered, unless memory ran out.
abbrev pub IsGiven : Result (List Token) ShFault → Result (List Token) ShFault → Type 0
IsGiven (Ok ts) out = out ≡ Ok ts
IsGiven (Err e) out = IsFault e out
