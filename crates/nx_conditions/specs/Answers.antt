-- What the answers of the functions say.
use Rattle.std.specs.Prelude.{◌≡◌, List, Result, Ok, Err, Option, None, Some}
use Rattle.nx_grammar.specs.Reading.{Out}
use Rattle.nx_conditions.specs.declared.token.Token.{Token}
use Rattle.nx_conditions.specs.declared.stop.ConditionStop.{ConditionStop}
use Rattle.nx_conditions.specs.declared.stop.ConditionStop.TheVariants as stop
use Rattle.nx_conditions.specs.declared.parse.ParseStop.{ParseStop}
use Rattle.nx_conditions.specs.declared.parse.ParseStop.TheVariants as fault

-- Bad stands for none, and out of memory stands for nothing.
abbrev pub IsNotFound : {Y : Type 0} → ConditionStop → Option Y → Type 0
IsNotFound stop.Bad o = o ≡ None
IsNotFound stop.Memory o = Unit {0}

-- What a function returned is this, unless memory ran out.
abbrev pub IsFound : {X Y : Type 0} → (X → Y) → Result X ConditionStop → Option Y → Type 0
IsFound view (Ok x) o = o ≡ Some (view x)
IsFound view (Err e) o = IsNotFound e o

-- A fault is that of the reading, unless memory ran out.
abbrev pub IsParseFault : {Y : Type 0} → ParseStop → Out Token Y → Type 0
IsParseFault fault.Memory read = Unit {0}
IsParseFault (fault.Fault kind at) read = read ≡ Err (kind, at.now)

-- What a function returned is what the reading gives, unless memory ran out.
abbrev pub IsParsed : {X Y : Type 0} → (X → Y × List Token) → Result X ParseStop → Out Token Y → Type 0
IsParsed view (Ok x) read = read ≡ Ok (view x)
IsParsed view (Err e) read = IsParseFault e read

-- This was given, unless memory ran out.
abbrev pub IsGiven : {X : Type 0} → Result X ConditionStop → X → Type 0
IsGiven (Ok y) x = y ≡ x
IsGiven (Err stop.Bad) x = ⊥
IsGiven (Err stop.Memory) x = Unit {0}
