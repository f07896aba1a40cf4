use Rattle.std.proofs.Common.{◌≡◌, ◌<◌, ◌^◌, ◌%◌, drop}
use Rattle.std.specs.Str.Parse.{digits_value, digits_value_after}
use Rattle.nx_ctok.proofs.values.low_number.Given as goal

abbrev pub invariant-loop-digit : goal.invariant-loop-digit
invariant-loop-digit l = record { same : digits_value_after l.base l.value (drop l.digit-index l.digits) % 2 ^ 32 ≡ digits_value l.base l.digits % 2 ^ 32; fits : l.value < 2 ^ 32 }
