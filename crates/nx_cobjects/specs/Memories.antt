-- What a store of the code comes to.
use Rattle.std.specs.Prelude.{Result, Ok, Err}
use Rattle.nx_cobjects.specs.declared.value.WrongKind.{WrongKind}
use Rattle.nx_cobjects.specs.Memory.{Memory}

-- The memory after a store, or what is wrong.
abbrev pub stored_of : Result (Unit {0}) WrongKind → Memory → Result Memory WrongKind
stored_of (Ok u) m = Ok m
stored_of (Err kind) m = Err kind
