-- The entries of a map by their names' bytes.
use Rattle.std.specs.Prelude.{ℕ, List, map}
use Rattle.std.specs.Global.{Vec}

abbrev pub named : {V : Type 0} → List (Vec ℕ × V) → List (List ℕ × V)
named es = map (λ e. (e.0.items, e.1)) es
