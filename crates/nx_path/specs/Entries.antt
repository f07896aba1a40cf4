-- The entries of the tree, and how its map has them.
use Rattle.std.specs.Prelude.{ℕ, ◌≡◌, ◌≤◌, List, length, map, Option, Some, slice_get}
use Rattle.std.specs.List.{IsDistinct}
use Rattle.std.specs.Str.{bytes_eq}
use Rattle.std.specs.HashMap.{HashMap}
use Rattle.arrayvec.specs.ArrayVec.{ArrayVec}
use Rattle.nx_ksys.specs.declared.node.Node.{Node}
use Rattle.nx_ksys.specs.TreeCalls.{listed_name}

-- the entries, and how many there may be
pub record Held : Type 0 where
  pub entries : List (List ℕ × Node)
  pub limit : ℕ

abbrev pub see : ArrayVec ℕ × Node → List ℕ × Node
see e = (e.0.items, e.1)

abbrev pub seen : {S : Type 0} → HashMap (ArrayVec ℕ) Node S → List (List ℕ × Node)
seen m = map see m.entries

-- a text is a name as it is listed, and the name is what a step finds, whatever comes after it
pub record IsListed (text : List ℕ) (step : Option (List ℕ × Node) → Option (List ℕ × Node)) : Type 0 where
  pub entry : List ℕ × Node
  pub listed : text ≡ listed_name entry.0 entry.1
  pub found : (rest : Option (List ℕ × Node)) → step rest ≡ Some entry

-- names of programs: no two are the same, and with `/bin/` each makes a path
pub record AreNames (names : List (List ℕ)) : Type 0 where
  pub distinct : IsDistinct bytes_eq names
  pub short : (i : ℕ) (name : List ℕ) → slice_get names i ≡ Some name → length name ≤ 250
