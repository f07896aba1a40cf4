-- How faults of a configuration are printed.
use Rattle.std.specs.Prelude.{ℕ, List, codes}
use Rattle.nx_config.specs.declared.fault.ConfigKind.{ConfigKind}
use Rattle.nx_config.specs.declared.fault.ConfigKind.TheVariants.{BadLine, BadNumber, Limit, OutOfRange, TwoBuilds, NoBuild}

-- the words for a kind of fault
abbrev pub kind_text : ConfigKind → List ℕ
kind_text BadLine = codes "bad line"
kind_text BadNumber = codes "bad number"
kind_text Limit = codes "limit"
kind_text OutOfRange = codes "out of range"
kind_text TwoBuilds = codes "two builds"
kind_text NoBuild = codes "no build"
