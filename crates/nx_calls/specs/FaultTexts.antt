-- How faults of a call table are printed.
use Rattle.std.specs.Prelude.{ℕ, List, codes}
use Rattle.nx_calls.specs.declared.fault.CallsKind.{CallsKind}
use Rattle.nx_calls.specs.declared.fault.CallsKind.TheVariants.{FewFields, BadName, BadCondition, UnionType, BadType, TooManyParameters, NameTwice, Signature, Limit}

-- the words for a kind of fault
abbrev pub kind_text : CallsKind → List ℕ
kind_text FewFields = codes "few fields"
kind_text BadName = codes "bad name"
kind_text BadCondition = codes "bad condition"
kind_text UnionType = codes "union type"
kind_text BadType = codes "bad type"
kind_text TooManyParameters = codes "too many parameters"
kind_text NameTwice = codes "name twice"
kind_text Signature = codes "signature"
kind_text Limit = codes "limit"
