-- The operators before one operand, and between two, each with its rule.
use Rattle.std.specs.Prelude.{Result}
use Rattle.nx_ctok.specs.declared.fault.CKind.{CKind}
use Rattle.nx_crules.specs.declared.types.Typed.{Typed}
use Rattle.nx_crules.specs.Rules.{paren_rule, unary_rule, binary_rule, index_rule, address_rule, cast_rule}
use Rattle.nx_cleaves.specs.declared.operators.Before.{Before}
use Rattle.nx_cleaves.specs.declared.operators.Before.TheVariants as before
use Rattle.nx_cleaves.specs.declared.operators.Between.{Between}
use Rattle.nx_cleaves.specs.declared.operators.Between.TheVariants as between

abbrev pub before_rule : Before → Typed → Result Typed CKind
before_rule (before.Unary op) = unary_rule op
before_rule (before.Cast b star) = cast_rule b star
before_rule before.Paren = paren_rule

abbrev pub between_rule : Between → Typed → Typed → Result Typed CKind
between_rule (between.Binary op) = binary_rule op
between_rule between.AddressOf = address_rule
between_rule between.Index = index_rule
