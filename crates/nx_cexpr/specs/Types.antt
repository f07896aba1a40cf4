-- How a base type and a "*" after it are read.
use Rattle.std.specs.Prelude.{Bool, true, false, if◌then◌else◌}
use Rattle.nx_grammar.specs.declared.kind.Kind.TheVariants.{Syntax}
use Rattle.nx_grammar.specs.Reading.{Reading, Pick, Refuse, Pass, Take, dispatch, seq, done, expect}
use Rattle.nx_ctree.specs.declared.sign.Sign.{Sign}
use Rattle.nx_ctree.specs.declared.sign.Sign.TheVariants as sign
use Rattle.nx_ctree.specs.declared.sign.Signed.{Signed}
use Rattle.nx_ctree.specs.declared.program.Base.{Base}
use Rattle.nx_ctree.specs.declared.program.Base.TheVariants as base
use Rattle.nx_cexpr.specs.Signs.{is_sign}

-- Whether a base type begins with this sign.
abbrev pub begins_base : Sign → Bool
begins_base sign.Int = true
begins_base sign.CharWord = true
begins_base sign.Const = true
begins_base _ = false

-- "char" after "const".
unfoldable pub const_rest : Reading Signed Base
const_rest = seq (expect (is_sign sign.CharWord)) (λ c. done base.ConstChar)

-- A base type.
abbrev pub base_by : Sign → Pick Signed Base
base_by sign.Int = Take (done base.Int)
base_by sign.CharWord = Take (done base.Char)
base_by sign.Const = Take const_rest
base_by _ = Refuse Syntax

abbrev pub base_pick : Signed → Pick Signed Base
base_pick t = base_by t.sign

abbrev pub base_at : Reading Signed Base
base_at = dispatch base_pick

-- A "*", or none.
abbrev pub star_pick : Signed → Pick Signed Bool
star_pick t = if is_sign sign.Star t then Take (done true) else Pass false

abbrev pub star_at : Reading Signed Bool
star_at = dispatch star_pick
