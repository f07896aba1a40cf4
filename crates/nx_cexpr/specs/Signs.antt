-- Which tokens begin an expression, and which go on with one.
use Rattle.std.specs.Prelude.{ℕ, ◌<◌, ◌==◌, Bool, true, false, Option, None, Some, if◌then◌else◌}
use denote.Enum.Bare.{sameb}
use Rattle.nx_ctree.specs.contracts.sign.Sign.{the_type}
use Rattle.nx_ctree.specs.declared.sign.Sign.{Sign}
use Rattle.nx_ctree.specs.declared.sign.Sign.TheVariants as sign
use Rattle.nx_ctree.specs.declared.sign.Signed.{Signed}
use Rattle.nx_ctree.specs.declared.expression.BinaryOperator.{BinaryOperator}
use Rattle.nx_grammar.specs.declared.kind.Kind.{Kind}
use Rattle.nx_grammar.specs.declared.kind.Kind.TheVariants.{Syntax, Limit}

-- Whether a token has this sign.
abbrev pub is_sign : Sign → Signed → Bool
is_sign s t = sameb the_type t.sign s

-- The level of the expressions that a sign goes on with; one that goes on with none is above all levels.
abbrev pub rank : Sign → ℕ
rank sign.OpenParen = 0
rank sign.OpenBracket = 1
rank sign.Increment = 1
rank sign.Decrement = 1
rank sign.Star = 2
rank sign.Slash = 2
rank sign.Percent = 2
rank sign.Plus = 3
rank sign.Minus = 3
rank sign.ShiftLeft = 4
rank sign.ShiftRight = 4
rank sign.Less = 5
rank sign.AtMost = 5
rank sign.Greater = 5
rank sign.AtLeast = 5
rank sign.Equal = 6
rank sign.NotEqual = 6
rank sign.BitAnd = 7
rank sign.BitXor = 8
rank sign.BitOr = 9
rank sign.AndMark = 10
rank sign.OrMark = 11
rank sign.Question = 12
rank sign.Set = 13
rank sign.AddSet = 13
rank sign.SubtractSet = 13
rank sign.MultiplySet = 13
rank sign.DivideSet = 13
rank sign.RemainderSet = 13
rank _ = 14

-- A token at which an expression of a level stops.
abbrev pub Stops : ℕ → Signed → Type 0
Stops n t = n < rank t.sign

-- The operator, where it is one of this level.
abbrev pub operator_at : ℕ → Option (BinaryOperator × ℕ) → Option BinaryOperator
operator_at n None = None
operator_at n (Some (op, m)) = if m == n then Some op else None

-- Whether an expression begins with this sign.
abbrev pub begins : Sign → Bool
begins sign.Name = true
begins sign.Number = true
begins sign.Char = true
begins sign.Text = true
begins sign.OpenParen = true
begins sign.Minus = true
begins sign.Not = true
begins sign.Complement = true
begins sign.Star = true
begins sign.BitAnd = true
begins sign.Increment = true
begins sign.Decrement = true
begins sign.SizeOf = true
begins _ = false

-- Whether a unary expression may begin with this sign before its operand.
abbrev pub is_prefix : Sign → Bool
is_prefix sign.Minus = true
is_prefix sign.Not = true
is_prefix sign.Complement = true
is_prefix sign.Star = true
is_prefix sign.BitAnd = true
is_prefix sign.Increment = true
is_prefix sign.Decrement = true
is_prefix sign.SizeOf = true
is_prefix sign.OpenParen = true
is_prefix _ = false

-- Whether a primary expression that is no name begins with this sign.
abbrev pub begins_primary : Sign → Bool
begins_primary sign.Number = true
begins_primary sign.Char = true
begins_primary sign.Text = true
begins_primary sign.OpenParen = true
begins_primary _ = false

-- What is wrong with a token where no node fits: the limit alone refuses what the grammar has there.
abbrev pub full_fault : Bool → Kind
full_fault true = Limit
full_fault false = Syntax
