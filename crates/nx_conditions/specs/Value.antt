-- The value of a condition, where each name has this meaning or none.
use Rattle.std.specs.Prelude.{ℕ, ℤ, pos, int_lt, int_le, Bool, not, ◌&&◌, ◌||◌, is_some, List, Option, None, Some, if◌then◌else◌}
use Rattle.std.specs.Ordering.{int_eq}
use Rattle.nx_conditions.specs.declared.meaning.Meaning.{Meaning}
use Rattle.nx_conditions.specs.declared.meaning.Meaning.TheVariants as meaning
use Rattle.nx_conditions.specs.declared.token.Comparison.{Comparison}
use Rattle.nx_conditions.specs.declared.token.Comparison.TheVariants as comparison
use Rattle.nx_conditions.specs.declared.condition.Condition.{Condition, fold-Condition}
use Rattle.nx_conditions.specs.declared.condition.Condition.TheOpen.{Condition-F, Always, Or, And, Compare, Not, Defined, Name, Number}

-- 1 or 0.
abbrev pub one_if : Bool → ℤ
one_if b = if b then pos 1 else pos 0

-- A value that isn't 0.
abbrev pub is_true : ℤ → Bool
is_true x = not (int_eq x (pos 0))

-- Whether two values compare so.
abbrev pub compares : Comparison → ℤ → ℤ → Bool
compares comparison.Equal x y = int_eq x y
compares comparison.NotEqual x y = not (int_eq x y)
compares comparison.Less x y = int_lt x y
compares comparison.AtMost x y = int_le x y
compares comparison.Greater x y = int_lt y x
compares comparison.AtLeast x y = int_le y x

-- A name is 1 for "y", its number for a number, else 0.
abbrev pub name_value : Option Meaning → ℤ
name_value (Some meaning.Yes) = pos 1
name_value (Some (meaning.Number n)) = n
name_value (Some meaning.Other) = pos 0
name_value None = pos 0

-- The value of a form, by those of its parts.
abbrev pub form_value : (List ℕ → Option Meaning) → Condition-F ℤ → ℤ
form_value means Always = pos 1
form_value means (Or x y) = one_if (is_true x || is_true y)
form_value means (And x y) = one_if (is_true x && is_true y)
form_value means (Compare by x y) = one_if (compares by x y)
form_value means (Not x) = one_if (not (is_true x))
form_value means (Defined name) = one_if (is_some (means name))
form_value means (Name name) = name_value (means name)
form_value means (Number n) = pos n

-- The value of a condition.
abbrev pub value_of : (List ℕ → Option Meaning) → Condition → ℤ
value_of means a = fold-Condition ℤ (form_value means) a

-- Whether a condition holds: its value isn't 0.
abbrev pub holds : (List ℕ → Option Meaning) → Condition → Bool
holds means a = is_true (value_of means a)
