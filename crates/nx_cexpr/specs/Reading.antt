-- How expressions are read.
use Rattle.std.specs.Prelude.{ℕ, zero, suc, ◌==◌, ◌&&◌, nat_lt, Bool, true, false, if◌then◌else◌, Option, None, Some}
use Rattle.nx_grammar.specs.declared.kind.Kind.TheVariants.{Syntax, Limit}
use Rattle.nx_grammar.specs.Reading.{Reading, Pick, Refuse, Pass, Take, dispatch, seq, done, expect, then_pick, loop}
use Rattle.nx_ctree.specs.declared.sign.Sign.{Sign}
use Rattle.nx_ctree.specs.declared.sign.Sign.TheVariants as sign
use Rattle.nx_ctree.specs.declared.sign.Signed.{Signed}
use Rattle.nx_ctree.specs.declared.program.Base.{Base}
use Rattle.nx_ctree.specs.declared.expression.UnaryOperator.{UnaryOperator}
use Rattle.nx_ctree.specs.declared.expression.UnaryOperator.TheVariants as unary
use Rattle.nx_ctree.specs.declared.expression.StepOperator.{StepOperator}
use Rattle.nx_ctree.specs.declared.expression.StepOperator.TheVariants as step
use Rattle.nx_ctree.specs.declared.expression.BinaryOperator.{BinaryOperator}
use Rattle.nx_ctree.specs.declared.expression.AssignOperator.{AssignOperator}
use Rattle.nx_ctree.specs.Expressions.{step_of, binary_of, assign_of, written, whole}
use Rattle.nx_cexpr.specs.declared.operand.Tall.{Tall}
use Rattle.nx_cexpr.specs.declared.operand.Operand.{Operand}
use Rattle.nx_cexpr.specs.declared.operand.Lvalue.{Lvalue}
use Rattle.nx_cexpr.specs.declared.operand.Element.{Element}
use Rattle.nx_cexpr.specs.declared.operand.Arguments.{Arguments}
use Rattle.nx_cexpr.specs.Signs.{is_sign, is_prefix, operator_at, begins, begins_primary, full_fault}
use Rattle.nx_cexpr.specs.Types.{begins_base, base_pick, star_at}
use Rattle.nx_cexpr.specs.Operands

-- What can be read one node further down: an expression of a level, where level 0 is a primary one;
-- what can be written to; and what stands after a called name and its "(".
pub record Below : Type 0 where
  pub level : ℕ → Signed → Pick Signed Operand
  pub place : Signed → Pick Signed Lvalue
  pub call : Signed → Reading Signed Operand

-- Below: what can be read one node further down. Fits: whether there is a node further down. D: how many nodes a path may have here.

-- ---- Primary expressions and calls.

-- A comma takes one argument more.
unfoldable pub next_rest : Below → Arguments → Reading Signed Arguments
next_rest low xs = seq (dispatch (low.level whole)) (λ a. done (Operands.next_argument xs a))

abbrev pub comma_pick : Below → Arguments → Signed → Pick Signed Arguments
comma_pick low xs t = if is_sign sign.Comma t then Take (next_rest low xs) else Pass xs

-- What stands after a first argument.
unfoldable pub arguments_rest : Below → Signed → Operand → Reading Signed Operand
arguments_rest low t a = seq (loop (comma_pick low) (Operands.first_argument a)) (λ xs. seq (expect (is_sign sign.CloseParen)) (λ c. done (Operands.call t xs)))

-- What stands after a called name and its "(".
abbrev pub call_pick : Below → Bool → Signed → Signed → Pick Signed Operand
call_pick low fits t u =
    if is_sign sign.CloseParen u then Take (done (Operands.call t Operands.no_arguments))
    else if fits then then_pick (low.level whole u) (arguments_rest low t)
    else Refuse (full_fault (begins u.sign))

unfoldable pub call_rest : Below → Bool → Signed → Reading Signed Operand
call_rest low fits t = dispatch (call_pick low fits t)

-- What stands after a name: a "(" makes it a call.
abbrev pub name_pick : Below → Bool → Signed → Signed → Pick Signed Operand
name_pick low fits t u = if is_sign sign.OpenParen u then Take (call_rest low fits t) else Pass (Operands.name t)

unfoldable pub name_rest : Below → Bool → Signed → Reading Signed Operand
name_rest low fits t = dispatch (name_pick low fits t)

-- What stands after a "(".
unfoldable pub paren_rest : Below → Signed → Reading Signed Operand
paren_rest low t = seq (dispatch (low.level whole)) (λ a. seq (expect (is_sign sign.CloseParen)) (λ c. done (Operands.paren t a)))

abbrev pub primary_pick : Below → Bool → Signed → Sign → Pick Signed Operand
primary_pick low fits t sign.Name = Take (name_rest low fits t)
primary_pick low fits t sign.Number = Take (done (Operands.number t))
primary_pick low fits t sign.Char = Take (done (Operands.character t))
primary_pick low fits t sign.Text = Take (done (Operands.text t))
primary_pick low fits t sign.OpenParen = if fits then Take (paren_rest low t) else Refuse Limit
primary_pick low fits t _ = Refuse Syntax

-- ---- Indexes, and "++" and "--" after them.

-- What stands after a "[".
unfoldable pub element_rest : Below → Operand → Reading Signed Element
element_rest low a = seq (dispatch (low.level whole)) (λ i. seq (expect (is_sign sign.CloseBracket)) (λ c. done (Operands.element a i)))

-- An index more, where what stands before it may go down by a node.
abbrev pub element_pick : Below → Bool → ℕ → Element → Signed → Pick Signed Element
element_pick low fits d e t =
    if is_sign sign.OpenBracket t then (if fits && nat_lt e.height d then Take (element_rest low (Operands.element_operand e)) else Refuse Limit)
    else Pass e

abbrev pub elements : Below → Bool → ℕ → Element → Reading Signed Element
elements low fits d = loop (element_pick low fits d)

-- One index or more.
unfoldable pub indexed : Below → Bool → ℕ → Operand → Reading Signed Element
indexed low fits d a = seq (expect (is_sign sign.OpenBracket)) (λ o. seq (element_rest low a) (elements low fits d))

-- "++" or "--" after what can be written to.
abbrev pub step_by : ℕ → Operand → Option StepOperator → Option Lvalue → Pick Signed Operand
step_by d a None p = Pass a
step_by d a (Some op) None = Refuse Syntax
step_by d a (Some op) (Some p) = if nat_lt p.height d then Take (done (Operands.after op p)) else Refuse Limit

abbrev pub step_pick : ℕ → Operand → Signed → Pick Signed Operand
step_pick d a t = step_by d a (step_of t.sign) (Operands.post_lvalue a)

-- Indexes, and then "++" or "--".
unfoldable pub post_element : Below → Bool → ℕ → Operand → Reading Signed Operand
post_element low fits d a = seq (element_rest low a) (λ e. seq (elements low fits d e) (λ f. dispatch (step_pick d (Operands.element_operand f))))

abbrev pub post_pick : Below → Bool → ℕ → Operand → Signed → Pick Signed Operand
post_pick low fits d a t =
    if is_sign sign.OpenBracket t then (if fits && nat_lt a.height d then Take (post_element low fits d a) else Refuse Limit)
    else step_pick d a t

-- What stands after a primary expression.
abbrev pub post : Below → Bool → ℕ → Operand → Reading Signed Operand
post low fits d a = dispatch (post_pick low fits d a)

-- ---- What can be written to.

-- An index of a primary expression as what is written to.
unfoldable pub place_rest : Below → Bool → ℕ → Operand → Reading Signed Lvalue
place_rest low fits d a = seq (indexed low fits d a) (λ e. done (Operands.element_lvalue e))

unfoldable pub place_element : Below → Bool → ℕ → Operand → Reading Signed Lvalue
place_element low fits d a = seq (element_rest low a) (λ e. seq (elements low fits d e) (λ f. done (Operands.element_lvalue f)))

unfoldable pub place_call : Below → Bool → ℕ → Signed → Reading Signed Lvalue
place_call low fits d t = seq (low.call t) (place_rest low fits d)

-- What stands after a name that is written to: an index, a call that is indexed, or nothing.
abbrev pub place_name_pick : Below → Bool → ℕ → Signed → Signed → Pick Signed Lvalue
place_name_pick low fits d t u =
    if is_sign sign.OpenBracket u then (if fits then Take (place_element low fits d (Operands.name t)) else Refuse Limit)
    else if is_sign sign.OpenParen u then (if fits then Take (place_call low fits d t) else Refuse Limit)
    else Pass (Operands.name_lvalue t)

unfoldable pub place_name : Below → Bool → ℕ → Signed → Reading Signed Lvalue
place_name low fits d t = dispatch (place_name_pick low fits d t)

unfoldable pub deref_rest : Below → Signed → Reading Signed Lvalue
deref_rest low t = seq (dispatch (low.level 1)) (λ a. done (Operands.deref_lvalue t a))

abbrev pub place_pick : Below → Bool → ℕ → Signed → Pick Signed Lvalue
place_pick low fits d t =
    if is_sign sign.Name t then Take (place_name low fits d t)
    else if is_sign sign.Star t then (if fits then Take (deref_rest low t) else Refuse Limit)
    else if fits then then_pick (low.level 0 t) (place_rest low fits d)
    else Refuse (full_fault (begins_primary t.sign))

-- ---- Operators before an operand.

unfoldable pub unary_rest : Below → UnaryOperator → Signed → Reading Signed Operand
unary_rest low op t = seq (dispatch (low.level 1)) (λ a. done (Operands.unary_operand t op a))

unfoldable pub address_rest : Below → Bool → ℕ → Signed → Reading Signed Operand
address_rest low fits d t = seq (dispatch (low.level 0)) (λ a. seq (indexed low fits d a) (λ e. done (Operands.address t e)))

unfoldable pub before_rest : Below → StepOperator → Signed → Reading Signed Operand
before_rest low op t = seq (dispatch low.place) (λ p. done (Operands.before t op p))

-- What stands after the base type of a cast.
unfoldable pub cast_rest : Below → Signed → Base → Reading Signed Operand
cast_rest low t b = seq star_at (λ s. seq (expect (is_sign sign.CloseParen)) (λ c. seq (dispatch (low.level 1)) (λ a. done (Operands.cast t b s a))))

-- What stands after an expression in parentheses.
unfoldable pub group_rest : Below → Bool → ℕ → Signed → Operand → Reading Signed Operand
group_rest low fits d t a = seq (expect (is_sign sign.CloseParen)) (λ c. post low fits d (Operands.paren t a))

-- What stands after a "(" that begins a cast or a primary expression.
abbrev pub group_pick : Below → Bool → ℕ → Signed → Signed → Pick Signed Operand
group_pick low fits d t u = if begins_base u.sign then then_pick (base_pick u) (cast_rest low t) else then_pick (low.level whole u) (group_rest low fits d t)

unfoldable pub group : Below → Bool → ℕ → Signed → Reading Signed Operand
group low fits d t = dispatch (group_pick low fits d t)

unfoldable pub size_of_name_rest : Signed → Signed → Reading Signed Operand
size_of_name_rest t n = seq (expect (is_sign sign.CloseParen)) (λ c. done (Operands.size_of_name t n))

unfoldable pub size_of_type_rest : Signed → Base → Reading Signed Operand
size_of_type_rest t b = seq (expect (is_sign sign.CloseParen)) (λ c. done (Operands.size_of_type t b))

abbrev pub size_of_pick : Signed → Signed → Pick Signed Operand
size_of_pick t u = if is_sign sign.Name u then Take (size_of_name_rest t u) else then_pick (base_pick u) (size_of_type_rest t)

unfoldable pub size_of_rest : Signed → Reading Signed Operand
size_of_rest t = seq (expect (is_sign sign.OpenParen)) (λ o. dispatch (size_of_pick t))

-- What a sign before an operand begins.
abbrev pub prefix_pick : Below → Bool → ℕ → Signed → Sign → Pick Signed Operand
prefix_pick low fits d t sign.Minus = if fits then Take (unary_rest low unary.Minus t) else Refuse Limit
prefix_pick low fits d t sign.Not = if fits then Take (unary_rest low unary.Not t) else Refuse Limit
prefix_pick low fits d t sign.Complement = if fits then Take (unary_rest low unary.Complement t) else Refuse Limit
prefix_pick low fits d t sign.Star = if fits then Take (unary_rest low unary.Deref t) else Refuse Limit
prefix_pick low fits d t sign.BitAnd = if fits then Take (address_rest low fits d t) else Refuse Limit
prefix_pick low fits d t sign.Increment = if fits then Take (before_rest low step.Increment t) else Refuse Limit
prefix_pick low fits d t sign.Decrement = if fits then Take (before_rest low step.Decrement t) else Refuse Limit
prefix_pick low fits d t sign.SizeOf = Take (size_of_rest t)
prefix_pick low fits d t sign.OpenParen = if fits then Take (group low fits d t) else Refuse Limit
prefix_pick low fits d t _ = Refuse Syntax

abbrev pub unary_pick : Below → Bool → ℕ → Signed → Pick Signed Operand
unary_pick low fits d t =
    if is_prefix t.sign then prefix_pick low fits d t t.sign
    else then_pick (primary_pick low fits t t.sign) (post low fits d)

-- ---- Operators between operands.

-- The right side of an operator of the level above n.
unfoldable pub right_rest : Below → ℕ → BinaryOperator → Operand → Reading Signed Operand
right_rest low n op a = seq (dispatch (low.level n)) (λ b. done (Operands.binary op a b))

abbrev pub operator_by : Below → Bool → ℕ → ℕ → Operand → Option BinaryOperator → Pick Signed Operand
operator_by low fits d n a None = Pass a
operator_by low fits d n a (Some op) = if fits && nat_lt a.height d then Take (right_rest low n op a) else Refuse Limit

abbrev pub operator_pick : Below → Bool → ℕ → ℕ → Operand → Signed → Pick Signed Operand
operator_pick low fits d n a t = operator_by low fits d n a (operator_at (suc n) (binary_of t.sign))

unfoldable pub conditional_rest : Below → Operand → Reading Signed Operand
conditional_rest low a = seq (dispatch (low.level whole)) (λ b. seq (expect (is_sign sign.Colon)) (λ c. seq (dispatch (low.level 12)) (λ e. done (Operands.conditional a b e))))

abbrev pub conditional_pick : Below → Bool → ℕ → Operand → Signed → Pick Signed Operand
conditional_pick low fits d a t =
    if is_sign sign.Question t then (if fits && nat_lt a.height d then Take (conditional_rest low a) else Refuse Limit)
    else Pass a

unfoldable pub assign_rest : Below → AssignOperator → Lvalue → Reading Signed Operand
assign_rest low op p = seq (dispatch (low.level whole)) (λ e. done (Operands.assign op p e))

-- An assignment's sign after what can't be written to is a fault of syntax.
abbrev pub assign_by : Below → Bool → ℕ → Operand → Option AssignOperator → Option Lvalue → Pick Signed Operand
assign_by low fits d a None p = Pass a
assign_by low fits d a (Some op) None = Refuse Syntax
assign_by low fits d a (Some op) (Some p) = if fits && nat_lt (written op (Operands.place_kind p.target) p.height) d then Take (assign_rest low op p) else Refuse Limit

abbrev pub assign_pick : Below → Bool → ℕ → Operand → Signed → Pick Signed Operand
assign_pick low fits d a t = assign_by low fits d a (assign_of t.sign) (Operands.lvalue_of a)

-- ---- Levels.

-- What makes an expression of level n one of the next level.
unfoldable pub level_rest : Below → Bool → ℕ → ℕ → Operand → Reading Signed Operand
level_rest low fits d n a =
    if n == 11 then dispatch (conditional_pick low fits d a)
    else if n == 12 then dispatch (assign_pick low fits d a)
    else loop (operator_pick low fits d n) a

-- All levels, by one number.
unfoldable pub level_pick : Below → Bool → ℕ → ℕ → Signed → Pick Signed Operand
level_pick low fits d zero t = primary_pick low fits t t.sign
level_pick low fits d (suc zero) t = unary_pick low fits d t
level_pick low fits d (suc (suc n)) t = then_pick (level_pick low fits d (suc n) t) (level_rest low fits d (suc n))

abbrev pub has_node : ℕ → Bool
has_node zero = false
has_node (suc d) = true

-- What can be read with at most so many nodes on a path.
unfoldable pub within : ℕ → Below
within zero = record {
  level = λ n t. Refuse (full_fault (begins t.sign));
  place = λ t. Refuse Limit;
  call = λ t. dispatch (λ u. Refuse Limit);
}
within (suc d) = record {
  level = λ n t. level_pick (within d) (has_node d) (suc d) n t;
  place = λ t. place_pick (within d) (has_node d) (suc d) t;
  call = λ t. call_rest (within d) (has_node d) t;
}

abbrev pub level_at : ℕ → ℕ → Reading Signed Operand
level_at d n = dispatch ((within d).level n)

-- A whole expression with at most d nodes on a path: what its first token does, and how it is read.
abbrev pub expr_pick : ℕ → Signed → Pick Signed Tall
expr_pick d t = then_pick ((within d).level whole t) (λ a. done (Operands.tall a))

abbrev pub expr_at : ℕ → Reading Signed Tall
expr_at d = dispatch (expr_pick d)
