-- Each form is read of its own tokens.
use Rattle.std.proofs.Common.{◌≡◌, ℕ, Bool, false, List, [], ◌∷◌, refl, ap, ◌∙◌}
use Rattle.std.specs.Prelude.{Ok}
use Rattle.nx_ctree.specs.declared.sign.Sign.TheVariants as sign
use Rattle.nx_ctree.specs.declared.sign.Signed.{Signed}
use Rattle.nx_ctree.specs.declared.program.Base.{Base}
use Rattle.nx_ctree.specs.declared.program.Base.TheVariants as base
use Rattle.nx_ctree.specs.declared.expression.UnaryOperator.{UnaryOperator}
use Rattle.nx_ctree.specs.declared.expression.StepOperator.{StepOperator}
use Rattle.nx_ctree.specs.declared.expression.BinaryOperator.{BinaryOperator}
use Rattle.nx_ctree.specs.declared.expression.AssignOperator.{AssignOperator}
use Rattle.nx_ctree.specs.Expressions.{whole, IsBase, IntBase, CharBase, ConstCharBase, IsStar, Plain, Pointer}
use Rattle.nx_grammar.specs.Reading.{picked, dispatch, bind, loop}
use Rattle.nx_grammar.specs.Lawful.{Heads}
use Rattle.nx_cexpr.specs.declared.operand.Operand.{Operand}
use Rattle.nx_cexpr.specs.declared.operand.Lvalue.{Lvalue}
use Rattle.nx_cexpr.specs.declared.operand.Element.{Element}
use Rattle.nx_cexpr.specs.declared.operand.Arguments.{Arguments}
use Rattle.nx_cexpr.specs.Signs.{is_sign}
use Rattle.nx_cexpr.specs.Types.{const_rest, base_by, base_at, star_at}
use Rattle.nx_cexpr.specs.Operands
use Rattle.nx_cexpr.specs.Reading.{Below, next_rest, comma_pick, arguments_rest, paren_rest, element_rest, elements, indexed, step_pick, post_element, post, place_rest, place_call, deref_rest, unary_rest, address_rest, before_rest, cast_rest, group_rest, size_of_name_rest, size_of_type_rest, right_rest, conditional_rest, assign_rest}
use Rattle.nx_cexpr.proofs.SignLaws.{is_true}

-- ---- Base types and stars.

const_on : (u : Signed) (rest : List Signed) → u.sign ≡ sign.CharWord → const_rest (u ∷ rest) ≡ Ok (base.ConstChar, rest)
unfolding const_rest
const_on u rest e = rw (is_true sign.CharWord u e) refl

pub base_complete : {ts : List Signed} {b : Base} {rest : List Signed} → IsBase ts b rest → base_at ts ≡ Ok (b, rest)
base_complete (IntBase t rest e) = ap (λ s. picked (base_by s) t rest) e
base_complete (CharBase t rest e) = ap (λ s. picked (base_by s) t rest) e
base_complete (ConstCharBase t u rest e g) = ap (λ s. picked (base_by s) t (u ∷ rest)) e ∙ const_on u rest g

no_star : (rest : List Signed) → Heads (λ t. is_sign sign.Star t ≡ false) rest → star_at rest ≡ Ok (false, rest)
no_star [] h = absurd h
no_star (t ∷ ts) h = rw h refl

-- Before a token that is no "*".
pub star_complete : {ts : List Signed} {s : Bool} {rest : List Signed} → IsStar ts s rest → Heads (λ t. is_sign sign.Star t ≡ false) rest → star_at ts ≡ Ok (s, rest)
star_complete (Plain ts) h = no_star ts h
star_complete (Pointer t rest e) h = rw (is_true sign.Star t e) refl

module _ (low : Below) (fits : Bool) (d : ℕ) where
  -- ---- Calls and primary expressions.

  pub next_on : (xs : Arguments) (us : List Signed) (a : Operand) (rest : List Signed) → dispatch (low.level whole) us ≡ Ok (a, rest) → next_rest low xs us ≡ Ok (Operands.next_argument xs a, rest)
  unfolding next_rest
  next_on xs us a rest e = rw e refl

  pub arguments_on : (t c : Signed) (a : Operand) (us : List Signed) (xs : Arguments) (rest : List Signed) → loop (comma_pick low) (Operands.first_argument a) us ≡ Ok (xs, c ∷ rest) → c.sign ≡ sign.CloseParen → arguments_rest low t a us ≡ Ok (Operands.call t xs, rest)
  unfolding arguments_rest
  arguments_on t c a us xs rest e g = rw (e, is_true sign.CloseParen c g) refl

  pub paren_on : (t c : Signed) (us : List Signed) (a : Operand) (rest : List Signed) → dispatch (low.level whole) us ≡ Ok (a, c ∷ rest) → c.sign ≡ sign.CloseParen → paren_rest low t us ≡ Ok (Operands.paren t a, rest)
  unfolding paren_rest
  paren_on t c us a rest e g = rw (e, is_true sign.CloseParen c g) refl

  -- ---- Indexes.

  pub element_on : (a : Operand) (c : Signed) (us : List Signed) (i : Operand) (rest : List Signed) → dispatch (low.level whole) us ≡ Ok (i, c ∷ rest) → c.sign ≡ sign.CloseBracket → element_rest low a us ≡ Ok (Operands.element a i, rest)
  unfolding element_rest
  element_on a c us i rest e g = rw (e, is_true sign.CloseBracket c g) refl

  pub indexed_on : (a : Operand) (o : Signed) (us : List Signed) → o.sign ≡ sign.OpenBracket → indexed low fits d a (o ∷ us) ≡ bind (element_rest low a us) (elements low fits d)
  unfolding indexed
  indexed_on a o us e = rw (is_true sign.OpenBracket o e) refl

  pub post_element_on : (a : Operand) (us : List Signed) (x : Element) (rest : List Signed) → element_rest low a us ≡ Ok (x, rest) → post_element low fits d a us ≡ bind (elements low fits d x rest) (λ y. dispatch (step_pick d (Operands.element_operand y)))
  unfolding post_element
  post_element_on a us x rest e = rw e refl

  -- ---- What can be written to.

  pub place_rest_on : (a : Operand) (us : List Signed) (x : Element) (rest : List Signed) → indexed low fits d a us ≡ Ok (x, rest) → place_rest low fits d a us ≡ Ok (Operands.element_lvalue x, rest)
  unfolding place_rest
  place_rest_on a us x rest e = rw e refl

  pub place_call_on : (t : Signed) (us : List Signed) (a : Operand) (rest : List Signed) → low.call t us ≡ Ok (a, rest) → place_call low fits d t us ≡ place_rest low fits d a rest
  unfolding place_call
  place_call_on t us a rest e = rw e refl

  pub deref_on : (t : Signed) (us : List Signed) (a : Operand) (rest : List Signed) → dispatch (low.level 1) us ≡ Ok (a, rest) → deref_rest low t us ≡ Ok (Operands.deref_lvalue t a, rest)
  unfolding deref_rest
  deref_on t us a rest e = rw e refl

  -- ---- Operators before an operand.

  pub unary_on : (op : UnaryOperator) (t : Signed) (us : List Signed) (a : Operand) (rest : List Signed) → dispatch (low.level 1) us ≡ Ok (a, rest) → unary_rest low op t us ≡ Ok (Operands.unary_operand t op a, rest)
  unfolding unary_rest
  unary_on op t us a rest e = rw e refl

  pub address_on : (t : Signed) (us mid : List Signed) (a : Operand) (x : Element) (rest : List Signed) → dispatch (low.level 0) us ≡ Ok (a, mid) → indexed low fits d a mid ≡ Ok (x, rest) → address_rest low fits d t us ≡ Ok (Operands.address t x, rest)
  unfolding address_rest
  address_on t us mid a x rest e g = rw (e, g) refl

  pub before_on : (op : StepOperator) (t : Signed) (us : List Signed) (p : Lvalue) (rest : List Signed) → dispatch low.place us ≡ Ok (p, rest) → before_rest low op t us ≡ Ok (Operands.before t op p, rest)
  unfolding before_rest
  before_on op t us p rest e = rw e refl

  pub cast_on : (t c : Signed) (b : Base) (s : Bool) (us vs : List Signed) (a : Operand) (rest : List Signed) → star_at us ≡ Ok (s, c ∷ vs) → c.sign ≡ sign.CloseParen → dispatch (low.level 1) vs ≡ Ok (a, rest) → cast_rest low t b us ≡ Ok (Operands.cast t b s a, rest)
  unfolding cast_rest
  cast_on t c b s us vs a rest e g h = rw (e, is_true sign.CloseParen c g, h) refl

  pub group_on : (t c : Signed) (a : Operand) (rest : List Signed) → c.sign ≡ sign.CloseParen → group_rest low fits d t a (c ∷ rest) ≡ post low fits d (Operands.paren t a) rest
  unfolding group_rest
  group_on t c a rest e = rw (is_true sign.CloseParen c e) refl

  pub size_name_on : (t n c : Signed) (rest : List Signed) → c.sign ≡ sign.CloseParen → size_of_name_rest t n (c ∷ rest) ≡ Ok (Operands.size_of_name t n, rest)
  unfolding size_of_name_rest
  size_name_on t n c rest e = rw (is_true sign.CloseParen c e) refl

  pub size_type_on : (t c : Signed) (b : Base) (rest : List Signed) → c.sign ≡ sign.CloseParen → size_of_type_rest t b (c ∷ rest) ≡ Ok (Operands.size_of_type t b, rest)
  unfolding size_of_type_rest
  size_type_on t c b rest e = rw (is_true sign.CloseParen c e) refl

  -- ---- Operators between operands.

  pub right_on : (n : ℕ) (op : BinaryOperator) (a : Operand) (us : List Signed) (b : Operand) (rest : List Signed) → dispatch (low.level n) us ≡ Ok (b, rest) → right_rest low n op a us ≡ Ok (Operands.binary op a b, rest)
  unfolding right_rest
  right_on n op a us b rest e = rw e refl

  pub conditional_on : (a : Operand) (c : Signed) (us vs : List Signed) (b x : Operand) (rest : List Signed) → dispatch (low.level whole) us ≡ Ok (b, c ∷ vs) → c.sign ≡ sign.Colon → dispatch (low.level 12) vs ≡ Ok (x, rest) → conditional_rest low a us ≡ Ok (Operands.conditional a b x, rest)
  unfolding conditional_rest
  conditional_on a c us vs b x rest e g h = rw (e, is_true sign.Colon c g, h) refl

  pub assign_on : (op : AssignOperator) (p : Lvalue) (us : List Signed) (x : Operand) (rest : List Signed) → dispatch (low.level whole) us ≡ Ok (x, rest) → assign_rest low op p us ≡ Ok (Operands.assign op p x, rest)
  unfolding assign_rest
  assign_on op p us x rest e = rw e refl
