-- What is accepted is well typed.
use Rattle.std.proofs.Common.{◌≡◌, ℕ, Bool, true, false, List, [], ◌∷◌, map, None, Some, refl, sym, ap, ◌∙◌, subst}
use Rattle.std.specs.Prelude.{Option, Result, Ok, Err, is_some, if◌then◌else◌}
use Rattle.std.specs.Map.{lookup}
use Rattle.std.specs.Str.{bytes_eq}
use Rattle.nx_calls.specs.declared.row.CallRow.{CallRow}
use Rattle.nx_ctok.specs.declared.fault.CKind.{CKind}
use Rattle.nx_ctree.specs.declared.program.Base.{Base}
use Rattle.nx_ctree.specs.declared.program.Base.TheVariants as base
use Rattle.nx_ctree.specs.declared.expression.UnaryOperator.{UnaryOperator}
use Rattle.nx_ctree.specs.declared.expression.UnaryOperator.TheVariants as unary
use Rattle.nx_ctree.specs.declared.expression.StepOperator.{StepOperator}
use Rattle.nx_ctree.specs.declared.expression.BinaryOperator.{BinaryOperator}
use Rattle.nx_ctree.specs.declared.expression.AssignOperator.{AssignOperator}
use Rattle.nx_ctree.specs.declared.expression.AssignOperator.TheVariants as assign
use Rattle.nx_checked.specs.declared.checked.Cell.{Cell}
use Rattle.nx_checked.specs.declared.checked.Element.{Element}
use Rattle.nx_checked.specs.declared.checked.IntOperator.{IntOperator}
use Rattle.nx_checked.specs.declared.checked.IntOperator.TheVariants as operator
use Rattle.nx_checked.specs.declared.checked.StepValue.{StepValue}
use Rattle.nx_checked.specs.declared.checked.CheckedExpr.{CheckedExpr}
use Rattle.nx_checked.specs.declared.checked.CheckedExpr.TheVariants as expr
use Rattle.nx_checked.specs.declared.checked.CheckedPlace.{CheckedPlace}
use Rattle.nx_crules.specs.declared.types.CType.{CType}
use Rattle.nx_crules.specs.declared.types.CType.TheVariants as type
use Rattle.nx_crules.specs.declared.types.Held.{Held}
use Rattle.nx_crules.specs.declared.types.Function.{Function}
use Rattle.nx_crules.specs.declared.types.Typed.{Typed}
use Rattle.nx_crules.specs.declared.types.Target.{Target}
use Rattle.nx_crules.specs.declared.types.Target.TheVariants as target
use Rattle.nx_crules.specs.Types.{type_of, takes}
use Rattle.nx_crules.specs.Answers.{at}
use Rattle.nx_crules.specs.Rules.{wrong, typed, valued, moved, moved_by, direction, numbers, are_one_type, binary_typed, conditional_typed, choice, pointed, index_typed, address_typed, index_target, deref_target, unary_typed, cast_typed, compound_of, compounds_number, cell_assign, element_assign, fits_params, returned, fits_row, row_rule, file_rule, starts_thread, paren_rule, unary_rule, binary_rule, conditional_rule, index_rule, address_rule, cast_rule, index_place, deref_place, assign_rule, step_rule}
use Rattle.nx_ctype.specs.declared.names.Names.{Names}
use Rattle.nx_ctype.specs.declared.names.Variable.{Variable}
use Rattle.nx_ctype.specs.declared.names.Variable.TheVariants as variable
use Rattle.nx_ctype.specs.declared.used.Used.{Used}
use Rattle.nx_ctype.specs.Lookups.{variable_of, value_of, target_of, found as found_by, missing, number, bytes_in, entry_named, enter}
use Rattle.nx_ctyping.specs.Trees as tree
use Rattle.nx_ctyping.specs.Trees.{Expr, Place, Args}
use Rattle.nx_ctyping.specs.Checks.{◌>>=◌, Check, leaf}
use Rattle.nx_ctyping.specs.Verdicts.{verdict, place_verdict, arguments_verdict, argument_check, call_check, called, row_called, starts, starts_by, row_at, with_call, function_named, place_named, base_bytes}
use Rattle.nx_ctyping.specs.HasTypes
use Rattle.nx_ctyping.specs.HasTypes.{HasType, HasPlace, HaveTypes, int, pointer, of_type, has_values, is_entry, is_name}
use Rattle.nx_ctyping.proofs.Binds.{found, given, carry, carry_given, bind_back, one_back, two_back, three_back, before_back, cons, not_found, not_given}

abbrev is_array : Target → Bool
is_array target.Array = true
is_array _ = false

module _ (names : Names) (rows : List CallRow) where
  -- Names.
  name_by : (line : ℕ) (name : List ℕ) (s t : Used) (x : Typed) (v : Option Variable) → variable_of names name ≡ v → leaf (at line (found_by value_of (missing names name) v)) s ≡ found x t → HasType names rows (tree.Name line name) s x t
  name_by line name s t x None e h = absurd cc
  name_by line name s t x (Some (variable.Scalar y k)) e h = carry (λ x t. HasType names rows (tree.Name line name) s x t) _ x s t h (HasTypes.Scalar line name y k s e)
  name_by line name s t x (Some (variable.Array a z)) e h = carry (λ x t. HasType names rows (tree.Name line name) s x t) _ x s t h (HasTypes.Array line name a z s e)

  size_by : (line : ℕ) (name : List ℕ) (s t : Used) (x : Typed) (v : Option Variable) → variable_of names name ≡ v → leaf (at line (found_by (λ v. number (bytes_in v)) (missing names name) v)) s ≡ found x t → HasType names rows (tree.SizeOfName line name) s x t
  size_by line name s t x None e h = absurd cc
  size_by line name s t x (Some v) e h = carry (λ x t. HasType names rows (tree.SizeOfName line name) s x t) _ x s t h (HasTypes.SizeOfName line name v s e)

  place_by : (line : ℕ) (name : List ℕ) (s t : Used) (x : Target) (v : Option Variable) → variable_of names name ≡ v → leaf (at line (found_by target_of (missing names name) v)) s ≡ found x t → is_array x ≡ false → HasPlace names rows (tree.Named line name) s x t
  place_by line name s t x None e h n = absurd cc
  place_by line name s t x (Some (variable.Scalar y k)) e h n = carry (λ x t. HasPlace names rows (tree.Named line name) s x t) _ x s t h (HasTypes.NamePlace line name y k s e)
  place_by line name s t x (Some (variable.Array a z)) e h n = absurd (carry (λ x t. is_array x ≡ false → ⊥) _ x s t h (λ n. cc) n)

  -- Operators, by the types of their operands.
  paren_by : (line : ℕ) (a : Expr) (s t : Used) (g : CType) (p : CheckedExpr) (z : Typed) → valued g (of_type g p) ≡ given z → HasType names rows a s (of_type g p) t → HasType names rows (tree.Paren line a) s z t
  paren_by line a s t type.Void p z e h = absurd cc
  paren_by line a s t type.Int p z e h = carry_given (λ z. HasType names rows (tree.Paren line a) s z t) _ z e (HasTypes.Paren line a s t _ h refl)
  paren_by line a s t type.Entry p z e h = carry_given (λ z. HasType names rows (tree.Paren line a) s z t) _ z e (HasTypes.Paren line a s t _ h refl)
  paren_by line a s t (type.Pointer w c) p z e h = carry_given (λ z. HasType names rows (tree.Paren line a) s z t) _ z e (HasTypes.Paren line a s t _ h refl)

  index_by : (line : ℕ) (a i : Expr) (s t u : Used) (g k : CType) (p n : CheckedExpr) (z : Typed) → index_typed (pointed g k) p n ≡ given z → HasType names rows a s (of_type g p) t → HasType names rows i t (of_type k n) u → HasType names rows (tree.Index line a i) s z u
  index_by line a i s t u (type.Pointer w c) type.Int p n z e x y = carry_given (λ z. HasType names rows (tree.Index line a i) s z u) _ z e (HasTypes.Index line a i s t u w c p n x y)
  index_by line a i s t u _ _ p n z e x y = absurd cc

  address_by : (line : ℕ) (a i : Expr) (s t u : Used) (g k : CType) (p n : CheckedExpr) (z : Typed) → address_typed (pointed g k) p n ≡ given z → HasType names rows a s (of_type g p) t → HasType names rows i t (of_type k n) u → HasType names rows (tree.AddressOf line a i) s z u
  address_by line a i s t u (type.Pointer w c) type.Int p n z e x y = carry_given (λ z. HasType names rows (tree.AddressOf line a i) s z u) _ z e (HasTypes.AddressOf line a i s t u w c p n x y)
  address_by line a i s t u _ _ p n z e x y = absurd cc

  element_by : (line : ℕ) (a i : Expr) (s t u : Used) (g k : CType) (p n : CheckedExpr) (z : Target) → index_target (pointed g k) p n ≡ given z → HasType names rows a s (of_type g p) t → HasType names rows i t (of_type k n) u → HasPlace names rows (tree.Element line a i) s z u
  element_by line a i s t u (type.Pointer w c) type.Int p n z e x y = carry_given (λ z. HasPlace names rows (tree.Element line a i) s z u) _ z e (HasTypes.IndexPlace line a i s t u w c p n x y)
  element_by line a i s t u _ _ p n z e x y = absurd cc

  pointed_by : (line : ℕ) (a : Expr) (s t : Used) (g : CType) (p : CheckedExpr) (z : Target) → deref_target g p ≡ given z → HasType names rows a s (of_type g p) t → HasPlace names rows (tree.Pointed line a) s z t
  pointed_by line a s t (type.Pointer w c) p z e x = carry_given (λ z. HasPlace names rows (tree.Pointed line a) s z t) _ z e (HasTypes.DerefPlace line a s t w c p x)
  pointed_by line a s t _ p z e x = absurd cc

  unary_by : (line : ℕ) (op : UnaryOperator) (a : Expr) (s t : Used) (g : CType) (p : CheckedExpr) (z : Typed) → unary_typed op g p ≡ given z → HasType names rows a s (of_type g p) t → HasType names rows (tree.Unary line op a) s z t
  unary_by line unary.Minus a s t type.Int p z e h = carry_given (λ z. HasType names rows (tree.Unary line unary.Minus a) s z t) _ z e (HasTypes.Minus line a s t p h)
  unary_by line unary.Not a s t type.Int p z e h = carry_given (λ z. HasType names rows (tree.Unary line unary.Not a) s z t) _ z e (HasTypes.Not line a s t p h)
  unary_by line unary.Complement a s t type.Int p z e h = carry_given (λ z. HasType names rows (tree.Unary line unary.Complement a) s z t) _ z e (HasTypes.Complement line a s t p h)
  unary_by line unary.Deref a s t (type.Pointer w c) p z e h = carry_given (λ z. HasType names rows (tree.Unary line unary.Deref a) s z t) _ z e (HasTypes.Deref line a s t w c p h)
  unary_by line _ a s t _ p z e h = absurd cc

  cast_by : (line : ℕ) (b : Base) (star : Bool) (a : Expr) (s t : Used) (g : CType) (p : CheckedExpr) (z : Typed) → cast_typed b star g p ≡ given z → HasType names rows a s (of_type g p) t → HasType names rows (tree.Cast line b star a) s z t
  cast_by line b true a s t type.Int p z e h = carry_given (λ z. HasType names rows (tree.Cast line b true a) s z t) _ z e (HasTypes.CastToPointer line b a s t p h)
  cast_by line base.Int false a s t type.Int p z e h = carry_given (λ z. HasType names rows (tree.Cast line base.Int false a) s z t) _ z e (HasTypes.CastToInt line a s t p h)
  cast_by line base.Char false a s t type.Int p z e h = carry_given (λ z. HasType names rows (tree.Cast line base.Char false a) s z t) _ z e (HasTypes.CastToChar line a s t p h)
  cast_by line base.ConstChar false a s t type.Int p z e h = absurd cc
  cast_by line _ _ a s t _ p z e h = absurd cc

  up_by : (line : ℕ) (op : BinaryOperator) (a b : Expr) (s t u : Used) (w : Element) (c : Bool) (d : Option Bool) (p n : CheckedExpr) (z : Typed) → direction op ≡ d → moved d w c p n ≡ given z → HasType names rows a s (pointer w c p) t → HasType names rows b t (int n) u → HasType names rows (tree.Binary line op a b) s z u
  up_by line op a b s t u w c (Some true) p n z d e x y = carry_given (λ z. HasType names rows (tree.Binary line op a b) s z u) _ z e (HasTypes.Advance line op a b s t u w c p n d x y)
  up_by line op a b s t u w c (Some false) p n z d e x y = carry_given (λ z. HasType names rows (tree.Binary line op a b) s z u) _ z e (HasTypes.Retreat line op a b s t u w c p n d x y)
  up_by line op a b s t u w c None p n z d e x y = absurd cc

  by_up : (line : ℕ) (op : BinaryOperator) (a b : Expr) (s t u : Used) (w : Element) (c : Bool) (d : Option Bool) (n p : CheckedExpr) (z : Typed) → direction op ≡ d → moved_by d w c n p ≡ given z → HasType names rows a s (int n) t → HasType names rows b t (pointer w c p) u → HasType names rows (tree.Binary line op a b) s z u
  by_up line op a b s t u w c (Some true) n p z d e x y = carry_given (λ z. HasType names rows (tree.Binary line op a b) s z u) _ z e (HasTypes.AdvanceBy line op a b s t u w c n p d x y)
  by_up line op a b s t u w c (Some false) n p z d e x y = absurd cc
  by_up line op a b s t u w c None n p z d e x y = absurd cc

  binary_by : (line : ℕ) (op : BinaryOperator) (a b : Expr) (s t u : Used) (g k : CType) (p n : CheckedExpr) (z : Typed) → binary_typed op g k p n ≡ given z → HasType names rows a s (of_type g p) t → HasType names rows b t (of_type k n) u → HasType names rows (tree.Binary line op a b) s z u
  binary_by line op a b s t u type.Int type.Int p n z e x y = carry_given (λ z. HasType names rows (tree.Binary line op a b) s z u) _ z e (HasTypes.Binary line op a b s t u p n x y)
  binary_by line op a b s t u type.Int (type.Pointer w c) p n z e x y = by_up line op a b s t u w c (direction op) p n z refl e x y
  binary_by line op a b s t u (type.Pointer w c) type.Int p n z e x y = up_by line op a b s t u w c (direction op) p n z refl e x y
  binary_by line op a b s t u _ _ p n z e x y = absurd cc

  choice_by : (line : ℕ) (c a b : Expr) (s t u v : Used) (n : CheckedExpr) (x y : Typed) (q : Bool) (z : Typed) → are_one_type x.gives y.gives ≡ q → conditional_typed (if q then Some x.gives else None) n x.tree y.tree ≡ given z →
      HasType names rows c s (int n) t → HasType names rows a t x u → HasType names rows b u y v → HasType names rows (tree.Conditional line c a b) s z v
  choice_by line c a b s t u v n x y true z o e h g k = carry_given (λ z. HasType names rows (tree.Conditional line c a b) s z v) _ z e (HasTypes.Conditional line c a b s t u v n x y h g k o)
  choice_by line c a b s t u v n x y false z o e h g k = absurd cc

  conditional_by : (line : ℕ) (c a b : Expr) (s t u v : Used) (f : CType) (n : CheckedExpr) (x y z : Typed) → conditional_typed (choice f x.gives y.gives) n x.tree y.tree ≡ given z →
      HasType names rows c s (of_type f n) t → HasType names rows a t x u → HasType names rows b u y v → HasType names rows (tree.Conditional line c a b) s z v
  conditional_by line c a b s t u v type.Int n x y z e h g k = choice_by line c a b s t u v n x y (are_one_type x.gives y.gives) z refl e h g k
  conditional_by line c a b s t u v _ n x y z e h g k = absurd cc

  step_by : (line : ℕ) (v : StepValue) (op : StepOperator) (p : Place) (s t : Used) (x : Target) (z : Typed) → step_rule v op x ≡ given z → (is_array x ≡ false → HasPlace names rows p s x t) → HasType names rows (tree.Step line v op p) s z t
  step_by line v op p s t (target.Cell x h) z e k = carry_given (λ z. HasType names rows (tree.Step line v op p) s z t) _ z e (HasTypes.StepCell line v op p s t x h (k refl))
  step_by line v op p s t (target.Element w false q) z e k = carry_given (λ z. HasType names rows (tree.Step line v op p) s z t) _ z e (HasTypes.StepElement line v op p s t w q (k refl))
  step_by line v op p s t (target.Element w true q) z e k = absurd cc
  step_by line v op p s t target.Array z e k = absurd cc

  -- Assignments.
  set_by : (line : ℕ) (p : Place) (e : Expr) (s t u : Used) (x : Cell) (h : Held) (y : Typed) (q : Bool) (z : Typed) → takes (type_of h) y.gives ≡ q → (if q then typed (type_of h) (expr.Assign h.scalar x y.tree) else wrong) ≡ given z →
      HasPlace names rows p s (target.Cell x h) t → HasType names rows e t y u → HasType names rows (tree.Assign line assign.Set p e) s z u
  set_by line p e s t u x h y true z o d k l = carry_given (λ z. HasType names rows (tree.Assign line assign.Set p e) s z u) _ z d (HasTypes.Assign line p e s t u x h y k l o)
  set_by line p e s t u x h y false z o d k l = absurd cc

  set_element_by : (line : ℕ) (p : Place) (e : Expr) (s t u : Used) (w : Element) (r : CheckedPlace) (g : CType) (n : CheckedExpr) (z : Typed) → element_assign None w r g n ≡ given z →
      HasPlace names rows p s (target.Element w false r) t → HasType names rows e t (of_type g n) u → HasType names rows (tree.Assign line assign.Set p e) s z u
  set_element_by line p e s t u w r type.Int n z d k l = carry_given (λ z. HasType names rows (tree.Assign line assign.Set p e) s z u) _ z d (HasTypes.AssignElement line p e s t u w r n k l)
  set_element_by line p e s t u w r _ n z d k l = absurd cc

  compound_by : (line : ℕ) (op : AssignOperator) (o : IntOperator) (p : Place) (e : Expr) (s t u : Used) (x : Cell) (h : Held) (n : CheckedExpr) (q : Bool) (z : Typed) → compound_of op ≡ Some o → compounds_number o h.scalar ≡ q →
      (if q then typed (type_of h) (expr.Compound o h.scalar x n) else wrong) ≡ given z → HasPlace names rows p s (target.Cell x h) t → HasType names rows e t (int n) u → HasType names rows (tree.Assign line op p e) s z u
  compound_by line op o p e s t u x h n true z c f d k l = carry_given (λ z. HasType names rows (tree.Assign line op p e) s z u) _ z d (HasTypes.Compound line op o p e s t u x h n c k l f)
  compound_by line op o p e s t u x h n false z c f d k l = absurd cc

  -- Another assignment than "=", whose operator is known.
  raise_by : (line : ℕ) (op : AssignOperator) (o : IntOperator) (p : Place) (e : Expr) (s t u : Used) (x : Target) (g : CType) (n : CheckedExpr) (z : Typed) → compound_of op ≡ Some o → assign_rule op x (of_type g n) ≡ given z →
      (is_array x ≡ false → HasPlace names rows p s x t) → HasType names rows e t (of_type g n) u → HasType names rows (tree.Assign line op p e) s z u
  raise_by line op o p e s t u (target.Cell x h) type.Int n z c d k l =
      compound_by line op o p e s t u x h n (compounds_number o h.scalar) z c refl (sym (ap (λ q. cell_assign q x h (int n)) c) ∙ d) (k refl) l
  raise_by line op o p e s t u (target.Element w false r) type.Int n z c d k l =
      carry_given (λ z. HasType names rows (tree.Assign line op p e) s z u) _ z (sym (ap (λ q. element_assign q w r type.Int n) c) ∙ d) (HasTypes.CompoundElement line op o p e s t u w r n c (k refl) l)
  raise_by line op o p e s t u (target.Cell x h) type.Void n z c d k l = absurd (not_given _ z (sym (ap (λ q. cell_assign q x h (of_type type.Void n)) c) ∙ d))
  raise_by line op o p e s t u (target.Cell x h) type.Entry n z c d k l = absurd (not_given _ z (sym (ap (λ q. cell_assign q x h (of_type type.Entry n)) c) ∙ d))
  raise_by line op o p e s t u (target.Cell x h) (type.Pointer w b) n z c d k l = absurd (not_given _ z (sym (ap (λ q. cell_assign q x h (pointer w b n)) c) ∙ d))
  raise_by line op o p e s t u _ _ n z c d k l = absurd cc

  assign_by : (line : ℕ) (op : AssignOperator) (p : Place) (e : Expr) (s t u : Used) (x : Target) (g : CType) (n : CheckedExpr) (z : Typed) → assign_rule op x (of_type g n) ≡ given z →
      (is_array x ≡ false → HasPlace names rows p s x t) → HasType names rows e t (of_type g n) u → HasType names rows (tree.Assign line op p e) s z u
  assign_by line assign.Set p e s t u (target.Cell x h) g n z d k l = set_by line p e s t u x h (of_type g n) (takes (type_of h) g) z refl d (k refl) l
  assign_by line assign.Set p e s t u (target.Element w false r) g n z d k l = set_element_by line p e s t u w r g n z d (k refl) l
  assign_by line assign.Set p e s t u (target.Element w true r) g n z d k l = absurd cc
  assign_by line assign.Set p e s t u target.Array g n z d k l = absurd cc
  assign_by line assign.Add p e s t u x g n z d k l = raise_by line assign.Add operator.Add p e s t u x g n z refl d k l
  assign_by line assign.Subtract p e s t u x g n z d k l = raise_by line assign.Subtract operator.Subtract p e s t u x g n z refl d k l
  assign_by line assign.Multiply p e s t u x g n z d k l = raise_by line assign.Multiply operator.Multiply p e s t u x g n z refl d k l
  assign_by line assign.Divide p e s t u x g n z d k l = raise_by line assign.Divide operator.Divide p e s t u x g n z refl d k l
  assign_by line assign.Remainder p e s t u x g n z d k l = raise_by line assign.Remainder operator.Remainder p e s t u x g n z refl d k l

  -- Calls, once their arguments are well typed.
  file_by : (line : ℕ) (name : List ℕ) (xs : Args) (s m t : Used) (f : Function) (ys : List Typed) (x : Typed) (q : Bool) → function_named names name ≡ Some f → fits_params f.params ys ≡ q →
      leaf (at line (if q then typed (returned f.returns) (expr.Call f.place (map (λ y. y.tree) ys)) else wrong)) m ≡ found x t → HaveTypes names rows false xs s ys m → HasType names rows (tree.Call line name xs) s x t
  file_by line name xs s m t f ys x true e o h a = carry (λ x t. HasType names rows (tree.Call line name xs) s x t) _ x m t h (HasTypes.Call line name xs s m f ys e a o)
  file_by line name xs s m t f ys x false e o h a = absurd cc

  kernel_by : (line : ℕ) (name : List ℕ) (xs : Args) (s m t : Used) (i : ℕ) (row : CallRow) (ys : List Typed) (x : Typed) (q : Bool) → function_named names name ≡ None → place_named rows name ≡ Some i → row_at rows (Some i) ≡ Some row → fits_row row ys ≡ q →
      (at line (if q then typed (returned row.returns) (expr.Kernel (enter i m.calls).0 (map (λ y. y.tree) ys)) else wrong) >>= (λ z. Ok (z, with_call i m))) ≡ found x t → HaveTypes names rows (starts_thread row.kernel) xs s ys m →
      HasType names rows (tree.Call line name xs) s x t
  kernel_by line name xs s m t i row ys x true e k r o h a = carry (λ x t. HasType names rows (tree.Call line name xs) s x t) _ x _ t h (HasTypes.KernelCall line name xs s m i row ys e k r a o)
  kernel_by line name xs s m t i row ys x false e k r o h a = absurd cc

  -- What is known of arguments.
  abbrev Complete : Args → Type 0
  Complete xs = (b : Bool) (s t : Used) (ys : List Typed) → arguments_verdict names rows b xs s ≡ found ys t → HaveTypes names rows b xs s ys t

  row_by : (line : ℕ) (name : List ℕ) (xs : Args) (s t : Used) (i : ℕ) (R : Option CallRow) (x : Typed) → function_named names name ≡ None → place_named rows name ≡ Some i → row_at rows (Some i) ≡ R →
      (arguments_verdict names rows (starts_by R) xs s >>= (λ ys. row_called R i line ys.0 ys.1)) ≡ found x t → Complete xs → HasType names rows (tree.Call line name xs) s x t
  row_by line name xs s t i None x e k r h a =
      let p = bind_back (arguments_verdict names rows false xs s) (λ ys. row_called None i line ys.0 ys.1) (x, t) h in
      absurd (not_found _ (x, t) p.2)
  row_by line name xs s t i (Some row) x e k r h a =
      let p = bind_back (arguments_verdict names rows (starts_thread row.kernel) xs s) (λ ys. row_called (Some row) i line ys.0 ys.1) (x, t) h in
      kernel_by line name xs s p.0.1 t i row p.0.0 x (fits_row row p.0.0) e k r refl p.2 (a (starts_thread row.kernel) s p.0.1 p.0.0 p.1)

  call_by : (line : ℕ) (name : List ℕ) (xs : Args) (s t : Used) (F : Option Function) (I : Option ℕ) (x : Typed) → function_named names name ≡ F → place_named rows name ≡ I →
      call_check rows F I line (arguments_verdict names rows (starts F (row_at rows I)) xs) s ≡ found x t → Complete xs → HasType names rows (tree.Call line name xs) s x t
  call_by line name xs s t (Some f) I x e k h a =
      let p = bind_back (arguments_verdict names rows false xs s) (λ ys. called rows (Some f) I line ys.0 ys.1) (x, t) h in
      file_by line name xs s p.0.1 t f p.0.0 x (fits_params f.params p.0.0) e refl p.2 (a false s p.0.1 p.0.0 p.1)
  call_by line name xs s t None None x e k h a =
      let p = bind_back (arguments_verdict names rows false xs s) (λ ys. called rows None None line ys.0 ys.1) (x, t) h in
      absurd (not_found _ (x, t) p.2)
  call_by line name xs s t None (Some i) x e k h a = row_by line name xs s t i (row_at rows (Some i)) x e k refl h a

  -- The first argument of a call that starts a thread.
  is_entry_by : (line : ℕ) (name : List ℕ) (xs : Args) (s m t : Used) (f : Function) (y : Typed) (ys : List Typed) (q : Bool) → lookup (bytes_eq name) names.locals ≡ None → function_named names name ≡ Some f → is_entry f ≡ q →
      leaf (at line (if q then typed type.Entry (expr.Function f.place) else wrong)) s ≡ found y m → HaveTypes names rows false xs m ys t → HaveTypes names rows true (tree.More (tree.Name line name) xs) s (y ∷ ys) t
  is_entry_by line name xs s m t f y ys true e k o h a = carry (λ y m. HaveTypes names rows false xs m ys t → HaveTypes names rows true (tree.More (tree.Name line name) xs) s (y ∷ ys) t) _ y s m h (HasTypes.Entry line name xs s t f ys e k o) a
  is_entry_by line name xs s m t f y ys false e k o h a = absurd cc

  entry_by : (line : ℕ) (name : List ℕ) (xs : Args) (s m t : Used) (L : Option Variable) (F : Option Function) (b : Bool) (y : Typed) (ys : List Typed) → lookup (bytes_eq name) names.locals ≡ L → function_named names name ≡ F →
      leaf (at line (entry_named (is_some L) F b)) s ≡ found y m → HaveTypes names rows false xs m ys t → HaveTypes names rows true (tree.More (tree.Name line name) xs) s (y ∷ ys) t
  entry_by line name xs s m t (Some v) F b y ys e k h a = absurd cc
  entry_by line name xs s m t None (Some f) b y ys e k h a = is_entry_by line name xs s m t f y ys (is_entry f) e k refl h a
  entry_by line name xs s m t None None true y ys e k h a = absurd cc
  entry_by line name xs s m t None None false y ys e k h a = absurd cc

  first_by : (e : Expr) (c : Check Typed) (xs : Args) (s m t : Used) (y : Typed) (ys : List Typed) → argument_check names true e c s ≡ found y m → (c s ≡ found y m → HasType names rows e s y m) → HaveTypes names rows false xs m ys t →
      HaveTypes names rows true (tree.More e xs) s (y ∷ ys) t
  first_by (tree.Name line name) c xs s m t y ys h k a = entry_by line name xs s m t (lookup (bytes_eq name) names.locals) (function_named names name) (is_some (lookup (bytes_eq name) names.globals)) y ys refl refl h a
  first_by e c xs s m t y ys h k a = HasTypes.First e xs s m t y ys refl (k h) a

  argument_by : (b : Bool) (e : Expr) (xs : Args) (s m t : Used) (y : Typed) (ys : List Typed) → argument_check names b e (verdict names rows e) s ≡ found y m → (verdict names rows e s ≡ found y m → HasType names rows e s y m) → HaveTypes names rows false xs m ys t →
      HaveTypes names rows b (tree.More e xs) s (y ∷ ys) t
  argument_by true e xs s m t y ys h k a = first_by e (verdict names rows e) xs s m t y ys h k a
  argument_by false e xs s m t y ys h k a = HasTypes.Argument e xs s m t y ys (k h) a

  mutual
    pub complete : (e : Expr) (s t : Used) (z : Typed) → verdict names rows e s ≡ found z t → HasType names rows e s z t
    complete (tree.Name line name) s t z h = name_by line name s t z (variable_of names name) refl h
    complete (tree.Number line n) s t z h = carry (λ x t. HasType names rows (tree.Number line n) s x t) _ z s t h (HasTypes.Number line n s)
    complete (tree.Char line c) s t z h = carry (λ x t. HasType names rows (tree.Char line c) s x t) _ z s t h (HasTypes.Char line c s)
    complete (tree.Text line text) s t z h = carry (λ x t. HasType names rows (tree.Text line text) s x t) _ z _ t h (HasTypes.Text line text s)
    complete (tree.Paren line a) s t z h = let p = one_back paren_rule line (verdict names rows a) s t z h in paren_by line a s t p.0.gives p.0.tree z p.2 (complete a s t p.0 p.1)
    complete (tree.Index line a i) s t z h =
        let p = two_back index_rule line (verdict names rows a) (verdict names rows i) s t z h in
        index_by line a i s p.1 t p.0.gives p.2.gives p.0.tree p.2.tree z p.5 (complete a s p.1 p.0 p.3) (complete i p.1 t p.2 p.4)
    complete (tree.Call line name xs) s t z h = call_by line name xs s t (function_named names name) (place_named rows name) z refl refl h (all_complete xs)
    complete (tree.Step line v op p) s t z h = let q = one_back (step_rule v op) line (place_verdict names rows p) s t z h in step_by line v op p s t q.0 z q.2 (place_complete p s t q.0 q.1)
    complete (tree.Unary line op a) s t z h = let p = one_back (unary_rule op) line (verdict names rows a) s t z h in unary_by line op a s t p.0.gives p.0.tree z p.2 (complete a s t p.0 p.1)
    complete (tree.AddressOf line a i) s t z h =
        let p = two_back address_rule line (verdict names rows a) (verdict names rows i) s t z h in
        address_by line a i s p.1 t p.0.gives p.2.gives p.0.tree p.2.tree z p.5 (complete a s p.1 p.0 p.3) (complete i p.1 t p.2 p.4)
    complete (tree.SizeOfName line name) s t z h = size_by line name s t z (variable_of names name) refl h
    complete (tree.SizeOfType line b) s t z h = carry (λ x t. HasType names rows (tree.SizeOfType line b) s x t) _ z s t h (HasTypes.SizeOfType line b s)
    complete (tree.Cast line b star a) s t z h = let p = one_back (cast_rule b star) line (verdict names rows a) s t z h in cast_by line b star a s t p.0.gives p.0.tree z p.2 (complete a s t p.0 p.1)
    complete (tree.Binary line op a b) s t z h =
        let p = two_back (binary_rule op) line (verdict names rows a) (verdict names rows b) s t z h in
        binary_by line op a b s p.1 t p.0.gives p.2.gives p.0.tree p.2.tree z p.5 (complete a s p.1 p.0 p.3) (complete b p.1 t p.2 p.4)
    complete (tree.Conditional line c a b) s t z h =
        let p = three_back conditional_rule line (verdict names rows c) (verdict names rows a) (verdict names rows b) s t z h in
        conditional_by line c a b s p.1 p.3 t p.0.gives p.0.tree p.2 p.4 z p.8 (complete c s p.1 p.0 p.5) (complete a p.1 p.3 p.2 p.6) (complete b p.3 t p.4 p.7)
    complete (tree.Assign line op p e) s t z h =
        let q = two_back (assign_rule op) line (place_verdict names rows p) (verdict names rows e) s t z h in
        assign_by line op p e s q.1 t q.0 q.2.gives q.2.tree z q.5 (place_complete p s q.1 q.0 q.3) (complete e q.1 t q.2 q.4)

    pub place_complete : (p : Place) (s t : Used) (z : Target) → place_verdict names rows p s ≡ found z t → is_array z ≡ false → HasPlace names rows p s z t
    place_complete (tree.Named line name) s t z h n = place_by line name s t z (variable_of names name) refl h n
    place_complete (tree.Element line a i) s t z h n =
        let p = two_back index_place line (verdict names rows a) (verdict names rows i) s t z h in
        element_by line a i s p.1 t p.0.gives p.2.gives p.0.tree p.2.tree z p.5 (complete a s p.1 p.0 p.3) (complete i p.1 t p.2 p.4)
    place_complete (tree.Pointed line a) s t z h n = let p = one_back deref_place line (verdict names rows a) s t z h in pointed_by line a s t p.0.gives p.0.tree z p.2 (complete a s t p.0 p.1)

    pub all_complete : (xs : Args) (b : Bool) (s t : Used) (zs : List Typed) → arguments_verdict names rows b xs s ≡ found zs t → HaveTypes names rows b xs s zs t
    all_complete tree.NoMore b s t zs h = carry (λ ys t. HaveTypes names rows b tree.NoMore s ys t) [] zs s t h (HasTypes.NoArguments b s)
    all_complete (tree.More e xs) b s t zs h =
        let p = before_back (argument_check names b e (verdict names rows e)) (arguments_verdict names rows false xs) s t zs h in
        subst (λ zs. HaveTypes names rows b (tree.More e xs) s zs t) p.5 (argument_by b e xs s p.1 t p.0 p.2 p.3 (complete e s p.1 p.0) (all_complete xs false p.1 t p.2 p.4))
