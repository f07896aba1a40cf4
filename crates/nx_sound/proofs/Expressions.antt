-- What a well-typed expression does names what is there.
use Rattle.std.proofs.Common.{◌≡◌, ℕ, ◌<◌, ◌==◌, Bool, true, false, List, [], ◌∷◌, ◌++◌, length, map, refl, sym, ◌∙◌, subst, arith}
use Rattle.std.proofs.lemmas.List.{length-append, length-map}
use Rattle.std.proofs.lemmas.Bool.Decides.{Decides-eqb}
use Rattle.std.specs.Prelude.{if◌then◌else◌}
use Rattle.nx_calls.specs.declared.row.CallRow.{CallRow}
use Rattle.nx_ctree.specs.declared.expression.BinaryOperator.{BinaryOperator}
use Rattle.nx_ctree.specs.declared.expression.BinaryOperator.TheVariants as binary
use Rattle.nx_checked.specs.declared.checked.IntOperator.TheVariants as operator
use Rattle.nx_checked.specs.declared.checked.Conversion.TheVariants as convert
use Rattle.nx_checked.specs.declared.checked.IntPrefix.TheVariants as prefix
use Rattle.nx_checked.specs.declared.checked.CheckedExpr.{CheckedExpr}
use Rattle.nx_checked.specs.declared.checked.CheckedPlace.TheVariants as place
use Rattle.nx_checked.specs.Trees as checked
use Rattle.nx_checked.specs.Trees.{args, expr_of, place_of, args_of, count}
use Rattle.nx_crules.specs.declared.types.Typed.{Typed}
use Rattle.nx_crules.specs.declared.types.Target.{Target}
use Rattle.nx_crules.specs.declared.types.Target.TheVariants as target
use Rattle.nx_crules.specs.Rules.{numbers, is_up, all_taken, fits_entry, fits_kinds, all_kinds_take, starts_thread}
use Rattle.nx_ctype.specs.declared.names.Names.{Names}
use Rattle.nx_ctype.specs.declared.names.Variable.TheVariants as variable
use Rattle.nx_ctype.specs.declared.used.Used.{Used}
use Rattle.nx_ctype.specs.Lookups.{enter}
use Rattle.nx_ctyping.specs.Trees.{Expr, Place, Args}
use Rattle.nx_ctyping.specs.HasTypes
use Rattle.nx_ctyping.specs.HasTypes.{HasType, HasPlace, HaveTypes}
use Rattle.nx_ccheck.specs.Files.{call_of}
use Rattle.nx_cmean.proofs.Forms as form
use Rattle.nx_cmean.proofs.Arguments.{count_args}
use Rattle.nx_lower.specs.Code.{Source}
use Rattle.nx_lower.specs.Sound.{Stage, SoundExpr, SoundPlace, SoundArgs, IsCell}
use Rattle.nx_sound.proofs.Growth.{Grows, both, grows, all_grow, call_grows, entered}
use Rattle.nx_sound.proofs.Scopes.{Stands, Ends, variable_there, function_there}

-- As many as are wanted.
as_many : (m n : ℕ) (b : Bool) → (if m == n then b else false) ≡ true → m ≡ n
as_many m n b h = by (m == n) refl h
  where
    by : (t : Bool) → (m == n) ≡ t → (if t then b else false) ≡ true → m ≡ n
    by true e h = (Decides-eqb m n).0 e
    by false e h = absurd cc

two_entries : (ys : List Typed) → fits_entry ys ≡ true → length ys ≡ 2
two_entries [] h = absurd cc
two_entries (x ∷ []) h = absurd cc
two_entries (x ∷ y ∷ []) h = refl
two_entries (x ∷ y ∷ z ∷ ys) h = absurd cc

row_takes : (row : CallRow) (ys : List Typed) (b : Bool) → starts_thread row.kernel ≡ b → (starts_thread row.kernel ≡ true → length row.kinds.items ≡ 2) → (if b then fits_entry ys else fits_kinds row.kinds.items ys) ≡ true → length row.kinds.items ≡ length ys
row_takes row ys true e two h = two e ∙ sym (two_entries ys h)
row_takes row ys false e two h = as_many (length row.kinds.items) (length ys) (all_kinds_take row.kinds.items ys) h

-- How many arguments the call has.
counted : (ys : List Typed) → count (args_of (map (λ y. y.tree) ys)) ≡ length ys
counted ys = count_args (map (λ y. y.tree) ys) ∙ length-map ys (λ y. y.tree)

module _ (S : Source) (z : Stage) where
  expr_is : {x y : checked.Expr} → x ≡ y → SoundExpr S z y → SoundExpr S z x
  expr_is h p = subst (λ e. SoundExpr S z e) (sym h) p

  place_is : {x y : checked.Place} → x ≡ y → SoundPlace S z y → SoundPlace S z x
  place_is h p = subst (λ e. SoundPlace S z e) (sym h) p

  numbers_sound : (op : BinaryOperator) (m n : CheckedExpr) → SoundExpr S z (expr_of m) → SoundExpr S z (expr_of n) → SoundExpr S z (expr_of (numbers op m n))
  numbers_sound binary.Or m n a b = expr_is (form.at_or m n) (a, b)
  numbers_sound binary.And m n a b = expr_is (form.at_and m n) (a, b)
  numbers_sound binary.BitOr m n a b = expr_is (form.at_binary operator.BitOr m n) (a, b)
  numbers_sound binary.BitXor m n a b = expr_is (form.at_binary operator.BitXor m n) (a, b)
  numbers_sound binary.BitAnd m n a b = expr_is (form.at_binary operator.BitAnd m n) (a, b)
  numbers_sound binary.Equal m n a b = expr_is (form.at_binary operator.Equal m n) (a, b)
  numbers_sound binary.NotEqual m n a b = expr_is (form.at_binary operator.NotEqual m n) (a, b)
  numbers_sound binary.Less m n a b = expr_is (form.at_binary operator.Less m n) (a, b)
  numbers_sound binary.AtMost m n a b = expr_is (form.at_binary operator.AtMost m n) (a, b)
  numbers_sound binary.Greater m n a b = expr_is (form.at_binary operator.Greater m n) (a, b)
  numbers_sound binary.AtLeast m n a b = expr_is (form.at_binary operator.AtLeast m n) (a, b)
  numbers_sound binary.ShiftLeft m n a b = expr_is (form.at_binary operator.ShiftLeft m n) (a, b)
  numbers_sound binary.ShiftRight m n a b = expr_is (form.at_binary operator.ShiftRight m n) (a, b)
  numbers_sound binary.Add m n a b = expr_is (form.at_binary operator.Add m n) (a, b)
  numbers_sound binary.Subtract m n a b = expr_is (form.at_binary operator.Subtract m n) (a, b)
  numbers_sound binary.Multiply m n a b = expr_is (form.at_binary operator.Multiply m n) (a, b)
  numbers_sound binary.Divide m n a b = expr_is (form.at_binary operator.Divide m n) (a, b)
  numbers_sound binary.Remainder m n a b = expr_is (form.at_binary operator.Remainder m n) (a, b)

  -- What is written to.
  abbrev pub SoundTarget : Target → Type 0
  SoundTarget (target.Cell x h) = IsCell S z x
  SoundTarget (target.Element w c q) = SoundPlace S z (place_of q)
  SoundTarget target.Array = Unit {0}

  module _ (rows : List CallRow) (names : Names) (last : Used) (w : Stands S z names) (l : Ends S rows last) where
    text_there : (text : List ℕ) (s : Used) → Grows rows (record s { texts = s.texts ++ (text ++ 0 ∷ []) ∷ [] }) last → length s.texts < length S.texts
    text_there text s e = omega (arith, length-append s.texts ((text ++ 0 ∷ []) ∷ []), e.texts, l.texts)

    mutual
      pub expr_sound : {e : Expr} {s t : Used} {x : Typed} → HasType names rows e s x t → Grows rows t last → SoundExpr S z (expr_of x.tree)
      expr_sound (HasTypes.Scalar line name x h s g) e = expr_is (form.at_read x) (variable_there S z names name (variable.Scalar x h) w g)
      expr_sound (HasTypes.Array line name a q s g) e = expr_is (form.at_array a) (variable_there S z names name (variable.Array a q) w g)
      expr_sound (HasTypes.Number line n s) e = expr_is (form.at_constant n) tt
      expr_sound (HasTypes.Char line c s) e = expr_is (form.at_constant c) tt
      expr_sound (HasTypes.Text line text s) e = expr_is (form.at_literal (length s.texts)) (text_there text s e)
      expr_sound (HasTypes.Paren line a s t x h g) e = expr_sound h e
      expr_sound (HasTypes.Index line a i s t u v c p n h g) e =
          expr_is (form.at_load v (place.Index p n)) (place_is (form.place_index p n) (expr_sound h (both rows (grows rows names g) e), expr_sound g e))
      expr_sound (HasTypes.Call line name xs s t f ys g h k) e =
          let q = function_there S z names name f w g in
          expr_is (form.at_call f.place (map (λ y. y.tree) ys)) (q.place, counted ys ∙ sym (as_many (length f.params) (length ys) (all_taken f.params ys) k) ∙ q.params, all_sound h e)
      expr_sound (HasTypes.KernelCall line name xs s t i row ys g p r h k) e =
          let n = (enter i t.calls).0 in
          let many = row_takes row ys (starts_thread row.kernel) refl (l.entries i row r) k in
          expr_is (form.at_kernel n (map (λ y. y.tree) ys))
          ((call_of row, l.calls n i row (e.calls n i (entered i t.calls)) r, many ∙ sym (counted ys)), all_sound h (both rows (call_grows rows i t (row, r)) e))
      expr_sound (HasTypes.StepCell line v op p s t x h g) e = expr_is (form.at_step v (is_up op) h.scalar x) (place_sound g e)
      expr_sound (HasTypes.StepElement line v op p s t u q g) e = expr_is (form.at_step_element v (is_up op) u q) (place_sound g e)
      expr_sound (HasTypes.Minus line a s t n h) e = expr_is (form.at_unary prefix.Minus n) (expr_sound h e)
      expr_sound (HasTypes.Not line a s t n h) e = expr_is (form.at_unary prefix.Not n) (expr_sound h e)
      expr_sound (HasTypes.Complement line a s t n h) e = expr_is (form.at_unary prefix.Complement n) (expr_sound h e)
      expr_sound (HasTypes.Deref line a s t v c p h) e = expr_is (form.at_load v (place.Deref p)) (place_is (form.place_deref p) (expr_sound h e))
      expr_sound (HasTypes.AddressOf line a i s t u v c p n h g) e = expr_is (form.at_address_of v p n) (expr_sound h (both rows (grows rows names g) e), expr_sound g e)
      expr_sound (HasTypes.SizeOfName line name v s g) e = expr_is (form.at_constant _) tt
      expr_sound (HasTypes.SizeOfType line b s) e = expr_is (form.at_constant _) tt
      expr_sound (HasTypes.CastToInt line a s t n h) e = expr_is (form.at_convert convert.ToInt n) (expr_sound h e)
      expr_sound (HasTypes.CastToChar line a s t n h) e = expr_is (form.at_convert convert.ToChar n) (expr_sound h e)
      expr_sound (HasTypes.CastToPointer line b a s t n h) e = expr_is (form.at_convert convert.ToPointer n) (expr_sound h e)
      expr_sound (HasTypes.Binary line op a b s t u m n h g) e = numbers_sound op m n (expr_sound h (both rows (grows rows names g) e)) (expr_sound g e)
      expr_sound (HasTypes.Advance line op a b s t u v c p n d h g) e = expr_is (form.at_advance v p n) (expr_sound h (both rows (grows rows names g) e), expr_sound g e)
      expr_sound (HasTypes.AdvanceBy line op a b s t u v c n p d h g) e = expr_is (form.at_advance_by v n p) (expr_sound h (both rows (grows rows names g) e), expr_sound g e)
      expr_sound (HasTypes.Retreat line op a b s t u v c p n d h g) e = expr_is (form.at_retreat v p n) (expr_sound h (both rows (grows rows names g) e), expr_sound g e)
      expr_sound (HasTypes.Conditional line c a b s t u v n x y h g k o) e =
          let end = both rows (grows rows names k) e in
          expr_is (form.at_conditional n x.tree y.tree) (expr_sound h (both rows (grows rows names g) end), expr_sound g end, expr_sound k e)
      expr_sound (HasTypes.Assign line p e s t u x h y g k o) f = expr_is (form.at_assign h.scalar x y.tree) (place_sound g (both rows (grows rows names k) f), expr_sound k f)
      expr_sound (HasTypes.AssignElement line p e s t u v q n g k) f = expr_is (form.at_assign_element v q n) (place_sound g (both rows (grows rows names k) f), expr_sound k f)
      expr_sound (HasTypes.Compound line op o p e s t u x h n d g k m) f = expr_is (form.at_compound o h.scalar x n) (place_sound g (both rows (grows rows names k) f), expr_sound k f)
      expr_sound (HasTypes.CompoundElement line op o p e s t u v q n d g k) f = expr_is (form.at_compound_element o v q n) (place_sound g (both rows (grows rows names k) f), expr_sound k f)

      pub place_sound : {p : Place} {s t : Used} {x : Target} → HasPlace names rows p s x t → Grows rows t last → SoundTarget x
      place_sound (HasTypes.NamePlace line name x h s g) e = variable_there S z names name (variable.Scalar x h) w g
      place_sound (HasTypes.IndexPlace line a i s t u v c p n h g) e = place_is (form.place_index p n) (expr_sound h (both rows (grows rows names g) e), expr_sound g e)
      place_sound (HasTypes.DerefPlace line a s t v c p h) e = place_is (form.place_deref p) (expr_sound h e)

      pub all_sound : {b : Bool} {xs : Args} {s t : Used} {ys : List Typed} → HaveTypes names rows b xs s ys t → Grows rows t last → SoundArgs S z (args_of (map (λ y. y.tree) ys))
      all_sound (HasTypes.NoArguments b s) e = tt
      all_sound (HasTypes.Entry line name xs s t f ys m g k h) e = (expr_is (form.at_function f.place) (function_there S z names name f w g).place, all_sound h e)
      all_sound (HasTypes.First x xs s t u y ys n h g) e = (expr_sound h (both rows (all_grow rows names g) e), all_sound g e)
      all_sound (HasTypes.Argument x xs s t u y ys h g) e = (expr_sound h (both rows (all_grow rows names g) e), all_sound g e)
