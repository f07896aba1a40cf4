-- What is well typed is accepted, with its type and what it does.
use Rattle.std.proofs.Common.{◌≡◌, ℕ, Bool, true, false, List, [], ◌∷◌, map, None, Some, refl, sym, ap, ◌∙◌}
use Rattle.std.specs.Map.{lookup}
use Rattle.std.specs.Str.{bytes_eq}
use Rattle.std.specs.Prelude.{Option, Result, Ok, Err, is_some, if◌then◌else◌}
use Rattle.nx_calls.specs.declared.row.CallRow.{CallRow}
use Rattle.nx_ctok.specs.declared.fault.CKind.{CKind}
use Rattle.nx_ctree.specs.declared.program.Base.TheVariants as base
use Rattle.nx_ctree.specs.declared.expression.UnaryOperator.TheVariants as unary
use Rattle.nx_ctree.specs.declared.expression.AssignOperator.TheVariants as assign
use Rattle.nx_checked.specs.declared.checked.CheckedExpr.TheVariants as expr
use Rattle.nx_crules.specs.declared.types.CType.{CType}
use Rattle.nx_crules.specs.declared.types.CType.TheVariants as type
use Rattle.nx_crules.specs.declared.types.Function.{Function}
use Rattle.nx_crules.specs.declared.types.Typed.{Typed}
use Rattle.nx_crules.specs.declared.types.Target.{Target}
use Rattle.nx_crules.specs.Types.{type_of, takes}
use Rattle.nx_crules.specs.Answers.{at}
use Rattle.nx_crules.specs.Rules.{wrong, typed, valued, moved, moved_by, conditional_typed, cell_assign, element_assign, fits_params, returned, fits_row, starts_thread, paren_rule, unary_rule, binary_rule, conditional_rule, index_rule, address_rule, cast_rule, index_place, deref_place, assign_rule, step_rule}
use Rattle.nx_ctype.specs.declared.names.Names.{Names}
use Rattle.nx_ctype.specs.declared.names.Variable.{Variable}
use Rattle.nx_ctype.specs.declared.used.Used.{Used}
use Rattle.nx_ctype.specs.Lookups.{variable_of, value_of, target_of, found, missing, number, bytes_in, entry_named, enter}
use Rattle.nx_ctyping.specs.Trees as tree
use Rattle.nx_ctyping.specs.Trees.{Expr, Place, Args}
use Rattle.nx_ctyping.specs.Checks.{Check, leaf}
use Rattle.nx_ctyping.specs.Verdicts.{verdict, place_verdict, arguments_verdict, argument_check, call_check, starts, row_at, with_call, function_named, place_named}
use Rattle.nx_ctyping.specs.HasTypes
use Rattle.nx_ctyping.specs.HasTypes.{HasType, HasPlace, HaveTypes, int, pointer, of_type, has_values, is_entry, is_name}
use Rattle.nx_ctyping.proofs.Binds.{one_on, two_on, three_on, before_on}

valued_on : (g : CType) (x : Typed) → has_values g ≡ true → valued g x ≡ Ok x
valued_on type.Void x h = absurd cc
valued_on _ x h = refl

-- A call, once its arguments are accepted.
call_on : (names : Names) (rows : List CallRow) (F : Option Function) (f : Function) (i : Option ℕ) (line : ℕ) (xs : Args) (s t : Used) (ys : List Typed) → F ≡ Some f → arguments_verdict names rows false xs s ≡ Ok (ys, t) → fits_params f.params ys ≡ true →
    call_check rows F i line (arguments_verdict names rows (starts F (row_at rows i)) xs) s ≡ Ok (of_type (returned f.returns) (expr.Call f.place (map (λ y. y.tree) ys)), t)
call_on names rows F f i line xs s t ys e h g = rw e (rw h (rw g refl))

kernel_on : (names : Names) (rows : List CallRow) (F : Option Function) (I : Option ℕ) (i : ℕ) (row : CallRow) (line : ℕ) (xs : Args) (s t : Used) (ys : List Typed) → F ≡ None → I ≡ Some i → row_at rows (Some i) ≡ Some row →
    arguments_verdict names rows (starts_thread row.kernel) xs s ≡ Ok (ys, t) → fits_row row ys ≡ true →
    call_check rows F I line (arguments_verdict names rows (starts F (row_at rows I)) xs) s ≡ Ok (of_type (returned row.returns) (expr.Kernel (enter i t.calls).0 (map (λ y. y.tree) ys)), with_call i t)
kernel_on names rows F I i row line xs s t ys e k r h g = rw e (rw k (rw r (rw h (rw g refl))))

entry_on : (L : Option Variable) (F : Option Function) (b : Bool) (f : Function) → L ≡ None → F ≡ Some f → is_entry f ≡ true → entry_named (is_some L) F b ≡ Ok (of_type type.Entry (expr.Function f.place))
entry_on L F b f e h k = rw e (rw h (rw k refl))

argument_on : (names : Names) (e : Expr) (c : Check Typed) → is_name e ≡ false → argument_check names true e c ≡ c
argument_on names (tree.Name line name) c h = absurd cc
argument_on names _ c h = refl

module _ (names : Names) (rows : List CallRow) where
  mutual
    pub sound : {e : Expr} {s t : Used} {x : Typed} → HasType names rows e s x t → verdict names rows e s ≡ Ok (x, t)
    sound (HasTypes.Scalar line name x h s g) = ap (λ v. leaf (at line (found value_of (missing names name) v)) s) g
    sound (HasTypes.Array line name a z s g) = ap (λ v. leaf (at line (found value_of (missing names name) v)) s) g
    sound (HasTypes.Number line n s) = refl
    sound (HasTypes.Char line c s) = refl
    sound (HasTypes.Text line text s) = refl
    sound (HasTypes.Paren line a s t x h g) = one_on paren_rule line (verdict names rows a) s t x x (sound h) (valued_on x.gives x g)
    sound (HasTypes.Index line a i s t u w c p n h g) = two_on index_rule line (verdict names rows a) (verdict names rows i) s t u (pointer w c p) (int n) _ (sound h) (sound g) refl
    sound (HasTypes.Call line name xs s t f ys e h g) = call_on names rows (function_named names name) f (place_named rows name) line xs s t ys e (all_sound h) g
    sound (HasTypes.KernelCall line name xs s t i row ys e k r h g) = kernel_on names rows (function_named names name) (place_named rows name) i row line xs s t ys e k r (all_sound h) g
    sound (HasTypes.StepCell line v op p s t x h g) = one_on (step_rule v op) line (place_verdict names rows p) s t _ _ (place_sound g) refl
    sound (HasTypes.StepElement line v op p s t w q g) = one_on (step_rule v op) line (place_verdict names rows p) s t _ _ (place_sound g) refl
    sound (HasTypes.Minus line a s t n h) = one_on (unary_rule unary.Minus) line (verdict names rows a) s t (int n) _ (sound h) refl
    sound (HasTypes.Not line a s t n h) = one_on (unary_rule unary.Not) line (verdict names rows a) s t (int n) _ (sound h) refl
    sound (HasTypes.Complement line a s t n h) = one_on (unary_rule unary.Complement) line (verdict names rows a) s t (int n) _ (sound h) refl
    sound (HasTypes.Deref line a s t w c p h) = one_on (unary_rule unary.Deref) line (verdict names rows a) s t (pointer w c p) _ (sound h) refl
    sound (HasTypes.AddressOf line a i s t u w c p n h g) = two_on address_rule line (verdict names rows a) (verdict names rows i) s t u (pointer w c p) (int n) _ (sound h) (sound g) refl
    sound (HasTypes.SizeOfName line name v s g) = ap (λ v. leaf (at line (found (λ v. number (bytes_in v)) (missing names name) v)) s) g
    sound (HasTypes.SizeOfType line b s) = refl
    sound (HasTypes.CastToInt line a s t n h) = one_on (cast_rule base.Int false) line (verdict names rows a) s t (int n) _ (sound h) refl
    sound (HasTypes.CastToChar line a s t n h) = one_on (cast_rule base.Char false) line (verdict names rows a) s t (int n) _ (sound h) refl
    sound (HasTypes.CastToPointer line b a s t n h) = one_on (cast_rule b true) line (verdict names rows a) s t (int n) _ (sound h) refl
    sound (HasTypes.Binary line op a b s t u m n h g) = two_on (binary_rule op) line (verdict names rows a) (verdict names rows b) s t u (int m) (int n) _ (sound h) (sound g) refl
    sound (HasTypes.Advance line op a b s t u w c p n d h g) = two_on (binary_rule op) line (verdict names rows a) (verdict names rows b) s t u (pointer w c p) (int n) _ (sound h) (sound g) (ap (λ d. moved d w c p n) d)
    sound (HasTypes.AdvanceBy line op a b s t u w c n p d h g) = two_on (binary_rule op) line (verdict names rows a) (verdict names rows b) s t u (int n) (pointer w c p) _ (sound h) (sound g) (ap (λ d. moved_by d w c n p) d)
    sound (HasTypes.Retreat line op a b s t u w c p n d h g) = two_on (binary_rule op) line (verdict names rows a) (verdict names rows b) s t u (pointer w c p) (int n) _ (sound h) (sound g) (ap (λ d. moved d w c p n) d)
    sound (HasTypes.Conditional line c a b s t u v n x y h g k e) =
        three_on conditional_rule line (verdict names rows c) (verdict names rows a) (verdict names rows b) s t u v (int n) x y _ (sound h) (sound g) (sound k) (ap (λ q. conditional_typed (if q then Some x.gives else None) n x.tree y.tree) e)
    sound (HasTypes.Assign line p e s t u x h y g k o) = two_on (assign_rule assign.Set) line (place_verdict names rows p) (verdict names rows e) s t u _ y _ (place_sound g) (sound k) (ap (λ q. if q then typed (type_of h) (expr.Assign h.scalar x y.tree) else wrong) o)
    sound (HasTypes.AssignElement line p e s t u w q n g k) = two_on (assign_rule assign.Set) line (place_verdict names rows p) (verdict names rows e) s t u _ (int n) _ (place_sound g) (sound k) refl
    sound (HasTypes.Compound line op o p e s t u x h n d g k l) =
        two_on (assign_rule op) line (place_verdict names rows p) (verdict names rows e) s t u _ (int n) _ (place_sound g) (sound k)
        (ap (λ q. cell_assign q x h (int n)) d ∙ ap (λ q. if q then typed (type_of h) (expr.Compound o h.scalar x n) else wrong) l)
    sound (HasTypes.CompoundElement line op o p e s t u w q n d g k) =
        two_on (assign_rule op) line (place_verdict names rows p) (verdict names rows e) s t u _ (int n) _ (place_sound g) (sound k) (ap (λ o. element_assign o w q type.Int n) d)

    pub place_sound : {p : Place} {s t : Used} {x : Target} → HasPlace names rows p s x t → place_verdict names rows p s ≡ Ok (x, t)
    place_sound (HasTypes.NamePlace line name x h s g) = ap (λ v. leaf (at line (found target_of (missing names name) v)) s) g
    place_sound (HasTypes.IndexPlace line a i s t u w c p n h g) = two_on index_place line (verdict names rows a) (verdict names rows i) s t u (pointer w c p) (int n) _ (sound h) (sound g) refl
    place_sound (HasTypes.DerefPlace line a s t w c p h) = one_on deref_place line (verdict names rows a) s t (pointer w c p) _ (sound h) refl

    pub all_sound : {b : Bool} {xs : Args} {s t : Used} {ys : List Typed} → HaveTypes names rows b xs s ys t → arguments_verdict names rows b xs s ≡ Ok (ys, t)
    all_sound (HasTypes.NoArguments b s) = refl
    all_sound (HasTypes.Entry line name xs s t f ys e h k g) =
        before_on (argument_check names true (tree.Name line name) (verdict names rows (tree.Name line name))) (arguments_verdict names rows false xs) s s t _ ys
        (ap (λ r. leaf (at line r) s) (entry_on (lookup (bytes_eq name) names.locals) (function_named names name) (is_some (lookup (bytes_eq name) names.globals)) f e h k)) (all_sound g)
    all_sound (HasTypes.First e xs s t u y ys n h g) =
        before_on (argument_check names true e (verdict names rows e)) (arguments_verdict names rows false xs) s t u y ys (ap (λ (c : Check Typed). c s) (argument_on names e (verdict names rows e) n) ∙ sound h) (all_sound g)
    all_sound (HasTypes.Argument e xs s t u y ys h g) = before_on (argument_check names false e (verdict names rows e)) (arguments_verdict names rows false xs) s t u y ys (sound h) (all_sound g)
