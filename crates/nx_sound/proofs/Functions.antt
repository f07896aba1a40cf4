-- What a well-typed function does names what is there.
use Rattle.std.proofs.Common.{◌≡◌, ℕ, ◌+◌, ◌-◌, ◌≤◌, nat_lt, Bool, false, List, [], ◌∷◌, ◌++◌, length, map, drop, refl, sym, ap, ◌∙◌, subst, arith}
use Rattle.std.proofs.lemmas.Bool.Decides.{nat_tests}
use Rattle.std.proofs.lemmas.List.{length-append, length-map, length-drop}
use Rattle.nx_calls.specs.declared.row.CallRow.{CallRow}
use Rattle.nx_ctree.specs.declared.program.Base.{Base}
use Rattle.nx_ctree.specs.declared.program.Param.{Param}
use Rattle.nx_ctree.specs.declared.program.Function.{Function}
use Rattle.nx_ctree.specs.declared.statement.Decl.{Decl}
use Rattle.nx_ctree.specs.declared.statement.Item.{Item}
use Rattle.nx_checked.specs.declared.checked.Cell.TheVariants as cell
use Rattle.nx_checked.specs.declared.checked.ArrayName.TheVariants as array
use Rattle.nx_checked.specs.declared.checked.Scalar.{Scalar}
use Rattle.nx_checked.specs.declared.checked.Shape.{Shape}
use Rattle.nx_checked.specs.declared.checked.CheckedExpr.{CheckedExpr}
use Rattle.nx_checked.specs.declared.checked.CheckedFunction.{CheckedFunction}
use Rattle.nx_checked.specs.Trees as checked
use Rattle.nx_checked.specs.Trees.{expr_of, fun_of}
use Rattle.nx_crules.specs.declared.types.Held.{Held}
use Rattle.nx_ctype.specs.declared.names.Names.{Names}
use Rattle.nx_ctype.specs.declared.names.Variable.{Variable}
use Rattle.nx_ctype.specs.declared.names.Variable.TheVariants as variable
use Rattle.nx_ctype.specs.declared.used.Used.{Used}
use Rattle.nx_cbody.specs.Contexts.{scalars_in, shapes_in, scalars_of, shapes_of, behind, behind_scalar}
use Rattle.nx_cbody.specs.Declarations.{constant_of}
use Rattle.nx_cbody.specs.TypedFunctions as typed
use Rattle.nx_cbody.specs.TypedFunctions.{IsParam, AreParams, IsItem, AreItems, AreDecls, IsFunction, typed_function}
use Rattle.nx_cbody.proofs.Contexts.{scalars_push, shapes_push}
use Rattle.nx_cmean.proofs.Forms as form
use Rattle.nx_lower.specs.Code.{Source}
use Rattle.nx_lower.specs.Sound.{Stage, whole, SoundExpr, SoundAll, HasLocals, SoundFun}
use Rattle.nx_sound.proofs.Entries.{Each, each_push}
use Rattle.nx_sound.proofs.Growth.{Grows, same, both, grows}
use Rattle.nx_sound.proofs.Scopes.{Stands, Ends, IsVariable, IsKnown}
use Rattle.nx_sound.proofs.Expressions.{expr_sound}
use Rattle.nx_sound.proofs.Statements.{stmts_grow, stmts_sound}

-- How many cells and arrays a context's locals are.
abbrev pub cells_in : Names → ℕ
cells_in names = length (scalars_in names.locals)

abbrev pub arrays_in : Names → ℕ
arrays_in names = length (shapes_in names.locals)

cells_behind : (names : Names) (name : List ℕ) (v : Variable) → cells_in (behind names name v) ≡ cells_in names + length (scalars_of v)
cells_behind names name v = ap length (scalars_push names.locals name v) ∙ length-append (scalars_in names.locals) (scalars_of v)

arrays_behind : (names : Names) (name : List ℕ) (v : Variable) → arrays_in (behind names name v) ≡ arrays_in names + length (shapes_of v)
arrays_behind names name v = ap length (shapes_push names.locals name v) ∙ length-append (shapes_in names.locals) (shapes_of v)

-- The locals so far are among those of a function.
pub record Within (z : Stage) (names : Names) : Type 0 where
  pub cells : cells_in names ≤ z.cells
  pub arrays : arrays_in names ≤ z.made

module _ (S : Source) (z : Stage) where
  all_both : (xs ys : List checked.Expr) → SoundAll S z xs → SoundAll S z ys → SoundAll S z (xs ++ ys)
  all_both [] ys h g = g
  all_both (x ∷ xs) ys h g = (h.0, all_both xs ys h.1 g)

  map_both : (xs ys : List CheckedExpr) → map expr_of (xs ++ ys) ≡ map expr_of xs ++ map expr_of ys
  map_both [] ys = refl
  map_both (x ∷ xs) ys = ap (λ es. expr_of x ∷ es) (map_both xs ys)

  initials_both : (xs ys : List CheckedExpr) → SoundAll S z (map expr_of xs) → SoundAll S z (map expr_of ys) → SoundAll S z (map expr_of (xs ++ ys))
  initials_both xs ys h g = subst (λ es. SoundAll S z es) (sym (map_both xs ys)) (all_both (map expr_of xs) (map expr_of ys) h g)

  stands_behind : (names : Names) (name : List ℕ) (v : Variable) → Stands S z names → IsVariable S z v → Stands S z (behind names name v)
  stands_behind names name v w h = record { locals = each_push (λ name v. IsVariable S z v) names.locals name v w.locals h; globals = w.globals; functions = w.functions }

  scalar_stands : (names : Names) (name : List ℕ) (h : Held) → Stands S z names → Within z (behind_scalar names name h) → Stands S z (behind_scalar names name h)
  scalar_stands names name h w r =
      let v = variable.Scalar (cell.Local (cells_in names)) h in
      stands_behind names name v w (omega (arith, cells_behind names name v, r.cells))

  module _ (rows : List CallRow) (last : Used) where
    -- What declarations add to a context, with the values that they give.
    pub record Adds (names next : Names) (s t : Used) (xs : List CheckedExpr) : Type 0 where
      pub grows : Grows rows s t
      pub cells : cells_in names + length xs ≤ cells_in next
      pub arrays : arrays_in names ≤ arrays_in next
      pub stands : Stands S z names → Within z next → Stands S z next
      pub sound : Stands S z names → Within z next → Ends S rows last → Grows rows t last → SoundAll S z (map expr_of xs)

    adds_none : (names : Names) (s : Used) → Adds names names s s []
    adds_none names s = record { grows = same rows s; cells = omega arith; arrays = omega arith; stands = λ w r. w; sound = λ w r l e. tt }

    adds_both : {names next end : Names} {s t u : Used} {xs ys : List CheckedExpr} → Adds names next s t xs → Adds next end t u ys → Adds names end s u (xs ++ ys)
    adds_both {names} {next} {end} {s} {t} {u} {xs} {ys} a b =
        let back : Within z end → Within z next = λ r. record { cells = omega (arith, b.cells, r.cells); arrays = omega (arith, b.arrays, r.arrays) } in
        record {
          grows = both rows a.grows b.grows;
          cells = omega (arith, a.cells, b.cells, length-append xs ys);
          arrays = omega (arith, a.arrays, b.arrays);
          stands = λ w r. b.stands (a.stands w (back r)) r;
          sound = λ w r l e. initials_both xs ys (a.sound w (back r) l (both rows b.grows e)) (b.sound (a.stands w (back r)) r l e);
        }

    adds_scalar : (names : Names) (name : List ℕ) (h : Held) (s : Used) → Adds names (behind_scalar names name h) s s []
    adds_scalar names name h s =
        let v = variable.Scalar (cell.Local (cells_in names)) h in
        record {
          grows = same rows s;
          cells = omega (arith, cells_behind names name v);
          arrays = omega (arith, arrays_behind names name v);
          stands = λ w r. scalar_stands names name h w r;
          sound = λ w r l e. tt;
        }

    params_add : {names next : Names} {ps : List Param} → (s : Used) → AreParams names ps next → Adds names next s s []
    params_add s (typed.NoParams names) = adds_none names s
    params_add s (typed.MoreParams names next end p ps (typed.Parameter _ _ h a b c d) g) = adds_both (adds_scalar names p.name h s) (params_add s g)

    item_adds : {b : Base} {names next : Names} {i : Item} {s t : Used} {xs : List CheckedExpr} → IsItem rows b names i s xs next t → Adds names next s t xs
    item_adds (typed.ScalarItem names i h s k a b c) = adds_scalar names i.name h s
    item_adds (typed.ArrayItem names i c w s k a d f g) =
        let q : Shape = record { element = w; count = constant_of c.kind } in
        let v = variable.Array (array.Local (arrays_in names)) q in
        record {
          grows = same rows s;
          cells = omega (arith, cells_behind names i.name v);
          arrays = omega (arith, arrays_behind names i.name v);
          stands = λ w r. stands_behind names i.name v w (omega (arith, arrays_behind names i.name v, r.arrays));
          sound = λ w r l e. tt;
        }
    item_adds (typed.ValuedItem names i e h s t y k a b c g d) =
        let v = variable.Scalar (cell.Local (cells_in names)) h in
        let next = behind_scalar names i.name h in
        record {
          grows = grows rows next g;
          cells = omega (arith, cells_behind names i.name v);
          arrays = omega (arith, arrays_behind names i.name v);
          stands = λ w r. scalar_stands names i.name h w r;
          sound = λ w r l f.
              let assigned : SoundExpr S z (checked.Assign h.scalar (cell.Local (cells_in names)) (expr_of y.tree)) =
              (omega (arith, cells_behind names i.name v, r.cells), expr_sound S z rows next last (scalar_stands names i.name h w r) l g f) in
              (subst (λ x. SoundExpr S z x) (sym (form.at_assign h.scalar (cell.Local (cells_in names)) y.tree)) assigned, tt);
        }

    items_add : {b : Base} {names next : Names} {is : List Item} {s t : Used} {xs : List CheckedExpr} → AreItems rows b names is s xs next t → Adds names next s t xs
    items_add (typed.NoItems names s) = adds_none names s
    items_add (typed.MoreItems names next end i is s t u xs ys h g) = adds_both (item_adds h) (items_add g)

    pub decls_add : {names next : Names} {ds : List Decl} {s t : Used} {xs : List CheckedExpr} → AreDecls rows names ds s xs next t → Adds names next s t xs
    decls_add (typed.NoDecls names s) = adds_none names s
    decls_add (typed.MoreDecls names next end d ds s t u xs ys h g) = adds_both (items_add h) (decls_add g)

six : (n : ℕ) → nat_lt 5 n ≡ false → n ≤ 5
six n h = grind (arith, nat_tests)

-- A function has as many cells as it has parameters, and six at most.
pub params_count : {names next : Names} {ps : List Param} → AreParams names ps next → cells_in next ≡ cells_in names + length ps
params_count (typed.NoParams names) = omega arith
params_count (typed.MoreParams names next end p ps (typed.Parameter _ _ h a b c d) g) =
    let v = variable.Scalar (cell.Local (cells_in names)) h in
    omega (arith, cells_behind names p.name v, params_count g)

params_few : {names next : Names} {ps : List Param} → AreParams names ps next → cells_in names ≤ 6 → cells_in next ≤ 6
params_few (typed.NoParams names) few = few
params_few (typed.MoreParams names next end p ps (typed.Parameter _ _ h a b c d) g) few =
    let v = variable.Scalar (cell.Local (cells_in names)) h in
    params_few g (omega (arith, cells_behind names p.name v, six (cells_in names) d))

has_locals : (ts : List Scalar) (es : List checked.Expr) → length es ≤ length ts → HasLocals ts es
has_locals [] [] h = tt
has_locals [] (e ∷ es) h = absurd (omega (arith, h))
has_locals (t ∷ ts) es h = tt

-- What of a file stands before a function: its variables so far, and all its functions.
pub record Knows (S : Source) (names : Names) : Type 0 where
  pub globals : (z : Stage) → Each (λ name v. IsVariable S z v) names.globals
  pub functions : Each (λ name f. IsKnown S f) names.functions

module _ (S : Source) (rows : List CallRow) (last : Used) (names : Names) where
  pub function_grows : {b : Bool} {ps : List Param} {f : Function} {s t : Used} {g : CheckedFunction} → IsFunction rows names b ps f s g t → Grows rows s t
  function_grows (typed.Definition p d initials body s t u a ds b l) = both rows (decls_add S (whole (fun_of (typed_function p d initials body))) rows last ds).grows (stmts_grow rows d b)

  pub function_sound : {b : Bool} {ps : List Param} {f : Function} {s t : Used} {g : CheckedFunction} → IsFunction rows names b ps f s g t → Knows S names → Ends S rows last → Grows rows t last → SoundFun S (fun_of g)
  function_sound (typed.Definition p d initials body s t u a ds b large) k l e =
      let g = fun_of (typed_function p d initials body) in
      let z = whole g in
      let first : Names = record names { locals = [] } in
      let x = params_add S z rows last s a in
      let y = decls_add S z rows last ds in
      let locals : length (drop (cells_in p) (scalars_in d.locals)) ≡ cells_in d - cells_in p = length-drop (cells_in p) (scalars_in d.locals) in
      let all : Within z d = record { cells = omega (arith, locals, y.cells); arrays = omega arith } in
      let params : Within z p = record { cells = omega (arith, locals, y.cells); arrays = omega (arith, y.arrays) } in
      let begins : Stands S z first = record { locals = tt; globals = k.globals z; functions = k.functions } in
      let after : Stands S z p = x.stands begins params in
      let stands : Stands S z d = y.stands after all in
      let end = both rows (stmts_grow rows d b) e in
      record {
        few = params_few a (omega arith);
        locals = has_locals (drop (cells_in p) (scalars_in d.locals)) (map expr_of initials) (omega (arith, locals, y.cells, length-map initials expr_of));
        initials = y.sound after all l end;
        body = stmts_sound rows d S z last stands l b e;
      }
