-- What well-typed statements do names what is there.
use Rattle.std.proofs.Common.{◌≡◌, Bool, List, Option, sym, subst}
use Rattle.std.specs.Prelude.{option_map}
use Rattle.nx_calls.specs.declared.row.CallRow.{CallRow}
use Rattle.nx_checked.specs.declared.checked.CheckedExpr.{CheckedExpr}
use Rattle.nx_checked.specs.declared.checked.CheckedStmt.{CheckedStmt}
use Rattle.nx_checked.specs.Trees as checked
use Rattle.nx_checked.specs.Trees.{expr_of, stmt_of, stmts_of}
use Rattle.nx_ctype.specs.declared.names.Names.{Names}
use Rattle.nx_ctype.specs.declared.used.Used.{Used}
use Rattle.nx_ctyping.specs.Trees.{Expr}
use Rattle.nx_cbody.specs.Trees.{Stmt, Stmts}
use Rattle.nx_cbody.specs.TypedStatements as typed
use Rattle.nx_cbody.specs.TypedStatements.{MayHaveNumber, MayHaveValue, Returns, IsTyped, AreTyped}
use Rattle.nx_cmean.proofs.Forms as form
use Rattle.nx_lower.specs.Code.{Source}
use Rattle.nx_lower.specs.Sound.{Stage, SoundOption, SoundStmt, SoundStmts}
use Rattle.nx_sound.proofs.Growth.{Grows, same, both, grows}
use Rattle.nx_sound.proofs.Scopes.{Stands, Ends}
use Rattle.nx_sound.proofs.Expressions.{expr_sound}

module _ (rows : List CallRow) (names : Names) where
  number_grows : {e : Option Expr} {s t : Used} {n : Option CheckedExpr} → MayHaveNumber names rows e s n t → Grows rows s t
  number_grows (typed.NoNumber s) = same rows s
  number_grows (typed.Number e s t n h) = grows rows names h

  value_grows : {e : Option Expr} {s t : Used} {n : Option CheckedExpr} → MayHaveValue names rows e s n t → Grows rows s t
  value_grows (typed.NoValue s) = same rows s
  value_grows (typed.Value e s t x h g) = grows rows names h

  returns_grows : {b : Bool} {e : Option Expr} {s t : Used} {n : Option CheckedExpr} → Returns names rows b e s n t → Grows rows s t
  returns_grows (typed.Nothing s) = same rows s
  returns_grows (typed.Returned e s t n h) = grows rows names h

  mutual
    pub stmt_grows : {b : Bool} {a : Stmt} {s t : Used} {x : CheckedStmt} → IsTyped names rows b a s x t → Grows rows s t
    stmt_grows (typed.Empty line s) = same rows s
    stmt_grows (typed.Run line e s t x h) = grows rows names h
    stmt_grows (typed.Block line ss s t xs h) = stmts_grow h
    stmt_grows (typed.If line c a s t u n x h g) = both rows (grows rows names h) (stmt_grows g)
    stmt_grows (typed.IfElse line c a b s t u v n x y h g k) = both rows (grows rows names h) (both rows (stmt_grows g) (stmt_grows k))
    stmt_grows (typed.While line c a s t u n x h g) = both rows (grows rows names h) (stmt_grows g)
    stmt_grows (typed.Do line a c s t u x n h g) = both rows (stmt_grows h) (grows rows names g)
    stmt_grows (typed.For line i c e a s t u v w j n k x h g l m) = both rows (value_grows h) (both rows (number_grows g) (both rows (value_grows l) (stmt_grows m)))
    stmt_grows (typed.Break line s) = same rows s
    stmt_grows (typed.Continue line s) = same rows s
    stmt_grows (typed.Return line e s t n h) = returns_grows h

    pub stmts_grow : {b : Bool} {ss : Stmts} {s t : Used} {xs : List CheckedStmt} → AreTyped names rows b ss s xs t → Grows rows s t
    stmts_grow (typed.Done s) = same rows s
    stmts_grow (typed.Then a ss s t u x xs h g) = both rows (stmt_grows h) (stmts_grow g)

  module _ (S : Source) (z : Stage) (last : Used) (w : Stands S z names) (l : Ends S rows last) where
    stmt_is : {x y : checked.Stmt} → x ≡ y → SoundStmt S z y → SoundStmt S z x
    stmt_is h p = subst (λ a. SoundStmt S z a) (sym h) p

    number_sound : {e : Option Expr} {s t : Used} {n : Option CheckedExpr} → MayHaveNumber names rows e s n t → Grows rows t last → SoundOption S z (option_map expr_of n)
    number_sound (typed.NoNumber s) e = tt
    number_sound (typed.Number x s t n h) e = expr_sound S z rows names last w l h e

    value_sound : {e : Option Expr} {s t : Used} {n : Option CheckedExpr} → MayHaveValue names rows e s n t → Grows rows t last → SoundOption S z (option_map expr_of n)
    value_sound (typed.NoValue s) e = tt
    value_sound (typed.Value y s t x h g) e = expr_sound S z rows names last w l h e

    returns_sound : {b : Bool} {e : Option Expr} {s t : Used} {n : Option CheckedExpr} → Returns names rows b e s n t → Grows rows t last → SoundOption S z (option_map expr_of n)
    returns_sound (typed.Nothing s) e = tt
    returns_sound (typed.Returned x s t n h) e = expr_sound S z rows names last w l h e

    mutual
      pub stmt_sound : {b : Bool} {a : Stmt} {s t : Used} {x : CheckedStmt} → IsTyped names rows b a s x t → Grows rows t last → SoundStmt S z (stmt_of x)
      stmt_sound (typed.Empty line s) e = stmt_is form.stmt_empty tt
      stmt_sound (typed.Run line c s t x h) e = stmt_is (form.stmt_expr x.tree) (expr_sound S z rows names last w l h e)
      stmt_sound (typed.Block line ss s t xs h) e = stmt_is (form.stmt_block xs) (stmts_sound h e)
      stmt_sound (typed.If line c a s t u n x h g) e = stmt_is (form.stmt_if n x) (expr_sound S z rows names last w l h (both rows (stmt_grows g) e), stmt_sound g e)
      stmt_sound (typed.IfElse line c a b s t u v n x y h g k) e =
          let end = both rows (stmt_grows k) e in
          stmt_is (form.stmt_if_else n x y) (expr_sound S z rows names last w l h (both rows (stmt_grows g) end), stmt_sound g end, stmt_sound k e)
      stmt_sound (typed.While line c a s t u n x h g) e = stmt_is (form.stmt_while n x) (expr_sound S z rows names last w l h (both rows (stmt_grows g) e), stmt_sound g e)
      stmt_sound (typed.Do line a c s t u x n h g) e = stmt_is (form.stmt_do x n) (expr_sound S z rows names last w l g e, stmt_sound h (both rows (grows rows names g) e))
      stmt_sound (typed.For line i c f a s t u v o j n k x h g p m) e =
          let third = both rows (stmt_grows m) e in let second = both rows (value_grows p) third in let first = both rows (number_grows g) second in
          stmt_is (form.stmt_for j n k x) (value_sound h first, number_sound g second, value_sound p third, stmt_sound m e)
      stmt_sound (typed.Break line s) e = stmt_is form.stmt_break tt
      stmt_sound (typed.Continue line s) e = stmt_is form.stmt_continue tt
      stmt_sound (typed.Return line x s t n h) e = stmt_is (form.stmt_return n) (returns_sound h e)

      pub stmts_sound : {b : Bool} {ss : Stmts} {s t : Used} {xs : List CheckedStmt} → AreTyped names rows b ss s xs t → Grows rows t last → SoundStmts S z (stmts_of xs)
      stmts_sound (typed.Done s) e = tt
      stmts_sound (typed.Then a ss s t u x xs h g) e = (stmt_sound h (both rows (stmts_grow g) e), stmts_sound g e)
