-- The cells that statements and functions name.
use Rattle.std.proofs.Common.{◌≡◌, ℕ, suc, ◌+◌, ◌≤◌, List, [], ◌∷◌, ◌++◌, length, Option, Some, None, refl, sym, subst, arith}
use Rattle.nx_base.specs.Calls.{Rows}
use Rattle.nx_checked.specs.declared.checked.Scalar.{Scalar}
use Rattle.nx_checked.specs.declared.checked.Scalar.TheVariants as scalar
use Rattle.nx_checked.specs.declared.checked.Shape.{Shape}
use Rattle.nx_checked.specs.Trees.{Expr, Stmt, Empty, Run, Block, If, IfElse, While, Do, For, Break, Continue, Return, Stmts, Done, Then, Fun}
use Rattle.nx_cmean.specs.Meaning.{fun_at}
use Rattle.nx_slot.specs.declared.op.Operand.TheVariants as operand
use Rattle.nx_slot.specs.declared.op.SlotOp.{SlotOp}
use Rattle.nx_slot.specs.declared.op.SlotOp.TheVariants as op
use Rattle.nx_slot.specs.declared.program.SlotFunction.{SlotFunction}
use Rattle.nx_codegen.specs.Cells.{IsCell, AllHaveCells}
use Rattle.nx_lower.specs.Code.{Source, expr_code}
use Rattle.nx_lower.specs.Bodies.{temps_of, option_temps, all_temps, stmt_temps, stmts_temps, fun_temps, option_code, test_code, loop_code, for_code, stmt_code, stmts_code, start_code, starts_code, makes_code, initials_code, cells_of, fun_code, lower_fun}
use Rattle.nx_lower.specs.Sound.{Stage, whole, SoundExpr, SoundOption, SoundStmt, SoundStmts, SoundAll, SoundFun, SoundProgram}
use Rattle.nx_framed.specs.Laws.{NamesItsCells, FunctionsNameTheirCells}
use Rattle.nx_framed.proofs.Temporaries.{some_value}
use Rattle.nx_framed.proofs.Operations.{all_both}
use Rattle.nx_framed.proofs.Expressions.{expr_cells}

module _ (s : Source) (rows : Rows) (w : SoundProgram s rows) (g : SlotFunction) (z : Stage) (same : z.cells ≡ g.locals) where
  abbrev n : ℕ
  n = g.locals

  value : (e : Expr) → SoundExpr s z e → temps_of e ≤ g.temporaries → AllHaveCells g (expr_code s n 0 e)
  value e sound fits = expr_cells s rows w g z same e 0 sound (omega (arith, fits))

  first : (e : Expr) → temps_of e ≤ g.temporaries → IsCell g n
  first e fits = let h = some_value e in omega (arith, fits, h)

  option_cells : (e : Option Expr) → SoundOption s z e → option_temps e ≤ g.temporaries → AllHaveCells g (option_code s n e)
  option_cells None sound fits = tt
  option_cells (Some e) sound fits = value e sound fits

  loop_cells : (e : Expr) (a t : List SlotOp) → SoundExpr s z e → temps_of e ≤ g.temporaries → AllHaveCells g a → AllHaveCells g t → AllHaveCells g (loop_code n (expr_code s n 0 e) a t)
  loop_cells e a t sound fits h k =
      let c = expr_code s n 0 e in let back = op.Back (length c + 1 + length a + length t) ∷ [] in
      all_both g c (test_code n (length a + length t + 1) ∷ (a ++ (t ++ back))) (value e sound fits) ((first e fits, tt), all_both g a (t ++ back) h (all_both g t back k (tt, tt)))

  for_cells : (c : Option Expr) (a t : List SlotOp) → SoundOption s z c → option_temps c ≤ g.temporaries → AllHaveCells g a → AllHaveCells g t → AllHaveCells g (for_code s n c a t)
  for_cells None a t sound fits h k = let back = op.Back (length a + length t) ∷ [] in all_both g a (t ++ back) h (all_both g t back k (tt, tt))
  for_cells (Some c) a t sound fits h k = loop_cells c a t sound fits h k

  mutual
    stmt_cells : (a : Stmt) (on out : ℕ) → SoundStmt s z a → stmt_temps a ≤ g.temporaries → AllHaveCells g (stmt_code s n on out a)
    stmt_cells Empty on out sound fits = tt
    stmt_cells (Run e) on out sound fits = value e sound fits
    stmt_cells (Block ss) on out sound fits = stmts_cells ss on out sound fits
    stmt_cells (If c a) on out sound fits =
        let ca = stmt_code s n on out a in
        all_both g (expr_code s n 0 c) (test_code n (length ca) ∷ ca) (value c sound.0 (omega (arith, fits))) ((first c (omega (arith, fits)), tt), stmt_cells a on out sound.1 (omega (arith, fits)))
    stmt_cells (IfElse c a b) on out sound fits =
        let cb = stmt_code s n on out b in let ca = stmt_code s n (1 + length cb + on) (1 + length cb + out) a in
        all_both g (expr_code s n 0 c) (test_code n (length ca + 1) ∷ (ca ++ op.Skip (length cb) ∷ cb)) (value c sound.0 (omega (arith, fits)))
        ((first c (omega (arith, fits)), tt), all_both g ca (op.Skip (length cb) ∷ cb) (stmt_cells a (1 + length cb + on) (1 + length cb + out) sound.1 (omega (arith, fits))) (tt, stmt_cells b on out sound.2 (omega (arith, fits))))
    stmt_cells (While c a) on out sound fits = loop_cells c (stmt_code s n 0 1 a) [] sound.0 (omega (arith, fits)) (stmt_cells a 0 1 sound.1 (omega (arith, fits))) tt
    stmt_cells (Do a c) on out sound fits =
        let cc = expr_code s n 0 c in let ca = stmt_code s n 0 (length cc + 2) a in let tail = test_code n 1 ∷ op.Back (length ca + length cc + 1) ∷ [] in
        all_both g ca (cc ++ tail) (stmt_cells a 0 (length cc + 2) sound.1 (omega (arith, fits))) (all_both g cc tail (value c sound.0 (omega (arith, fits))) ((first c (omega (arith, fits)), tt), (tt, tt)))
    stmt_cells (For a c t b) on out sound fits =
        let ct = option_code s n t in let cb = stmt_code s n 0 (length ct + 1) b in
        all_both g (option_code s n a) (for_code s n c cb ct) (option_cells a sound.0 (omega (arith, fits)))
        (for_cells c cb ct sound.1 (omega (arith, fits)) (stmt_cells b 0 (length ct + 1) sound.3 (omega (arith, fits))) (option_cells t sound.2 (omega (arith, fits))))
    stmt_cells Break on out sound fits = (tt, tt)
    stmt_cells Continue on out sound fits = (tt, tt)
    stmt_cells (Return None) on out sound fits = (tt, tt)
    stmt_cells (Return (Some e)) on out sound fits = all_both g (expr_code s n 0 e) (op.Give (operand.Cell n) ∷ []) (value e sound fits) (first e fits, tt)

    stmts_cells : (ss : Stmts) (on out : ℕ) → SoundStmts s z ss → stmts_temps ss ≤ g.temporaries → AllHaveCells g (stmts_code s n on out ss)
    stmts_cells Done on out sound fits = tt
    stmts_cells (Then a ss) on out sound fits =
        let cs = stmts_code s n on out ss in
        all_both g (stmt_code s n (length cs + on) (length cs + out) a) cs (stmt_cells a (length cs + on) (length cs + out) sound.0 (omega (arith, fits))) (stmts_cells ss on out sound.1 (omega (arith, fits)))

  initials_cells : (es : List Expr) → SoundAll s z es → all_temps es ≤ g.temporaries → AllHaveCells g (initials_code s n es)
  initials_cells [] sound fits = tt
  initials_cells (e ∷ es) sound fits = all_both g (expr_code s n 0 e) (initials_code s n es) (value e sound.0 (omega (arith, fits))) (initials_cells es sound.1 (omega (arith, fits)))

  start_cells : (t : Scalar) (i : ℕ) → IsCell g i → AllHaveCells g (start_code t i)
  start_cells scalar.Int i h = ((h, tt), tt)
  start_cells scalar.Char i h = ((h, tt), tt)
  start_cells (scalar.Pointer v) i h = ((h, tt), ((h, h), tt))

  starts_cells : (ts : List Scalar) (i : ℕ) → i + length ts ≤ g.locals → AllHaveCells g (starts_code ts i)
  starts_cells [] i h = tt
  starts_cells (t ∷ ts) i h = all_both g (start_code t i) (starts_code ts (suc i)) (start_cells t i (omega (arith, h))) (starts_cells ts (suc i) (omega (arith, h)))

  makes_cells : (arrays : List Shape) (k : ℕ) → AllHaveCells g (makes_code arrays k)
  makes_cells [] k = tt
  makes_cells (a ∷ arrays) k = (tt, makes_cells arrays (suc k))

  body_cells : (f : Fun) → cells_of f ≡ g.locals → fun_temps f ≡ g.temporaries → SoundFun s f → z ≡ whole f
      → AllHaveCells g (starts_code f.locals (length f.params) ++ (makes_code f.arrays 0 ++ (initials_code s n f.initials ++ (stmts_code s n 0 0 f.body ++ op.Give (operand.Number 0) ∷ []))))
  body_cells f c t sound e =
      let last = op.Give (operand.Number 0) ∷ [] in let body = stmts_code s n 0 0 f.body in let initials = initials_code s n f.initials in let makes = makes_code f.arrays 0 in
      all_both g (starts_code f.locals (length f.params)) (makes ++ (initials ++ (body ++ last))) (starts_cells f.locals (length f.params) (omega (arith, c)))
      (all_both g makes (initials ++ (body ++ last)) (makes_cells f.arrays 0)
      (all_both g initials (body ++ last) (initials_cells f.initials (given e sound.initials) (omega (arith, t)))
      (all_both g body last (stmts_cells f.body 0 0 (ran e sound.body) (omega (arith, t))) (tt, tt))))
    where
      given : z ≡ whole f → SoundAll s (whole f) f.initials → SoundAll s z f.initials
      given e h = subst (λ z. SoundAll s z f.initials) (sym e) h

      ran : z ≡ whole f → SoundStmts s (whole f) f.body → SoundStmts s z f.body
      ran e h = subst (λ z. SoundStmts s z f.body) (sym e) h

function_names : (s : Source) (rows : Rows) (w : SoundProgram s rows) (f : Fun) → SoundFun s f → NamesItsCells (lower_fun s f)
unfolding fun_code
function_names s rows w f sound = record {
  operations = body_cells s rows w (lower_fun s f) (whole f) refl f refl refl sound refl;
  params = sound.few;
  has_params = omega arith;
}

pub functions_name : FunctionsNameTheirCells
functions_name s rows f w h = function_names s rows w (fun_at s.program f) (w.functions f h)
