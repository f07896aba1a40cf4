-- What a statement begins with lies where its code stands.
use Rattle.std.proofs.Common.{◌≡◌, ℕ, suc, ◌+◌, ◌≤◌, List, [], ◌∷◌, ◌++◌, length, Option, Some, None, refl, subst, arith, length-append}
use Rattle.nx_checked.specs.Trees.{Expr, Stmt, Empty, Run, Block, If, IfElse, While, Do, For, Break, Continue, Return}
use Rattle.nx_cmean.specs.Items.{Item, Forget, Test, Leave, Fall, test_then, after_loop, next_turn, rest_then, begun}
use Rattle.nx_slot.specs.declared.op.Operand.TheVariants as operand
use Rattle.nx_slot.specs.declared.op.SlotOp.TheVariants as op
use Rattle.nx_slot.specs.Meaning.{Code}
use Rattle.nx_lower.specs.Code.{Source, expr_code}
use Rattle.nx_lower.specs.Bodies.{option_code, test_code, stmt_code, for_code}
use Rattle.nx_lower.specs.Sound.{Stage}
use Rattle.nx_lower.proofs.Cells.{Plain}
use Rattle.nx_lower.proofs.Steps.{has_front, has_back, ops_in}
use Rattle.nx_lower.proofs.Lies.{Hops, hop, Lies, stands, lies_more, lies_at}
use Rattle.nx_lower.proofs.Spread.{expr_lies}
use Rattle.nx_lower.proofs.Begun.{Begins, up, Stands, begins_up, rest_lies, option_lies, for_lies, do_lies, behind_lies, next_lies}

module _ (s : Source) (p : Code) (f : ℕ) where
  abbrev Start : List Item → ℕ → Stage → ℕ → Type 0
  Start k pc z o = Begins s p f k pc z o

  more_of : (back exit : ℕ) (k : List Item) (pc : ℕ) (z : Stage) (a b : ℕ) → a ≤ b → Lies s p f back exit k pc z 0 Plain a → Lies s p f back exit k pc z 0 Plain b
  more_of back exit k pc z a b le l = up s p f back exit k pc z a b le l

  begun_if : (c : Expr) (a : Stmt) (back exit : ℕ) (k : List Item) (pc : ℕ) (z : Stage) (on out o : ℕ) → Stands s p f back exit (If c a) k pc z on out o → Start (begun (If c a) k) pc z (o + 2)
  begun_if c a back exit k pc z on out o l =
      let cc' = expr_code s z.cells 0 c in let ca = stmt_code s z.cells on out a in
      let rest = test_code z.cells (length ca) ∷ ca in
      let h = has_back (ops_in p f) pc cc' rest l.has in
      let at = pc + length cc' in
      let e : pc + length (cc' ++ rest) ≡ at + 1 + length ca = omega (arith, length-append cc' rest) in
      let fits = l.fits in let turns = l.turns in let ends = l.ends in
      record {
        back = back;
        exit = exit;
        lies =
            expr_lies s p c f back exit (Test a None ∷ k) pc z 0 (o + 2) l.is.0 (omega (arith, fits)) (has_front (ops_in p f) pc cc' rest l.has)
            (stands s p f back exit (Test a None) k at z (suc 0) Plain (o + 2 + 16) (
              on,
              out,
              o,
              omega arith,
              (
                h.0,
                record {
                  has = h.1;
                  turns = omega (arith, turns, e);
                  ends = omega (arith, ends, e);
                  is = l.is.1;
                  fits = omega (arith, fits);
                  full = l.full;
                  behind = l.behind;
                  rest = lies_at s p f back exit k _ _ z 0 Plain o e l.rest;
                },
              ),
            ));
      }

  begun_if_else : (c : Expr) (a b : Stmt) (back exit : ℕ) (k : List Item) (pc : ℕ) (z : Stage) (on out o : ℕ) → Stands s p f back exit (IfElse c a b) k pc z on out o → Start (begun (IfElse c a b) k) pc z (o + 2)
  begun_if_else c a b back exit k pc z on out o l =
      let cc' = expr_code s z.cells 0 c in let cb = stmt_code s z.cells on out b in let ca = stmt_code s z.cells (1 + length cb + on) (1 + length cb + out) a in
      let sides = ca ++ op.Skip (length cb) ∷ cb in
      let rest = test_code z.cells (length ca + 1) ∷ sides in
      let h = has_back (ops_in p f) pc cc' rest l.has in
      let at = pc + length cc' in
      let g = has_back (ops_in p f) (at + 1) ca (op.Skip (length cb) ∷ cb) h.1 in
      let e : pc + length (cc' ++ rest) ≡ at + 1 + length ca + 1 + length cb = omega (arith, length-append cc' rest, length-append ca (op.Skip (length cb) ∷ cb)) in
      let fits = l.fits in let turns = l.turns in let ends = l.ends in
      record {
        back = back;
        exit = exit;
        lies =
            expr_lies s p c f back exit (Test a (Some b) ∷ k) pc z 0 (o + 2) l.is.0 (omega (arith, fits)) (has_front (ops_in p f) pc cc' rest l.has)
            (stands s p f back exit (Test a (Some b)) k at z (suc 0) Plain (o + 2 + 16) (
              on,
              out,
              o,
              omega arith,
              (
                h.0,
                has_front (ops_in p f) (at + 1) ca (op.Skip (length cb) ∷ cb) h.1,
                l.is.1,
                omega (arith, fits),
                g.0,
                record {
                  has = g.1;
                  turns = omega (arith, turns, e);
                  ends = omega (arith, ends, e);
                  is = l.is.2;
                  fits = omega (arith, fits);
                  full = l.full;
                  behind = l.behind;
                  rest = lies_at s p f back exit k _ _ z 0 Plain o e l.rest;
                },
              ),
            ));
      }

  begun_for : (a c t : Option Expr) (b : Stmt) (back exit : ℕ) (k : List Item) (pc : ℕ) (z : Stage) (on out o : ℕ) → Stands s p f back exit (For a c t b) k pc z on out o → Start (begun (For a c t b) k) pc z o
  begun_for a c t b back exit k pc z on out o l =
      let ca = option_code s z.cells a in let ct = option_code s z.cells t in
      let loop = for_code s z.cells c (stmt_code s z.cells 0 (length ct + 1) b) ct in
      let e : pc + length (ca ++ loop) ≡ pc + length ca + length loop = omega (arith, length-append ca loop) in
      let fits = l.fits in
      option_lies s p f a (test_then c t b k) pc z o (has_front (ops_in p f) pc ca loop l.has) l.is.0 (omega (arith, fits))
      (for_lies s p f c t b back exit k (pc + length ca) z o (has_back (ops_in p f) pc ca loop l.has) l.is.1 (omega (arith, fits)) l.is.2 (omega (arith, fits)) l.is.3 (omega (arith, fits)) l.full l.behind
      (lies_at s p f back exit k _ _ z 0 Plain o e l.rest))

  pub begun_lies : (st : Stmt) (back exit : ℕ) (k : List Item) (pc : ℕ) (z : Stage) (on out o : ℕ) → Stands s p f back exit st k pc z on out o → Start (begun st k) pc z (o + 2)
  begun_lies Empty back exit k pc z on out o l =
      let e : pc + 0 ≡ pc = omega arith in
      begins_up s p f k pc (pc + 0) z o (o + 2) e (omega arith) (record { back = back; exit = exit; lies = l.rest })
  begun_lies (Run e) back exit k pc z on out o l =
      let fits = l.fits in
      record {
        back = back;
        exit = exit;
        lies =
            expr_lies s p e f back exit (Forget ∷ k) pc z 0 (o + 2) l.is (omega (arith, fits)) l.has
            (stands s p f back exit Forget k (pc + length (expr_code s z.cells 0 e)) z (suc 0) Plain (o + 2 + 16) (more_of back exit k _ z o (o + 2 + 16) (omega arith) l.rest));
      }
  begun_lies (Block ss) back exit k pc z on out o l = record {
    back = back;
    exit = exit;
    lies = more_of back exit (rest_then ss k) pc z o (o + 2) (omega arith) (rest_lies s p f ss back exit k pc z on out o (record {
      has = l.has;
      turns = l.turns;
      ends = l.ends;
      is = l.is;
      fits = l.fits;
      full = l.full;
      behind = l.behind;
      rest = l.rest;
    }));
  }
  begun_lies (If c a) back exit k pc z on out o l = begun_if c a back exit k pc z on out o l
  begun_lies (IfElse c a b) back exit k pc z on out o l = begun_if_else c a b back exit k pc z on out o l
  begun_lies (While c a) back exit k pc z on out o l =
      let fits = l.fits in
      begins_up s p f (begun (While c a) k) pc pc z o (o + 2) refl (omega arith)
      (for_lies s p f (Some c) None a back exit k pc z o l.has l.is.0 (omega (arith, fits)) tt (omega (arith, fits)) l.is.1 (omega (arith, fits)) l.full l.behind l.rest)
  begun_lies (Do a c) back exit k pc z on out o l = begins_up s p f (begun (Do a c) k) pc pc z o (o + 2) refl (omega arith) (do_lies s p f c a back exit k pc z on out o l)
  begun_lies (For a c t b) back exit k pc z on out o l = begins_up s p f (begun (For a c t b) k) pc pc z o (o + 2) refl (omega arith) (begun_for a c t b back exit k pc z on out o l)
  begun_lies Break back exit k pc z on out o l =
      let ends = l.ends in
      let r = behind_lies s p f back exit k (pc + 1) z o l.behind l.rest in
      let e : pc + 1 + out ≡ exit = omega (arith, ends) in
      record { back = r.back; exit = r.exit; lies = lies_more s p f r.back r.exit (after_loop k) pc exit z 0 Plain 2 o (o + 2) (omega arith) (subst (λ q. Hops p f pc q 2) e (hop p f pc out l.has.0)) r.lies }
  begun_lies Continue back exit k pc z on out o l =
      let turns = l.turns in
      let r = next_lies s p f back exit k (pc + 1) z o l.behind l.rest in
      let e : pc + 1 + on ≡ back = omega (arith, turns) in
      record { back = r.back; exit = r.exit; lies = lies_more s p f r.back r.exit (next_turn k) pc back z 0 Plain 2 o (o + 2) (omega arith) (subst (λ q. Hops p f pc q 2) e (hop p f pc on l.has.0)) r.lies }
  begun_lies (Return None) back exit k pc z on out o l = record { back = pc; exit = pc; lies = stands s p f pc pc Fall k pc z 0 Plain (o + 2) (l.has.0, l.full, refl, refl) }
  begun_lies (Return (Some e)) back exit k pc z on out o l =
      let ce = expr_code s z.cells 0 e in let last = op.Give (operand.Cell z.cells) in
      let h = has_back (ops_in p f) pc ce (last ∷ []) l.has in
      let fits = l.fits in
      record {
        back = back;
        exit = exit;
        lies =
            expr_lies s p e f back exit (Leave ∷ k) pc z 0 (o + 2) l.is (omega (arith, fits)) (has_front (ops_in p f) pc ce (last ∷ []) l.has)
            (stands s p f back exit Leave k (pc + length ce) z (suc 0) Plain (o + 2 + 16) (h.0, l.full));
      }
