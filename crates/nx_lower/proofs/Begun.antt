-- Where what a statement begins with lies.
use Rattle.std.proofs.Common.{◌≡◌, ℕ, suc, ◌+◌, ◌≤◌, List, [], ◌∷◌, ◌++◌, length, Option, Some, None, refl, sym, subst, arith, length-append}
use Rattle.nx_checked.specs.Trees.{Expr, Stmt, Do, Stmts, Done, Then}
use Rattle.nx_cmean.specs.Items.{Item, Forget, Exec, Rest, FirstTest, TestLoop, Turn, Again, Fall, option_then, rest_then, test_then, after_loop, next_turn}
use Rattle.nx_slot.specs.declared.op.SlotOp.TheVariants as op
use Rattle.nx_slot.specs.Meaning.{Code, function_at}
use Rattle.nx_lower.specs.Code.{Source, expr_code}
use Rattle.nx_lower.specs.Bodies.{option_temps, stmt_temps, stmts_temps, option_code, test_code, stmt_code, stmts_code, for_code}
use Rattle.nx_lower.specs.Sound.{Stage, SoundOption, SoundStmt, SoundStmts}
use Rattle.nx_lower.proofs.Cells.{Top, Plain}
use Rattle.nx_lower.proofs.Steps.{HasAt, has_front, has_back, ops_in, limit}
use Rattle.nx_lower.proofs.Lies.{Hops, hops_here, back_hop, Body, StmtLies, LoopLies, Lies, stands, lies_more, lies_at}
use Rattle.nx_lower.proofs.Spread.{expr_lies}

module _ (s : Source) (p : Code) (f : ℕ) where
  abbrev Next : List Item → ℕ → ℕ → ℕ → Stage → ℕ → Top → ℕ → Type 0
  Next k back exit pc z d top o = Lies s p f back exit k pc z d top o

  abbrev Loop : ℕ → ℕ → Option Expr → Option Expr → Stmt → List Item → ℕ → ℕ → ℕ → Stage → ℕ → Type 0
  Loop back exit c t st k again turn end z o = LoopLies s p f back exit c t st (Body k) (λ back exit pc z d top o. Lies s p f back exit k pc z d top o) again turn end z o

  -- What remains lies here, in some loop.
  pub record Begins (k : List Item) (pc : ℕ) (z : Stage) (o : ℕ) : Type 0 where
    pub back : ℕ
    pub exit : ℕ
    pub lies : Lies s p f back exit k pc z 0 Plain o

  pub up : (back exit : ℕ) (k : List Item) (pc : ℕ) (z : Stage) (a b : ℕ) → a ≤ b → Lies s p f back exit k pc z 0 Plain a → Lies s p f back exit k pc z 0 Plain b
  up back exit k pc z a b le l = lies_more s p f back exit k pc pc z 0 Plain 0 a b (omega (arith, le)) (hops_here p f pc) l

  pub begins_up : (k : List Item) (pc q : ℕ) (z : Stage) (a b : ℕ) → q ≡ pc → a ≤ b → Begins k q z a → Begins k pc z b
  begins_up k pc q z a b e le l = record { back = l.back; exit = l.exit; lies = up l.back l.exit k pc z a b le (lies_at s p f l.back l.exit k q pc z 0 Plain a e l.lies) }

  -- A loop's body, and then its next turn.
  turn_lies : (c t : Option Expr) (st : Stmt) (back exit : ℕ) (k : List Item) (again turn end : ℕ) (z : Stage) (o : ℕ) → Loop back exit c t st k again turn end z o → Lies s p f turn end (Turn c t st ∷ k) turn z 0 Plain o
  turn_lies c t st back exit k again turn end z o l = stands s p f turn end (Turn c t st) k turn z 0 Plain o (again, end, refl, refl, back, exit, l)

  pub body_lies : (c t : Option Expr) (st : Stmt) (back exit : ℕ) (k : List Item) (again turn end : ℕ) (z : Stage) (o : ℕ) → (l : Loop back exit c t st k again turn end z o) → Lies s p f turn end (Exec st ∷ Turn c t st ∷ k) l.body z 0 Plain o
  body_lies c t st back exit k again turn end z o l =
      let turns = l.turns in let ends = l.ends in
      stands s p f turn end (Exec st) (Turn c t st ∷ k) l.body z 0 Plain o (
        0,
        l.out,
        record {
          has = l.has;
          turns = omega (arith, turns);
          ends = omega (arith, turns, ends);
          is = l.sound;
          fits = l.fits;
          full = l.full;
          behind = l.behind;
          rest = lies_at s p f turn end (Turn c t st ∷ k) turn _ z 0 Plain o (sym turns) (turn_lies c t st back exit k again turn end z o l);
        },
      )

  -- A loop's test, where it has one, and what follows it.
  pub test_lies : (c t : Option Expr) (st : Stmt) (back exit : ℕ) (k : List Item) (again turn end : ℕ) (z : Stage) (o : ℕ) → Loop back exit c t st k again turn end z o → Begins (test_then c t st k) again z o
  test_lies None t st back exit k again turn end z o l = record { back = turn; exit = end; lies = lies_at s p f turn end (Exec st ∷ Turn None t st ∷ k) l.body again z 0 Plain o (sym l.test) (body_lies None t st back exit k again turn end z o l) }
  test_lies (Some c) t st back exit k again turn end z o l =
      let q = l.test in
      record {
        back = back;
        exit = exit;
        lies =
            expr_lies s p c f back exit (TestLoop c t st ∷ k) again z 0 o q.1 q.2 q.0
            (stands s p f back exit (TestLoop c t st) k (again + length (expr_code s z.cells 0 c)) z (suc 0) Plain (o + 16) (again, turn, end, o, omega arith, refl, l));
      }

  -- Its third part, and then its next test.
  pub third_lies : (c t : Option Expr) (st : Stmt) (back exit : ℕ) (k : List Item) (again turn end : ℕ) (z : Stage) (o : ℕ) → Loop back exit c t st k again turn end z o → Lies s p f back exit (option_then t (Again c t st ∷ k)) turn z 0 Plain o
  third_lies c None st back exit k again turn end z o l =
      let e : turn + 0 ≡ turn = omega arith in
      lies_at s p f back exit (Again c None st ∷ k) (turn + 0) turn z 0 Plain o e (stands s p f back exit (Again c None st) k (turn + 0) z 0 Plain o (again, turn, end, l.way, l))
  third_lies c (Some t) st back exit k again turn end z o l =
      let fits = l.third_fits in
      expr_lies s p t f back exit (Forget ∷ Again c (Some t) st ∷ k) turn z 0 o l.third_sound (omega (arith, fits)) l.third
      (stands s p f back exit Forget (Again c (Some t) st ∷ k) (turn + length (expr_code s z.cells 0 t)) z (suc 0) Plain (o + 16)
      (up back exit (Again c (Some t) st ∷ k) _ z o (o + 16) (omega arith)
      (stands s p f back exit (Again c (Some t) st) k (turn + length (expr_code s z.cells 0 t)) z 0 Plain o (again, turn, end, l.way, l))))

  -- After the innermost loop, and at its next turn.
  pub behind_lies : (back exit : ℕ) (k : List Item) (pc : ℕ) (z : Stage) (o : ℕ) → Body k → Lies s p f back exit k pc z 0 Plain o → Begins (after_loop k) exit z o
  behind_lies back exit [] pc z o body l = absurd l
  behind_lies back exit (Turn c t st ∷ k) pc z o body l =
      let q = l.5 in let paid = l.3 in
      begins_up k exit q.1 z l.2 o q.3 (omega (arith, paid)) (record { back = q.4; exit = q.5; lies = q.6.rest })
  behind_lies back exit (FirstTest c st ∷ k) pc z o body l =
      let q = l.5 in let paid = l.3 in
      begins_up k exit q.0 z l.2 o q.2 (omega (arith, paid)) (record { back = q.3; exit = q.4; lies = q.5.rest })
  behind_lies back exit (Fall ∷ k) pc z o body l =
      let q = l.5 in let paid = l.3 in
      begins_up (Fall ∷ k) exit l.0 z l.2 o q.3 (omega (arith, paid)) (record { back = back; exit = exit; lies = stands s p f back exit Fall k l.0 z 0 Plain l.2 q })
  behind_lies back exit (Exec st ∷ k) pc z o body l =
      let paid = l.3 in
      begins_up (after_loop k) exit exit z l.2 o refl (omega (arith, paid)) (behind_lies back exit k _ z l.2 body l.5.2.rest)
  behind_lies back exit (Rest ss ∷ k) pc z o body l =
      let paid = l.3 in
      begins_up (after_loop k) exit exit z l.2 o refl (omega (arith, paid)) (behind_lies back exit k _ z l.2 body l.5.2.rest)
  behind_lies back exit (Again c t st ∷ k) pc z o body l =
      let paid = l.3 in
      begins_up (after_loop k) exit exit z l.2 o refl (omega (arith, paid)) (behind_lies back exit k _ z l.2 body l.5.4.rest)
  behind_lies back exit (i ∷ k) pc z o body l = absurd body

  pub next_lies : (back exit : ℕ) (k : List Item) (pc : ℕ) (z : Stage) (o : ℕ) → Body k → Lies s p f back exit k pc z 0 Plain o → Begins (next_turn k) back z o
  next_lies back exit [] pc z o body l = absurd l
  next_lies back exit (Turn c t st ∷ k) pc z o body l =
      let q = l.5 in let paid = l.3 in
      begins_up (Turn c t st ∷ k) back l.0 z l.2 o q.2 (omega (arith, paid)) (record { back = back; exit = exit; lies = stands s p f back exit (Turn c t st) k l.0 z 0 Plain l.2 q })
  next_lies back exit (FirstTest c st ∷ k) pc z o body l =
      let q = l.5 in let paid = l.3 in
      begins_up (FirstTest c st ∷ k) back l.0 z l.2 o q.1 (omega (arith, paid)) (record { back = back; exit = exit; lies = stands s p f back exit (FirstTest c st) k l.0 z 0 Plain l.2 q })
  next_lies back exit (Fall ∷ k) pc z o body l =
      let q = l.5 in let paid = l.3 in
      begins_up (Fall ∷ k) back l.0 z l.2 o q.2 (omega (arith, paid)) (record { back = back; exit = exit; lies = stands s p f back exit Fall k l.0 z 0 Plain l.2 q })
  next_lies back exit (Exec st ∷ k) pc z o body l =
      let paid = l.3 in
      begins_up (next_turn k) back back z l.2 o refl (omega (arith, paid)) (next_lies back exit k _ z l.2 body l.5.2.rest)
  next_lies back exit (Rest ss ∷ k) pc z o body l =
      let paid = l.3 in
      begins_up (next_turn k) back back z l.2 o refl (omega (arith, paid)) (next_lies back exit k _ z l.2 body l.5.2.rest)
  next_lies back exit (Again c t st ∷ k) pc z o body l =
      let paid = l.3 in
      begins_up (next_turn k) back back z l.2 o refl (omega (arith, paid)) (next_lies back exit k _ z l.2 body l.5.4.rest)
  next_lies back exit (i ∷ k) pc z o body l = absurd body

  abbrev pub Stands : ℕ → ℕ → Stmt → List Item → ℕ → Stage → ℕ → ℕ → ℕ → Type 0
  Stands back exit st k pc z on out o = StmtLies s p f back exit (stmt_code s z.cells on out st) (SoundStmt s z st) (stmt_temps st) (Body k) (λ back exit pc z d top o. Lies s p f back exit k pc z d top o) pc z on out o

  abbrev pub AllStand : ℕ → ℕ → Stmts → List Item → ℕ → Stage → ℕ → ℕ → ℕ → Type 0
  AllStand back exit ss k pc z on out o = StmtLies s p f back exit (stmts_code s z.cells on out ss) (SoundStmts s z ss) (stmts_temps ss) (Body k) (λ back exit pc z d top o. Lies s p f back exit k pc z d top o) pc z on out o

  pub rest_lies : (ss : Stmts) (back exit : ℕ) (k : List Item) (pc : ℕ) (z : Stage) (on out o : ℕ) → AllStand back exit ss k pc z on out o → Lies s p f back exit (rest_then ss k) pc z 0 Plain o
  rest_lies Done back exit k pc z on out o l = let e : pc + 0 ≡ pc = omega arith in lies_at s p f back exit k (pc + 0) pc z 0 Plain o e l.rest
  rest_lies (Then a ss) back exit k pc z on out o l = stands s p f back exit (Rest (Then a ss)) k pc z 0 Plain o (on, out, l)

  -- An expression that may be absent, and what follows it.
  pub option_lies : (t : Option Expr) (k : List Item) (pc : ℕ) (z : Stage) (o : ℕ) → HasAt (ops_in p f) pc (option_code s z.cells t) → SoundOption s z t → z.cells + option_temps t ≤ limit p f → Begins k (pc + length (option_code s z.cells t)) z o → Begins (option_then t k) pc z o
  option_lies None k pc z o has sound fits l = let e : pc + 0 ≡ pc = omega arith in begins_up k pc (pc + 0) z o o e (omega arith) l
  option_lies (Some t) k pc z o has sound fits l = record {
    back = l.back;
    exit = l.exit;
    lies =
        expr_lies s p t f l.back l.exit (Forget ∷ k) pc z 0 o sound (omega (arith, fits)) has
        (stands s p f l.back l.exit Forget k (pc + length (expr_code s z.cells 0 t)) z (suc 0) Plain (o + 16) (up l.back l.exit k _ z o (o + 16) (omega arith) l.lies));
  }

  -- A loop with its test first, or without one.
  pub for_lies : (c t : Option Expr) (st : Stmt) (back exit : ℕ) (k : List Item) (pc : ℕ) (z : Stage) (o : ℕ)
      → HasAt (ops_in p f) pc (for_code s z.cells c (stmt_code s z.cells 0 (length (option_code s z.cells t) + 1) st) (option_code s z.cells t))
      → SoundOption s z c → z.cells + option_temps c ≤ limit p f → SoundOption s z t → z.cells + option_temps t ≤ limit p f → SoundStmt s z st → z.cells + stmt_temps st ≤ limit p f → z.made ≡ length (function_at p f).arrays → Body k
      → Lies s p f back exit k (pc + length (for_code s z.cells c (stmt_code s z.cells 0 (length (option_code s z.cells t) + 1) st) (option_code s z.cells t))) z 0 Plain o → Begins (test_then c t st k) pc z o
  for_lies None t st back exit k pc z o has cs cf ts tf ss sf full body l =
      let ct = option_code s z.cells t in let cb = stmt_code s z.cells 0 (length ct + 1) st in
      let last = op.Back (length cb + length ct) in
      let h = has_back (ops_in p f) pc cb (ct ++ last ∷ []) has in
      let g = has_back (ops_in p f) (pc + length cb) ct (last ∷ []) h in
      let e : pc + length (cb ++ (ct ++ last ∷ [])) ≡ pc + length cb + (length ct + 1) = omega (arith, length-append cb (ct ++ last ∷ []), length-append ct (last ∷ [])) in
      test_lies None t st back exit k pc (pc + length cb) (pc + length cb + (length ct + 1)) z o
      (record {
        body = pc;
        out = length ct + 1;
        test = refl;
        has = has_front (ops_in p f) pc cb (ct ++ last ∷ []) has;
        turns = refl;
        ends = refl;
        sound = ss;
        fits = sf;
        third = has_front (ops_in p f) (pc + length cb) ct (last ∷ []) h;
        third_sound = ts;
        third_fits = tf;
        way = (length cb + length ct, g.0, omega arith);
        full = full;
        behind = body;
        rest = lies_at s p f back exit k _ _ z 0 Plain o e l;
      })
  for_lies (Some c) t st back exit k pc z o has cs cf ts tf ss sf full body l =
      let cc' = expr_code s z.cells 0 c in let ct = option_code s z.cells t in let cb = stmt_code s z.cells 0 (length ct + 1) st in
      let last = op.Back (length cc' + 1 + length cb + length ct) in
      let test = test_code z.cells (length cb + length ct + 1) in
      let w = has_back (ops_in p f) pc cc' (test ∷ (cb ++ (ct ++ last ∷ []))) has in
      let b = pc + length cc' + 1 in
      let h = has_back (ops_in p f) b cb (ct ++ last ∷ []) w.1 in
      let g = has_back (ops_in p f) (b + length cb) ct (last ∷ []) h in
      let e : pc + length (cc' ++ test ∷ (cb ++ (ct ++ last ∷ []))) ≡ b + length cb + (length ct + 1) = omega (arith, length-append cc' (test ∷ (cb ++ (ct ++ last ∷ []))), length-append cb (ct ++ last ∷ []), length-append ct (last ∷ [])) in
      test_lies (Some c) t st back exit k pc (b + length cb) (b + length cb + (length ct + 1)) z o
      (record {
        body = b;
        out = length ct + 1;
        test = (has_front (ops_in p f) pc cc' (test ∷ (cb ++ (ct ++ last ∷ []))) has, cs, omega (arith, cf), length cb + length ct + 1, w.0, omega arith, 0, omega arith, hops_here p f b);
        has = has_front (ops_in p f) b cb (ct ++ last ∷ []) w.1;
        turns = refl;
        ends = refl;
        sound = ss;
        fits = sf;
        third = has_front (ops_in p f) (b + length cb) ct (last ∷ []) h;
        third_sound = ts;
        third_fits = tf;
        way = (2, omega arith, back_hop p f (b + length cb + length ct) pc (length cc' + 1 + length cb + length ct) (omega arith) g.0);
        full = full;
        behind = body;
        rest = lies_at s p f back exit k _ _ z 0 Plain o e l;
      })

  -- A loop with its test last.
  pub do_lies : (c : Expr) (st : Stmt) (back exit : ℕ) (k : List Item) (pc : ℕ) (z : Stage) (on out o : ℕ) → Stands back exit (Do st c) k pc z on out o → Begins (Exec st ∷ FirstTest c st ∷ k) pc z o
  do_lies c st back exit k pc z on out o l =
      let cc' = expr_code s z.cells 0 c in let cb = stmt_code s z.cells 0 (length cc' + 2) st in
      let test = test_code z.cells 1 in let last = op.Back (length cb + length cc' + 1) in
      let tail = cc' ++ test ∷ last ∷ [] in
      let h = has_back (ops_in p f) pc cb tail l.has in
      let a = pc + length cb in
      let g = has_back (ops_in p f) a cc' (test ∷ last ∷ []) h in
      let end = a + (length cc' + 2) in
      let e : pc + length (cb ++ tail) ≡ end = omega (arith, length-append cb tail, length-append cc' (test ∷ last ∷ [])) in
      let fits = l.fits in
      let n : a + 0 ≡ a = omega arith in
      let loop : Loop back exit (Some c) None st k a a end z o = record {
        body = pc;
        out = length cc' + 2;
        test = (has_front (ops_in p f) a cc' (test ∷ last ∷ []) h, l.is.0, omega (arith, fits), 1, g.0, omega arith, 2, omega arith, back_hop p f (a + length cc' + 1) pc (length cb + length cc' + 1) (omega arith) g.1.0);
        has = has_front (ops_in p f) pc cb tail l.has;
        turns = refl;
        ends = refl;
        sound = l.is.1;
        fits = omega (arith, fits);
        third = tt;
        third_sound = tt;
        third_fits = omega (arith, fits);
        way = (0, omega arith, subst (λ q. Hops p f q a 0) (sym n) (hops_here p f a));
        full = l.full;
        behind = l.behind;
        rest = lies_at s p f back exit k _ _ z 0 Plain o e l.rest;
      } in
      record {
        back = a;
        exit = end;
        lies = stands s p f a end (Exec st) (FirstTest c st ∷ k) pc z 0 Plain o (
          0,
          length cc' + 2,
          record {
            has = loop.has;
            turns = omega arith;
            ends = omega arith;
            is = loop.sound;
            fits = loop.fits;
            full = l.full;
            behind = l.behind;
            rest = stands s p f a end (FirstTest c st) k a z 0 Plain o (end, refl, refl, back, exit, loop);
          },
        );
      }
