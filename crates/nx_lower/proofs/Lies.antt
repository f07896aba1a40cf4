-- Where the code of what remains to be evaluated stands.
use Rattle.std.proofs.Common.{◌≡◌, ℕ, zero, suc, ◌+◌, ◌-◌, ◌*◌, ◌<◌, ◌≤◌, ◌⊎◌, inr, Bool, List, [], ◌∷◌, ◌++◌, length, Option, Some, None, refl, subst, arith}
use Rattle.std.specs.Prelude.{slice_get}
use Rattle.nx_checked.specs.declared.checked.Cell.{Cell}
use Rattle.nx_checked.specs.declared.checked.Scalar.{Scalar}
use Rattle.nx_checked.specs.declared.checked.IntOperator.{IntOperator}
use Rattle.nx_checked.specs.declared.checked.StepValue.{StepValue}
use Rattle.nx_checked.specs.Trees.{Expr, Constant, Stmt}
use Rattle.nx_cobjects.specs.declared.value.Prefix.{Prefix}
use Rattle.nx_cobjects.specs.declared.value.Prefix.TheVariants as before
use Rattle.nx_cobjects.specs.declared.value.Infix.{Infix}
use Rattle.nx_cobjects.specs.declared.value.Infix.TheVariants as between
use Rattle.nx_cmean.specs.declared.item.Leaf.TheVariants as leaf
use Rattle.nx_cmean.specs.Items.{Item, Take, Get, Alter, Apply, Write, Raise, Bump, Reached, Fetch, FetchAt, Lay, Lift, Shift, AndThen, OrElse, Choose, Chosen, Ask, Enter, Called, Forget, Exec, Rest, Test, FirstTest, TestLoop, Turn, Again, Leave, Fall, Start, Gap, Make, items_then, steps_of}
use Rattle.nx_cmean.specs.Meaning.{fun_at}
use Rattle.nx_slot.specs.declared.op.Operand.{Operand}
use Rattle.nx_slot.specs.declared.op.Operand.TheVariants as operand
use Rattle.nx_slot.specs.declared.op.Comparison.TheVariants as compare
use Rattle.nx_slot.specs.declared.op.Unary.TheVariants as unary
use Rattle.nx_slot.specs.declared.op.SlotOp.{SlotOp}
use Rattle.nx_slot.specs.declared.op.SlotOp.TheVariants as op
use Rattle.nx_slot.specs.Objects as slot
use Rattle.nx_slot.specs.Meaning.{Code, SlotFrame, function_at}
use Rattle.nx_lower.specs.Shown.{width_of}
use Rattle.nx_lower.specs.Code.{Source, text_object, number_of, binary_of, truth_code, prefix_code, convert_code, right_of, right_code, kept_code, write_code, read_code, array_code, cut_code, raise_code, stepping_operator, step_number, new_cell, negate_code, arguments_code, step_element_code, expr_code}
use Rattle.nx_lower.specs.Bodies.{temps_of, option_temps, stmt_temps, stmts_temps, option_code, test_code, stmt_code, stmts_code, start_code, array_of}
use Rattle.nx_lower.specs.Sound.{Stage, IsCell, IsArray, IsCall, SoundExpr, SoundOption, SoundStmt, SoundStmts}
use Rattle.nx_lower.proofs.Cells.{Top, Plain, Fixed, right}
use Rattle.nx_lower.proofs.Steps.{HasAt, has_front, has_back, Leads, leads_here, leads_on, leads_some, ops_in, limit, at_place, skip, goes_back}

-- Jumps alone lead from one place to another.
pub record Hops (p : Code) (f a b c : ℕ) : Type 0 where
  pub by : (wants : ℕ) (names : List ℕ) (below : List SlotFrame) (cells : List slot.Value) (os : List slot.Object) → Leads p (at_place p f wants names below a cells os) (at_place p f wants names below b cells os) c 0

pub hops_here : (p : Code) (f a : ℕ) → Hops p f a a 0
hops_here p f a = record { by = λ wants names below cells os. leads_here p _ }

pub hops_on : (p : Code) (f a b c x y : ℕ) → Hops p f a b x → Hops p f b c y → Hops p f a c (x + y)
hops_on p f a b c x y g h = record { by = λ wants names below cells os. leads_on p _ _ _ x y 0 0 (g.by wants names below cells os) (h.by wants names below cells os) }

pub hop : (p : Code) (f a n : ℕ) → slice_get (ops_in p f) a ≡ Some (op.Skip n) → Hops p f a (a + 1 + n) 2
hop p f a n h = record { by = λ wants names below cells os. leads_some p _ _ 2 1 (skip p f wants names below a cells os n h) }

pub back_hop : (p : Code) (f a b n : ℕ) → a ≡ b + n → slice_get (ops_in p f) a ≡ Some (op.Back n) → Hops p f a b 2
back_hop p f a b n e h = record { by = λ wants names below cells os. leads_some p _ _ 2 1 (goes_back p f wants names below a b cells os n e h) }

-- Of so many values the last, or the k last; and all in their cells.
abbrev pub pops : ℕ → (ℕ → Type 0) → Type 0
pops zero P = ⊥
pops (suc e) P = P e

abbrev pub pops_many : ℕ → ℕ → (ℕ → Type 0) → Type 0
pops_many zero d P = P d
pops_many (suc k) zero P = ⊥
pops_many (suc k) (suc d) P = pops_many k d P

pops_last : (k d : ℕ) (P : ℕ → Type 0) → pops_many k d (λ x. pops x P) → pops_many (suc k) d P
pops_last zero zero P h = h
pops_last zero (suc d) P h = h
pops_last (suc k) zero P h = h
pops_last (suc k) (suc d) P h = pops_last k d P h

abbrev pub deep : ℕ → ℕ → ℕ
deep zero d = d
deep (suc k) d = deep k (suc d)

pub pops_deep : (k d : ℕ) (P : ℕ → Type 0) → P d → pops_many k (deep k d) P
pops_deep zero d P h = h
pops_deep (suc k) d P h = pops_last k (deep k (suc d)) P (pops_deep k (suc d) (λ x. pops x P) h)

abbrev pub none : ℕ → Type 0 → Type 0
none zero P = P
none (suc e) P = ⊥

abbrev pub plain : Top → Type 0 → Type 0
plain Plain P = P
plain (Fixed n) P = ⊥

-- What remains after a statement: statements, loops, and the function's end.
abbrev pub Body : List Item → Type 0
Body [] = ⊥
Body (Rest ss ∷ k) = Body k
Body (Exec s ∷ k) = Body k
Body (Turn c t s ∷ k) = Body k
Body (FirstTest c s ∷ k) = Body k
Body (Again c t s ∷ k) = Body k
Body (Fall ∷ k) = Unit {0}
Body (i ∷ k) = ⊥

-- The code of an operator on the value in a cell, and on those in two.
abbrev pub alter_code : Prefix → ℕ → List SlotOp
alter_code (before.Number o) i = prefix_code o i ∷ []
alter_code (before.Cast to) i = convert_code to i
alter_code before.Truth i = truth_code i ∷ []
alter_code (before.Load w) i = op.Load i i (width_of w) ∷ []

abbrev pub apply_code : Infix → ℕ → ℕ → Operand → List SlotOp
apply_code (between.Number o) i j r = op.Apply (binary_of o) i i r ∷ []
apply_code (between.Advance w) i j r = op.Index i i r (width_of w) ∷ []
apply_code (between.AdvanceBy w) i j r = op.Index i j (operand.Cell i) (width_of w) ∷ []
apply_code (between.Retreat w) i j r = op.Change unary.Negate j j ∷ op.Index i i (operand.Cell j) (width_of w) ∷ []
apply_code (between.Load w) i j r = op.Index i i r (width_of w) ∷ op.Load i i (width_of w) ∷ []

-- A constant may be on the right of these.
abbrev pub may_be : Infix → Top → Type 0
may_be o Plain = Unit {0}
may_be (between.Number o) (Fixed n) = Unit {0}
may_be (between.Advance w) (Fixed n) = Unit {0}
may_be (between.AdvanceBy w) (Fixed n) = ⊥
may_be (between.Retreat w) (Fixed n) = ⊥
may_be (between.Load w) (Fixed n) = Unit {0}

abbrev pub top_of : Expr → Top
top_of (Constant n) = Fixed n
top_of e = Plain

pub right_same : (e : Expr) (j : ℕ) → right_of e j ≡ right (top_of e) j
right_same (Constant n) j = refl
right_same e j = refl

module _ (s : Source) (p : Code) where
  abbrev pub raise_all : IntOperator → Scalar → Cell → ℕ → ℕ → List SlotOp
  raise_all o t x i j = negate_code o t j ++ (raise_code o t i i (operand.Cell j) ++ write_code s x i ∷ [])

  abbrev pub bump_all : StepValue → Bool → Scalar → Cell → ℕ → ℕ → List SlotOp
  bump_all v up t x i j = raise_code (stepping_operator up) t (new_cell v i j) i (operand.Number (step_number up t)) ++ write_code s x (new_cell v i j) ∷ []

  -- One operation pushes a value.
  abbrev pub pushed : ℕ → ℕ → SlotOp → ℕ → Type 0 → Type 0
  pushed f pc o i after = (slice_get (ops_in p f) pc ≡ Some o) × (i < limit p f) × after

  -- Operations stand here, within the function's cells.
  abbrev pub stands_here : ℕ → ℕ → List SlotOp → ℕ → Type 0 → Type 0
  stands_here f pc code i after = HasAt (ops_in p f) pc code × (i < limit p f) × after

  -- A statement's code stands here, and what follows it after it: the loop's next turn begins on operations on, and its
  -- end stands out operations on.
  pub record StmtLies (f back exit : ℕ) (code : List SlotOp) (sound : Type 0) (temps : ℕ) (ready : Type 0) (next : ℕ → ℕ → ℕ → Stage → ℕ → Top → ℕ → Type 0) (pc : ℕ) (z : Stage) (on out o : ℕ) : Type 0 where
    pub has : HasAt (ops_in p f) pc code
    pub turns : pc + length code + on ≡ back
    pub ends : pc + length code + out ≡ exit
    pub is : sound
    pub fits : z.cells + temps ≤ limit p f
    pub full : z.made ≡ length (function_at p f).arrays
    pub behind : ready
    pub rest : next back exit (pc + length code) z 0 Plain o

  -- Both sides of an `if`, or its one.
  abbrev pub SidesLie : ℕ → ℕ → ℕ → Stmt → Option Stmt → Type 0 → (ℕ → ℕ → ℕ → Stage → ℕ → Top → ℕ → Type 0) → ℕ → Stage → ℕ → ℕ → ℕ → Type 0
  SidesLie f back exit a None ready next pc z on out o =
      (slice_get (ops_in p f) pc ≡ Some (test_code z.cells (length (stmt_code s z.cells on out a)))) × StmtLies f back exit (stmt_code s z.cells on out a) (SoundStmt s z a) (stmt_temps a) ready next (pc + 1) z on out o
  SidesLie f back exit a (Some b) ready next pc z on out o =
      let cb = stmt_code s z.cells on out b in let ca = stmt_code s z.cells (1 + length cb + on) (1 + length cb + out) a in
      (slice_get (ops_in p f) pc ≡ Some (test_code z.cells (length ca + 1))) × HasAt (ops_in p f) (pc + 1) ca × SoundStmt s z a × (z.cells + stmt_temps a ≤ limit p f) × (slice_get (ops_in p f) (pc + 1 + length ca) ≡ Some (op.Skip (length cb)))
      × StmtLies f back exit cb (SoundStmt s z b) (stmt_temps b) ready next (pc + 1 + length ca + 1) z on out o

  -- A loop's test, from which its body or its end is reached. Without a test the body stands there.
  abbrev pub TestLies : ℕ → Option Expr → Stage → ℕ → ℕ → ℕ → Type 0
  TestLies f None z again body end = again ≡ body
  TestLies f (Some c) z again body end =
      HasAt (ops_in p f) again (expr_code s z.cells 0 c) × SoundExpr s z c × (z.cells + 0 + temps_of c ≤ limit p f)
      × (past : ℕ) × (slice_get (ops_in p f) (again + length (expr_code s z.cells 0 c)) ≡ Some (test_code z.cells past)) × (again + length (expr_code s z.cells 0 c) + 1 + past ≡ end)
      × (h : ℕ) × (h ≤ 2) × Hops p f (again + length (expr_code s z.cells 0 c) + 1) body h

  -- The way back to the test, which is an operation where there is no test.
  abbrev pub WayBack : ℕ → Option Expr → ℕ → ℕ → Type 0
  WayBack f None a b = (by : ℕ) × (slice_get (ops_in p f) a ≡ Some (op.Back by)) × (a ≡ b + by)
  WayBack f (Some c) a b = (h : ℕ) × (h ≤ 2) × Hops p f a b h

  -- A loop: its test, its body, its third part and the way back stand here, and what follows it at its end.
  pub record LoopLies (f back exit : ℕ) (c t : Option Expr) (st : Stmt) (ready : Type 0) (next : ℕ → ℕ → ℕ → Stage → ℕ → Top → ℕ → Type 0) (again turn end : ℕ) (z : Stage) (o : ℕ) : Type 0 where
    pub body : ℕ
    pub out : ℕ
    pub test : TestLies f c z again body end
    pub has : HasAt (ops_in p f) body (stmt_code s z.cells 0 out st)
    pub turns : body + length (stmt_code s z.cells 0 out st) ≡ turn
    pub ends : turn + out ≡ end
    pub sound : SoundStmt s z st
    pub fits : z.cells + stmt_temps st ≤ limit p f
    pub third : HasAt (ops_in p f) turn (option_code s z.cells t)
    pub third_sound : SoundOption s z t
    pub third_fits : z.cells + option_temps t ≤ limit p f
    pub way : WayBack f c (turn + length (option_code s z.cells t)) again
    pub full : z.made ≡ length (function_at p f).arrays
    pub behind : ready
    pub rest : next back exit end z 0 Plain o

  -- The code of an item stands here, and what follows it after it: z tells the variables, d how many values wait, top
  -- where the last one is, and o what is paid for in advance.
  abbrev pub item_lies : ℕ → ℕ → ℕ → Item → Type 0 → (ℕ → ℕ → ℕ → Stage → ℕ → Top → ℕ → Type 0) → ℕ → Stage → ℕ → Top → ℕ → Type 0
  item_lies f back exit (Take (leaf.Number c)) ready next pc z d top o =
      plain top (pushed f pc (op.Move (z.cells + d) (operand.Number c)) (z.cells + d) (next back exit (pc + 1) z (suc d) Plain (o + 16)) ⊎ next back exit pc z (suc d) (Fixed c) (o + 16))
  item_lies f back exit (Take (leaf.Text i)) ready next pc z d top o = plain top (pushed f pc (op.Static (z.cells + d) (text_object s i)) (z.cells + d) (next back exit (pc + 1) z (suc d) Plain (o + 16)))
  item_lies f back exit (Take (leaf.Function g)) ready next pc z d top o = plain top (pushed f pc (op.Entry (z.cells + d) g) (z.cells + d) (next back exit (pc + 1) z (suc d) Plain (o + 16)))
  item_lies f back exit (Take (leaf.Array a)) ready next pc z d top o =
      plain top (pushed f pc (array_code s a (z.cells + d)) (z.cells + d) (IsArray s z a × next back exit (pc + 1) z (suc d) Plain (o + 16)))
  item_lies f back exit (Get x) ready next pc z d top o =
      plain top (pushed f pc (read_code s x (z.cells + d)) (z.cells + d) (IsCell s z x × next back exit (pc + 1) z (suc d) Plain (o + 16)))
  item_lies f back exit (Alter q) ready next pc z d top o =
      plain top (pops d (λ e. stands_here f pc (alter_code q (z.cells + e)) (z.cells + e) (next back exit (pc + length (alter_code q (z.cells + e))) z (suc e) Plain (o + 16))))
  item_lies f back exit (Apply q) ready next pc z d top o =
      may_be q top × pops d (λ c. pops c (λ e. let code = apply_code q (z.cells + e) (z.cells + suc e) (right top (z.cells + suc e)) in stands_here f pc code (z.cells + suc e) (next back exit (pc + length code) z (suc e) Plain (o + 16))))
  item_lies f back exit (Write t x) ready next pc z d top o =
      plain top (pops d (λ e. let code = kept_code t (z.cells + e) ++ write_code s x (z.cells + e) ∷ [] in stands_here f pc code (z.cells + e) (IsCell s z x × next back exit (pc + length code) z (suc e) Plain (o + 16))))
  item_lies f back exit (Raise q t x) ready next pc z d top o =
      plain top (pops d (λ c. pops c (λ e. let code = raise_all q t x (z.cells + e) (z.cells + suc e) in stands_here f pc code (z.cells + suc e) (IsCell s z x × next back exit (pc + length code) z (suc e) Plain (o + 16)))))
  item_lies f back exit (Bump v up t x) ready next pc z d top o =
      plain top (pops d (λ e. let code = bump_all v up t x (z.cells + e) (z.cells + suc e) in stands_here f pc code (z.cells + suc e) (IsCell s z x × next back exit (pc + length code) z (suc e) Plain (o + 16))))
  item_lies f back exit Reached ready next pc z d top o = plain top (next back exit pc z d Plain (o + 16))
  item_lies f back exit (Fetch w) ready next pc z d top o =
      plain top (pops d (λ e. pushed f pc (op.Load (z.cells + suc e) (z.cells + e) (width_of w)) (z.cells + suc e) (next back exit (pc + 1) z (suc (suc e)) Plain (o + 16))))
  item_lies f back exit (FetchAt w) ready next pc z d top o =
      pops d (λ c. pops c (λ e. stands_here f pc (op.Index (z.cells + e) (z.cells + e) (right top (z.cells + suc e)) (width_of w) ∷ op.Load (z.cells + suc e) (z.cells + e) (width_of w) ∷ []) (z.cells + suc e) (next back exit (pc + 2) z (suc (suc e)) Plain (o + 16))))
  item_lies f back exit (Lay w) ready next pc z d top o =
      plain top (pops d (λ c. pops c (λ e. stands_here f pc (op.Store (z.cells + e) (z.cells + suc e) (width_of w) ∷ cut_code w (z.cells + e) (z.cells + suc e) ∷ []) (z.cells + suc e) (next back exit (pc + 2) z (suc e) Plain (o + 16)))))
  item_lies f back exit (Lift q w) ready next pc z d top o =
      plain top (pops d (λ b. pops b (λ c. pops c (λ e. stands_here f pc (op.Apply (binary_of q) (z.cells + suc e) (z.cells + suc e) (operand.Cell (z.cells + suc (suc e))) ∷ op.Store (z.cells + e) (z.cells + suc e) (width_of w) ∷ cut_code w (z.cells + e) (z.cells + suc e) ∷ []) (z.cells + suc (suc e)) (next back exit (pc + 3) z (suc e) Plain (o + 16))))))
  item_lies f back exit (Shift v up w) ready next pc z d top o =
      plain top (pops d (λ c. pops c (λ e. stands_here f pc (step_element_code z.cells e v up w) (z.cells + suc (suc e)) (next back exit (pc + length (step_element_code z.cells e v up w)) z (suc e) Plain (o + 16)))))
  item_lies f back exit (AndThen b) ready next pc z d top o = plain top (pops d (λ e. let cb = expr_code s z.cells e b in
      (r : ℕ) × (r + 9 ≤ o) × (slice_get (ops_in p f) pc ≡ Some (op.SkipUnless compare.Unequal (z.cells + e) (operand.Number 0) (length cb))) × HasAt (ops_in p f) (pc + 1) (cb ++ truth_code (z.cells + e) ∷ [])
      × SoundExpr s z b × (z.cells + e + temps_of b ≤ limit p f) × (z.cells + e < limit p f) × next back exit (pc + 1 + length cb + 1) z (suc e) Plain (r + 16)))
  item_lies f back exit (OrElse b) ready next pc z d top o = plain top (pops d (λ e. let cb = expr_code s z.cells e b in
      (r : ℕ) × (r + 9 ≤ o) × (slice_get (ops_in p f) pc ≡ Some (op.SkipUnless compare.Equal (z.cells + e) (operand.Number 0) (length cb))) × HasAt (ops_in p f) (pc + 1) (cb ++ truth_code (z.cells + e) ∷ [])
      × SoundExpr s z b × (z.cells + e + temps_of b ≤ limit p f) × (z.cells + e < limit p f) × next back exit (pc + 1 + length cb + 1) z (suc e) Plain (r + 16)))
  item_lies f back exit (Choose a b) ready next pc z d top o = plain top (pops d (λ e. let ca = expr_code s z.cells e a in let cb = expr_code s z.cells e b in
      (r : ℕ) × (r + 9 ≤ o) × (slice_get (ops_in p f) pc ≡ Some (op.SkipUnless compare.Unequal (z.cells + e) (operand.Number 0) (length ca + 1))) × HasAt (ops_in p f) (pc + 1) (ca ++ op.Skip (length cb) ∷ cb)
      × SoundExpr s z a × SoundExpr s z b × (z.cells + e + temps_of a ≤ limit p f) × (z.cells + e + temps_of b ≤ limit p f) × next back exit (pc + 1 + length ca + 1 + length cb) z (suc e) Plain (r + 16)))
  item_lies f back exit Chosen ready next pc z d top o = plain top ((q : ℕ) × (h : ℕ) × (h ≤ 2) × Hops p f pc q h × next back exit q z d Plain (o + 16))
  item_lies f back exit (Ask k c) ready next pc z d top o =
      plain top (pops_many c d (λ e. pushed f pc (op.Ask (number_of s k) (z.cells + e) c) (z.cells + e) (IsCall s k c × next back exit (pc + 1) z (suc e) Plain (o + 16))))
  item_lies f back exit (Enter g c) ready next pc z d top o = plain top (pops_many c d (λ e. let code = arguments_code (fun_at s.program g).params (z.cells + e) ++ op.Go g (z.cells + e) c ∷ [] in
      (r : ℕ) × (r + 7 * c ≤ o) × stands_here f pc code (z.cells + e) ((g < length s.program.functions) × (c ≡ length (fun_at s.program g).params) × (z.cells + e + c ≤ limit p f) × next back exit (pc + length code) z (suc e) Plain r)))
  item_lies f back exit Called ready next pc z d top o = plain top (next back exit pc z d Plain (o + 16))
  item_lies f back exit Forget ready next pc z d top o = plain top (pops d (λ e. next back exit pc z e Plain o))
  item_lies f back exit (Exec st) ready next pc z d top o = plain top (none d ((on : ℕ) × (out : ℕ) × StmtLies f back exit (stmt_code s z.cells on out st) (SoundStmt s z st) (stmt_temps st) ready next pc z on out o))
  item_lies f back exit (Rest ss) ready next pc z d top o = plain top (none d ((on : ℕ) × (out : ℕ) × StmtLies f back exit (stmts_code s z.cells on out ss) (SoundStmts s z ss) (stmts_temps ss) ready next pc z on out o))
  item_lies f back exit (Test a b) ready next pc z d top o = plain top (pops d (λ e. none e ((on : ℕ) × (out : ℕ) × (r : ℕ) × (r + 11 ≤ o) × SidesLie f back exit a b ready next pc z on out r)))
  item_lies f back exit (FirstTest c st) ready next pc z d top o = plain top (none d ((end : ℕ) × (pc ≡ back) × (end ≡ exit) × (back' : ℕ) × (exit' : ℕ) × LoopLies f back' exit' (Some c) None st ready next pc pc end z o))
  item_lies f back exit (TestLoop c t st) ready next pc z d top o =
      plain top (pops d (λ e. none e ((again : ℕ) × (turn : ℕ) × (end : ℕ) × (r : ℕ) × (r + 11 ≤ o) × (pc ≡ again + length (expr_code s z.cells 0 c)) × LoopLies f back exit (Some c) t st ready next again turn end z r)))
  item_lies f back exit (Turn c t st) ready next pc z d top o =
      plain top (none d ((again : ℕ) × (end : ℕ) × (pc ≡ back) × (end ≡ exit) × (back' : ℕ) × (exit' : ℕ) × LoopLies f back' exit' c t st ready next again pc end z o))
  item_lies f back exit (Again c t st) ready next pc z d top o = plain top (none d ((again : ℕ) × (turn : ℕ) × (end : ℕ) × WayBack f c pc again × LoopLies f back exit c t st ready next again turn end z o))
  item_lies f back exit Leave ready next pc z d top o = plain top (pops d (λ e. none e ((slice_get (ops_in p f) pc ≡ Some (op.Give (operand.Cell z.cells))) × (z.made ≡ length (function_at p f).arrays))))
  item_lies f back exit Fall ready next pc z d top o = plain top (none d ((slice_get (ops_in p f) pc ≡ Some (op.Give (operand.Number 0))) × (z.made ≡ length (function_at p f).arrays) × (pc ≡ back) × (pc ≡ exit)))
  item_lies f back exit i ready next pc z d top o = ⊥

  -- The same of all items, with jumps between them.
  abbrev pub Lies : ℕ → ℕ → ℕ → List Item → ℕ → Stage → ℕ → Top → ℕ → Type 0
  Lies f back exit [] pc z d top o = ⊥
  Lies f back exit (i ∷ k) pc z d top o =
      (q : ℕ) × (h : ℕ) × (r : ℕ) × (h + r ≤ o) × Hops p f pc q h × item_lies f back exit i (Body k) (λ back exit pc z d top o. Lies f back exit k pc z d top o) q z d top r

  pub stands : (f back exit : ℕ) (i : Item) (k : List Item) (pc : ℕ) (z : Stage) (d : ℕ) (top : Top) (o : ℕ) → item_lies f back exit i (Body k) (λ back exit pc z d top o. Lies f back exit k pc z d top o) pc z d top o → Lies f back exit (i ∷ k) pc z d top o
  stands f back exit i k pc z d top o l = (pc, 0, o, omega arith, hops_here p f pc, l)

  pub lies_more : (f back exit : ℕ) (k : List Item) (pc q : ℕ) (z : Stage) (d : ℕ) (top : Top) (h o o' : ℕ) → h + o ≤ o' → Hops p f pc q h → Lies f back exit k q z d top o → Lies f back exit k pc z d top o'
  lies_more f back exit [] pc q z d top h o o' le hops l = absurd l
  lies_more f back exit (i ∷ k) pc q z d top h o o' le hops l =
      let paid = l.3 in
      (l.0, h + l.1, l.2, omega (arith, le, paid), hops_on p f pc q l.0 h l.1 hops l.4, l.5)

  pub lies_at : (f back exit : ℕ) (k : List Item) (a b : ℕ) (z : Stage) (d : ℕ) (top : Top) (o : ℕ) → a ≡ b → Lies f back exit k a z d top o → Lies f back exit k b z d top o
  lies_at f back exit k a b z d top o e l = subst (λ n. Lies f back exit k n z d top o) e l

  -- What is paid for in advance may be more.
  pub more : (f back exit : ℕ) (k : List Item) (pc : ℕ) (z : Stage) (d : ℕ) (top : Top) (o : ℕ) → Lies f back exit k pc z d top o → Lies f back exit k pc z d top (o + 16)
  more f back exit k pc z d top o l = lies_more f back exit k pc pc z d top 0 o (o + 16) (omega arith) (hops_here p f pc) l

  -- What is wanted of an expression's code, and of what follows it.
  abbrev pub Placed : ℕ → ℕ → ℕ → Expr → List Item → ℕ → Stage → ℕ → ℕ → Type 0
  Placed f back exit e k pc z d o =
      HasAt (ops_in p f) pc (expr_code s z.cells d e) → Lies f back exit k (pc + length (expr_code s z.cells d e)) z (suc d) Plain (o + 16) → Lies f back exit (items_then e k) pc z d Plain o

  -- An operand on the right: a constant needs no code.
  pub right_lies : (e : Expr) (f back exit : ℕ) (k : List Item) (pc : ℕ) (z : Stage) (d o : ℕ) → HasAt (ops_in p f) pc (right_code e (expr_code s z.cells d e)) → Lies f back exit k (pc + length (right_code e (expr_code s z.cells d e))) z (suc d) (top_of e) (o + 16) → Placed f back exit e k pc z d o → Lies f back exit (items_then e k) pc z d Plain o
  right_lies (Constant c) f back exit k pc z d o has after go =
      let e : pc + 0 ≡ pc = omega arith in
      stands f back exit (Take (leaf.Number c)) k pc z d Plain o (inr (lies_at f back exit k _ _ z (suc d) (Fixed c) (o + 16) e after))
  right_lies e f back exit k pc z d o has after go = go has after

  -- Two operands, of which the right one may be a constant.
  pub two_lies : (a b : Expr) (f back exit : ℕ) (k : List Item) (pc : ℕ) (z : Stage) (d o : ℕ) (tail : List SlotOp) → HasAt (ops_in p f) pc (expr_code s z.cells d a ++ (right_code b (expr_code s z.cells (suc d) b) ++ tail))
      → Lies f back exit k (pc + length (expr_code s z.cells d a) + length (right_code b (expr_code s z.cells (suc d) b))) z (suc (suc d)) (top_of b) o
      → Placed f back exit a (items_then b k) pc z d o → Placed f back exit b k (pc + length (expr_code s z.cells d a)) z (suc d) o → Lies f back exit (items_then a (items_then b k)) pc z d Plain o
  two_lies a b f back exit k pc z d o tail has after go_a go_b =
      let ca = expr_code s z.cells d a in let rb = right_code b (expr_code s z.cells (suc d) b) in
      go_a (has_front (ops_in p f) pc ca (rb ++ tail) has)
      (more f back exit (items_then b k) (pc + length ca) z (suc d) Plain o
      (right_lies b f back exit k (pc + length ca) z (suc d) o (has_front (ops_in p f) (pc + length ca) rb tail (has_back (ops_in p f) pc ca (rb ++ tail) has)) (more f back exit k _ z (suc (suc d)) (top_of b) o after) go_b))

  -- The same where a call's variables start and its arrays are made, which comes first.
  abbrev pub EntryLies : ℕ → ℕ → ℕ → List Item → ℕ → Stage → ℕ → Type 0
  EntryLies f back exit [] pc z o = ⊥
  EntryLies f back exit (Start t ∷ k) pc z o =
      HasAt (ops_in p f) pc (start_code t z.cells) × (z.cells < limit p f) × EntryLies f back exit k (pc + length (start_code t z.cells)) (record { cells = suc z.cells; made = z.made }) o
  EntryLies f back exit (Gap n ∷ k) pc z o = EntryLies f back exit k pc z (o + 3 * suc n)
  EntryLies f back exit (Make a ∷ k) pc z o =
      (r : ℕ) × (r + 3 * (steps_of a - 1) ≤ o) × (slice_get (ops_in p f) pc ≡ Some (op.Make z.made)) × (slice_get (function_at p f).arrays z.made ≡ Some (array_of a)) × EntryLies f back exit k (pc + 1) (record { cells = z.cells; made = suc z.made }) r
  EntryLies f back exit (i ∷ k) pc z o = ((function_at p f).locals ≤ z.cells) × Lies f back exit (i ∷ k) pc z 0 Plain o
