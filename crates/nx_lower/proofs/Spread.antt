-- Where an expression's code stands, its items lie: each has its operations where the machine comes to it.
use Rattle.std.proofs.Common.{◌≡◌, ℕ, suc, ◌+◌, ◌*◌, ◌<◌, ◌≤◌, inl, List, [], ◌∷◌, ◌++◌, length, Some, subst, arith, length-append}
use Rattle.std.specs.Prelude.{slice_get}
use Rattle.nx_checked.specs.declared.checked.Element.{Element}
use Rattle.nx_checked.specs.declared.checked.IntOperator.{IntOperator}
use Rattle.nx_checked.specs.Trees.{Expr, Constant, Literal, Function, Read, Array, Load, AddressOf, Unary, Binary, And, Or, Conditional, Convert, Advance, AdvanceBy, Retreat, Assign, AssignElement, Compound, CompoundElement, Step, StepElement, Kernel, Call, Place, Index, Deref, Args, NoMore, More, count}
use Rattle.nx_cobjects.specs.declared.value.Prefix.{Prefix}
use Rattle.nx_cobjects.specs.declared.value.Prefix.TheVariants as before
use Rattle.nx_cobjects.specs.declared.value.Infix.{Infix}
use Rattle.nx_cobjects.specs.declared.value.Infix.TheVariants as between
use Rattle.nx_cmean.specs.declared.item.Leaf.TheVariants as leaf
use Rattle.nx_cmean.specs.Items.{Item, Take, Get, Alter, Apply, Write, Raise, Bump, Reached, Fetch, FetchAt, Lay, Lift, Shift, AndThen, OrElse, Choose, Ask, Enter, Called, items_then, loaded_then, place_then, fetched_then, all_then}
use Rattle.nx_cmean.specs.Meaning.{fun_at}
use Rattle.nx_slot.specs.declared.op.Operand.{Operand}
use Rattle.nx_slot.specs.declared.op.Operand.TheVariants as operand
use Rattle.nx_slot.specs.declared.op.Comparison.TheVariants as compare
use Rattle.nx_slot.specs.declared.op.SlotOp.{SlotOp}
use Rattle.nx_slot.specs.declared.op.SlotOp.TheVariants as op
use Rattle.nx_slot.specs.Meaning.{Code}
use Rattle.nx_lower.specs.Shown.{width_of}
use Rattle.nx_lower.specs.Code.{Source, number_of, binary_of, truth_code, right_of, right_code, kept_code, write_code, read_code, cut_code, arguments_code, step_element_code, expr_code, loaded_code, place_code, fetched_code, args_code}
use Rattle.nx_lower.specs.Bodies.{temps_of, place_temps, args_temps}
use Rattle.nx_lower.specs.Sound.{Stage, IsCall, SoundExpr, SoundPlace, SoundArgs}
use Rattle.nx_lower.proofs.Cells.{Top, Plain, Fixed}
use Rattle.nx_lower.proofs.Lies.{deep, pops_deep, alter_code, apply_code, may_be, top_of, right_same, raise_all, bump_all, Lies, stands, lies_more, lies_at, hops_here, more, Placed, two_lies}
use Rattle.nx_lower.proofs.Steps.{HasAt, has_front, has_back, ops_in, limit}

mutual
  pub temps_some : (e : Expr) → 1 ≤ temps_of e
  temps_some (Constant n) = omega arith
  temps_some (Literal i) = omega arith
  temps_some (Function f) = omega arith
  temps_some (Read x) = omega arith
  temps_some (Array a) = omega arith
  temps_some (Load w p) = place_some p
  temps_some (AddressOf w a i) = omega arith
  temps_some (Unary o a) = temps_some a
  temps_some (Binary o a b) = omega arith
  temps_some (And a b) = let h = temps_some a in omega (arith, h)
  temps_some (Or a b) = let h = temps_some a in omega (arith, h)
  temps_some (Conditional c a b) = let h = temps_some c in omega (arith, h)
  temps_some (Convert to a) = temps_some a
  temps_some (Advance w a i) = omega arith
  temps_some (AdvanceBy w i a) = omega arith
  temps_some (Retreat w a i) = omega arith
  temps_some (Assign s x e) = temps_some e
  temps_some (AssignElement w p e) = omega arith
  temps_some (Compound o s x e) = omega arith
  temps_some (CompoundElement o w p e) = omega arith
  temps_some (Step v up s x) = omega arith
  temps_some (StepElement v up w p) = omega arith
  temps_some (Kernel k xs) = omega arith
  temps_some (Call f xs) = omega arith

  pub place_some : (p : Place) → 1 ≤ place_temps p
  place_some (Index a i) = omega arith
  place_some (Deref a) = temps_some a

-- Each argument has a cell of its own.
count_few : (xs : Args) → count xs ≤ args_temps xs
count_few NoMore = omega arith
count_few (More e xs) = let h = count_few xs in omega (arith, h)

module _ (s : Source) (p : Code) where
  -- An operator that may have a constant on its right.
  apply_lies : (q : Infix) (b : Expr) (f back exit : ℕ) (k : List Item) (pc : ℕ) (z : Stage) (d o : ℕ) → ((top : Top) → may_be q top) → HasAt (ops_in p f) pc (apply_code q (z.cells + d) (z.cells + suc d) (right_of b (z.cells + suc d))) → z.cells + suc d < limit p f
      → Lies s p f back exit k (pc + length (apply_code q (z.cells + d) (z.cells + suc d) (right_of b (z.cells + suc d)))) z (suc d) Plain (o + 16) → Lies s p f back exit (Apply q ∷ k) pc z (suc (suc d)) (top_of b) o
  apply_lies q b f back exit k pc z d o may has small l =
      stands s p f back exit (Apply q) k pc z (suc (suc d)) (top_of b) o (
        may (top_of b),
        subst (λ r. HasAt (ops_in p f) pc (apply_code q (z.cells + d) (z.cells + suc d) r) × (z.cells + suc d < limit p f) × Lies s p f back exit k (pc + length (apply_code q (z.cells + d) (z.cells + suc d) r)) z (suc d) Plain (o + 16)) (right_same b (z.cells + suc d)) (has, small, l),
      )

  binary_lies : (q : Infix) (a b : Expr) (f back exit : ℕ) (k : List Item) (pc : ℕ) (z : Stage) (d o : ℕ) → ((top : Top) → may_be q top) → z.cells + suc d < limit p f
      → HasAt (ops_in p f) pc (expr_code s z.cells d a ++ (right_code b (expr_code s z.cells (suc d) b) ++ apply_code q (z.cells + d) (z.cells + suc d) (right_of b (z.cells + suc d))))
      → Lies s p f back exit k (pc + length (expr_code s z.cells d a ++ (right_code b (expr_code s z.cells (suc d) b) ++ apply_code q (z.cells + d) (z.cells + suc d) (right_of b (z.cells + suc d))))) z (suc d) Plain (o + 16)
      → Placed s p f back exit a (items_then b (Apply q ∷ k)) pc z d o → Placed s p f back exit b (Apply q ∷ k) (pc + length (expr_code s z.cells d a)) z (suc d) o
      → Lies s p f back exit (items_then a (items_then b (Apply q ∷ k))) pc z d Plain o
  binary_lies q a b f back exit k pc z d o may small has l go_a go_b =
      let ca = expr_code s z.cells d a in let rb = right_code b (expr_code s z.cells (suc d) b) in let tail = apply_code q (z.cells + d) (z.cells + suc d) (right_of b (z.cells + suc d)) in
      let e : pc + length (ca ++ (rb ++ tail)) ≡ pc + length ca + length rb + length tail = omega (arith, length-append ca (rb ++ tail), length-append rb tail) in
      two_lies s p a b f back exit (Apply q ∷ k) pc z d o tail has
      (apply_lies q b f back exit k (pc + length ca + length rb) z d o may (has_back (ops_in p f) (pc + length ca) rb tail (has_back (ops_in p f) pc ca (rb ++ tail) has)) small (lies_at s p f back exit k _ _ z (suc d) Plain (o + 16) e l))
      go_a go_b

  -- An operator after one operand.
  alter_lies : (q : Prefix) (a : Expr) (f back exit : ℕ) (k : List Item) (pc : ℕ) (z : Stage) (d o : ℕ) → z.cells + d < limit p f → HasAt (ops_in p f) pc (expr_code s z.cells d a ++ alter_code q (z.cells + d))
      → Lies s p f back exit k (pc + length (expr_code s z.cells d a ++ alter_code q (z.cells + d))) z (suc d) Plain (o + 16) → Placed s p f back exit a (Alter q ∷ k) pc z d o → Lies s p f back exit (items_then a (Alter q ∷ k)) pc z d Plain o
  alter_lies q a f back exit k pc z d o small has l go_a =
      let ca = expr_code s z.cells d a in let tail = alter_code q (z.cells + d) in
      let e : pc + length (ca ++ tail) ≡ pc + length ca + length tail = omega (arith, length-append ca tail) in
      go_a (has_front (ops_in p f) pc ca tail has)
      (more s p f back exit (Alter q ∷ k) (pc + length ca) z (suc d) Plain o
      (stands s p f back exit (Alter q) k (pc + length ca) z (suc d) Plain o (has_back (ops_in p f) pc ca tail has, small, lies_at s p f back exit k _ _ z (suc d) Plain (o + 16) e l)))

  -- Two operands in their cells.
  plain_two : (a b : Expr) (f back exit : ℕ) (k : List Item) (pc : ℕ) (z : Stage) (d o : ℕ) (tail : List SlotOp) → HasAt (ops_in p f) pc (expr_code s z.cells d a ++ (expr_code s z.cells (suc d) b ++ tail))
      → Lies s p f back exit k (pc + length (expr_code s z.cells d a) + length (expr_code s z.cells (suc d) b)) z (suc (suc d)) Plain o
      → Placed s p f back exit a (items_then b k) pc z d o → Placed s p f back exit b k (pc + length (expr_code s z.cells d a)) z (suc d) o → Lies s p f back exit (items_then a (items_then b k)) pc z d Plain o
  plain_two a b f back exit k pc z d o tail has after go_a go_b =
      let ca = expr_code s z.cells d a in let cb = expr_code s z.cells (suc d) b in
      go_a (has_front (ops_in p f) pc ca (cb ++ tail) has)
      (more s p f back exit (items_then b k) (pc + length ca) z (suc d) Plain o
      (go_b (has_front (ops_in p f) (pc + length ca) cb tail (has_back (ops_in p f) pc ca (cb ++ tail) has)) (more s p f back exit k _ z (suc (suc d)) Plain o after)))

  lies_up : (f back exit : ℕ) (k : List Item) (pc : ℕ) (z : Stage) (d a b : ℕ) → a ≤ b → Lies s p f back exit k pc z d Plain a → Lies s p f back exit k pc z d Plain b
  lies_up f back exit k pc z d a b le l = lies_more s p f back exit k pc pc z d Plain 0 a b (omega (arith, le)) (hops_here p f pc) l

  any_number : (o : IntOperator) (top : Top) → may_be (between.Number o) top
  any_number o Plain = tt
  any_number o (Fixed n) = tt

  any_advance : (w : Element) (top : Top) → may_be (between.Advance w) top
  any_advance w Plain = tt
  any_advance w (Fixed n) = tt

  any_load : (w : Element) (top : Top) → may_be (between.Load w) top
  any_load w Plain = tt
  any_load w (Fixed n) = tt

  mutual
    pub expr_lies : (e : Expr) (f back exit : ℕ) (k : List Item) (pc : ℕ) (z : Stage) (d o : ℕ) → SoundExpr s z e → z.cells + d + temps_of e ≤ limit p f → Placed s p f back exit e k pc z d o
    expr_lies (Constant c) f back exit k pc z d o sound fits has l = stands s p f back exit (Take (leaf.Number c)) k pc z d Plain o (inl (has.0, omega (arith, fits), l))
    expr_lies (Literal i) f back exit k pc z d o sound fits has l = stands s p f back exit (Take (leaf.Text i)) k pc z d Plain o (has.0, omega (arith, fits), l)
    expr_lies (Function g) f back exit k pc z d o sound fits has l = stands s p f back exit (Take (leaf.Function g)) k pc z d Plain o (has.0, omega (arith, fits), l)
    expr_lies (Read x) f back exit k pc z d o sound fits has l = stands s p f back exit (Get x) k pc z d Plain o (has.0, omega (arith, fits), (sound, l))
    expr_lies (Array a) f back exit k pc z d o sound fits has l = stands s p f back exit (Take (leaf.Array a)) k pc z d Plain o (has.0, omega (arith, fits), (sound, l))
    expr_lies (Load w q) f back exit k pc z d o sound fits has l = loaded_lies q w f back exit k pc z d o sound fits has l
    expr_lies (AddressOf w a i) f back exit k pc z d o sound fits has l =
        let t = temps_some i in
        binary_lies (between.Advance w) a i f back exit k pc z d o (any_advance w) (omega (arith, fits, t)) has l
        (expr_lies a f back exit _ pc z d o sound.0 (omega (arith, fits))) (expr_lies i f back exit _ _ z (suc d) o sound.1 (omega (arith, fits)))
    expr_lies (Unary q a) f back exit k pc z d o sound fits has l =
        let t = temps_some a in
        alter_lies (before.Number q) a f back exit k pc z d o (omega (arith, fits, t)) has l (expr_lies a f back exit _ pc z d o sound fits)
    expr_lies (Binary q a b) f back exit k pc z d o sound fits has l =
        let t = temps_some b in
        binary_lies (between.Number q) a b f back exit k pc z d o (any_number q) (omega (arith, fits, t)) has l
        (expr_lies a f back exit _ pc z d o sound.0 (omega (arith, fits))) (expr_lies b f back exit _ _ z (suc d) o sound.1 (omega (arith, fits)))
    expr_lies (And a b) f back exit k pc z d o sound fits has l =
        let t = temps_some a in
        let ca = expr_code s z.cells d a in let cb = expr_code s z.cells d b in
        let tail = op.SkipUnless compare.Unequal (z.cells + d) (operand.Number 0) (length cb) ∷ (cb ++ truth_code (z.cells + d) ∷ []) in
        let h = has_back (ops_in p f) pc ca tail has in
        let e : pc + length (ca ++ tail) ≡ pc + length ca + 1 + length cb + 1 = omega (arith, length-append ca tail, length-append cb (truth_code (z.cells + d) ∷ [])) in
        expr_lies a f back exit (AndThen b ∷ k) pc z d o sound.0 (omega (arith, fits)) (has_front (ops_in p f) pc ca tail has)
        (stands s p f back exit (AndThen b) k (pc + length ca) z (suc d) Plain (o + 16) (o + 7, omega arith, h.0, h.1, sound.1, omega (arith, fits), omega (arith, fits, t), lies_up f back exit k _ z (suc d) (o + 16) (o + 7 + 16) (omega arith) (lies_at s p f back exit k _ _ z (suc d) Plain (o + 16) e l)))
    expr_lies (Or a b) f back exit k pc z d o sound fits has l =
        let t = temps_some a in
        let ca = expr_code s z.cells d a in let cb = expr_code s z.cells d b in
        let tail = op.SkipUnless compare.Equal (z.cells + d) (operand.Number 0) (length cb) ∷ (cb ++ truth_code (z.cells + d) ∷ []) in
        let h = has_back (ops_in p f) pc ca tail has in
        let e : pc + length (ca ++ tail) ≡ pc + length ca + 1 + length cb + 1 = omega (arith, length-append ca tail, length-append cb (truth_code (z.cells + d) ∷ [])) in
        expr_lies a f back exit (OrElse b ∷ k) pc z d o sound.0 (omega (arith, fits)) (has_front (ops_in p f) pc ca tail has)
        (stands s p f back exit (OrElse b) k (pc + length ca) z (suc d) Plain (o + 16) (o + 7, omega arith, h.0, h.1, sound.1, omega (arith, fits), omega (arith, fits, t), lies_up f back exit k _ z (suc d) (o + 16) (o + 7 + 16) (omega arith) (lies_at s p f back exit k _ _ z (suc d) Plain (o + 16) e l)))
    expr_lies (Conditional c a b) f back exit k pc z d o sound fits has l =
        let cc' = expr_code s z.cells d c in let ca = expr_code s z.cells d a in let cb = expr_code s z.cells d b in
        let tail = op.SkipUnless compare.Unequal (z.cells + d) (operand.Number 0) (length ca + 1) ∷ (ca ++ op.Skip (length cb) ∷ cb) in
        let h = has_back (ops_in p f) pc cc' tail has in
        let e : pc + length (cc' ++ tail) ≡ pc + length cc' + 1 + length ca + 1 + length cb = omega (arith, length-append cc' tail, length-append ca (op.Skip (length cb) ∷ cb)) in
        expr_lies c f back exit (Choose a b ∷ k) pc z d o sound.0 (omega (arith, fits)) (has_front (ops_in p f) pc cc' tail has)
        (stands s p f back exit (Choose a b) k (pc + length cc') z (suc d) Plain (o + 16) (o + 7, omega arith, h.0, h.1, sound.1, sound.2, omega (arith, fits), omega (arith, fits), lies_up f back exit k _ z (suc d) (o + 16) (o + 7 + 16) (omega arith) (lies_at s p f back exit k _ _ z (suc d) Plain (o + 16) e l)))
    expr_lies (Convert to a) f back exit k pc z d o sound fits has l =
        let t = temps_some a in
        alter_lies (before.Cast to) a f back exit k pc z d o (omega (arith, fits, t)) has l (expr_lies a f back exit _ pc z d o sound fits)
    expr_lies (Advance w a i) f back exit k pc z d o sound fits has l =
        let t = temps_some i in
        binary_lies (between.Advance w) a i f back exit k pc z d o (any_advance w) (omega (arith, fits, t)) has l
        (expr_lies a f back exit _ pc z d o sound.0 (omega (arith, fits))) (expr_lies i f back exit _ _ z (suc d) o sound.1 (omega (arith, fits)))
    expr_lies (AdvanceBy w a b) f back exit k pc z d o sound fits has l =
        let t = temps_some b in
        let ca = expr_code s z.cells d a in let cb = expr_code s z.cells (suc d) b in let tail = apply_code (between.AdvanceBy w) (z.cells + d) (z.cells + suc d) (operand.Cell (z.cells + suc d)) in
        let e : pc + length (ca ++ (cb ++ tail)) ≡ pc + length ca + length cb + length tail = omega (arith, length-append ca (cb ++ tail), length-append cb tail) in
        plain_two a b f back exit (Apply (between.AdvanceBy w) ∷ k) pc z d o tail has
        (stands s p f back exit (Apply (between.AdvanceBy w)) k _ z (suc (suc d)) Plain o (tt, (has_back (ops_in p f) (pc + length ca) cb tail (has_back (ops_in p f) pc ca (cb ++ tail) has), omega (arith, fits, t), lies_at s p f back exit k _ _ z (suc d) Plain (o + 16) e l)))
        (expr_lies a f back exit _ pc z d o sound.0 (omega (arith, fits))) (expr_lies b f back exit _ _ z (suc d) o sound.1 (omega (arith, fits)))
    expr_lies (Retreat w a b) f back exit k pc z d o sound fits has l =
        let t = temps_some b in
        let ca = expr_code s z.cells d a in let cb = expr_code s z.cells (suc d) b in let tail = apply_code (between.Retreat w) (z.cells + d) (z.cells + suc d) (operand.Cell (z.cells + suc d)) in
        let e : pc + length (ca ++ (cb ++ tail)) ≡ pc + length ca + length cb + length tail = omega (arith, length-append ca (cb ++ tail), length-append cb tail) in
        plain_two a b f back exit (Apply (between.Retreat w) ∷ k) pc z d o tail has
        (stands s p f back exit (Apply (between.Retreat w)) k _ z (suc (suc d)) Plain o (tt, (has_back (ops_in p f) (pc + length ca) cb tail (has_back (ops_in p f) pc ca (cb ++ tail) has), omega (arith, fits, t), lies_at s p f back exit k _ _ z (suc d) Plain (o + 16) e l)))
        (expr_lies a f back exit _ pc z d o sound.0 (omega (arith, fits))) (expr_lies b f back exit _ _ z (suc d) o sound.1 (omega (arith, fits)))
    expr_lies (Assign t x a) f back exit k pc z d o sound fits has l =
        let some = temps_some a in
        let ca = expr_code s z.cells d a in let tail = kept_code t (z.cells + d) ++ write_code s x (z.cells + d) ∷ [] in
        let e : pc + length (ca ++ tail) ≡ pc + length ca + length tail = omega (arith, length-append ca tail) in
        expr_lies a f back exit (Write t x ∷ k) pc z d o sound.1 fits (has_front (ops_in p f) pc ca tail has)
        (more s p f back exit (Write t x ∷ k) _ z (suc d) Plain o
        (stands s p f back exit (Write t x) k (pc + length ca) z (suc d) Plain o (has_back (ops_in p f) pc ca tail has, omega (arith, fits, some), (sound.0, lies_at s p f back exit k _ _ z (suc d) Plain (o + 16) e l))))
    expr_lies (AssignElement w q a) f back exit k pc z d o sound fits has l =
        let some = temps_some a in
        let cq = place_code s z.cells d w q in let ca = expr_code s z.cells (suc d) a in let tail = op.Store (z.cells + d) (z.cells + suc d) (width_of w) ∷ cut_code w (z.cells + d) (z.cells + suc d) ∷ [] in
        let h = has_back (ops_in p f) pc cq (ca ++ tail) has in
        let e : pc + length (cq ++ (ca ++ tail)) ≡ pc + length cq + length ca + 2 = omega (arith, length-append cq (ca ++ tail), length-append ca tail) in
        place_lies q w f back exit (items_then a (Lay w ∷ k)) pc z d o sound.0 (omega (arith, fits)) (has_front (ops_in p f) pc cq (ca ++ tail) has)
        (more s p f back exit (items_then a (Lay w ∷ k)) _ z (suc d) Plain o
        (expr_lies a f back exit (Lay w ∷ k) (pc + length cq) z (suc d) o sound.1 (omega (arith, fits)) (has_front (ops_in p f) (pc + length cq) ca tail h)
        (more s p f back exit (Lay w ∷ k) _ z (suc (suc d)) Plain o
        (stands s p f back exit (Lay w) k (pc + length cq + length ca) z (suc (suc d)) Plain o (has_back (ops_in p f) (pc + length cq) ca tail h, omega (arith, fits, some), lies_at s p f back exit k _ _ z (suc d) Plain (o + 16) e l)))))
    expr_lies (Compound q t x a) f back exit k pc z d o sound fits has l =
        let some = temps_some a in
        let ca = expr_code s z.cells (suc d) a in let tail = raise_all s p q t x (z.cells + d) (z.cells + suc d) in
        let h = has.1 in
        let e : pc + length (read_code s x (z.cells + d) ∷ (ca ++ tail)) ≡ pc + 1 + length ca + length tail = omega (arith, length-append ca tail) in
        stands s p f back exit (Get x) (items_then a (Raise q t x ∷ k)) pc z d Plain o (
          has.0,
          omega (arith, fits, some),
          (
            sound.0,
            more s p f back exit (items_then a (Raise q t x ∷ k)) (pc + 1) z (suc d) Plain o
                (expr_lies a f back exit (Raise q t x ∷ k) (pc + 1) z (suc d) o sound.1 (omega (arith, fits)) (has_front (ops_in p f) (pc + 1) ca tail h)
                (more s p f back exit (Raise q t x ∷ k) _ z (suc (suc d)) Plain o
                (stands s p f back exit (Raise q t x) k (pc + 1 + length ca) z (suc (suc d)) Plain o (has_back (ops_in p f) (pc + 1) ca tail h, omega (arith, fits, some), (sound.0, lies_at s p f back exit k _ _ z (suc d) Plain (o + 16) e l))))),
          ),
        )
    expr_lies (CompoundElement q w r a) f back exit k pc z d o sound fits has l =
        let some = temps_some a in
        let cq = fetched_code s z.cells d w r in let ca = expr_code s z.cells (suc (suc d)) a in
        let tail = op.Apply (binary_of q) (z.cells + suc d) (z.cells + suc d) (operand.Cell (z.cells + suc (suc d))) ∷ op.Store (z.cells + d) (z.cells + suc d) (width_of w) ∷ cut_code w (z.cells + d) (z.cells + suc d) ∷ [] in
        let h = has_back (ops_in p f) pc cq (ca ++ tail) has in
        let e : pc + length (cq ++ (ca ++ tail)) ≡ pc + length cq + length ca + 3 = omega (arith, length-append cq (ca ++ tail), length-append ca tail) in
        fetched_lies r w f back exit (items_then a (Lift q w ∷ k)) pc z d o sound.0 (omega (arith, fits)) (omega (arith, fits, some)) (has_front (ops_in p f) pc cq (ca ++ tail) has)
        (more s p f back exit (items_then a (Lift q w ∷ k)) _ z (suc (suc d)) Plain o
        (expr_lies a f back exit (Lift q w ∷ k) (pc + length cq) z (suc (suc d)) o sound.1 (omega (arith, fits)) (has_front (ops_in p f) (pc + length cq) ca tail h)
        (more s p f back exit (Lift q w ∷ k) _ z (suc (suc (suc d))) Plain o
        (stands s p f back exit (Lift q w) k (pc + length cq + length ca) z (suc (suc (suc d))) Plain o (has_back (ops_in p f) (pc + length cq) ca tail h, omega (arith, fits, some), lies_at s p f back exit k _ _ z (suc d) Plain (o + 16) e l)))))
    expr_lies (Step v up t x) f back exit k pc z d o sound fits has l =
        let tail = bump_all s p v up t x (z.cells + d) (z.cells + suc d) in
        let e : pc + length (read_code s x (z.cells + d) ∷ tail) ≡ pc + 1 + length tail = omega arith in
        stands s p f back exit (Get x) (Bump v up t x ∷ k) pc z d Plain o (
          has.0,
          omega (arith, fits),
          (
            sound,
            more s p f back exit (Bump v up t x ∷ k) (pc + 1) z (suc d) Plain o
                (stands s p f back exit (Bump v up t x) k (pc + 1) z (suc d) Plain o (has.1, omega (arith, fits), (sound, lies_at s p f back exit k _ _ z (suc d) Plain (o + 16) e l))),
          ),
        )
    expr_lies (StepElement v up w r) f back exit k pc z d o sound fits has l =
        let cq = fetched_code s z.cells d w r in let tail = step_element_code z.cells d v up w in
        let e : pc + length (cq ++ tail) ≡ pc + length cq + length tail = omega (arith, length-append cq tail) in
        fetched_lies r w f back exit (Shift v up w ∷ k) pc z d o sound (omega (arith, fits)) (omega (arith, fits)) (has_front (ops_in p f) pc cq tail has)
        (more s p f back exit (Shift v up w ∷ k) _ z (suc (suc d)) Plain o
        (stands s p f back exit (Shift v up w) k (pc + length cq) z (suc (suc d)) Plain o (has_back (ops_in p f) pc cq tail has, omega (arith, fits), lies_at s p f back exit k _ _ z (suc d) Plain (o + 16) e l)))
    expr_lies (Kernel g xs) f back exit k pc z d o sound fits has l =
        let ca = args_code s z.cells d xs in let last = op.Ask (number_of s g) (z.cells + d) (count xs) in
        let h = has_back (ops_in p f) pc ca (last ∷ []) has in
        let e : pc + length (ca ++ last ∷ []) ≡ pc + length ca + 1 = omega (arith, length-append ca (last ∷ [])) in
        let P = λ (e : ℕ). (slice_get (ops_in p f) (pc + length ca) ≡ Some (op.Ask (number_of s g) (z.cells + e) (count xs))) × (z.cells + e < limit p f) × (IsCall s g (count xs) × Lies s p f back exit k (pc + length ca + 1) z (suc e) Plain (o + 16 * count xs + 16)) in
        all_lie xs f back exit (Ask g (count xs) ∷ k) pc z d o sound.1 (omega (arith, fits)) (has_front (ops_in p f) pc ca (last ∷ []) has)
        (stands s p f back exit (Ask g (count xs)) k (pc + length ca) z (deep (count xs) d) Plain (o + 16 * count xs)
        (pops_deep (count xs) d P (h.0, omega (arith, fits), (sound.0, lies_up f back exit k _ z (suc d) (o + 16) (o + 16 * count xs + 16) (omega arith) (lies_at s p f back exit k _ _ z (suc d) Plain (o + 16) e l)))))
    expr_lies (Call g xs) f back exit k pc z d o sound fits has l =
        let ca = args_code s z.cells d xs in let tail = arguments_code (fun_at s.program g).params (z.cells + d) ++ op.Go g (z.cells + d) (count xs) ∷ [] in
        let h = has_back (ops_in p f) pc ca tail has in
        let e : pc + length (ca ++ tail) ≡ pc + length ca + length tail = omega (arith, length-append ca tail) in
        let few = count_few xs in
        let P = λ (e : ℕ). let code = arguments_code (fun_at s.program g).params (z.cells + e) ++ op.Go g (z.cells + e) (count xs) ∷ [] in (r : ℕ) × (r + 7 * count xs ≤ o + 16 * count xs) × (HasAt (ops_in p f) (pc + length ca) code × (z.cells + e < limit p f) × ((g < length s.program.functions) × (count xs ≡ length (fun_at s.program g).params) × (z.cells + e + count xs ≤ limit p f) × Lies s p f back exit (Called ∷ k) (pc + length ca + length code) z (suc e) Plain r)) in
        all_lie xs f back exit (Enter g (count xs) ∷ Called ∷ k) pc z d o sound.2 (omega (arith, fits)) (has_front (ops_in p f) pc ca tail has)
        (stands s p f back exit (Enter g (count xs)) (Called ∷ k) (pc + length ca) z (deep (count xs) d) Plain (o + 16 * count xs)
        (pops_deep (count xs) d P (o, omega arith, (h, omega (arith, fits), (sound.0, sound.1, omega (arith, fits, few), stands s p f back exit Called k (pc + length ca + length tail) z (suc d) Plain o (lies_at s p f back exit k _ _ z (suc d) Plain (o + 16) e l))))))

    pub loaded_lies : (q : Place) (w : Element) (f back exit : ℕ) (k : List Item) (pc : ℕ) (z : Stage) (d o : ℕ) → SoundPlace s z q → z.cells + d + place_temps q ≤ limit p f → HasAt (ops_in p f) pc (loaded_code s z.cells d w q) → Lies s p f back exit k (pc + length (loaded_code s z.cells d w q)) z (suc d) Plain (o + 16) → Lies s p f back exit (loaded_then w q k) pc z d Plain o
    loaded_lies (Index a i) w f back exit k pc z d o sound fits has l =
        let t = temps_some i in
        binary_lies (between.Load w) a i f back exit k pc z d o (any_load w) (omega (arith, fits, t)) has l
        (expr_lies a f back exit _ pc z d o sound.0 (omega (arith, fits))) (expr_lies i f back exit _ _ z (suc d) o sound.1 (omega (arith, fits)))
    loaded_lies (Deref a) w f back exit k pc z d o sound fits has l =
        let t = temps_some a in
        alter_lies (before.Load w) a f back exit k pc z d o (omega (arith, fits, t)) has l (expr_lies a f back exit _ pc z d o sound fits)

    pub place_lies : (q : Place) (w : Element) (f back exit : ℕ) (k : List Item) (pc : ℕ) (z : Stage) (d o : ℕ) → SoundPlace s z q → z.cells + d + place_temps q ≤ limit p f → HasAt (ops_in p f) pc (place_code s z.cells d w q) → Lies s p f back exit k (pc + length (place_code s z.cells d w q)) z (suc d) Plain (o + 16) → Lies s p f back exit (place_then w q k) pc z d Plain o
    place_lies (Index a i) w f back exit k pc z d o sound fits has l =
        let t = temps_some i in
        binary_lies (between.Advance w) a i f back exit k pc z d o (any_advance w) (omega (arith, fits, t)) has l
        (expr_lies a f back exit _ pc z d o sound.0 (omega (arith, fits))) (expr_lies i f back exit _ _ z (suc d) o sound.1 (omega (arith, fits)))
    place_lies (Deref a) w f back exit k pc z d o sound fits has l =
        expr_lies a f back exit (Reached ∷ k) pc z d o sound fits has (more s p f back exit (Reached ∷ k) _ z (suc d) Plain o (stands s p f back exit Reached k _ z (suc d) Plain o l))

    pub fetched_lies : (q : Place) (w : Element) (f back exit : ℕ) (k : List Item) (pc : ℕ) (z : Stage) (d o : ℕ) → SoundPlace s z q → z.cells + d + place_temps q ≤ limit p f → z.cells + suc d < limit p f → HasAt (ops_in p f) pc (fetched_code s z.cells d w q) → Lies s p f back exit k (pc + length (fetched_code s z.cells d w q)) z (suc (suc d)) Plain (o + 16) → Lies s p f back exit (fetched_then w q k) pc z d Plain o
    fetched_lies (Index a i) w f back exit k pc z d o sound fits small has l =
        let ca = expr_code s z.cells d a in let rb = right_code i (expr_code s z.cells (suc d) i) in
        let tail = λ (r : Operand). op.Index (z.cells + d) (z.cells + d) r (width_of w) ∷ op.Load (z.cells + suc d) (z.cells + d) (width_of w) ∷ [] in
        let t = tail (right_of i (z.cells + suc d)) in
        let e : pc + length (ca ++ (rb ++ t)) ≡ pc + length ca + length rb + 2 = omega (arith, length-append ca (rb ++ t), length-append rb t) in
        two_lies s p a i f back exit (FetchAt w ∷ k) pc z d o t has
        (stands s p f back exit (FetchAt w) k (pc + length ca + length rb) z (suc (suc d)) (top_of i) o
        (subst (λ r. HasAt (ops_in p f) (pc + length ca + length rb) (tail r)) (right_same i (z.cells + suc d)) (has_back (ops_in p f) (pc + length ca) rb t (has_back (ops_in p f) pc ca (rb ++ t) has)), small, lies_at s p f back exit k _ _ z (suc (suc d)) Plain (o + 16) e l))
        (expr_lies a f back exit _ pc z d o sound.0 (omega (arith, fits))) (expr_lies i f back exit _ _ z (suc d) o sound.1 (omega (arith, fits)))
    fetched_lies (Deref a) w f back exit k pc z d o sound fits small has l =
        let ca = expr_code s z.cells d a in let last = op.Load (z.cells + suc d) (z.cells + d) (width_of w) in
        let h = has_back (ops_in p f) pc ca (last ∷ []) has in
        let e : pc + length (ca ++ last ∷ []) ≡ pc + length ca + 1 = omega (arith, length-append ca (last ∷ [])) in
        expr_lies a f back exit (Fetch w ∷ k) pc z d o sound fits (has_front (ops_in p f) pc ca (last ∷ []) has)
        (more s p f back exit (Fetch w ∷ k) _ z (suc d) Plain o (stands s p f back exit (Fetch w) k (pc + length ca) z (suc d) Plain o (h.0, small, lies_at s p f back exit k _ _ z (suc (suc d)) Plain (o + 16) e l)))

    -- Arguments leave so many values more, and pay for what is done to them at the call.
    pub all_lie : (xs : Args) (f back exit : ℕ) (k : List Item) (pc : ℕ) (z : Stage) (d o : ℕ) → SoundArgs s z xs → z.cells + d + args_temps xs ≤ limit p f → HasAt (ops_in p f) pc (args_code s z.cells d xs) → Lies s p f back exit k (pc + length (args_code s z.cells d xs)) z (deep (count xs) d) Plain (o + 16 * count xs) → Lies s p f back exit (all_then xs k) pc z d Plain o
    all_lie NoMore f back exit k pc z d o sound fits has l =
        let e : pc + 0 ≡ pc = omega arith in let q : o + 16 * 0 ≡ o = omega arith in
        subst (λ o. Lies s p f back exit k pc z d Plain o) q (lies_at s p f back exit k _ _ z d Plain (o + 16 * 0) e l)
    all_lie (More a xs) f back exit k pc z d o sound fits has l =
        let ca = expr_code s z.cells d a in let cx = args_code s z.cells (suc d) xs in
        let e : pc + length (ca ++ cx) ≡ pc + length ca + length cx = omega (arith, length-append ca cx) in
        let q : o + 16 * suc (count xs) ≡ o + 16 + 16 * count xs = omega arith in
        expr_lies a f back exit (all_then xs k) pc z d o sound.0 (omega (arith, fits)) (has_front (ops_in p f) pc ca cx has)
        (all_lie xs f back exit k (pc + length ca) z (suc d) (o + 16) sound.1 (omega (arith, fits)) (has_back (ops_in p f) pc ca cx has)
        (subst (λ o. Lies s p f back exit k (pc + length ca + length cx) z (deep (count xs) (suc d)) Plain o) q (lies_at s p f back exit k _ _ z (deep (count xs) (suc d)) Plain (o + 16 * suc (count xs)) e l)))
