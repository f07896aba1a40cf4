-- Calls and returns, as slot code makes them.
use Rattle.std.proofs.Common.{◌≡◌, ℕ, ◌≤◌, false, List, length, Option, Some, None, refl, arith}
use Rattle.std.specs.Prelude.{◌==◌}
use Rattle.std.proofs.lemmas.Bool.Decides.{nat_tests}
use Rattle.nx_base.specs.declared.regs.Regs.{Regs}
use Rattle.nx_base.specs.Views.{View}
use Rattle.nx_slot.specs.declared.op.Operand.{Operand}
use Rattle.nx_slot.specs.declared.op.SlotOp.TheVariants as op
use Rattle.nx_slot.specs.Calls.{call_inputs}
use Rattle.nx_slot.specs.Meaning.{SlotTurn, NoCell, NoFit, cells_from, may_hand, operand, on_inputs}
use Rattle.nx_linked.specs.Linked.{Program}
use Rattle.nx_linked.specs.Standing.{function_in}
use Rattle.nx_linked.specs.Doing.{Does}
use Rattle.nx_acted.specs.Laws.{IsDone}
use Rattle.nx_acted.proofs.Peeling.{does_if, does_unless, does_value}
use Rattle.nx_acted.proofs.Written.{is_here}
use Rattle.nx_acted.proofs.Acts.{compiled, is_given}
use Rattle.nx_called.specs.Laws.{CallsAndReturnsAreDone}
use Rattle.nx_called.proofs.Lengths.{from_length, hands_is}
use Rattle.nx_called.proofs.Asking.{ask_done}
use Rattle.nx_called.proofs.Going.{go_done}
use Rattle.nx_called.proofs.Giving.{give_done}

does_inputs : (c : Program) (r : Regs) (v : View) (x : Option (List (List ℕ))) (go : List (List ℕ) → SlotTurn) → ((y : List (List ℕ)) → x ≡ Some y → Does c r v (go y)) → Does c r v (on_inputs x go)
does_inputs c r v None go h = tt
does_inputs c r v (Some y) go h = h y refl

not_zero : (n : ℕ) → (n == 0) ≡ false → 1 ≤ n
not_zero n e = grind (arith, nat_tests)

ask_does : (number : _) (first count : ℕ) → IsDone (op.Ask number first count)
ask_does number first count c os f fs r v l e a = does_if c r v (may_hand (function_in c f.function) f.cells first count) _ NoCell (λ q. does_unless c r v (number == 0) _ NoFit (λ z. does_inputs c r v (call_inputs (c.code.rows number) os (cells_from f.cells first count)) _ (λ inputs p.
    let i = compiled c os f fs r v l a in
    let here = is_here c f (op.Ask number first count) i e in
    ask_done c os f fs r v number first count inputs (i.operations f.place (op.Ask number first count) e) (not_zero number z) here a (hands_is (function_in c f.function) f.cells first count q) p)))

go_does : (h first count : ℕ) → IsDone (op.Go h first count)
go_does h first count c os f fs r v l e a = does_if c r v (may_hand (function_in c f.function) f.cells first count) _ NoCell (λ q. does_if c r v (length (cells_from f.cells first count) == (function_in c h).params) _ NoFit (λ p.
    let i = compiled c os f fs r v l a in
    let here = is_here c f (op.Go h first count) i e in
    let n = from_length f.cells count first in
    let same : length (cells_from f.cells first count) ≡ (function_in c h).params = grind (arith, nat_tests) in
    go_done c os f fs r v h first count l (i.operations f.place (op.Go h first count) e) here a (hands_is (function_in c f.function) f.cells first count q) (omega (arith, n, same))))

give_does : (value : Operand) → IsDone (op.Give value)
give_does value c os f fs r v l e a = does_value c r v (operand f.cells value) _ (λ x p.
    let i = compiled c os f fs r v l a in
    let here = is_here c f (op.Give value) i e in
    give_done c os f fs r v value x l here a (is_given c os f fs r v a value x (i.operations f.place (op.Give value) e) p))

pub done : CallsAndReturnsAreDone
done (op.Ask number first count) p = ask_does number first count
done (op.Go function first count) p = go_does function first count
done (op.Give value) p = give_does value
done (op.Move to from) p = absurd p
done (op.Forge to from) p = absurd p
done (op.Apply o to left right) p = absurd p
done (op.Change o to from) p = absurd p
done (op.SkipUnless test left right past) p = absurd p
done (op.Skip past) p = absurd p
done (op.Back by) p = absurd p
done (op.Make k) p = absurd p
done (op.Local to k) p = absurd p
done (op.Static to o) p = absurd p
done (op.Entry to h) p = absurd p
done (op.Fetch to o) p = absurd p
done (op.Keep o from) p = absurd p
done (op.Index to base index w) p = absurd p
done (op.Load to place w) p = absurd p
done (op.Store place value w) p = absurd p
