-- A thread's first function is entered.
use Rattle.std.proofs.Common.{◌≡◌, ℕ, ◌+◌, ◌-◌, ◌<◌, ◌≤◌, inl, inr, List, [], ◌∷◌, refl, sym, ◌∙◌, subst, arith, ⊎_elim}
use Rattle.std.specs.Prelude.{nat_lt}
use Rattle.std.proofs.lemmas.Bool.{cases_lt}
use Rattle.std.proofs.lemmas.Bool.Decides.{nat_tests}
use Rattle.std.proofs.lemmas.Option.{slice_get_within}
use Rattle.nx_base.specs.declared.regs.Regs.{Regs}
use Rattle.nx_base.specs.Registers.{reg}
use Rattle.nx_base.specs.Views.{View}
use Rattle.nx_base.proofs.RegisterLemmas.{reg-zero}
use Rattle.nx_slot.specs.Objects.{Value, Object}
use Rattle.nx_slot.specs.Meaning.{stack_need, opened}
use Rattle.nx_slot.specs.Runs.{begun}
use Rattle.nx_codegen.specs.declared.output.Target.TheVariants.{Function}
use Rattle.nx_shown.specs.Leading.{At}
use Rattle.nx_pieces.specs.Cells.{Open}
use Rattle.nx_pieces.proofs.Cells.{words_fit}
use Rattle.nx_pieces.proofs.Writes.{cell_in_word}
use Rattle.nx_entries.specs.Laws.{KnowsTop}
use Rattle.nx_entries.proofs.Entries.{opens, tells}
use Rattle.nx_linked.specs.Linked.{Program, IsLinked}
use Rattle.nx_linked.specs.Meant.{Means}
use Rattle.nx_linked.specs.Standing.{function_in}
use Rattle.nx_linked.specs.Doing.{Does}
use Rattle.nx_linked.proofs.Arrays.{frame_some}
use Rattle.nx_linked.proofs.Staying.{shown_same}
use Rattle.nx_called.proofs.Lengths.{enter_few}
use Rattle.nx_called.proofs.Going.{local_not_register, fits_or, entry_stands, entry_place}
use Rattle.nx_kept.specs.Keeps.{IsStart}

pub start_done : (c : Program) (f : ℕ) (args : List Value) (os : List Object) (r : Regs) (v : View) → IsLinked c → IsStart c f args os r v → Does c r v (begun c.code f args os)
start_done c f args os r v linked s =
    let g = function_in c f in let e = c.place in
    let code = linked.functions f s.known in
    let fine = code.function in
    let size = linked.stack in
    let wf = frame_some g fine in
    let t = reg r in
    let high = linked.place.high in let ord = linked.place.ordered in let fsm = fine.small in let spi = s.pointer in
    let to = c.links (Function f) in
    let a : At e r v to t s.bytes = record {
      pc_is = s.pc_is;
      aligned = code.aligned;
      size = s.size;
      holds = λ k. refl;
      zero = reg-zero r;
      small = s.small;
      sees = s.sees;
    } in
    let knows : KnowsTop e t = inr (s.top, s.pointer) in
    let se = entry_stands c linked f s.known in
    let ef = enter_few g fine in
    fits_or c 14 os (opened f args) [] r v (nat_lt c.code.stack (stack_need c.code (opened f args ∷ []))) refl
    (λ q.
    let z : c.code.stack < g.frame + 0 = grind (arith, nat_tests) in
    let fl = tells e g r v to t s.bytes linked.place wf (omega (arith, spi, high, ord, fsm)) (omega (arith, spi)) (omega (arith, z, size, spi, high, fsm)) s.low knows se a in
    let rc = fl.reaches in let fw = fl.few in
    record {
      regs = rc.regs;
      view = rc.view;
      count = fl.count;
      reaches = rc.reaches;
      few = omega (arith, fw);
      only = rc.only;
      number = rc.at.holds 10 ∙ fl.number;
      need_is = rc.at.holds 11 ∙ fl.need_is ∙ omega (arith, spi, high, ord, fsm);
    })
    (λ q.
    let fits : g.frame + 0 ≤ c.code.stack = grind (arith, nat_tests) in
    let sp = e.top - g.frame in
    let al = fine.aligned in let ta = linked.place.top_aligned in
    let o : Open e g sp = record { place = linked.place; function = fine; low = omega (arith, fits, size); top = omega (arith, fits, size); aligned = omega (arith, al, ta, fits, size) } in
    let up : sp + g.frame ≡ e.top = omega (arith, fits, size) in
    let en = opens e g sp r v to t s.bytes o wf (spi ∙ sym up) s.low knows se a in
    let d = en.bytes in
    let we = words_fit e g sp o in
    let lo = o.low in
    let few = en.few in
    record {
      regs = en.next.regs;
      view = en.next.view;
      count = en.count;
      leads = en.next.leads;
      few = omega (arith, few, ef);
      some = en.some;
      only = en.next.only;
      active = record {
        base = c.address;
        sp = sp;
        registers = en.new;
        bytes = d;
        known = s.known;
        opened = o;
        at = subst (λ n. At e en.next.regs en.next.view n en.new d) (sym (entry_place c linked f s.known)) en.next.at;
        pointer = en.pointer;
        top = en.top;
        low = en.low ∙ s.low;
        cells = λ j y q. let w = slice_get_within args j y q in let n = s.count in let hp = fine.has_params in
            subst (λ k. Means c c.address os y k) (sym (cell_in_word g sp en.new d j (local_not_register g j (omega (arith, w, n, hp))) ∙ en.words j (omega (arith, w, n)))) (s.arguments_are j y q);
        few = let n = s.count in let hp = fine.has_params in omega (arith, n, hp);
        below = (up, en.back ∙ s.back);
        shown = shown_same c c.address os s.bytes d (λ q k i. en.rest k (⊎_elim (λ w. inl w) (λ w. inr (⊎_elim (λ u. absurd (s.outside q k i (omega (arith, w, lo)) u)) (λ u. omega (arith, u, up, we)) (cases_lt k e.top))) (cases_lt k sp))) s.shown;
        owned = (record { each = λ q k i p w. absurd (s.outside q k i (omega (arith, p, lo)) (omega (arith, w, up))); arrays = λ k p. absurd (omega (arith, p)); later = λ k p. absurd (omega (arith, p)) }, tt);
        under = λ q k i p w. absurd (s.outside q k i p w);
      };
    })
