-- A function's call: its frame is opened, or is too much for the stack.
use Rattle.std.proofs.Common.{◌≡◌, ℕ, ◌+◌, ◌-◌, ◌*◌, ◌<◌, ◌≤◌, ◌⊎◌, inl, inr, Bool, true, false, List, ◌∷◌, ◌++◌, length, refl, sym, ap, ◌∙◌, subst, arith, ⊎_elim, length-append}
use Rattle.std.specs.Prelude.{nat_lt}
use Rattle.std.proofs.lemmas.Bool.{cases_lt}
use Rattle.std.proofs.lemmas.Bool.Decides.{nat_tests}
use Rattle.nx_base.specs.declared.regs.Regs.{Regs}
use Rattle.nx_base.specs.Views.{View}
use Rattle.nx_slot.specs.declared.op.SlotOp.TheVariants as op
use Rattle.nx_slot.specs.declared.program.SlotFunction.{SlotFunction}
use Rattle.nx_slot.specs.Objects.{Object}
use Rattle.nx_slot.specs.Meaning.{SlotFrame, stack_need, cells_from, waiting, opened, entered}
use Rattle.nx_codegen.specs.declared.output.Target.TheVariants.{Function}
use Rattle.nx_codegen.specs.Frames.{in_register, cell_at, words_end}
use Rattle.nx_codegen.specs.Moves.{answer_code}
use Rattle.nx_codegen.specs.Calling.{arguments_code, kept_at, save_code, restore_code, call_code, enter_code}
use Rattle.nx_codegen.specs.Code.{place_of}
use Rattle.nx_shown.specs.Bytes.{number_at}
use Rattle.nx_shown.specs.Leading.{At}
use Rattle.nx_shown.proofs.Stores.{same_number}
use Rattle.nx_shown.proofs.Steps.{on}
use Rattle.nx_pieces.specs.Parts.{IsCode}
use Rattle.nx_pieces.specs.Cells.{Open}
use Rattle.nx_pieces.proofs.Parts.{back}
use Rattle.nx_pieces.proofs.Cells.{inside, words_fit}
use Rattle.nx_pieces.proofs.Writes.{cell_in_word}
use Rattle.nx_places.proofs.Standing.{entries}
use Rattle.nx_entries.proofs.Entries.{opens, tells, reach}
use Rattle.nx_linked.specs.Linked.{Program, IsLinked}
use Rattle.nx_linked.specs.Meant.{IsIn, Means, IsWord}
use Rattle.nx_linked.specs.Standing.{function_in, Waits, AreBelow, AreOwned, IsActive}
use Rattle.nx_linked.specs.Doing.{Went, Full, Does}
use Rattle.nx_linked.proofs.Arrays.{words_four, frame_some}
use Rattle.nx_linked.proofs.Staying.{extends_same, words_above, below_kept, shown_same, not_words, below_need}
use Rattle.nx_acted.proofs.Written.{pc_in, IsHere, cell_room}
use Rattle.nx_called.proofs.Lengths.{from_get, from_length, take_get, take_length, Hands, arguments_length, call_two, save_length, enter_few}
use Rattle.nx_called.proofs.Calling.{entering}

pub local_not_register : (g : SlotFunction) (i : ℕ) → i < g.locals → in_register g i ≡ false
unfolding in_register
local_not_register g i h = grind (arith, nat_tests)

pub fits_or : (c : Program) (cost : ℕ) (os : List Object) (f : SlotFrame) (fs : List SlotFrame) (r : Regs) (v : View) (q : Bool) → nat_lt c.code.stack (stack_need c.code (f ∷ fs)) ≡ q
    → (nat_lt c.code.stack (stack_need c.code (f ∷ fs)) ≡ true → Full c cost (stack_need c.code (f ∷ fs)) r v)
    → (nat_lt c.code.stack (stack_need c.code (f ∷ fs)) ≡ false → Went c cost r v os f fs)
    → Does c r v (entered c.code (f ∷ fs) os cost)
fits_or c cost os f fs r v true e full fits = rw e (full e)
fits_or c cost os f fs r v false e full fits = rw e (fits e)

-- Its entry stands where the link says.
pub entry_stands : (c : Program) (l : IsLinked c) (h : ℕ) → h < length c.code.functions → IsCode c.place (c.links (Function h)) (enter_code (function_in c h))
entry_stands c l h k = (entries c.place c.links (function_in c h) (c.links (Function h)) (l.functions h k).stands).0

pub entry_place : (c : Program) (l : IsLinked c) (h : ℕ) → h < length c.code.functions → c.links (Function h) + place_of (function_in c h) 0 ≡ c.links (Function h) + 4 * length (enter_code (function_in c h))
entry_place c l h k = ap (λ n. c.links (Function h) + n) (entries c.place c.links (function_in c h) (c.links (Function h)) (l.functions h k).stands).1

pub go_done : (c : Program) (os : List Object) (f : SlotFrame) (fs : List SlotFrame) (r : Regs) (v : View) (h at count : ℕ) → IsLinked c → h < length c.code.functions → IsHere c f (op.Go h at count) → IsActive c os f fs r v → Hands (function_in c f.function) f.cells at count → count ≡ (function_in c h).params
    → Does c r v (entered c.code (opened h (cells_from f.cells at count) ∷ waiting f at ∷ fs) os 30)
go_done c os f fs r v h at count linked known here a has params =
    let g = function_in c f.function in let gh = function_in c h in
    let e = c.place in
    let code = linked.functions h known in
    let fine = code.function in
    let size = linked.stack in
    let pc = pc_in c f in
    let there = has.there in let af = a.few in let few = has.few in
    let m = kept_at g at in
    let behind = restore_code m ++ answer_code g at in
    let to = c.links (Function h) in
    let ret = pc + 4 * (m + count + 2) in
    let se = entry_stands c linked h known in
    let cf = se.1 in
    let call = entering e g a.sp to at count r v pc a.registers a.bytes behind a.opened has.temporary has.room (omega (arith, there, af)) few a.pointer (omega (arith, cf)) code.aligned here.stands a.at in
    let cn = call.next in
    let need = below_need c a.base os fs (a.sp + g.frame) (number_at a.bytes a.sp 4) a.bytes a.below in
    let wf = frame_some gh fine in
    let low = a.opened.low in let top = a.opened.top in let high = linked.place.high in let fsm = fine.small in
    let sp_is : call.new 2 ≡ a.sp = call.fixed 2 (omega arith) (omega arith) ∙ a.pointer in
    let top_is : call.new 3 ≡ e.top = call.fixed 3 (omega arith) (omega arith) ∙ a.top in
    let low_is : call.new 4 ≡ e.low = call.fixed 4 (omega arith) (omega arith) ∙ a.low in
    let ef = enter_few gh fine in let cfew = call.few in
    fits_or c 30 os (opened h (cells_from f.cells at count)) (waiting f at ∷ fs) r v (nat_lt c.code.stack (stack_need c.code (opened h (cells_from f.cells at count) ∷ waiting f at ∷ fs))) refl
    (λ q.
    let over : c.code.stack < gh.frame + (g.frame + stack_need c.code fs) = grind (arith, nat_tests) in
    let short : a.sp - gh.frame < e.low = omega (arith, over, need, size, low, high, fsm) in
    let fl = tells e gh cn.regs cn.view to call.new call.bytes linked.place wf (omega (arith, sp_is, low, high, fsm)) (omega (arith, sp_is, top)) (subst (λ n. n - gh.frame < e.low) (sym sp_is) short) low_is (inl top_is) se cn.at in
    let rc = reach e call.steps fl.count r v to fl.behind call.new fl.new call.bytes call.bytes cn fl.reaches in let flf = fl.few in
    record {
      regs = rc.regs;
      view = rc.view;
      count = call.steps + fl.count;
      reaches = rc.reaches;
      few = omega (arith, cfew, flf);
      only = rc.only;
      number = rc.at.holds 10 ∙ fl.number;
      need_is = rc.at.holds 11 ∙ fl.need_is ∙ ap (λ n. e.top - (n - gh.frame)) sp_is ∙ omega (arith, need, low, high, fsm);
    })
    (λ q.
    let fits : gh.frame + (g.frame + stack_need c.code fs) ≤ c.code.stack = grind (arith, nat_tests) in
    let sp' = a.sp - gh.frame in
    let al = fine.aligned in let spa = a.opened.aligned in
    let o : Open e gh sp' = record { place = linked.place; function = fine; low = omega (arith, fits, need, size); top = omega (arith, top, low, high, fsm); aligned = omega (arith, al, spa, low, high, fsm) } in
    let up : sp' + gh.frame ≡ a.sp = omega (arith, low, high, fsm) in
    let en = opens e gh sp' cn.regs cn.view to call.new call.bytes o wf (sp_is ∙ sym up) low_is (inl top_is) se cn.at in
    let d = en.bytes in
    let we = words_fit e gh sp' o in
    let f' = waiting f at in
    let wg = words_fit e g a.sp a.opened in
    let above : (k : ℕ) → a.sp ≤ k → d k ≡ call.bytes k = λ k p. en.rest k (inr (omega (arith, p, up, we))) in
    let g4 = words_four g in
    let ra : number_at d a.sp 4 ≡ number_at a.bytes a.sp 4 = same_number d a.bytes a.sp 4 (λ k p w. above k p ∙ call.rest k (inl w)) in
    let upper : (k : ℕ) → IsWord c fs (a.sp + g.frame) k → d k ≡ a.bytes k = λ k p. let z = words_above c fs (a.sp + g.frame) k p in above k (omega (arith, z)) ∙ call.rest k (inr (omega (arith, z, wg))) in
    let objects : (q k : ℕ) → IsIn a.base os q k → d k ≡ a.bytes k = λ q k i. ⊎_elim
    (λ w. en.rest k (outside q k i w o.low) ∙ call.rest k (inl (omega (arith, w))))
    (λ w. above k w ∙ call.rest k (⊎_elim (λ u. inl (omega (arith, u))) (λ u. inr u) (off q k i w)))
    (cases_lt k a.sp) in
    let ft = a.opened.function.temporaries in
    let xs = save_length m in let xa = arguments_length g at count has.temporary (omega (arith, there, af)) ft in let xc = call_two to in
    let k1 = length-append (save_code m) (arguments_code g at count ++ (call_code to ++ behind)) in let k2 = length-append (arguments_code g at count) (call_code to ++ behind) in let k3 = length-append (call_code to) behind in
    let hn = here.next in let pal = a.at.aligned in
    let sb1 = back e pc (save_code m) (arguments_code g at count ++ (call_code to ++ behind)) here.stands in
    let sb2 = back e (pc + 4 * length (save_code m)) (arguments_code g at count) (call_code to ++ behind) sb1 in
    let there_is : pc + 4 * length (save_code m) + 4 * length (arguments_code g at count) + 4 * length (call_code to) ≡ ret = omega (arith, xs, xa, xc) in
    let sb3 : IsCode e ret behind = subst (λ n. IsCode e n behind) there_is (back e (pc + 4 * length (save_code m) + 4 * length (arguments_code g at count)) (call_code to) behind sb2) in
    let tl = take_length f.cells at (omega (arith, there)) in
    let waits : Waits c a.base os f' a.sp ret d = record {
      known = a.known;
      opened = a.opened;
      cells = λ i y q. let k = take_get f.cells at i y q in let k0 = k.0 in
          let room = cell_room c os f fs r v pc a i y k.1 in
          let iz = inside g i room in let z1 = iz.low in let z2 = iz.top in
          subst (λ n. Means c a.base os y n) (sym (same_number d call.bytes (a.sp + cell_at g i) 4 (λ n p w. above n (omega (arith, p))) ∙ call.held i k0)) (a.cells i y k.1);
      next = tl;
      temporary = has.temporary;
      room = has.room;
      behind = record {
        stands = sb3;
        aligned = omega (arith, pal);
        leads = hn ∙ omega (arith, k1, k2, k3, xs, xa, xc);
      };
    } in
    let ecount = en.few in let esome = en.some in
    let nx = on e call.steps en.count r v to (to + 4 * length (enter_code gh)) call.new en.new call.bytes d cn en.next in
    record {
      regs = nx.regs;
      view = nx.view;
      count = call.steps + en.count;
      leads = nx.leads;
      few = omega (arith, cfew, ecount, ef);
      some = omega (arith, esome);
      only = nx.only;
      active = record {
        base = a.base;
        sp = sp';
        registers = en.new;
        bytes = d;
        known = known;
        opened = o;
        at = subst (λ n. At e nx.regs nx.view n en.new d) (sym (entry_place c linked h known)) nx.at;
        pointer = en.pointer;
        top = en.top;
        low = en.low ∙ low_is;
        cells = λ j y q. let k = from_get f.cells count at j y there q in let k0 = k.0 in
            let hp = fine.has_params in
            let loc : j < gh.locals = omega (arith, k0, params, hp) in
            subst (λ n. Means c a.base os y n) (sym (cell_in_word gh sp' en.new d j (local_not_register gh j loc) ∙ en.words j (omega (arith, k0, params)) ∙ call.arguments j k0)) (a.cells (at + j) y k.1);
        few = let n = from_length f.cells count at in let hp = fine.has_params in omega (arith, n, params, hp);
        below = subst (λ n. AreBelow c a.base os (f' ∷ fs) n (number_at d sp' 4) d) (sym up) (subst (λ n. AreBelow c a.base os (f' ∷ fs) a.sp n d) (sym (en.back ∙ call.back))
            (waits, subst (λ n. AreBelow c a.base os fs (a.sp + g.frame) n d) (sym ra) (below_kept c a.base os a.base os fs (a.sp + g.frame) (number_at a.bytes a.sp 4) a.bytes d (extends_same a.base os) upper a.below)));
        shown = shown_same c a.base os a.bytes d objects a.shown;
        owned = (
          record {
            each = λ q k i p w. absurd (let ht = a.opened.top in let z = a.under q k i (let ol = o.low in omega (arith, p, ol)) (omega (arith, w, up, ht)) in omega (arith, z, w, up));
            arrays = λ k p. absurd (omega (arith, p));
            later = λ k p. absurd (omega (arith, p));
          },
          subst (λ n. AreOwned c a.base os (f' ∷ fs) n) (sym up) a.owned,
        );
        under = λ q k i p w. let z = a.under q k i p w in omega (arith, z);
      };
    })
  where
    outside : (q k : ℕ) → IsIn a.base os q k → k < a.sp → c.place.low ≤ a.sp - (function_in c h).frame → (k < a.sp - (function_in c h).frame) ⊎ (a.sp - (function_in c h).frame + words_end (function_in c h) ≤ k)
    outside q k i w l = ⊎_elim (λ u. inl u) (λ u. absurd (let t = a.opened.top in let z = a.under q k i (omega (arith, u, l)) (omega (arith, w, t)) in omega (arith, z, w))) (cases_lt k (a.sp - (function_in c h).frame))

    off : (q k : ℕ) → IsIn a.base os q k → a.sp ≤ k → (k < a.sp + 4) ⊎ (a.sp + words_end (function_in c f.function) ≤ k)
    off q k i w = ⊎_elim (λ u. absurd (not_words c (function_in c f.function) a.base os f.arrays a.sp q k a.opened a.owned.0 i w u)) (λ u. inr u) (cases_lt k (a.sp + words_end (function_in c f.function)))
