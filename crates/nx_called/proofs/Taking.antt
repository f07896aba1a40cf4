-- The value of a call is taken in.
use Rattle.std.proofs.Common.{◌≡◌, ℕ, ◌+◌, ◌*◌, ◌≤◌, List, [], ◌∷◌, length, refl, sym, ap, ◌∙◌, subst, arith}
use Rattle.std.specs.Prelude.{pos}
use Rattle.nx_base.specs.declared.regs.Regs.{Regs}
use Rattle.nx_base.specs.Views.{View}
use Rattle.nx_slot.specs.Objects.{Value, Object}
use Rattle.nx_slot.specs.Meaning.{SlotFrame, put}
use Rattle.nx_rv.specs.Execution.{stretch}
use Rattle.nx_codegen.specs.Moves.{addi, answer_code, set_code, target}
use Rattle.nx_shown.specs.Places.{Only}
use Rattle.nx_pieces.specs.Parts.{IsCode}
use Rattle.nx_pieces.proofs.Parts.{front, sets_one, copy_next}
use Rattle.nx_operations.proofs.Operations.{target_written, sets_cell}
use Rattle.nx_entries.proofs.Entries.{only_then}
use Rattle.nx_linked.specs.Linked.{Program}
use Rattle.nx_linked.specs.Meant.{Means}
use Rattle.nx_linked.specs.Standing.{function_in, address_of, Rests}
use Rattle.nx_linked.specs.Doing.{LeadsTo, Reaches, Went}
use Rattle.nx_acted.proofs.Cells.{Writes}
use Rattle.nx_acted.proofs.Written.{cell_taken}

answer_is : (c : Program) (f : SlotFrame) → answer_code (function_in c f.function) f.wants ≡ addi (target (function_in c f.function) f.wants) 10 (pos 0) ∷ set_code (function_in c f.function) f.wants
unfolding answer_code
answer_is c f = refl

pub taken_in : (c : Program) (os : List Object) (f : SlotFrame) (fs : List SlotFrame) (r : Regs) (v : View) (pc : ℕ) (a : Rests c os f fs r v pc) (x : Value) → Writes (function_in c f.function) f.cells f.wants → Means c a.base os x (a.registers 10) → IsCode c.place pc (answer_code (function_in c f.function) f.wants)
    → address_of c f.function f.place ≡ pc + 4 * length (answer_code (function_in c f.function) f.wants) → Went c (length (answer_code (function_in c f.function) f.wants)) r v os (record f { cells = put f.cells f.wants x }) fs
taken_in c os f fs r v pc a x has means s next =
    let g = function_in c f.function in
    let i = addi (target g f.wants) 10 (pos 0) in
    let code = i ∷ set_code g f.wants in
    let same = answer_is c f in
    let s' : IsCode c.place pc code = subst (λ k. IsCode c.place pc k) same s in
    let m = copy_next c.place r v pc a.registers a.bytes (target g f.wants) 10 a.opened.place (front c.place pc (i ∷ []) (set_code g f.wants) s') (target_written g f.wants) a.at in
    let n = sets_one c.place i r v pc (target g f.wants) (a.registers 10) a.registers a.bytes m in
    let w = sets_cell c.place g a.sp (i ∷ []) r v pc f.wants (a.registers 10) a.registers a.bytes a.opened has.room a.pointer s' n in
    subst (λ k. Went c (length k) r v os (record f { cells = put f.cells f.wants x }) fs) (sym same)
    (cell_taken c os f fs r v pc code a f.place f.wants (a.registers 10) (length code) x has means (next ∙ ap (λ k. pc + 4 * length k) same) w (omega arith) (omega arith))

pub went_later : (c : Program) (m n k : ℕ) (r : Regs) (v : View) (s : Regs) (w : View) (os : List Object) (f : SlotFrame) (fs : List SlotFrame) → m + n ≤ k → LeadsTo m r v s w → Only c.place v w → Went c n s w os f fs → Went c k r v os f fs
went_later c m n k r v s w os f fs h l o x = record {
  regs = x.regs;
  view = x.view;
  count = m + x.count;
  leads = λ k. let q : k + (m + x.count) ≡ (k + x.count) + m = omega arith in ap (λ j. stretch j r v) q ∙ l (k + x.count) ∙ x.leads k;
  few = let z = x.few in omega (arith, z, h);
  some = let z = x.some in omega (arith, z);
  only = only_then c.place v w x.view o x.only;
  active = x.active;
}

pub reached_later : (m n : ℕ) (r : Regs) (v : View) (s : Regs) (w : View) (t : Regs) (u : View) → LeadsTo m r v s w → Reaches n s w t u → Reaches (m + n) r v t u
reached_later m n r v s w t u l h k = let q : k + (m + n) ≡ (k + n) + m = omega arith in ap (λ j. stretch j r v) q ∙ l (k + n) ∙ h k

pub leads_then : (m n : ℕ) (r : Regs) (v : View) (s : Regs) (w : View) (t : Regs) (u : View) → LeadsTo m r v s w → LeadsTo n s w t u → LeadsTo (m + n) r v t u
leads_then m n r v s w t u l h k = let q : k + (m + n) ≡ (k + n) + m = omega arith in ap (λ j. stretch j r v) q ∙ l (k + n) ∙ h k
