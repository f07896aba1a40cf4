-- The run of slot code, and what its words come to.
use Rattle.std.proofs.Common.{◌≡◌, ℕ, zero, suc, ◌+◌, ◌-◌, ◌≤◌, List, [], ◌∷◌, refl, ap, ◌∙◌, subst, arith}
use Rattle.nx_base.specs.declared.regs.Regs.{Regs}
use Rattle.nx_base.specs.Calls.{Call}
use Rattle.nx_base.specs.Registers.{with_reg}
use Rattle.nx_base.specs.Views.{View}
use Rattle.nx_rv.specs.Execution as execution
use Rattle.nx_rv.specs.Execution.{stretch, End, Fuel, turn, after}
use Rattle.nx_slot.specs.Objects.{Value, Int, Object}
use Rattle.nx_slot.specs.Meaning as slot
use Rattle.nx_slot.specs.Meaning.{SlotFrame, SlotState, SlotTurn, state, step, delivered}
use Rattle.nx_slot.specs.Runs.{SlotReach, Going, Requested, Finished, Overflowed, Failed, dearer, then_on, run, begun}
use Rattle.nx_shown.specs.Places.{Only}
use Rattle.nx_entries.proofs.Entries.{only_then}
use Rattle.nx_linked.specs.Linked.{Program, IsLinked}
use Rattle.nx_linked.specs.Doing.{LeadsTo, WentTo, AskedAt, Does}
use Rattle.nx_called.proofs.Taking.{reached_later}
use Rattle.nx_kept.specs.Keeps.{Follows, WhereGoing, Goes, Keeps}
use Rattle.nx_kept.specs.Laws.{WordsKeepSlotCode}
use Rattle.nx_kept.proofs.Steps.{Stands, step_done}
use Rattle.nx_kept.proofs.Starting.{start_done}

-- At most n instructions lead to a state.
record Led (c : Program) (n : ℕ) (r : Regs) (v : View) (s : SlotState) : Type 0 where
  regs : Regs
  view : View
  count : ℕ
  leads : LeadsTo count r v regs view
  few : count ≤ n
  some : 1 ≤ count
  only : Only c.place v view
  stands : Stands c s regs view

led : (c : Program) (n : ℕ) (r : Regs) (v : View) (os : List Object) (fs : List SlotFrame) → WentTo c n r v os fs → Led c n r v (state fs os)
led c n r v os [] w = absurd w
led c n r v os (f ∷ fs) w = record { regs = w.regs; view = w.view; count = w.count; leads = w.leads; few = w.few; some = w.some; only = w.only; stands = w.active }

-- Instructions in front, for what was paid.
follows_later : (c : Program) (more : SlotState → Regs → View → ℕ → Type 0) (m cost saved : ℕ) (r : Regs) (v : View) (s1 : Regs) (w1 : View) (x : SlotReach) → LeadsTo m r v s1 w1 → Only c.place v w1 → m ≤ saved + cost → Follows c more s1 w1 (saved + cost - m) x → Follows c more r v saved (dearer cost x)
follows_later c more m cost saved r v s1 w1 (Going s n) l o h w = tt
follows_later c more m cost saved r v s1 w1 (Requested call outputs s n) l o h w =
    let k = w.0 in let cheap = k.cheap in
    let q : saved + cost - m + n - k.cost ≡ saved + (cost + n) - (m + k.cost) = omega arith in (
      record {
        cost = m + k.cost;
        regs = k.regs;
        view = k.view;
        cheap = omega (arith, cheap, h);
        reaches = reached_later m k.cost r v s1 w1 k.regs k.view l k.reaches;
        only = only_then c.place v w1 k.view o k.only;
        arguments = k.arguments;
        words = k.words;
        inputs = k.inputs;
        outputs_are = k.outputs_are;
        number = k.number;
        some = k.some;
        base = k.base;
        sp = k.sp;
        bytes = k.bytes;
        sees = k.sees;
        arguments_are = k.arguments_are;
        shown = k.shown;
        inside = k.inside;
        off = k.off;
      },
      λ value os u d small shape sees shown same. subst (λ y. more (state (delivered s.frames (Int value)) os) (with_reg k.regs 10 value) u y) q (w.1 value os u d small shape sees shown same),
    )
follows_later c more m cost saved r v s1 w1 (Finished x os n) l o h k = let cheap = k.cheap in record {
  cost = m + k.cost;
  regs = k.regs;
  view = k.view;
  cheap = omega (arith, cheap, h);
  reaches = reached_later m k.cost r v s1 w1 k.regs k.view l k.reaches;
  only = only_then c.place v w1 k.view o k.only;
  number = k.number;
  value_is = k.value_is;
  small = k.small;
  leaves = k.leaves;
}
follows_later c more m cost saved r v s1 w1 (Overflowed need n) l o h k = let cheap = k.cheap in record {
  cost = m + k.cost;
  regs = k.regs;
  view = k.view;
  cheap = omega (arith, cheap, h);
  reaches = reached_later m k.cost r v s1 w1 k.regs k.view l k.reaches;
  only = only_then c.place v w1 k.view o k.only;
  number = k.number;
  need_is = k.need_is;
}
follows_later c more m cost saved r v s1 w1 (Failed fault) l o h w = tt

dearer_zero : (x : SlotReach) → dearer 0 x ≡ x
dearer_zero (Going s n) = ap (Going s) (omega arith)
dearer_zero (Requested call outputs s n) = ap (Requested call outputs s) (omega arith)
dearer_zero (Finished x os n) = ap (Finished x os) (omega arith)
dearer_zero (Overflowed need n) = ap (Overflowed need) (omega arith)
dearer_zero (Failed fault) = refl

going_dearer : (n : ℕ) (x : SlotReach) (P : Type 0) → WhereGoing x P → WhereGoing (dearer n x) P
going_dearer n (Going s k) P w = w
going_dearer n (Requested call outputs s k) P w = tt
going_dearer n (Finished x os k) P w = tt
going_dearer n (Overflowed need k) P w = tt
going_dearer n (Failed fault) P w = tt

going_as : (x : SlotReach) (P Q : Type 0) → (P → Q) → WhereGoing x P → WhereGoing x Q
going_as (Going s k) P Q f w = f w
going_as (Requested call outputs s k) P Q f w = tt
going_as (Finished x os k) P Q f w = tt
going_as (Overflowed need k) P Q f w = tt
going_as (Failed fault) P Q f w = tt

-- A stretch that uses up its instructions does so with fewer.
after_fuel : (t : execution.Turn) (m n : ℕ) (go on : Regs → View → End) → ((r : Regs) (v : View) → (go r v).halt ≡ Fuel → (on r v).halt ≡ Fuel) → (after t m go).halt ≡ Fuel → (after t n on).halt ≡ Fuel
after_fuel (execution.Goes r v) m n go on h e = h r v e
after_fuel (execution.Calls r v) m n go on h e = absurd cc
after_fuel (execution.Traps c r v) m n go on h e = absurd cc

fewer : (n m : ℕ) (r : Regs) (v : View) → n ≤ m → (stretch m r v).halt ≡ Fuel → (stretch n r v).halt ≡ Fuel
unfolding stretch
fewer zero m r v h e = refl
fewer (suc n) zero r v h e = absurd (omega (arith, h))
fewer (suc n) (suc m) r v h e = after_fuel (turn r v) m n (stretch m) (stretch n) (λ s w f. fewer n m s w (omega (arith, h)) f) e

nothing : (r : Regs) (v : View) → (stretch 0 r v).halt ≡ Fuel
unfolding stretch
nothing r v = refl

fuel_after : (k m : ℕ) (r : Regs) (v : View) (s : Regs) (w : View) → LeadsTo m r v s w → (stretch k s w).halt ≡ Fuel → (stretch k r v).halt ≡ Fuel
fuel_after k m r v s w l e = fewer k (k + m) r v (omega arith) (ap (λ (x : End). x.halt) (l k) ∙ e)

leads_none : (r : Regs) (v : View) → LeadsTo 0 r v r v
leads_none r v k = let q : k + 0 ≡ k = omega arith in ap (λ j. stretch j r v) q

only_none : (c : Program) (v : View) → Only c.place v v
only_none c v = record { shows = λ written low top b ap h. h; runs = λ at ap. refl }

module _ (c : Program) (linked : IsLinked c) where
  -- So many operations take at least as many instructions.
  runs_on : (n : ℕ) (s : SlotState) (r : Regs) (v : View) → Stands c s r v → WhereGoing (run c.code n s) ((stretch n r v).halt ≡ Fuel)
  unfolding run
  runs_on zero s r v a = nothing r v
  runs_on (suc n) s r v a = by_turn (step c.code s) (step_done c s r v linked a) (λ t q w b. runs_on n t q w b)
    where
      by_turn : (t : SlotTurn) → Does c r v t → ((t : SlotState) (q : Regs) (w : View) → Stands c t q w → WhereGoing (run c.code n t) ((stretch n q w).halt ≡ Fuel)) → WhereGoing (then_on t (run c.code n)) ((stretch (suc n) r v).halt ≡ Fuel)
      by_turn (slot.Goes t k) d again =
          let w = led c k r v t.objects t.frames d in
          let some = w.some in
          going_dearer k (run c.code n t) _ (going_as (run c.code n t) _ _ (λ f. fewer (suc n) (n + w.count) r v (omega (arith, some)) (ap (λ (x : End). x.halt) (w.leads n) ∙ f)) (again t w.regs w.view w.stands))
      by_turn (slot.Requests call outputs t k) d again = tt
      by_turn (slot.Finishes x os k) d again = tt
      by_turn (slot.Overflows need k) d again = tt
      by_turn (slot.Fails fault) d again = tt

  -- The run up to the next call; goal: what is wanted behind it.
  run_follows : (more : SlotState → Regs → View → ℕ → Type 0) → ((s : SlotState) (r : Regs) (v : View) (m saved : ℕ) (q : Regs) (w : View) → LeadsTo m r v q w → Only c.place v w → m ≤ saved → Stands c s q w → more s r v saved)
      → (n : ℕ) (s : SlotState) (r : Regs) (v : View) (saved : ℕ) → Stands c s r v → Follows c more r v saved (run c.code n s)
  unfolding run
  run_follows more goal zero s r v saved a = tt
  run_follows more goal (suc n) s r v saved a = by_turn (step c.code s) (step_done c s r v linked a) (λ t q w left b. run_follows more goal n t q w left b)
    where
      asked : (call : Call) (outputs : List Value) (os : List Object) (fs : List SlotFrame) (k : ℕ) → AskedAt c k r v call outputs os fs → Follows c more r v saved (Requested call outputs (state fs os) k)
      asked call outputs os [] k d = absurd d
      asked call outputs os (f ∷ fs) k d =
          let few = d.few in (
            record {
              cost = d.count;
              regs = d.regs;
              view = d.view;
              cheap = omega (arith, few);
              reaches = d.reaches;
              only = d.only;
              arguments = d.arguments;
              words = d.words;
              inputs = d.inputs;
              outputs_are = d.outputs_are;
              number = d.number;
              some = d.some;
              base = d.base;
              sp = d.sp;
              bytes = d.bytes;
              sees = d.sees;
              arguments_are = d.arguments_are;
              shown = d.shown;
              inside = d.inside;
              off = d.off;
            },
            λ value new u b small shape sees shown same.
                let w = d.on value new u b small shape sees shown same in
                let wf = w.few in
                goal _ (with_reg d.regs 10 value) u w.count (saved + k - d.count) w.regs w.view w.leads w.only (omega (arith, wf, few)) w.active,
          )

      by_turn : (t : SlotTurn) → Does c r v t → ((t : SlotState) (q : Regs) (w : View) (left : ℕ) → Stands c t q w → Follows c more q w left (run c.code n t)) → Follows c more r v saved (then_on t (run c.code n))
      by_turn (slot.Goes t k) d again =
          let w = led c k r v t.objects t.frames d in
          let few = w.few in
          follows_later c more w.count k saved r v w.regs w.view (run c.code n t) w.leads w.only (omega (arith, few)) (again t w.regs w.view (saved + k - w.count) w.stands)
      by_turn (slot.Requests call outputs t k) d again = asked call outputs t.objects t.frames k d
      by_turn (slot.Finishes x os k) d again = let few = d.few in record { cost = d.count; regs = d.regs; view = d.view; cheap = omega (arith, few); reaches = d.reaches; only = d.only; number = d.number; value_is = d.value_is; small = d.small; leaves = d.leaves }
      by_turn (slot.Overflows need k) d again = let few = d.few in record { cost = d.count; regs = d.regs; view = d.view; cheap = omega (arith, few); reaches = d.reaches; only = d.only; number = d.number; need_is = d.need_is }
      by_turn (slot.Fails fault) d again = tt

  -- From a state on, that some instructions lead to.
  pub keeps_on : (calls : ℕ) (s : SlotState) (r : Regs) (v : View) (m saved : ℕ) (q : Regs) (w : View) → LeadsTo m r v q w → Only c.place v w → m ≤ saved → Stands c s q w → Keeps c calls s r v saved
  keeps_on zero s r v m saved q w l o h a = tt
  keeps_on (suc calls) s r v m saved q w l o h a = record {
    follows = λ n. subst (Follows c (Keeps c calls) r v saved) (dearer_zero (run c.code n s))
        (follows_later c (Keeps c calls) m 0 saved r v q w (run c.code n s) l o (omega (arith, h))
        (run_follows (Keeps c calls) (λ t r2 v2 k left q2 w2 l2 o2 h2 b. keeps_on calls t r2 v2 k left q2 w2 l2 o2 h2 b) n s q w (saved + 0 - m) a));
    waits = λ k. (k, going_as (run c.code k s) _ _ (λ e. fuel_after k m r v q w l e) (runs_on k s q w a));
  }

-- A turn that a thread begins with.
asks_first : (c : Program) → IsLinked c → (calls : ℕ) (r : Regs) (v : View) (call : Call) (outputs : List Value) (os : List Object) (fs : List SlotFrame) (k : ℕ) → AskedAt c k r v call outputs os fs → Goes c (Keeps c calls) r v 0 (λ n. Requested call outputs (state fs os) k)
asks_first c linked calls r v call outputs os [] k d = absurd d
asks_first c linked calls r v call outputs os (f ∷ fs) k d =
    let few = d.few in
    record {
      follows = λ n. (
        record {
          cost = d.count;
          regs = d.regs;
          view = d.view;
          cheap = omega (arith, few);
          reaches = d.reaches;
          only = d.only;
          arguments = d.arguments;
          words = d.words;
          inputs = d.inputs;
          outputs_are = d.outputs_are;
          number = d.number;
          some = d.some;
          base = d.base;
          sp = d.sp;
          bytes = d.bytes;
          sees = d.sees;
          arguments_are = d.arguments_are;
          shown = d.shown;
          inside = d.inside;
          off = d.off;
        },
        λ value new u b small shape sees shown same.
            let w = d.on value new u b small shape sees shown same in
            let wf = w.few in
            keeps_on c linked calls _ (with_reg d.regs 10 value) u w.count (0 + k - d.count) w.regs w.view w.leads w.only (omega (arith, wf, few)) w.active,
      );
      waits = λ m. (0, tt);
    }

begins : (c : Program) → IsLinked c → (calls : ℕ) (r : Regs) (v : View) (t : SlotTurn) → Does c r v t → Goes c (Keeps c calls) r v 0 (λ n. then_on t (run c.code n))
begins c linked calls r v (slot.Goes s k) d =
    let w = led c k r v s.objects s.frames d in
    let few = w.few in
    let on : Keeps c (suc calls) s w.regs w.view (0 + k - w.count) = keeps_on c linked (suc calls) s w.regs w.view 0 (0 + k - w.count) w.regs w.view (leads_none w.regs w.view) (only_none c w.view) (omega arith) w.stands in
    record {
      follows = λ n. follows_later c (Keeps c calls) w.count k 0 r v w.regs w.view (run c.code n s) w.leads w.only (omega (arith, few)) (on.follows n);
      waits = λ m. let h = on.waits m in (h.0, going_dearer k (run c.code h.0 s) _ (going_as (run c.code h.0 s) _ _ (λ e. fuel_after m w.count r v w.regs w.view w.leads e) h.1));
    }
begins c linked calls r v (slot.Requests call outputs s k) d = asks_first c linked calls r v call outputs s.objects s.frames k d
begins c linked calls r v (slot.Finishes x os k) d = record { follows = λ n. (let few = d.few in record { cost = d.count; regs = d.regs; view = d.view; cheap = omega (arith, few); reaches = d.reaches; only = d.only; number = d.number; value_is = d.value_is; small = d.small; leaves = d.leaves }); waits = λ m. (0, tt) }
begins c linked calls r v (slot.Overflows need k) d = record { follows = λ n. (let few = d.few in record { cost = d.count; regs = d.regs; view = d.view; cheap = omega (arith, few); reaches = d.reaches; only = d.only; number = d.number; need_is = d.need_is }); waits = λ m. (0, tt) }
begins c linked calls r v (slot.Fails fault) d = record { follows = λ n. tt; waits = λ m. (0, tt) }

-- The words of a linked program keep it.
pub keeps_program : WordsKeepSlotCode
keeps_program c linked = record { keeps = λ f calls args os r v s. begins c linked calls r v (begun c.code f args os) (start_done c f args os r v linked s) }
