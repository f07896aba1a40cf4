-- An abstract step makes at most one call.
use Rattle.std.proofs.Common.{◌≡◌, inl, inr, ℕ, zero, suc, ◌==◌, Bool, true, false, if◌then◌else◌, List, [], ◌∷◌, ◌++◌, Option, Some, None, refl, sym, ap, ◌∙◌, subst, arith, append-nil}
use Rattle.nx_base.specs.Calls.{Reply}
use Rattle.nx_base.specs.declared.calls.KCall.{KCall}
use Rattle.nx_ksys.specs.State.{KernelState}
use Rattle.nx_ksys.specs.Answers.{Stepped}
use Rattle.nx_ksys.specs.Step.{step}
use Rattle.nx_ksys.specs.Picking.{picked}
use Rattle.nx_ksys.specs.declared.pick.Pick.{Pick}
use Rattle.nx_ksys.specs.declared.pick.Pick.TheVariants.{Run, Idle, Ended}
use Rattle.nx_ksys.specs.ThreadTable.{ThreadRow, threads}
use Rattle.nx_ksys.proofs.Counted.{step_counts}
use Rattle.nx_ksys.proofs.Still.{picking_is_still}
use Rattle.nx_shtree.specs.Trees.{Item}
use Rattle.nx_shrun.specs.Systems.{shell_thread, next_call, Guests, System, tell, told, responded, with_guests}
use Rattle.nx_shrun.specs.AbstractRuns as a
use Rattle.nx_shrun.specs.AbstractRuns.{Answer, Next, Asks, Ends, Wrong, Programs, Threads, Abstract, Fine, Astray, at_number, turn, run_step, run, IsOver}
use Rattle.nx_shrun.specs.AbstractLaws.{IsOneCall, StepsMakeOneCall, OverRunsStay}

either_kernel : {M : Type 0} (test : Bool) (x y : System M) (k : KernelState) → x.kernel ≡ k → y.kernel ≡ k → (if test then x else y).kernel ≡ k
either_kernel true x y k h g = h
either_kernel false x y k h g = g

told_kernel : {M : Type 0} (o : Guests M) (s : System M) (rs : List Reply) → (told o s rs).kernel ≡ s.kernel
unfolding told
told_kernel o s [] = refl
told_kernel o s (r ∷ rs) = told_kernel o (tell o s r) rs ∙ either_kernel (r.thread == shell_thread) _ _ s.kernel refl refl

responded_kernel : {M : Type 0} (o : Guests M) (s : System M) (res : Stepped) (words : List ℕ) → (responded o s res words).kernel ≡ res.to
unfolding responded
responded_kernel o s res words = told_kernel o _ res.replies

one_call : (k : KernelState) (number : ℕ) (which : Option KCall) (words : List ℕ) (inputs : List (List ℕ)) → IsOneCall k (step k number which words inputs).to
one_call k number which words inputs = let h = step_counts k number which words inputs in record { least = omega (arith, h.calls); most = omega (arith, h.calls); console = h.console }

same_kernel : (k : KernelState) → IsOneCall k k
same_kernel k = record { least = omega arith; most = omega arith; console = ([], sym (append-nil k.console)) }

state_of : {M W : Type 0} → M → Abstract M W → M
state_of s (Fine t) = t
state_of s (Astray why pid) = s

-- what a state is that two abstract states share
abbrev fine : (M W : Type 0) → M → Abstract M W
fine M W s = Fine s

same_state : (M W : Type 0) (s t : M) → fine M W s ≡ fine M W t → s ≡ t
unfolding state_of
same_state M W s t e = ap (state_of s) e

module _ {G T W : Type 0} (p : Programs G T W) (script : List Item) where
  by_wrong : (o : Option W) (pid : ℕ) (s t : System (Threads G T)) → a.unless_wrong p script o pid s ≡ Fine t → s ≡ t
  by_wrong None pid s t e = same_state (System (Threads G T)) W s t e
  by_wrong (Some why) pid s t e = absurd cc

  calls_one : (s t : System (Threads G T)) (number pid : ℕ) (which : Option KCall) (words : List ℕ) (inputs : List (List ℕ)) → a.calls p script s number pid which words inputs ≡ Fine t → IsOneCall s.kernel t.kernel
  calls_one s t number pid which words inputs e =
      let res = step s.kernel number which words inputs in
      let is : responded (a.guests p script) s res words ≡ t = by_wrong (a.wrong_start p script res.effect) pid (responded (a.guests p script) s res words) t e in
      subst (λ k. IsOneCall s.kernel k) (sym (responded_kernel (a.guests p script) s res words) ∙ ap (λ (x : System (Threads G T)). x.kernel) is) (one_call s.kernel number which words inputs)

  stays : (s t : System (Threads G T)) (u : System (Threads G T)) → u.kernel ≡ s.kernel → fine (System (Threads G T)) W u ≡ fine (System (Threads G T)) W t → IsOneCall s.kernel t.kernel
  stays s t u k e = subst (λ l. IsOneCall s.kernel l) (sym k ∙ ap (λ (x : System (Threads G T)). x.kernel) (same_state (System (Threads G T)) W u t e)) (same_kernel s.kernel)

  acted_one : (s t : System (Threads G T)) (number : ℕ) (row : ThreadRow) (x : Answer G T W) → a.acted p script s number row x ≡ Fine t → IsOneCall s.kernel t.kernel
  acted_one s t number row (Next g x) e = stays s t _ refl e
  acted_one s t number row (Asks c g x) e = calls_one (with_guests s _) t number row.group (p.which c.number) c.words c.inputs e
  acted_one s t number row (Ends value g) e = calls_one (with_guests s _) t number row.group _ _ [] e
  acted_one s t number row (Wrong why) e = absurd cc

  steps_one : (s t : System (Threads G T)) (number : ℕ) (row : ThreadRow) (g : Option G) (x : Option T) → a.steps p script s number row g x ≡ Fine t → IsOneCall s.kernel t.kernel
  steps_one s t number row None x e = stays s t s refl e
  steps_one s t number row (Some g) None e = stays s t s refl e
  steps_one s t number row (Some g) (Some x) e = acted_one s t number row (p.step row.program g x) e

  guest_one : (s t : System (Threads G T)) (number : ℕ) (row : Option ThreadRow) → a.guest_turn p script s number row ≡ Fine t → IsOneCall s.kernel t.kernel
  guest_one s t number None e = stays s t s refl e
  guest_one s t number (Some row) e = steps_one s t number row _ _ e

  turn_one : (s t : System (Threads G T)) (number : ℕ) (test : Bool) → (if test then a.shell_turn p script s (next_call script s.said) else a.guest_turn p script s number (threads s.kernel number)) ≡ Fine t → IsOneCall s.kernel t.kernel
  turn_one s t number true e = calls_one s t shell_thread shell_thread _ _ _ e
  turn_one s t number false e = guest_one s t number (threads s.kernel number) e

  after_choice : (k : KernelState) (l : KernelState) → IsOneCall (picked k).to l → IsOneCall k l
  after_choice k l h = let still = picking_is_still k in record {
    least = omega (arith, h.least, still.calls);
    most = omega (arith, h.most, still.calls);
    console = (h.console.0, h.console.1 ∙ ap (λ c. c ++ h.console.0) still.console);
  }

  chosen_one : (s t : System (Threads G T)) (pick : Pick) → a.chosen p script s (picked s.kernel) pick ≡ Fine t → IsOneCall s.kernel t.kernel
  unfolding turn
  chosen_one s t (Run number) e =
      let u = told (a.guests p script) (a.with_kernel p script s (picked s.kernel).to) (picked s.kernel).replies in
      after_choice s.kernel t.kernel (subst (λ k. IsOneCall k t.kernel) (told_kernel (a.guests p script) (a.with_kernel p script s (picked s.kernel).to) (picked s.kernel).replies) (turn_one u t number (number == shell_thread) e))
  chosen_one s t Idle e = stays s t s refl e
  chosen_one s t Ended e = stays s t s refl e

  over_step : (s : System (Threads G T)) → IsOver s → run_step p script (Fine s) ≡ Fine s
  unfolding run_step
  over_step s (inl e) = ap (λ k. a.chosen p script s (picked s.kernel) k) e
  over_step s (inr e) = ap (λ k. a.chosen p script s (picked s.kernel) k) e

pub steps_one_call : {G T W : Type 0} → StepsMakeOneCall G T W
unfolding run_step
steps_one_call p script s t e = chosen_one p script s t (picked s.kernel).pick e

pub over_stays : {G T W : Type 0} → OverRunsStay G T W
unfolding run
over_stays p script s zero h = refl
over_stays p script s (suc n) h = ap (λ x. run p script n x) (over_step p script s h) ∙ over_stays p script s n h
