-- The shell's thread waits in the shell's call, so each reply to it fits.
use Rattle.std.proofs.Common.{◌≡◌, ℕ, zero, suc, ◌==◌, Bool, true, false, if◌then◌else◌, List, [], ◌∷◌, Option, Some, None, length, refl, sym, ap, ◌∙◌, subst, arith}
use Rattle.std.specs.Prelude.{◌≢◌, slice_get}
use Rattle.std.proofs.lemmas.Bool.{eqb-true, eqb-false}
use Rattle.nx_base.specs.Calls.{Reply}
use Rattle.nx_base.specs.Replies.{HaveRoom, FitsCall, output_rooms}
use Rattle.nx_base.specs.KernelCalls.{kinds_of}
use Rattle.nx_base.specs.declared.calls.KCall.{KCall}
use Rattle.nx_base.specs.declared.calls.KCall.TheVariants as call
use Rattle.nx_ksys.specs.State.{KernelState}
use Rattle.nx_ksys.specs.Answers.{Effect, Stays, EndsGroup, Begins}
use Rattle.nx_ksys.specs.Step.{meant_words}
use Rattle.nx_ksys.specs.ThreadTable.{WaitingCall, ThreadRow}
use Rattle.nx_ksys.specs.TableLaws.{Table, set_at, waiting, ready, made_ready, after_replies, unless_in, without, started_row, after_effect, is_last, waiting_call, asking, kinds_in, IsDue, AreDue}
use Rattle.nx_ksys.proofs.Tables.{set_at_same, set_at_other, replies_keep}
use Rattle.nx_shrun.specs.Calls.{Call}
use Rattle.nx_shrun.specs.Systems.{shell_thread}
use Rattle.nx_abstract.specs.Standing.{HasRoom, FitShell, Waits, NoneForShell}

-- Which words are pointers doesn't matter for the rooms of a call's outputs.
rooms : (w : KCall) (a b c d e f : ℕ) → output_rooms (kinds_of w) (meant_words (Some w) (a ∷ b ∷ c ∷ d ∷ e ∷ f ∷ [])) ≡ output_rooms (kinds_of w) (a ∷ b ∷ c ∷ d ∷ e ∷ f ∷ [])
rooms call.Write a b c d e f = refl
rooms call.Read a b c d e f = refl
rooms call.Open a b c d e f = refl
rooms call.Close a b c d e f = refl
rooms call.Lseek a b c d e f = refl
rooms call.Dup a b c d e f = refl
rooms call.Dup2 a b c d e f = refl
rooms call.Unlink a b c d e f = refl
rooms call.Mkdir a b c d e f = refl
rooms call.Rmdir a b c d e f = refl
rooms call.Rename a b c d e f = refl
rooms call.Chdir a b c d e f = refl
rooms call.NxGetcwd a b c d e f = refl
rooms call.NxReaddir a b c d e f = refl
rooms call.NxKind a b c d e f = refl
rooms call.NxSpawn a b c d e f = refl
rooms call.Exit a b c d e f = refl
rooms call.Getpid a b c d e f = refl
rooms call.Waitpid a b c d e f = refl
rooms call.NxArgc a b c d e f = refl
rooms call.NxArg a b c d e f = refl
rooms call.NxSetpriority a b c d e f = refl
rooms call.SchedYield a b c d e f = refl
rooms call.NxPs a b c d e f = refl
rooms call.NxThread a b c d e f = refl
rooms call.NxThreadExit a b c d e f = refl
rooms call.NxJoin a b c d e f = refl
rooms call.NxMqOpen a b c d e f = refl
rooms call.MqClose a b c d e f = refl
rooms call.MqUnlink a b c d e f = refl
rooms call.MqSend a b c d e f = refl
rooms call.MqReceive a b c d e f = refl
rooms call.NxMqTimedreceive a b c d e f = refl
rooms call.NxSemOpen a b c d e f = refl
rooms call.NxSemWait a b c d e f = refl
rooms call.NxSemTrywait a b c d e f = refl
rooms call.NxSemPost a b c d e f = refl
rooms call.NxSemClose a b c d e f = refl
rooms call.NxSleep a b c d e f = refl
rooms call.NxTicks a b c d e f = refl
rooms call.NxGetenv a b c d e f = refl
rooms call.Setenv a b c d e f = refl
rooms call.Unsetenv a b c d e f = refl
rooms call.NxEnv a b c d e f = refl
rooms call.GetErrno a b c d e f = refl

rooms_of : (w : KCall) (words : List ℕ) → length words ≡ 6 → output_rooms (kinds_of w) (meant_words (Some w) words) ≡ output_rooms (kinds_of w) words
rooms_of w [] l = absurd (omega (arith, l))
rooms_of w (a ∷ []) l = absurd (omega (arith, l))
rooms_of w (a ∷ b ∷ []) l = absurd (omega (arith, l))
rooms_of w (a ∷ b ∷ c ∷ []) l = absurd (omega (arith, l))
rooms_of w (a ∷ b ∷ c ∷ d ∷ []) l = absurd (omega (arith, l))
rooms_of w (a ∷ b ∷ c ∷ d ∷ e ∷ []) l = absurd (omega (arith, l))
rooms_of w (a ∷ b ∷ c ∷ d ∷ e ∷ f ∷ []) l = rooms w a b c d e f
rooms_of w (a ∷ b ∷ c ∷ d ∷ e ∷ f ∷ g ∷ words) l = absurd (omega (arith, l))

room_of : (q : Call) (c : WaitingCall) (r : Reply) → length q.words ≡ 6 → c ≡ waiting_call (Some q.which) q.words → FitsCall (kinds_in c.call) c.words r.outputs → HasRoom q r
room_of q c r l e h =
    let fits : FitsCall (kinds_of q.which) (meant_words (Some q.which) q.words) r.outputs = subst (λ (x : WaitingCall). FitsCall (kinds_in x.call) x.words r.outputs) e h in
    subst (λ rs. HaveRoom rs r.outputs) (rooms_of q.which q.words l) fits

waits_of : Option ThreadRow → Option WaitingCall
waits_of None = None
waits_of (Some x) = x.waits

not_both : {A : Type 0} (o : Option ThreadRow) (x y : ThreadRow) (c : WaitingCall) → o ≡ Some (ready x) → o ≡ Some (waiting y c) → A
unfolding waits_of
not_both o x y c e f = let z : None ≡ Some c = ap waits_of (sym e ∙ f) in absurd cc

one_is : {A : Type 0} (a r : A) → Some a ≡ Some r → a ≡ r
one_is a r e = cc

-- The table after one reply.
next : Table → Reply → Table
next t a = set_at t a.thread (made_ready (t a.thread))

next_other : (t : Table) (a : Reply) → a.thread ≢ shell_thread → next t a shell_thread ≡ t shell_thread
unfolding next
next_other t a ne = set_at_other t a.thread shell_thread (made_ready (t a.thread)) (λ e. ne (sym e))

next_own : (k : KernelState) (t : Table) (a : Reply) → a.thread ≡ shell_thread → (due : IsDue k t a) → next t a shell_thread ≡ Some (ready due.row)
unfolding next
next_own k t a e due = subst (λ i. set_at t a.thread (made_ready (t a.thread)) i ≡ Some (ready due.row)) e (set_at_same t a.thread (made_ready (t a.thread)) ∙ ap made_ready due.waits)

not_here : (k : KernelState) (t : Table) (a : Reply) (x : ThreadRow) → IsDue k t a → t shell_thread ≡ Some (ready x) → a.thread ≢ shell_thread
not_here k t a x h e z = not_both (t shell_thread) x h.row h.call e (subst (λ n. t n ≡ Some (waiting h.row h.call)) z h.waits)

no_more : (k : KernelState) (rs : List Reply) (t : Table) (x : ThreadRow) → AreDue k t rs → t shell_thread ≡ Some (ready x) → NoneForShell rs
unfolding AreDue next
no_more k [] t x h e i r is z = absurd cc
no_more k (a ∷ rs) t x h e zero r is z = not_here k t a x h.0 e (ap (λ (b : Reply). b.thread) (one_is a r is) ∙ z)
no_more k (a ∷ rs) t x h e (suc i) r is z = no_more k rs (next t a) x h.1 (next_other t a (not_here k t a x h.0 e) ∙ e) i r is z

waits_next : (t u : Table) (q : Call) → u shell_thread ≡ t shell_thread → Waits t q → Waits u q
waits_next t u q e h x c is = h x c (sym e ∙ is)

pub due_fits : (k : KernelState) (q : Call) (rs : List Reply) (t : Table) → length q.words ≡ 6 → AreDue k t rs → Waits t q → FitShell q rs
unfolding AreDue next
due_fits k q [] t l h w = record { room = λ i r is e. absurd cc; once = λ i j r other is f e g. absurd cc }
due_fits k q (a ∷ rs) t l h w = of (a.thread == shell_thread) refl (λ ne. due_fits k q rs (next t a) l h.1 (waits_next t (next t a) q (next_other t a ne) w))
  where
    own : (e : a.thread ≡ shell_thread) → NoneForShell rs
    own e = no_more k rs (next t a) h.0.row h.1 (next_own k t a e h.0)

    of_own : a.thread ≡ shell_thread → FitShell q (a ∷ rs)
    of_own e = record {
      room = rooms_own;
      once = once_own;
    }
      where
        rooms_own : (i : ℕ) (r : Reply) → slice_get (a ∷ rs) i ≡ Some r → r.thread ≡ shell_thread → HasRoom q r
        rooms_own zero r is z = subst (λ b. HasRoom q b) (one_is a r is) (room_of q h.0.call a l (w h.0.row h.0.call (subst (λ n. t n ≡ Some (waiting h.0.row h.0.call)) e h.0.waits)) h.0.fits)
        rooms_own (suc i) r is z = absurd (own e i r is z)

        once_own : (i j : ℕ) (r other : Reply) → slice_get (a ∷ rs) i ≡ Some r → slice_get (a ∷ rs) j ≡ Some other → r.thread ≡ shell_thread → other.thread ≡ shell_thread → i ≡ j
        once_own zero zero r other is f y z = refl
        once_own zero (suc j) r other is f y z = absurd (own e j other f z)
        once_own (suc i) j r other is f y z = absurd (own e i r is y)

    of_other : a.thread ≢ shell_thread → FitShell q rs → FitShell q (a ∷ rs)
    of_other ne g = record { room = rooms_other; once = once_other }
      where
        first : (r : Reply) → Some a ≡ Some r → r.thread ≡ shell_thread → ⊥
        first r is z = ne (ap (λ (b : Reply). b.thread) (one_is a r is) ∙ z)

        rooms_other : (i : ℕ) (r : Reply) → slice_get (a ∷ rs) i ≡ Some r → r.thread ≡ shell_thread → HasRoom q r
        rooms_other zero r is z = absurd (first r is z)
        rooms_other (suc i) r is z = g.room i r is z

        once_other : (i j : ℕ) (r other : Reply) → slice_get (a ∷ rs) i ≡ Some r → slice_get (a ∷ rs) j ≡ Some other → r.thread ≡ shell_thread → other.thread ≡ shell_thread → i ≡ j
        once_other zero j r other is f y z = absurd (first r is y)
        once_other (suc i) zero r other is f y z = absurd (first other f z)
        once_other (suc i) (suc j) r other is f y z = ap (λ n. suc n) (g.once i j r other is f y z)

    of : (b : Bool) → (a.thread == shell_thread) ≡ b → (a.thread ≢ shell_thread → FitShell q rs) → FitShell q (a ∷ rs)
    of true e on = of_own (eqb-true a.thread shell_thread e)
    of false e on = let ne : a.thread ≢ shell_thread = eqb-false a.thread shell_thread e in of_other ne (on ne)

vacuous : (t : Table) (q : Call) (x : ThreadRow) → t shell_thread ≡ Some (ready x) → Waits t q
vacuous t q x e y c is = not_both (t shell_thread) x y c e is

-- After replies the shell's thread is ready, or it waits as before.
pub after_waits : (k : KernelState) (q new : Call) (rs : List Reply) (t : Table) → AreDue k t rs → Waits t q → (NoneForShell rs → new ≡ q) → Waits (after_replies t rs) new
unfolding AreDue next after_replies
after_waits k q new [] t h w on = subst (λ p. Waits t p) (sym (on (λ i r is. absurd cc))) w
after_waits k q new (a ∷ rs) t h w on = of (a.thread == shell_thread) refl (λ ne same. after_waits k q new rs (next t a) h.1 (waits_next t (next t a) q (next_other t a ne) w) same)
  where
    none : a.thread ≢ shell_thread → NoneForShell rs → NoneForShell (a ∷ rs)
    none ne g zero r is z = ne (ap (λ (b : Reply). b.thread) (one_is a r is) ∙ z)
    none ne g (suc i) r is z = g i r is z

    of : (b : Bool) → (a.thread == shell_thread) ≡ b → (a.thread ≢ shell_thread → (NoneForShell rs → new ≡ q) → Waits (after_replies (next t a) rs) new) → Waits (after_replies (next t a) rs) new
    of true e go = vacuous (after_replies (next t a) rs) new h.0.row (replies_keep rs (next t a) shell_thread h.0.row (next_own k t a (eqb-true a.thread shell_thread e) h.0))
    of false e go = let ne : a.thread ≢ shell_thread = eqb-false a.thread shell_thread e in go ne (λ g. on (none ne g))

-- A call of the shell, and one of another thread.
not_none : {A : Type 0} (x : ThreadRow) → None ≡ Some x → A
not_none x e = absurd cc

same_call : (x y : ThreadRow) (c d : WaitingCall) → Some (waiting x c) ≡ Some (waiting y d) → d ≡ c
unfolding waits_of
same_call x y c d e = let z : Some c ≡ Some d = ap waits_of e in cc

pub own_waits : (t : Table) (q : Call) (x : ThreadRow) → Waits (asking t shell_thread x (Some q.which) q.words) q
own_waits t q x y c is = of (is_last (Some q.which)) (sym (set_at_same t shell_thread (if is_last (Some q.which) then None else Some (waiting x (waiting_call (Some q.which) q.words)))) ∙ is)
  where
    of : (b : Bool) → (if b then None else Some (waiting x (waiting_call (Some q.which) q.words))) ≡ Some (waiting y c) → c ≡ waiting_call (Some q.which) q.words
    of true e = not_none (waiting y c) e
    of false e = same_call x y (waiting_call (Some q.which) q.words) c e

pub other_waits : (t : Table) (i : ℕ) (x : ThreadRow) (which : Option KCall) (words : List ℕ) (q : Call) → i ≢ shell_thread → Waits t q → Waits (asking t i x which words) q
other_waits t i x which words q ne w = waits_next t (asking t i x which words) q (set_at_other t i shell_thread (if is_last which then None else Some (waiting x (waiting_call which words))) (λ e. ne (sym e))) w

-- What a call does beside its replies.
group_waits : (t : Table) (q : Call) (group : ℕ) → Waits t q → Waits (without t group) q
group_waits t q group w y c is = of (t shell_thread) refl is
  where
    of : (o : Option ThreadRow) → t shell_thread ≡ o → unless_in group o ≡ Some (waiting y c) → c ≡ waiting_call (Some q.which) q.words
    of None e f = not_none (waiting y c) f
    of (Some z) e f = by (z.group == group) f
      where
        by : (b : Bool) → (if b then None else Some z) ≡ Some (waiting y c) → c ≡ waiting_call (Some q.which) q.words
        by true g = not_none (waiting y c) g
        by false g = w y c (e ∙ g)

pub effect_waits : (t : Table) (q : Call) (e : Effect) → Waits t q → Waits (after_effect t e) q
effect_waits t q Stays w = w
effect_waits t q (EndsGroup group) w = group_waits t q group w
effect_waits t q (Begins st) w = of (shell_thread == st.thread) refl
  where
    of : (b : Bool) → (shell_thread == st.thread) ≡ b → Waits (set_at t st.thread (Some (started_row st))) q
    of true e = let z = eqb-true shell_thread st.thread e in vacuous (set_at t st.thread (Some (started_row st))) q (started_row st) (subst (λ n. set_at t st.thread (Some (started_row st)) n ≡ Some (started_row st)) (sym z) (set_at_same t st.thread (Some (started_row st))))
    of false e = waits_next t (set_at t st.thread (Some (started_row st))) q (set_at_other t st.thread shell_thread (Some (started_row st)) (eqb-false shell_thread st.thread e)) w

pub table_waits : (t u : Table) (q : Call) → ((n : ℕ) → u n ≡ t n) → Waits t q → Waits u q
table_waits t u q e w = waits_next t u q (e shell_thread) w
