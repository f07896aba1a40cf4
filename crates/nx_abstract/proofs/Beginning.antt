-- What a call begins.
use Rattle.std.proofs.Common.{◌≡◌, ℕ, Bool, true, false, ◌&&◌, not, if◌then◌else◌, List, [], ◌∷◌, Option, Some, None, refl, sym, ap, ◌∙◌}
use Rattle.std.specs.Prelude.{slice_get}
use Rattle.nx_base.specs.declared.calls.KCall.{KCall}
use Rattle.nx_base.specs.declared.calls.KCall.TheVariants as call
use Rattle.nx_ksys.specs.State.{Group, KernelState}
use Rattle.nx_ksys.specs.Answers.{Start, Begins, Caller, place_of, input_at}
use Rattle.nx_ksys.specs.Telling.{both}
use Rattle.nx_ksys.specs.declared.thread.Thread.{Thread}
use Rattle.nx_ksys.specs.Step.{row_of, meant_call, asked, called_in, called_by, called, counted, step}
use Rattle.nx_ksys.specs.Threads.{flat, thread_of}
use Rattle.nx_shtree.specs.Trees.{Item}
use Rattle.nx_shrun.specs.AbstractRuns as runs
use Rattle.nx_shrun.specs.AbstractRuns.{Programs, Threads}
use Rattle.nx_guests.specs.Kept.{seen}
use Rattle.nx_guests.specs.Guests.{AreKept}

pub fewer_kept : {A B G T : Type 0} (thread_of : A → T) (globals_of : B → G) (live later : ℕ → Bool) (kept : List (Option A)) (globals : List (Option B)) (m : Threads G T) → ((n : ℕ) → later n ≡ true → live n ≡ true) → AreKept thread_of globals_of live kept globals m → AreKept thread_of globals_of later kept globals m
fewer_kept thread_of globals_of live later kept globals m on h = record { thread = λ n l. h.thread n (on n l); group = h.group }

-- Which starts are wrong.
module _ {G T W F : Type 0} (fault_of : F → W) (p : Programs G T W) (script : List Item) where
  pub is_raw : (s : Start) (f : F) → p.is_raw s.program ≡ true → fault_of f ≡ p.raw → seen fault_of (Some f) ≡ runs.wrong_group p script s
  is_raw s f e w = ap Some w ∙ sym (ap (λ t. if t then Some p.raw else (if p.has_globals s.program && not s.fresh then Some p.shared else None)) e)

  pub is_shared : (s : Start) (f : F) → p.is_raw s.program ≡ false → p.has_globals s.program ≡ true → s.fresh ≡ false → fault_of f ≡ p.shared → seen fault_of (Some f) ≡ runs.wrong_group p script s
  is_shared s f e g n w = ap Some w ∙ sym (ap (λ t. if t then Some p.raw else (if p.has_globals s.program && not s.fresh then Some p.shared else None)) e ∙ both g n)
    where
      both : {a b : Bool} → a ≡ true → b ≡ false → (if a && not b then Some p.shared else None) ≡ Some p.shared
      both x y = rw (x, y) refl

  pub is_right : (s : Start) → p.is_raw s.program ≡ false → (p.has_globals s.program && not s.fresh) ≡ false → seen fault_of None ≡ runs.wrong_group p script s
  is_right s e g = sym (ap (λ t. if t then Some p.raw else (if p.has_globals s.program && not s.fresh then Some p.shared else None)) e ∙ ap (λ t. if t then Some p.shared else None) g)

  pub wrong_thread : (s : Start) → s.is_thread ≡ true → seen fault_of None ≡ runs.wrong_start p script (Begins s)
  wrong_thread s e = sym (ap (λ t. if t then None else runs.wrong_group p script s) e)

  pub wrong_other : (s : Start) (w : Option F) → s.is_thread ≡ false → seen fault_of w ≡ runs.wrong_group p script s → seen fault_of w ≡ runs.wrong_start p script (Begins s)
  wrong_other s w e h = h ∙ sym (ap (λ t. if t then None else runs.wrong_group p script s) e)

-- A row reads at most two inputs.
two_inputs : (which : KCall) (k : KernelState) (c : Caller) (words : List ℕ) (inputs : List (List ℕ)) → row_of which k c words inputs ≡ row_of which k c words (input_at inputs 0 ∷ input_at inputs 1 ∷ [])
two_inputs call.Write k c words inputs = refl
two_inputs call.Read k c words inputs = refl
two_inputs call.Open k c words inputs = refl
two_inputs call.Close k c words inputs = refl
two_inputs call.Lseek k c words inputs = refl
two_inputs call.Dup k c words inputs = refl
two_inputs call.Dup2 k c words inputs = refl
two_inputs call.Unlink k c words inputs = refl
two_inputs call.Mkdir k c words inputs = refl
two_inputs call.Rmdir k c words inputs = refl
two_inputs call.Rename k c words inputs = refl
two_inputs call.Chdir k c words inputs = refl
two_inputs call.NxGetcwd k c words inputs = refl
two_inputs call.NxReaddir k c words inputs = refl
two_inputs call.NxKind k c words inputs = refl
two_inputs call.NxSpawn k c words inputs = refl
two_inputs call.Exit k c words inputs = refl
two_inputs call.Getpid k c words inputs = refl
two_inputs call.Waitpid k c words inputs = refl
two_inputs call.NxArgc k c words inputs = refl
two_inputs call.NxArg k c words inputs = refl
two_inputs call.NxSetpriority k c words inputs = refl
two_inputs call.SchedYield k c words inputs = refl
two_inputs call.NxPs k c words inputs = refl
two_inputs call.NxThread k c words inputs = refl
two_inputs call.NxThreadExit k c words inputs = refl
two_inputs call.NxJoin k c words inputs = refl
two_inputs call.NxMqOpen k c words inputs = refl
two_inputs call.MqClose k c words inputs = refl
two_inputs call.MqUnlink k c words inputs = refl
two_inputs call.MqSend k c words inputs = refl
two_inputs call.MqReceive k c words inputs = refl
two_inputs call.NxMqTimedreceive k c words inputs = refl
two_inputs call.NxSemOpen k c words inputs = refl
two_inputs call.NxSemWait k c words inputs = refl
two_inputs call.NxSemTrywait k c words inputs = refl
two_inputs call.NxSemPost k c words inputs = refl
two_inputs call.NxSemClose k c words inputs = refl
two_inputs call.NxSleep k c words inputs = refl
two_inputs call.NxTicks k c words inputs = refl
two_inputs call.NxGetenv k c words inputs = refl
two_inputs call.Setenv k c words inputs = refl
two_inputs call.Unsetenv k c words inputs = refl
two_inputs call.NxEnv k c words inputs = refl
two_inputs call.GetErrno k c words inputs = refl

both_is : (inputs : List (List ℕ)) → both inputs ≡ input_at inputs 0 ∷ input_at inputs 1 ∷ []
both_is [] = refl
both_is (a ∷ []) = refl
both_is (a ∷ b ∷ inputs) = refl

asked_two : (which : Option KCall) (k : KernelState) (c : Caller) (words : List ℕ) (inputs : List (List ℕ)) → asked which k c words inputs ≡ asked which k c words (both inputs)
asked_two None k c words inputs = refl
asked_two (Some which) k c words inputs = two_inputs which k c words inputs ∙ ap (λ xs. row_of which k c words xs) (sym (both_is inputs))

in_group : (k : KernelState) (t : Thread) (which : Option KCall) (words : List ℕ) (inputs : List (List ℕ)) (place : ℕ) (g : Option Group) → called_in k t which words inputs place g ≡ called_in k t which words (both inputs) place g
in_group k t which words inputs place None = refl
in_group k t which words inputs place (Some g) = asked_two which k (record { thread = t; place = place; group = g; asked = meant_call which words }) words inputs

at_place : (k : KernelState) (t : Thread) (which : Option KCall) (words : List ℕ) (inputs : List (List ℕ)) (o : Option ℕ) → called_by k t which words inputs o ≡ called_by k t which words (both inputs) o
at_place k t which words inputs None = refl
at_place k t which words inputs (Some place) = in_group k t which words inputs place (flat (slice_get k.groups place))

by_thread : (k : KernelState) (o : Option Thread) (which : Option KCall) (words : List ℕ) (inputs : List (List ℕ)) → called k o which words inputs ≡ called k o which words (both inputs)
by_thread k None which words inputs = refl
by_thread k (Some t) which words inputs = at_place k t which words inputs (place_of k.groups t.group)

pub same_inputs : (k : KernelState) (thread : ℕ) (which : Option KCall) (words : List ℕ) (inputs : List (List ℕ)) → step k thread which words inputs ≡ step k thread which words (both inputs)
unfolding step
same_inputs k thread which words inputs = by_thread (counted k) (thread_of k.sched.threads thread) which words inputs
