-- A call comes to what the definition's comes to.
use Rattle.std.proofs.Common.{◌≡◌, ℕ, Bool, List, [], ◌∷◌, ◌++◌, Option, Some, None, refl, sym, ap, ◌∙◌, subst}
use Rattle.nx_base.specs.Calls.{Reply}
use Rattle.nx_base.specs.declared.calls.KCall.{KCall}
use Rattle.nx_ksys.specs.State.{KernelState}
use Rattle.nx_ksys.specs.Answers.{Stepped}
use Rattle.nx_ksys.specs.Step.{step}
use Rattle.nx_ksys.specs.Telling.{both}
use Rattle.nx_ksys.specs.declared.cooked.Cooked.{Cooked}
use Rattle.nx_shtree.specs.Trees.{Item}
use Rattle.nx_shrun.specs.ShellCalls.{started, after}
use Rattle.nx_shrun.specs.Systems.{System, Guests, shell_thread, next_call, told, responded, affected}
use Rattle.nx_shrun.specs.AbstractRuns as runs
use Rattle.nx_shrun.specs.AbstractRuns.{Programs, Threads, Abstract, Fine, Astray}
use Rattle.nx_shell.specs.declared.shell.Shell.{Shell}
use Rattle.nx_shell.proofs.Shelled.{made_is}
use Rattle.nx_shstep.specs.Made.{Tells}
use Rattle.nx_guests.specs.Guests.{AreKept}
use Rattle.nx_abstract.specs.Kernels.{step_of}
use Rattle.nx_abstract.specs.Standing.{StandsFor, lives}
use Rattle.nx_abstract.specs.Coming.{GoesOn}
use Rattle.nx_abstract.proofs.Beginning.{same_inputs}

-- The state between a call and its replies.
between : {M : Type 0} (o : Guests M) (x : System M) (res : Stepped) (words : List ℕ) → System M
between o x res words = record { kernel = res.to; said = x.said; effects = x.effects ++ res.effect ∷ []; guests = affected o x.guests res.effect words }

responded_is : {M : Type 0} (o : Guests M) (x : System M) (res : Stepped) (words : List ℕ) → responded o x res words ≡ told o (between o x res words) res.replies
unfolding responded between
responded_is o x res words = refl

module _ {A B G T W : Type 0} (thread_of : A → T) (globals_of : B → G) (p : Programs G T W) (script : List Item) where
  called : (live : ℕ → Bool) (k k2 : KernelState) (old new : Shell) (kept mid later : List (Option A)) (globals mid_globals later_globals : List (Option B)) (x : System (Threads G T)) (number pid : ℕ) (which : Option KCall) (words : List ℕ) (inputs : List (List ℕ)) (res : Stepped)
      → step k number which words inputs ≡ res → res.to ≡ k2 → None ≡ runs.wrong_start p script res.effect
      → ((m : Threads G T) → AreKept thread_of globals_of live kept globals m → AreKept thread_of globals_of (lives k2) mid mid_globals (affected (runs.guests p script) m res.effect words))
      → ((y : System (Threads G T)) → StandsFor thread_of globals_of script (lives k2) k2 old mid mid_globals y → StandsFor thread_of globals_of script (lives k2) k2 new later later_globals (told (runs.guests p script) y res.replies))
      → StandsFor thread_of globals_of script live k old kept globals x
      → GoesOn thread_of globals_of script k2 new later later_globals (runs.calls p script x number pid which words inputs)
  unfolding between
  called live k k2 old new kept mid later globals mid_globals later_globals x number pid which words inputs res e to wrong on tells h =
      subst (λ r. GoesOn thread_of globals_of script k2 new later later_globals (runs.unless_wrong p script (runs.wrong_start p script r.effect) pid (responded (runs.guests p script) x r words))) (sym (ap (λ l. step l number which words inputs) h.kernel ∙ e)) (record {
        state = responded (runs.guests p script) x res words;
        is = ap (λ w. runs.unless_wrong p script w pid (responded (runs.guests p script) x res words)) (sym wrong);
        stands = subst (λ y. StandsFor thread_of globals_of script (lives k2) k2 new later later_globals y) (sym (responded_is (runs.guests p script) x res words))
            (tells (between (runs.guests p script) x res words) (record { kernel = to; shell = h.shell; fit = h.fit; guests = on x.guests h.guests }));
      })

  strayed : (live : ℕ → Bool) (k : KernelState) (old : Shell) (kept : List (Option A)) (globals : List (Option B)) (x : System (Threads G T)) (number pid : ℕ) (which : Option KCall) (words : List ℕ) (inputs : List (List ℕ)) (res : Stepped) (why : W)
      → step k number which words inputs ≡ res → Some why ≡ runs.wrong_start p script res.effect → StandsFor thread_of globals_of script live k old kept globals x
      → runs.calls p script x number pid which words inputs ≡ Astray why pid
  strayed live k old kept globals x number pid which words inputs res why e wrong h =
      ap (λ r. runs.unless_wrong p script (runs.wrong_start p script r.effect) pid (responded (runs.guests p script) x r words)) (ap (λ l. step l number which words inputs) h.kernel ∙ e)
      ∙ ap (λ w. runs.unless_wrong p script w pid (responded (runs.guests p script) x res words)) (sym wrong)

  -- The same of a call as the kernel was told of it.
  pub called_so : (live : ℕ → Bool) (k k2 : KernelState) (old new : Shell) (kept mid later : List (Option A)) (globals mid_globals later_globals : List (Option B)) (x : System (Threads G T)) (number pid : ℕ) (told_call : Cooked) (inputs : List (List ℕ)) (rs : List Reply)
      → told_call.first ∷ told_call.second ∷ [] ≡ both inputs → (step_of k number told_call).to ≡ k2 → (step_of k number told_call).replies ≡ rs → None ≡ runs.wrong_start p script (step_of k number told_call).effect
      → ((m : Threads G T) → AreKept thread_of globals_of live kept globals m → AreKept thread_of globals_of (lives k2) mid mid_globals (affected (runs.guests p script) m (step_of k number told_call).effect told_call.words))
      → ((y : System (Threads G T)) → StandsFor thread_of globals_of script (lives k2) k2 old mid mid_globals y → StandsFor thread_of globals_of script (lives k2) k2 new later later_globals (told (runs.guests p script) y rs))
      → StandsFor thread_of globals_of script live k old kept globals x
      → GoesOn thread_of globals_of script k2 new later later_globals (runs.calls p script x number pid told_call.call told_call.words inputs)
  called_so live k k2 old new kept mid later globals mid_globals later_globals x number pid c inputs rs e to replies wrong on tells h =
      called live k k2 old new kept mid later globals mid_globals later_globals x number pid c.call c.words inputs (step_of k number c)
      (same_inputs k number c.call c.words inputs ∙ ap (λ xs. step k number c.call c.words xs) (sym e)) to wrong on
      (λ y w. subst (λ ys. StandsFor thread_of globals_of script (lives k2) k2 new later later_globals (told (runs.guests p script) y ys)) (sym replies) (tells y w)) h

  pub strayed_so : (live : ℕ → Bool) (k : KernelState) (old : Shell) (kept : List (Option A)) (globals : List (Option B)) (x : System (Threads G T)) (number pid : ℕ) (told_call : Cooked) (inputs : List (List ℕ)) (why : W)
      → told_call.first ∷ told_call.second ∷ [] ≡ both inputs → Some why ≡ runs.wrong_start p script (step_of k number told_call).effect → StandsFor thread_of globals_of script live k old kept globals x
      → runs.calls p script x number pid told_call.call told_call.words inputs ≡ Astray why pid
  strayed_so live k old kept globals x number pid c inputs why e wrong h =
      strayed live k old kept globals x number pid c.call c.words inputs (step_of k number c) why (same_inputs k number c.call c.words inputs ∙ ap (λ xs. step k number c.call c.words xs) (sym e)) wrong h

  -- The shell's call is the one that its code shows.
  pub shell_calls : (live : ℕ → Bool) (k : KernelState) (own : Shell) (kept : List (Option A)) (globals : List (Option B)) (x : System (Threads G T)) (told_call : Cooked) → Tells own.walk.command.call told_call → StandsFor thread_of globals_of script live k own kept globals x
      → runs.calls p script x shell_thread shell_thread told_call.call told_call.words own.walk.command.call.inputs ≡ runs.shell_turn p script x (next_call script x.said)
  shell_calls live k own kept globals x c t h = three t.call t.words ∙ ap (λ q. runs.shell_turn p script x q) (made_is own (after (started script) x.said) h.shell)
    where
      three : {o : Option KCall} {ws : List ℕ} → o ≡ Some own.walk.command.call.which → ws ≡ own.walk.command.call.words → runs.calls p script x shell_thread shell_thread o ws own.walk.command.call.inputs ≡ runs.shell_turn p script x own.walk.command.call
      three e f = rw (e, f) refl
