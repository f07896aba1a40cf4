-- Replies to the shell and to threads leave what the definition's leave.
use Rattle.std.proofs.Common.{◌≡◌, ℕ, Bool, true, if◌then◌else◌, List, [], ◌∷◌, ◌++◌, Option, Some, None, refl, sym, ap, subst}
use Rattle.std.specs.Prelude.{◌≢◌}
use Rattle.std.specs.Option.{is_some}
use Rattle.std.proofs.lemmas.Bool.{eq-eqb, ne_eqb}
use Rattle.nx_base.specs.Calls.{Reply}
use Rattle.nx_ksys.specs.State.{KernelState}
use Rattle.nx_ksys.specs.ThreadTable.{ThreadRow, threads}
use Rattle.nx_shtree.specs.Trees.{Item}
use Rattle.nx_shrun.specs.Calls.{Fits}
use Rattle.nx_shrun.specs.ShellCalls as s
use Rattle.nx_shrun.specs.ShellCalls.{started, after, answered, call_made}
use Rattle.nx_shrun.specs.Laws.{AllFit}
use Rattle.nx_shrun.specs.Systems.{System, Guests, shell_thread, tell, told, answered_in, with_guests}
use Rattle.nx_shrun.specs.AbstractRuns as runs
use Rattle.nx_shrun.specs.AbstractRuns.{Programs, Threads}
use Rattle.nx_shell.specs.declared.shell.Shell.{Shell}
use Rattle.nx_shell.specs.Shells.{IsAt, Answers}
use Rattle.nx_shell.proofs.Shelled.{made_is}
use Rattle.nx_guests.specs.Guests.{AreKept}
use Rattle.nx_abstract.specs.declared.kernel.Row.{Row}
use Rattle.nx_abstract.specs.Kernels.{IsRow}
use Rattle.nx_abstract.specs.Standing.{lives, StandsFor}

after_more : (x : s.Shell) (rs : List Reply) (r : Reply) → after x (rs ++ r ∷ []) ≡ answered (after x rs) r
after_more x [] r = refl
after_more x (q ∷ rs) r = after_more (answered x q) rs r

fit_more : (x : s.Shell) (rs : List Reply) (r : Reply) → AllFit x rs → Fits (call_made (after x rs)) r → AllFit x (rs ++ r ∷ [])
fit_more x [] r h k = (k, tt)
fit_more x (q ∷ rs) r h k = (h.0, fit_more (answered x q) rs r h.1 k)

-- A reply to the shell, and one to another thread.
tell_shell : {M : Type 0} (o : Guests M) (x : System M) (r : Reply) → r.thread ≡ shell_thread → tell o x r ≡ record { kernel = x.kernel; said = x.said ++ r ∷ []; effects = x.effects; guests = x.guests }
tell_shell o x r e = ap (λ t. if t then record { kernel = x.kernel; said = x.said ++ r ∷ []; effects = x.effects; guests = x.guests } else with_guests x (answered_in o x.guests (threads x.kernel r.thread) r)) (eq-eqb r.thread shell_thread e)

tell_guest : {M : Type 0} (o : Guests M) (x : System M) (r : Reply) → r.thread ≢ shell_thread → tell o x r ≡ with_guests x (answered_in o x.guests (threads x.kernel r.thread) r)
tell_guest o x r e = ap (λ t. if t then record { kernel = x.kernel; said = x.said ++ r ∷ []; effects = x.effects; guests = x.guests } else with_guests x (answered_in o x.guests (threads x.kernel r.thread) r)) (ne_eqb r.thread shell_thread e)

pub told_more : {M : Type 0} (o : Guests M) (x : System M) (r : Reply) (rs : List Reply) → told o x (r ∷ rs) ≡ told o (tell o x r) rs
unfolding told
told_more o x r rs = refl

pub told_none : {M : Type 0} (o : Guests M) (x : System M) → told o x [] ≡ x
unfolding told
told_none o x = refl

module _ {A B G T : Type 0} (thread_of : A → T) (globals_of : B → G) (script : List Item) where
  pub shell_stands : {W : Type 0} (p : Programs G T W) (live : ℕ → Bool) (k : KernelState) (old new : Shell) (kept : List (Option A)) (globals : List (Option B)) (x : System (Threads G T)) (r : Reply)
      → r.thread ≡ shell_thread → Answers old new r → Fits old.walk.command.call r → StandsFor thread_of globals_of script live k old kept globals x → StandsFor thread_of globals_of script live k new kept globals (tell (runs.guests p script) x r)
  shell_stands p live k old new kept globals x r e answers fits h =
      subst (λ y. StandsFor thread_of globals_of script live k new kept globals y) (sym (tell_shell (runs.guests p script) x r e)) (record {
        kernel = h.kernel;
        shell = subst (λ y. IsAt new y) (sym (after_more (started script) x.said r)) (answers (after (started script) x.said) h.shell);
        fit = fit_more (started script) x.said r h.fit (subst (λ q. Fits q r) (made_is old (after (started script) x.said) h.shell) fits);
        guests = h.guests;
      })

  -- The row of the thread, as the code has it.
  pub none_stands : {W : Type 0} (p : Programs G T W) (live : ℕ → Bool) (k : KernelState) (shell : Shell) (kept : List (Option A)) (globals : List (Option B)) (x : System (Threads G T)) (r : Reply)
      → r.thread ≢ shell_thread → IsRow None (threads k r.thread) → StandsFor thread_of globals_of script live k shell kept globals x → StandsFor thread_of globals_of script live k shell kept globals (tell (runs.guests p script) x r)
  none_stands p live k shell kept globals x r e row h =
      subst (λ y. StandsFor thread_of globals_of script live k shell kept globals y) (sym (tell_guest (runs.guests p script) x r e)) (record {
        kernel = h.kernel;
        shell = h.shell;
        fit = h.fit;
        guests = subst (λ l. AreKept thread_of globals_of live kept globals (answered_in (runs.guests p script) x.guests (threads l r.thread) r)) (sym h.kernel) (of (threads k r.thread) row);
      })
    where
      of : (o : Option ThreadRow) → IsRow None o → AreKept thread_of globals_of live kept globals (answered_in (runs.guests p script) x.guests o r)
      of None w = h.guests
      of (Some y) w = absurd w

  pub some_stands : {W : Type 0} (p : Programs G T W) (k : KernelState) (shell : Shell) (kept later : List (Option A)) (globals after_globals : List (Option B)) (x : System (Threads G T)) (r : Reply) (row : Row)
      → r.thread ≢ shell_thread → IsRow (Some row) (threads k r.thread)
      → ((live : ℕ → Bool) (m : Threads G T) (y : ThreadRow) → y.group ≡ row.group → y.program ≡ row.program → live r.thread ≡ true → AreKept thread_of globals_of live kept globals m → AreKept thread_of globals_of live later after_globals ((runs.guests p script).answer m y r))
      → StandsFor thread_of globals_of script (lives k) k shell kept globals x → StandsFor thread_of globals_of script (lives k) k shell later after_globals (tell (runs.guests p script) x r)
  some_stands p k shell kept later globals after_globals x r row e is on h =
      subst (λ y. StandsFor thread_of globals_of script (lives k) k shell later after_globals y) (sym (tell_guest (runs.guests p script) x r e)) (record {
        kernel = h.kernel;
        shell = h.shell;
        fit = h.fit;
        guests = subst (λ l. AreKept thread_of globals_of (lives k) later after_globals (answered_in (runs.guests p script) x.guests (threads l r.thread) r)) (sym h.kernel) (of (threads k r.thread) refl is);
      })
    where
      of : (o : Option ThreadRow) → threads k r.thread ≡ o → IsRow (Some row) o → AreKept thread_of globals_of (lives k) later after_globals (answered_in (runs.guests p script) x.guests o r)
      of None w v = absurd v
      of (Some y) w v = on (lives k) x.guests y (sym v.group) (sym v.program) (ap is_some w) h.guests
