-- The first state of a run.
use Rattle.std.proofs.Common.{◌≡◌, ℕ, ◌≤◌, List, Option, Some, None, length, refl, sym, ap, ◌∙◌, subst, arith}
use Rattle.nx_ksys.specs.State.{Limits, KernelState}
use Rattle.nx_ksys.specs.Boot.{booted}
use Rattle.nx_ksys.specs.Picking.{picked}
use Rattle.nx_ksys.specs.Threads.{thread_of as the_thread}
use Rattle.nx_ksys.specs.ThreadTable.{WaitingCall, ThreadRow, threads}
use Rattle.nx_ksys.specs.TableLaws.{waiting}
use Rattle.nx_shtree.specs.Trees.{Item}
use Rattle.nx_shrun.specs.Calls.{Call}
use Rattle.nx_shrun.specs.ShellCalls.{started}
use Rattle.nx_shrun.specs.Systems.{shell_thread}
use Rattle.nx_shrun.specs.AbstractRuns.{Programs, Fine, no_threads, run}
use Rattle.nx_shell.specs.declared.shell.Shell.{Shell}
use Rattle.nx_shell.specs.Shells.{IsAt, IsReady}
use Rattle.nx_guests.specs.Guests.{AreKept}
use Rattle.nx_abstract.specs.declared.stop.Stop.{Stop}
use Rattle.nx_abstract.specs.Standing.{StandsFor, Waits, lives}
use Rattle.nx_abstract.specs.Running.{IsPicked, HasCome, IsRunning, IsBooted, first_over}
use Rattle.nx_abstract.proofs.Steps.{run_none, stands_seen}

waits_of : Option ThreadRow → Option WaitingCall
waits_of None = None
waits_of (Some x) = x.waits

none_waits : (limits : Limits) (others : ℕ) (input late : List ℕ) → waits_of (threads (booted limits others input late) shell_thread) ≡ None
unfolding booted threads waits_of the_thread
none_waits limits others input late = refl

not_waiting : {A : Type 0} (o : Option ThreadRow) (x : ThreadRow) (c : WaitingCall) → waits_of o ≡ None → o ≡ Some (waiting x c) → A
unfolding waits_of
not_waiting o x c e f = let z : None ≡ Some c = sym e ∙ ap waits_of f in absurd cc

no_calls : (limits : Limits) (others : ℕ) (input late : List ℕ) → (booted limits others input late).calls ≡ 0
unfolding booted
no_calls limits others input late = refl

booted_waits : (k : KernelState) (q : Call) → IsBooted k → Waits (threads k) q
booted_waits k q b x c e = not_waiting (threads k shell_thread) x c (subst (λ l. waits_of (threads l shell_thread) ≡ None) (sym b.is) (none_waits b.limits b.others b.input b.late)) e

booted_calls : (k : KernelState) → IsBooted k → k.calls ≡ 0
booted_calls k b = ap (λ (l : KernelState). l.calls) b.is ∙ no_calls b.limits b.others b.input b.late

module _ {A B G T : Type 0} (thread_of : A → T) (globals_of : B → G) (script : List Item) where
  booted_stands : (k : KernelState) (own : Shell) (kept : List (Option A)) (globals : List (Option B)) → IsAt own (started script) → AreKept thread_of globals_of (lives k) kept globals no_threads → StandsFor thread_of globals_of script (lives k) k own kept globals (first_over k)
  booted_stands k own kept globals at h = record { kernel = refl; shell = at; fit = tt; guests = h }

  pub booted_running : (k : KernelState) (own : Shell) (kept : List (Option A)) (globals : List (Option B)) (most : ℕ) → IsBooted k → IsAt own (started script) → IsReady own → AreKept thread_of globals_of (lives k) kept globals no_threads → length k.sched.threads ≤ most → IsRunning thread_of globals_of k own kept globals most 0
  booted_running k own kept globals most b at ready h room = record {
    script = script;
    state = first_over k;
    stands = booted_stands k own kept globals at h;
    ready = ready;
    waits = booted_waits k own.walk.command.call b;
    room = room;
    calls = omega (arith, booted_calls k b);
  }

  pub booted_come : {F W : Type 0} (fault_of : F → W) (p : Programs G T W) (k : KernelState) (own : Shell) (kept : List (Option A)) (globals : List (Option B)) (stop : Stop F) → IsPicked stop (picked k).pick → IsAt own (started script) → AreKept thread_of globals_of (lives k) kept globals no_threads
      → HasCome thread_of globals_of fault_of p script (first_over k) k own kept globals 0 stop
  booted_come fault_of p k own kept globals stop e at h = record {
    at = stands_seen thread_of globals_of fault_of p script k own kept globals stop (run p script 0 (Fine (first_over k))) e (record { state = first_over k; is = run_none p script (Fine (first_over k)); stands = booted_stands k own kept globals at h });
    earlier = λ i l. absurd (omega (arith, l));
  }
