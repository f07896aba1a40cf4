-- The turn of a program's thread comes to what the definition's comes to.
use Rattle.std.proofs.Common.{◌≡◌, ℕ, ◌==◌, Bool, true, false, ◌&&◌, ◌||◌, not, if◌then◌else◌, List, [], ◌∷◌, Option, Some, None, refl, sym, ap, ◌∙◌, subst}
use Rattle.std.specs.Prelude.{◌≢◌}
use Rattle.std.specs.Option.{is_some}
use Rattle.std.proofs.lemmas.Bool.{ne_eqb}
use Rattle.nx_base.specs.Calls as base
use Rattle.nx_base.specs.declared.calls.KCall.{KCall}
use Rattle.nx_base.specs.declared.calls.KCall.TheVariants as kernel
use Rattle.nx_ksys.specs.State.{KernelState}
use Rattle.nx_ksys.specs.Telling.{both}
use Rattle.nx_ksys.specs.TableLaws.{is_last}
use Rattle.nx_ksys.specs.ThreadTable.{ThreadRow, threads}
use Rattle.nx_ksys.specs.declared.cooked.Cooked.{Cooked}
use Rattle.nx_shtree.specs.Trees.{Item}
use Rattle.nx_shrun.specs.Systems.{System, with_guests}
use Rattle.nx_shrun.specs.AbstractRuns as runs
use Rattle.nx_shrun.specs.AbstractRuns.{Answer, Next, Asks, Ends, Wrong, Programs, Threads, Abstract, Fine, Astray, at_number}
use Rattle.nx_shell.specs.declared.shell.Shell.{Shell}
use Rattle.nx_guests.specs.declared.turn.Turn.{Turn}
use Rattle.nx_guests.specs.declared.turn.Turn.TheVariants as turn
use Rattle.nx_guests.specs.Turns.{Tells}
use Rattle.nx_guests.specs.Guests.{AreKept, UnlessWrong, left_by, after_step, IsMissing}
use Rattle.nx_abstract.specs.declared.kernel.Row.{Row}
use Rattle.nx_abstract.specs.Kernels.{IsRow}
use Rattle.nx_abstract.specs.Standing.{StandsFor, lives}
use Rattle.nx_abstract.specs.Coming.{GoesOn}
use Rattle.nx_abstract.proofs.Beginning.{fewer_kept}

left_kept : (a : Bool) (c : Bool) → a ≡ true → (a && (true || c)) ≡ true
left_kept true c e = refl
left_kept false c e = absurd cc

-- A thread whose function ended isn't left, and no other is lost.
pub ended_left : (live : ℕ → Bool) (number value n : ℕ) → live n ≡ true → n ≢ number → left_by {F = ℕ} (turn.Ends value) number live n ≡ true
ended_left live number value n l ne = two l (ne_eqb n number ne)
  where
    two : {a b : Bool} → a ≡ true → b ≡ false → (a && (false || not b)) ≡ true
    two e f = rw (e, f) refl

-- A thread that made a call is left.
pub calls_left : (live : ℕ → Bool) (number n : ℕ) → live n ≡ true → left_by {F = ℕ} turn.Calls number live n ≡ true
calls_left live number n l = left_kept (live n) (not (n == number)) l

-- The last call of a thread.
pub last_is : (o : Option KCall) (b : Bool) → o ≡ Some (if b then kernel.Exit else kernel.NxThreadExit) → is_last o ≡ true
last_is o true e = ap is_last e
last_is o false e = ap is_last e

pub none_told : (first second : List ℕ) → (first ≡ []) × (second ≡ []) → first ∷ second ∷ [] ≡ both []
none_told first second h = rw (h.0, h.1) refl

-- What is known of the row.
pub record At (k : KernelState) (thread pid place : ℕ) : Type 0 where
  pub row : ThreadRow
  pub is : threads k thread ≡ Some row
  pub group : row.group ≡ pid
  pub program : row.program ≡ place

pub at_row : (k : KernelState) (thread : ℕ) (r : Row) → IsRow (Some r) (threads k thread) → At k thread r.group r.program
at_row k thread r h = of (threads k thread) refl h
  where
    of : (o : Option ThreadRow) → threads k thread ≡ o → IsRow (Some r) o → At k thread r.group r.program
    of None e w = absurd w
    of (Some y) e w = record { row = y; is = e; group = sym w.group; program = sym w.program }

module _ {A B G T W : Type 0} (thread_of : A → T) (globals_of : B → G) (p : Programs G T W) (script : List Item) where
  pub next_acted : (live : ℕ → Bool) (k : KernelState) (shell : Shell) (kept : List (Option A)) (globals : List (Option B)) (x : System (Threads G T)) (thread group : ℕ) (row : ThreadRow) (g : G) (t : T) (a : Answer G T W) → row.group ≡ group → a ≡ Next g t
      → ((n : ℕ) → lives k n ≡ true → live n ≡ true) → StandsFor thread_of globals_of script live k shell kept globals (with_guests x (after_step p script x.guests thread group a))
      → GoesOn thread_of globals_of script k shell kept globals (runs.acted p script x thread row a)
  next_acted live k shell kept globals x thread group row g t a eg ea on h = record {
    state = with_guests x (after_step p script x.guests thread group a);
    is = two eg ea;
    stands = record { kernel = h.kernel; shell = h.shell; fit = h.fit; guests = fewer_kept thread_of globals_of live (lives k) kept globals (after_step p script x.guests thread group a) on h.guests };
  }
    where
      two : {i : ℕ} {b : Answer G T W} → row.group ≡ i → b ≡ Next g t → runs.acted p script x thread row b ≡ Fine (with_guests x (after_step p script x.guests thread i b))
      two e f = rw (sym e, f) refl

  pub calls_acted : (x : System (Threads G T)) (thread group : ℕ) (row : ThreadRow) (c : base.Call) (g : G) (t : T) (a : Answer G T W) (told : Cooked) → row.group ≡ group → a ≡ Asks c g t → Tells p.which c told
      → runs.calls p script (with_guests x (after_step p script x.guests thread group a)) thread group told.call told.words c.inputs ≡ runs.acted p script x thread row a
  calls_acted x thread group row c g t a told eg ea k = four eg ea k.call k.words
    where
      four : {i : ℕ} {b : Answer G T W} {o : Option KCall} {ws : List ℕ} → row.group ≡ i → b ≡ Asks c g t → o ≡ p.which c.number → ws ≡ c.words → runs.calls p script (with_guests x (after_step p script x.guests thread i b)) thread i o ws c.inputs ≡ runs.acted p script x thread row b
      four e f u v = rw (sym e, f, u, v) refl

  pub ends_acted : (x : System (Threads G T)) (thread group value : ℕ) (row : ThreadRow) (g : G) (a : Answer G T W) (told : Cooked) → row.group ≡ group → a ≡ Ends value g
      → told.call ≡ Some (if thread == group then kernel.Exit else kernel.NxThreadExit) → told.words ≡ value ∷ 0 ∷ 0 ∷ 0 ∷ 0 ∷ 0 ∷ []
      → runs.calls p script (with_guests x (after_step p script x.guests thread group a)) thread group told.call told.words [] ≡ runs.acted p script x thread row a
  ends_acted x thread group value row g a told eg ea ec ew = four eg ea ec ew
    where
      four : {i : ℕ} {b : Answer G T W} {o : Option KCall} {ws : List ℕ} → row.group ≡ i → b ≡ Ends value g → o ≡ Some (if thread == i then kernel.Exit else kernel.NxThreadExit) → ws ≡ value ∷ 0 ∷ 0 ∷ 0 ∷ 0 ∷ 0 ∷ []
          → runs.calls p script (with_guests x (after_step p script x.guests thread i b)) thread i o ws [] ≡ runs.acted p script x thread row b
      four e f u v = rw (f, u, v, sym e) refl

  pub wrong_acted : (x : System (Threads G T)) (thread group : ℕ) (row : ThreadRow) (why : W) (a : Answer G T W) → row.group ≡ group → a ≡ Wrong why → runs.acted p script x thread row a ≡ Astray why group
  wrong_acted x thread group row why a eg ea = two eg ea
    where
      two : {i : ℕ} {b : Answer G T W} → row.group ≡ i → b ≡ Wrong why → runs.acted p script x thread row b ≡ Astray why i
      two e f = rw (sym e, f) refl

  -- The row that the code has is the thread's.
  fine_steps : (x : System (Threads G T)) (number : ℕ) (row : ThreadRow) (g : Option G) (t : Option T) → (is_some g && is_some t) ≡ false → runs.steps p script x number row g t ≡ Fine x
  fine_steps x number row None t e = refl
  fine_steps x number row (Some g) None e = refl
  fine_steps x number row (Some g) (Some t) e = absurd cc

  both_steps : (x : System (Threads G T)) (number : ℕ) (row : ThreadRow) (og : Option G) (ot : Option T) (g : G) (t : T) → og ≡ Some g → ot ≡ Some t → runs.steps p script x number row og ot ≡ runs.acted p script x number row (p.step row.program g t)
  both_steps x number row og ot g t e f = rw (e, f) refl

  pub nobody : (k : KernelState) (shell : Shell) (kept : List (Option A)) (globals : List (Option B)) (x : System (Threads G T)) (thread : ℕ) → IsRow None (threads k thread) → StandsFor thread_of globals_of script (lives k) k shell kept globals x
      → GoesOn thread_of globals_of script k shell kept globals (runs.guest_turn p script x thread (threads x.kernel thread))
  nobody k shell kept globals x thread row h = record { state = x; is = subst (λ l. runs.guest_turn p script x thread (threads l thread) ≡ Fine x) (sym h.kernel) (of (threads k thread) row); stands = h }
    where
      of : (o : Option ThreadRow) → IsRow None o → runs.guest_turn p script x thread o ≡ Fine x
      of None w = refl
      of (Some y) w = absurd w

  pub missing : (k : KernelState) (shell : Shell) (kept later : List (Option A)) (globals later_globals : List (Option B)) (x : System (Threads G T)) (thread group program : ℕ) → At k thread group program
      → IsMissing thread_of globals_of (lives k) thread group x.guests later later_globals → StandsFor thread_of globals_of script (lives k) k shell kept globals x
      → GoesOn thread_of globals_of script k shell later later_globals (runs.guest_turn p script x thread (threads x.kernel thread))
  missing k shell kept later globals later_globals x thread group program at m h = record {
    state = x;
    is = ap (λ l. runs.guest_turn p script x thread (threads l thread)) h.kernel ∙ (ap (λ o. runs.guest_turn p script x thread o) at.is
        ∙ fine_steps x thread at.row (at_number x.guests.globals at.row.group) (at_number x.guests.threads thread) (subst (λ i. (is_some (at_number x.guests.globals i) && is_some (at_number x.guests.threads thread)) ≡ false) (sym at.group) m.missing));
    stands = record { kernel = h.kernel; shell = h.shell; fit = h.fit; guests = m.kept };
  }

  pub turn_acted : (k : KernelState) (x : System (Threads G T)) (thread group program : ℕ) (g : G) (t : T) (at : At k thread group program) → x.kernel ≡ k → at_number x.guests.globals group ≡ Some g → at_number x.guests.threads thread ≡ Some t
      → runs.acted p script x thread at.row (p.step program g t) ≡ runs.guest_turn p script x thread (threads x.kernel thread)
  turn_acted k x thread group program g t at ek eg et =
      sym (ap (λ l. runs.guest_turn p script x thread (threads l thread)) ek ∙ (ap (λ o. runs.guest_turn p script x thread o) at.is
      ∙ (both_steps x thread at.row (at_number x.guests.globals at.row.group) (at_number x.guests.threads thread) g t (subst (λ i. at_number x.guests.globals i ≡ Some g) (sym at.group) eg) et
      ∙ ap (λ i. runs.acted p script x thread at.row (p.step i g t)) at.program)))

  pub with_same : (live : ℕ → Bool) (k : KernelState) (shell : Shell) (kept later : List (Option A)) (globals later_globals : List (Option B)) (x : System (Threads G T)) (m : Threads G T)
      → AreKept thread_of globals_of live later later_globals m → StandsFor thread_of globals_of script (lives k) k shell kept globals x → StandsFor thread_of globals_of script live k shell later later_globals (with_guests x m)
  with_same live k shell kept later globals later_globals x m g h = record { kernel = h.kernel; shell = h.shell; fit = h.fit; guests = g }

  pub unless_stands : {F : Type 0} (a : Turn F) (live : ℕ → Bool) (number : ℕ) (k : KernelState) (shell : Shell) (kept later : List (Option A)) (globals later_globals : List (Option B)) (x : System (Threads G T)) (m : Threads G T)
      → UnlessWrong a (AreKept thread_of globals_of (left_by a number live) later later_globals m) → StandsFor thread_of globals_of script (lives k) k shell kept globals x
      → UnlessWrong a (StandsFor thread_of globals_of script (left_by a number live) k shell later later_globals (with_guests x m))
  unless_stands {F = F} turn.Next live number k shell kept later globals later_globals x m g h = with_same (left_by {F = F} turn.Next number live) k shell kept later globals later_globals x m g h
  unless_stands {F = F} turn.Calls live number k shell kept later globals later_globals x m g h = with_same (left_by {F = F} turn.Calls number live) k shell kept later globals later_globals x m g h
  unless_stands {F = F} (turn.Ends value) live number k shell kept later globals later_globals x m g h = with_same (left_by {F = F} (turn.Ends value) number live) k shell kept later globals later_globals x m g h
  unless_stands {F = F} (turn.Wrong why) live number k shell kept later globals later_globals x m g h = tt
