-- Words keep a program, call by call.
use Rattle.std.specs.Prelude.{◌≡◌, ℕ, zero, suc, ◌+◌, ◌-◌, ◌*◌, ◌<◌, ◌≤◌, ◌==◌, true, false, [], ◌∷◌, Ok}
use Rattle.nx_base.specs.declared.regs.Regs.{Regs}
use Rattle.nx_base.specs.Registers.{reg, with_reg}
use Rattle.nx_base.specs.Views.{View}
use Rattle.nx_base.specs.Ranges.{OnlyIn}
use Rattle.nx_base.specs.Calls.{Call, Reply, meant, Fits}
use Rattle.nx_base.specs.Copying.{cook, deliver}
use Rattle.nx_rv.specs.Execution.{stretch, ReachesCall, Fuel}
use Rattle.nx_cmean.specs.Meanings.{Both, Reach, Still, Calls, Over, Full, Astray, Meaning, WhereStill}
use Rattle.nx_cmean.specs.Homes.{Home, HasText, Alike, IsZeroed, SameOwn}

-- The words come to call 0 with this need.
pub record Fills (r : Regs) (v : View) (need most : ℕ) : Type 0 where
  pub cost : ℕ
  pub regs : Regs
  pub view : View
  pub cheap : cost ≤ most
  pub reaches : ReachesCall cost r v regs view
  pub numbered : (reg regs 10 == 0) ≡ true
  pub needs : reg regs 11 ≡ need

-- per: how many instructions a step may take.
module _ (M : Meaning) (h : Home M.Globals) (per : ℕ) where
  -- Nothing but the thread's stack and the program's globals has changed.
  abbrev pub OnlyOwn : ℕ → View → View → Type 0
  OnlyOwn slot v w = OnlyIn (h.stack slot ∷ h.globals ∷ []) v w

  -- The words come to a call of the same meaning, in at most so many instructions.
  pub record Comes (slot : ℕ) (r : Regs) (v : View) (c : Call) (g : M.Globals) (most : ℕ) : Type 0 where
    pub cost : ℕ
    pub regs : Regs
    pub view : View
    pub cheap : cost ≤ most
    pub reaches : ReachesCall cost r v regs view
    pub numbered : (reg regs 10 == 0) ≡ false
    pub call : Call
    pub cooked : cook h.rows view regs ≡ Ok call
    pub same : meant h.rows call ≡ meant h.rows c
    pub entry : h.SameEntry call c
    pub only : OnlyOwn slot v view
    pub alike : Alike h g view

  -- After a reply.
  pub record Answered (slot : ℕ) (more : M.Thread → Regs → View → Type 0) (to : Both M.Globals M.Thread) (r : Regs) (w u : View) : Type 0 where
    pub only : OnlyOwn slot w u
    pub alike : Alike h to.globals u
    pub goes_on : more to.thread r u

  -- Any reply that fits, whatever the globals are when it comes.
  abbrev pub OnReply : ℕ → (M.Thread → Regs → View → Type 0) → Call → M.Thread → Regs → View → Type 0
  OnReply slot more c t r v =
      (g : M.Globals) (w : View) (a : Reply) → SameOwn h slot v w → Alike h g w → Fits h.rows c a
      → Answered slot more (M.reply g t a) (with_reg r 10 a.value) w (deliver h.rows w r a.outputs)

  abbrev pub Follows : ℕ → (M.Thread → Regs → View → ℕ → Type 0) → Regs → View → ℕ → Reach M.Globals M.Thread → Type 0
  Follows slot more r v saved (Still g t steps) = Unit {0}
  Follows slot more r v saved (Calls c g t steps) =
      (m : Comes slot r v c g (saved + per * steps))
      × OnReply slot (λ t r v. more t r v (saved + per * steps - m.cost)) (meant h.rows c) t m.regs m.view
  Follows slot more r v saved (Over c g steps) = Comes slot r v c g (saved + per * steps)
  Follows slot more r v saved (Full need steps) = Fills r v need (saved + per * steps)
  Follows slot more r v saved (Astray steps) = Unit {0}

  -- From now on, with these globals.
  pub record Goes (slot : ℕ) (more : M.Thread → Regs → View → ℕ → Type 0) (g : M.Globals) (t : M.Thread) (r : Regs) (v : View) (saved : ℕ) : Type 0 where
    pub follows : (n : ℕ) → Follows slot more r v saved (M.run n g t)
    pub waits : (k : ℕ) → (n : ℕ) × WhereStill (M.run n g t) ((stretch k r v).halt ≡ Fuel)

  -- Up to so many calls, whatever the globals are each time that it goes on.
  abbrev pub Keeps : ℕ → ℕ → M.Thread → Regs → View → ℕ → Type 0
  Keeps slot zero t r v saved = Unit {0}
  Keeps slot (suc calls) t r v saved =
      (g : M.Globals) (w : View) → SameOwn h slot v w → Alike h g w → Goes slot (Keeps slot calls) g t r w saved

  -- From each start of the program.
  pub record KeepsProgram : Type 0 where
    pub main : (slot calls : ℕ) (v : View) → slot < h.slots → HasText h v → IsZeroed h slot v → Keeps slot calls M.main (h.main_regs slot) v 0
    pub thread : (slot calls : ℕ) (v : View) (c d : Call) → slot < h.slots → h.SameEntry d c → HasText h v → IsZeroed h slot v
        → Keeps slot calls (M.thread c) (h.thread_regs slot d) v 0
