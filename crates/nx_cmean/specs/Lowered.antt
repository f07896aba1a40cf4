-- One program keeps another, call by call: what a compiler from one language to another shows.
use Rattle.std.specs.Prelude.{◌≡◌, ℕ, zero, suc, ◌+◌, ◌-◌, ◌*◌, ◌≤◌}
use Rattle.nx_base.specs.Calls.{Call, Reply, Rows, meant, Fits}
use Rattle.nx_cmean.specs.Meanings.{Reach, Still, Calls, Over, Full, Astray, Meaning, WhereStill}
use Rattle.nx_cmean.specs.Homes.{Home}

-- The home of another program over the same words.
abbrev pub home_of : {G K : Type 0} → Home K → (G → (ℕ → ℕ) → Type 0) → (Call → Call → Type 0) → Home G
home_of h holds same_entry = record {
  rows = h.rows;
  text = h.text;
  text_bytes = h.text_bytes;
  globals = h.globals;
  Holds = holds;
  slots = h.slots;
  stack = h.stack;
  main_regs = h.main_regs;
  thread_regs = h.thread_regs;
  SameEntry = same_entry;
}

-- M is the source, N the target; Same: the same globals; Entry: the same entries; per: how many steps of N one of M may take.
module _ (M N : Meaning) (rows : Rows) (Same : M.Globals → N.Globals → Type 0) (Entry : Call → Call → Type 0) (per : ℕ) where
  pub record SameCall (c d : Call) : Type 0 where
    pub means : meant rows d ≡ meant rows c
    pub entry : Entry c d

  -- The target comes to the same call.
  pub record Asks (u : N.Thread) (gu : N.Globals) (c : Call) (g : M.Globals) (most : ℕ) : Type 0 where
    pub turns : ℕ
    pub call : Call
    pub globals : N.Globals
    pub thread : N.Thread
    pub cost : ℕ
    pub runs : N.run turns gu u ≡ Calls call globals thread cost
    pub cheap : cost ≤ most
    pub same : SameCall c call
    pub alike : Same g globals

  pub record Ends (u : N.Thread) (gu : N.Globals) (c : Call) (g : M.Globals) (most : ℕ) : Type 0 where
    pub turns : ℕ
    pub call : Call
    pub globals : N.Globals
    pub cost : ℕ
    pub runs : N.run turns gu u ≡ Over call globals cost
    pub cheap : cost ≤ most
    pub same : SameCall c call
    pub alike : Same g globals

  pub record Fulls (u : N.Thread) (gu : N.Globals) (need most : ℕ) : Type 0 where
    pub turns : ℕ
    pub cost : ℕ
    pub runs : N.run turns gu u ≡ Full need cost
    pub cheap : cost ≤ most

  abbrev pub Agrees : (M.Thread → N.Thread → ℕ → Type 0) → N.Thread → N.Globals → ℕ → Reach M.Globals M.Thread → Type 0
  Agrees more u gu saved (Still g t steps) = Unit {0}
  Agrees more u gu saved (Calls c g t steps) =
      (m : Asks u gu c g (saved + per * steps))
      × ((x : M.Globals) (y : N.Globals) (a : Reply) → Same x y → Fits rows (meant rows c) a
      → Same (M.reply x t a).globals (N.reply y m.thread a).globals × more (M.reply x t a).thread (N.reply y m.thread a).thread (saved + per * steps - m.cost))
  Agrees more u gu saved (Over c g steps) = Ends u gu c g (saved + per * steps)
  Agrees more u gu saved (Full need steps) = Fulls u gu need (saved + per * steps)
  Agrees more u gu saved (Astray steps) = Unit {0}

  pub record Lowers (more : M.Thread → N.Thread → ℕ → Type 0) (g : M.Globals) (t : M.Thread) (gu : N.Globals) (u : N.Thread) (saved : ℕ) : Type 0 where
    pub follows : (n : ℕ) → Agrees more u gu saved (M.run n g t)
    pub waits : (k : ℕ) → (n : ℕ) × WhereStill (M.run n g t) ((x : N.Globals) × (y : N.Thread) × (cost : ℕ) × (N.run k gu u ≡ Still x y cost))

  -- Up to so many calls, whatever the globals are each time that both go on.
  abbrev pub Lowered : ℕ → M.Thread → N.Thread → ℕ → Type 0
  Lowered zero t u saved = Unit {0}
  Lowered (suc calls) t u saved = (g : M.Globals) (gu : N.Globals) → Same g gu → Lowers (Lowered calls) g t gu u saved

  pub record LowersProgram : Type 0 where
    pub main : (calls : ℕ) → Lowered calls M.main N.main 0
    pub thread : (calls : ℕ) (c d : Call) → SameCall c d → Lowered calls (M.thread c) (N.thread d) 0
