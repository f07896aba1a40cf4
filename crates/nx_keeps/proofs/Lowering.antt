-- Words that keep a target program keep each source that it keeps.
use Rattle.std.proofs.Common.{◌≡◌, ℕ, zero, suc, ◌+◌, ◌-◌, ◌*◌, ◌≤◌, sym, ◌∙◌, subst, arith}
use Rattle.nx_base.specs.declared.regs.Regs.{Regs}
use Rattle.nx_base.specs.Registers.{with_reg}
use Rattle.nx_base.specs.Views.{View}
use Rattle.nx_base.specs.Calls.{Call, Fits}
use Rattle.nx_base.specs.Copying.{deliver}
use Rattle.nx_cmean.specs.Meanings.{Reach, Still, Calls, Over, Full, Astray, Meaning, WhereStill}
use Rattle.nx_cmean.specs.Homes.{Home, Alike, SameOwn}
use Rattle.nx_keeps.specs.Keeps as keeps
use Rattle.nx_cmean.specs.Lowered.{home_of, SameCall, Agrees, Lowered, LowersProgram}

module _ (M N : Meaning) (h : Home N.Globals) (Same : M.Globals → N.Globals → Type 0) (holds : M.Globals → (ℕ → ℕ) → Type 0) (same_entry Entry : Call → Call → Type 0) (per : ℕ) where
  abbrev pub source_home : Home M.Globals
  source_home = home_of h holds same_entry

  -- Bytes that hold the source's globals hold the target's, and these the source's.
  pub record IsHeld : Type 0 where
    pub down : (g : M.Globals) (b : ℕ → ℕ) → holds g b → (gu : N.Globals) × Same g gu × h.Holds gu b
    pub up : (g : M.Globals) (gu : N.Globals) (b : ℕ → ℕ) → Same g gu → h.Holds gu b → holds g b
    pub entry : (x c d : Call) → Entry c d → h.SameEntry x d → same_entry x c
    -- What a thread of the source is begun by begins one of the target.
    pub begun : (x c : Call) → same_entry x c → (d : Call) × SameCall M N h.rows Same Entry per c d × h.SameEntry x d

  module _ (held : IsHeld) where
    own_down : (slot : ℕ) (v w : View) → SameOwn source_home slot v w → SameOwn h slot v w
    own_down slot v w o = record { text = o.text; stack = o.stack }

    alike_up : (g : M.Globals) (gu : N.Globals) (w : View) → Same g gu → Alike h gu w → Alike source_home g w
    alike_up g gu w s a = record { bytes = a.bytes; shows = a.shows; small = a.small; holds = held.up g gu a.bytes s a.holds }

    alike_down : (g : M.Globals) (w : View) → Alike source_home g w → (gu : N.Globals) × Same g gu × Alike h gu w
    alike_down g w a = let k = held.down g a.bytes a.holds in (k.0, k.1, record { bytes = a.bytes; shows = a.shows; small = a.small; holds = k.2 })

    makes_up : (slot : ℕ) (r : Regs) (v : View) (c d : Call) (g : M.Globals) (gu : N.Globals) (most more : ℕ) → most ≤ more → SameCall M N h.rows Same Entry per c d → Same g gu → keeps.Comes N h 1 slot r v d gu most → keeps.Comes M source_home per slot r v c g more
    makes_up slot r v c d g gu most more le s a m = let cheap = m.cheap in record {
      cost = m.cost;
      regs = m.regs;
      view = m.view;
      cheap = omega (arith, cheap, le);
      reaches = m.reaches;
      numbered = m.numbered;
      call = m.call;
      cooked = m.cooked;
      same = m.same ∙ s.means;
      entry = held.entry m.call c d s.entry m.entry;
      only = m.only;
      alike = alike_up g gu m.view a m.alike;
    }

    abbrev KeepsUp : ℕ → Type 0
    KeepsUp n = (slot : ℕ) (t : M.Thread) (u : N.Thread) (r : Regs) (v : View) (saved spare : ℕ) → Lowered M N h.rows Same Entry per n t u saved → keeps.Keeps N h 1 slot n u r v spare → keeps.Keeps M source_home per slot n t r v (saved + spare)

    follows : (n slot : ℕ) (r : Regs) (v : View) (u : N.Thread) (gu : N.Globals) (saved spare : ℕ) (x : Reach M.Globals M.Thread) → KeepsUp n → Agrees M N h.rows Same Entry per (Lowered M N h.rows Same Entry per n) u gu saved x
        → ((m : ℕ) → keeps.Follows N h 1 slot (keeps.Keeps N h 1 slot n) r v spare (N.run m gu u)) → keeps.Follows M source_home per slot (keeps.Keeps M source_home per slot n) r v (saved + spare) x
    unfolding makes_up
    follows n slot r v u gu saved spare (Still g t steps) on a k = tt
    follows n slot r v u gu saved spare (Calls c g t steps) on a k =
        let m = a.0 in let cheap = m.cheap in
        let w = subst (λ y. keeps.Follows N h 1 slot (keeps.Keeps N h 1 slot n) r v spare y) m.runs (k m.turns) in
        let mk = w.0 in let mc = mk.cheap in
        let q : (saved + per * steps - m.cost) + (spare + 1 * m.cost - mk.cost) ≡ saved + spare + per * steps - mk.cost = omega (arith, cheap, mc) in (
          makes_up slot r v c m.call g m.globals (spare + 1 * m.cost) (saved + spare + per * steps) (omega (arith, cheap)) m.same m.alike mk,
          λ x wv y own al fits.
              let dn = alike_down x wv al in
              let fits_below = subst (λ z. Fits h.rows z y) (sym m.same.means) fits in
              let b = a.1 x dn.0 y dn.1 fits in
              let ans = w.1 dn.0 wv y (own_down slot mk.view wv own) dn.2 fits_below in
              record {
                only = ans.only;
                alike = alike_up (M.reply x t y).globals (N.reply dn.0 m.thread y).globals (deliver h.rows wv mk.regs y.outputs) b.0 ans.alike;
                goes_on = subst (λ z. keeps.Keeps M source_home per slot n (M.reply x t y).thread (with_reg mk.regs 10 y.value) (deliver h.rows wv mk.regs y.outputs) z) q
                    (on slot (M.reply x t y).thread (N.reply dn.0 m.thread y).thread (with_reg mk.regs 10 y.value) (deliver h.rows wv mk.regs y.outputs) (saved + per * steps - m.cost) (spare + 1 * m.cost - mk.cost) b.1 ans.goes_on);
              },
        )
    follows n slot r v u gu saved spare (Over c g steps) on a k =
        let cheap = a.cheap in
        let w = subst (λ y. keeps.Follows N h 1 slot (keeps.Keeps N h 1 slot n) r v spare y) a.runs (k a.turns) in
        makes_up slot r v c a.call g a.globals (spare + 1 * a.cost) (saved + spare + per * steps) (omega (arith, cheap)) a.same a.alike w
    follows n slot r v u gu saved spare (Full need steps) on a k =
        let cheap = a.cheap in
        let w = subst (λ y. keeps.Follows N h 1 slot (keeps.Keeps N h 1 slot n) r v spare y) a.runs (k a.turns) in
        let wc = w.cheap in
        record { cost = w.cost; regs = w.regs; view = w.view; cheap = omega (arith, cheap, wc); reaches = w.reaches; numbered = w.numbered; needs = w.needs }
    follows n slot r v u gu saved spare (Astray steps) on a k = tt

    waits : (x : Reach M.Globals M.Thread) (gu : N.Globals) (u : N.Thread) (k : ℕ) (P : Type 0) → WhereStill x ((y : N.Globals) × (z : N.Thread) × (cost : ℕ) × (N.run k gu u ≡ Still y z cost)) → WhereStill (N.run k gu u) P → WhereStill x P
    waits (Still g t steps) gu u k P a w = subst (λ y. WhereStill y P) a.3 w
    waits (Calls c g t steps) gu u k P a w = tt
    waits (Over c g steps) gu u k P a w = tt
    waits (Full need steps) gu u k P a w = tt
    waits (Astray steps) gu u k P a w = tt

    pub keeps_up : (n : ℕ) → KeepsUp n
    keeps_up zero slot t u r v saved spare l k = tt
    keeps_up (suc n) slot t u r v saved spare l k = λ g w own al.
        let dn = alike_down g w al in
        let go = k dn.0 w (own_down slot v w own) dn.2 in
        let lo = l g dn.0 dn.1 in
        record {
          follows = λ m. follows n slot r w u dn.0 saved spare (M.run m g t) (keeps_up n) (lo.follows m) go.follows;
          waits = λ m. let a = go.waits m in let b = lo.waits a.0 in (b.0, waits (M.run b.0 g t) dn.0 u a.0 _ b.1 a.1);
        }

    -- Words that keep the target keep the source, with so many more instructions for a step.
    pub keeps_source : LowersProgram M N h.rows Same Entry per → keeps.KeepsProgram N h 1 → keeps.KeepsProgram M source_home per
    keeps_source l k = record {
      main = λ slot n v below text zeros. keeps_up n slot M.main N.main (h.main_regs slot) v 0 0 (l.main n) (k.main slot n v below (record { reads = text.reads; runs = text.runs }) zeros);
      thread = λ slot n v c x below entry text zeros.
          let d = held.begun x c entry in
          keeps_up n slot (M.thread c) (N.thread d.0) (h.thread_regs slot x) v 0 0 (l.thread n c d.0 d.1) (k.thread slot n v d.0 x below d.2 (record { reads = text.reads; runs = text.runs }) zeros);
    }
