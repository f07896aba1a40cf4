-- What a planned run does up to its next call. nx_system will take its place.
use Rattle.std.proofs.Common.{◌≡◌, ℕ, zero, suc, ◌+◌, ◌-◌, ◌^◌, ◌≤◌, List, [], ◌∷◌, ◌++◌, length, refl, sym, ap, ◌∙◌, subst, arith, append_assoc, append-nil}
use Rattle.nx_base.specs.declared.regs.Regs.{Regs}
use Rattle.nx_base.specs.Registers.{reg, with_reg}
use Rattle.nx_base.specs.Views.{View}
use Rattle.nx_rv.specs.Execution.{Turn, Goes, Calls, Traps, Halt, Call, End, turn, after, stretch, ReachesCall}
use Rattle.nx_top.specs.first.BootedRuns.{Makes, calls_of}
use Rattle.nx_top.specs.first.ExpectedRuns.{ExpectedRun, joined, LiesAt, LieAt, Remains, IsDone, IsWithin}

abbrev end_at : Regs → View → ℕ → Halt → End
end_at r v left halt = record { regs = r; view = v; left = left; halt = halt }

after_more : (t : Turn) (m k : ℕ) (go on : Regs → View → End) (r1 : Regs) (v1 : View)
    → ((r : Regs) (v : View) → go r v ≡ end_at r1 v1 0 Call → on r v ≡ end_at r1 v1 k Call) → after t m go ≡ end_at r1 v1 0 Call → after t (m + k) on ≡ end_at r1 v1 k Call
after_more (Goes r v) m k go on r1 v1 h e = h r v e
after_more (Calls r v) m k go on r1 v1 h e =
    let a : r ≡ r1 = ap (λ (x : End). x.regs) e in
    let b : v ≡ v1 = ap (λ (x : End). x.view) e in
    let c : m ≡ 0 = ap (λ (x : End). x.left) e in
    let d : m + k ≡ k = omega arith in
    cc
after_more (Traps cause r v) m k go on r1 v1 h e = let f = ap (λ (x : End). x.halt) e in absurd cc

-- with more instructions the same call is reached, and as many more are left
pub stretch_calls : (m k : ℕ) (r : Regs) (v : View) (r1 : Regs) (v1 : View) → ReachesCall m r v r1 v1 → stretch (m + k) r v ≡ end_at r1 v1 k Call
unfolding stretch
stretch_calls zero k r v r1 v1 e = let f = ap (λ (x : End). x.halt) e in absurd cc
stretch_calls (suc m) k r v r1 v1 e =
    let n : suc m + k ≡ suc (m + k) = omega arith in
    ap (λ j. stretch j r v) n ∙ after_more (turn r v) m k (stretch m) (stretch (m + k)) r1 v1 (λ r' v' f. stretch_calls m k r' v' r1 v1 f) e

-- a stretch that is long enough ends in that call
pub record EndsIn (h : Halt) (r r1 : Regs) (v v1 : View) (left n m : ℕ) : Type 0 where
  pub halt : h ≡ Call
  pub regs : r ≡ r1
  pub view : v ≡ v1
  pub rest : left + m ≡ n

pub ends_in : (m n left : ℕ) (h : Halt) (r r' r1 : Regs) (v v' v1 : View) → m ≤ n → end_at r' v' left h ≡ stretch n r v → ReachesCall m r v r1 v1 → EndsIn h r' r1 v' v1 left n m
ends_in m n left h r r' r1 v v' v1 le e c =
    let s : m + (n - m) ≡ n = omega arith in
    let f : end_at r' v' left h ≡ end_at r1 v1 (n - m) Call = e ∙ ap (λ j. stretch j r v) (sym s) ∙ stretch_calls m (n - m) r v r1 v1 c in
    let l : left ≡ n - m = ap (λ (x : End). x.left) f in
    record { halt = ap (λ (x : End). x.halt) f; regs = ap (λ (x : End). x.regs) f; view = ap (λ (x : End). x.view) f; rest = omega arith }

-- the next call of a planned run: a write, with what remains after it, or the end
pub data Next (expected_run : ExpectedRun) (r : Regs) (v : View) (console : List ℕ) (writes used : ℕ) : Type 0 where
  Writes : (string : List ℕ) (at : ℕ) → reg r 10 ≡ 16 → reg r 11 ≡ 1 → reg r 12 ≡ at → reg r 13 ≡ length string → at + length string ≤ 2 ^ 32 → LiesAt v string at
      → Remains expected_run (with_reg r 10 (length string)) v (console ++ string) (writes + 1) used → Next expected_run r v console writes used
  Ends : reg r 10 ≡ 1 → reg r 11 ≡ expected_run.status → IsDone expected_run expected_run.status console writes used → Next expected_run r v console writes used

pub record Comes (h : Halt) (expected_run : ExpectedRun) (r : Regs) (v new : View) (console : List ℕ) (writes used : ℕ) : Type 0 where
  pub halt : h ≡ Call
  pub view : new ≡ v
  pub next : Next expected_run r v console writes used

wrote : (string : List ℕ) (strings : List (List ℕ)) (console all : List ℕ) → console ++ joined (string ∷ strings) ≡ all → (console ++ string) ++ joined strings ≡ all
wrote string strings console all e = append_assoc console string (joined strings) ∙ e

-- one call of the expected run, from where it stands
next_from : (expected_run : ExpectedRun) (strings : List (List ℕ)) (places : List ℕ) (r r' : Regs) (v new : View) (console : List ℕ) (writes used limit used' instructions : ℕ) (h : Halt)
    → used ≤ limit → used' ≤ limit → expected_run.instructions ≤ limit → end_at r' new (limit - used') h ≡ stretch (limit - used) r v
    → Makes (calls_of strings places expected_run.status) r v instructions → LieAt v strings places → used + instructions ≡ expected_run.instructions
    → console ++ joined strings ≡ joined expected_run.strings → writes + length strings ≡ length expected_run.strings → Comes h expected_run r' v new console writes used'
next_from expected_run [] [] r r' v new console writes used limit used' instructions h a b f e m lie total written counted =
    let none : m.rest ≡ 0 = m.on in
    let le : m.made ≤ limit - used = omega (arith, m.sum) in
    let s = ends_in m.made (limit - used) (limit - used') h r r' m.regs v new v le e m.reaches in
    let is = sym s.regs in
    record {
      halt = s.halt;
      view = s.view;
      next = Ends (subst (λ (x : Regs). reg x 10 ≡ 1) is m.words.0) (subst (λ (x : Regs). reg x 11 ≡ expected_run.status) is m.words.1.0) (record {
        ended = refl;
        written = sym (append-nil console) ∙ written;
        counted = omega (arith, counted);
        made = omega (arith, m.sum, s.rest);
      });
    }
next_from expected_run (string ∷ strings) (at ∷ places) r r' v new console writes used limit used' instructions h a b f e m lie total written counted =
    let le : m.made ≤ limit - used = omega (arith, m.sum) in
    let s = ends_in m.made (limit - used) (limit - used') h r r' m.regs v new v le e m.reaches in
    let is = sym s.regs in
    record {
      halt = s.halt;
      view = s.view;
      next = Writes string at (subst (λ (x : Regs). reg x 10 ≡ 16) is m.words.0) (subst (λ (x : Regs). reg x 11 ≡ 1) is m.words.1.0) (subst (λ (x : Regs). reg x 12 ≡ at) is m.words.1.1.0) (subst (λ (x : Regs). reg x 13 ≡ length string) is m.words.1.1.1.0) lie.0 lie.1 (record {
        strings = strings;
        places = places;
        instructions = m.rest;
        makes = subst (λ (x : Regs). Makes (calls_of strings places expected_run.status) (with_reg x 10 (length string)) v m.rest) is m.on;
        lie = lie.2;
        total = omega (arith, m.sum, s.rest);
        written = wrote string strings console (joined expected_run.strings) written;
        counted = omega (arith, counted);
      });
    }
next_from expected_run [] (at ∷ places) r r' v new console writes used limit used' instructions h a b f e m lie total written counted = absurd lie
next_from expected_run (string ∷ strings) [] r r' v new console writes used limit used' instructions h a b f e m lie total written counted = absurd lie

pub next_of : (expected_run : ExpectedRun) (r r' : Regs) (v new : View) (console : List ℕ) (writes used limit used' limit' : ℕ) (h : Halt)
    → used ≤ limit → used' ≤ limit' → limit' ≡ limit → IsWithin expected_run limit → end_at r' new (limit' - used') h ≡ stretch (limit - used) r v
    → Remains expected_run r v console writes used → Comes h expected_run r' v new console writes used'
next_of expected_run r r' v new console writes used limit used' limit' h a b l w e s =
    next_from expected_run s.strings s.places r r' v new console writes used limit used' s.instructions h a (omega arith) w.fuel (ap (λ n. end_at r' new (n - used') h) (sym l) ∙ e) s.makes s.lie s.total s.written s.counted
