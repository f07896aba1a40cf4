-- The slot code of a program keeps it, from each start of a thread.
use Rattle.std.proofs.Common.{◌≡◌, ◌⊎◌, inl, inr, ℕ, zero, suc, ◌+◌, ◌<◌, ◌≤◌, Bool, true, false, List, [], ◌∷◌, ◌++◌, length, map, refl, sym, ap, ◌∙◌, subst, arith}
use Rattle.std.specs.Prelude.{◌&&◌, nat_lt, nat_le, if◌then◌else◌}
use Rattle.std.proofs.lemmas.Bool.{cases_lt}
use Rattle.std.proofs.lemmas.Bool.Decides.{nat_tests}
use Rattle.std.proofs.lemmas.List.{length-map}
use Rattle.nx_base.specs.Calls.{Call, Rows}
use Rattle.nx_cobjects.specs.declared.value.Value.{Value}
use Rattle.nx_cobjects.specs.Groups.{Group}
use Rattle.nx_cobjects.specs.Memory.{memory}
use Rattle.nx_cmean.specs.Meaning.{thread, fun_at, stuck, first_args, first_thread, step}
use Rattle.nx_cmean.specs.Meanings.{Reach, Full, go_on, run_of, WhereStill, Still}
use Rattle.nx_cmean.specs.Runs.{stack_need, need, turn_of, Running, running, with_ending, first_word, second_word}
use Rattle.nx_cmean.specs.Lowered.{Agrees, Lowers}
use Rattle.nx_slot.specs.Objects as slot
use Rattle.nx_slot.specs.Meaning.{Code, SlotTurn, state, Goes, Overflows, function_at, entered}
use Rattle.nx_slot.specs.Meaning.{opened as slot_opened, stack_need as slot_need}
use Rattle.nx_slot.specs.Runs.{then_on, run}
use Rattle.nx_lower.specs.Shown.{shown, objects_of}
use Rattle.nx_lower.specs.Code.{Source, counts}
use Rattle.nx_lower.specs.Bodies.{lower_fun, code_of}
use Rattle.nx_lower.specs.Sound.{SoundProgram}
use Rattle.nx_keeps.specs.Programs.{SlotThread, Fresh, Lost, reach_of, thread_run, may_begin, first_values, slot_thread}
use Rattle.nx_lower.specs.Programs.{source_thread, SameGlobals, LowersPrograms}
use Rattle.nx_lower.proofs.Calling.{within_stack, over_stack}
use Rattle.nx_lower.proofs.Reaching.{within_over, within_fits, first_frames, first_slots, first_related, first_need, first_reaches}
use Rattle.nx_lower.proofs.Keeping.{args_same, args_length, M, N, Entry, Keeps, run_c, is, lowers_by, keeps_on}

none_none : (os : List slot.Object) → os ++ [] ≡ os
none_none [] = refl
none_none (o ∷ os) = ap (λ l. o ∷ l) (none_none os)

known_is : (f n : ℕ) → f < n → nat_lt f n ≡ true
known_is f n h = grind (arith, nat_tests, h)

unknown_is : (f n : ℕ) → n ≤ f → nat_lt f n ≡ false
unknown_is f n h = grind (arith, nat_tests, h)

is_known : (f n : ℕ) → nat_lt f n ≡ true → f < n
is_known f n h = grind (arith, nat_tests, h)

is_few : (n : ℕ) → nat_le n 1 ≡ true → n ≤ 1
is_few n h = grind (arith, nat_tests, h)

-- What such a call may begin.
record Begins (f functions params : ℕ) : Type 0 where
  there : f < functions
  few : params ≤ 1

begins_is : (enters : Bool) (f functions params : ℕ) → may_begin enters f functions params ≡ true → Begins f functions params
begins_is false f functions params h = absurd cc
begins_is true f functions params h = go (nat_lt f functions) (nat_le params 1) refl refl h
  where
    go : (a b : Bool) → nat_lt f functions ≡ a → nat_le params 1 ≡ b → (a && b) ≡ true → Begins f functions params
    go false b x y h = absurd cc
    go true false x y h = absurd cc
    go true true x y h = record { there = is_known f functions x; few = is_few params y }

module _ (s : Source) (rows : Rows) (main stack : ℕ) (sound : SoundProgram s rows) where
  abbrev code : Code
  code = code_of s rows stack

  abbrev KeepsTo : ℕ → Running → SlotThread → ℕ → Type 0
  KeepsTo calls r u saved = Keeps s rows main stack sound calls r u saved

  abbrev run_at : ℕ → Group → Running → Reach Group Running
  run_at n g r = run_c s rows main stack sound n g r

  -- A thread that begins with a function.
  first_same : (f : ℕ) (args : List Value) → f < length s.program.functions → stack_need s.program (first_frames s code (is s rows main stack sound) sound.functions sound.calls f args) ≡ slot_need code (first_slots s code (is s rows main stack sound) sound.functions sound.calls f args)
  first_same f args known = ap (λ x. x.frame + 0) (sym (is s rows main stack sound f known))

  enters_is : (f : ℕ) (args : List slot.Value) (os : List slot.Object) → slot_need code (slot_opened f args ∷ []) ≤ stack → entered code (slot_opened f args ∷ []) os 14 ≡ Goes (state (slot_opened f args ∷ []) os) 14
  enters_is f args os h =
      let t = slot_opened f args ∷ [] in
      ap (λ (b : Bool). if b then Overflows (slot_need code t) 14 else Goes (state t os) 14) (within_stack stack (slot_need code t) h)

  fills_is : (f : ℕ) (args : List slot.Value) (os : List slot.Object) → stack < slot_need code (slot_opened f args ∷ []) → entered code (slot_opened f args ∷ []) os 14 ≡ Overflows (slot_need code (slot_opened f args ∷ [])) 14
  fills_is f args os h =
      let t = slot_opened f args ∷ [] in
      ap (λ (b : Bool). if b then Overflows (slot_need code t) 14 else Goes (state t os) 14) (over_stack stack (slot_need code t) h)

  begins_by : (calls ending f : ℕ) (args : List Value) → f < length s.program.functions → length args ≡ length (fun_at s.program f).params
      → KeepsTo calls (running ending (thread [] (first_frames s code (is s rows main stack sound) sound.functions sound.calls f args) [])) (Fresh ending f (map (shown (counts s)) args)) 0
  unfolding run_of
  begins_by zero ending f args known count = tt
  begins_by (suc calls) ending f args known count = λ g gu same. go g gu same (cases_lt stack (slot_need code (first_slots s code (is s rows main stack sound) sound.functions sound.calls f args)))
    where
      go : (g : Group) (gu : List slot.Object) → SameGlobals s g gu
          → (stack < slot_need code (slot_opened f (map (shown (counts s)) args) ∷ [])) ⊎ (slot_need code (slot_opened f (map (shown (counts s)) args) ∷ []) ≤ stack)
          → Lowers (M s rows main stack sound) (N s rows main stack sound) rows (SameGlobals s) (Entry s rows main stack sound) 64 (Keeps s rows main stack sound calls) g (running ending (thread [] (first_frames s code (is s rows main stack sound) sound.functions sound.calls f args) [])) gu (Fresh ending f (map (shown (counts s)) args)) 0
      go g gu same (inr fits) =
          let fs = slot_opened f (map (shown (counts s)) args) ∷ [] in
          let need_is = first_same f args known in
          let os : gu ≡ objects_of (memory g []) = same.objects ∙ sym (none_none _) in
          lowers_by s rows main stack sound calls (keeps_on s rows main stack sound calls) g gu (Fresh ending f (map (shown (counts s)) args)) ending 14 0 0 (thread [] (first_frames s code (is s rows main stack sound) sound.functions sound.calls f args) []) fs same
          (λ n.
          ap (λ (t : SlotTurn). reach_of (length gu) ending (then_on t (run code n))) (enters_is f (map (shown (counts s)) args) gu fits)
          ∙ ap (λ (l : List slot.Object). reach_of (length gu) ending (then_on (Goes (state fs l) 14) (run code n))) os)
          (omega arith) (first_related s code (is s rows main stack sound) sound.functions sound.calls g f args known count) (omega (arith, fits, need_is))
          (λ n. first_reaches s code (is s rows main stack sound) sound.functions sound.calls n g ending f args same.counts known count (omega (arith, fits, need_is)))
      go g gu same (inl full) =
          let t = thread [] (first_frames s code (is s rows main stack sound) sound.functions sound.calls f args) [] in
          let fs = slot_opened f (map (shown (counts s)) args) ∷ [] in
          let few = first_need s code (is s rows main stack sound) sound.functions sound.calls f args known ∙ first_same f args known in
          let over : stack < need s.program t = omega (arith, few, full) in
          record {
            follows = fulls g gu over few full;
            waits = λ k. (
              1,
              subst (λ (q : Reach Group Running). WhereStill q ((x : List slot.Object) × (y : SlotThread) × (cost : ℕ) × (thread_run code k gu (Fresh ending f (map (shown (counts s)) args)) ≡ Still x y cost))) (sym (within_over stack (need s.program t) (go_on (with_ending ending (turn_of ending (step s.program g t))) (run_at 0)) over)) tt,
            );
          }
        where
          fulls : (g : Group) (gu : List slot.Object) → stack < need s.program (thread [] (first_frames s code (is s rows main stack sound) sound.functions sound.calls f args) [])
              → need s.program (thread [] (first_frames s code (is s rows main stack sound) sound.functions sound.calls f args) []) ≡ slot_need code (slot_opened f (map (shown (counts s)) args) ∷ []) → stack < slot_need code (slot_opened f (map (shown (counts s)) args) ∷ [])
              → (n : ℕ) → Agrees (M s rows main stack sound) (N s rows main stack sound) rows (SameGlobals s) (Entry s rows main stack sound) 64 (Keeps s rows main stack sound calls) (Fresh ending f (map (shown (counts s)) args)) gu 0 (run_at n g (running ending (thread [] (first_frames s code (is s rows main stack sound) sound.functions sound.calls f args) [])))
          fulls g gu over few full zero = tt
          fulls g gu over few full (suc n) =
              let t = thread [] (first_frames s code (is s rows main stack sound) sound.functions sound.calls f args) [] in
              subst (λ (q : Reach Group Running). Agrees (M s rows main stack sound) (N s rows main stack sound) rows (SameGlobals s) (Entry s rows main stack sound) 64 (Keeps s rows main stack sound calls) (Fresh ending f (map (shown (counts s)) args)) gu 0 q) (sym (within_over stack (need s.program t) (go_on (with_ending ending (turn_of ending (step s.program g t))) (run_at n)) over))
              (record {
                turns = 0;
                cost = 14;
                runs = ap (λ (t : SlotTurn). reach_of (length gu) ending (then_on t (run code 0))) (fills_is f (map (shown (counts s)) args) gu full) ∙ ap (λ (n : ℕ). Full n 14) (sym few);
                cheap = omega arith;
              })

  begins : (calls ending f n : ℕ) → f < length s.program.functions → length (fun_at s.program f).params ≤ 1 → KeepsTo calls (running ending (first_thread s.program f n)) (Fresh ending f (first_values (function_at code f).params n)) 0
  begins calls ending f n known few =
      let ts = (fun_at s.program f).params in
      let e : map (shown (counts s)) (first_args ts n) ≡ first_values (function_at code f).params n = args_same (counts s) ts n ∙ ap (λ k. first_values k n) (sym (ap (λ x. x.params) (is s rows main stack sound f known))) in
      subst (λ (l : List slot.Value). KeepsTo calls (running ending (first_thread s.program f n)) (Fresh ending f l) 0) e (begins_by calls ending f (first_args ts n) known (args_length ts n few))

  -- One that no call begins.
  lost_needs : (g : Group) (n : ℕ) → run_at (suc n) g (running 2 (thread [] [] [])) ≡ go_on (with_ending 2 (turn_of 2 stuck)) (run_at n)
  unfolding run_of
  lost_needs g n = within_fits stack 0 (go_on (with_ending 2 (turn_of 2 stuck)) (run_at n)) (omega arith)

  loses : (calls : ℕ) → KeepsTo calls (running 2 (thread [] [] [])) Lost 0
  unfolding run_of
  loses zero = tt
  loses (suc calls) = λ g gu same. record {
    follows = λ n. by g gu n;
    waits = λ k. (1, subst (λ (q : Reach Group Running). WhereStill q ((x : List slot.Object) × (y : SlotThread) × (cost : ℕ) × (thread_run code k gu Lost ≡ Still x y cost))) (sym (lost_needs g 0)) tt);
  }
    where
      by : (g : Group) (gu : List slot.Object) (n : ℕ) → Agrees (M s rows main stack sound) (N s rows main stack sound) rows (SameGlobals s) (Entry s rows main stack sound) 64 (Keeps s rows main stack sound calls) Lost gu 0 (run_at n g (running 2 (thread [] [] [])))
      by g gu zero = tt
      by g gu (suc n) = subst (λ (q : Reach Group Running). Agrees (M s rows main stack sound) (N s rows main stack sound) rows (SameGlobals s) (Entry s rows main stack sound) 64 (Keeps s rows main stack sound calls) Lost gu 0 q) (sym (lost_needs g n)) tt

  -- The thread that a call begins.
  may_same : (enters : Bool) (f : ℕ) → may_begin enters f (length code.functions) (function_at code f).params ≡ may_begin enters f (length s.program.functions) (length (fun_at s.program f).params)
  may_same enters f = ap (λ n. may_begin enters f n (function_at code f).params) (length-map s.program.functions (lower_fun s)) ∙ go (cases_lt f (length s.program.functions))
    where
      go : (f < length s.program.functions) ⊎ (length s.program.functions ≤ f) → may_begin enters f (length s.program.functions) (function_at code f).params ≡ may_begin enters f (length s.program.functions) (length (fun_at s.program f).params)
      go (inl known) = ap (λ x. may_begin enters f (length s.program.functions) x.params) (is s rows main stack sound f known)
      go (inr out) =
          let e = unknown_is f (length s.program.functions) out in
          ap (λ (b : Bool). enters && (b && nat_le (function_at code f).params 1)) e ∙ ap (λ (b : Bool). enters && (b && nat_le (length (fun_at s.program f).params) 1)) (sym e)

  starts : (calls : ℕ) (c : Call) → KeepsTo calls (source_thread s rows c) (slot_thread code c) 0
  starts calls c =
      let f = first_word c.words in let n = second_word c.words in
      let may = may_begin (rows c.number).enters f (length s.program.functions) (length (fun_at s.program f).params) in
      subst (λ (b : Bool). KeepsTo calls (source_thread s rows c) (if b then Fresh 2 f (first_values (function_at code f).params n) else Lost) 0) (sym (may_same (rows c.number).enters f)) (go may refl)
    where
      go : (b : Bool) → may_begin (rows c.number).enters (first_word c.words) (length s.program.functions) (length (fun_at s.program (first_word c.words)).params) ≡ b
          → KeepsTo calls (if b then running 2 (first_thread s.program (first_word c.words) (second_word c.words)) else running 2 (thread [] [] [])) (if b then Fresh 2 (first_word c.words) (first_values (function_at code (first_word c.words)).params (second_word c.words)) else Lost) 0
      go false e = loses calls
      go true e = let x = begins_is (rows c.number).enters (first_word c.words) (length s.program.functions) (length (fun_at s.program (first_word c.words)).params) e in begins calls 2 (first_word c.words) (second_word c.words) x.there x.few

pub lowers_programs : LowersPrograms
lowers_programs s rows main stack sound known none = record {
  main = λ calls. begins s rows main stack sound calls 1 main 0 known (omega (arith, none));
  thread = λ calls c d same. subst (λ (d : Call). Keeps s rows main stack sound calls (source_thread s rows c) (slot_thread (code_of s rows stack) d) 0) (sym same.entry) (starts s rows main stack sound calls c);
}
