-- What is put under numbers is kept as the definition keeps it.
use Rattle.std.proofs.Common.{◌≡◌, ℕ, ◌==◌, Bool, true, false, ◌&&◌, not, if◌then◌else◌, List, [], Option, Some, None, refl, sym, ap, ◌∙◌, subst}
use Rattle.std.specs.Prelude.{◌≢◌}
use Rattle.std.specs.Option.{is_some}
use Rattle.std.proofs.lemmas.Bool.{eqb-true, eqb-false}
use Rattle.nx_base.specs.Calls.{Reply, AreInputs}
use Rattle.nx_base.specs.declared.calls.KCall.{KCall}
use Rattle.nx_ksys.specs.Answers as answers
use Rattle.nx_ksys.specs.TableLaws.{kinds_in}
use Rattle.nx_ksys.specs.ThreadTable.{ThreadRow}
use Rattle.nx_ksys.specs.declared.cooked.Cooked.{Cooked}
use Rattle.nx_shtree.specs.Trees.{Item}
use Rattle.nx_shrun.specs.AbstractRuns as runs
use Rattle.nx_shrun.specs.AbstractRuns.{Answer, Next, Asks, Ends, Wrong, Both, Entry, Programs, Threads, at_number, put, no_threads}
use Rattle.nx_guests.specs.declared.turn.Turn.{Turn}
use Rattle.nx_guests.specs.declared.turn.Turn.TheVariants as turn
use Rattle.nx_guests.specs.Kept.{found, Puts, seen}
use Rattle.nx_guests.specs.Turns.{IsTold, both_of, IsCall}
use Rattle.nx_guests.specs.Guests.{AreKept, LivesBut, after_step, left_by, UnlessWrong, Steps}

pub twice : {A : Type 0} (xs ys zs : List (Option A)) (n : ℕ) (v w : Option A) → Puts xs ys n v → Puts ys zs n w → Puts xs zs n w
twice xs ys zs n v w h k = record { own = k.own; others = λ i ne. k.others i ne ∙ h.others i ne }

-- What was taken away and put back is there as before.
abbrev pub AreSame : {A : Type 0} → List (Option A) → List (Option A) → Type 0
AreSame {A} xs ys = (i : ℕ) → found ys i ≡ found xs i

pub put_same : {A : Type 0} (xs ys : List (Option A)) (n : ℕ) (v : Option A) → found xs n ≡ v → Puts xs ys n v → AreSame xs ys
put_same xs ys n v e h i = of (i == n) refl
  where
    of : (t : Bool) → (i == n) ≡ t → found ys i ≡ found xs i
    of true q = let z = eqb-true i n q in subst (λ j. found ys j ≡ found xs j) (sym z) (h.own ∙ sym e)
    of false q = h.others i (eqb-false i n q)

in_list : {A B : Type 0} (f : A → B) (es : List (Entry B)) (xs ys : List (Option A)) (n i : ℕ) (a : A) → Puts xs ys n (Some a) → (i ≢ n → at_number es i ≡ seen f (found xs i)) → at_number (put n (f a) es) i ≡ seen f (found ys i)
unfolding at_number
in_list f es xs ys n i a h k = of (n == i) refl
  where
    of : (t : Bool) → (n == i) ≡ t → (if t then Some (f a) else at_number es i) ≡ seen f (found ys i)
    of true q = let z = eqb-true n i q in ap (seen f) (sym (subst (λ j. found ys j ≡ Some a) z h.own))
    of false q = let ne : i ≢ n = λ z. eqb-false n i q (sym z) in k ne ∙ ap (seen f) (sym (h.others i ne))

module _ {A B G T : Type 0} (thread_of : A → T) (globals_of : B → G) where
  pub none_kept : (live : ℕ → Bool) (xs : List (Option A)) (ys : List (Option B)) → xs ≡ [] → ys ≡ [] → AreKept thread_of globals_of live xs ys no_threads
  unfolding at_number
  none_kept live xs ys e f = record { thread = λ n l. rw e refl; group = λ n. rw f refl }

  pub alike_kept : (live : ℕ → Bool) (xs zs : List (Option A)) (ys us : List (Option B)) (m : Threads G T) → AreSame xs zs → AreSame ys us → AreKept thread_of globals_of live xs ys m → AreKept thread_of globals_of live zs us m
  alike_kept live xs zs ys us m e f h = record { thread = λ n l. h.thread n l ∙ ap (seen thread_of) (sym (e n)); group = λ n. h.group n ∙ ap (seen globals_of) (sym (f n)) }

module _ {A B G T W : Type 0} (thread_of : A → T) (globals_of : B → G) (p : Programs G T W) (script : List Item) where
  pub moved_kept : (live later : ℕ → Bool) (xs zs : List (Option A)) (ys us : List (Option B)) (m : Threads G T) (number group : ℕ) (g : G) (t : T) (a : A) (b : B)
      → thread_of a ≡ t → globals_of b ≡ g → Puts xs zs number (Some a) → Puts ys us group (Some b) → LivesBut number live later → AreKept thread_of globals_of live xs ys m
      → AreKept thread_of globals_of later zs us (runs.moved p script m number group g t)
  moved_kept live later xs zs ys us m number group g t a b et eg hx hy lives h =
      subst (λ u. AreKept thread_of globals_of later zs us (runs.moved p script m number group g u)) et (subst (λ v. AreKept thread_of globals_of later zs us (runs.moved p script m number group v (thread_of a))) eg (record {
        thread = λ i l. in_list thread_of m.threads xs zs number i a hx (λ ne. h.thread i (lives i ne l));
        group = λ i. in_list globals_of m.globals ys us group i b hy (λ ne. h.group i);
      }))

  pub thread_kept : (live later : ℕ → Bool) (xs zs : List (Option A)) (ys : List (Option B)) (m : Threads G T) (start : answers.Start) (words : List ℕ) (a : A)
      → start.is_thread ≡ true → thread_of a ≡ p.thread start.program words → Puts xs zs start.thread (Some a) → LivesBut start.thread live later → AreKept thread_of globals_of live xs ys m
      → AreKept thread_of globals_of later zs ys (runs.begun p script m start words)
  thread_kept live later xs zs ys m start words a is et hx lives h =
      subst (λ b. AreKept thread_of globals_of later zs ys (if b then record { threads = put start.thread (p.thread start.program words) m.threads; globals = m.globals } else runs.moved p script m start.thread start.group (p.first start.program) (p.main start.program))) (sym is)
      (subst (λ u. AreKept thread_of globals_of later zs ys (record { threads = put start.thread u m.threads; globals = m.globals })) et (record { thread = λ i l. in_list thread_of m.threads xs zs start.thread i a hx (λ ne. h.thread i (lives i ne l)); group = h.group }))

  pub group_kept : (live later : ℕ → Bool) (xs zs : List (Option A)) (ys us : List (Option B)) (m : Threads G T) (start : answers.Start) (words : List ℕ) (a : A) (b : B)
      → start.is_thread ≡ false → thread_of a ≡ p.main start.program → globals_of b ≡ p.first start.program → Puts xs zs start.thread (Some a) → Puts ys us start.group (Some b) → LivesBut start.thread live later
      → AreKept thread_of globals_of live xs ys m → AreKept thread_of globals_of later zs us (runs.begun p script m start words)
  group_kept live later xs zs ys us m start words a b is et eg hx hy lives h =
      subst (λ t. AreKept thread_of globals_of later zs us (if t then record { threads = put start.thread (p.thread start.program words) m.threads; globals = m.globals } else runs.moved p script m start.thread start.group (p.first start.program) (p.main start.program))) (sym is)
      (moved_kept live later xs zs ys us m start.thread start.group (p.first start.program) (p.main start.program) a b et eg hx hy lives h)

  -- Replies.
  pub reply_none : (m : Threads G T) (row : ThreadRow) (r : Reply) (g : Option G) (t : Option T) → (is_some g && is_some t) ≡ false → runs.reply_to p script m row r g t ≡ m
  reply_none m row r None t e = refl
  reply_none m row r (Some g) None e = refl
  reply_none m row r (Some g) (Some t) e = absurd cc

  pub reply_both : (m : Threads G T) (row : ThreadRow) (r : Reply) (g : Option G) (t : Option T) (x : G) (y : T) (program : ℕ) (to : Both G T) → g ≡ Some x → t ≡ Some y → row.program ≡ program → p.reply program x y r ≡ to → runs.reply_to p script m row r g t ≡ runs.replied p script m r.thread row.group to
  reply_both m row r g t x y program to e f q h = rw (e, f, q, h) refl

  pub unanswered_kept : (live : ℕ → Bool) (xs zs : List (Option A)) (ys us : List (Option B)) (m : Threads G T) (row : ThreadRow) (r : Reply)
      → (is_some (at_number m.globals row.group) && is_some (at_number m.threads r.thread)) ≡ false → AreSame xs zs → AreSame ys us → AreKept thread_of globals_of live xs ys m
      → AreKept thread_of globals_of live zs us ((runs.guests p script).answer m row r)
  unanswered_kept live xs zs ys us m row r e ex ey h =
      subst (λ n. AreKept thread_of globals_of live zs us n) (sym (reply_none m row r (at_number m.globals row.group) (at_number m.threads r.thread) e)) (alike_kept thread_of globals_of live xs zs ys us m ex ey h)

  pub answered_kept : (live : ℕ → Bool) (xs zs : List (Option A)) (ys us : List (Option B)) (m : Threads G T) (row : ThreadRow) (r : Reply) (a c : A) (b d : B) (program : ℕ)
      → found xs r.thread ≡ Some a → found ys row.group ≡ Some b → row.program ≡ program → live r.thread ≡ true
      → p.reply program (globals_of b) (thread_of a) r ≡ both_of (globals_of d) (thread_of c) → Puts xs zs r.thread (Some c) → Puts ys us row.group (Some d) → AreKept thread_of globals_of live xs ys m
      → AreKept thread_of globals_of live zs us ((runs.guests p script).answer m row r)
  answered_kept live xs zs ys us m row r a c b d program ea eb ep el er hx hy h =
      let eg : at_number m.globals row.group ≡ Some (globals_of b) = h.group row.group ∙ ap (seen globals_of) eb in
      let et : at_number m.threads r.thread ≡ Some (thread_of a) = h.thread r.thread el ∙ ap (seen thread_of) ea in
      subst (λ n. AreKept thread_of globals_of live zs us n) (sym (reply_both m row r (at_number m.globals row.group) (at_number m.threads r.thread) (globals_of b) (thread_of a) program (both_of (globals_of d) (thread_of c)) eg et ep er))
      (moved_kept live live xs zs ys us m r.thread row.group (globals_of d) (thread_of c) c d refl refl hx hy (λ n ne l. l) h)

  -- Steps.
  and_true : (a b : Bool) → (a && b) ≡ true → a ≡ true
  and_true true b e = refl
  and_true false b e = absurd cc

  ended_kept : (live later : ℕ → Bool) (xs zs : List (Option A)) (ys us : List (Option B)) (m : Threads G T) (number group : ℕ) (b : B) (o : Option A)
      → Puts xs zs number o → Puts ys us group (Some b) → ((n : ℕ) → later n ≡ true → (live n ≡ true) × (n ≢ number)) → AreKept thread_of globals_of live xs ys m
      → AreKept thread_of globals_of later zs us (record { threads = m.threads; globals = put group (globals_of b) m.globals })
  ended_kept live later xs zs ys us m number group b o hx hy lives h = record {
    thread = λ n l. let w = lives n l in h.thread n w.0 ∙ ap (seen thread_of) (sym (hx.others n w.1));
    group = λ i. in_list globals_of m.globals ys us group i b hy (λ ne. h.group i);
  }

  left_without : (live : ℕ → Bool) (number n : ℕ) → (live n && not (n == number)) ≡ true → (live n ≡ true) × (n ≢ number)
  left_without live number n e = of (live n) (n == number) refl refl e
    where
      of : (a b : Bool) → live n ≡ a → (n == number) ≡ b → (a && not b) ≡ true → (live n ≡ true) × (n ≢ number)
      of true true ea eb q = absurd cc
      of true false ea eb q = (ea, eqb-false n number eb)
      of false b ea eb q = absurd cc

  -- What is kept after an answer that the code gives.
  pub stepped_kept : {F : Type 0} (fault_of : F → W) (which : ℕ → Option KCall) (live : ℕ → Bool) (xs zs : List (Option A)) (ys us : List (Option B)) (m : Threads G T) (number group : ℕ) (a : A) (b : B) (told : Cooked) (x : Turn F) (y : Answer G T W)
      → IsTold which fault_of x told (globals_of b) (thread_of a) y → Puts xs zs number (Some a) → Puts ys us group (Some b) → AreKept thread_of globals_of live xs ys m
      → UnlessWrong x (AreKept thread_of globals_of (left_by x number live) zs us (after_step p script m number group y))
  stepped_kept {F = F} fault_of which live xs zs ys us m number group a b told turn.Next y e hx hy h =
      subst (λ z. AreKept thread_of globals_of (left_by {F = F} turn.Next number live) zs us (after_step p script m number group z)) (sym e)
      (moved_kept live (left_by {F = F} turn.Next number live) xs zs ys us m number group (globals_of b) (thread_of a) a b refl refl hx hy (λ n ne l. and_true (live n) true l) h)
  stepped_kept {F = F} fault_of which live xs zs ys us m number group a b told turn.Calls y e hx hy h =
      subst (λ z. AreKept thread_of globals_of (left_by {F = F} turn.Calls number live) zs us (after_step p script m number group z)) (sym e.asks)
      (moved_kept live (left_by {F = F} turn.Calls number live) xs zs ys us m number group (globals_of b) (thread_of a) a b refl refl hx hy (λ n ne l. and_true (live n) true l) h)
  stepped_kept {F = F} fault_of which live xs zs ys us m number group a b told (turn.Ends value) y e hx hy h =
      subst (λ z. AreKept thread_of globals_of (left_by {F = F} (turn.Ends value) number live) zs us (after_step p script m number group z)) (sym e)
      (ended_kept live (left_by {F = F} (turn.Ends value) number live) xs zs ys us m number group b (Some a) hx hy (λ n l. left_without live number n l) h)
  stepped_kept {F = F} fault_of which live xs zs ys us m number group a b told (turn.Wrong why) y e hx hy h = tt

  pub steps_some : {F : Type 0} (fault_of : F → W) (live : ℕ → Bool) (xs zs : List (Option A)) (ys us : List (Option B)) (m : Threads G T) (number group program : ℕ) (a c : A) (b d : B) (told : Cooked) (x : Turn F)
      → found xs number ≡ Some a → found ys group ≡ Some b → live number ≡ true → IsTold p.which fault_of x told (globals_of d) (thread_of c) (p.step program (globals_of b) (thread_of a))
      → Puts xs zs number (Some c) → Puts ys us group (Some d) → AreKept thread_of globals_of live xs ys m
      → Steps p script thread_of globals_of fault_of live number group program m zs us told (Some x)
  steps_some fault_of live xs zs ys us m number group program a c b d told x ea eb el e hx hy h = record {
    globals_before = globals_of b;
    thread_before = thread_of a;
    group_kept = h.group group ∙ ap (seen globals_of) eb;
    thread_kept = h.thread number el ∙ ap (seen thread_of) ea;
    globals_after = globals_of d;
    thread_after = thread_of c;
    answer = e;
    kept = stepped_kept fault_of p.which live xs zs ys us m number group c d told x (p.step program (globals_of b) (thread_of a)) e hx hy h;
  }

  pub steps_none : {F : Type 0} (fault_of : F → W) (live : ℕ → Bool) (xs zs : List (Option A)) (ys us : List (Option B)) (m : Threads G T) (number group program : ℕ) (told : Cooked)
      → (is_some (found ys group) && is_some (found xs number)) ≡ false → live number ≡ true → AreSame xs zs → AreSame ys us → AreKept thread_of globals_of live xs ys m
      → Steps {F = F} p script thread_of globals_of fault_of live number group program m zs us told None
  steps_none fault_of live xs zs ys us m number group program told e el ex ey h = record {
    missing = both (h.group group) (h.thread number el) ∙ e;
    kept = alike_kept thread_of globals_of live xs zs ys us m ex ey h;
  }
    where
      seen_some : {C D : Type 0} (f : C → D) (o : Option C) → is_some (seen f o) ≡ is_some o
      seen_some f None = refl
      seen_some f (Some v) = refl

      both : {g : Option G} {t : Option T} → g ≡ seen globals_of (found ys group) → t ≡ seen thread_of (found xs number) → (is_some g && is_some t) ≡ (is_some (found ys group) && is_some (found xs number))
      both q r = rw (q, r, seen_some globals_of (found ys group), seen_some thread_of (found xs number)) refl

-- A call that was made has its inputs.
pub call_formed : {F G T W : Type 0} (which : ℕ → Option KCall) (fault_of : F → W) (x : Turn F) (told : Cooked) (g : G) (t : T) (a : Answer G T W) → IsTold which fault_of x told g t a → IsCall (Some x) told
call_formed which fault_of turn.Next told g t a h = tt
call_formed which fault_of turn.Calls told g t a h = let c = h.call in let k = h.tells in record {
  inputs = c.inputs;
  tells = k.inputs;
  formed = two c.inputs (sym k.call) (sym k.words) k.formed;
}
  where
    two : {o p : Option KCall} {us vs : List ℕ} (xs : List (List ℕ)) → o ≡ p → us ≡ vs → AreInputs (kinds_in o) us xs → AreInputs (kinds_in p) vs xs
    two xs e f h = rw (sym e, sym f) h
call_formed which fault_of (turn.Ends value) told g t a h = tt
call_formed which fault_of (turn.Wrong why) told g t a h = tt
