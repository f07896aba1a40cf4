-- The table of threads over lists of threads and groups, and what stands in them.
use Rattle.std.proofs.Common.{◌≡◌, ◌≢◌, ℕ, ◌≤◌, ◌==◌, ⊎_elim, Bool, true, false, List, [], ◌∷◌, map, Option, Some, None, refl, sym, ap, ◌∙◌, subst}
use mathlib.Core.Path.{fun_ext}
use Rattle.std.specs.Prelude.{slice_get, if◌then◌else◌}
use Rattle.std.specs.List.{find}
use Rattle.std.specs.Option.{option_map}
use Rattle.std.proofs.lemmas.Bool.{cases_eq}
use Rattle.nx_base.specs.Calls.{Reply}
use Rattle.nx_ksys.specs.declared.thread.Thread.{Thread}
use Rattle.nx_ksys.specs.Threads.{flat, is_numbered, thread_of, slot_of, changed, change_thread, awaited}
use Rattle.nx_ksys.specs.State.{Group, KernelState}
use Rattle.nx_ksys.specs.Answers.{is_group, place_of, group_of}
use Rattle.nx_ksys.specs.ThreadTable.{ThreadRow, waits_in, program_of, slot_or, threads}
use Rattle.nx_ksys.specs.Soundness.{Stands, Agrees, IsSoundGroup, AreSound}
use Rattle.nx_ksys.specs.TableLaws.{Table, set_at, ready, made_ready, after_replies}
use Rattle.nx_ksys.proofs.Standing.{some_same, none_some, map_stood, map_stands, found_at, only_found, find_map, position_map, length_map, eq_from, eq_to, ne_to}

-- ---- tables

pub set_at_same : (t : Table) (i : ℕ) (x : Option ThreadRow) → set_at t i x i ≡ x
unfolding set_at
set_at_same t i x = rw (eq_to i i refl)

pub set_at_other : (t : Table) (i j : ℕ) (x : Option ThreadRow) → j ≢ i → set_at t i x j ≡ t j
unfolding set_at
set_at_other t i j x ne = rw (ne_to j i ne)

-- tables that agree at the number that is set and elsewhere
pub set_is : (t u : Table) (i : ℕ) (x : Option ThreadRow) → u i ≡ x → ((j : ℕ) → j ≢ i → u j ≡ t j) → (n : ℕ) → u n ≡ set_at t i x n
set_is t u i x here there n = ⊎_elim
    (λ e. ap u e ∙ here ∙ sym (set_at_same t i x) ∙ ap (set_at t i x) (sym e))
    (λ ne. there n ne ∙ sym (set_at_other t i n x ne)) (cases_eq n i)

pub set_id : (t : Table) (i : ℕ) (x : Option ThreadRow) → t i ≡ x → set_at t i x ≡ t
set_id t i x h = fun_ext (λ n. sym (set_is t t i x h (λ j ne. refl) n))

pub set_set : (t : Table) (i : ℕ) (x y : Option ThreadRow) → set_at (set_at t i x) i y ≡ set_at t i y
set_set t i x y = fun_ext (λ n. set_is t (set_at (set_at t i x) i y) i y (set_at_same (set_at t i x) i y) (λ j ne. set_at_other (set_at t i x) i j y ne ∙ set_at_other t i j x ne) n)

pub set_swap : (t : Table) (i j : ℕ) (x y : Option ThreadRow) → i ≢ j → set_at (set_at t i x) j y ≡ set_at (set_at t j y) i x
set_swap t i j x y ne = fun_ext (λ n. set_is (set_at t j y) (set_at (set_at t i x) j y) i x
    (set_at_other (set_at t i x) j i y ne ∙ set_at_same t i x)
    (λ m nm. ⊎_elim
    (λ e. ap (set_at (set_at t i x) j y) e ∙ set_at_same (set_at t i x) j y ∙ sym (set_at_same t j y) ∙ ap (set_at t j y) (sym e))
    (λ nj. set_at_other (set_at t i x) j m y nj ∙ set_at_other t i m x nm ∙ sym (set_at_other t j m y nj)) (cases_eq m j)) n)

-- who is ready stays so under replies
pub replies_keep : (rs : List Reply) (t : Table) (n : ℕ) (x : ThreadRow) → t n ≡ Some (ready x) → after_replies t rs n ≡ Some (ready x)
unfolding after_replies
replies_keep [] t n x h = h
replies_keep (a ∷ rs) t n x h = replies_keep rs (set_at t a.thread (made_ready (t a.thread))) n x (⊎_elim
    (λ e. ap (set_at t a.thread (made_ready (t a.thread))) e ∙ set_at_same t a.thread (made_ready (t a.thread)) ∙ ap (λ m. made_ready (t m)) (sym e) ∙ ap made_ready h)
    (λ ne. set_at_other t a.thread n (made_ready (t a.thread)) ne ∙ h) (cases_eq n a.thread))

-- ---- the table of lists

abbrev pub row_at : ℕ → ℕ → Thread → ThreadRow
row_at slot program t = record { group = t.group; program = program; slot = slot; waits = waits_in t }

abbrev pub row_of : List (Option Thread) → List (Option Group) → Thread → ThreadRow
row_of ts gs t = row_at (slot_or (slot_of ts t.number)) (program_of (group_of gs t.group)) t

abbrev pub row_in : List (Option Thread) → List (Option Group) → Option Thread → Option ThreadRow
row_in ts gs None = None
row_in ts gs (Some t) = Some (row_of ts gs t)

abbrev pub table_of : List (Option Thread) → List (Option Group) → Table
table_of ts gs n = row_in ts gs (thread_of ts n)

pub threads_are : (k : KernelState) (n : ℕ) → threads k n ≡ table_of k.sched.threads k.groups n
unfolding threads
threads_are k n = refl

-- ---- who stands where

pub thread_only : (ts : List (Option Thread)) (gs : List (Option Group)) (num s : ℕ) (t : Thread) → AreSound ts gs num → Stands ts s t → (thread_of ts t.number ≡ Some t) × (slot_of ts t.number ≡ Some s)
unfolding thread_of slot_of
thread_only ts gs num s t sound h = only_found (is_numbered t.number) ts s t refl h (eq_to t.number t.number refl) (λ q u a b. sound.distinct q s u t a h (eq_from u.number t.number b))

pub same_place : (ts : List (Option Thread)) (gs : List (Option Group)) (num p q : ℕ) (g h : Group) → AreSound ts gs num → Stands gs p g → Stands gs q h → h.number ≡ g.number → q ≡ p
same_place ts gs num p q g h sound a b e =
    let m = sound.each_group p g a in
    let n = sound.each_group q h b in
    sound.distinct q p n.main m.main n.stands m.stands (n.number ∙ e ∙ sym m.number)

pub same_group : (ts : List (Option Thread)) (gs : List (Option Group)) (num p q : ℕ) (g h : Group) → AreSound ts gs num → Stands gs p g → Stands gs q h → h.number ≡ g.number → h ≡ g
same_group ts gs num p q g h sound a b e =
    let s : Some (Some h) ≡ Some (Some g) = sym b ∙ ap (slice_get gs) (same_place ts gs num p q g h sound a b e) ∙ a in
    some_same h g (some_same (Some h) (Some g) s)

pub group_only : (ts : List (Option Thread)) (gs : List (Option Group)) (num p : ℕ) (g : Group) → AreSound ts gs num → Stands gs p g → (group_of gs g.number ≡ Some g) × (place_of gs g.number ≡ Some p)
group_only ts gs num p g sound h = only_found (is_group g.number) gs p g refl h (eq_to g.number g.number refl) (λ q u a b. same_place ts gs num p q g u sound h a (eq_from u.number g.number b))

-- a live thread and its group
pub record Entry (ts : List (Option Thread)) (gs : List (Option Group)) (n : ℕ) (x : ThreadRow) : Type 0 where
  pub slot : ℕ
  pub thread : Thread
  pub place : ℕ
  pub group : Group
  pub stands : Stands ts slot thread
  pub lives : Stands gs place group
  pub member : thread.group ≡ group.number
  pub number : thread.number ≡ n
  pub is : row_at slot group.program thread ≡ x

pub row_is : (ts : List (Option Thread)) (gs : List (Option Group)) (t : Thread) (s : ℕ) (g : Group) → slot_of ts t.number ≡ Some s → group_of gs t.group ≡ Some g → row_of ts gs t ≡ row_at s g.program t
row_is ts gs t s g a b = ap (λ o. row_at (slot_or o) (program_of (group_of gs t.group)) t) a ∙ ap (λ o. row_at s (program_of o) t) b

pub entry_of : (ts : List (Option Thread)) (gs : List (Option Group)) (num n : ℕ) (x : ThreadRow) → AreSound ts gs num → table_of ts gs n ≡ Some x → Entry ts gs n x
unfolding thread_of slot_of
entry_of ts gs num n x sound h = by_thread (thread_of ts n) refl h
  where
    by_thread : (o : Option Thread) → thread_of ts n ≡ o → row_in ts gs o ≡ Some x → Entry ts gs n x
    by_thread None e q = absurd (none_some x q)
    by_thread (Some t) e q =
        let f = found_at (is_numbered n) ts t e in
        let s = sound.each_thread f.place t f.stands in
        let only = thread_only ts gs num f.place t sound f.stands in
        let group = group_only ts gs num s.place s.group sound s.lives in
        record {
          slot = f.place;
          thread = t;
          place = s.place;
          group = s.group;
          stands = f.stands;
          lives = s.lives;
          member = s.member;
          number = eq_from t.number n f.passes;
          is = sym (row_is ts gs t f.place s.group only.1 (ap (group_of gs) s.member ∙ group.0)) ∙ some_same (row_of ts gs t) x q;
        }

pub entry_stands : (ts : List (Option Thread)) (gs : List (Option Group)) (num n : ℕ) (x : ThreadRow) → AreSound ts gs num → Entry ts gs n x → table_of ts gs n ≡ Some x
entry_stands ts gs num n x sound e =
    let only = thread_only ts gs num e.slot e.thread sound e.stands in
    let group = group_only ts gs num e.place e.group sound e.lives in
    ap (λ m. table_of ts gs m) (sym e.number) ∙ ap (row_in ts gs) only.0
    ∙ ap Some (row_is ts gs e.thread e.slot e.group only.1 (ap (group_of gs) e.member ∙ group.0) ∙ e.is)

-- ---- one thread changes, and keeps its number and group

module _ (f : Thread → Thread) (number : (t : Thread) → (f t).number ≡ t.number) (group : (t : Thread) → (f t).group ≡ t.group) (n : ℕ) (ts : List (Option Thread)) (gs : List (Option Group)) where
  same_test : (m : ℕ) (o : Option Thread) → is_numbered m (changed n f o) ≡ is_numbered m o
  same_test m None = refl
  same_test m (Some t) = by_test (t.number == n)
    where
      by_test : (b : Bool) → is_numbered m (if b then Some (f t) else Some t) ≡ (t.number == m)
      by_test true = ap (λ a. a == m) (number t)
      by_test false = refl

  flat_changed : (o : Option (Option Thread)) → flat (option_map (changed n f) o) ≡ changed n f (flat o)
  flat_changed None = refl
  flat_changed (Some o) = refl

  pub changed_thread : (m : ℕ) → thread_of (change_thread n f ts) m ≡ changed n f (thread_of ts m)
  unfolding thread_of change_thread
  changed_thread m = ap flat (find_map (changed n f) (is_numbered m) (same_test m) ts) ∙ flat_changed (find (is_numbered m) ts)

  pub changed_slot : (m : ℕ) → slot_of (change_thread n f ts) m ≡ slot_of ts m
  unfolding slot_of change_thread
  changed_slot m = position_map (changed n f) (is_numbered m) (same_test m) 0 ts

  row_changed : (t : Thread) → row_of (change_thread n f ts) gs (f t) ≡ record (row_of ts gs t) { waits = waits_in (f t) }
  row_changed t =
      ap (λ g. row_made g (program_of (group_of gs g)) (slot_or (slot_of (change_thread n f ts) (f t).number))) (group t)
      ∙ ap (λ m. row_made t.group (program_of (group_of gs t.group)) (slot_or (slot_of (change_thread n f ts) m))) (number t)
      ∙ ap (λ o. row_made t.group (program_of (group_of gs t.group)) (slot_or o)) (changed_slot t.number)
    where
      row_made : ℕ → ℕ → ℕ → ThreadRow
      row_made g p s = record { group = g; program = p; slot = s; waits = waits_in (f t) }

  row_left : (t : Thread) → row_of (change_thread n f ts) gs t ≡ row_of ts gs t
  row_left t = ap (λ o. row_at (slot_or o) (program_of (group_of gs t.group)) t) (changed_slot t.number)

  -- the table is the same where what a thread waits for is
  pub table_kept : ((t : Thread) → waits_in (f t) ≡ waits_in t) → (m : ℕ) → table_of (change_thread n f ts) gs m ≡ table_of ts gs m
  table_kept waits m = ap (row_in (change_thread n f ts) gs) (changed_thread m) ∙ by_thread (thread_of ts m)
    where
      by_test : (t : Thread) (b : Bool) → row_in (change_thread n f ts) gs (if b then Some (f t) else Some t) ≡ Some (row_of ts gs t)
      by_test t true = ap Some (row_changed t ∙ ap (λ w. let x : ThreadRow = record (row_of ts gs t) { waits = w } in x) (waits t))
      by_test t false = ap Some (row_left t)

      by_thread : (o : Option Thread) → row_in (change_thread n f ts) gs (changed n f o) ≡ row_in ts gs o
      by_thread None = refl
      by_thread (Some t) = by_test t (t.number == n)

  -- and else changes at its number alone
  pub table_changed : (t : Thread) → thread_of ts n ≡ Some t → t.number ≡ n → (m : ℕ) → table_of (change_thread n f ts) gs m ≡ set_at (table_of ts gs) n (Some (record (row_of ts gs t) { waits = waits_in (f t) })) m
  unfolding thread_of
  table_changed t h e m = set_is (table_of ts gs) (table_of (change_thread n f ts) gs) n (Some (record (row_of ts gs t) { waits = waits_in (f t) })) here other m
    where
      here : table_of (change_thread n f ts) gs n ≡ Some (record (row_of ts gs t) { waits = waits_in (f t) })
      here = ap (row_in (change_thread n f ts) gs) (changed_thread n ∙ ap (changed n f) h ∙ ap (λ b. if b then Some (f t) else Some t) (eq_to t.number n e)) ∙ ap Some (row_changed t)

      by_thread : (j : ℕ) → j ≢ n → (o : Option Thread) → thread_of ts j ≡ o → row_in (change_thread n f ts) gs (changed n f o) ≡ row_in ts gs o
      by_thread j ne None q = refl
      by_thread j ne (Some u) q =
          let found = found_at (is_numbered j) ts u q in
          let un : u.number ≡ j = eq_from u.number j found.passes in
          ap (row_in (change_thread n f ts) gs) (ap (λ b. if b then Some (f u) else Some u) (ne_to u.number n (λ z. ne (sym un ∙ z)))) ∙ ap Some (row_left u)

      other : (j : ℕ) → j ≢ n → table_of (change_thread n f ts) gs j ≡ table_of ts gs j
      other j ne = ap (row_in (change_thread n f ts) gs) (changed_thread j) ∙ by_thread j ne (thread_of ts j) refl

  -- who stood in the slot of one that stands there after
  record Was (s : ℕ) (u : Thread) : Type 0 where
    thread : Thread
    stood : Stands ts s thread
    number_is : u.number ≡ thread.number
    group_is : u.group ≡ thread.group
    agreed : Agrees (awaited thread.doing) thread.asked → Agrees (awaited u.doing) u.asked

  pub sound_changed : (num : ℕ) → AreSound ts gs num → ((s : ℕ) (t : Thread) → Stands ts s t → t.number ≡ n → Agrees (awaited (f t).doing) (f t).asked) → AreSound (change_thread n f ts) gs num
  unfolding change_thread
  sound_changed num sound agrees = record {
    few = sound.few;
    slots = sound.slots ∙ sym (length_map (changed n f) ts);
    each_thread = λ s u h. let w = was s u h in let t = sound.each_thread s w.thread w.stood in record {
      least = subst (λ m. 1 ≤ m) (sym w.number_is) t.least;
      most = subst (λ m. m ≤ num) (sym w.number_is) t.most;
      place = t.place;
      group = t.group;
      lives = t.lives;
      member = w.group_is ∙ t.member;
      agrees = w.agreed t.agrees;
    };
    each_group = λ p g h. let m = sound.each_group p g h in main p g m (m.main.number == n) refl;
    distinct = λ s r t u a b e. let v = was s t a in let w = was r u b in sound.distinct s r v.thread w.thread v.stood w.stood (sym v.number_is ∙ e ∙ w.number_is);
  }
    where
      was_one : (s : ℕ) (u : Thread) (o : Option Thread) → slice_get ts s ≡ Some o → changed n f o ≡ Some u → Was s u
      was_one s u None a e = absurd (none_some u e)
      was_one s u (Some t) a e = by_test (t.number == n) refl e
        where
          by_test : (b : Bool) → (t.number == n) ≡ b → (if b then Some (f t) else Some t) ≡ Some u → Was s u
          by_test true q z = let same = some_same (f t) u z in record {
            thread = t;
            stood = a;
            number_is = ap (λ v. v.number) (sym same) ∙ number t;
            group_is = ap (λ v. v.group) (sym same) ∙ group t;
            agreed = λ _. subst (λ v. Agrees (awaited v.doing) v.asked) same (agrees s t a (eq_from t.number n q));
          }
          by_test false q z = let same = some_same t u z in record {
            thread = t;
            stood = a;
            number_is = ap (λ v. v.number) (sym same);
            group_is = ap (λ v. v.group) (sym same);
            agreed = λ ok. subst (λ v. Agrees (awaited v.doing) v.asked) same ok;
          }

      was : (s : ℕ) (u : Thread) → Stands (map (changed n f) ts) s u → Was s u
      was s u h = let m = map_stood (changed n f) ts s (Some u) h in was_one s u m.0 m.1 m.2

      main : (p : ℕ) (g : Group) → (m : IsSoundGroup ts p g) → (b : Bool) → (m.main.number == n) ≡ b → IsSoundGroup (map (changed n f) ts) p g
      main p g m true q = record {
        main = f m.main;
        stands = map_stands (changed n f) ts p (Some m.main) m.stands ∙ ap Some (ap (λ b. if b then Some (f m.main) else Some m.main) q);
        number = number m.main ∙ m.number;
        member = group m.main ∙ m.member;
      }
      main p g m false q = record {
        main = m.main;
        stands = map_stands (changed n f) ts p (Some m.main) m.stands ∙ ap Some (ap (λ b. if b then Some (f m.main) else Some m.main) q);
        number = m.number;
        member = m.member;
      }
