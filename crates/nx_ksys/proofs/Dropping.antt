-- Threads vanish: those of a group that ends, or one that ends alone.
use Rattle.std.proofs.Common.{◌≡◌, ◌≢◌, ℕ, ◌==◌, ⊎_elim, inl, inr, ◌⊎◌, Bool, true, false, List, length, map, Option, Some, None, refl, sym, ap, ◌∙◌}
use Rattle.std.specs.Prelude.{slice_get, slice_set, if◌then◌else◌}
use Rattle.std.proofs.lemmas.Bool.{cases_eq}
use Rattle.nx_ksys.specs.declared.thread.Thread.{Thread}
use Rattle.nx_ksys.specs.State.{Group}
use Rattle.nx_ksys.specs.Ends.{without_group, nobodys, without_thread}
use Rattle.nx_ksys.specs.ThreadTable.{ThreadRow}
use Rattle.nx_ksys.specs.Soundness.{Stands, IsSoundThread, IsSoundGroup, AreSound}
use Rattle.nx_ksys.specs.TableLaws.{Table, set_at, unless_in, without}
use Rattle.nx_ksys.proofs.Standing.{same_option, some_same, none_some, map_stood, map_stands, set_same, set_other, within, length_map, length_set, ne_from, ne_to}
use Rattle.nx_ksys.proofs.Regrouping.{Were}
use Rattle.nx_ksys.proofs.Tables.{set_at_same, set_at_other, row_at, table_of, same_place, same_group, Entry, entry_of, entry_stands}

-- who passes the test is gone, and the others stay
record Drops (f : Option Thread → Option Thread) (test : Thread → Bool) : Type 0 where
  none : f None ≡ None
  gone : (t : Thread) → test t ≡ true → f (Some t) ≡ None
  stays : (t : Thread) → test t ≡ false → f (Some t) ≡ Some t

module _ (f : Option Thread → Option Thread) (test : Thread → Bool) (drops : Drops f test) (ts : List (Option Thread)) (gs hs : List (Option Group)) (num : ℕ) (sound : AreSound ts gs num) (were : (p : ℕ) (h : Group) → Stands hs p h → Were gs hs p h) where
  stood : (s : ℕ) (u : Thread) → Stands (map f ts) s u → Stands ts s u × (test u ≡ false)
  stood s u h = let m = map_stood f ts s (Some u) h in by_one m.0 m.1 m.2
    where
      by_one : (o : Option Thread) → slice_get ts s ≡ Some o → f o ≡ Some u → Stands ts s u × (test u ≡ false)
      by_one None a e = absurd (none_some u (sym drops.none ∙ e))
      by_one (Some t) a e = by_test (test t) refl
        where
          by_test : (b : Bool) → test t ≡ b → Stands ts s u × (test u ≡ false)
          by_test true q = absurd (none_some u (sym (drops.gone t q) ∙ e))
          by_test false q = let same = some_same t u (sym (drops.stays t q) ∙ e) in (a ∙ ap (λ v. Some (Some v)) same, ap test (sym same) ∙ q)

  stands : (s : ℕ) (t : Thread) → Stands ts s t → test t ≡ false → Stands (map f ts) s t
  stands s t h q = map_stands f ts s (Some t) h ∙ ap Some (drops.stays t q)

  sound_dropped : length hs ≡ length gs → ((s : ℕ) (t : Thread) → Stands ts s t → test t ≡ false → IsSoundThread hs num t) → ((p : ℕ) (h : Group) → Stands hs p h → IsSoundGroup (map f ts) p h) → AreSound (map f ts) hs num
  sound_dropped len each groups = record {
    few = sound.few;
    slots = len ∙ sound.slots ∙ sym (length_map f ts);
    each_thread = λ s u h. let w = stood s u h in each s u w.0 w.1;
    each_group = groups;
    distinct = λ s r t u a b e. sound.distinct s r t u (stood s t a).0 (stood r u b).0 e;
  }

  -- a thread in the table after stood in the table before, and did not pass
  left : AreSound (map f ts) hs num → (n : ℕ) (x : ThreadRow) → table_of (map f ts) hs n ≡ Some x → (e : Entry ts gs n x) × (test e.thread ≡ false)
  left after n x h =
      let e = entry_of (map f ts) hs num n x after h in
      let w = stood e.slot e.thread e.stands in
      let g = were e.place e.group e.lives in (
        record {
          slot = e.slot;
          thread = e.thread;
          place = e.place;
          group = g.group;
          stands = w.0;
          lives = g.stood;
          member = e.member ∙ g.number;
          number = e.number;
          is = ap (λ p. row_at e.slot p e.thread) (sym g.program) ∙ e.is;
        },
        w.1,
      )

  stays_there : AreSound (map f ts) hs num → (n : ℕ) (x : ThreadRow) → (e : Entry ts gs n x) → test e.thread ≡ false → table_of (map f ts) hs n ≡ Some x
  stays_there after n x e q =
      let a = stands e.slot e.thread e.stands q in
      let t = after.each_thread e.slot e.thread a in
      let g = were t.place t.group t.lives in
      let same = same_group ts gs num e.place t.place e.group g.group sound e.lives g.stood (sym g.number ∙ sym t.member ∙ e.member) in
      entry_stands (map f ts) hs num n x after (record {
        slot = e.slot;
        thread = e.thread;
        place = t.place;
        group = t.group;
        stands = a;
        lives = t.lives;
        member = t.member;
        number = e.number;
        is = ap (λ p. row_at e.slot p e.thread) (g.program ∙ ap (λ h. h.program) same) ∙ e.is;
      })

  -- the table after, where a test on rows says the same
  table_dropped : AreSound (map f ts) hs num → (u : Table) → ((n : ℕ) (x : ThreadRow) → (e : Entry ts gs n x) → test e.thread ≡ false → u n ≡ Some x) → ((n : ℕ) (x : ThreadRow) → u n ≡ Some x → (e : Entry ts gs n x) × (test e.thread ≡ false)) → (n : ℕ) → table_of (map f ts) hs n ≡ u n
  table_dropped after u there back n = same_option (table_of (map f ts) hs n) (u n)
      (λ x h. let l = left after n x h in there n x l.0 l.1)
      (λ x h. let b = back n x h in stays_there after n x b.0 b.1)

-- ---- one thread ends

module _ (ts : List (Option Thread)) (gs : List (Option Group)) (num s : ℕ) (t : Thread) (sound : AreSound ts gs num) (here : Stands ts s t) where
  one_drops : Drops (without_thread t.number) (λ u. u.number == t.number)
  one_drops = record {
    none = refl;
    gone = λ u q. ap (λ b. if b then None else Some u) q;
    stays = λ u q. ap (λ b. if b then None else Some u) q;
  }

  same_were : (p : ℕ) (h : Group) → Stands gs p h → Were gs gs p h
  same_were p h a = record { group = h; stood = a; number = refl; program = refl }

  pub sound_without_thread : t.number ≢ t.group → AreSound (map (without_thread t.number) ts) gs num
  sound_without_thread ne = sound_dropped (without_thread t.number) (λ u. u.number == t.number) one_drops ts gs gs num sound same_were refl
      (λ r u a q. sound.each_thread r u a)
      (λ p g a. let m = sound.each_group p g a in record {
        main = m.main;
        stands = stands (without_thread t.number) (λ u. u.number == t.number) one_drops ts gs gs num sound same_were p m.main m.stands
            (ne_to m.main.number t.number (λ e.
            let same = sound.distinct p s m.main t m.stands here e in
            let z : Some (Some m.main) ≡ Some (Some t) = sym m.stands ∙ ap (slice_get ts) same ∙ here in
            let v = some_same m.main t (some_same (Some m.main) (Some t) z) in
            ne (sym e ∙ m.number ∙ sym m.member ∙ ap (λ w. w.group) v)));
        number = m.number;
        member = m.member;
      })

  pub table_without_thread : AreSound (map (without_thread t.number) ts) gs num → (n : ℕ) → table_of (map (without_thread t.number) ts) gs n ≡ set_at (table_of ts gs) t.number None n
  table_without_thread after n = table_dropped (without_thread t.number) (λ u. u.number == t.number) one_drops ts gs gs num sound same_were after (set_at (table_of ts gs) t.number None)
      (λ m x e q. set_at_other (table_of ts gs) t.number m None (λ z. ne_from e.thread.number t.number q (e.number ∙ z)) ∙ entry_stands ts gs num m x sound e)
      (λ m x h. ⊎_elim
      (λ e. absurd (none_some x (sym (set_at_same (table_of ts gs) t.number None) ∙ ap (set_at (table_of ts gs) t.number None) (sym e) ∙ h)))
      (λ ne. let e = entry_of ts gs num m x sound (sym (set_at_other (table_of ts gs) t.number m None ne) ∙ h) in (e, ne_to e.thread.number t.number (λ z. ne (sym e.number ∙ z))))
      (cases_eq m t.number)) n

-- ---- a group ends

module _ (ts : List (Option Thread)) (gs : List (Option Group)) (num place : ℕ) (g : Group) (sound : AreSound ts gs num) (living : Stands gs place g) where
  group_drops : Drops (without_group g.number) (λ u. u.group == g.number)
  group_drops = record {
    none = refl;
    gone = λ u q. ap (λ b. if b then None else Some u) q;
    stays = λ u q. ap (λ b. if b then None else Some u) q;
  }

  -- a group that is left stood at another place
  record IsLeft (p : ℕ) (h : Group) : Type 0 where
    other : p ≢ place
    were : Were gs (map (nobodys g.number) (slice_set gs place None)) p h

  group_left : (p : ℕ) (h : Group) → Stands (map (nobodys g.number) (slice_set gs place None)) p h → IsLeft p h
  group_left p h a = let m = map_stood (nobodys g.number) (slice_set gs place None) p (Some h) a in by_place (cases_eq p place) m.0 m.1 m.2
    where
      by_one : p ≢ place → (o : Option Group) → slice_get (slice_set gs place None) p ≡ Some o → nobodys g.number o ≡ Some h → IsLeft p h
      by_one ne None b e = absurd (none_some h e)
      by_one ne (Some v) b e = by_test (v.parent == g.number) e
        where
          by_test : (c : Bool) → (if c then Some (record v { parent = 0 }) else Some v) ≡ Some h → IsLeft p h
          by_test true q = let same = some_same (record v { parent = 0 }) h q in record {
            other = ne;
            were = record {
              group = v;
              stood = sym (set_other gs place p None ne) ∙ b;
              number = ap (λ w. w.number) (sym same);
              program = ap (λ w. w.program) (sym same);
            };
          }
          by_test false q = let same = some_same v h q in record {
            other = ne;
            were = record {
              group = v;
              stood = sym (set_other gs place p None ne) ∙ b;
              number = ap (λ w. w.number) (sym same);
              program = ap (λ w. w.program) (sym same);
            };
          }

      by_place : (p ≡ place) ⊎ (p ≡ place → ⊥) → (o : Option Group) → slice_get (slice_set gs place None) p ≡ Some o → nobodys g.number o ≡ Some h → IsLeft p h
      by_place (inl e) o b q =
          let z : Some None ≡ Some o = sym (set_same gs place None (within gs place (Some g) living)) ∙ ap (slice_get (slice_set gs place None)) (sym e) ∙ b in
          absurd (none_some h (ap (nobodys g.number) (some_same None o z) ∙ q))
      by_place (inr ne) o b q = by_one ne o b q

  -- and each at another place is left
  record StandsOn (p : ℕ) (h : Group) : Type 0 where
    group : Group
    lives : Stands (map (nobodys g.number) (slice_set gs place None)) p group
    number : group.number ≡ h.number

  group_stays : (p : ℕ) (h : Group) → p ≢ place → Stands gs p h → StandsOn p h
  group_stays p h ne a = by_test (h.parent == g.number) refl
    where
      there : (o : Option Group) → nobodys g.number (Some h) ≡ o → slice_get (map (nobodys g.number) (slice_set gs place None)) p ≡ Some o
      there o e = map_stands (nobodys g.number) (slice_set gs place None) p (Some h) (set_other gs place p None ne ∙ a) ∙ ap Some e

      by_test : (b : Bool) → (h.parent == g.number) ≡ b → StandsOn p h
      by_test true q = record { group = record h { parent = 0 }; lives = there (Some (record h { parent = 0 })) (ap (λ c. if c then Some (record h { parent = 0 }) else Some h) q); number = refl }
      by_test false q = record { group = h; lives = there (Some h) (ap (λ c. if c then Some (record h { parent = 0 }) else Some h) q); number = refl }

  groups_were : (p : ℕ) (h : Group) → Stands (map (nobodys g.number) (slice_set gs place None)) p h → Were gs (map (nobodys g.number) (slice_set gs place None)) p h
  groups_were p h a = (group_left p h a).were

  pub sound_without_group : AreSound (map (without_group g.number) ts) (map (nobodys g.number) (slice_set gs place None)) num
  sound_without_group = sound_dropped (without_group g.number) (λ u. u.group == g.number) group_drops ts gs (map (nobodys g.number) (slice_set gs place None)) num sound groups_were
      (length_map (nobodys g.number) (slice_set gs place None) ∙ length_set gs place None)
      (λ s u a q.
      let t = sound.each_thread s u a in
      let on = group_stays t.place t.group (λ e.
      let same : Some (Some t.group) ≡ Some (Some g) = sym t.lives ∙ ap (slice_get gs) e ∙ living in
      ne_from u.group g.number q (t.member ∙ ap (λ h. h.number) (some_same t.group g (some_same (Some t.group) (Some g) same)))) t.lives in
      record { least = t.least; most = t.most; place = t.place; group = on.group; lives = on.lives; member = t.member ∙ sym on.number; agrees = t.agrees })
      (λ p h a.
      let l = group_left p h a in
      let w = l.were in
      let m = sound.each_group p w.group w.stood in
      record {
        main = m.main;
        stands = stands (without_group g.number) (λ u. u.group == g.number) group_drops ts gs (map (nobodys g.number) (slice_set gs place None)) num sound groups_were p m.main m.stands
            (ne_to m.main.group g.number (λ e. l.other (same_place ts gs num place p g w.group sound living w.stood (sym m.member ∙ e))));
        number = m.number ∙ sym w.number;
        member = m.member ∙ sym w.number;
      })

  pub table_without_group : (n : ℕ) → table_of (map (without_group g.number) ts) (map (nobodys g.number) (slice_set gs place None)) n ≡ without (table_of ts gs) g.number n
  table_without_group n = table_dropped (without_group g.number) (λ u. u.group == g.number) group_drops ts gs (map (nobodys g.number) (slice_set gs place None)) num sound groups_were sound_without_group (without (table_of ts gs) g.number)
      (λ m x e q. ap (unless_in g.number) (entry_stands ts gs num m x sound e) ∙ ap (λ b. if b then None else Some x) (ap (λ r. r.group == g.number) (sym e.is) ∙ q))
      (λ m x h. back m x (table_of ts gs m) refl h) n
    where
      by_test : (m : ℕ) (x y : ThreadRow) (b : Bool) → (y.group == g.number) ≡ b → table_of ts gs m ≡ Some y → (if b then None else Some y) ≡ Some x → (e : Entry ts gs m x) × ((e.thread.group == g.number) ≡ false)
      by_test m x y true q e h = absurd (none_some x h)
      by_test m x y false q e h =
          let same = some_same y x h in
          let entry = entry_of ts gs num m x sound (e ∙ ap Some same) in
          (entry, ap (λ r. r.group == g.number) entry.is ∙ ap (λ r. r.group == g.number) (sym same) ∙ q)

      back : (m : ℕ) (x : ThreadRow) (o : Option ThreadRow) → table_of ts gs m ≡ o → unless_in g.number o ≡ Some x → (e : Entry ts gs m x) × ((e.thread.group == g.number) ≡ false)
      back m x None e h = absurd (none_some x h)
      back m x (Some y) e h = by_test m x y (y.group == g.number) refl e h
