-- A thread starts in a free slot, alone or with a group of its own; and the first of all.
use Rattle.std.proofs.Common.{◌≡◌, ◌≢◌, ℕ, zero, suc, ◌+◌, ◌<◌, ◌≤◌, ⊎_elim, inl, inr, ◌⊎◌, List, [], ◌∷◌, length, replicate, Option, Some, None, refl, sym, ap, ◌∙◌, subst, arith}
use Rattle.std.specs.Prelude.{slice_get, slice_set}
use Rattle.std.proofs.lemmas.Bool.{cases_eq}
use Rattle.nx_ksys.specs.declared.thread.Thread.{Thread}
use Rattle.nx_ksys.specs.Threads.{awaited}
use Rattle.nx_ksys.specs.State.{Group}
use Rattle.nx_ksys.specs.GroupCalls.{most_numbers}
use Rattle.nx_ksys.specs.Boot.{booted, shell, shell_thread, with_places}
use Rattle.nx_ksys.specs.ThreadTable.{ThreadRow}
use Rattle.nx_ksys.specs.Soundness.{Stands, Agrees, IsSoundThread, IsSoundGroup, AreSound}
use Rattle.nx_ksys.specs.TableLaws.{set_at, BootIsSound}
use Rattle.nx_ksys.proofs.Standing.{same_option, some_same, none_some, set_same, set_other, set_stood, within, length_set}
use Rattle.nx_ksys.proofs.Tables.{set_at_same, set_at_other, row_at, table_of, same_group, Entry, entry_of, entry_stands}

-- nobody stands in a free slot, and no group in its place
pub elsewhere : (ts : List (Option Thread)) (slot : ℕ) → slice_get ts slot ≡ Some None → (s : ℕ) (t : Thread) → Stands ts s t → s ≢ slot
elsewhere ts slot free s t a e = let z : Some None ≡ Some (Some t) = sym free ∙ ap (slice_get ts) (sym e) ∙ a in none_some t (some_same None (Some t) z)

pub no_group : (ts : List (Option Thread)) (gs : List (Option Group)) (num slot : ℕ) → AreSound ts gs num → slice_get ts slot ≡ Some None → (p : ℕ) (g : Group) → Stands gs p g → p ≢ slot
no_group ts gs num slot sound free p g a = let m = sound.each_group p g a in elsewhere ts slot free p m.main m.stands

module _ (ts : List (Option Thread)) (gs hs : List (Option Group)) (num slot : ℕ) (new : Thread) (sound : AreSound ts gs num) (free : slice_get ts slot ≡ Some None) (number : new.number ≡ num + 1) where
  fits : slot < length ts
  fits = within ts slot None free

  -- groups that stay, where the new thread's group is among them
  pub record Hosts : Type 0 where
    pub few : num + 1 ≤ most_numbers
    pub size : length hs ≡ length gs
    pub keeps : (p : ℕ) (g : Group) → Stands gs p g → Stands hs p g
    pub host_place : ℕ
    pub host : Group
    pub lives : Stands hs host_place host
    pub member : new.group ≡ host.number
    pub agrees : Agrees (awaited new.doing) new.asked
    pub mains : (p : ℕ) (g : Group) → Stands hs p g → IsSoundGroup (slice_set ts slot (Some new)) p g

  pub sound_started : Hosts → AreSound (slice_set ts slot (Some new)) hs (num + 1)
  sound_started h = record {
    few = h.few;
    slots = h.size ∙ sound.slots ∙ sym (length_set ts slot (Some new));
    each_thread = λ s u a. ⊎_elim
        (λ e. subst (IsSoundThread hs (num + 1)) (sym e.1) (record {
          least = omega (arith, number);
          most = omega (arith, number);
          place = h.host_place;
          group = h.host;
          lives = h.lives;
          member = h.member;
          agrees = h.agrees;
        }))
        (λ e. let t = sound.each_thread s u e.1 in let m = t.most in record {
          least = t.least;
          most = omega (arith, m);
          place = t.place;
          group = t.group;
          lives = h.keeps t.place t.group t.lives;
          member = t.member;
          agrees = t.agrees;
        })
        (set_stood ts slot s new u fits a);
    each_group = h.mains;
    distinct = λ s r t u a b e. ⊎_elim
        (λ at. ⊎_elim
        (λ bt. at.0 ∙ sym bt.0)
        (λ bo. let m = (sound.each_thread r u bo.1).most in let z = ap (λ v. v.number) at.1 in absurd (omega (arith, m, z, number, e)))
        (set_stood ts slot r new u fits b))
        (λ ao. ⊎_elim
        (λ bt. let m = (sound.each_thread s t ao.1).most in let z = ap (λ v. v.number) bt.1 in absurd (omega (arith, m, z, number, e)))
        (λ bo. sound.distinct s r t u ao.1 bo.1 e)
        (set_stood ts slot r new u fits b))
        (set_stood ts slot s new t fits a);
  }

  pub kept_main : (p : ℕ) (g : Group) → Stands gs p g → IsSoundGroup (slice_set ts slot (Some new)) p g
  kept_main p g a = let m = sound.each_group p g a in record {
    main = m.main;
    stands = set_other ts slot p (Some new) (elsewhere ts slot free p m.main m.stands) ∙ m.stands;
    number = m.number;
    member = m.member;
  }

  pub table_started : (h : Hosts) (n : ℕ) → table_of (slice_set ts slot (Some new)) hs n ≡ set_at (table_of ts gs) new.number (Some (row_at slot h.host.program new)) n
  table_started h n = same_option (table_of (slice_set ts slot (Some new)) hs n) (set_at (table_of ts gs) new.number (Some (row_at slot h.host.program new)) n)
      (λ x q. forth x (entry_of (slice_set ts slot (Some new)) hs (num + 1) n x (sound_started h) q))
      (λ x q. back x q (cases_eq n new.number))
    where
      forth : (x : ThreadRow) → Entry (slice_set ts slot (Some new)) hs n x → set_at (table_of ts gs) new.number (Some (row_at slot h.host.program new)) n ≡ Some x
      forth x e = ⊎_elim
          (λ w.
          let same = same_group (slice_set ts slot (Some new)) hs (num + 1) h.host_place e.place h.host e.group (sound_started h) h.lives e.lives (sym e.member ∙ ap (λ v. v.group) w.1 ∙ h.member) in
          ap (set_at (table_of ts gs) new.number (Some (row_at slot h.host.program new))) (sym e.number ∙ ap (λ v. v.number) w.1) ∙ set_at_same (table_of ts gs) new.number (Some (row_at slot h.host.program new))
          ∙ ap Some (ap (λ s. row_at s h.host.program new) (sym w.0) ∙ ap (λ v. row_at e.slot h.host.program v) (sym w.1) ∙ ap (λ (v : Group). row_at e.slot v.program e.thread) (sym same) ∙ e.is))
          (λ w.
          let t = sound.each_thread e.slot e.thread w.1 in
          let m = t.most in
          let z = e.number in
          let same = same_group (slice_set ts slot (Some new)) hs (num + 1) e.place t.place e.group t.group (sound_started h) e.lives (h.keeps t.place t.group t.lives) (sym t.member ∙ e.member) in
          set_at_other (table_of ts gs) new.number n (Some (row_at slot h.host.program new)) (λ q. absurd (omega (arith, m, z, q, number)))
          ∙ entry_stands ts gs num n x sound (record {
            slot = e.slot;
            thread = e.thread;
            place = t.place;
            group = t.group;
            stands = w.1;
            lives = t.lives;
            member = t.member;
            number = e.number;
            is = ap (λ (v : Group). row_at e.slot v.program e.thread) same ∙ e.is;
          }))
          (set_stood ts slot e.slot new e.thread fits e.stands)

      back : (x : ThreadRow) → set_at (table_of ts gs) new.number (Some (row_at slot h.host.program new)) n ≡ Some x → (n ≡ new.number) ⊎ (n ≡ new.number → ⊥) → table_of (slice_set ts slot (Some new)) hs n ≡ Some x
      back x q (inl e) =
          let z : Some (row_at slot h.host.program new) ≡ Some x = sym (set_at_same (table_of ts gs) new.number (Some (row_at slot h.host.program new))) ∙ ap (set_at (table_of ts gs) new.number (Some (row_at slot h.host.program new))) (sym e) ∙ q in
          entry_stands (slice_set ts slot (Some new)) hs (num + 1) n x (sound_started h) (record {
            slot = slot;
            thread = new;
            place = h.host_place;
            group = h.host;
            stands = set_same ts slot (Some new) fits;
            lives = h.lives;
            member = h.member;
            number = sym e;
            is = some_same (row_at slot h.host.program new) x z;
          })
      back x q (inr ne) =
          let e = entry_of ts gs num n x sound (sym (set_at_other (table_of ts gs) new.number n (Some (row_at slot h.host.program new)) ne) ∙ q) in
          entry_stands (slice_set ts slot (Some new)) hs (num + 1) n x (sound_started h) (record {
            slot = e.slot;
            thread = e.thread;
            place = e.place;
            group = e.group;
            stands = set_other ts slot e.slot (Some new) (elsewhere ts slot free e.slot e.thread e.stands) ∙ e.stands;
            lives = h.keeps e.place e.group e.lives;
            member = e.member;
            number = e.number;
            is = e.is;
          })

-- ---- boot

pub nothing_more : {A : Type 0} (n p : ℕ) (x : A) → Stands (replicate {A = Option A} n None) p x → ⊥
nothing_more zero p x h = none_some (Some x) h
nothing_more (suc n) zero x h = none_some x (some_same None (Some x) h)
nothing_more (suc n) (suc p) x h = nothing_more n p x h

pub first_alone : {A : Type 0} (x y : A) (n p : ℕ) → Stands (with_places (Some x ∷ []) n) p y → (p ≡ 0) × (y ≡ x)
first_alone x y n zero h = (refl, sym (some_same x y (some_same (Some x) (Some y) h)))
first_alone x y n (suc p) h = absurd (nothing_more n p y h)

pub boot_is_sound : BootIsSound
unfolding booted
boot_is_sound limits others input late = record {
  few = omega arith;
  slots = ap suc (length_places others);
  each_thread = λ s t a. subst (IsSoundThread (with_places (Some (shell limits) ∷ []) others) 1) (sym (first_alone shell_thread t others s a).1) (record {
    least = omega arith;
    most = omega arith;
    place = 0;
    group = shell limits;
    lives = refl;
    member = refl;
    agrees = tt;
  });
  each_group = λ p g a. let f = first_alone (shell limits) g others p a in record {
    main = shell_thread;
    stands = ap (slice_get (with_places (Some shell_thread ∷ []) others)) f.0;
    number = ap (λ h. h.number) (sym f.1);
    member = ap (λ h. h.number) (sym f.1);
  };
  distinct = λ s r t u a b e. (first_alone shell_thread t others s a).0 ∙ sym (first_alone shell_thread u others r b).0;
}
  where
    length_places : (n : ℕ) → length (replicate {A = Option Group} n None) ≡ length (replicate {A = Option Thread} n None)
    length_places zero = refl
    length_places (suc n) = ap suc (length_places n)
