-- Groups that change in nothing that the table shows.
use Rattle.std.proofs.Common.{◌≡◌, ℕ, ⊎_elim, List, length, Option, Some, refl, sym, ap, ◌∙◌}
use mathlib.Core.Path.{fun_ext}
use Rattle.std.specs.Prelude.{slice_get, slice_set}
use Rattle.std.proofs.lemmas.Bool.{cases_eq}
use Rattle.nx_ksys.specs.declared.thread.Thread.{Thread}
use Rattle.nx_ksys.specs.State.{Group}
use Rattle.nx_ksys.specs.ThreadTable.{ThreadRow}
use Rattle.nx_ksys.specs.Soundness.{Stands, AreSound}
use Rattle.nx_ksys.proofs.Standing.{same_option, some_same, set_same, set_other, set_stood, within}
use Rattle.nx_ksys.proofs.Tables.{row_at, table_of, Entry, entry_of, entry_stands}

-- a group of the second list is one of the first, in the same place, with its number and program
pub record Were (gs hs : List (Option Group)) (p : ℕ) (h : Group) : Type 0 where
  pub group : Group
  pub stood : Stands gs p group
  pub number : h.number ≡ group.number
  pub program : h.program ≡ group.program

-- an entry among the second groups is one among the first
pub entry_was : (ts : List (Option Thread)) (gs hs : List (Option Group)) (n : ℕ) (x : ThreadRow) → ((p : ℕ) (h : Group) → Stands hs p h → Were gs hs p h) → Entry ts hs n x → Entry ts gs n x
entry_was ts gs hs n x were e = let g = were e.place e.group e.lives in record {
  slot = e.slot;
  thread = e.thread;
  place = e.place;
  group = g.group;
  stands = e.stands;
  lives = g.stood;
  member = e.member ∙ g.number;
  number = e.number;
  is = ap (λ p. row_at e.slot p e.thread) (sym g.program) ∙ e.is;
}

module _ (ts : List (Option Thread)) (gs hs : List (Option Group)) (num : ℕ) (sound : AreSound ts gs num) (size : length hs ≡ length gs) (were : (p : ℕ) (h : Group) → Stands hs p h → Were gs hs p h) (are : (p : ℕ) (g : Group) → Stands gs p g → Were hs gs p g) where
  pub sound_regrouped : AreSound ts hs num
  sound_regrouped = record {
    few = sound.few;
    slots = size ∙ sound.slots;
    each_thread = λ s t a. let o = sound.each_thread s t a in let g = are o.place o.group o.lives in record {
      least = o.least;
      most = o.most;
      place = o.place;
      group = g.group;
      lives = g.stood;
      member = o.member ∙ g.number;
      agrees = o.agrees;
    };
    each_group = λ p h a. let g = were p h a in let m = sound.each_group p g.group g.stood in record {
      main = m.main;
      stands = m.stands;
      number = m.number ∙ sym g.number;
      member = m.member ∙ sym g.number;
    };
    distinct = sound.distinct;
  }

  pub table_regrouped : table_of ts hs ≡ table_of ts gs
  table_regrouped = fun_ext (λ n. same_option (table_of ts hs n) (table_of ts gs n)
      (λ x q. entry_stands ts gs num n x sound (entry_was ts gs hs n x were (entry_of ts hs num n x sound_regrouped q)))
      (λ x q. entry_stands ts hs num n x sound_regrouped (entry_was ts hs gs n x are (entry_of ts gs num n x sound q))))

-- one group is renewed
module _ (gs : List (Option Group)) (p : ℕ) (g h : Group) (lives : Stands gs p g) (number : h.number ≡ g.number) (program : h.program ≡ g.program) where
  pub renewed_were : (q : ℕ) (i : Group) → Stands (slice_set gs p (Some h)) q i → Were gs (slice_set gs p (Some h)) q i
  renewed_were q i a = ⊎_elim
      (λ e. record { group = g; stood = ap (slice_get gs) e.0 ∙ lives; number = ap (λ v. v.number) e.1 ∙ number; program = ap (λ v. v.program) e.1 ∙ program })
      (λ e. record { group = i; stood = e.1; number = refl; program = refl })
      (set_stood gs p q h i (within gs p (Some g) lives) a)

  pub renewed_are : (q : ℕ) (i : Group) → Stands gs q i → Were (slice_set gs p (Some h)) gs q i
  renewed_are q i a = ⊎_elim
      (λ e.
      let z : Some (Some i) ≡ Some (Some g) = sym a ∙ ap (slice_get gs) e ∙ lives in
      let same = some_same i g (some_same (Some i) (Some g) z) in
      record {
        group = h;
        stood = ap (slice_get (slice_set gs p (Some h))) e ∙ set_same gs p (Some h) (within gs p (Some g) lives);
        number = ap (λ v. v.number) same ∙ sym number;
        program = ap (λ v. v.program) same ∙ sym program;
      })
      (λ ne. record { group = i; stood = set_other gs p q (Some h) ne ∙ a; number = refl; program = refl })
      (cases_eq q p)
