-- A proxy's words move the arguments, set the number and make the call.
use Rattle.std.proofs.Common.{◌≡◌, ℕ, zero, suc, ◌+◌, ◌*◌, ◌%◌, ◌^◌, ◌<◌, ◌≤◌, ◌⊎◌, inl, inr, ◌≢◌, List, [], ◌∷◌, ◌++◌, length, map, refl, sym, ap, ◌∙◌, subst, arith, ⊎_elim}
use Rattle.std.specs.Prelude.{pos}
use Rattle.std.proofs.lemmas.Bool.{cases_eq}
use Rattle.std.proofs.lemmas.Bool.Decides.{nat_tests}
use Rattle.nx_base.specs.declared.regs.Regs.{Regs}
use Rattle.nx_base.specs.Registers.{reg}
use Rattle.nx_base.specs.Views.{View}
use Rattle.nx_rv.specs.declared.inst.Inst.{Inst}
use Rattle.nx_rv.specs.declared.inst.Inst.TheVariants.{Jalr, Ecall}
use Rattle.nx_rv.specs.Table.{encode_of, IsInRange}
use Rattle.nx_rv.specs.Execution.{advance, plus}
use Rattle.nx_rv.proofs.Turns.{AreHere, here_front, here_back, IsAt, put, temps_after, temps_in, AreStraight, straight, advanced, reaches_call, plus_none, plus_from_zero}
use Rattle.nx_gate.specs.Proxies.{addi, moves, proxy_of, Stand, Calls}

-- all of these instructions have their fields in range
abbrev pub AllInRange : List Inst → Type 0
AllInRange [] = Unit {0}
AllInRange (i ∷ is) = IsInRange i × AllInRange is

pub stand_here : (v : View) (at : ℕ) (is : List Inst) → AllInRange is → Stand v at (map encode_of is) → AreHere v at is
stand_here v at [] a s = tt
stand_here v at (i ∷ is) a s = (record { word = s.0; in_range = a.0 }, stand_here v (at + 4) is a.1 s.1)

addi_in_range : (rd rs1 n : ℕ) → rd < 32 → rs1 < 32 → n < 2048 → IsInRange (addi rd rs1 n)
addi_in_range rd rs1 n a b c = (a, b, c)

-- the moves, the number and the call
abbrev pub before_call : ℕ → ℕ → List Inst
before_call number k = moves k ++ addi 10 0 number ∷ []

in_range_moves : (k : ℕ) (is : List Inst) → k ≤ 6 → AllInRange is → AllInRange (moves k ++ is)
in_range_moves zero is h a = a
in_range_moves (suc k) is h a = (addi_in_range (11 + k) (10 + k) 0 (omega arith) (omega arith) (omega arith), in_range_moves k is (omega arith) a)

pub proxy_in_range : (number k : ℕ) → number < 2048 → k ≤ 6 → AllInRange (proxy_of number k)
unfolding proxy_of
proxy_in_range number k n h =
    in_range_moves k (addi 10 0 number ∷ Ecall ∷ Jalr 0 1 (pos 0) ∷ []) h (addi_in_range 10 0 number (omega arith) (omega arith) n, (tt, ((omega arith, omega arith, omega arith), tt)))

-- straight code, one part after another
temps_append : (a b : List Inst) (t : ℕ → ℕ) → temps_in (a ++ b) t ≡ temps_in b (temps_in a t)
temps_append [] b t = refl
temps_append (i ∷ a) b t = temps_append a b (temps_after i t)

straight_append : (a b : List Inst) → AreStraight a → AreStraight b → AreStraight (a ++ b)
straight_append [] b p q = q
straight_append (i ∷ a) b p q = (p.0, straight_append a b p.1 q)

straight_moves : (k : ℕ) → AreStraight (moves k)
straight_moves zero = tt
straight_moves (suc k) = (grind (arith, nat_tests), straight_moves k)

length_moves : (k : ℕ) → length (moves k) ≡ k
length_moves zero = refl
length_moves (suc k) = omega (arith, length_moves k)

length_append : (a b : List Inst) → length (a ++ b) ≡ length a + length b
length_append [] b = omega arith
length_append (i ∷ a) b = omega (arith, length_append a b)

append_one : (a : List Inst) (i : Inst) (b : List Inst) → a ++ i ∷ b ≡ (a ++ i ∷ []) ++ b
append_one [] i b = refl
append_one (j ∷ a) i b = ap (λ l. j ∷ l) (append_one a i b)

-- a write, as functions of registers see it
put_there : (t : ℕ → ℕ) (k n j : ℕ) → j ≡ k → put t k n j ≡ n
put_there t k n j e = grind (arith, nat_tests)

put_elsewhere : (t : ℕ → ℕ) (k n j : ℕ) → j ≢ k → put t k n j ≡ t j
put_elsewhere t k n j o = grind (arith, nat_tests)

-- the first move, and the rest
abbrev moved_first : ℕ → (ℕ → ℕ) → ℕ → ℕ
moved_first k t = put t (11 + k) (plus (t (10 + k)) (pos 0))

-- what no move writes stays
pub kept : (k : ℕ) (t : ℕ → ℕ) (j : ℕ) → (11 ≤ j → 10 + k < j) → temps_in (moves k) t j ≡ t j
kept zero t j o = refl
kept (suc k) t j o =
    kept k (moved_first k t) j (λ l. let m = o l in omega (arith, m))
    ∙ put_elsewhere t (11 + k) (plus (t (10 + k)) (pos 0)) j (λ e. let m = o (omega (arith, e)) in omega (arith, e, m))

-- an argument is moved up by one register
pub moved : (k : ℕ) (t : ℕ → ℕ) (i : ℕ) → ((j : ℕ) → j ≤ 9 + k → t j < 2 ^ 32) → i < k → temps_in (moves k) t (11 + i) ≡ t (10 + i)
moved zero t i b h = absurd (omega arith)
moved (suc k) t i b h =
    let new = plus (t (10 + k)) (pos 0) in
    let elsewhere : (j : ℕ) → j ≤ 10 + k → moved_first k t j ≡ t j = λ j l. put_elsewhere t (11 + k) new j (λ e. omega (arith, e, l)) in
    let bound : (j : ℕ) → j ≤ 9 + k → moved_first k t j < 2 ^ 32 = λ j l. subst (λ n. n < 2 ^ 32) (sym (elsewhere j (omega (arith, l)))) (b j (omega (arith, l))) in
    ⊎_elim
    (λ last. kept k (moved_first k t) (11 + i) (λ l. omega (arith, last)) ∙ put_there t (11 + k) new (11 + i) (omega (arith, last))
    ∙ plus_none (t (10 + k)) (t (10 + i)) (ap (λ n. t (10 + n)) (sym last)) (b (10 + i) (omega (arith, h))))
    (λ other. moved k (moved_first k t) i bound (omega (arith, other, h)) ∙ elsewhere (10 + i) (omega (arith, h)))
    (cases_eq i k)

-- the registers at the call
abbrev at_call : ℕ → ℕ → Regs → ℕ → ℕ
at_call number k r = put (temps_in (moves k) (reg r)) 10 (plus (temps_in (moves k) (reg r) 0) (pos number))

length_before : (number k : ℕ) → length (before_call number k) ≡ k + 1
length_before number k = length_append (moves k) (addi 10 0 number ∷ []) ∙ ap (λ n. n + 1) (length_moves k)

-- the proxy begins with what stands before its call
parted : (number k : ℕ) → proxy_of number k ≡ before_call number k ++ Ecall ∷ Jalr 0 1 (pos 0) ∷ []
unfolding proxy_of
parted number k = append_one (moves k) (addi 10 0 number) (Ecall ∷ Jalr 0 1 (pos 0) ∷ [])

not_moved : (k j : ℕ) → (j < 10) ⊎ (10 + k < j) → j ≢ 10
not_moved k j (inl a) e = omega (arith, a, e)
not_moved k j (inr b) e = omega (arith, b, e)

not_argument : (k j : ℕ) → (j < 10) ⊎ (10 + k < j) → 11 ≤ j → 10 + k < j
not_argument k j (inl a) l = omega (arith, a, l)
not_argument k j (inr b) l = b

-- the words of a proxy make its call
pub proxy_calls : (number k : ℕ) (r : Regs) (v : View) → number < 2048 → k ≤ 6 → length r.x ≡ 32 → ((j : ℕ) → reg r j < 2 ^ 32) → r.pc % 4 ≡ 0 → r.pc + 4 * (k + 3) < 2 ^ 32 → Stand v r.pc (map encode_of (proxy_of number k)) → Calls number k r v
proxy_calls number k r v n h size b a fits s =
    let all : AreHere v r.pc (proxy_of number k) = stand_here v r.pc (proxy_of number k) (proxy_in_range number k n h) s in
    let here : AreHere v r.pc (before_call number k ++ Ecall ∷ Jalr 0 1 (pos 0) ∷ []) = subst (λ is. AreHere v r.pc is) (parted number k) all in
    let to = r.pc + 4 * (k + 1) in
    let long = length_before number k in
    let start : IsAt r r.pc (reg r) = record { pc_is = refl; aligned = a; size = size; holds = λ j. refl } in
    let went = straight r v r.pc to (reg r) (before_call number k) (omega (arith, long)) (omega (arith, fits)) (here_front v r.pc (before_call number k) _ here) (straight_append (moves k) (addi 10 0 number ∷ []) (straight_moves k) (refl, tt)) start in
    let call = (here_back v r.pc to (before_call number k) _ (omega (arith, long)) here).0 in
    let ends = advanced went.regs to _ (omega (arith, fits)) went.is_at in
    let holds : (j : ℕ) → reg (advance went.regs) j ≡ at_call number k r j = λ j. ends.holds j ∙ ap (λ (t : ℕ → ℕ). t j) (temps_append (moves k) (addi 10 0 number ∷ []) (reg r)) in
    record {
      regs = advance went.regs;
      reaches = reaches_call (length (before_call number k)) (k + 2) r v to _ (omega (arith, long)) went call;
      after = ends.pc_is ∙ omega arith;
      number_is = holds 10 ∙ put_there (temps_in (moves k) (reg r)) 10 _ 10 refl ∙ ap (λ m. plus m (pos number)) (kept k (reg r) 0 (λ l. omega (arith, l))) ∙ plus_from_zero r number (omega arith);
      arguments = λ i l. holds (11 + i) ∙ put_elsewhere (temps_in (moves k) (reg r)) 10 _ (11 + i) (λ e. omega (arith, e)) ∙ moved k (reg r) i (λ j m. b j) l;
      others = λ j o. holds j ∙ put_elsewhere (temps_in (moves k) (reg r)) 10 _ j (not_moved k j o) ∙ kept k (reg r) j (not_argument k j o);
    }

length_map : (is : List Inst) → length (map encode_of is) ≡ length is
length_map [] = refl
length_map (i ∷ is) = omega (arith, length_map is)

-- a proxy has three words, and one for each argument
pub length_words : (number k : ℕ) → length (map encode_of (proxy_of number k)) ≡ k + 3
unfolding proxy_of
length_words number k =
    let m = length_moves k in
    let a = length_append (moves k) (addi 10 0 number ∷ Ecall ∷ Jalr 0 1 (pos 0) ∷ []) in
    let w = length_map (moves k ++ addi 10 0 number ∷ Ecall ∷ Jalr 0 1 (pos 0) ∷ []) in
    w ∙ a ∙ ap (λ n. n + 3) m

-- the same, of words that are known to be those of a proxy
pub words_call : (number k : ℕ) (words : List ℕ) (r : Regs) (v : View) → words ≡ map encode_of (proxy_of number k) → number < 2048 → k ≤ 6 → length r.x ≡ 32 → ((j : ℕ) → reg r j < 2 ^ 32) → r.pc % 4 ≡ 0 → r.pc + 4 * length words < 2 ^ 32 → Stand v r.pc words → Calls number k r v
words_call number k words r v e n h size b a fits s =
    let long = ap length e ∙ length_words number k in
    proxy_calls number k r v n h size b a (omega (arith, fits, long)) (subst (λ ws. Stand v r.pc ws) e s)
