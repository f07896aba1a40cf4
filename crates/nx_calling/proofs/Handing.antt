-- Arguments, calls and proxies.
use Rattle.std.proofs.Common.{◌≡◌, ℕ, zero, suc, ◌+◌, ◌*◌, ◌<◌, ◌≤◌, ◌⊎◌, inl, inr, [], ◌∷◌, length, refl, sym, ap, ◌∙◌, subst, arith, ⊎_elim}
use Rattle.std.specs.Prelude.{pos}
use Rattle.std.proofs.lemmas.Bool.{cases_lt}
use Rattle.std.proofs.lemmas.Bool.Decides.{nat_tests}
use Rattle.nx_base.specs.declared.regs.Regs.{Regs}
use Rattle.nx_base.specs.Views.{View}
use Rattle.nx_rv.specs.declared.inst.Inst.TheVariants.{Lui, Jalr, Ecall}
use Rattle.nx_rv.specs.Execution.{plus}
use Rattle.nx_codegen.specs.Addresses.{upper, lower}
use Rattle.nx_codegen.specs.Moves.{addi, into_code}
use Rattle.nx_codegen.specs.Calling.{arguments_code, call_code, moves_code, proxy_code}
use Rattle.nx_shown.specs.Bytes.{Bytes, put}
use Rattle.nx_shown.specs.Places.{Place, IsPlace}
use Rattle.nx_shown.specs.Leading.{At, Reaches, IsWritten}
use Rattle.nx_shown.proofs.Stores.{put_same, put_other}
use Rattle.nx_shown.proofs.Steps.{on, instructions}
use Rattle.nx_pieces.specs.Parts.{IsCode, Ran}
use Rattle.nx_pieces.specs.Cells.{cell_word, Keeps}
use Rattle.nx_pieces.proofs.Parts.{first, rest, below, front, back, ran_none, ran_append, ran_cons, plus_up, parts_make, add_next, copy_next, lui_next}
use Rattle.nx_pieces.proofs.Writes.{into_sets}
use Rattle.nx_operations.proofs.Operations.{same_cell}
use Rattle.nx_entries.proofs.Entries.{reach}
use Rattle.nx_calling.specs.Laws.{ArgumentsCome, CallsLead, ProxiesCall}

written : (n : ℕ) → 1 ≤ n → n < 32 → IsWritten n
written n l h = (grind (arith, nat_tests), h)

keeps_low : (t u : ℕ → ℕ) (k : ℕ) → k ≤ 8 → ((j : ℕ) → (j < 10) ⊎ (10 + k ≤ j) → u j ≡ t j) → Keeps t u
keeps_low t u k h o = record { fixed = λ j a b. o j (inl (omega arith)); temporaries = λ j a. o j (inr (omega arith)) }

pub come : ArgumentsCome
unfolding arguments_code
come e g sp i zero r v pc t b o l m two s a = record {
  new = t;
  next = ran_none e r v pc t b a;
  arguments = λ j h. absurd (omega (arith, h));
  others = λ j h. refl;
}
come e g sp i (suc k) r v pc t b o l m two s a =
    let y = arguments_code g i k in let x = into_code g (10 + k) (i + k) in
    let more = come e g sp i k r v pc t b o (omega arith) (omega arith) two (front e pc y x s) a in
    let q = keeps_low t more.new k (omega arith) more.others in
    let one = into_sets e g sp more.next.regs more.next.view (pc + 4 * length y) (10 + k) (i + k) more.new b o (written (10 + k) (omega arith) (omega arith)) (λ q. omega (arith, q)) (omega arith) (more.others 2 (inl (omega arith)) ∙ two) (back e pc y x s) more.next.at in
    record {
      new = one.new;
      next = ran_append e y x r v pc more.new one.new b b more.next one.next;
      arguments = λ j h. ⊎_elim
          (λ p. one.others (10 + j) (λ w. omega (arith, w, p)) ∙ more.arguments j p)
          (λ p. let w : j ≡ k = omega (arith, h, p) in subst (λ n. one.new (10 + n) ≡ cell_word g sp t b (i + n)) (sym w) (one.is ∙ same_cell g sp t more.new b (i + k) q))
          (cases_lt j k);
      others = λ j h. one.others j (λ p. ⊎_elim (λ w. omega (arith, w, p)) (λ w. omega (arith, w, p)) h) ∙ more.others j (⊎_elim (λ p. inl p) (λ p. inr (omega arith)) h);
    }

pub calls : CallsLead
unfolding call_code
calls e r v pc to t b p h al s a =
    let i = Lui 1 (upper to) in let j = Jalr 1 1 (lower to) in
    let t1 = put t 1 (upper to) in
    let s2 = rest e pc i (j ∷ []) s in
    let one = lui_next e r v pc t b 1 (upper to) p (first e pc i (j ∷ []) s) (refl, omega arith) a in
    let two = (instructions e one.regs one.view (pc + 4) t1 b p one.at).linked 1 1 to (lower to) s2.0 (below e (pc + 4) j [] s2) (refl, omega arith) (ap (λ n. plus n (lower to)) (put_same t 1 (upper to) 1 refl) ∙ parts_make to h) al in
    record {
      new = put t1 1 (pc + 4 + 4);
      next = on e 1 1 r v (pc + 4) to t1 (put t1 1 (pc + 4 + 4)) b b one two;
      back = put_same t1 1 (pc + 4 + 4) 1 refl ∙ omega arith;
      others = λ k o. put_other t1 1 (pc + 4 + 4) k o ∙ put_other t 1 (upper to) k o;
    }

-- A proxy moves its words up by a register.
record Moved (e : Place) (r : Regs) (v : View) (pc k : ℕ) (t : ℕ → ℕ) (b : Bytes) : Type 0 where
  new : ℕ → ℕ
  next : Ran e (moves_code k) r v pc new b
  up : (j : ℕ) → j < k → new (11 + j) ≡ t (10 + j)
  others : (j : ℕ) → (j < 11) ⊎ (10 + k < j) → new j ≡ t j

moved_up : (e : Place) (k : ℕ) (r : Regs) (v : View) (pc : ℕ) (t : ℕ → ℕ) (b : Bytes) → IsPlace e → k ≤ 6 → IsCode e pc (moves_code k) → At e r v pc t b → Moved e r v pc k t b
unfolding moves_code
moved_up e zero r v pc t b p h s a = record { new = t; next = ran_none e r v pc t b a; up = λ j l. absurd (omega (arith, l)); others = λ j l. refl }
moved_up e (suc k) r v pc t b p h s a =
    let i = addi (11 + k) (10 + k) (pos 0) in
    let t1 = put t (11 + k) (t (10 + k)) in
    let one = copy_next e r v pc t b (11 + k) (10 + k) p (first e pc i (moves_code k) s) (written (11 + k) (omega arith) (omega arith)) a in
    let m = moved_up e k one.regs one.view (pc + 4) t1 b p (omega arith) (rest e pc i (moves_code k) s) one.at in
    record {
      new = m.new;
      next = ran_cons e i (moves_code k) r v pc t1 m.new b b one m.next;
      up = λ j l. ⊎_elim
          (λ p. m.up j p ∙ put_other t (11 + k) (t (10 + k)) (10 + j) (λ q. omega (arith, q, p)))
          (λ p. let q : j ≡ k = omega (arith, l, p) in m.others (11 + j) (inr (omega (arith, p))) ∙ put_same t (11 + k) (t (10 + k)) (11 + j) (omega (arith, q)) ∙ ap (λ n. t (10 + n)) (sym q))
          (cases_lt j k);
      others = λ j l. m.others j (⊎_elim (λ p. inl p) (λ p. inr (omega arith)) l) ∙ put_other t (11 + k) (t (10 + k)) j (λ q. ⊎_elim (λ p. omega (arith, p, q)) (λ p. omega (arith, p, q)) l);
    }

length_moves : (k : ℕ) → length (moves_code k) ≡ k
unfolding moves_code
length_moves zero = refl
length_moves (suc k) = omega (arith, length_moves k)

pub proxies : ProxiesCall
unfolding proxy_code
proxies e r v pc number k t b p h l s a =
    let i = addi 10 0 (pos number) in let j = Jalr 0 1 (pos 0) in
    let behind = i ∷ Ecall ∷ j ∷ [] in
    let len = length_moves k in
    let m = moved_up e k r v pc t b p l (front e pc (moves_code k) behind s) a in
    let at = pc + 4 * length (moves_code k) in
    let s2 = back e pc (moves_code k) behind s in
    let s3 = rest e at i (Ecall ∷ j ∷ []) s2 in
    let u = put m.new 10 number in
    let one = add_next e m.next.regs m.next.view at m.new b 10 0 number (pos number) p (first e at i (Ecall ∷ j ∷ []) s2) (written 10 (omega arith) (omega arith)) (ap (λ n. plus n (pos number)) m.next.at.zero ∙ plus_up 0 number (omega arith) ∙ omega arith) m.next.at in
    let two = (instructions e one.regs one.view (at + 4) u b p one.at).call (first e (at + 4) Ecall (j ∷ []) s3).0 (below e (at + 4) Ecall (j ∷ []) s3) in
    let c1 = reach e 1 1 m.next.regs m.next.view (at + 4) (at + 4 + 4) u u b b one two in
    let c2 = reach e (length (moves_code k)) (1 + 1) r v at (at + 4 + 4) m.new u b b m.next c1 in
    let q : at + 4 + 4 ≡ pc + 4 * (k + 2) = omega (arith, len) in
    let n : length (moves_code k) + (1 + 1) ≡ k + 2 = omega (arith, len) in
    record {
      new = u;
      reaches = subst (λ z. Reaches e (k + 2) r v z u b) q (subst (λ z. Reaches e z r v (at + 4 + 4) u b) n c2);
      number_is = put_same m.new 10 number 10 refl;
      words = λ j p. put_other m.new 10 number (11 + j) (λ w. omega (arith, w)) ∙ m.up j p;
      others = λ j p. put_other m.new 10 number j (λ w. ⊎_elim (λ x. omega (arith, x, w)) (λ x. omega (arith, x, w)) p) ∙ m.others j (⊎_elim (λ x. inl (omega arith)) (λ x. inr x) p);
    }
