-- An array's words become zeros, by a loop.
use Rattle.std.proofs.Common.{◌≡◌, ℕ, zero, suc, ◌+◌, ◌-◌, ◌*◌, ◌/◌, ◌%◌, ◌^◌, ◌<◌, ◌≤◌, ◌⊎◌, inl, inr, Bool, true, false, List, [], ◌∷◌, ◌++◌, length, refl, ap, ◌∙◌, subst, arith, ⊎_elim, length-append}
use Rattle.std.specs.Prelude.{pos, negsuc, ◌==◌, nat_lt, if◌then◌else◌}
use Rattle.std.proofs.lemmas.Bool.{cases_eq, cases_lt}
use Rattle.std.proofs.lemmas.Bool.Decides.{nat_tests}
use Rattle.nx_base.specs.declared.regs.Regs.{Regs}
use Rattle.nx_base.specs.declared.operations.AluOp.TheVariants as alu
use Rattle.nx_base.specs.declared.operations.Cond.TheVariants as cond
use Rattle.nx_base.specs.Arithmetic.{taken_of}
use Rattle.nx_base.specs.ByteLists.{to_le}
use Rattle.nx_base.specs.Views.{View}
use Rattle.nx_rv.specs.declared.inst.Inst.{Inst}
use Rattle.nx_rv.specs.declared.inst.Inst.TheVariants.{Lui, Branch, Store, Op}
use Rattle.nx_rv.specs.Execution.{plus}
use Rattle.nx_codegen.specs.Addresses.{upper, lower}
use Rattle.nx_codegen.specs.Frames.{rounded, array_at}
use Rattle.nx_codegen.specs.Moves.{addi, number_code, above_code}
use Rattle.nx_codegen.specs.Calling.{clear_loop, clear_code}
use Rattle.nx_shown.specs.Bytes.{Bytes, put, with_bytes, with_number}
use Rattle.nx_shown.specs.Places.{Place, IsPlace}
use Rattle.nx_shown.specs.Leading.{At, Next, IsWritten}
use Rattle.nx_shown.proofs.Stores.{put_same, put_other, other_byte}
use Rattle.nx_shown.proofs.Steps.{on, instructions}
use Rattle.nx_pieces.specs.Parts.{IsCode}
use Rattle.nx_pieces.proofs.Parts.{first, rest, below, front, back, plus_up, add_next, number_sets, sum_next, above_sets}
use Rattle.nx_pieces.proofs.Cells.{frame_fits}
use Rattle.nx_operations.proofs.Operations.{keeps_then, keeps_others, five, six}
use Rattle.nx_clearing.specs.Laws.{Cleared, ArraysAreCleared}

less_yes : (x y : ℕ) → x < y → taken_of cond.Ltu x y ≡ true
unfolding taken_of
less_yes x y h = grind (arith, nat_tests)

less_not : (x y : ℕ) → y ≤ x → taken_of cond.Ltu x y ≡ false
unfolding taken_of
less_not x y h = grind (arith, nat_tests)

plus_down : (n k : ℕ) → 1 ≤ k → k ≤ n → n < 2 ^ 32 → plus n (negsuc (k - 1)) ≡ n - k
unfolding plus
plus_down n k a b c = omega arith

five_written : IsWritten 5
five_written = (refl, omega arith)

six_written : IsWritten 6
six_written = (refl, omega arith)

-- Four zero bytes.
zero_put : (b : Bytes) (k c : ℕ) → (b c ≡ 0) ⊎ (c ≡ k) → put b k 0 c ≡ 0
zero_put b k c (inl h) = ⊎_elim (λ q. put_same b k 0 c q) (λ q. put_other b k 0 c q ∙ h) (cases_eq c k)
zero_put b k c (inr q) = put_same b k 0 c q

four_zeros : (b : Bytes) (p c : ℕ) → p ≤ c → c < p + 4 → with_number b p 4 0 c ≡ 0
unfolding with_number with_bytes to_le
four_zeros b p c h k =
    let b1 = put b p 0 in let b2 = put b1 (p + 1) 0 in let b3 = put b2 (p + 1 + 1) 0 in
    ⊎_elim
    (λ l. ⊎_elim
    (λ m. ⊎_elim
    (λ n. zero_put b3 (p + 1 + 1 + 1) c (inl (zero_put b2 (p + 1 + 1) c (inl (zero_put b1 (p + 1) c (inl (zero_put b p c (inr (omega (arith, n, h))))))))))
    (λ n. zero_put b3 (p + 1 + 1 + 1) c (inl (zero_put b2 (p + 1 + 1) c (inl (zero_put b1 (p + 1) c (inr (omega (arith, n, m))))))))
    (cases_lt c (p + 1)))
    (λ m. zero_put b3 (p + 1 + 1 + 1) c (inl (zero_put b2 (p + 1 + 1) c (inr (omega (arith, l, m))))))
    (cases_lt c (p + 1 + 1)))
    (λ l. zero_put b3 (p + 1 + 1 + 1) c (inr (omega (arith, l, k))))
    (cases_lt c (p + 1 + 1 + 1))

loop_two : (e : Place) (r : Regs) (v : View) (pc p : ℕ) (t : ℕ → ℕ) (b : Bytes) → IsPlace e → e.low ≤ p → p + 4 ≤ e.top → p % 4 ≡ 0 → t 5 ≡ p → IsCode e pc clear_loop → At e r v pc t b → Next e 2 r v (pc + 4 + 4) (put t 5 (p + 4)) (with_number b p 4 0)
loop_two e r v pc p t b pl low top al is5 s a =
    let i1 = Store 4 5 0 (pos 0) in let i2 = addi 5 5 (pos 4) in let i3 = Branch cond.Ltu 5 6 (negsuc 7) in
    let fit = pl.fits in
    let a1 = (instructions e r v pc t b pl a).store 4 5 0 p 0 (pos 0) (first e pc i1 (i2 ∷ i3 ∷ []) s).0 (below e pc i1 (i2 ∷ i3 ∷ []) s) (ap (λ x. plus x (pos 0)) is5 ∙ plus_up p 0 (omega (arith, fit, top)) ∙ omega arith) al (omega arith) (inl (low, top)) a.zero in
    let b1 = with_number b p 4 0 in
    let s2 = rest e pc i1 (i2 ∷ i3 ∷ []) s in
    let a2 = add_next e a1.regs a1.view (pc + 4) t b1 5 5 (p + 4) (pos 4) pl (first e (pc + 4) i2 (i3 ∷ []) s2) five_written (ap (λ x. plus x (pos 4)) is5 ∙ plus_up p 4 (omega (arith, fit, top))) a1.at in
    on e 1 1 r v (pc + 4) (pc + 4 + 4) t (put t 5 (p + 4)) b1 b1 a1 a2

loop_end : (e : Place) (pc : ℕ) → IsCode e pc clear_loop → IsCode e (pc + 4 + 4) (Branch cond.Ltu 5 6 (negsuc 7) ∷ [])
loop_end e pc s = rest e (pc + 4) (addi 5 5 (pos 4)) (Branch cond.Ltu 5 6 (negsuc 7) ∷ []) (rest e pc (Store 4 5 0 (pos 0)) (addi 5 5 (pos 4) ∷ Branch cond.Ltu 5 6 (negsuc 7) ∷ []) s)

looped : (e : Place) (n : ℕ) (r : Regs) (v : View) (pc p : ℕ) (t : ℕ → ℕ) (b : Bytes) → IsPlace e → e.low ≤ p → p + 4 * suc n ≤ e.top → p % 4 ≡ 0 → t 5 ≡ p → t 6 ≡ p + 4 * suc n → IsCode e pc clear_loop → At e r v pc t b → Cleared e p (suc n) (3 * suc n) r v (pc + 12) t b
looped e zero r v pc p t b pl low top al is5 is6 s a =
    let b1 = with_number b p 4 0 in let t1 = put t 5 (p + 4) in
    let two = loop_two e r v pc p t b pl low (omega (arith, top)) al is5 s a in
    let s3 = loop_end e pc s in
    let a3 = (instructions e two.regs two.view (pc + 4 + 4) t1 b1 pl two.at).passed cond.Ltu 5 6 (p + 4) (p + 4) (negsuc 7) s3.0 (below e (pc + 4 + 4) (Branch cond.Ltu 5 6 (negsuc 7)) [] s3) (put_same t 5 (p + 4) 5 refl) (put_other t 5 (p + 4) 6 (λ q. omega (arith, q)) ∙ is6 ∙ omega arith) (less_not (p + 4) (p + 4) (omega arith)) in
    let w : pc + 4 + 4 + 4 ≡ pc + 12 = omega arith in
    record {
      new = t1;
      bytes = b1;
      count = 3;
      next = subst (λ x. Next e 3 r v x t1 b1) w (on e 2 1 r v (pc + 4 + 4) (pc + 4 + 4 + 4) t1 t1 b1 b1 two a3);
      few = omega arith;
      some = omega arith;
      keeps = keeps_others t t1 5 five (λ j o. put_other t 5 (p + 4) j o);
      zeros = λ c h k. four_zeros b p c h (omega (arith, k));
      rest = λ c h. other_byte b p 4 0 c (⊎_elim (λ x. inl x) (λ x. inr (omega (arith, x))) h);
    }
looped e (suc m) r v pc p t b pl low top al is5 is6 s a =
    let b1 = with_number b p 4 0 in let t1 = put t 5 (p + 4) in
    let f = s.1 in let pa = a.aligned in
    let two = loop_two e r v pc p t b pl low (omega (arith, top)) al is5 s a in
    let s3 = loop_end e pc s in
    let t16 : t1 6 ≡ p + 4 * suc (suc m) = put_other t 5 (p + 4) 6 (λ q. omega (arith, q)) ∙ is6 in
    let a3 = (instructions e two.regs two.view (pc + 4 + 4) t1 b1 pl two.at).taken cond.Ltu 5 6 (p + 4) (p + 4 * suc (suc m)) pc (negsuc 7) s3.0 (plus_down (pc + 4 + 4) 8 (omega arith) (omega arith) (omega (arith, f)) ∙ omega arith) pa (put_same t 5 (p + 4) 5 refl) t16 (less_yes (p + 4) (p + 4 * suc (suc m)) (omega arith)) in
    let more = looped e m a3.regs a3.view pc (p + 4) t1 b1 pl (omega (arith, low)) (omega (arith, top)) (omega (arith, al)) (put_same t 5 (p + 4) 5 refl) (t16 ∙ omega arith) s a3.at in
    let few = more.few in
    let n1 = on e 1 more.count two.regs two.view pc (pc + 12) t1 more.new b1 more.bytes a3 more.next in
    record {
      new = more.new;
      bytes = more.bytes;
      count = 2 + (1 + more.count);
      next = on e 2 (1 + more.count) r v (pc + 4 + 4) (pc + 12) t1 more.new b1 more.bytes two n1;
      few = omega (arith, few);
      some = omega arith;
      keeps = keeps_then t t1 more.new (keeps_others t t1 5 five (λ j o. put_other t 5 (p + 4) j o)) more.keeps;
      zeros = λ c h k. ⊎_elim
          (λ x. more.rest c (inl x) ∙ four_zeros b p c h x)
          (λ x. more.zeros c x (omega (arith, k)))
          (cases_lt c (p + 4));
      rest = λ c h. more.rest c (⊎_elim (λ x. inl (omega (arith, x))) (λ x. inr (omega (arith, x))) h) ∙ other_byte b p 4 0 c (⊎_elim (λ x. inl x) (λ x. inr (omega (arith, x))) h);
    }

record Words (n : ℕ) : Type 0 where
  more : ℕ
  bytes : rounded n ≡ 4 * suc more
  count : suc more ≡ (n + 3) / 4

words_of : (n : ℕ) → 1 ≤ n → Words n
unfolding rounded
words_of n h = record { more = (n + 3) / 4 - 1; bytes = omega arith; count = omega arith }

above_few : (rd n : ℕ) → length (above_code rd n) ≤ 3
unfolding above_code number_code
above_few rd n = by_two (nat_lt n 2048)
  where
    by_one : (q : Bool) (c d : List Inst) → length c ≤ 1 → length d ≤ 2 → length ((if q then c else d) ++ Op alu.Add rd rd 2 ∷ []) ≤ 3
    by_one true c d h k = let l = length-append c (Op alu.Add rd rd 2 ∷ []) in omega (arith, l)
    by_one false c d h k = let l = length-append d (Op alu.Add rd rd 2 ∷ []) in omega (arith, l)

    by_two : (q : Bool) → length (if q then addi rd 2 (pos n) ∷ [] else number_code rd n ++ Op alu.Add rd rd 2 ∷ []) ≤ 3
    by_two true = omega arith
    by_two false = by_one (upper n == 0) (addi rd 0 (lower n) ∷ []) (Lui rd (upper n) ∷ addi rd rd (lower n) ∷ []) (omega arith) (omega arith)

number_few : (rd n : ℕ) → length (number_code rd n) ≤ 2
unfolding number_code
number_few rd n = by_one (upper n == 0) (addi rd 0 (lower n) ∷ []) (Lui rd (upper n) ∷ addi rd rd (lower n) ∷ []) (omega arith) (omega arith)
  where
    by_one : (q : Bool) (c d : List Inst) → length c ≤ 2 → length d ≤ 2 → length (if q then c else d) ≤ 2
    by_one true c d h k = h
    by_one false c d h k = k

pub cleared : ArraysAreCleared
unfolding clear_code
cleared e g sp k x r v pc t b o one h al two s a =
    let c1 = above_code 5 (array_at g k) in let c2 = number_code 6 (rounded x.bytes) in let i = Op alu.Add 6 6 5 in
    let behind = c2 ++ (i ∷ clear_loop) in
    let l1 = length-append c1 behind in let l2 = length-append c2 (i ∷ clear_loop) in
    let m = words_of x.bytes one in
    let m1 = m.bytes in let m2 = m.count in
    let fit = frame_fits e g sp o in let top = o.top in let spa = o.aligned in let low = o.low in
    let p = sp + array_at g k in
    let n1 = above_sets e r v pc 5 (array_at g k) t b o.place (omega (arith, fit, h, two)) five_written (λ q. omega (arith, q)) (front e pc c1 behind s) a in
    let at1 = pc + 4 * length c1 in
    let s1 = back e pc c1 behind s in
    let n2 = number_sets e n1.next.regs n1.next.view at1 6 (rounded x.bytes) n1.new b o.place (omega (arith, fit, h)) six_written (front e at1 c2 (i ∷ clear_loop) s1) n1.next.at in
    let at2 = at1 + 4 * length c2 in
    let s2 = back e at1 c2 (i ∷ clear_loop) s1 in
    let u = n2.new in
    let five_is : u 5 ≡ p = n2.others 5 (λ q. omega (arith, q)) ∙ n1.is ∙ ap (λ y. y + array_at g k) two in
    let end = p + rounded x.bytes in
    let n3 = sum_next e n2.next.regs n2.next.view at2 u b 6 6 5 end o.place (first e at2 i clear_loop s2) six_written (let w = n2.is in omega (arith, w, five_is, fit, h)) n2.next.at in
    let w = put u 6 end in
    let s3 = rest e at2 i clear_loop s2 in
    let lp = looped e m.more n3.regs n3.view (at2 + 4) p w b o.place (omega (arith, low)) (omega (arith, top, h, m1)) (omega (arith, spa, al)) (put_other u 6 end 5 (λ q. omega (arith, q)) ∙ five_is) (put_same u 6 end 6 refl ∙ omega (arith, m1)) s3 n3.at in
    let few = lp.few in let f1 = above_few 5 (array_at g k) in let f2 = number_few 6 (rounded x.bytes) in
    let q1 = keeps_others t n1.new 5 five n1.others in let q2 = keeps_others n1.new u 6 six n2.others in let q3 = keeps_others u w 6 six (λ j o. put_other u 6 end j o) in
    let end_at = at2 + 4 + 12 in
    let x3 = on e 1 lp.count n2.next.regs n2.next.view (at2 + 4) end_at w lp.new b lp.bytes n3 lp.next in
    let x2 = on e (length c2) (1 + lp.count) n1.next.regs n1.next.view at2 end_at u lp.new b lp.bytes n2.next x3 in
    let x1 = on e (length c1) (length c2 + (1 + lp.count)) r v at1 end_at n1.new lp.new b lp.bytes n1.next x2 in
    let e1 : end_at ≡ pc + 4 * length (c1 ++ behind) = omega (arith, l1, l2) in
    record {
      new = lp.new;
      bytes = lp.bytes;
      count = length c1 + (length c2 + (1 + lp.count));
      next = subst (λ y. Next e (length c1 + (length c2 + (1 + lp.count))) r v y lp.new lp.bytes) e1 x1;
      few = omega (arith, few, f1, f2, m2);
      some = omega arith;
      keeps = keeps_then t n1.new lp.new q1 (keeps_then n1.new u lp.new q2 (keeps_then u w lp.new q3 lp.keeps));
      zeros = λ c y z. lp.zeros c y (omega (arith, z, m2));
      rest = λ c y. lp.rest c (⊎_elim (λ z. inl z) (λ z. inr (omega (arith, z, m2))) y);
    }
