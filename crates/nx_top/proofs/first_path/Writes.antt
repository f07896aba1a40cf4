-- The main function's code, from write to write and to the end. nx_codegen will take its place.
use Rattle.std.proofs.Common.{◌≡◌, ℕ, ◌+◌, ◌*◌, ◌%◌, ◌^◌, ◌<◌, ◌≤◌, List, [], ◌∷◌, ◌++◌, length, refl, ◌∙◌, subst, arith, append_assoc}
use Rattle.std.specs.Prelude.{All, pos, ◌-ℤ◌}
use Rattle.nx_base.specs.declared.regs.Regs.{Regs}
use Rattle.nx_base.specs.Registers.{reg, with_reg}
use Rattle.nx_base.specs.Views.{View}
use Rattle.nx_rv.specs.declared.inst.Inst.{Inst}
use Rattle.nx_rv.specs.declared.inst.Inst.TheVariants.{Lui, Jal, Jalr, Ecall}
use Rattle.nx_rv.specs.Execution.{advance, ReachesCall}
use Rattle.nx_rv.proofs.Turns.{IsHere, AreHere, here_front, here_back, IsAt, Leads, Went, put, wrote, advanced, temps_in, straight, went_then, plus_none, plus_from_zero, jal_went, jalr_went, reaches_call}
use Rattle.nx_gate.specs.Proxies.{proxy_of}
use Rattle.nx_top.specs.first.Compiled.{addi, stub, write_proxy, proxies, proxy_at, upper, lower, write_code, writes_code, places_from}
use Rattle.nx_top.specs.first.BootedRuns.{AnsweredCall, HoldsFrom, MakesCall, Makes, write_call, end_call, calls_of}
use Rattle.nx_top.proofs.first_path.Sizes.{length-write_code, shorter}
use Rattle.nx_top.proofs.first_path.Ranges.{halves, to_proxy}

-- in the main function, whose return address register 8 keeps
pub record IsMain (r : Regs) (pc ra : ℕ) : Type 0 where
  pub at : IsAt r pc (reg r)
  pub kept : reg r 8 ≡ ra

pub main_of : (r : Regs) (pc ra : ℕ) (t : ℕ → ℕ) → IsAt r pc t → t 8 ≡ ra → IsMain r pc ra
main_of r pc ra t s e = record {
  at = record { pc_is = s.pc_is; aligned = s.aligned; size = s.size; holds = λ k. refl };
  kept = s.holds 8 ∙ e;
}

-- one instruction leads back into the main function
pub record Returned (r : Regs) (v : View) (pc ra : ℕ) : Type 0 where
  pub regs : Regs
  pub leads : Leads 1 r v regs
  pub main : IsMain regs pc ra

-- a write is asked for, and the reply leads on
pub record Wrote (r : Regs) (v : View) (next ra literal count : ℕ) : Type 0 where
  pub regs : Regs
  pub reaches : ReachesCall 10 r v regs v
  pub words : HoldsFrom 10 (16 ∷ 1 ∷ literal ∷ count ∷ []) regs
  pub on : (x : ℕ) → Returned (with_reg regs 10 x) v next ra

abbrev write_front : ℕ → ℕ → List Inst
write_front literal count = addi 10 0 (pos 1) ∷ Lui 11 (upper literal) ∷ addi 11 11 (lower literal) ∷ addi 12 0 (pos count) ∷ []

abbrev proxy_front : List Inst
proxy_front = addi 13 12 (pos 0) ∷ addi 12 11 (pos 0) ∷ addi 11 10 (pos 0) ∷ addi 10 0 (pos 16) ∷ []

abbrev at_proxy : (ℕ → ℕ) → ℕ → ℕ → ℕ → ℕ → ℕ
at_proxy t here literal count = put (temps_in (write_front literal count) t) 1 (here + 20)

abbrev at_call : (ℕ → ℕ) → ℕ → ℕ → ℕ → ℕ → ℕ
at_call t here literal count = temps_in proxy_front (at_proxy t here literal count)

-- up to the proxy
to_write : (r : Regs) (v : View) (here literal count ra : ℕ) → here + 20 < 2 ^ 32 → IsMain r here ra → AreHere v here (write_code here literal count) → Went 5 r v proxy_at (at_proxy (reg r) here literal count)
unfolding write_code
to_write r v here literal count ra fits m h =
    let jal = Jal 1 (pos proxy_at -ℤ pos (here + 16)) in
    let front = write_front literal count in
    let a = straight r v here (here + 16) (reg r) front (omega arith) (omega arith) (here_front v here front (jal ∷ []) h) (refl, (refl, (refl, (refl, tt)))) m.at in
    let j = here_back v here (here + 16) front (jal ∷ []) (omega arith) h in
    let b = jal_went a.regs v (here + 16) proxy_at (temps_in front (reg r)) 1 (here + 20) (pos proxy_at -ℤ pos (here + 16)) (to_proxy here (omega arith)) refl (omega arith) fits refl j.0 a.is_at in
    went_then 4 1 5 r v (here + 16) proxy_at (temps_in front (reg r)) (at_proxy (reg r) here literal count) refl a b

-- and up to the call
to_call : (r : Regs) (v : View) (t : ℕ → ℕ) → AreHere v proxy_at write_proxy → IsAt r proxy_at t → Went 4 r v (proxy_at + 16) (temps_in proxy_front t)
unfolding write_proxy proxy_of
to_call r v t h s =
    let back = Ecall ∷ Jalr 0 1 (pos 0) ∷ [] in
    straight r v proxy_at (proxy_at + 16) t proxy_front refl (omega arith) (here_front v proxy_at proxy_front back h) (refl, (refl, (refl, (refl, tt)))) s

proxy_end : (v : View) → AreHere v proxy_at write_proxy → AreHere v (proxy_at + 16) (Ecall ∷ Jalr 0 1 (pos 0) ∷ [])
unfolding write_proxy proxy_of
proxy_end v h = here_back v proxy_at (proxy_at + 16) proxy_front (Ecall ∷ Jalr 0 1 (pos 0) ∷ []) refl h

call_words : (r regs : Regs) (pc here literal count : ℕ) → literal < 0xC0000000 → count ≤ 255 → IsAt regs pc (at_call (reg r) here literal count) → HoldsFrom 10 (16 ∷ 1 ∷ literal ∷ count ∷ []) regs
call_words r regs pc here literal count l c s = (
  s.holds 10 ∙ plus_from_zero r 16 (omega arith),
  (
    s.holds 11 ∙ plus_none _ 1 (plus_from_zero r 1 (omega arith)) (omega arith),
    (
      s.holds 12 ∙ plus_none _ literal (halves literal l) (omega arith),
      (s.holds 13 ∙ plus_none _ count (plus_from_zero r count (omega arith)) (omega arith), tt),
    ),
  ),
)

returned : (regs : Regs) (v : View) (t : ℕ → ℕ) (x next ra : ℕ) → next % 4 ≡ 0 → next < 2 ^ 32 → t 1 ≡ next → t 8 ≡ ra → IsHere v (proxy_at + 20) (Jalr 0 1 (pos 0)) → IsAt regs (proxy_at + 20) t → Returned (with_reg regs 10 x) v next ra
returned regs v t x next ra a b e k h s =
    let w = wrote regs (proxy_at + 20) t 10 x refl (omega arith) s in
    let j = jalr_went (with_reg regs 10 x) v (proxy_at + 20) next (put t 10 x) 1 e a b h w in
    record { regs = j.regs; leads = j.leads; main = main_of j.regs next ra (put t 10 x) j.is_at k }

-- one write of the main function, ten instructions up to its call
pub wrote_once : (r : Regs) (v : View) (here literal count ra : ℕ) → here + 20 < 2 ^ 32 → literal < 0xC0000000 → count ≤ 255 → IsMain r here ra → AreHere v here (write_code here literal count) → AreHere v proxy_at write_proxy → Wrote r v (here + 20) ra literal count
wrote_once r v here literal count ra fits l c m h proxy =
    let t2 = at_proxy (reg r) here literal count in
    let t3 = at_call (reg r) here literal count in
    let a = to_write r v here literal count ra fits m h in
    let b = to_call a.regs v t2 proxy a.is_at in
    let w = went_then 5 4 9 r v proxy_at (proxy_at + 16) t2 t3 refl a b in
    let e = proxy_end v proxy in
    let s = advanced w.regs (proxy_at + 16) t3 (omega arith) w.is_at in
    let aligned = m.at.aligned in
    record {
      regs = advance w.regs;
      reaches = reaches_call 9 10 r v (proxy_at + 16) t3 refl w e.0;
      words = call_words r (advance w.regs) (proxy_at + 20) here literal count l c s;
      on = λ x. returned (advance w.regs) v t3 x (here + 20) ra (omega arith) fits refl m.kept e.1.0 s;
    }

-- the end of the main function, and the first stub
abbrev pub end_code : ℕ → List Inst
end_code status = addi 10 0 (pos status) ∷ Jalr 0 8 (pos 0) ∷ []

abbrev stub_front : List Inst
stub_front = addi 11 10 (pos 0) ∷ addi 10 0 (pos 1) ∷ []

stub_went : (r : Regs) (v : View) (at : ℕ) (t : ℕ → ℕ) → at + 8 < 2 ^ 32 → AreHere v at (stub 1) → IsAt r at t → Went 2 r v (at + 8) (temps_in stub_front t)
unfolding stub
stub_went r v at t fits h s = straight r v at (at + 8) t stub_front (omega arith) fits (here_front v at stub_front (Ecall ∷ []) h) (refl, (refl, tt)) s

stub_end : (v : View) (at : ℕ) → AreHere v at (stub 1) → IsHere v (at + 8) Ecall
unfolding stub
stub_end v at h = let e = here_back v at (at + 8) stub_front (Ecall ∷ []) (omega arith) h in e.0

end_words : (r regs : Regs) (pc status : ℕ) → status ≤ 255 → IsAt regs pc (temps_in stub_front (temps_in (addi 10 0 (pos status) ∷ []) (reg r))) → HoldsFrom 10 (1 ∷ status ∷ []) regs
end_words r regs pc status h s = (
  s.holds 10 ∙ plus_from_zero r 1 (omega arith),
  (s.holds 11 ∙ plus_none _ status (plus_from_zero r status (omega arith)) (omega arith), tt),
)

pub end_made : (r : Regs) (v : View) (here ra status n : ℕ) → n ≡ 5 → here + 4 < 2 ^ 32 → ra % 4 ≡ 0 → ra + 12 < 2 ^ 32 → status ≤ 255 → IsMain r here ra → AreHere v here (end_code status) → AreHere v ra (stub 1) → MakesCall r v (end_call status) n (λ r' m. m ≡ 0)
end_made r v here ra status n e fits al fits' small m h stub_here =
    let set = addi 10 0 (pos status) ∷ [] in
    let t1 = temps_in set (reg r) in
    let t2 = temps_in stub_front t1 in
    let a = straight r v here (here + 4) (reg r) set (omega arith) fits (here_front v here set (Jalr 0 8 (pos 0) ∷ []) h) (refl, tt) m.at in
    let b = jalr_went a.regs v (here + 4) ra t1 8 m.kept al (omega arith) h.1.0 a.is_at in
    let c = stub_went b.regs v ra t1 (omega arith) stub_here b.is_at in
    let bc = went_then 1 2 3 a.regs v ra (ra + 8) t1 t2 refl b c in
    let w = went_then 1 3 4 r v (here + 4) (ra + 8) t1 t2 refl a bc in
    let s = advanced w.regs (ra + 8) t2 (omega arith) w.is_at in
    record {
      made = 5;
      regs = advance w.regs;
      reaches = reaches_call 4 5 r v (ra + 8) t2 refl w (stub_end v ra stub_here);
      words = end_words r (advance w.regs) (ra + 8 + 4) status small s;
      rest = 0;
      sum = omega arith;
      on = refl;
    }

-- a call that comes after instructions
makes_later : (m k n : ℕ) (r : Regs) (v : View) (r1 : Regs) (call : AnsweredCall) (go : Regs → ℕ → Type 0) → n ≡ m + k → Leads m r v r1 → MakesCall r1 v call k go → MakesCall r v call n go
makes_later m k n r v r1 call go e l a = record {
  made = a.made + m;
  regs = a.regs;
  reaches = l.by a.made ∙ a.reaches;
  words = a.words;
  rest = a.rest;
  sum = let s = a.sum in omega arith;
  on = a.on;
}

pub makes_more : (strings : List (List ℕ)) (places : List ℕ) (status m k n : ℕ) (r : Regs) (v : View) (r1 : Regs) → n ≡ m + k → Leads m r v r1 → Makes (calls_of strings places status) r1 v k → Makes (calls_of strings places status) r v n
makes_more [] places status m k n r v r1 e l a = makes_later m k n r v r1 (end_call status) (λ r' j. j ≡ 0) e l a
makes_more (s ∷ strings) [] status m k n r v r1 e l a = makes_later m k n r v r1 (end_call status) (λ r' j. j ≡ 0) e l a
makes_more (s ∷ strings) (at ∷ places) status m k n r v r1 e l a = makes_later m k n r v r1 (write_call s at) (λ r' j. Makes (calls_of strings places status) r' v j) e l a

fewer_proxies : (v : View) (strings : List (List ℕ)) → AreHere v proxy_at write_proxy → AreHere v proxy_at (proxies strings)
unfolding proxies
fewer_proxies v [] h = tt
fewer_proxies v (s ∷ strings) h = h

-- from any write on: the writes that are left, and the end
pub writes_made : (strings : List (List ℕ)) (here literal ra status n : ℕ) (r : Regs) (v : View) → n ≡ 11 * length strings + 5 → here + 20 * length strings + 4 < 2 ^ 32 → literal + 256 * length strings < 0xC0000000 → ra % 4 ≡ 0 → ra + 12 < 2 ^ 32 → status ≤ 255 → All (λ s. length s ≤ 255) strings → IsMain r here ra → AreHere v here (writes_code here literal strings ++ end_code status) → AreHere v proxy_at (proxies strings) → AreHere v ra (stub 1) → Makes (calls_of strings (places_from literal strings) status) r v n
unfolding writes_code places_from proxies
writes_made [] here literal ra status n r v e f g al fits small short m h proxy stub_here =
    end_made r v here ra status n e (omega arith) al fits small m h stub_here
writes_made (s ∷ strings) here literal ra status n r v e f g al fits small short m h proxy stub_here =
    let t = shorter s strings short in
    let t0 = t.0 in
    let count = length s in
    let next = writes_code (here + 20) (literal + count + 1) strings in
    let split = subst (AreHere v here) (append_assoc (write_code here literal count) next (end_code status)) h in
    let front = here_front v here (write_code here literal count) (next ++ end_code status) split in
    let back = here_back v here (here + 20) (write_code here literal count) (next ++ end_code status) (omega (arith, length-write_code here literal count)) split in
    let w = wrote_once r v here literal count ra (omega arith) (omega arith) t.0 m front proxy in
    let g1 = w.on count in
    let rest = writes_made strings (here + 20) (literal + count + 1) ra status (11 * length strings + 5) g1.regs v refl (omega arith) (omega arith) al fits small t.1 g1.main back (fewer_proxies v strings proxy) stub_here in
    record {
      made = 10;
      regs = w.regs;
      reaches = w.reaches;
      words = w.words;
      rest = 1 + (11 * length strings + 5);
      sum = omega arith;
      on = makes_more strings (places_from (literal + count + 1) strings) status 1 (11 * length strings + 5) (1 + (11 * length strings + 5)) (with_reg w.regs 10 count) v g1.regs refl g1.leads rest;
    }
