-- How long a program's instructions, literals and text are. nx_link will take its place.
use Rattle.std.proofs.Common.{◌≡◌, ℕ, suc, ◌+◌, ◌-◌, ◌*◌, ◌%◌, ◌≤◌, List, [], ◌∷◌, ◌++◌, length, refl, sym, ap, ◌∙◌, arith, append_assoc}
use Rattle.std.specs.Prelude.{All, pos}
use Rattle.std.proofs.lemmas.List.{length-append, length-replicate}
use Rattle.nx_base.specs.ByteLists.{to_le}
use Rattle.nx_base.proofs.ByteLemmas.{length-to_le}
use Rattle.nx_rv.specs.declared.inst.Inst.{Inst}
use Rattle.nx_rv.specs.declared.inst.Inst.TheVariants.{Jalr}
use Rattle.nx_rv.specs.Table.{encode_of}
use Rattle.nx_top.specs.first.Layout.{text_start}
use Rattle.nx_top.specs.first.Program.{Program, IsProgram}
use Rattle.nx_gate.specs.Proxies.{proxy_of}
use Rattle.nx_top.specs.first.Compiled.{addi, stub, write_proxy, proxies, main_at, literals_at, write_code, writes_code, main_code, insts_of, code_bytes, literals, padded, text_of}
use Rattle.nx_top.specs.first.IsCompiled.{FitsText}

pub code_bytes-append : (a b : List Inst) → code_bytes (a ++ b) ≡ code_bytes a ++ code_bytes b
unfolding code_bytes
code_bytes-append [] b = refl
code_bytes-append (x ∷ a) b = ap (λ l. to_le 4 (encode_of x) ++ l) (code_bytes-append a b) ∙ sym (append_assoc (to_le 4 (encode_of x)) (code_bytes a) (code_bytes b))

pub length-code_bytes : (a : List Inst) → length (code_bytes a) ≡ 4 * length a
unfolding code_bytes
length-code_bytes [] = refl
length-code_bytes (x ∷ a) = omega (arith, length-append (to_le 4 (encode_of x)) (code_bytes a), length-to_le 4 (encode_of x), length-code_bytes a)

pub length-proxies : (strings : List (List ℕ)) → length (proxies strings) ≤ 6
unfolding proxies write_proxy proxy_of
length-proxies [] = omega arith
length-proxies (s ∷ strings) = omega arith

pub length-write_code : (here literal count : ℕ) → length (write_code here literal count) ≡ 5
unfolding write_code
length-write_code here literal count = refl

pub length-writes_code : (here literal : ℕ) (strings : List (List ℕ)) → length (writes_code here literal strings) ≡ 5 * length strings
unfolding writes_code
length-writes_code here literal [] = refl
length-writes_code here literal (s ∷ strings) =
    omega (arith, length-append (write_code here literal (length s)) (writes_code (here + 20) (literal + length s + 1) strings), length-write_code here literal (length s), length-writes_code (here + 20) (literal + length s + 1) strings)

pub length-main_code : (p : Program) → length (main_code p) ≡ 5 * length p.writes + 3
unfolding main_code
length-main_code p =
    omega (arith, length-append (writes_code (main_at p + 4) (literals_at p) p.writes) (addi 10 0 (pos p.status) ∷ Jalr 0 8 (pos 0) ∷ []), length-writes_code (main_at p + 4) (literals_at p) p.writes)

pub length-insts : (p : Program) → length (insts_of p) ≡ 6 + length (proxies p.writes) + (5 * length p.writes + 3)
unfolding insts_of stub
length-insts p =
    omega (arith, length-append (stub 1 ++ stub 2 ++ proxies p.writes) (main_code p), length-append (stub 1 ++ stub 2) (proxies p.writes), length-main_code p)

-- the literals begin right after the instructions
pub literals_after : (p : Program) → literals_at p ≡ text_start + length (code_bytes (insts_of p))
unfolding literals_at main_at
literals_after p = omega (arith, length-code_bytes (insts_of p), length-insts p)

pub shorter : (s : List ℕ) (strings : List (List ℕ)) → All (λ s. length s ≤ 255) (s ∷ strings) → (length s ≤ 255) × All (λ s. length s ≤ 255) strings
shorter s strings h = (h 0 [] (omega arith), λ k d l. h (suc k) d (omega arith))

pub length-literals : (strings : List (List ℕ)) → All (λ s. length s ≤ 255) strings → length (literals strings) ≤ 256 * length strings
unfolding literals
length-literals [] h = omega arith
length-literals (s ∷ strings) h =
    let t = shorter s strings h in
    omega (arith, t.0, length-append (s ++ 0 ∷ []) (literals strings), length-append s (0 ∷ []), length-literals strings t.1)

pub length-padded : (bytes : List ℕ) → length (padded bytes) ≡ length bytes + (16 - length bytes % 16) % 16
unfolding padded
length-padded bytes = length-append bytes _ ∙ ap (λ n. length bytes + n) (length-replicate _ 0)

up_16 : (n : ℕ) → (n + (16 - n % 16) % 16) % 16 ≡ 0
up_16 n = omega arith

pub text_aligned : (p : Program) → length (text_of p) % 16 ≡ 0
unfolding text_of
text_aligned p =
    let b = code_bytes (insts_of p) ++ literals p.writes in
    ap (λ n. n % 16) (length-padded b) ∙ up_16 (length b)

pub main_small : (p : Program) → (main_at p % 4 ≡ 0) × (text_start + 24 ≤ main_at p) × (main_at p ≤ text_start + 48)
unfolding main_at
main_small p = let l = length-proxies p.writes in (omega arith, omega arith, omega arith)

pub literals_small : (p : Program) → FitsText p → (literals_at p ≡ main_at p + 20 * length p.writes + 12) × (literals_at p ≤ text_start + 380)
unfolding literals_at
literals_small p f = let m = main_small p in let few = f.few in (omega arith, omega arith)

pub length_text : (p : Program) → FitsText p → length (text_of p) ≤ 8192
unfolding text_of
length_text p f =
    let few = f.few in
    omega (arith, length-padded (code_bytes (insts_of p) ++ literals p.writes), length-append (code_bytes (insts_of p)) (literals p.writes), length-code_bytes (insts_of p), length-insts p, length-proxies p.writes, length-literals p.writes f.short)

-- a program of the grammar fits
pub fits_text : (bytes : List ℕ) (p : Program) → IsProgram bytes p → FitsText p
fits_text bytes p h = record { few = h.few; short = λ k d l. (h.strings k d l).short; status = h.status }
