-- Steps of the loops that compile. nx_codegen will take its place.
use Rattle.std.proofs.Common.{◌≡◌, ℕ, ◌+◌, ◌<◌, ◌≤◌, List, [], ◌∷◌, ◌++◌, length, drop, map, refl, sym, ap, ◌∙◌, append_assoc, get_or}
use Rattle.std.proofs.lemmas.List.{drop_more, drop_all, append-nil}
use Rattle.nx_base.specs.ByteLists.{to_le}
use Rattle.std.specs.List.{flat_map}
use Rattle.nx_gate.specs.declared.gate.Gate.{Gate}
use Rattle.nx_gate.specs.Gates.{words_of}
use Rattle.nx_gate.specs.Proxies.{proxy_of}
use Rattle.nx_rv.specs.declared.inst.Inst.{Inst}
use Rattle.nx_rv.specs.Table.{encode_of}
use Rattle.nx_top.specs.first.Compiled.{IsWriteGate, write_proxy, code_bytes, write_code, writes_code}

pub code_bytes-append : (xs ys : List Inst) → code_bytes (xs ++ ys) ≡ code_bytes xs ++ code_bytes ys
unfolding code_bytes
code_bytes-append [] ys = refl
code_bytes-append (x ∷ xs) ys = ap (λ v. to_le 4 (encode_of x) ++ v) (code_bytes-append xs ys) ∙ sym (append_assoc (to_le 4 (encode_of x)) (code_bytes xs) (code_bytes ys))

-- words as bytes are the code of their instructions
words_bytes : (insts : List Inst) → flat_map (λ w. to_le 4 w) (map encode_of insts) ≡ code_bytes insts
unfolding code_bytes
words_bytes [] = refl
words_bytes (x ∷ xs) = ap (λ v. to_le 4 (encode_of x) ++ v) (words_bytes xs)

pub proxy_bytes : (gate : Gate) (slice items : List ℕ) → IsWriteGate gate → slice ≡ items → items ≡ words_of gate → flat_map (λ w. to_le 4 w) slice ≡ code_bytes write_proxy
unfolding write_proxy
proxy_bytes gate slice items is s i =
    ap (flat_map (λ w. to_le 4 w)) (s ∙ i) ∙ words_bytes (proxy_of gate.number (length gate.kinds.items))
    ∙ ap (λ n. code_bytes (proxy_of n (length gate.kinds.items))) is.number ∙ ap (λ k. code_bytes (proxy_of 16 k)) is.three

-- one write after the others
pub writes_more : (strings : List (List ℕ)) (old new all : List ℕ) (i here literal next : ℕ) (d : List ℕ) → i < length strings
    → new ≡ old ++ code_bytes (write_code here literal (length (get_or strings i d))) → next ≡ literal + length (get_or strings i d) + 1
    → old ++ code_bytes (writes_code here literal (drop i strings)) ≡ all → new ++ code_bytes (writes_code (here + 20) next (drop (i + 1) strings)) ≡ all
unfolding writes_code
writes_more strings old new all i here literal next d lt e n h =
    let s = get_or strings i d in
    let rest = code_bytes (writes_code (here + 20) next (drop (i + 1) strings)) in
    let first : writes_code here literal (drop i strings) ≡ write_code here literal (length s) ++ writes_code (here + 20) next (drop (i + 1) strings) =
    ap (writes_code here literal) (drop_more strings i d lt) ∙ ap (λ k. write_code here literal (length s) ++ writes_code (here + 20) k (drop (i + 1) strings)) (sym n) in
    ap (λ v. v ++ rest) e
    ∙ append_assoc old (code_bytes (write_code here literal (length s))) rest
    ∙ ap (λ v. old ++ v) (sym (ap code_bytes first ∙ code_bytes-append (write_code here literal (length s)) (writes_code (here + 20) next (drop (i + 1) strings))))
    ∙ h

-- after the last
pub writes_done : (strings : List (List ℕ)) (old all : List ℕ) (i here literal : ℕ) → length strings ≤ i → old ++ code_bytes (writes_code here literal (drop i strings)) ≡ all → old ≡ all
unfolding writes_code code_bytes
writes_done strings old all i here literal le h = sym (append-nil old) ∙ ap (λ l. old ++ code_bytes (writes_code here literal l)) (sym (drop_all i strings le)) ∙ h

-- the main function from its parts, as the code puts them
pub main_parts : (first last jump : Inst) (writes : List Inst) (old : List ℕ)
    → ((((old ++ to_le 4 (encode_of first)) ++ code_bytes writes) ++ to_le 4 (encode_of last)) ++ to_le 4 (encode_of jump)) ≡ old ++ code_bytes (first ∷ (writes ++ last ∷ jump ∷ []))
unfolding code_bytes
main_parts first last jump writes old =
    let e = code_bytes-append writes (last ∷ jump ∷ []) in
    rw (e) (simp (append_assoc, append-nil))

-- the text from its parts, before it is padded
pub text_parts : (a b c d : List Inst) (rest : List ℕ) → (((code_bytes a ++ code_bytes b) ++ code_bytes c) ++ code_bytes d) ++ rest ≡ code_bytes (a ++ b ++ c ++ d) ++ rest
text_parts a b c d rest =
    let e1 = code_bytes-append ((a ++ b) ++ c) d in
    let e2 = code_bytes-append (a ++ b) c in
    let e3 = code_bytes-append a b in
    rw (e1, e2, e3)
