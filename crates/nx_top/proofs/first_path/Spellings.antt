-- What is spelled as a program is read as that program. nx_ctok will take its place.
use Rattle.std.proofs.Common.{◌≡◌, ℕ, zero, suc, ◌<◌, ◌≤◌, true, false, List, [], ◌∷◌, ◌++◌, length, flat_map, codes, decimal, Some, None, refl, sym, ap, subst, ◌∙◌, append_assoc, append-nil, arith}
use Rattle.std.specs.List.{AllByRecursion}
use Rattle.std.proofs.lemmas.Bool.{eq-eqb}
use Rattle.std.proofs.lemmas.List.Elements.{recursion_from_All}
use Rattle.nx_top.specs.first.Program.{Program, quoted, write_tokens, tokens_of, Spelled, IsString, IsProgram}
use Rattle.nx_top.specs.first.ProgramReading.{◌>>=◌, after_gap, after_text, after_token, write_end, write_at, end_of, end_or, body_from, reading}
use Rattle.nx_top.proofs.first_path.TokenReading.{gap_whole, token_whole, spelt, all_blank, tokens_whole}
use Rattle.nx_top.proofs.first_path.Strings.{quoted_whole}
use Rattle.nx_top.proofs.first_path.Programs.{number_whole, apart_tokens, tail_of}

-- the end of a write
record Closed (count : ℕ) (others : List (List ℕ)) (bytes : List ℕ) : Type 0 where
  rest : List ℕ
  reads : write_end count bytes ≡ Some rest
  more : Spelled false others rest

write_end_whole : (count : ℕ) (others : List (List ℕ)) (bytes : List ℕ) → count ≤ 255 → Spelled false (codes "," ∷ decimal count ∷ codes ")" ∷ codes ";" ∷ others) bytes → Closed count others bytes
unfolding write_end
write_end_whole count others bytes small s =
    let a = tokens_whole false (codes "," ∷ []) (decimal count ∷ codes ")" ∷ codes ";" ∷ others) bytes refl s in
    let b = number_whole false count (codes ")" ∷ codes ";" ∷ others) a.rest small (λ rest t. apart_tokens (codes ")") (codes ";" ∷ others) rest (λ r. refl) t) a.more in
    let d = tokens_whole true (codes ")" ∷ codes ";" ∷ []) others b.rest refl b.more in
    record { rest = d.rest; reads = rw (a.reads, b.reads, d.reads, eq-eqb count count refl) refl; more = d.more }

-- a write
record Write (string : List ℕ) (others : List (List ℕ)) (bytes : List ℕ) : Type 0 where
  rest : List ℕ
  reads : write_at bytes ≡ Some (string, rest)
  more : Spelled false others rest

write_whole : (string : List ℕ) (others : List (List ℕ)) (bytes : List ℕ) → IsString string → Spelled false (write_tokens string ++ others) bytes → Write string others bytes
unfolding write_at write_tokens
write_whole string others bytes good s =
    let a = tokens_whole false (codes "write" ∷ codes "(" ∷ codes "1" ∷ codes "," ∷ []) (quoted string ∷ codes "," ∷ decimal (length string) ∷ codes ")" ∷ codes ";" ∷ others) bytes refl s in
    let b = quoted_whole string (codes "," ∷ decimal (length string) ∷ codes ")" ∷ codes ";" ∷ others) a.rest good a.more in
    let d = write_end_whole (length string) others b.rest good.short b.more in
    record { rest = d.rest; reads = rw (a.reads, b.reads, d.reads) refl; more = d.more }

-- a write is no return
other_word : (rest : List ℕ) → after_text (codes "return") (codes "write" ++ rest) ≡ None
unfolding after_text
other_word rest = refl

not_return : (string : List ℕ) (others : List (List ℕ)) (bytes : List ℕ) → Spelled false (write_tokens string ++ others) bytes → after_token false (codes "return") bytes ≡ None
unfolding after_token write_tokens
not_return string others bytes s =
    let t = spelt false (codes "write") (codes "(" ∷ codes "1" ∷ codes "," ∷ quoted string ∷ codes "," ∷ decimal (length string) ∷ codes ")" ∷ codes ";" ∷ others) bytes s in
    let opens : after_gap false bytes ≡ Some (codes "write" ++ t.rest) = ap (after_gap false) t.is ∙ gap_whole false t.blanks (codes "write" ++ t.rest) t.all (λ q. absurd (cc)) refl in
    ap (λ o. o >>= after_text (codes "return")) opens ∙ other_word t.rest

end_whole : (writes : List (List ℕ)) (v : ℕ) (bytes : List ℕ) → v ≤ 255 → Spelled true (decimal v ∷ codes ";" ∷ codes "}" ∷ []) bytes → end_of writes bytes ≡ Some (record { writes = writes; status = v })
unfolding end_of
end_whole writes v bytes small s =
    let b = number_whole true v (codes ";" ∷ codes "}" ∷ []) bytes small (λ rest t. apart_tokens (codes ";") (codes "}" ∷ []) rest (λ r. refl) t) s in
    let d = tokens_whole true (codes ";" ∷ codes "}" ∷ []) [] b.rest refl b.more in
    rw (b.reads, d.reads, all_blank false d.rest d.more) refl

body_whole : (left : ℕ) (writes more : List (List ℕ)) (v : ℕ) (bytes : List ℕ) → length more < left → AllByRecursion IsString more → v ≤ 255 → Spelled false (flat_map write_tokens more ++ tail_of v) bytes → body_from left writes bytes ≡ Some (record { writes = writes ++ more; status = v })
unfolding body_from
body_whole zero writes more v bytes few good small s = absurd (omega arith)
body_whole (suc left) writes [] v bytes few good small s =
    let t = spelt false (codes "return") (decimal v ∷ codes ";" ∷ codes "}" ∷ []) bytes s in
    let here : after_token false (codes "return") bytes ≡ Some t.rest = ap (after_token false (codes "return")) t.is ∙ token_whole false t.blanks (codes "return") t.rest t.all (λ q. absurd (cc)) refl in
    ap (λ o. end_or o writes (write_at bytes >>= λ w. body_from left (writes ++ w.0 ∷ []) w.1)) here
    ∙ end_whole writes v t.rest small t.more
    ∙ ap (λ (l : List (List ℕ)). Some (record { writes = l; status = v })) (sym (append-nil writes))
body_whole (suc left) writes (string ∷ more) v bytes few good small s =
    let all : Spelled false (write_tokens string ++ (flat_map write_tokens more ++ tail_of v)) bytes = subst (λ (l : List (List ℕ)). Spelled false l bytes) (append_assoc (write_tokens string) (flat_map write_tokens more) (tail_of v)) s in
    let w = write_whole string (flat_map write_tokens more ++ tail_of v) bytes good.0 all in
    ap (λ o. end_or o writes (write_at bytes >>= λ w. body_from left (writes ++ w.0 ∷ []) w.1)) (not_return string (flat_map write_tokens more ++ tail_of v) bytes all)
    ∙ ap (λ o. o >>= λ w. body_from left (writes ++ w.0 ∷ []) w.1) w.reads
    ∙ body_whole left (writes ++ string ∷ []) more v w.rest (omega arith) good.1 small w.more
    ∙ ap (λ (l : List (List ℕ)). Some (record { writes = l; status = v })) (append_assoc writes (string ∷ []) more)

pub reading_whole : (bytes : List ℕ) (p : Program) → IsProgram bytes p → reading bytes ≡ Some p
unfolding reading tokens_of
reading_whole bytes p h =
    let a = tokens_whole false (codes "int" ∷ codes "main" ∷ codes "(" ∷ codes "void" ∷ codes ")" ∷ codes "{" ∷ []) (flat_map write_tokens p.writes ++ tail_of p.status) bytes refl h.spelled in
    ap (λ o. o >>= body_from 17 []) a.reads
    ∙ body_whole 17 [] p.writes p.status a.rest (omega (arith, h.few)) (recursion_from_All IsString p.writes h.strings) h.status a.more

-- bytes are one program at most
pub one_reading : (bytes : List ℕ) (p q : Program) → IsProgram bytes p → IsProgram bytes q → p ≡ q
one_reading bytes p q g h = let e = reading_whole bytes p g in let f = reading_whole bytes q h in cc
