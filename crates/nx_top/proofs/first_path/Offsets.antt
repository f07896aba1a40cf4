-- The addresses of a program's writes and literals, for code that makes them one after another. nx_codegen will take its place.
use Rattle.std.proofs.Common.{◌≡◌, ℕ, ◌+◌, ◌*◌, ◌≤◌, List, [], ◌∷◌, ◌++◌, length, refl, sym, ap, ◌∙◌, arith, append_assoc}
use Rattle.std.specs.Prelude.{All}
use Rattle.std.proofs.lemmas.List.{length-append}
use Rattle.std.proofs.lemmas.List.Elements.{All-cons, All-nil}
use Rattle.nx_top.specs.first.Layout.{text_start}
use Rattle.nx_top.specs.first.Program.{Program}
use Rattle.nx_top.specs.first.Compiled.{literals_at, write_code, writes_code, places_from, literals}
use Rattle.nx_top.specs.first.IsCompiled.{FitsText}
use Rattle.nx_top.proofs.first_path.Sizes.{shorter, literals_small}

pub literals-append : (a b : List (List ℕ)) → literals (a ++ b) ≡ literals a ++ literals b
unfolding literals
literals-append [] b = refl
literals-append (s ∷ a) b = ap (λ l. (s ++ 0 ∷ []) ++ l) (literals-append a b) ∙ sym (append_assoc (s ++ 0 ∷ []) (literals a) (literals b))

-- writes after others begin after their code, and their literals after those of the others
pub writes_code-append : (here literal : ℕ) (a b : List (List ℕ)) → writes_code here literal (a ++ b) ≡ writes_code here literal a ++ writes_code (here + 20 * length a) (literal + length (literals a)) b
unfolding writes_code literals
writes_code-append here literal [] b =
    let e : here ≡ here + 20 * 0 = omega arith in
    let f : literal ≡ literal + 0 = omega arith in
    ap (λ n. writes_code n literal b) e ∙ ap (λ n. writes_code (here + 20 * 0) n b) f
writes_code-append here literal (s ∷ a) b =
    let first = write_code here literal (length s) in
    let second = writes_code (here + 20) (literal + length s + 1) a in
    let e : here + 20 + 20 * length a ≡ here + 20 * length (s ∷ a) = omega arith in
    let f : literal + length s + 1 + length (literals a) ≡ literal + length ((s ++ 0 ∷ []) ++ literals a) = omega (arith, length-append (s ++ 0 ∷ []) (literals a), length-append s (0 ∷ [])) in
    ap (λ l. first ++ l)
    (writes_code-append (here + 20) (literal + length s + 1) a b
    ∙ ap (λ n. second ++ writes_code n (literal + length s + 1 + length (literals a)) b) e
    ∙ ap (λ n. second ++ writes_code (here + 20 * length (s ∷ a)) n b) f)
    ∙ sym (append_assoc first second (writes_code (here + 20 * length (s ∷ a)) (literal + length ((s ++ 0 ∷ []) ++ literals a)) b))

-- one write more
pub writes_code_more : (here literal : ℕ) (a : List (List ℕ)) (s : List ℕ) → writes_code here literal (a ++ s ∷ []) ≡ writes_code here literal a ++ write_code (here + 20 * length a) (literal + length (literals a)) (length s)
unfolding writes_code write_code
writes_code_more here literal a s = writes_code-append here literal a (s ∷ [])

between : (low high at : ℕ) (strings : List (List ℕ)) → low ≤ at → at + 256 * length strings ≤ high → All (λ s. length s ≤ 255) strings → All (λ n. (low ≤ n) × (n + 256 ≤ high)) (places_from at strings)
unfolding places_from
between low high at [] l e h = All-nil (λ n. (low ≤ n) × (n + 256 ≤ high))
between low high at (s ∷ strings) l e h =
    let t = shorter s strings h in
    let t0 = t.0 in
    All-cons (λ n. (low ≤ n) × (n + 256 ≤ high)) at (places_from (at + length s + 1) strings) (omega arith, omega arith) (between low high (at + length s + 1) strings (omega arith) (omega arith) t.1)

-- each literal lies in the text
pub places_small : (p : Program) → FitsText p → All (λ n. (literals_at p ≤ n) × (n + 256 ≤ text_start + 8192)) (places_from (literals_at p) p.writes)
places_small p f = let few = f.few in let l = literals_small p f in between (literals_at p) (text_start + 8192) (literals_at p) p.writes (omega arith) (omega arith) f.short
