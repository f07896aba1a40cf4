-- Strings that lie in a view, byte by byte. nx_copy will take its place.
use Rattle.std.proofs.Common.{◌≡◌, ℕ, zero, suc, ◌+◌, ◌<◌, List, [], ◌∷◌, ◌++◌, length, get_or, take, Ok, Err, sym, ap, ◌∙◌, subst, arith, append_assoc, add-zero}
use Rattle.std.proofs.lemmas.List.{take_more}
use Rattle.nx_base.specs.Views.{View, load_bytes}
use Rattle.nx_top.specs.first.ExpectedRuns.{LiesAt}

-- a byte of a string that lies in a view
lies_nth : (v : View) (string : List ℕ) (at i : ℕ) → i < length string → LiesAt v string at → load_bytes v (at + i) 1 ≡ Ok (get_or string i 0)
lies_nth v [] at i h l = absurd (omega arith)
lies_nth v (b ∷ bs) at zero h l = let q : at + 0 ≡ at = add-zero at in subst (λ (k : ℕ). load_bytes v k 1 ≡ Ok b) (sym q) l.0
lies_nth v (b ∷ bs) at (suc i) h l = let q : at + 1 + i ≡ at + suc i = omega arith in subst (λ (k : ℕ). load_bytes v k 1 ≡ Ok (get_or bs i 0)) q (lies_nth v bs (at + 1) i (omega arith) l.1)

-- each byte of it may be read
pub not_refused : (v : View) (string : List ℕ) (at i n cause : ℕ) → i < n → length string ≡ n → LiesAt v string at → load_bytes v (at + i) 1 ≡ Err cause → ⊥
not_refused v string at i n cause h e l is = let lt : i < length string = omega arith in let k = sym is ∙ lies_nth v string at i lt l in cc

-- one more byte that was read
pub view_bytes_more : (v : View) (string old new : List ℕ) (at i n byte : ℕ) → i < n → length string ≡ n → LiesAt v string at → load_bytes v (at + i) 1 ≡ Ok byte → new ≡ old ++ take i string → new ++ byte ∷ [] ≡ old ++ take (i + 1) string
view_bytes_more v string old new at i n byte h e l is so =
    let lt : i < length string = omega arith in
    let same : byte ≡ get_or string i 0 = let k = sym is ∙ lies_nth v string at i lt l in cc in
    ap (λ xs. xs ++ byte ∷ []) so ∙ append_assoc old (take i string) (byte ∷ []) ∙ ap (λ b. old ++ (take i string ++ b ∷ [])) same ∙ ap (λ xs. old ++ xs) (sym (take_more string i 0 lt))
