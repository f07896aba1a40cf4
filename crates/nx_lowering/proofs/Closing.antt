-- A loop's way back is written after the operations before it.
use Rattle.std.proofs.Common.{◌≡◌, ℕ, zero, suc, ◌+◌, ◌-◌, ◌<◌, List, [], ◌∷◌, ◌++◌, length, Option, Some, None, refl, sym, ap, ◌∙◌, arith, append_assoc, length-append}
use Rattle.std.specs.Prelude.{slice_set}
use Rattle.std.proofs.Math.Seq.{set-append_seam}
use Rattle.nx_checked.specs.Trees.{Expr, Stmt, While, Do, For, Return}
use Rattle.nx_slot.specs.declared.op.SlotOp.{SlotOp}
use Rattle.nx_slot.specs.declared.op.SlotOp.TheVariants.{Back}
use Rattle.nx_lower.specs.Code.{Source, expr_code}
use Rattle.nx_lower.specs.Bodies.{option_code, test_code, for_code, stmt_code}
use Rattle.nx_lowering.specs.Loops.{while_parts, do_parts, for_parts, return_code}

-- The operation after some parts is the way back over all of them.
pub closed : (code parts rest : List SlotOp) (x : SlotOp) (end by : ℕ) → code ≡ parts ++ x ∷ rest → end ≡ length rest → by ≡ length code - end - 1 → slice_set code (length code - suc end) (Back by) ≡ parts ++ Back (length parts) ∷ rest
closed code parts rest x end by e n b =
    let size : length code ≡ length parts + suc (length rest) = ap (λ (l : List SlotOp). length l) e ∙ length-append parts (x ∷ rest) in
    let at : length code - suc end ≡ length parts = omega (arith, size, n) in
    let back : by ≡ length parts = omega (arith, size, n, b) in
    ap (λ (k : ℕ). slice_set code (length code - suc end) (Back k)) back
    ∙ ap (λ (k : ℕ). slice_set code k (Back (length parts))) at
    ∙ ap (λ (l : List SlotOp). slice_set l (length parts) (Back (length parts))) e
    ∙ set-append_seam parts x rest (Back (length parts))

pub while_closed : (s : Source) (n on out : ℕ) (c : Expr) (a : Stmt) (rest : List SlotOp) → while_parts s n c a ++ Back (length (while_parts s n c a)) ∷ rest ≡ stmt_code s n on out (While c a) ++ rest
while_closed s n on out c a rest =
    let cc = expr_code s n 0 c in let ca = stmt_code s n 0 1 a in
    let by : length (while_parts s n c a) ≡ length cc + 1 + length ca + 0 = omega (arith, length-append cc (test_code n (length ca + 1) ∷ ca)) in
    let past : length ca + 1 ≡ length ca + 0 + 1 = omega arith in
    ap (λ (k : ℕ). while_parts s n c a ++ Back k ∷ rest) by
    ∙ ap (λ (k : ℕ). (cc ++ test_code n k ∷ ca) ++ Back (length cc + 1 + length ca + 0) ∷ rest) past
    ∙ append_assoc cc (test_code n (length ca + 0 + 1) ∷ ca) (Back (length cc + 1 + length ca + 0) ∷ rest)
    ∙ ap (λ (l : List SlotOp). cc ++ test_code n (length ca + 0 + 1) ∷ l) (sym (append_assoc ca (Back (length cc + 1 + length ca + 0) ∷ []) rest))
    ∙ sym (append_assoc cc (test_code n (length ca + 0 + 1) ∷ (ca ++ Back (length cc + 1 + length ca + 0) ∷ [])) rest)

pub do_closed : (s : Source) (n on out : ℕ) (a : Stmt) (c : Expr) (rest : List SlotOp) → do_parts s n a c ++ Back (length (do_parts s n a c)) ∷ rest ≡ stmt_code s n on out (Do a c) ++ rest
do_closed s n on out a c rest =
    let cc = expr_code s n 0 c in let ca = stmt_code s n 0 (length cc + 2) a in let t = test_code n 1 in
    let by : length (do_parts s n a c) ≡ length ca + length cc + 1 = omega (arith, length-append ca (cc ++ t ∷ []), length-append cc (t ∷ [])) in
    let back = Back (length ca + length cc + 1) in
    ap (λ (k : ℕ). do_parts s n a c ++ Back k ∷ rest) by
    ∙ append_assoc ca (cc ++ t ∷ []) (back ∷ rest)
    ∙ ap (λ (l : List SlotOp). ca ++ l) (append_assoc cc (t ∷ []) (back ∷ rest) ∙ sym (append_assoc cc (t ∷ back ∷ []) rest))
    ∙ sym (append_assoc ca (cc ++ t ∷ back ∷ []) rest)

for_loop_closed : (s : Source) (n : ℕ) (c t : Option Expr) (b : Stmt) (rest : List SlotOp) → for_parts s n c t b ++ Back (length (for_parts s n c t b)) ∷ rest ≡ for_code s n c (stmt_code s n 0 (length (option_code s n t) + 1) b) (option_code s n t) ++ rest
for_loop_closed s n None t b rest =
    let ct = option_code s n t in let cb = stmt_code s n 0 (length ct + 1) b in
    let back = Back (length cb + length ct) in
    ap (λ (k : ℕ). (cb ++ ct) ++ Back k ∷ rest) (length-append cb ct)
    ∙ append_assoc cb ct (back ∷ rest)
    ∙ ap (λ (l : List SlotOp). cb ++ l) (sym (append_assoc ct (back ∷ []) rest))
    ∙ sym (append_assoc cb (ct ++ back ∷ []) rest)
for_loop_closed s n (Some c) t b rest =
    let ct = option_code s n t in let cb = stmt_code s n 0 (length ct + 1) b in let cc = expr_code s n 0 c in
    let test = test_code n (length cb + length ct + 1) in
    let by : length (for_parts s n (Some c) t b) ≡ length cc + 1 + length cb + length ct = omega (arith, length-append cc (test ∷ (cb ++ ct)), length-append cb ct) in
    let back = Back (length cc + 1 + length cb + length ct) in
    ap (λ (k : ℕ). (cc ++ test ∷ (cb ++ ct)) ++ Back k ∷ rest) by
    ∙ append_assoc cc (test ∷ (cb ++ ct)) (back ∷ rest)
    ∙ ap (λ (l : List SlotOp). cc ++ test ∷ l) (append_assoc cb ct (back ∷ rest) ∙ ap (λ (l : List SlotOp). cb ++ l) (sym (append_assoc ct (back ∷ []) rest)) ∙ sym (append_assoc cb (ct ++ back ∷ []) rest))
    ∙ sym (append_assoc cc (test ∷ (cb ++ (ct ++ back ∷ []))) rest)

pub for_closed : (s : Source) (n on out : ℕ) (a c t : Option Expr) (b : Stmt) (rest : List SlotOp) → option_code s n a ++ (for_parts s n c t b ++ Back (length (for_parts s n c t b)) ∷ rest) ≡ stmt_code s n on out (For a c t b) ++ rest
for_closed s n on out a c t b rest =
    let ct = option_code s n t in
    ap (λ (l : List SlotOp). option_code s n a ++ l) (for_loop_closed s n c t b rest) ∙ sym (append_assoc (option_code s n a) (for_code s n c (stmt_code s n 0 (length ct + 1) b) ct) rest)

pub return_same : (s : Source) (n on out : ℕ) (e : Option Expr) → return_code s n e ≡ stmt_code s n on out (Return e)
return_same s n on out None = refl
return_same s n on out (Some e) = refl

-- Code after code.
pub regroup : (a b c : List SlotOp) → (a ++ b) ++ c ≡ a ++ (b ++ c)
regroup a b c = append_assoc a b c
