-- Bytes that are written into a file, or read from it.
use Rattle.std.proofs.Common.{◌≡◌, ℕ, zero, suc, ◌+◌, ◌-◌, ◌<◌, ◌≤◌, List, [], ◌∷◌, ◌++◌, length, take, drop, refl, sym, ap, ◌∙◌, arith, rules, replicate, append-nil, min, true, false}
use Rattle.std.specs.Prelude.{Ok, Err, ◌==◌, nat_le}
use Rattle.std.proofs.lemmas.List.{length-replicate, length-take-le, take-append-drop, take_at, length-drop}
use Rattle.nx_base.specs.ByteLists.{put_bytes, get_bytes}
use Rattle.nx_base.proofs.ByteLemmas.{get_bytes-between}
use Rattle.nx_base.specs.declared.errno.Errno.TheVariants.{Efbig, Enospc}
use Rattle.nx_pool.specs.declared.chain.Chain.{Chain}
use Rattle.nx_pool.specs.Effects.{Becomes}
use Rattle.nx_pool.proofs.EffectLemmas.{Becomes-refl, Becomes-trans, Becomes-eq}
use Rattle.nx_pool.proofs.PayloadLemmas.{drop-past, length-get_bytes}
use Rattle.nx_ksys.specs.FileCalls.{longest_file, reach, with_written, written_at}
use Rattle.nx_fs.specs.Rows.{as_written}

take_zeros : (at m : ℕ) → at ≤ m → take {A = ℕ} at (replicate m 0) ≡ replicate {A = ℕ} at 0
take_zeros zero m l = refl
take_zeros (suc at) zero l = absurd (omega arith)
take_zeros (suc at) (suc m) l = ap (λ q. 0 ∷ q) (take_zeros at m (omega arith))

-- of bytes with enough zeros after them
take_enough : (xs : List ℕ) (at m n : ℕ) → at ≤ length xs + m → at ≤ length xs + n → take at (xs ++ replicate m 0) ≡ take at (xs ++ replicate n 0)
take_enough [] at m n a b = take_zeros at m (omega arith) ∙ sym (take_zeros at n (omega arith))
take_enough (x ∷ xs) zero m n a b = refl
take_enough (x ∷ xs) (suc at) m n a b = ap (λ q. x ∷ q) (take_enough xs at m n (omega arith) (omega arith))

no_zeros : (xs : List ℕ) (m : ℕ) → m ≡ 0 → xs ++ replicate m 0 ≡ xs
no_zeros xs m e = rw e (append-nil xs)

drop_zeros : (xs : List ℕ) (end m : ℕ) → m ≡ end - length xs → drop end (xs ++ replicate m 0) ≡ drop end xs
drop_zeros [] end m e = drop-past (replicate {A = ℕ} m 0) end (omega (arith, length-replicate {A = ℕ} m 0)) ∙ sym (drop-past [] end (omega arith))
drop_zeros (x ∷ xs) zero m e = no_zeros (x ∷ xs) m (omega arith)
drop_zeros (x ∷ xs) (suc end) m e = drop_zeros xs end m (omega arith)

-- put into a file that was made long enough
pub put_is_written : (content bytes : List ℕ) (at end : ℕ) → end ≡ at + length bytes → put_bytes (content ++ replicate (end - length content) 0) at bytes ≡ with_written content at bytes
unfolding put_bytes with_written
put_is_written content bytes at end e =
    let front = take_enough content at (end - length content) (at - length content) (omega arith) (omega arith) in
    let back = drop_zeros content (at + length bytes) (end - length content) (omega arith) in
    ap (λ q. q ++ bytes ++ drop (at + length bytes) (content ++ replicate (end - length content) 0)) front
    ∙ ap (λ q. take at (content ++ replicate (at - length content) 0) ++ bytes ++ q) back

-- a chain that is long enough stays
pub extended_none : (holds : List Chain → Type 0) (content : Chain → List ℕ) (c : Chain) (end size : ℕ) → end ≤ size → Becomes holds holds content content c c (content c ++ replicate (end - size) 0)
extended_none holds content c end size l = Becomes-eq _ _ _ _ _ _ _ _ (sym (no_zeros (content c) (end - size) (omega arith))) (Becomes-refl holds content c)

pub extended_written : (holds holds' holds'' : List Chain → Type 0) (content content' content'' : Chain → List ℕ) (c c' : Chain) (at end size : ℕ) (bytes : List ℕ)
    → length (content c) ≡ size → end ≡ at + length bytes
    → Becomes holds holds' content content' c c' (content c ++ replicate (end - size) 0)
    → Becomes holds' holds'' content' content'' c' c' (put_bytes (content' c') at bytes)
    → Becomes holds holds'' content content'' c c' (with_written (content c) at bytes)
extended_written holds holds' holds'' content content' content'' c c' at end size bytes long e a b =
    let own : content' c' ≡ content c ++ replicate (end - length (content c)) 0 = a.own ∙ ap (λ n. content c ++ replicate (end - n) 0) (sym long) in
    Becomes-eq _ _ _ _ _ _ _ _
    (ap (λ q. put_bytes q at bytes) own ∙ put_is_written (content c) bytes at end e)
    (Becomes-trans _ _ _ _ _ _ _ _ _ _ _ a b)

-- ---- how many bytes are written

far : (at : ℕ) → longest_file ≤ at → nat_le longest_file at ≡ true
far at l = search (rules, arith)

near : (at : ℕ) → at < longest_file → nat_le longest_file at ≡ false
near at l = search (rules, arith)

not_zero : (n : ℕ) → 0 < n → (n == 0) ≡ false
not_zero n l = search (rules, arith)

pub too_far : (free at : ℕ) (content bytes after : List ℕ) → longest_file ≤ at → written_at free content at bytes ≡ as_written after (Err Efbig)
too_far free at content bytes after l = let t = far at l in rw t refl

pub none_fits : (free at count : ℕ) (content bytes after : List ℕ) → at < longest_file → count ≡ min (length bytes) (reach free (length content) - at) → count ≡ 0 → written_at free content at bytes ≡ as_written after (Err Enospc)
none_fits free at count content bytes after l e z =
    let t = near at l in
    let n : min (length bytes) (reach free (length content) - at) ≡ 0 = sym e ∙ z in
    rw (t, n) refl

pub some_fit : (free at count : ℕ) (content bytes after : List ℕ) → at < longest_file → count ≡ min (length bytes) (reach free (length content) - at) → 0 < count → after ≡ with_written content at (take count bytes)
    → written_at free content at bytes ≡ as_written after (Ok (record { count = count; end = at + count }))
some_fit free at count content bytes after l e z a =
    let t = near at l in
    let n = not_zero count z in
    rw (t, ← e, n, a) refl

-- ---- bytes that are read

take_none : (n : ℕ) → take {A = ℕ} n [] ≡ []
take_none zero = refl
take_none (suc n) = refl

take_there : (xs : List ℕ) (n m : ℕ) → m ≡ min (length xs) n → take m xs ≡ take n xs
take_there [] n m e = take_none m ∙ sym (take_none n)
take_there (x ∷ xs) zero m e = let z : m ≡ 0 = omega arith in rw z refl
take_there (x ∷ xs) (suc n) zero e = absurd (omega arith)
take_there (x ∷ xs) (suc n) (suc m) e = ap (λ q. x ∷ q) (take_there xs n m (omega arith))

pub get_is_taken : (bs : List ℕ) (at n : ℕ) → at + n ≤ length bs → get_bytes bs at n ≡ take n (drop at bs)
get_is_taken bs at n l =
    let inner : take n (drop at bs) ++ drop n (drop at bs) ≡ drop at bs = take-append-drop n (drop at bs) in
    let whole : bs ≡ take at bs ++ (take n (drop at bs) ++ drop n (drop at bs)) = sym (take-append-drop at bs) ∙ ap (λ q. take at bs ++ q) (sym inner) in
    ap (λ q. get_bytes q at n) whole
    ∙ get_bytes-between (take at bs) (take n (drop at bs)) (drop n (drop at bs)) at n (sym (length-take-le at bs (omega arith))) (sym (length-take-le n (drop at bs) (omega (arith, length-drop at bs))))

pub read_front : (got into bs : List ℕ) (at count : ℕ) → got ≡ get_bytes bs at (length (take count into)) → count ≡ min (length bs - at) (length into) → 0 < count
    → take count (got ++ drop count into) ≡ take (length into) (drop at bs)
read_front got into bs at count e n some =
    let whole : length (take count into) ≡ count = length-take-le count into (omega arith) in
    let read : got ≡ get_bytes bs at count = e ∙ ap (get_bytes bs at) whole in
    let long : length got ≡ count = ap length read ∙ length-get_bytes bs at count in
    take_at got (drop count into) count long ∙ read ∙ get_is_taken bs at count (omega arith)
    ∙ take_there (drop at bs) (length into) count (omega (arith, length-drop at bs))
