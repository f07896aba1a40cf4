-- Files by place, of which one changes, and the rows of the calls on them.
use Rattle.std.proofs.Common.{◌≡◌, ℕ, zero, suc, ◌+◌, ◌<◌, List, [], ◌∷◌, ◌++◌, length, map, take, drop, refl, sym, ap, ◌∙◌, subst, arith, get_or, cond, replicate, add-one}
use Rattle.std.specs.Prelude.{slice_get, slice_set, Option, Some, None, Result, Ok, Err, IfErr, fold}
use Rattle.std.specs.List.{position_from, count_by}
use Rattle.std.specs.Option.{is_some, is_none}
use Rattle.std.proofs.lemmas.List.Sums.{count_by_more_yes, count_by_more_no}
use Rattle.nx_pool.specs.declared.chain.Chain.{Chain}
use Rattle.nx_pool.specs.Effects.{IsHeld, Becomes, Comes, Goes}
use Rattle.nx_pool.specs.Moves.{AreHeld}
use Rattle.nx_pool.specs.Chains.{total_blocks}
use Rattle.nx_pool.proofs.Holders.{Step, step_set, place_held, one_is_held, Moves-becomes, Moves-comes, Moves-goes}
use Rattle.nx_base.specs.declared.errno.Errno.{Errno}
use Rattle.nx_base.specs.declared.errno.Errno.TheVariants.{Ebadf}
use Rattle.nx_ksys.specs.declared.node.Open.{Open}
use Rattle.nx_ksys.specs.Threads.{flat}
use Rattle.nx_ksys.specs.State.{KernelState, free_blocks, file_blocks}
use Rattle.nx_ksys.specs.Answers.{Caller, replied, failed}
use Rattle.nx_ksys.specs.FileCalls.{written_at, write_place, write_file, file_written, with_open, read_file}
use Rattle.nx_fs.specs.declared.bytes.Moved.{Moved}
use Rattle.nx_fs.specs.Chains.{chains_in, chains_of, bytes_in, files_of, AreSized}
use Rattle.nx_fs.specs.Rows.{with_files, opened_at, as_written, write_told, read_told}

file_law : (content content' : Chain → List ℕ) (h : Option Chain) → map content' (chains_in h) ≡ map content (chains_in h) → bytes_in content' h ≡ bytes_in content h
file_law content content' None e = refl
file_law content content' (Some c) e = let k : content' c ≡ content c = cc in ap Some k

-- ---- the chain at a place

pub get_some : (cs : List (Option Chain)) (p : ℕ) (c : Chain) → get_or cs p None ≡ Some c → slice_get cs p ≡ Some (Some c)
get_some [] p c e = absurd cc
get_some (x ∷ xs) zero c e = ap Some e
get_some (x ∷ xs) (suc p) c e = get_some xs p c e

pub get_none : (cs : List (Option Chain)) (p : ℕ) → p < length cs → get_or cs p None ≡ None → slice_get cs p ≡ Some None
get_none [] p l e = absurd (omega arith)
get_none (x ∷ xs) zero l e = ap Some e
get_none (x ∷ xs) (suc p) l e = get_none xs p (omega arith) e

pub flat_some : (cs : List (Option Chain)) (p : ℕ) (c : Chain) → flat (slice_get cs p) ≡ Some c → slice_get cs p ≡ Some (Some c)
flat_some [] p c e = absurd cc
flat_some (x ∷ xs) zero c e = ap Some e
flat_some (x ∷ xs) (suc p) c e = flat_some xs p c e

pub get_file : (content : Chain → List ℕ) (cs : List (Option Chain)) (p : ℕ) → flat (slice_get (files_of content cs) p) ≡ bytes_in content (flat (slice_get cs p))
get_file content [] p = refl
get_file content (x ∷ xs) zero = refl
get_file content (x ∷ xs) (suc p) = get_file content xs p

pub chain_held : (holds : List Chain → Type 0) (cs : List (Option Chain)) (p : ℕ) (c : Chain) → AreHeld holds (chains_of cs) → slice_get cs p ≡ Some (Some c) → IsHeld holds c
chain_held holds cs p c held e = one_is_held holds c (place_held chains_in bytes_in file_law holds cs p (Some c) held e)

pub step_become : (holds holds' : List Chain → Type 0) (content content' : Chain → List ℕ) (cs : List (Option Chain)) (p : ℕ) (c c' : Chain) (bytes : List ℕ) → AreHeld holds (chains_of cs) → slice_get cs p ≡ Some (Some c) → Becomes holds holds' content content' c c' bytes
    → Step chains_in bytes_in holds holds' content content' cs (slice_set cs p (Some c')) (slice_set (files_of content cs) p (Some bytes))
step_become holds holds' content content' cs p c c' bytes held e b =
    step_set chains_in bytes_in file_law holds holds' content content' cs p (Some c) (Some c') (Some bytes) held e (Moves-becomes holds holds' content content' c c' bytes b) (ap Some b.own)

pub step_come : (holds holds' : List Chain → Type 0) (content content' : Chain → List ℕ) (cs : List (Option Chain)) (p : ℕ) (c' : Chain) (bytes : List ℕ) → AreHeld holds (chains_of cs) → slice_get cs p ≡ Some None → Comes holds holds' content content' c' bytes
    → Step chains_in bytes_in holds holds' content content' cs (slice_set cs p (Some c')) (slice_set (files_of content cs) p (Some bytes))
step_come holds holds' content content' cs p c' bytes held e b =
    step_set chains_in bytes_in file_law holds holds' content content' cs p None (Some c') (Some bytes) held e (Moves-comes holds holds' content content' c' bytes b) (ap Some b.own)

pub step_go : (holds holds' : List Chain → Type 0) (content content' : Chain → List ℕ) (cs : List (Option Chain)) (p : ℕ) (c : Chain) → AreHeld holds (chains_of cs) → slice_get cs p ≡ Some (Some c) → Goes holds holds' content content' c
    → Step chains_in bytes_in holds holds' content content' cs (slice_set cs p None) (slice_set (files_of content cs) p None)
step_go holds holds' content content' cs p c held e b =
    step_set chains_in bytes_in file_law holds holds' content content' cs p (Some c) None None held e (Moves-goes holds holds' content content' c b) refl

-- ---- nothing at a place changes

pub set_same : {A : Type 0} (xs : List A) (p : ℕ) (x : A) → slice_get xs p ≡ Some x → slice_set xs p x ≡ xs
set_same [] p x e = refl
set_same (y ∷ ys) zero x e = let k : y ≡ x = cc in ap (λ q. q ∷ ys) (sym k)
set_same (y ∷ ys) (suc p) x e = ap (λ q. y ∷ q) (set_same ys p x e)

pub set_again : {A : Type 0} (xs : List A) (p : ℕ) (x y : A) → slice_set (slice_set xs p x) p y ≡ slice_set xs p y
set_again [] p x y = refl
set_again (z ∷ zs) zero x y = refl
set_again (z ∷ zs) (suc p) x y = ap (λ q. z ∷ q) (set_again zs p x y)

pub get_files : (content : Chain → List ℕ) (cs : List (Option Chain)) (p : ℕ) (o : Option Chain) → slice_get cs p ≡ Some o → slice_get (files_of content cs) p ≡ Some (bytes_in content o)
get_files content [] p o e = absurd cc
get_files content (x ∷ xs) zero o e = let k : x ≡ o = cc in ap (λ q. Some (bytes_in content q)) k
get_files content (x ∷ xs) (suc p) o e = get_files content xs p o e

pub set_files : (content : Chain → List ℕ) (cs : List (Option Chain)) (p : ℕ) (o : Option Chain) → files_of content (slice_set cs p o) ≡ slice_set (files_of content cs) p (bytes_in content o)
set_files content [] p o = refl
set_files content (x ∷ xs) zero o = refl
set_files content (x ∷ xs) (suc p) o = ap (λ q. bytes_in content x ∷ q) (set_files content xs p o)

pub get_set : (cs : List (Option Chain)) (p : ℕ) (o : Option Chain) → p < length cs → slice_get (slice_set cs p o) p ≡ Some o
get_set [] p o l = absurd (omega arith)
get_set (x ∷ xs) zero o l = refl
get_set (x ∷ xs) (suc p) o l = get_set xs p o (omega arith)

pub one_none_more : (n : ℕ) → replicate {A = Option Chain} n None ++ None ∷ [] ≡ replicate {A = Option Chain} (n + 1) None
one_none_more n = rw add-one (next n)
  where
    next : (m : ℕ) → replicate {A = Option Chain} m None ++ None ∷ [] ≡ replicate {A = Option Chain} (suc m) None
    next zero = refl
    next (suc m) = ap (λ q. None ∷ q) (next m)

pub none_has_chains : (n : ℕ) → chains_of (replicate n None) ≡ []
none_has_chains zero = refl
none_has_chains (suc n) = none_has_chains n

pub none_held : (holds : List Chain → Type 0) (cs : List Chain) → cs ≡ [] → holds [] → AreHeld holds cs
none_held holds cs e h = subst (AreHeld holds) (sym e) (record { before = []; after = []; held = h })

-- ---- which places have a file

pub free_of_files : (content : Chain → List ℕ) (n : ℕ) (cs : List (Option Chain)) → position_from is_none n cs ≡ position_from is_none n (files_of content cs)
free_of_files content n [] = refl
free_of_files content n (None ∷ cs) = refl
free_of_files content n (Some c ∷ cs) = free_of_files content (n + 1) cs

counted_alike : (content : Chain → List ℕ) (n : ℕ) (cs : List (Option Chain)) → fold (λ (a : ℕ) (x : Option Chain). a + cond (is_some x) 1 0) n cs ≡ fold (λ (a : ℕ) (x : Option (List ℕ)). a + cond (is_some x) 1 0) n (files_of content cs)
counted_alike content n [] = refl
counted_alike content n (None ∷ cs) = counted_alike content (n + 0) cs
counted_alike content n (Some c ∷ cs) = counted_alike content (n + 1) cs

pub count_of_files : (content : Chain → List ℕ) (cs : List (Option Chain)) → count_by is_some cs ≡ count_by is_some (files_of content cs)
count_of_files content cs = counted_alike content 0 cs

pub count_more : (cs : List (Option Chain)) (i count r : ℕ) (o : Option Chain) → i < length cs → get_or cs i o ≡ o → r ≡ cond (is_some o) 1 0 → count ≡ count_by is_some (take i cs) → count + r ≡ count_by is_some (take (i + 1) cs)
count_more cs i count r None l e k b = omega (arith, b, k, count_by_more_no is_some cs i None l (ap is_some e))
count_more cs i count r (Some c) l e k b = omega (arith, b, k, count_by_more_yes is_some cs i (Some c) l (ap is_some e))

-- ---- rows

row_of_write : (k : KernelState) (c : Caller) (at place : ℕ) (description : Open) (before after : List ℕ) (files files' : List (Option (List ℕ))) (result : Result Moved Errno)
    → slice_get files place ≡ Some (Some before) → files' ≡ slice_set files place (Some after) → IfErr result (λ e. after ≡ before)
    → file_written (with_files k files) c (opened_at at description) place (as_written after result) ≡ write_told (with_files k files') c at description result
row_of_write k c at place description before after files files' (Err e) there new same =
    let still : files' ≡ files = new ∙ ap (λ b. slice_set files place (Some b)) same ∙ set_same files place (Some before) there in
    ap (λ fs. failed (with_files k fs) c e) (sym still)
row_of_write k c at place description before after files files' (Ok m) there new same =
    ap (λ fs. replied (with_open (with_files k fs) at (record description { offset = m.end })) c m.count []) (sym new)

pub write_some : (k : KernelState) (c : Caller) (at place free start : ℕ) (description : Open) (bytes before after : List ℕ) (files files' : List (Option (List ℕ))) (result : Result Moved Errno)
    → slice_get files place ≡ Some (Some before) → free_blocks (with_files k files) ≡ free → start ≡ write_place before description
    → written_at free before start bytes ≡ as_written after result → files' ≡ slice_set files place (Some after) → IfErr result (λ e. after ≡ before)
    → write_file (with_files k files) c (opened_at at description) place bytes (flat (slice_get files place)) ≡ write_told (with_files k files') c at description result
write_some k c at place free start description bytes before after files files' result there f s told new same =
    ap (λ o. write_file (with_files k files) c (opened_at at description) place bytes (flat o)) there
    ∙ ap (λ n. file_written (with_files k files) c (opened_at at description) place (written_at n before (write_place before description) bytes)) f
    ∙ ap (λ n. file_written (with_files k files) c (opened_at at description) place (written_at free before n bytes)) (sym s)
    ∙ ap (file_written (with_files k files) c (opened_at at description) place) told
    ∙ row_of_write k c at place description before after files files' result there new same

pub write_none : (k : KernelState) (c : Caller) (at place : ℕ) (description : Open) (bytes : List ℕ) (file : Option (List ℕ)) → file ≡ None
    → write_file k c (opened_at at description) place bytes file ≡ write_told k c at description (Err Ebadf)
write_none k c at place description bytes file e = rw e refl

pub read_none : (k : KernelState) (c : Caller) (at room : ℕ) (description : Open) (bytes : List ℕ) (file : Option (List ℕ)) → file ≡ None
    → read_file k c (opened_at at description) room file ≡ read_told k c at description bytes (Err Ebadf)
read_none k c at room description bytes file e = rw e refl

pub read_some : (k : KernelState) (c : Caller) (at room count : ℕ) (description : Open) (content bytes : List ℕ) (file : Option (List ℕ)) → file ≡ Some content → bytes ≡ take room (drop description.offset content) → count ≡ length (take room (drop description.offset content))
    → read_file k c (opened_at at description) room file ≡ read_told k c at description bytes (Ok count)
read_some k c at room count description content bytes file there b n = rw (there, b, n) refl

-- ---- the blocks of the files

pub blocks_of_files : (content : Chain → List ℕ) (cs : List (Option Chain)) → AreSized content → file_blocks (files_of content cs) ≡ total_blocks (chains_of cs)
unfolding total_blocks
blocks_of_files content [] sized = refl
blocks_of_files content (None ∷ cs) sized = blocks_of_files content cs sized
blocks_of_files content (Some c ∷ cs) sized = let rest = blocks_of_files content cs sized in omega (arith, rest, sized c)
