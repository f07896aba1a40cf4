-- Paths, names and arguments that come of bytes are bytes.
use Rattle.std.proofs.Common.{◌≡◌, ℕ, suc, ◌≤◌, ◌==◌, ◌||◌, Bool, true, false, List, [], ◌∷◌, ◌++◌, length, drop, Option, Some, None, Ok, Err, refl, subst, arith}
use Rattle.std.specs.Prelude.{if◌then◌else◌, codes}
use Rattle.std.specs.List.{list_any}
use Rattle.std.specs.Str.{bytes_eq}
use Rattle.nx_base.specs.ByteLists.{AreBytes}
use Rattle.nx_base.specs.declared.errno.Errno.{Errno}
use Rattle.nx_base.specs.declared.errno.Errno.TheVariants as errno
use Rattle.nx_ksys.specs.declared.node.Node.{Node}
use Rattle.nx_ksys.specs.Paths.{parts_from, parts_of, but_last, with_part, kept_from, path_of, is_absolute, from_directory, kept_parts, normal, prefix_fault, unless, resolved_at, resolved, is_in, last_part, name_in, child_name, before, nth_step, nth_from, nth_name, renamed, shown}
use Rattle.nx_ksys.specs.GroupCalls.{lines_from}
use Rattle.nx_ksys.specs.ByteLaws.{Each}
use Rattle.nx_ksys.proofs.Standing.{some_same, none_some}
use Rattle.nx_ksys.proofs.ByteWalks.{no_bytes, more_bytes, rest_bytes, joined_bytes, later_bytes, each_none, each_more, each_rest, each_joined}

pub either_is : {A : Type 0} (P : A → Type 0) (b : Bool) (x y : A) → P x → P y → P (if b then x else y)
either_is P true x y p q = p
either_is P false x y p q = q

parts_bytes : (bs front : List ℕ) → AreBytes front → AreBytes bs → Each AreBytes (parts_from front bs)
parts_bytes [] front f h = each_more AreBytes front [] f (each_none AreBytes)
parts_bytes (b ∷ bs) front f h =
    either_is (Each AreBytes) (b == 47) (front ∷ parts_from [] bs) (parts_from (front ++ b ∷ []) bs)
    (each_more AreBytes front (parts_from [] bs) f (parts_bytes bs [] no_bytes (rest_bytes b bs h)))
    (parts_bytes bs (front ++ b ∷ []) (joined_bytes front (b ∷ []) f (more_bytes b [] (h 0) no_bytes)) (rest_bytes b bs h))

but_last_bytes : (ps : List (List ℕ)) → Each AreBytes ps → Each AreBytes (but_last ps)
but_last_bytes [] h = h
but_last_bytes (p ∷ []) h = each_none AreBytes
but_last_bytes (p ∷ q ∷ ps) h = each_more AreBytes p (but_last (q ∷ ps)) (h 0 p refl) (but_last_bytes (q ∷ ps) (each_rest AreBytes p (q ∷ ps) h))

part_bytes : (kept : List (List ℕ)) (part : List ℕ) → Each AreBytes kept → AreBytes part → Each AreBytes (with_part kept part)
part_bytes kept part h g =
    either_is (Each AreBytes) (bytes_eq part [] || bytes_eq part (codes ".")) kept (if bytes_eq part (codes "..") then but_last kept else kept ++ part ∷ []) h
    (either_is (Each AreBytes) (bytes_eq part (codes "..")) (but_last kept) (kept ++ part ∷ []) (but_last_bytes kept h) (each_joined AreBytes kept (part ∷ []) h (each_more AreBytes part [] g (each_none AreBytes))))

kept_bytes : (parts kept : List (List ℕ)) → Each AreBytes kept → Each AreBytes parts → Each AreBytes (kept_from kept parts)
kept_bytes [] kept h g = h
kept_bytes (part ∷ parts) kept h g = kept_bytes parts (with_part kept part) (part_bytes kept part h (g 0 part refl)) (each_rest AreBytes part parts g)

path_bytes : (ps : List (List ℕ)) → Each AreBytes ps → AreBytes (path_of ps)
path_bytes [] h = no_bytes
path_bytes (p ∷ ps) h = more_bytes 47 (p ++ path_of ps) (omega arith) (joined_bytes p (path_of ps) (h 0 p refl) (path_bytes ps (each_rest AreBytes p ps h)))

normal_bytes : (directory text path : List ℕ) → AreBytes directory → AreBytes text → normal directory text ≡ Some path → AreBytes path
unfolding normal
normal_bytes directory text path d t e = by_test _ e
  where
    from : AreBytes (from_directory directory text)
    from = either_is AreBytes (is_absolute text) text (directory ++ 47 ∷ text) t (joined_bytes directory (47 ∷ text) d (more_bytes 47 text (omega arith) t))

    kept : Each AreBytes (kept_parts directory text)
    kept = kept_bytes (parts_of (from_directory directory text)) [] (each_none AreBytes) (parts_bytes (from_directory directory text) [] no_bytes from)

    by_test : (b : Bool) → (if b then Some (path_of (kept_parts directory text)) else None) ≡ Some path → AreBytes path
    by_test true q = subst AreBytes (some_same (path_of (kept_parts directory text)) path q) (path_bytes (kept_parts directory text) kept)
    by_test false q = absurd (none_some path q)

pub resolved_bytes : (entries : List (List ℕ × Node)) (directory text path : List ℕ) → AreBytes directory → AreBytes text → resolved entries directory text ≡ Ok path → AreBytes path
unfolding resolved
resolved_bytes entries directory text path d t e = by_empty (bytes_eq text []) e
  where
    by_fault : (p : List ℕ) → AreBytes p → (o : Option Errno) → unless o p ≡ Ok path → AreBytes path
    by_fault p h None q = let same : p ≡ path = cc in subst AreBytes same h
    by_fault p h (Some why) q = absurd cc

    by_path : (o : Option (List ℕ)) → normal directory text ≡ o → resolved_at entries o ≡ Ok path → AreBytes path
    by_path None n q = absurd cc
    by_path (Some p) n q = by_fault p (normal_bytes directory text p d t n) (prefix_fault entries p) q

    by_empty : (b : Bool) → (if b then Err errno.Enoent else resolved_at entries (normal directory text)) ≡ Ok path → AreBytes path
    by_empty true q = absurd cc
    by_empty false q = by_path (normal directory text) refl q

pub last_bytes : (path part : List ℕ) → AreBytes part → AreBytes path → AreBytes (last_part part path)
last_bytes [] part p h = p
last_bytes (b ∷ bs) part p h =
    either_is AreBytes (b == 47) (last_part [] bs) (last_part (part ++ b ∷ []) bs) (last_bytes bs [] no_bytes (rest_bytes b bs h))
    (last_bytes bs (part ++ b ∷ []) (joined_bytes part (b ∷ []) p (more_bytes b [] (h 0) no_bytes)) (rest_bytes b bs h))

pub renamed_bytes : (first second path : List ℕ) → AreBytes second → AreBytes path → AreBytes (renamed first second path)
renamed_bytes first second path s p = either_is AreBytes (is_in first path) (second ++ drop (length first) path) path (joined_bytes second (drop (length first) path) s (later_bytes (length first) path p)) p

pub shown_bytes : (directory : List ℕ) → AreBytes directory → AreBytes (shown directory)
shown_bytes [] h = more_bytes 47 [] (omega arith) no_bytes
shown_bytes (b ∷ bs) h = h

name_bytes : (path name : List ℕ) → AreBytes path → name_in path ≡ Some name → AreBytes name
name_bytes [] name h e = absurd (none_some name e)
name_bytes (b ∷ bs) name h e = by_test (list_any (λ c. c == 47) bs) e
  where
    by_test : (t : Bool) → (if t then None else Some bs) ≡ Some name → AreBytes name
    by_test true q = absurd (none_some name q)
    by_test false q = subst AreBytes (some_same bs name q) (rest_bytes b bs h)

child_bytes : (directory path name : List ℕ) → AreBytes path → child_name directory path ≡ Some name → AreBytes name
child_bytes directory path name h e = by_test (is_in directory path) e
  where
    by_test : (t : Bool) → (if t then name_in (drop (length directory) path) else None) ≡ Some name → AreBytes name
    by_test true q = name_bytes (drop (length directory) path) name (later_bytes (length directory) path h) q
    by_test false q = absurd (none_some name q)

nth_bytes : (all : List (List ℕ × Node)) (directory : List ℕ) (index : ℕ) (es : List (List ℕ × Node)) (e : List ℕ × Node) → Each (λ f. AreBytes f.0) es → nth_from all directory index es ≡ Some e → AreBytes e.0
nth_bytes all directory index [] e h q = absurd (none_some e q)
nth_bytes all directory index (f ∷ es) e h q = by_name (child_name directory f.0) refl q (nth_bytes all directory index es e (each_rest (λ g. AreBytes g.0) f es h))
  where
    by_name : (o : Option (List ℕ)) → child_name directory f.0 ≡ o → nth_step all directory index f.1 (nth_from all directory index es) o ≡ Some e → (nth_from all directory index es ≡ Some e → AreBytes e.0) → AreBytes e.0
    by_name None n r more = more r
    by_name (Some name) n r more = by_test (before directory name all == index) r
      where
        by_test : (b : Bool) → (if b then Some (name, f.1) else nth_from all directory index es) ≡ Some e → AreBytes e.0
        by_test true s = let named : AreBytes name = child_bytes directory f.0 name (h 0 f refl) n in subst (λ g. AreBytes g.0) (some_same (name, f.1) e s) named
        by_test false s = more s

pub nth_name_bytes : (directory : List ℕ) (index : ℕ) (entries : List (List ℕ × Node)) (e : List ℕ × Node) → Each (λ f. AreBytes f.0) entries → nth_name directory index entries ≡ Some e → AreBytes e.0
unfolding nth_name
nth_name_bytes directory index entries e h q = nth_bytes entries directory index entries e h q

pub lines_bytes : (bs line : List ℕ) → AreBytes line → AreBytes bs → Each AreBytes (lines_from line bs)
lines_bytes [] line l h = each_none AreBytes
lines_bytes (b ∷ bs) line l h =
    either_is (Each AreBytes) (b == 10) (line ∷ lines_from [] bs) (lines_from (line ++ b ∷ []) bs)
    (each_more AreBytes line (lines_from [] bs) l (lines_bytes bs [] no_bytes (rest_bytes b bs h)))
    (lines_bytes bs (line ++ b ∷ []) (joined_bytes line (b ∷ []) l (more_bytes b [] (h 0) no_bytes)) (rest_bytes b bs h))

-- no more lines than bytes
pub few_lines : (bs line : List ℕ) → length (lines_from line bs) ≤ length bs
few_lines [] line = omega arith
few_lines (b ∷ bs) line =
    either_is (λ ls. length ls ≤ suc (length bs)) (b == 10) (line ∷ lines_from [] bs) (lines_from (line ++ b ∷ []) bs)
    (let m = few_lines bs [] in omega (arith, m)) (let m = few_lines bs (line ++ b ∷ []) in omega (arith, m))
