-- Texts, paths and messages that calls bring are short.
use Rattle.std.proofs.Common.{◌≡◌, ℕ, zero, suc, ◌+◌, ◌<◌, ◌≤◌, ◌==◌, ◌&&◌, ◌||◌, min, Bool, true, false, not, List, [], ◌∷◌, ◌++◌, length, take, drop, replicate, Option, Some, None, Ok, Err, refl, sym, ap, ◌∙◌, subst, arith, length-append, length-take, length-drop}
use Rattle.std.specs.Prelude.{if◌then◌else◌, nat_le, slice_get, ◌-◌}
use Rattle.std.specs.List.{list_all}
use Rattle.std.specs.Str.{bytes_eq}
use Rattle.std.proofs.lemmas.Bool.{and_parts}
use Rattle.std.proofs.lemmas.Bool.Decides.{nat_tests}
use Rattle.nx_base.specs.Calls.{AreInputs}
use Rattle.nx_base.specs.declared.calls.Kind.TheVariants.{Word, In, Text, Len}
use Rattle.nx_base.specs.declared.errno.Errno.{Errno}
use Rattle.nx_base.specs.declared.errno.Errno.TheVariants as errno
use Rattle.nx_ksys.specs.declared.node.Node.{Node}
use Rattle.nx_ksys.specs.Paths.{path_of, kept_parts, normal, prefix_fault, unless, resolved_at, resolved, last_part}
use Rattle.nx_ksys.specs.Answers.{input_at}
use Rattle.nx_ksys.specs.FileCalls.{longest_file, reach, with_written, Written, written_some, written_at}
use Rattle.nx_ksys.specs.GroupCalls.{lines_from, arguments_of}
use Rattle.nx_ksys.specs.State.{Message}
use Rattle.nx_ksys.specs.QueueCalls.{without_oldest}
use Rattle.nx_ksys.specs.ByteLaws.{Each}
use Rattle.nx_ksys.proofs.Standing.{some_same, none_some, eq_to}
use Rattle.nx_ksys.proofs.ByteWalks.{each_none, each_more, each_rest}
use Rattle.nx_ksys.proofs.PathBytes.{either_is, few_lines}
use Rattle.nx_kbounds.specs.Shortness.{IsShortText, AreShortArguments, IsShortFile}

-- ---- paths

normal_short : (directory text path : List ℕ) → normal directory text ≡ Some path → length path ≤ 255
unfolding normal
normal_short directory text path e = by_test _ refl e
  where
    fits : Bool
    fits = list_all (λ p. nat_le (length p) 32) (kept_parts directory text) && nat_le (length (path_of (kept_parts directory text))) 255

    by_test : (b : Bool) → fits ≡ b → (if b then Some (path_of (kept_parts directory text)) else None) ≡ Some path → length path ≤ 255
    by_test false f q = absurd (none_some path q)
    by_test true f q =
        let parts = and_parts (list_all (λ p. nat_le (length p) 32) (kept_parts directory text)) (nat_le (length (path_of (kept_parts directory text))) 255) f in
        let short : nat_le (length (path_of (kept_parts directory text))) 255 ≡ true = parts.1 in
        let is = ap length (some_same (path_of (kept_parts directory text)) path q) in
        grind (arith, nat_tests)

pub resolved_short : (entries : List (List ℕ × Node)) (directory text path : List ℕ) → resolved entries directory text ≡ Ok path → length path ≤ 255
unfolding resolved
resolved_short entries directory text path e = by_empty (bytes_eq text []) e
  where
    by_fault : (p : List ℕ) → length p ≤ 255 → (o : Option Errno) → unless o p ≡ Ok path → length path ≤ 255
    by_fault p h None q = let same : p ≡ path = cc in subst (λ v. length v ≤ 255) same h
    by_fault p h (Some why) q = absurd cc

    by_path : (o : Option (List ℕ)) → normal directory text ≡ o → resolved_at entries o ≡ Ok path → length path ≤ 255
    by_path None n q = absurd cc
    by_path (Some p) n q = by_fault p (normal_short directory text p n) (prefix_fault entries p) q

    by_empty : (b : Bool) → (if b then Err errno.Enoent else resolved_at entries (normal directory text)) ≡ Ok path → length path ≤ 255
    by_empty true q = absurd cc
    by_empty false q = by_path (normal directory text) refl q

last_short : (path part : List ℕ) → length (last_part part path) ≤ length part + length path
last_short [] part = omega arith
last_short (b ∷ bs) part =
    either_is (λ ls. length ls ≤ length part + suc (length bs)) (b == 47) (last_part [] bs) (last_part (part ++ b ∷ []) bs)
    (let m = last_short bs [] in omega (arith, m)) (let m = last_short bs (part ++ b ∷ []) in let n = length-append part (b ∷ []) in omega (arith, m, n))

-- ---- arguments

lines_short : (bs line : List ℕ) (n : ℕ) → length line + length bs ≤ n → Each (λ l. length l ≤ n) (lines_from line bs)
lines_short [] line n le = each_none (λ (l : List ℕ). length l ≤ n)
lines_short (b ∷ bs) line n le =
    either_is (Each (λ l. length l ≤ n)) (b == 10) (line ∷ lines_from [] bs) (lines_from (line ++ b ∷ []) bs)
    (each_more (λ (l : List ℕ). length l ≤ n) line (lines_from [] bs) (omega (arith, le)) (lines_short bs [] n (omega (arith, le))))
    (lines_short bs (line ++ b ∷ []) n (let m = length-append line (b ∷ []) in omega (arith, m, le)))

pub arguments_short : (path text : List ℕ) → length path ≤ 255 → length text ≤ 260 → AreShortArguments (last_part [] path ∷ arguments_of text)
arguments_short path text p t = record {
  few = (let f = few_lines text [] in omega (arith, f, t));
  each = each_more IsShortText (last_part [] path) (arguments_of text) (let l = last_short path [] in omega (arith, l, p)) (lines_short text [] 260 (omega (arith, t)));
}

-- ---- inputs

no_input : (inputs : List (List ℕ)) (i n : ℕ) → inputs ≡ [] → length (input_at inputs i) ≤ n
no_input inputs i n e = subst (λ v. length (input_at v i) ≤ n) (sym e) (omega arith)

pub second_text : (words : List ℕ) (inputs : List (List ℕ)) → AreInputs (Text ∷ Text ∷ Word ∷ []) words inputs → length (input_at inputs 1) ≤ 260
second_text [] inputs a = no_input inputs 1 260 a
second_text (w ∷ words) [] a = absurd a
second_text (w ∷ []) (i ∷ inputs) a = no_input inputs 0 260 a.1
second_text (w ∷ v ∷ words) (i ∷ []) a = absurd a.1
second_text (w ∷ v ∷ words) (i ∷ j ∷ inputs) a = a.1.0

pub sent_bytes : (words : List ℕ) (inputs : List (List ℕ)) → AreInputs (Word ∷ In ∷ Len ∷ Word ∷ []) words inputs → length (input_at inputs 0) ≤ 4096
sent_bytes [] inputs a = no_input inputs 0 4096 a
sent_bytes (w ∷ []) inputs a = no_input inputs 0 4096 a
sent_bytes (w ∷ v ∷ words) [] a = absurd a
sent_bytes (w ∷ v ∷ words) (i ∷ inputs) a = let e = a.0 in omega (arith, e)

-- ---- files

written_length : (content : List ℕ) (at n : ℕ) (bytes : List ℕ) → at + n ≤ 4194304 → IsShortFile content → IsShortFile (with_written content at (take n bytes))
unfolding with_written
written_length content at n bytes le h =
    let a = length-take at (content ++ replicate (at - length content) 0) in
    let b = length-take n bytes in
    let c = length-drop (at + length (take n bytes)) content in
    let d = length-append (take at (content ++ replicate (at - length content) 0) ++ take n bytes) (drop (at + length (take n bytes)) content) in
    let e = length-append (take at (content ++ replicate (at - length content) 0)) (take n bytes) in
    omega (arith, a, b, c, d, e, le, h)

pub written_short : (free at : ℕ) (content bytes : List ℕ) (w : Written) → written_at free content at bytes ≡ Ok w → IsShortFile content → IsShortFile w.content
written_short free at content bytes w e h = by_place (nat_le longest_file at) e
  where
    m : ℕ
    m = min (length bytes) (reach free (length content) - at)

    by_count : (t : Bool) → (m == 0) ≡ t → (if t then Err errno.Enospc else Ok (record { content = with_written content at (take m bytes); count = m; end = at + m })) ≡ Ok w → IsShortFile w.content
    by_count true f q = absurd cc
    by_count false f q =
        let same : (let v : Written = record { content = with_written content at (take m bytes); count = m; end = at + m } in v) ≡ w = cc in
        let some : 0 < m = grind (arith, nat_tests) in
        subst (λ v. IsShortFile v.content) same (written_length content at m bytes (omega (arith, some)) h)

    by_place : (t : Bool) → (if t then Err errno.Efbig else written_some content at bytes m) ≡ Ok w → IsShortFile w.content
    by_place true q = absurd cc
    by_place false q = by_count (m == 0) refl q

-- ---- messages

pub fewer_messages : (priority : ℕ) (ms : List Message) (P : Message → Type 0) → Each P ms → Each P (without_oldest priority ms)
fewer_messages priority [] P h = h
fewer_messages priority (m ∷ ms) P h =
    either_is (Each P) (m.priority == priority) ms (m ∷ without_oldest priority ms) (each_rest P m ms h)
    (each_more P m (without_oldest priority ms) (h 0 m refl) (fewer_messages priority ms P (each_rest P m ms h)))

off : {b : Bool} → b ≡ false → b ≡ true → ⊥
off u v = cc

pub one_less : (priority : ℕ) (ms : List Message) (m : Message) (i : ℕ) → slice_get ms i ≡ Some m → m.priority ≡ priority → length (without_oldest priority ms) + 1 ≡ length ms
one_less priority [] m i e p = absurd (none_some m e)
one_less priority (n ∷ ms) m i e p = by_test (n.priority == priority) refl i e (λ j g. one_less priority ms m j g p)
  where
    by_test : (b : Bool) → (n.priority == priority) ≡ b → (i : ℕ) → slice_get (n ∷ ms) i ≡ Some m → ((j : ℕ) → slice_get ms j ≡ Some m → length (without_oldest priority ms) + 1 ≡ length ms) → length (if b then ms else n ∷ without_oldest priority ms) + 1 ≡ suc (length ms)
    by_test true f j g more = omega arith
    by_test false f zero g more = absurd (off f (eq_to n.priority priority (ap (λ v. v.priority) (some_same n m g) ∙ p)))
    by_test false f (suc j) g more = let r = more j g in omega (arith, r)

-- ---- tests

pub or_false : (a b : Bool) → (a || b) ≡ false → b ≡ false
or_false true b e = absurd cc
or_false false b e = e

pub not_false : (a : Bool) → not a ≡ false → a ≡ true
not_false true e = refl
not_false false e = absurd cc

pub or_first : (a b : Bool) → (a || b) ≡ false → a ≡ false
or_first true b e = absurd cc
or_first false b e = refl
