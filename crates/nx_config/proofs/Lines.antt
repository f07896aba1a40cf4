-- Lines one by one.
use Rattle.std.proofs.Common.{◌≡◌, ℕ, suc, ◌+◌, take, drop, not, eqb, Bool, true, false, cond, List, [], ◌∷◌, ◌++◌, Option, None, Some, Ok, refl, sym, ap, ◌∙◌, ◌||◌, ltb, if◌then◌else◌, ◌<◌, length, arith}
use Rattle.std.specs.Map.{lookup, keys_of}
use Rattle.std.specs.Option.{option_or}
use Rattle.std.specs.Str.{bytes_eq}
use Rattle.nx_config.specs.declared.fault.ConfigKind.{ConfigKind}
use Rattle.nx_config.specs.declared.value.Kept.{Kept}
use Rattle.indexmap.specs.IndexMap.{insert_entry}
use Rattle.std.specs.List.{list_any, onto_first, position_or_len, before_first, after_first}
use Rattle.std.proofs.Math.Numerals.{one-add}
use Rattle.nx_config.specs.declared.value.Assignment.{Assignment}
use Rattle.nx_config.proofs.Entries.{keys_put, lookup_put}
use Rattle.nx_base.specs.TextBytes.{before_mark, after_mark}
use Rattle.nx_config.specs.Line.{says}
use Rattle.nx_config.specs.Lines.{Entry, lines_of, entries_of, entry_at, last_of, fault_after, fault_at, line_fault}
use Rattle.nx_config.proofs.LineByLine.{entries_from, entries_by_line, fault_from, fault_by_line, option_or_assoc, option_or_none}
use Rattle.nx_config.specs.declared.fault.Stop.{Stop}
use Rattle.nx_config.specs.declared.fault.Stop.TheVariants as stop
use Rattle.nx_config.specs.Reading.{AddsLine, IsRefused, IsLineFault, stopped}

-- what stands before the first mark and after it, byte by byte
before_cons : (mark b : ℕ) (bs : List ℕ) → before_mark mark (b ∷ bs) ≡ cond (eqb b mark) [] (b ∷ before_mark mark bs)
before_cons mark b bs = by (eqb b mark)
  where
    place : ℕ
    place = position_or_len (λ x. eqb x mark) bs

    by : (t : Bool) → take (cond (not t) (1 + place) 0) (b ∷ bs) ≡ cond t [] (b ∷ take place bs)
    by true = refl
    by false = ap (λ n. take n (b ∷ bs)) (one-add place)

after_cons : (mark b : ℕ) (bs : List ℕ) → after_mark mark (b ∷ bs) ≡ cond (eqb b mark) bs (after_mark mark bs)
after_cons mark b bs = by (eqb b mark)
  where
    place : ℕ
    place = position_or_len (λ x. eqb x mark) bs

    by : (t : Bool) → drop (cond (not t) (1 + place) 0 + 1) (b ∷ bs) ≡ cond t bs (drop (place + 1) bs)
    by true = refl
    by false = let e : 1 + place + 1 ≡ suc (place + 1) = omega arith in ap (λ n. drop n (b ∷ bs)) e

two_parts : (x y u v : List ℕ) → x ≡ y → u ≡ v → x ∷ lines_of u ≡ y ∷ lines_of v
two_parts x y u v e f = cc

-- a text is its first line and the lines after its first newline
pub lines_cut : (b : ℕ) (bs : List ℕ) → lines_of (b ∷ bs) ≡ before_mark 10 (b ∷ bs) ∷ lines_of (after_mark 10 (b ∷ bs))
lines_cut b [] = by (eqb b 10) ∙ sym (two_parts _ _ _ _ (before_cons 10 b []) (after_cons 10 b []))
  where
    by : (t : Bool) → cond t ([] ∷ []) ((b ∷ []) ∷ []) ≡ cond t [] (b ∷ []) ∷ lines_of (cond t [] [])
    by true = refl
    by false = refl
lines_cut b (c ∷ cs) = by (eqb b 10) (c ∷ cs) (ap (onto_first b) (lines_cut c cs)) ∙ sym (two_parts _ _ _ _ (before_cons 10 b (c ∷ cs)) (after_cons 10 b (c ∷ cs)))
  where
    by : (t : Bool) (bs : List ℕ) → onto_first b (lines_of bs) ≡ (b ∷ before_mark 10 bs) ∷ lines_of (after_mark 10 bs) → cond t ([] ∷ lines_of bs) (onto_first b (lines_of bs)) ≡ cond t [] (b ∷ before_mark 10 bs) ∷ lines_of (cond t bs (after_mark 10 bs))
    by true bs h = refl
    by false bs h = h

pub last_append : (name : List ℕ) (xs ys : List Entry) → last_of name (xs ++ ys) ≡ option_or (last_of name ys) (last_of name xs)
last_append name [] ys = sym (option_or_none (last_of name ys))
last_append name (x ∷ xs) ys = let here : Option Kept = if bytes_eq name x.name then Some (record { line = x.line; value = x.value }) else None in
    ap (λ o. option_or o here) (last_append name xs ys) ∙ option_or_assoc (last_of name ys) (last_of name xs) here

-- the reading goes on after a line
pub faults_on : (line : ℕ) (text : List ℕ) (lines : List (List ℕ)) (old new : List (List ℕ × Kept)) → AddsLine line (says text) old new
    → fault_from (keys_of new) (line + 1) lines ≡ fault_from (keys_of old) line (text ∷ lines)
faults_on line text lines old new f = rw (f.names, f.good) refl

pub values_on : (line : ℕ) (text : List ℕ) (lines : List (List ℕ)) (old new : List (List ℕ × Kept)) → AddsLine line (says text) old new → (name : List ℕ)
    → option_or (last_of name (entries_from (line + 1) lines)) (lookup (bytes_eq name) new)
    ≡ option_or (last_of name (entries_from line (text ∷ lines))) (lookup (bytes_eq name) old)
values_on line text lines old new f name =
    ap (option_or (last_of name (entries_from (line + 1) lines))) (f.values name)
    ∙ sym (option_or_assoc (last_of name (entries_from (line + 1) lines)) (last_of name (entry_at line (says text))) (lookup (bytes_eq name) old))
    ∙ ap (λ o. option_or o (lookup (bytes_eq name) old)) (sym (last_append name (entry_at line (says text)) (entries_from (line + 1) lines)))

-- a refused line is the first fault
pub fault_here : (line : ℕ) (text : List ℕ) (lines : List (List ℕ)) (old : List (List ℕ × Kept)) (kind : ConfigKind) → fault_after (keys_of old) (says text) ≡ Some kind
    → fault_from (keys_of old) line (text ∷ lines) ≡ fault_at line (Some kind)
fault_here line text lines old kind h = rw h refl

-- a name is put where there is room for it
pub follows_put : (line : ℕ) (g : Assignment) (old new : List (List ℕ × Kept)) → (list_any (bytes_eq g.name) (keys_of old) || ltb (length (keys_of old)) 8192) ≡ true
    → new ≡ insert_entry bytes_eq old g.name (record { line = line; value = g.value }) → AddsLine line (Ok (Some g)) old new
follows_put line g old new room e = record {
  good = rw room refl;
  names = ap keys_of e ∙ keys_put old g.name (record { line = line; value = g.value });
  values = λ name. ap (lookup (bytes_eq name)) e ∙ lookup_put old g.name (record { line = line; value = g.value }) name ∙ by (bytes_eq name g.name) (lookup (bytes_eq name) old);
}
  where
    by : (b : Bool) (o : Option Kept) → cond b (Some (record { line = line; value = g.value })) o ≡ option_or (cond b (Some (record { line = line; value = g.value })) None) o
    by true o = refl
    by false o = refl

pub lines_rest : (rest : List ℕ) → 0 < length rest → lines_of rest ≡ before_mark 10 rest ∷ lines_of (after_mark 10 rest)
lines_rest [] some = absurd (omega arith)
lines_rest (b ∷ bs) some = lines_cut b bs

-- the same of the first line of what is left
pub faults_after : (line : ℕ) (rest : List ℕ) (old new : List (List ℕ × Kept)) → 0 < length rest → AddsLine line (says (before_mark 10 rest)) old new
    → fault_from (keys_of new) (line + 1) (lines_of (after_mark 10 rest)) ≡ fault_from (keys_of old) line (lines_of rest)
faults_after line rest old new some f = rw (lines_rest rest some) (faults_on line (before_mark 10 rest) (lines_of (after_mark 10 rest)) old new f)

pub values_after : (line : ℕ) (rest : List ℕ) (old new : List (List ℕ × Kept)) → 0 < length rest → AddsLine line (says (before_mark 10 rest)) old new → (name : List ℕ)
    → option_or (last_of name (entries_from (line + 1) (lines_of (after_mark 10 rest)))) (lookup (bytes_eq name) new)
    ≡ option_or (last_of name (entries_from line (lines_of rest))) (lookup (bytes_eq name) old)
values_after line rest old new some f name = rw (lines_rest rest some) (values_on line (before_mark 10 rest) (lines_of (after_mark 10 rest)) old new f name)

pub refused_here : (line : ℕ) (rest text : List ℕ) (old : List (List ℕ × Kept)) (s : Stop) → 0 < length rest → IsRefused s (says (before_mark 10 rest)) old
    → fault_from (keys_of old) line (lines_of rest) ≡ line_fault text → IsLineFault (stopped line s) text
refused_here line rest text old stop.Memory some r e = tt
refused_here line rest text old (stop.Fault kind) some r e =
    sym e ∙ ap (fault_from (keys_of old) line) (lines_rest rest some) ∙ fault_here line (before_mark 10 rest) (lines_of (after_mark 10 rest)) old kind r

-- at first no line is read
pub faults_start : (table : List (List ℕ × Kept)) (text : List ℕ) → table ≡ [] → fault_from (keys_of table) 1 (lines_of text) ≡ line_fault text
faults_start table text e = ap (λ (t : List (List ℕ × Kept)). fault_from (keys_of t) 1 (lines_of text)) e ∙ fault_by_line (lines_of text)

pub values_start : (table : List (List ℕ × Kept)) (text name : List ℕ) → table ≡ [] → option_or (last_of name (entries_from 1 (lines_of text))) (lookup (bytes_eq name) table) ≡ last_of name (entries_of text)
values_start table text name e =
    ap (λ (t : List (List ℕ × Kept)). option_or (last_of name (entries_from 1 (lines_of text))) (lookup (bytes_eq name) t)) e
    ∙ option_or_none (last_of name (entries_from 1 (lines_of text)))
    ∙ ap (last_of name) (entries_by_line 1 (lines_of text))
