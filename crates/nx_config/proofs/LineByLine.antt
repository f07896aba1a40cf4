-- The entries and the first fault of lines, as a reading finds them, line by line.
use Rattle.std.proofs.Common.{◌≡◌, ℕ, zero, suc, ◌+◌, ◌<◌, ◌≤◌, List, [], ◌∷◌, ◌++◌, length, take, drop, get_or, drop-cons, Option, None, Some, refl, sym, ap, ◌∙◌, arith, add-one}
use Rattle.std.proofs.Math.Seq.{take-suc}
use Rattle.std.proofs.Math.ListN.{drop_of_length-le}
use Rattle.std.specs.List.{enumerate_from, flat_map, fold}
use Rattle.std.specs.Option.{option_or}
use Rattle.nx_config.specs.declared.fault.ConfigFault.{ConfigFault}
use Rattle.nx_config.specs.Line.{says}
use Rattle.nx_config.specs.Lines.{Entry, entry_at, entries_in, names_after, names_in, fault_after, fault_at, fault_in, first_below}

-- the entries of lines that are counted from a number on
abbrev pub entries_from : ℕ → List (List ℕ) → List Entry
entries_from n [] = []
entries_from n (line ∷ lines) = entry_at n (says line) ++ entries_from (n + 1) lines

-- they are those of the numbered lines
pub entries_by_line : (n : ℕ) (lines : List (List ℕ)) → entries_from n lines ≡ flat_map (λ l. entry_at l.0 (says l.1)) (enumerate_from n lines)
entries_by_line n [] = refl
entries_by_line n (line ∷ lines) = ap (λ es. entry_at n (says line) ++ es) (entries_by_line (n + 1) lines)

-- the first fault of lines that are counted from a number on, after lines of these names
abbrev pub fault_from : List (List ℕ) → ℕ → List (List ℕ) → Option ConfigFault
fault_from names n [] = None
fault_from names n (line ∷ lines) =
    option_or (fault_at n (fault_after names (says line))) (fault_from (names_after names (says line)) (n + 1) lines)

pub option_or_assoc : {V : Type 0} (a b c : Option V) → option_or (option_or a b) c ≡ option_or a (option_or b c)
option_or_assoc None b c = refl
option_or_assoc (Some x) b c = refl

pub option_or_none : {V : Type 0} (a : Option V) → option_or a None ≡ a
option_or_none None = refl
option_or_none (Some x) = refl

names_more : (names : List (List ℕ)) (lines : List (List ℕ)) (line : List ℕ) →
    fold (λ ns l. names_after ns (says l)) names (lines ++ line ∷ []) ≡ names_after (fold (λ ns l. names_after ns (says l)) names lines) (says line)
names_more names [] line = refl
names_more names (l ∷ lines) line = names_more (names_after names (says l)) lines line

-- what is found up to a place, and then line by line, is the same for each place
found_from : (lines : List (List ℕ)) (k : ℕ) → k ≤ length lines →
    option_or (first_below (fault_in lines) k) (fault_from (names_in (take k lines)) (k + 1) (drop k lines)) ≡ fault_from [] 1 lines
found_from lines zero h = refl
found_from lines (suc k) h =
    let line = get_or lines k [] in
    let names = names_in (take k lines) in
    let more : names_in (take (suc k) lines) ≡ names_after names (says line) = ap names_in (take-suc lines k [] (omega arith)) ∙ names_more [] (take k lines) line in
    let rest : fault_from names (k + 1) (drop k lines) ≡ option_or (fault_in lines k) (fault_from (names_after names (says line)) (k + 1 + 1) (drop (suc k) lines)) =
    ap (fault_from names (k + 1)) (drop-cons lines k [] (omega arith)) in
    let next : suc k + 1 ≡ k + 1 + 1 = omega arith in
    option_or_assoc (first_below (fault_in lines) k) (fault_in lines k) _
    ∙ ap (λ ns. option_or (first_below (fault_in lines) k) (option_or (fault_in lines k) (fault_from ns (suc k + 1) (drop (suc k) lines)))) more
    ∙ ap (λ n. option_or (first_below (fault_in lines) k) (option_or (fault_in lines k) (fault_from (names_after names (says line)) n (drop (suc k) lines)))) next
    ∙ sym (ap (option_or (first_below (fault_in lines) k)) rest)
    ∙ found_from lines k (omega arith)

-- the first fault that is found line by line is that at the first place
pub fault_by_line : (lines : List (List ℕ)) → fault_from [] 1 lines ≡ first_below (fault_in lines) (length lines)
fault_by_line lines =
    let n = length lines in
    sym (found_from lines n (omega arith))
    ∙ ap (λ rest. option_or (first_below (fault_in lines) n) (fault_from (names_in (take n lines)) (n + 1) rest)) (drop_of_length-le lines (omega arith))
    ∙ option_or_none (first_below (fault_in lines) n)
