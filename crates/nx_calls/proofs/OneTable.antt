-- A text gives one table under the same meanings.
use Rattle.std.proofs.Common.{◌≡◌, ℕ, ◌+◌, Bool, true, false, List, [], ◌∷◌, ◌++◌, length, Option, None, Some, Result, Ok, Err, refl, sym, ◌∙◌, ap, subst, arith}
use Rattle.csv.specs.Machine.{Read, next_record}
use Rattle.csv.specs.Reading.{AreRecords, Reached}
use Rattle.csv.specs.declared.parser.Config.{Config}
use Rattle.csv.specs.declared.parser.State.{State}
use Rattle.nx_grammar.proofs.Results.{ok_same}
use Rattle.nx_conditions.specs.declared.token.Token.{Token}
use Rattle.nx_conditions.specs.declared.condition.Condition.{Condition}
use Rattle.nx_conditions.specs.declared.meaning.Meaning.{Meaning}
use Rattle.nx_conditions.specs.Tokens.{after_blanks, AreTokens, End, More}
use Rattle.nx_conditions.specs.Grammar.{IsWhole, IsCondition}
use Rattle.nx_conditions.specs.Value.{holds}
use Rattle.nx_conditions.proofs.Complete.{condition_complete}
use Rattle.nx_calls.specs.declared.fault.CallsKind.{CallsKind}
use Rattle.nx_calls.specs.declared.fault.CallsFault.{CallsFault}
use Rattle.nx_calls.specs.declared.fault.CallsFault.TheVariants as fault
use Rattle.nx_calls.specs.declared.row.CallRow.{CallRow}
use Rattle.nx_calls.specs.Rows.{Verdict, IsWorth, IsNoCondition, Says, FewerFields, NoName, NoCondition, Left, Taken}
use Rattle.nx_calls.specs.Table.{cells_of, IsTable, IsRead, IsGiven}
use Rattle.nx_calls.proofs.RecordByRecord.{ReadsFrom, Refused, Without, With, reads_given}
use Rattle.nx_calls.proofs.RecordByRecord as reading

read_same : (p q : Read) → Some p ≡ Some q → p ≡ q
read_same p q e = cc

-- a text has one list of records
pub one_list : (cfg : Config) (s : State) (xs : List ℕ) (rows bs : List (List (List ℕ))) → AreRecords cfg s xs rows → AreRecords cfg s xs bs → rows ≡ bs
unfolding Reached
one_list cfg s xs [] [] h k = refl
one_list cfg s xs [] (b ∷ bs) h k =
    let none : next_record cfg s [] [] xs ≡ None = rw (h.2.0, h.2.1) h.3 in
    let some : next_record cfg s [] [] xs ≡ Some k.2.0 = k.2.1 in
    cc
one_list cfg s xs (a ∷ rows) [] h k =
    let none : next_record cfg s [] [] xs ≡ None = rw (k.2.0, k.2.1) k.3 in
    let some : next_record cfg s [] [] xs ≡ Some h.2.0 = h.2.1 in
    cc
one_list cfg s xs (a ∷ rows) (b ∷ bs) h k =
    let same : k.2.0 ≡ h.2.0 = read_same k.2.0 h.2.0 (sym k.2.1 ∙ h.2.1) in
    let P : Read → Type 0 = λ p. AreRecords cfg p.1 p.2 bs in
    let rest : AreRecords cfg h.2.0.1 h.2.0.2 bs = subst P same (k.0, k.1, k.2.3, k.3) in
    let tails : rows ≡ bs = one_list cfg h.2.0.1 h.2.0.2 rows bs (h.0, h.1, h.2.3, h.3) rest in
    let heads : a ≡ b = h.2.2 ∙ sym (ap (λ (p : Read). p.0) same) ∙ sym k.2.2 in
    cc

found_same : (t u : Token) (r s : List ℕ) → (let o : Option (Token × List ℕ) = Some (t, r) in o) ≡ Some (u, s) → (t ≡ u) × (r ≡ s)
found_same t u r s e = let p : (t, r) ≡ (u, s) = cc in (ap (λ (x : Token × List ℕ). x.0) p, ap (λ (x : Token × List ℕ). x.1) p)

-- bytes have one list of tokens
one_spelling : (bytes : List ℕ) (ts us : List Token) → AreTokens bytes ts → AreTokens bytes us → ts ≡ us
one_spelling bytes ts us End End = refl
one_spelling bytes ts us End (More text rest t more e x) = absurd cc
one_spelling bytes ts us (More text rest t more e x) End = absurd cc
one_spelling bytes ts us (More text rest t more e x) (More text' rest' t' more' e' x') =
    let s = found_same t' t rest' rest (sym e' ∙ e) in
    let tails : more ≡ more' = one_spelling (after_blanks rest) more more' x (subst (λ r. AreTokens (after_blanks r) more') s.1 x') in
    ap (λ u. u ∷ more) (sym s.0) ∙ ap (λ v. t' ∷ v) tails

-- bytes have one tree
one_tree : (bytes : List ℕ) (a b : Condition) → IsCondition bytes a → IsCondition bytes b → a ≡ b
one_tree bytes a b p q =
    let same : p.tokens ≡ q.tokens = one_spelling (after_blanks bytes) p.tokens q.tokens p.spelled q.spelled in
    let whole : IsWhole p.tokens b = subst (λ ts. IsWhole ts b) (sym same) q.read in
    let k = condition_complete (length p.tokens) p.read (omega arith) in
    let l = condition_complete (length p.tokens) whole (omega arith) in
    (ok_same a b k.0 l.0 (sym k.1 ∙ l.1)).0

-- a condition holds or doesn't
one_worth : (means : List ℕ → Option Meaning) (text : List ℕ) (a b : Bool) → IsWorth means text a → IsWorth means text b → a ≡ b
one_worth means text a b p q = sym p.holds ∙ ap (holds means) (one_tree text p.tree q.tree p.read q.read) ∙ q.holds

no_worth : (means : List ℕ → Option Meaning) (text : List ℕ) (b : Bool) → IsNoCondition text → IsWorth means text b → ⊥
no_worth means text b n w = n w.short w.tree w.read

false_true : false ≡ true → ⊥
false_true e = cc

-- a row says one thing
pub one_verdict : (means : List ℕ → Option Meaning) (rows : List CallRow) (fields : List (List ℕ)) (v w : Verdict) → Says means rows fields v → Says means rows fields w → v ≡ w
one_verdict means rows fields v w (FewerFields fs l) (FewerFields fs' l') = refl
one_verdict means rows fields v w (FewerFields fs l) (NoName name header condition given types n) = absurd (omega arith)
one_verdict means rows fields v w (FewerFields fs l) (NoCondition name header condition given types n c) = absurd (omega arith)
one_verdict means rows fields v w (FewerFields fs l) (Left name header condition given types n c) = absurd (omega arith)
one_verdict means rows fields v w (FewerFields fs l) (Taken name header condition given types n c) = absurd (omega arith)
one_verdict means rows fields v w (NoName name header condition given types n) (FewerFields fs l) = absurd (omega arith)
one_verdict means rows fields v w (NoName name header condition given types n) (NoName name' header' condition' given' types' n') = refl
one_verdict means rows fields v w (NoName name header condition given types n) (NoCondition name' header' condition' given' types' n' c') = absurd (false_true (sym n ∙ n'))
one_verdict means rows fields v w (NoName name header condition given types n) (Left name' header' condition' given' types' n' c') = absurd (false_true (sym n ∙ n'))
one_verdict means rows fields v w (NoName name header condition given types n) (Taken name' header' condition' given' types' n' c') = absurd (false_true (sym n ∙ n'))
one_verdict means rows fields v w (NoCondition name header condition given types n c) (FewerFields fs l) = absurd (omega arith)
one_verdict means rows fields v w (NoCondition name header condition given types n c) (NoName name' header' condition' given' types' n') = absurd (false_true (sym n' ∙ n))
one_verdict means rows fields v w (NoCondition name header condition given types n c) (NoCondition name' header' condition' given' types' n' c') = refl
one_verdict means rows fields v w (NoCondition name header condition given types n c) (Left name' header' condition' given' types' n' c') = absurd (no_worth means condition false c c')
one_verdict means rows fields v w (NoCondition name header condition given types n c) (Taken name' header' condition' given' types' n' c') = absurd (no_worth means condition true c c')
one_verdict means rows fields v w (Left name header condition given types n c) (FewerFields fs l) = absurd (omega arith)
one_verdict means rows fields v w (Left name header condition given types n c) (NoName name' header' condition' given' types' n') = absurd (false_true (sym n' ∙ n))
one_verdict means rows fields v w (Left name header condition given types n c) (NoCondition name' header' condition' given' types' n' c') = absurd (no_worth means condition false c' c)
one_verdict means rows fields v w (Left name header condition given types n c) (Left name' header' condition' given' types' n' c') = refl
one_verdict means rows fields v w (Left name header condition given types n c) (Taken name' header' condition' given' types' n' c') = absurd (false_true (one_worth means condition false true c c'))
one_verdict means rows fields v w (Taken name header condition given types n c) (FewerFields fs l) = absurd (omega arith)
one_verdict means rows fields v w (Taken name header condition given types n c) (NoName name' header' condition' given' types' n') = absurd (false_true (sym n' ∙ n))
one_verdict means rows fields v w (Taken name header condition given types n c) (NoCondition name' header' condition' given' types' n' c') = absurd (no_worth means condition true c' c)
one_verdict means rows fields v w (Taken name header condition given types n c) (Left name' header' condition' given' types' n' c') = absurd (false_true (one_worth means condition false true c' c))
one_verdict means rows fields v w (Taken name header condition given types n c) (Taken name' header' condition' given' types' n' c') = refl

kind_same : (a b : CallsKind) → (let v : Verdict = Err a in v) ≡ Err b → a ≡ b
kind_same a b e = cc

row_same : (a b : CallRow) → (let v : Verdict = Ok (Some a) in v) ≡ Ok (Some b) → a ≡ b
row_same a b e = let s : Some a ≡ Some b = cc in cc

err_not_ok : (a : CallsKind) (o : Option CallRow) → (let v : Verdict = Err a in v) ≡ Ok o → ⊥
err_not_ok a o e = cc

none_not_some : (a : CallRow) → (let v : Verdict = Ok None in v) ≡ Ok (Some a) → ⊥
none_not_some a e = let s : (let o : Option CallRow = None in o) ≡ Some a = cc in cc

abbrev Table : Type 0
Table = Result (List CallRow) CallsFault

-- records give one table
one_reading : (means : List ℕ → Option Meaning) (n : ℕ) (rows : List CallRow) (records : List (List (List ℕ))) (r q : Table) → ReadsFrom means n rows records r → ReadsFrom means n rows records q → r ≡ q
one_reading means n rows records r q (reading.End m old) (reading.End m' old') = refl
one_reading means n rows records r q (Refused m old fields rest kind s) (Refused m' old' fields' rest' kind' s') =
    ap (λ k. Err (fault.Text m k)) (kind_same kind kind' (one_verdict means old (cells_of fields) (Err kind) (Err kind') s s'))
one_reading means n rows records r q (Refused m old fields rest kind s) (Without m' old' fields' rest' r' s' x') = absurd (err_not_ok kind None (one_verdict means old (cells_of fields) _ _ s s'))
one_reading means n rows records r q (Refused m old fields rest kind s) (With m' old' fields' rest' row' r' s' x') = absurd (err_not_ok kind (Some row') (one_verdict means old (cells_of fields) _ _ s s'))
one_reading means n rows records r q (Without m old fields rest r' s x) (Refused m' old' fields' rest' kind' s') = absurd (err_not_ok kind' None (one_verdict means old (cells_of fields) _ _ s' s))
one_reading means n rows records r q (Without m old fields rest r' s x) (Without m' old' fields' rest' r'' s' x') = one_reading means (m + 1) old rest r' r'' x x'
one_reading means n rows records r q (Without m old fields rest r' s x) (With m' old' fields' rest' row' r'' s' x') = absurd (none_not_some row' (one_verdict means old (cells_of fields) _ _ s s'))
one_reading means n rows records r q (With m old fields rest row r' s x) (Refused m' old' fields' rest' kind' s') = absurd (err_not_ok kind' (Some row) (one_verdict means old (cells_of fields) _ _ s' s))
one_reading means n rows records r q (With m old fields rest row r' s x) (Without m' old' fields' rest' r'' s' x') = absurd (none_not_some row (one_verdict means old (cells_of fields) _ _ s' s))
one_reading means n rows records r q (With m old fields rest row r' s x) (With m' old' fields' rest' row' r'' s' x') =
    let same : row' ≡ row = row_same row' row (one_verdict means old (cells_of fields) _ _ s' s) in
    one_reading means (m + 1) (old ++ row ∷ []) rest r' r'' x (subst (λ c. ReadsFrom means (m + 1) (old ++ c ∷ []) rest r'') same x')

-- a text gives one table
pub one_table : (means : List ℕ → Option Meaning) (text : List ℕ) (r q : Table) → IsTable means text r → IsTable means text q → r ≡ q
one_table means text r q a b =
    let same : a.records ≡ b.records = one_list _ _ _ a.records b.records a.are b.are in
    one_reading means 1 [] a.records r q (reads_given means a.records r a.give) (subst (λ records. ReadsFrom means 1 [] records q) (sym same) (reads_given means b.records q b.give))

-- what was read is the only table of the text
pub given_by : (means : List ℕ → Option Meaning) (text : List ℕ) (result r : Table) → IsRead means text result → IsTable means text r → IsGiven result r
given_by means text (Ok rows) r h k = one_table means text r (Ok rows) k h
given_by means text (Err fault.Memory) r h k = tt
given_by means text (Err (fault.Text n kind)) r h k = one_table means text r (Err (fault.Text n kind)) k h
