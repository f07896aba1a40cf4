-- What a row says, from what its parts say.
use Rattle.std.proofs.Common.{◌≡◌, ℕ, suc, ◌+◌, ◌-◌, ◌<◌, ◌≤◌, ◌∙◌, add-one, drop-cons, true, List, [], ◌∷◌, ◌++◌, length, map, take, drop, get_or, Bor, Option, None, Some, Result, Ok, Err, sym, ap, subst, arith}
use Rattle.std.proofs.lemmas.Grind.{common_steps}
use Rattle.std.proofs.lemmas.List.{map-append, length-map, length-take-le, take-append-drop, take_all}
use Rattle.std.proofs.Math.Seq.{take-suc}
use Rattle.nx_conditions.specs.declared.condition.Condition.{Condition}
use Rattle.nx_conditions.specs.declared.meaning.Meaning.{Meaning}
use Rattle.nx_conditions.specs.declared.stop.ConditionStop.{ConditionStop}
use Rattle.nx_conditions.specs.declared.stop.ConditionStop.TheVariants.{Bad, Memory}
use Rattle.nx_conditions.specs.Grammar.{IsCondition}
use Rattle.nx_conditions.specs.Answers.{IsGiven}
use Rattle.nx_calls.specs.declared.fault.RowStop.{RowStop}
use Rattle.nx_calls.specs.declared.fault.RowStop.TheVariants as stop
use Rattle.nx_calls.specs.declared.row.CallRow.{CallRow}
use Rattle.nx_calls.specs.Rows.{Verdict, is_c_name, parameters, declared_row, IsWorth, Says, Taken}
use Rattle.nx_calls.specs.declared.fault.CallsFault.TheVariants as fault
use Rattle.nx_calls.specs.Table.{cells_of, HaveRows, False, True, Give, Fault, IsReadOf}
use Rattle.csv.specs.Records.{Row, fields_of}
use Rattle.nx_calls.specs.Answers.{IsVerdict, IsSaid, IsHeld, TakesRecord, fault_of}

-- a condition that was not read is none, or memory ran out
pub held_not : (means : List ℕ → Option Meaning) (text : List ℕ) (e : ConditionStop) → ((a : Condition) → IsCondition text a → IsGiven {X = Condition} (Err e) a) → IsHeld means text (Err e)
held_not means text Bad h = λ _. h
held_not means text Memory h = tt

-- a row whose condition holds says what it declares
pub said_taken : (means : List ℕ → Option Meaning) (rows : List CallRow) (name header condition given : List ℕ) (types : List (List ℕ)) (r : Result (Option CallRow) RowStop) →
    is_c_name name ≡ true → IsWorth means condition true → IsVerdict r (declared_row rows name given (parameters types)) →
    IsSaid means rows (name ∷ header ∷ condition ∷ given ∷ types) r
said_taken means rows name header condition given types (Ok row) n w e =
    let P : Verdict → Type 0 = λ v. Says means rows (name ∷ header ∷ condition ∷ given ∷ types) v in
    subst P e (Taken name header condition given types n w)
said_taken means rows name header condition given types (Err stop.Memory) n w e = tt
said_taken means rows name header condition given types (Err (stop.Fault kind)) n w e =
    let P : Verdict → Type 0 = λ v. Says means rows (name ∷ header ∷ condition ∷ given ∷ types) v in
    subst P e (Taken name header condition given types n w)

-- four or more fields, one by one
pub four_fields : (d : Bor (List ℕ)) (xs : List (Bor (List ℕ))) → 4 ≤ length xs →
    (get_or xs 0 d).now ∷ (get_or xs 1 d).now ∷ (get_or xs 2 d).now ∷ (get_or xs 3 d).now ∷ map (λ f. f.now) (take (length xs - 4) (drop 4 xs)) ≡ map (λ f. f.now) xs
four_fields d [] h = absurd (omega arith)
four_fields d (a ∷ []) h = absurd (omega arith)
four_fields d (a ∷ b ∷ []) h = absurd (omega arith)
four_fields d (a ∷ b ∷ c ∷ []) h = absurd (omega arith)
four_fields d (a ∷ b ∷ c ∷ e ∷ xs) h =
    let whole : take (length (a ∷ b ∷ c ∷ e ∷ xs) - 4) xs ≡ xs = grind (arith, common_steps) in
    ap (λ rest. a.now ∷ b.now ∷ c.now ∷ e.now ∷ map (λ f. f.now) rest) whole

-- a record that is refused
pub takes_wrong : (means : List ℕ → Option Meaning) (old seen new : List CallRow) (row : Row) (fields : List (List ℕ)) (e : RowStop) → seen ≡ old → fields ≡ cells_of (fields_of row) →
    IsSaid means seen fields (Err e) → TakesRecord means (fields_of row) old new (Err e)
takes_wrong means old seen new row fields stop.Memory s f h = tt
takes_wrong means old seen new row fields (stop.Fault kind) s f h = subst (λ rows. Says means rows (cells_of (fields_of row)) (Err kind)) s (subst (λ cells. Says means seen cells (Err kind)) f h)

-- a record whose condition doesn't hold
pub takes_none : (means : List ℕ → Option Meaning) (old seen : List CallRow) (row : Row) (fields : List (List ℕ)) → seen ≡ old → fields ≡ cells_of (fields_of row) →
    IsSaid means seen fields (Ok None) → TakesRecord means (fields_of row) old old (Ok tt)
takes_none means old seen row fields s f h = λ records have.
    False records old (fields_of row) have (subst (λ rows. Says means rows (cells_of (fields_of row)) (Ok None)) s (subst (λ cells. Says means seen cells (Ok None)) f h))

-- a record that gives a row
pub takes_some : (means : List ℕ → Option Meaning) (old seen new : List CallRow) (row : Row) (fields : List (List ℕ)) (call : CallRow) → seen ≡ old → fields ≡ cells_of (fields_of row) →
    IsSaid means seen fields (Ok (Some call)) → new ≡ old ++ call ∷ [] → TakesRecord means (fields_of row) old new (Ok tt)
takes_some means old seen new row fields call s f h e = λ records have.
    subst (λ rows. HaveRows means (records ++ fields_of row ∷ []) rows) (sym e)
    (True records old (fields_of row) call have (subst (λ rows. Says means rows (cells_of (fields_of row)) (Ok (Some call))) s (subst (λ cells. Says means seen cells (Ok (Some call))) f h)))

-- the records up to a place, with the one there
taken_more : (records : List Row) (i : ℕ) (row : Row) → i < length records → row ≡ get_or records i row → map fields_of (take (i + 1) records) ≡ map fields_of (take i records) ++ fields_of row ∷ []
taken_more records i row l e =
    ap (λ n. map fields_of (take n records)) (add-one i)
    ∙ ap (map fields_of) (take-suc records i row l)
    ∙ map-append fields_of (take i records) (get_or records i row ∷ [])
    ∙ ap (λ (r : Row). map fields_of (take i records) ++ fields_of r ∷ []) (sym e)

pub rows_more : (means : List ℕ → Option Meaning) (records : List Row) (i : ℕ) (row : Row) (old new : List CallRow) → i < length records → row ≡ get_or records i row →
    TakesRecord means (fields_of row) old new (Ok tt) → HaveRows means (map fields_of (take i records)) old → HaveRows means (map fields_of (take (i + 1) records)) new
rows_more means records i row old new l e t h = subst (λ all. HaveRows means all new) (sym (taken_more records i row l e)) (t (map fields_of (take i records)) h)

-- a record that is refused is the first
pub fault_first : (means : List ℕ → Option Meaning) (records : List Row) (i n : ℕ) (row : Row) (old new : List CallRow) (e : RowStop) → i < length records → row ≡ get_or records i row → n ≡ i + 1 →
    TakesRecord means (fields_of row) old new (Err e) → HaveRows means (map fields_of (take i records)) old → IsReadOf means (map fields_of records) (Err (fault_of n e))
fault_first means records i n row old new stop.Memory l e m t h = tt
fault_first means records i n row old new (stop.Fault kind) l e m t h =
    let before = map fields_of (take i records) in
    let after = map fields_of (drop (suc i) records) in
    let parts : before ++ fields_of row ∷ after ≡ map fields_of records =
    ap (λ (r : Row). before ++ fields_of r ∷ after) e
    ∙ sym (map-append fields_of (take i records) (get_or records i row ∷ drop (suc i) records))
    ∙ ap (λ rest. map fields_of (take i records ++ rest)) (sym (drop-cons records i row l))
    ∙ ap (map fields_of) (take-append-drop i records) in
    let place : length before + 1 ≡ n = ap (λ k. k + 1) (length-map (take i records) fields_of ∙ length-take-le i records (omega (arith, l))) ∙ sym m in
    subst (λ all. Give means all (Err (fault.Text n kind))) parts (subst (λ k. Give means (before ++ fields_of row ∷ after) (Err (fault.Text k kind))) place (Fault before after (fields_of row) old kind h t))

-- where all records are taken, the rows are theirs
pub rows_all : (means : List ℕ → Option Meaning) (records : List Row) (i : ℕ) (rows : List CallRow) → length records ≤ i → HaveRows means (map fields_of (take i records)) rows → HaveRows means (map fields_of records) rows
rows_all means records i rows l h = subst (λ all. HaveRows means (map fields_of all) rows) (take_all i records l) h
