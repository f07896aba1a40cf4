-- What records give, record by record: a reading with the number of the record that is next and the rows so far.
use Rattle.std.proofs.Common.{◌≡◌, ℕ, ◌+◌, List, [], ◌∷◌, ◌++◌, length, append_assoc, Option, None, Some, Result, Ok, Err, sym, subst, arith, length-append}
use Rattle.std.proofs.lemmas.List.{append-nil}
use Rattle.nx_conditions.specs.declared.meaning.Meaning.{Meaning}
use Rattle.nx_calls.specs.declared.fault.CallsKind.{CallsKind}
use Rattle.nx_calls.specs.declared.fault.CallsFault.{CallsFault}
use Rattle.nx_calls.specs.declared.fault.CallsFault.TheVariants as fault
use Rattle.nx_calls.specs.declared.row.CallRow.{CallRow}
use Rattle.nx_calls.specs.Rows.{Says}
use Rattle.nx_calls.specs.Table.{cells_of, HaveRows, Empty, False, True, Give, Rows, Fault}

pub data ReadsFrom (means : List ℕ → Option Meaning) : ℕ → List CallRow → List (List (List ℕ)) → Result (List CallRow) CallsFault → Type 0 where
  End : (n : ℕ) (rows : List CallRow) → ReadsFrom means n rows [] (Ok rows)
  Refused : (n : ℕ) (rows : List CallRow) (fields : List (List ℕ)) (records : List (List (List ℕ))) (kind : CallsKind) →
      Says means rows (cells_of fields) (Err kind) → ReadsFrom means n rows (fields ∷ records) (Err (fault.Text n kind))
  Without : (n : ℕ) (rows : List CallRow) (fields : List (List ℕ)) (records : List (List (List ℕ))) (r : Result (List CallRow) CallsFault) →
      Says means rows (cells_of fields) (Ok None) → ReadsFrom means (n + 1) rows records r → ReadsFrom means n rows (fields ∷ records) r
  With : (n : ℕ) (rows : List CallRow) (fields : List (List ℕ)) (records : List (List (List ℕ))) (row : CallRow) (r : Result (List CallRow) CallsFault) →
      Says means rows (cells_of fields) (Ok (Some row)) → ReadsFrom means (n + 1) (rows ++ row ∷ []) records r → ReadsFrom means n rows (fields ∷ records) r

-- one record more has the next number
next_number : (records : List (List (List ℕ))) (fields : List (List ℕ)) → length (records ++ fields ∷ []) + 1 ≡ length records + 1 + 1
next_number records fields = omega (arith, length-append records (fields ∷ []))

-- a reading goes on after records that have rows
reads_on : (means : List ℕ → Option Meaning) (records rest : List (List (List ℕ))) (rows : List CallRow) (r : Result (List CallRow) CallsFault) → HaveRows means records rows → ReadsFrom means (length records + 1) rows rest r → ReadsFrom means 1 [] (records ++ rest) r
reads_on means _ rest _ r Empty x = x
reads_on means _ rest _ r (False records rows fields h s) x =
    let next = subst (λ n. ReadsFrom means n rows rest r) (next_number records fields) x in
    subst (λ all. ReadsFrom means 1 [] all r) (sym (append_assoc records (fields ∷ []) rest)) (reads_on means records (fields ∷ rest) rows r h (Without (length records + 1) rows fields rest r s next))
reads_on means _ rest _ r (True records rows fields row h s) x =
    let next = subst (λ n. ReadsFrom means n (rows ++ row ∷ []) rest r) (next_number records fields) x in
    subst (λ all. ReadsFrom means 1 [] all r) (sym (append_assoc records (fields ∷ []) rest)) (reads_on means records (fields ∷ rest) rows r h (With (length records + 1) rows fields rest row r s next))

-- what records give is what is read of them
pub reads_given : (means : List ℕ → Option Meaning) (records : List (List (List ℕ))) (r : Result (List CallRow) CallsFault) → Give means records r → ReadsFrom means 1 [] records r
reads_given means records _ (Rows _ rows h) =
    subst (λ all. ReadsFrom means 1 [] all (Ok rows)) (append-nil records) (reads_on means records [] rows (Ok rows) h (End (length records + 1) rows))
reads_given means _ _ (Fault before after fields rows kind h s) =
    reads_on means before (fields ∷ after) rows (Err (fault.Text (length before + 1) kind)) h (Refused (length before + 1) rows fields after kind s)
