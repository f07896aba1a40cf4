-- The rows of a table that was read have six parameters at most.
use Rattle.std.proofs.Common.{◌≡◌, ℕ, suc, ◌≤◌, Bool, true, false, List, [], ◌∷◌, length, map, Option, None, Some, Ok, Err, refl, sym, ap, ◌∙◌, subst, arith}
use Rattle.std.proofs.lemmas.Bool.Decides.{nat_tests}
use Rattle.std.proofs.lemmas.List.{length-map}
use Rattle.std.proofs.lemmas.List.Elements.{All-nil, All-push}
use Rattle.std.specs.Prelude.{◌||◌, nat_lt, if◌then◌else◌}
use Rattle.std.specs.List.{list_any}
use Rattle.std.specs.Str.{bytes_eq}
use Rattle.nx_base.specs.declared.calls.Kind.{Kind}
use Rattle.nx_base.specs.declared.calls.Kind.TheVariants.{Word}
use Rattle.nx_base.specs.declared.calls.KCall.{KCall}
use Rattle.nx_base.specs.KernelCalls.{call_named}
use Rattle.nx_conditions.specs.declared.meaning.Meaning.{Meaning}
use Rattle.nx_calls.specs.declared.fault.CallsKind.{CallsKind}
use Rattle.nx_calls.specs.declared.fault.CallsKind.TheVariants.{UnionType, BadType, TooManyParameters, NameTwice}
use Rattle.nx_calls.specs.declared.row.CallRow.{CallRow}
use Rattle.nx_calls.specs.declared.types.CallType.{CallType}
use Rattle.nx_calls.specs.Types.{is_union, type_of, is_bad}
use Rattle.nx_calls.specs.Kinds.{has_star, kind_of, kind_before, kinds_after, kinds_of, first_of}
use Rattle.nx_calls.specs.Rows.{Verdict, fits, fitting, parameters, kinds_in, numbered, typed, declared_row, Says, FewerFields, NoName, NoCondition, Left, Taken}
use Rattle.nx_calls.specs.Table.{HaveRows, Empty, False, True}
use Rattle.nx_sound.specs.Tables.{HasFewParameters}
use Rattle.nx_sound.proofs.Entries.{some_same}

joined_length : (k : Option Kind) (others : Option (List Kind)) (ks : List Kind) (n : ℕ) → kind_before k others ≡ Some ks → ((l : List Kind) → others ≡ Some l → length l ≡ n) → length ks ≡ suc n
joined_length None others ks n h go = absurd cc
joined_length (Some k) None ks n h go = absurd cc
joined_length (Some k) (Some l) ks n h go = sym (ap (λ (l : List Kind). length l) (some_same (k ∷ l) ks h)) ∙ ap suc (go l refl)

after_length : (types : List CallType) (before : Option CallType) (ks : List Kind) → kinds_after before types ≡ Some ks → length ks ≡ length types
after_length [] before ks h = sym (ap (λ (l : List Kind). length l) (some_same [] ks h))
after_length (t ∷ types) before ks h = joined_length (kind_of before t (first_of types)) (kinds_after (Some t) types) ks (length types) h (λ l g. after_length types (Some t) l g)

unless_star : (star : Bool) (found : Option (List Kind)) (kinds : List Kind) → (if star then None else found) ≡ Some kinds → found ≡ Some kinds
unless_star true found kinds e = absurd cc
unless_star false found kinds e = e

fitting_is : (call : KCall) (found : Option (List Kind)) (kinds : List Kind) → fitting call found ≡ Some kinds → found ≡ Some kinds
fitting_is call None kinds e = absurd cc
fitting_is call (Some found) kinds e = by (fits call found) e
  where
    by : (t : Bool) → (if t then Some found else None) ≡ Some kinds → Some found ≡ Some kinds
    by true e = e
    by false e = absurd cc

kinds_length : (call : Option KCall) (return_type : CallType) (types : List CallType) (kinds : List Kind) → kinds_in call return_type types ≡ Some kinds → length kinds ≡ length types
unfolding kinds_in
kinds_length None return_type types kinds e = sym (ap (λ (l : List Kind). length l) (some_same (map (λ t. Word) types) kinds e)) ∙ length-map types _
kinds_length (Some call) return_type types kinds e =
    after_length types None kinds (fitting_is call (kinds_of types) kinds (unless_star (has_star return_type.actual) (fitting call (kinds_of types)) kinds e))

not_stopped : (b : Bool) (kind : CallsKind) (rest : Verdict) (row : CallRow) → (if b then Err kind else rest) ≡ Ok (Some row) → (b ≡ false) × (rest ≡ Ok (Some row))
not_stopped true kind rest row e = absurd cc
not_stopped false kind rest row e = (refl, e)

given_row : (b : Bool) (kind : CallsKind) (new row : CallRow) → (if b then Ok (Some new) else Err kind) ≡ Ok (Some row) → new ≡ row
given_row true kind new row e = cc
given_row false kind new row e = absurd cc

at_most_six : (n : ℕ) → nat_lt 6 n ≡ false → n ≤ 6
at_most_six n h = grind (arith, nat_tests)

numbered_few : (rows : List CallRow) (name : List ℕ) (return_type : CallType) (kinds : Option (List Kind)) (row : CallRow) → ((ks : List Kind) → kinds ≡ Some ks → length ks ≤ 6) → numbered rows name return_type kinds ≡ Ok (Some row) → length row.kinds.items ≤ 6
numbered_few rows name return_type None row few e = absurd cc
numbered_few rows name return_type (Some ks) row few e =
    subst (λ (r : CallRow). length r.kinds.items ≤ 6) (given_row (nat_lt (length rows) 512) _ _ row e) (few ks refl)

typed_few : (rows : List CallRow) (name : List ℕ) (return_type : CallType) (types : List CallType) (row : CallRow) → typed rows name return_type types ≡ Ok (Some row) → length row.kinds.items ≤ 6
unfolding typed
typed_few rows name return_type types row e =
    let kinds = kinds_in (call_named name) return_type types in
    let last = numbered rows name return_type kinds in
    let twice = list_any (λ (r : CallRow). bytes_eq name r.name) rows in
    let third : Verdict = if twice then Err NameTwice else last in
    let second : Verdict = if nat_lt 6 (length types) then Err TooManyParameters else third in
    let a = not_stopped (is_bad return_type || list_any is_bad types) BadType second row e in
    let b = not_stopped (nat_lt 6 (length types)) TooManyParameters third row a.1 in
    let c = not_stopped twice NameTwice last row b.1 in
    let six = at_most_six (length types) b.0 in
    numbered_few rows name return_type kinds row (λ ks f. let same = kinds_length (call_named name) return_type types ks f in omega (arith, same, six)) c.1

declared_few : (rows : List CallRow) (name return_type : List ℕ) (types : List (List ℕ)) (row : CallRow) → declared_row rows name return_type types ≡ Ok (Some row) → length row.kinds.items ≤ 6
unfolding declared_row
declared_few rows name return_type types row e =
    let last = typed rows name (type_of return_type) (map type_of types) in
    typed_few rows name (type_of return_type) (map type_of types) row (not_stopped (is_union return_type || list_any is_union types) UnionType last row e).1

said_few : (means : List ℕ → Option Meaning) (rows : List CallRow) (fields : List (List ℕ)) (v : Verdict) (row : CallRow) → Says means rows fields v → v ≡ Ok (Some row) → length row.kinds.items ≤ 6
said_few means rows _ _ row (FewerFields fields h) e = absurd cc
said_few means rows _ _ row (NoName name header condition given types h) e = absurd cc
said_few means rows _ _ row (NoCondition name header condition given types h k) e = absurd cc
said_few means rows _ _ row (Left name header condition given types h k) e = absurd cc
said_few means rows _ _ row (Taken name header condition given types h k) e = declared_few rows name given (parameters types) row e

pub tables_have_few : (means : List ℕ → Option Meaning) (records : List (List (List ℕ))) (rows : List CallRow) → HaveRows means records rows → HasFewParameters rows
tables_have_few means _ _ Empty = All-nil (λ row. length row.kinds.items ≤ 6)
tables_have_few means _ _ (False records rows fields h s) = tables_have_few means records rows h
tables_have_few means _ _ (True records rows fields row h s) = All-push (λ (row : CallRow). length row.kinds.items ≤ 6) rows row (tables_have_few means records rows h) (said_few means rows _ _ row s refl)
