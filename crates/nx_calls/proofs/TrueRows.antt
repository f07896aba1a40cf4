-- What holds of every table's rows.
use Rattle.std.proofs.Common.{◌≡◌, ◌≢◌, ℕ, ◌+◌, ◌<◌, ◌⊎◌, inl, inr, get_or, Bool, true, false, List, [], ◌∷◌, ◌++◌, length, map, Option, None, Some, Ok, Err, refl, sym, ap, ◌∙◌, subst, arith}
use Rattle.std.specs.Prelude.{if◌then◌else◌, nat_lt, ◌||◌, All}
use Rattle.std.proofs.lemmas.Bool.{cases_eq}
use Rattle.std.proofs.lemmas.List.Elements.{All-nil, All-cons, All-push}
use Rattle.std.proofs.lemmas.List.Folds.{list_any_at}
use Rattle.std.proofs.lemmas.List.Quantifiers.{all_pairs_push}
use Rattle.std.proofs.lemmas.Slice.Eq.{bytes_eq-Decides}
use Rattle.std.proofs.Math.ListN.{get_or-append}
use Rattle.std.proofs.Math.Seq.{get_or-append_seam}
use Rattle.std.proofs.lemmas.Bool.Decides.{nat_tests}
use Rattle.nx_base.specs.declared.calls.Kind.{Kind}
use Rattle.nx_base.specs.declared.calls.Kind.TheVariants.{Word}
use Rattle.nx_base.specs.declared.calls.KCall.{KCall}
use Rattle.nx_conditions.specs.declared.meaning.Meaning.{Meaning}
use Rattle.nx_calls.specs.declared.fault.CallsKind.{CallsKind}
use Rattle.nx_calls.specs.declared.fault.CallsKind.TheVariants.{UnionType, BadType, TooManyParameters, NameTwice}
use Rattle.nx_calls.specs.Types.{is_union, type_of, is_bad}
use Rattle.std.specs.List.{list_any}
use Rattle.std.specs.Str.{bytes_eq}
use Rattle.nx_base.specs.KernelCalls.{call_named}
use Rattle.nx_calls.specs.declared.row.CallRow.{CallRow}
use Rattle.nx_calls.specs.declared.types.CallType.{CallType}
use Rattle.nx_calls.specs.Kinds.{has_star, kinds_of}
use Rattle.nx_calls.specs.Rows.{Verdict, HasKinds, IsRow, fits, fitting, parameters, kinds_in, numbered, typed, declared_row, Says, FewerFields, NoName, NoCondition, Left, Taken}
use Rattle.nx_calls.specs.Table.{AreRows, HaveRows, Empty, False, True}

-- a row that may come after others
pub record IsNext (rows : List CallRow) (row : CallRow) : Type 0 where
  pub number : row.number ≡ 16 + length rows
  pub room : length rows < 512
  pub fits : IsRow row
  pub new : list_any (λ (r : CallRow). bytes_eq row.name r.name) rows ≡ false

-- a verdict that gives a row doesn't stop at a test
not_stopped : (b : Bool) (kind : CallsKind) (rest : Verdict) (row : CallRow) → (if b then Err kind else rest) ≡ Ok (Some row) → (b ≡ false) × (rest ≡ Ok (Some row))
not_stopped true kind rest row e = absurd cc
not_stopped false kind rest row e = (refl, e)

given_row : (b : Bool) (kind : CallsKind) (new row : CallRow) → (if b then Ok (Some new) else Err kind) ≡ Ok (Some row) → (b ≡ true) × (new ≡ row)
given_row true kind new row e = (refl, cc)
given_row false kind new row e = absurd cc

below : (n m : ℕ) → nat_lt n m ≡ true → n < m
below n m e = grind (arith, nat_tests)

-- the kinds of a row fit its call
all_words : (types : List CallType) → All (λ kind. kind ≡ Word) (map (λ t. Word) types)
all_words [] = All-nil (λ kind. kind ≡ Word)
all_words (t ∷ types) = All-cons (λ kind. kind ≡ Word) Word (map (λ t. Word) types) refl (all_words types)

kinds_fit : (call : KCall) (found : Option (List Kind)) (kinds : List Kind) → fitting call found ≡ Some kinds → fits call kinds ≡ true
kinds_fit call None kinds e = absurd cc
kinds_fit call (Some found) kinds e = by (fits call found) refl e
  where
    by : (t : Bool) → fits call found ≡ t → (if t then Some found else None) ≡ Some kinds → fits call kinds ≡ true
    by true f e = let same : found ≡ kinds = cc in subst (λ ks. fits call ks ≡ true) same f
    by false f e = absurd cc

unless_star : (star : Bool) (found : Option (List Kind)) (kinds : List Kind) → (if star then None else found) ≡ Some kinds → found ≡ Some kinds
unless_star true found kinds e = absurd cc
unless_star false found kinds e = e

has_kinds : (call : Option KCall) (return_type : CallType) (types : List CallType) (kinds : List Kind) → kinds_in call return_type types ≡ Some kinds → HasKinds call kinds
unfolding kinds_in
has_kinds None return_type types kinds e = let same : map (λ t. Word) types ≡ kinds = cc in subst (λ ks. All (λ kind. kind ≡ Word) ks) same (all_words types)
has_kinds (Some call) return_type types kinds e = kinds_fit call (kinds_of types) kinds (unless_star (has_star return_type.actual) (fitting call (kinds_of types)) kinds e)

numbered_next : (rows : List CallRow) (name : List ℕ) (return_type : CallType) (kinds : Option (List Kind)) (row : CallRow) → ((ks : List Kind) → kinds ≡ Some ks → HasKinds (call_named name) ks) →
    list_any (λ (r : CallRow). bytes_eq name r.name) rows ≡ false → numbered rows name return_type kinds ≡ Ok (Some row) → IsNext rows row
numbered_next rows name return_type None row fit new e = absurd cc
numbered_next rows name return_type (Some kinds) row fit new e =
    let is = given_row (nat_lt (length rows) 512) _ _ row e in
    let room : length rows < 512 = below (length rows) 512 is.0 in
    subst (λ (r : CallRow). IsNext rows r) is.1 (record { number = refl; room = room; fits = record { kernel = refl; kinds = fit kinds refl }; new = new })

typed_next : (rows : List CallRow) (name : List ℕ) (return_type : CallType) (types : List CallType) (row : CallRow) → typed rows name return_type types ≡ Ok (Some row) → IsNext rows row
unfolding typed
typed_next rows name return_type types row e =
    let kinds = kinds_in (call_named name) return_type types in
    let last = numbered rows name return_type kinds in
    let twice = list_any (λ (r : CallRow). bytes_eq name r.name) rows in
    let third : Verdict = if twice then Err NameTwice else last in
    let second : Verdict = if nat_lt 6 (length types) then Err TooManyParameters else third in
    let a = not_stopped (is_bad return_type || list_any is_bad types) BadType second row e in
    let b = not_stopped (nat_lt 6 (length types)) TooManyParameters third row a.1 in
    let c = not_stopped twice NameTwice last row b.1 in
    numbered_next rows name return_type kinds row (λ ks f. has_kinds (call_named name) return_type types ks f) c.0 c.1

declared_next : (rows : List CallRow) (name return_type : List ℕ) (types : List (List ℕ)) (row : CallRow) → declared_row rows name return_type types ≡ Ok (Some row) → IsNext rows row
unfolding declared_row
declared_next rows name return_type types row e =
    let last = typed rows name (type_of return_type) (map type_of types) in
    typed_next rows name (type_of return_type) (map type_of types) row (not_stopped (is_union return_type || list_any is_union types) UnionType last row e).1

pub said_next : (means : List ℕ → Option Meaning) (rows : List CallRow) (fields : List (List ℕ)) (v : Verdict) (row : CallRow) → Says means rows fields v → v ≡ Ok (Some row) → IsNext rows row
said_next means rows _ _ row (FewerFields fields h) e = absurd cc
said_next means rows _ _ row (NoName name header condition given types h) e = absurd cc
said_next means rows _ _ row (NoCondition name header condition given types h k) e = absurd cc
said_next means rows _ _ row (Left name header condition given types h k) e = absurd cc
said_next means rows _ _ row (Taken name header condition given types h k) e = declared_next rows name given (parameters types) row e

length_one_more : (rows : List CallRow) (row : CallRow) → length (rows ++ row ∷ []) ≡ length rows + 1
length_one_more [] row = omega arith
length_one_more (first ∷ rows) row = omega (arith, length_one_more rows row)

-- the number of a row that is put after others is 16 plus its place
number_on : (rows : List CallRow) (row d : CallRow) (k : ℕ) → AreRows rows → row.number ≡ 16 + length rows → (k < length rows) ⊎ (k ≡ length rows) → (get_or (rows ++ row ∷ []) k d).number ≡ 16 + k
number_on rows row d k p e (inl l) = ap (λ (r : CallRow). r.number) (get_or-append rows (row ∷ []) d k l) ∙ p.numbers k d l
number_on rows row d k p e (inr s) =
    ap (λ i. (get_or (rows ++ row ∷ []) i d).number) s ∙ ap (λ (r : CallRow). r.number) (get_or-append_seam rows row [] d) ∙ e ∙ ap (λ i. 16 + i) (sym s)

below_or_last : (n k : ℕ) → k < n + 1 → (k < n) ⊎ (k ≡ n)
below_or_last n k l = below_by (cases_eq k n)
  where
    below_by : (k ≡ n) ⊎ (k ≢ n) → (k < n) ⊎ (k ≡ n)
    below_by (inl e) = inr e
    below_by (inr o) = inl (omega (arith, o, l))

-- a name that no row has differs from each
other_name : (rows : List CallRow) (row : CallRow) (k : ℕ) (d : CallRow) → list_any (λ (r : CallRow). bytes_eq row.name r.name) rows ≡ false → k < length rows → (get_or rows k d).name ≢ row.name
other_name rows row k d new l e =
    let same : bytes_eq row.name (get_or rows k d).name ≡ true = (bytes_eq-Decides row.name (get_or rows k d).name).1 (sym e) in
    let found : list_any (λ (r : CallRow). bytes_eq row.name r.name) rows ≡ true = list_any_at (λ (r : CallRow). bytes_eq row.name r.name) rows k d l same in
    cc

rows_on : (rows : List CallRow) (row : CallRow) → AreRows rows → IsNext rows row → AreRows (rows ++ row ∷ [])
rows_on rows row p next =
    let n = length_one_more rows row in
    record {
      few = omega (arith, n, next.room);
      numbers = λ k d l. number_on rows row d k p next.number (below_or_last (length rows) k (omega (arith, l, n)));
      fit = All-push IsRow rows row p.fit next.fits;
      names = all_pairs_push (λ (a b : CallRow). a.name ≢ b.name) rows row p.names (λ k d l. other_name rows row k d next.new l);
    }

pub no_rows : AreRows []
no_rows = record { few = omega arith; numbers = λ k d l. absurd (omega (arith, l)); fit = All-nil IsRow; names = λ i j d l m. absurd (omega (arith, m)) }

-- so it holds of the rows of all records
pub rows_of_records : (means : List ℕ → Option Meaning) (records : List (List (List ℕ))) (rows : List CallRow) → HaveRows means records rows → AreRows rows
rows_of_records means _ _ Empty = no_rows
rows_of_records means _ _ (False records rows fields h s) = rows_of_records means records rows h
rows_of_records means _ _ (True records rows fields row h s) = rows_on rows row (rows_of_records means records rows h) (said_next means rows _ _ row s refl)
