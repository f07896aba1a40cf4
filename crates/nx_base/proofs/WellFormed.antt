-- A cooked call is well formed.
use Rattle.std.proofs.Common.{◌≡◌, ℕ, zero, suc, ◌+◌, ◌≤◌, List, [], ◌∷◌, ◌++◌, length, Bool, true, false, Option, Some, None, Ok, refl, sym, ap, ◌∙◌, subst, arith}
use Rattle.std.specs.Prelude.{◌==◌, min, if◌then◌else◌, Result, Err}
use Rattle.nx_base.specs.declared.regs.Regs.{Regs}
use Rattle.nx_base.specs.declared.access.Access.TheVariants.{Load, Store}
use Rattle.nx_base.specs.declared.calls.Kind.{Kind}
use Rattle.nx_base.specs.declared.calls.Kind.TheVariants.{Word, In, Text, Out, Len, Out4, Out8}
use Rattle.nx_base.specs.Registers.{reg}
use Rattle.nx_base.specs.Replies.{next_word, most_moved}
use Rattle.nx_base.specs.Views.{View}
use Rattle.nx_base.specs.Calls.{Call, Rows, AreInputs, IsWellFormed}
use Rattle.nx_base.specs.Good.{is_good, shown_byte, shown_bytes, with_first, good_text}
use Rattle.nx_base.specs.Copying.{words_from, alone, nothing_if, input_of, and_inputs, inputs_of, as_call, cook}

bytes_length : (v : View) (at n : ℕ) → length (shown_bytes v at n) ≡ n
unfolding shown_bytes
bytes_length v at zero = refl
bytes_length v at (suc n) = ap suc (bytes_length v (at + 1) n)

text_length : (v : View) (at n : ℕ) (xs : List ℕ) → good_text v at n ≡ Some xs → length xs ≤ n
unfolding good_text
text_length v at zero xs e = absurd cc
text_length v at (suc n) xs e = by_good (λ more f. text_length v (at + 1) n more f) (is_good v at 1 Load) e
  where
    by_rest : ((more : List ℕ) → good_text v (at + 1) n ≡ Some more → length more ≤ n) → (o : Option (List ℕ)) → good_text v (at + 1) n ≡ o → with_first (shown_byte v at) o ≡ Some xs → length xs ≤ suc n
    by_rest on None f g = absurd cc
    by_rest on (Some more) f g = let z : shown_byte v at ∷ more ≡ xs = cc in let l = ap length z in let m = on more f in omega (arith, l, m)

    by_zero : ((more : List ℕ) → good_text v (at + 1) n ≡ Some more → length more ≤ n) → (b : Bool) → (if b then Some [] else with_first (shown_byte v at) (good_text v (at + 1) n)) ≡ Some xs → length xs ≤ suc n
    by_zero on true f = let z : [] ≡ xs = cc in let l = ap length z in omega (arith, l)
    by_zero on false f = by_rest on (good_text v (at + 1) n) refl f

    by_good : ((more : List ℕ) → good_text v (at + 1) n ≡ Some more → length more ≤ n) → (b : Bool) → (if b then (if shown_byte v at == 0 then Some [] else with_first (shown_byte v at) (good_text v (at + 1) n)) else None) ≡ Some xs → length xs ≤ suc n
    by_good on true f = by_zero on (shown_byte v at == 0) f
    by_good on false f = absurd cc

are_inputs : (v : View) (r : Regs) (i k : ℕ) (kinds : List Kind) (xs : List (List ℕ)) → inputs_of v i kinds (words_from r k kinds) ≡ Ok xs → AreInputs kinds (words_from r k kinds) xs
unfolding inputs_of words_from input_of
are_inputs v r i k [] xs e = let z : [] ≡ xs = cc in sym z
are_inputs v r i k (kind ∷ kinds) xs e = by_kind kind (λ more f. are_inputs v r (i + 1) (k + 1) kinds more f) (inputs_of v (i + 1) kinds (words_from r (k + 1) kinds)) refl e
  where
    skips : ((more : List (List ℕ)) → inputs_of v (i + 1) kinds (words_from r (k + 1) kinds) ≡ Ok more → AreInputs kinds (words_from r (k + 1) kinds) more) → (rest : Result (List (List ℕ)) ℕ) → inputs_of v (i + 1) kinds (words_from r (k + 1) kinds) ≡ rest → (o : Option (List (List ℕ))) → ((ys : List (List ℕ)) → o ≡ Some ys → ys ≡ []) → and_inputs i o rest ≡ Ok xs → AreInputs kinds (words_from r (k + 1) kinds) xs
    skips on rest g None z f = absurd cc
    skips on (Ok more) g (Some ys) z f = let w : ys ++ more ≡ xs = cc in subst (AreInputs kinds (words_from r (k + 1) kinds)) (ap (λ l. l ++ more) (sym (z ys refl)) ∙ w) (on more g)
    skips on (Err j) g (Some ys) z f = absurd cc

    nothing : (b : Bool) (ys : List (List ℕ)) → nothing_if b ≡ Some ys → ys ≡ []
    nothing true ys e = let z : [] ≡ ys = cc in sym z
    nothing false ys e = absurd cc

    bytes : ((more : List (List ℕ)) → inputs_of v (i + 1) kinds (words_from r (k + 1) kinds) ≡ Ok more → AreInputs kinds (words_from r (k + 1) kinds) more) → (rest : Result (List (List ℕ)) ℕ) → inputs_of v (i + 1) kinds (words_from r (k + 1) kinds) ≡ rest → (n : ℕ) → n ≡ next_word (words_from r (k + 1) kinds) → (b : Bool)
        → and_inputs i (if b then Some (shown_bytes v (reg r k) (min n most_moved) ∷ []) else None) rest ≡ Ok xs → AreInputs (In ∷ kinds) (reg r k ∷ words_from r (k + 1) kinds) xs
    bytes on rest g n q false f = absurd cc
    bytes on (Ok more) g n q true f =
        let w : shown_bytes v (reg r k) (min n most_moved) ∷ more ≡ xs = cc in
        subst (AreInputs (In ∷ kinds) (reg r k ∷ words_from r (k + 1) kinds)) w (bytes_length v (reg r k) (min n most_moved) ∙ ap (λ m. min m most_moved) q, on more g)
    bytes on (Err j) g n q true f = absurd cc

    texts : ((more : List (List ℕ)) → inputs_of v (i + 1) kinds (words_from r (k + 1) kinds) ≡ Ok more → AreInputs kinds (words_from r (k + 1) kinds) more) → (rest : Result (List (List ℕ)) ℕ) → inputs_of v (i + 1) kinds (words_from r (k + 1) kinds) ≡ rest → (o : Option (List ℕ)) → good_text v (reg r k) 256 ≡ o
        → and_inputs i (alone o) rest ≡ Ok xs → AreInputs (Text ∷ kinds) (reg r k ∷ words_from r (k + 1) kinds) xs
    texts on rest g None h f = absurd cc
    texts on (Ok more) g (Some t) h f =
        let w : t ∷ more ≡ xs = cc in let l = text_length v (reg r k) 256 t h in
        subst (AreInputs (Text ∷ kinds) (reg r k ∷ words_from r (k + 1) kinds)) w (omega (arith, l), on more g)
    texts on (Err j) g (Some t) h f = absurd cc

    by_kind : (kind : Kind) → ((more : List (List ℕ)) → inputs_of v (i + 1) kinds (words_from r (k + 1) kinds) ≡ Ok more → AreInputs kinds (words_from r (k + 1) kinds) more) → (rest : Result (List (List ℕ)) ℕ) → inputs_of v (i + 1) kinds (words_from r (k + 1) kinds) ≡ rest
        → and_inputs i (input_of v kind (reg r k) (next_word (words_from r (k + 1) kinds))) rest ≡ Ok xs → AreInputs (kind ∷ kinds) (reg r k ∷ words_from r (k + 1) kinds) xs
    by_kind Word on rest g f = skips on rest g (Some []) (λ ys e. let z : [] ≡ ys = cc in sym z) f
    by_kind Len on rest g f = skips on rest g (Some []) (λ ys e. let z : [] ≡ ys = cc in sym z) f
    by_kind In on rest g f = bytes on rest g (next_word (words_from r (k + 1) kinds)) refl (is_good v (reg r k) (next_word (words_from r (k + 1) kinds)) Load) f
    by_kind Text on rest g f = texts on rest g (good_text v (reg r k) 256) refl f
    by_kind Out on rest g f = skips on rest g (nothing_if (is_good v (reg r k) (next_word (words_from r (k + 1) kinds)) Store)) (nothing _) f
    by_kind Out4 on rest g f = skips on rest g (nothing_if (is_good v (reg r k) 4 Store)) (nothing _) f
    by_kind Out8 on rest g f = skips on rest g (nothing_if (is_good v (reg r k) 8 Store)) (nothing _) f

pub cooked_well : (rows : Rows) (v : View) (r : Regs) (c : Call) → cook rows v r ≡ Ok c → IsWellFormed rows c
unfolding cook
cooked_well rows v r c e = by_inputs (inputs_of v 0 (rows (reg r 10)).kinds (words_from r 11 (rows (reg r 10)).kinds)) refl e
  where
    by_inputs : (o : Result (List (List ℕ)) ℕ) → inputs_of v 0 (rows (reg r 10)).kinds (words_from r 11 (rows (reg r 10)).kinds) ≡ o → as_call (reg r 10) (words_from r 11 (rows (reg r 10)).kinds) o ≡ Ok c → IsWellFormed rows c
    by_inputs (Ok xs) h f =
        let z : record { number = reg r 10; words = words_from r 11 (rows (reg r 10)).kinds; inputs = xs } ≡ c = cc in
        subst (IsWellFormed rows) z (are_inputs v r 0 11 (rows (reg r 10)).kinds xs h)
    by_inputs (Err j) h f = absurd cc
