-- The pieces of a text, byte by byte.
use Rattle.std.proofs.Common.{◌≡◌, ℕ, Bool, true, false, cond, not, ◌&&◌, if◌then◌else◌, List, [], ◌∷◌, ◌++◌, Result, Ok, Err, append_assoc, refl, sym, ap, ◌∙◌}
use Rattle.std.proofs.lemmas.List.{append-nil}
use Rattle.std.proofs.lemmas.List.Folds.{list_all-append}
use Rattle.std.specs.Prelude.{◌==◌, OnOk}
use Rattle.std.specs.List.{list_all, filter, concat}
use Rattle.nx_base.specs.TextBytes.{is_word_byte}
use Rattle.nx_calls.specs.Types.{onto_word, pieces_of, is_far, without_far}

-- a word as a piece, where it has a byte
abbrev pub piece : List ℕ → List (List ℕ)
piece [] = []
piece (b ∷ bytes) = (b ∷ bytes) ∷ []

both : (a b : Bool) → (a && b) ≡ true → (a ≡ true) × (b ≡ true)
both true b e = (refl, e)
both false b e = absurd cc

-- a word that has ended is one piece
word_ends : (word : List ℕ) → list_all is_word_byte word ≡ true → pieces_of word ≡ piece word
word_ends [] h = refl
word_ends (w ∷ []) h = let e = both (is_word_byte w) true h in rw (e.0) refl
word_ends (w ∷ v ∷ word) h =
    let e = both (is_word_byte w) _ h in
    let f = both (is_word_byte v) _ e.1 in
    let rest : pieces_of (v ∷ word) ≡ (v ∷ word) ∷ [] = word_ends (v ∷ word) e.1 in
    let first : pieces_of (w ∷ v ∷ word) ≡ onto_word w (pieces_of (v ∷ word)) = ap (λ t. cond t (onto_word w (pieces_of (v ∷ word))) ((w ∷ []) ∷ pieces_of (v ∷ word))) e.0 in
    first ∙ ap (onto_word w) rest ∙ ap (λ t. cond t ((w ∷ v ∷ word) ∷ []) ((w ∷ []) ∷ (v ∷ word) ∷ [])) f.0

-- a word and another byte are two pieces
word_then : (word : List ℕ) (b : ℕ) (rest : List ℕ) → list_all is_word_byte word ≡ true → is_word_byte b ≡ false → pieces_of (word ++ b ∷ rest) ≡ piece word ++ (b ∷ []) ∷ pieces_of rest
word_then [] b rest h g = ap (λ t. cond t (onto_word b (pieces_of rest)) ((b ∷ []) ∷ pieces_of rest)) g
word_then (w ∷ []) b rest h g =
    let e = both (is_word_byte w) true h in
    let after : pieces_of (b ∷ rest) ≡ (b ∷ []) ∷ pieces_of rest = word_then [] b rest refl g in
    let first : pieces_of (w ∷ b ∷ rest) ≡ onto_word w (pieces_of (b ∷ rest)) = ap (λ t. cond t (onto_word w (pieces_of (b ∷ rest))) ((w ∷ []) ∷ pieces_of (b ∷ rest))) e.0 in
    first ∙ ap (onto_word w) after ∙ ap (λ t. cond t ((w ∷ b ∷ []) ∷ pieces_of rest) ((w ∷ []) ∷ (b ∷ []) ∷ pieces_of rest)) g
word_then (w ∷ v ∷ word) b rest h g =
    let e = both (is_word_byte w) _ h in
    let f = both (is_word_byte v) _ e.1 in
    let all = v ∷ (word ++ b ∷ rest) in
    let after : pieces_of all ≡ (v ∷ word) ∷ (b ∷ []) ∷ pieces_of rest = word_then (v ∷ word) b rest e.1 g in
    let first : pieces_of (w ∷ all) ≡ onto_word w (pieces_of all) = ap (λ t. cond t (onto_word w (pieces_of all)) ((w ∷ []) ∷ pieces_of all)) e.0 in
    first ∙ ap (onto_word w) after ∙ ap (λ t. cond t ((w ∷ v ∷ word) ∷ (b ∷ []) ∷ pieces_of rest) ((w ∷ []) ∷ (v ∷ word) ∷ (b ∷ []) ∷ pieces_of rest)) f.0

-- a single byte isn't FAR
not_far : (b : ℕ) → is_far (b ∷ []) ≡ false
not_far b = by (b == 70)
  where
    by : (t : Bool) → (t && false) ≡ false
    by true = refl
    by false = refl

abbrev pub kept : List ℕ → List ℕ
kept word = if is_far word then [] else word

abbrev pub joined : List (List ℕ) → List ℕ
joined pieces = concat (filter (λ p. not (is_far p)) pieces)

joined_piece : (word : List ℕ) (pieces : List (List ℕ)) → joined (piece word ++ pieces) ≡ kept word ++ joined pieces
joined_piece [] pieces = refl
joined_piece (w ∷ word) pieces = by (is_far (w ∷ word))
  where
    by : (t : Bool) → concat (cond (not t) ((w ∷ word) ∷ filter (λ p. not (is_far p)) pieces) (filter (λ p. not (is_far p)) pieces)) ≡ cond t [] (w ∷ word) ++ joined pieces
    by true = refl
    by false = refl

joined_byte : (b : ℕ) (pieces : List (List ℕ)) → joined ((b ∷ []) ∷ pieces) ≡ b ∷ joined pieces
joined_byte b pieces = ap (λ t. concat (cond (not t) ((b ∷ []) ∷ filter (λ p. not (is_far p)) pieces) (filter (λ p. not (is_far p)) pieces))) (not_far b)

-- a word ends at another byte, and is kept unless it is FAR
pub far_at : (word : List ℕ) (b : ℕ) (rest : List ℕ) → list_all is_word_byte word ≡ true → is_word_byte b ≡ false → without_far (word ++ b ∷ rest) ≡ kept word ++ b ∷ without_far rest
far_at word b rest h g =
    ap joined (word_then word b rest h g)
    ∙ joined_piece word ((b ∷ []) ∷ pieces_of rest)
    ∙ ap (λ xs. kept word ++ xs) (joined_byte b (pieces_of rest))

-- or at the end
pub far_ends : (word : List ℕ) → list_all is_word_byte word ≡ true → without_far word ≡ kept word
far_ends word h =
    ap joined (word_ends word h ∙ sym (append-nil (piece word))) ∙ joined_piece word [] ∙ append-nil (kept word)

pub far_end : (word rest : List ℕ) → rest ≡ [] → list_all is_word_byte word ≡ true → without_far (word ++ rest) ≡ kept word
far_end word rest e h = ap (λ r. without_far (word ++ r)) e ∙ ap without_far (append-nil word) ∙ far_ends word h

pub word_more : (word : List ℕ) (b : ℕ) → list_all is_word_byte word ≡ true → is_word_byte b ≡ true → list_all is_word_byte (word ++ b ∷ []) ≡ true
word_more word b h g = list_all-append is_word_byte word (b ∷ []) ∙ ap (λ t. t && (is_word_byte b && true)) h ∙ ap (λ t. t && true) g

-- a byte that ends a word is put after it
pub put_on : {E : Type 0} (r : Result (Unit {0}) E) (old text new word left : List ℕ) (b : ℕ) → list_all is_word_byte word ≡ true → is_word_byte b ≡ false →
    text ≡ old ++ kept word → left ≡ [] → OnOk r (new ≡ text ++ b ∷ []) → OnOk r ((rest : List ℕ) → new ++ without_far (left ++ rest) ≡ old ++ without_far (word ++ b ∷ rest))
put_on (Ok done) old text new word left b h g t l e = λ rest.
    ap (λ xs. new ++ without_far (xs ++ rest)) l
    ∙ ap (λ xs. xs ++ without_far rest) (e ∙ ap (λ xs. xs ++ b ∷ []) t)
    ∙ append_assoc (old ++ kept word) (b ∷ []) (without_far rest)
    ∙ append_assoc old (kept word) (b ∷ without_far rest)
    ∙ sym (ap (λ xs. old ++ xs) (far_at word b rest h g))
put_on (Err stop) old text new word left b h g t l e = tt
