-- A call that is answered does what its row says.
use Rattle.std.proofs.Common.{◌≡◌, ◌<◌, ◌≤◌, ◌+◌, ◌^◌, ◌⊎◌, ⊎_elim, ℕ, suc, ℤ, pos, List, [], ◌∷◌, ◌++◌, refl, sym, subst, ap, ◌∙◌, arith, w32, to_z, of_z}
use Rattle.std.specs.Prelude.{◌-◌}
use Rattle.std.proofs.lemmas.Bool.{cases_lt}
use Rattle.std.proofs.lemmas.List.{map-append}
use Rattle.std.proofs.lemmas.Int.{to_z_pos, of_z-to_z}
use Rattle.std.proofs.Math.Facts as facts
use Rattle.nx_base.specs.Calls.{Reply}
use Rattle.nx_ksys.specs.State.{KernelState}
use Rattle.nx_ksys.specs.Answers.{Caller, Stepped}
use Rattle.nx_ksys.specs.Telling.{reply}
use Rattle.nx_ksys.specs.Gathered.{Gathered, word_of, reply_of, replies_of}
use Rattle.nx_ksys.proofs.Gathering.{answer}
use Rattle.nx_path.specs.Rows.{in_directory}
use Rattle.nx_objects.specs.declared.objects.Objects.{Objects}
use Rattle.nx_objects.specs.Tables.{ArePlaced}
use Rattle.nx_kernel.specs.Doing.{Does}

-- what does one thing does another that is the same
pub does_as : (now : KernelState) (before after : List Reply) (row row' : Stepped) → row ≡ row' → Does now before after row' → Does now before after row
does_as now before after row row' e d = subst (Does now before after) (sym e) d

-- as many slots have the same places
pub placed_as : (m n : ℕ) (o : Objects) → n ≡ m → ArePlaced m o → ArePlaced n o
placed_as m n o e p = subst (λ x. ArePlaced x o) (sym e) p

-- a row and what it is told, for a caller who stands in that directory
pub standing : (row told : Caller → Stepped) (c : Caller) (directory : List ℕ) → directory ≡ c.group.directory → row (in_directory c directory) ≡ told (in_directory c directory) → row c ≡ told c
standing row told c directory e h = subst (λ d. row (in_directory c d) ≡ told (in_directory c d)) e h

-- ---- words with a sign

upper : (n k : ℕ) → n < 2 ^ 32 → 2 ^ 31 ≤ n → k ≡ 2 ^ 32 - 1 - n → word_of (to_z w32 n) ≡ n
upper n k lt le e =
    let is : n ≡ 2 ^ 32 - suc k = omega (arith, lt, e) in
    let below : k < 2 ^ 31 = omega (arith, lt, le, e) in
    let back : 2 ^ 32 - (k + 1) ≡ n = omega (arith, lt, e) in
    ap (λ m. word_of (to_z w32 m)) is ∙ ap word_of (facts.to_z-neg w32 k below) ∙ back

word_back : (n : ℕ) → n < 2 ^ 32 → word_of (to_z w32 n) ≡ n
word_back n lt = ⊎_elim (λ l. ap word_of (to_z_pos w32 n l)) (λ g. upper n (2 ^ 32 - 1 - n) lt g refl) (cases_lt n (2 ^ 31))

-- a word is told as a number with a sign
pub word_told : (before after : Gathered) (tid value : ℕ) (z : ℤ) (first second : List ℕ) → value < 2 ^ 32 → z ≡ to_z w32 value → after ≡ record before { replies = before.replies ++ answer tid (to_z w32 (of_z w32 z)) (pos 0) first second ∷ [] }
    → replies_of after.replies ≡ replies_of before.replies ++ reply tid value (first ∷ second ∷ []) ∷ []
word_told before after tid value z first second lt is e =
    let same : to_z w32 (of_z w32 z) ≡ to_z w32 value = ap (λ y. to_z w32 (of_z w32 y)) is ∙ ap (to_z w32) (of_z-to_z w32 value lt) in
    let back : word_of (to_z w32 (of_z w32 z)) ≡ value = ap word_of same ∙ word_back value lt in
    ap (λ (g : Gathered). replies_of g.replies) e
    ∙ map-append reply_of before.replies (answer tid (to_z w32 (of_z w32 z)) (pos 0) first second ∷ [])
    ∙ ap (λ v. replies_of before.replies ++ record { thread = tid; value = v; errno = 0; outputs = first ∷ second ∷ [] } ∷ []) back
