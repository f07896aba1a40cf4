-- Frames of which none was taken yet.
use Rattle.std.proofs.Common.{◌≡◌, ◌≢◌, ℕ, zero, suc, ◌+◌, ◌*◌, ◌^◌, ◌<◌, ◌≤◌, List, ◌∷◌, length, refl, sym, ap, ◌∙◌, subst, arith}
use Rattle.std.specs.Prelude.{slice_index}
use Rattle.nx_frames.specs.Chains.{address, chain, Each, AreOnce, IsFrame}
use Rattle.nx_frames.specs.Zeros.{ram_start}
use Rattle.nx_frames.specs.Stock.{AreStocked, frames_from}

fresh_from : (first : ℕ) (next : List ℕ) (k n : ℕ) → k + n ≤ length next → ((j : ℕ) → j < length next → slice_index next j ≡ j + 1) → chain first next k n ≡ frames_from (first + 4096 * k) n
unfolding chain frames_from
fresh_from first next k zero l links = refl
fresh_from first next k (suc n) l links =
    let e : first + 4096 * (k + 1) ≡ first + 4096 * k + 4096 = omega arith in
    ap (λ j. address first k ∷ chain first next j n) (links k (omega (arith, l)))
    ∙ ap (λ xs. address first k ∷ xs) (fresh_from first next (k + 1) n (omega (arith, l)) links ∙ ap (λ a. frames_from a n) e)

pub fresh_chain : (first : ℕ) (next : List ℕ) (count : ℕ) → length next ≡ count → ((j : ℕ) → j < count → slice_index next j ≡ j + 1) → chain first next 0 count ≡ frames_from first count
fresh_chain first next count long links =
    let e : first + 4096 * 0 ≡ first = omega arith in
    fresh_from first next 0 count (omega (arith, long)) (λ j l. links j (omega (arith, l, long))) ∙ ap (λ a. frames_from a count) e

fresh_frames : (first k n count : ℕ) → k + n ≤ count → Each (IsFrame first count) (frames_from (first + 4096 * k) n)
unfolding frames_from
fresh_frames first k zero count l = tt
fresh_frames first k (suc n) count l =
    let e : first + 4096 * (k + 1) ≡ first + 4096 * k + 4096 = omega arith in
    ((k, omega (arith, l), refl), subst (λ a. Each (IsFrame first count) (frames_from a n)) e (fresh_frames first (k + 1) n count (omega (arith, l))))

above : (a b n : ℕ) → a < b → Each (λ y. y ≢ a) (frames_from b n)
unfolding frames_from
above a b zero l = tt
above a b (suc n) l = ((λ e. omega (arith, e, l)), above a (b + 4096) n (omega (arith, l)))

once_from : (a n : ℕ) → AreOnce (frames_from a n)
unfolding frames_from
once_from a zero = tt
once_from a (suc n) = (above a (a + 4096) n (omega arith), once_from (a + 4096) n)

pub fresh_stocked : (first : ℕ) (next : List ℕ) (count : ℕ) → ram_start ≤ first → first + 4096 * count ≤ 2 ^ 32 → length next ≡ count → ((j : ℕ) → j < count → slice_index next j ≡ j + 1) → AreStocked first next (chain first next 0 count)
fresh_stocked first next count low fits long links =
    let e : first + 4096 * 0 ≡ first = omega arith in
    subst (AreStocked first next) (sym (fresh_chain first next count long links)) (record {
      frames = subst (λ k. Each (IsFrame first k) (frames_from first count)) (sym long) (subst (λ a. Each (IsFrame first count) (frames_from a count)) e (fresh_frames first 0 count count (omega arith)));
      once = once_from first count;
      low = low;
      fits = omega (arith, fits, long);
    })
