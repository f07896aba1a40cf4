-- The limits of a configuration are in their ranges.
use Rattle.std.proofs.Common.{◌≡◌, ℕ, ◌≤◌, ◌%◌, Bool, true, false, if◌then◌else◌, ◌&&◌, List, Option, None, Some, Result, Ok, Err, refl, sym, ap, ◌∙◌, subst, arith}
use Rattle.std.specs.Prelude.{ℤ, pos, negsuc, nat_le, ◌==◌}
use Rattle.std.proofs.lemmas.Bool.{eqb-true}
use Rattle.std.proofs.lemmas.Bool.Decides.{nat_tests}
use Rattle.nx_config.specs.declared.value.Value.{Value}
use Rattle.nx_config.specs.declared.value.Value.TheVariants.{Yes, Number, Text}
use Rattle.nx_config.specs.declared.value.Kept.{Kept}
use Rattle.nx_config.specs.declared.limits.Limits.{Limits}
use Rattle.nx_config.specs.Limits.{Row, ram_row, threads_row, blocks_row, nodes_row, console_row, stack_row, IsInRange, AreInRange, number_within, number_at, limit_at, limit_or, limit_by, earlier, first_line, all_limits, number_in, numbers_by, numbers_unless, limits_by}

-- a number that passed three tests
passed : (a b c : Bool) (n m : ℕ) → (if a && b && c then Some n else None) ≡ Some m → (a ≡ true) × (b ≡ true) × (c ≡ true) × (n ≡ m)
passed true true true n m e = (refl, refl, refl, cc)
passed true true false n m e = absurd cc
passed true false c n m e = absurd cc
passed false b c n m e = absurd cc

at_most : (n m : ℕ) → nat_le n m ≡ true → n ≤ m
at_most n m e = grind (arith, nat_tests)

within_range : (r : Row) (z : ℤ) (m : ℕ) → number_within r z ≡ Some m → IsInRange r m
within_range r (pos n) m e =
    let p = passed (nat_le r.lowest n) (nat_le n r.highest) (n % r.multiple == 0) n m e in
    subst (λ k. IsInRange r k) p.3 (record { low = at_most r.lowest n p.0; high = at_most n r.highest p.1; whole = eqb-true (n % r.multiple) 0 p.2 })
within_range r (negsuc n) m e = absurd cc

found_in_range : (r : Row) (line : ℕ) (o : Option ℕ) (m : ℕ) → ((k : ℕ) → o ≡ Some k → IsInRange r k) → number_at line o ≡ Ok m → IsInRange r m
found_in_range r line None m h e = absurd cc
found_in_range r line (Some k) m h e = h m (let same : k ≡ m = cc in ap Some same)

same_number : (n m : ℕ) → (let x : Result ℕ ℕ = Ok n in x) ≡ Ok m → n ≡ m
same_number n m e = cc

at_in_range : (r : Row) (line : ℕ) (v : Option Value) (m : ℕ) → IsInRange r r.default → limit_at r line v ≡ Ok m → IsInRange r m
at_in_range r line None m d e = subst (λ k. IsInRange r k) (same_number r.default m e) d
at_in_range r line (Some Yes) m d e = absurd cc
at_in_range r line (Some (Number z)) m d e = found_in_range r line (number_within r z) m (within_range r z) e
at_in_range r line (Some (Text text)) m d e = absurd cc

limit_in_range : (r : Row) (o : Option Kept) (m : ℕ) → IsInRange r r.default → limit_or r o ≡ Ok m → IsInRange r m
limit_in_range r None m d e = subst (λ k. IsInRange r k) (same_number r.default m e) d
limit_in_range r (Some kept) m d e = at_in_range r kept.line kept.value m d e

-- where no line is out of range, each limit has its number
none_earlier : (l : Result ℕ ℕ) (o : Option ℕ) → earlier l o ≡ None → (l ≡ Ok (number_in l)) × (o ≡ None)
none_earlier (Ok n) o e = (refl, e)
none_earlier (Err line) o e = absurd cc

no_line : (o : Option ℕ) (a b : Limits) → numbers_unless o a ≡ Ok b → (o ≡ None) × (a ≡ b)
no_line None a b e = (refl, cc)
no_line (Some line) a b e = absurd cc

in_row : (r : Row) (last : List ℕ → Option Kept) → IsInRange r r.default → limit_by r last ≡ Ok (number_in (limit_by r last)) → IsInRange r (number_in (limit_by r last))
in_row r last d e = limit_in_range r (last r.name) _ d e

-- so the limits of lines are in their ranges
pub limits_in_range : (last : List ℕ → Option Kept) (l : Limits) → limits_by last ≡ Ok l → AreInRange l
unfolding limits_by
limits_in_range last l e =
    let n = no_line (first_line (all_limits last)) (numbers_by last) l e in
    let ram = none_earlier (limit_by ram_row last) _ n.0 in
    let threads = none_earlier (limit_by threads_row last) _ ram.1 in
    let blocks = none_earlier (limit_by blocks_row last) _ threads.1 in
    let nodes = none_earlier (limit_by nodes_row last) _ blocks.1 in
    let console = none_earlier (limit_by console_row last) _ nodes.1 in
    let stack = none_earlier (limit_by stack_row last) _ console.1 in
    subst (λ (k : Limits). AreInRange k) n.1 (
    record {
      ram = in_row ram_row last (record { low = omega arith; high = omega arith; whole = refl }) ram.0;
      threads = in_row threads_row last (record { low = omega arith; high = omega arith; whole = refl }) threads.0;
      blocks = in_row blocks_row last (record { low = omega arith; high = omega arith; whole = refl }) blocks.0;
      nodes = in_row nodes_row last (record { low = omega arith; high = omega arith; whole = refl }) nodes.0;
      console = in_row console_row last (record { low = omega arith; high = omega arith; whole = refl }) console.0;
      stack = in_row stack_row last (record { low = omega arith; high = omega arith; whole = refl }) stack.0;
    }
    )
