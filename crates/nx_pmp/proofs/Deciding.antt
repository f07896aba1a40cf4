-- The first rule that matches decides.
use Rattle.std.proofs.Common.{◌≡◌, ℕ, zero, suc, ◌<◌, true, false, ◌&&◌, cond, List, [], ◌∷◌, length, refl, ap, ◌∙◌, arith}
use Rattle.nx_base.specs.declared.access.Access.{Access}
use Rattle.nx_base.specs.declared.access.Mode.{Mode}
use Rattle.nx_pmp.specs.declared.pmp.PmpEntry.{PmpEntry}
use Rattle.nx_pmp.specs.Protection.{rules_from, decided, permits, is_machine, any_byte, all_bytes, entry_at, range_at}

-- the ranges of the entries after the first
range_more : (first : ℕ) (e : PmpEntry) (es : List PmpEntry) (j : ℕ) → range_at e.addr es j ≡ range_at first (e ∷ es) (suc j)
range_more first e es zero = refl
range_more first e es (suc j) = refl

none_more : (first : ℕ) (e : PmpEntry) (es : List PmpEntry) (n at len : ℕ) → ((j : ℕ) → j < suc n → any_byte (range_at first (e ∷ es) j) at len ≡ false) → (j : ℕ) → j < n → any_byte (range_at e.addr es j) at len ≡ false
none_more first e es n at len none j h = ap (λ r. any_byte r at len) (range_more first e es j) ∙ none (suc j) (omega (arith, h))

pub decides_at : (es : List PmpEntry) (first at len i : ℕ) (access : Access) (mode : Mode) → i < length es → ((j : ℕ) → j < i → any_byte (range_at first es j) at len ≡ false) → any_byte (range_at first es i) at len ≡ true → decided (rules_from first es) at len access mode ≡ (all_bytes (range_at first es i) at len && permits (entry_at es i).cfg access mode)
decides_at [] first at len i access mode h none any = absurd (omega (arith, h))
decides_at (e ∷ es) first at len zero access mode h none any =
    ap (λ b. cond b (all_bytes (range_at first (e ∷ es) 0) at len && permits e.cfg access mode) (decided (rules_from e.addr es) at len access mode)) any
decides_at (e ∷ es) first at len (suc i) access mode h none any =
    let r = range_more first e es i in
    ap (λ b. cond b (all_bytes (range_at first (e ∷ es) 0) at len && permits e.cfg access mode) (decided (rules_from e.addr es) at len access mode)) (none 0 (omega arith))
    ∙ decides_at es e.addr at len i access mode (omega (arith, h)) (none_more first e es i at len none) (ap (λ q. any_byte q at len) r ∙ any)
    ∙ ap (λ q. all_bytes q at len && permits (entry_at es i).cfg access mode) r

pub none_decides : (es : List PmpEntry) (first at len : ℕ) (access : Access) (mode : Mode) → ((j : ℕ) → j < length es → any_byte (range_at first es j) at len ≡ false) → decided (rules_from first es) at len access mode ≡ is_machine mode
none_decides [] first at len access mode none = refl
none_decides (e ∷ es) first at len access mode none =
    ap (λ b. cond b (all_bytes (range_at first (e ∷ es) 0) at len && permits e.cfg access mode) (decided (rules_from e.addr es) at len access mode)) (none 0 (omega arith))
    ∙ none_decides es e.addr at len access mode (none_more first e es (length es) at len none)
