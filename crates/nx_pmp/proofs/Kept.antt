-- The rules that decide the accesses in a part of an entry's range.
use Rattle.std.proofs.Common.{◌≡◌, ℕ, zero, suc, ◌+◌, ◌≤◌, true, false, ◌&&◌, cond, List, [], ◌∷◌, drop, refl, sym, ap, ◌∙◌, arith}
use Rattle.std.proofs.lemmas.Bool.Decides.{nat_tests}
use Rattle.nx_base.specs.declared.access.Access.{Access}
use Rattle.nx_base.specs.declared.access.Mode.{Mode}
use Rattle.nx_pmp.specs.declared.matching.Range.{Range}
use Rattle.nx_pmp.specs.declared.pmp.Pmp.{Pmp}
use Rattle.nx_pmp.specs.declared.pmp.PmpEntry.{PmpEntry}
use Rattle.nx_pmp.specs.declared.region.Region.{Region}
use Rattle.nx_pmp.specs.Matching.{matching_of, matched, matches_all}
use Rattle.nx_pmp.specs.Protection.{Rule, rules_from, decided, permits, allows, any_byte, all_bytes, entry_at}
use Rattle.nx_pmp.specs.Unit.{Contains, IsDecided}

-- a rule that matches no byte is passed over
passed_over : (r : Rule) (rs : List Rule) (at len : ℕ) (access : Access) (mode : Mode) → any_byte r.range at len ≡ false → decided (r ∷ rs) at len access mode ≡ decided rs at len access mode
passed_over r rs at len access mode none = ap (λ b. cond b (all_bytes r.range at len && permits r.cfg access mode) (decided rs at len access mode)) none

-- the first one that matches all bytes decides
decides_first : (r : Rule) (rs : List Rule) (at len : ℕ) (access : Access) (mode : Mode) → any_byte r.range at len ≡ true → all_bytes r.range at len ≡ true → decided (r ∷ rs) at len access mode ≡ permits r.cfg access mode
decides_first r rs at len access mode any every =
    ap (λ b. cond b (all_bytes r.range at len && permits r.cfg access mode) (decided rs at len access mode)) any
    ∙ ap (λ b. b && permits r.cfg access mode) every

passed_suc : (es : List PmpEntry) (before i at len : ℕ) (access : Access) (mode : Mode) → any_byte (matched (matching_of (entry_at es i).cfg) before (entry_at es i).addr) at len ≡ false → decided (rules_from before (drop i es)) at len access mode ≡ decided (rules_from (entry_at es i).addr (drop (suc i) es)) at len access mode
passed_suc [] before zero at len access mode none = refl
passed_suc [] before (suc i) at len access mode none = refl
passed_suc (e ∷ es) before zero at len access mode none = passed_over (record { cfg = e.cfg; range = matched (matching_of e.cfg) before e.addr }) (rules_from e.addr es) at len access mode none
passed_suc (e ∷ es) before (suc i) at len access mode none = passed_suc es before i at len access mode none

pub passed_at : (es : List PmpEntry) (before i at len : ℕ) (access : Access) (mode : Mode) → any_byte (matched (matching_of (entry_at es i).cfg) before (entry_at es i).addr) at len ≡ false → decided (rules_from before (drop i es)) at len access mode ≡ decided (rules_from (entry_at es i).addr (drop (i + 1) es)) at len access mode
passed_at es before i at len access mode none =
    let e : suc i ≡ i + 1 = omega arith in
    passed_suc es before i at len access mode none ∙ ap (λ k. decided (rules_from (entry_at es i).addr (drop k es)) at len access mode) e

pub decides_here : (es : List PmpEntry) (before i at len : ℕ) (access : Access) (mode : Mode) → any_byte (matched (matching_of (entry_at es i).cfg) before (entry_at es i).addr) at len ≡ true → all_bytes (matched (matching_of (entry_at es i).cfg) before (entry_at es i).addr) at len ≡ true → decided (rules_from before (drop i es)) at len access mode ≡ permits (entry_at es i).cfg access mode
decides_here [] before zero at len access mode any every = absurd cc
decides_here [] before (suc i) at len access mode any every = absurd cc
decides_here (e ∷ es) before zero at len access mode any every = decides_first (record { cfg = e.cfg; range = matched (matching_of e.cfg) before e.addr }) (rules_from e.addr es) at len access mode any every
decides_here (e ∷ es) before (suc i) at len access mode any every = decides_here es before i at len access mode any every

contains : (r : Range) (at len : ℕ) → matches_all r at len ≡ true → Contains r at len
contains r at len h = (grind (arith, nat_tests), grind (arith, nat_tests))

-- an access in a region that is decided
pub answered : (pmp : Pmp) (r : Region) (at len : ℕ) (access : Access) (mode : Mode) → IsDecided pmp r → 1 ≤ len → matches_all r.range at len ≡ true → permits r.cfg access mode ≡ allows pmp at len access mode
unfolding IsDecided
answered pmp r at len access mode d some h = sym (d at len access mode some (contains r.range at len h))
