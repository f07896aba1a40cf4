-- Which accesses are allowed. RISC-V Privileged Architecture 1.12, section 3.7.1, "Locking and Privilege Mode" and "Priority and Matching Logic".
use Rattle.std.specs.Prelude.{◌≡◌, ℕ, zero, suc, ◌<◌, slice_index_or, ◌/◌, ◌%◌, ◌==◌, Bool, true, false, ◌&&◌, ◌||◌, not, if◌then◌else◌, List, [], ◌∷◌, Option, Some, None}
use Rattle.nx_base.specs.declared.access.Access.{Access}
use Rattle.nx_base.specs.declared.access.Access.TheVariants.{Fetch, Load, Store}
use Rattle.nx_base.specs.declared.access.Mode.{Mode}
use Rattle.nx_base.specs.declared.access.Mode.TheVariants.{User, Machine}
use Rattle.nx_pmp.specs.declared.matching.Range.{Range}
use Rattle.nx_pmp.specs.declared.pmp.PmpEntry.{PmpEntry}
use Rattle.nx_pmp.specs.declared.pmp.Pmp.{Pmp}
use Rattle.nx_pmp.specs.Matching.{matching_of, matched, matches_any, matches_all}

-- whether the bit of a weight is set
abbrev pub is_set : ℕ → ℕ → Bool
is_set cfg weight = cfg / weight % 2 == 1

-- R is bit 0, W bit 1, X bit 2
abbrev pub right_of : Access → ℕ
right_of Load = 1
right_of Store = 2
right_of Fetch = 4

abbrev pub is_machine : Mode → Bool
is_machine User = false
is_machine Machine = true

-- without L, bit 7, an entry does not bind machine mode; else the bit of the access decides
abbrev pub permits : ℕ → Access → Mode → Bool
permits cfg access mode = (is_machine mode && not (is_set cfg 128)) || is_set cfg (right_of access)

-- an entry's configuration, and the addresses that it matches
pub record Rule : Type 0 where
  pub cfg : ℕ
  pub range : Option Range

-- the rules of entries, where the one before them has an address field
abbrev pub rules_from : ℕ → List PmpEntry → List Rule
rules_from before [] = []
rules_from before (e ∷ es) = record { cfg = e.cfg; range = matched (matching_of e.cfg) before e.addr } ∷ rules_from e.addr es

-- whether a rule matches any byte of an access, and all of them
abbrev pub any_byte : Option Range → ℕ → ℕ → Bool
any_byte None at len = false
any_byte (Some r) at len = matches_any r at len

abbrev pub all_bytes : Option Range → ℕ → ℕ → Bool
all_bytes None at len = false
all_bytes (Some r) at len = matches_all r at len

-- the first rule that matches any byte decides and must match all; where there is none, machine mode succeeds and user mode fails
abbrev pub decided : List Rule → ℕ → ℕ → Access → Mode → Bool
decided [] at len access mode = is_machine mode
decided (r ∷ rs) at len access mode =
    if any_byte r.range at len then all_bytes r.range at len && permits r.cfg access mode else decided rs at len access mode

-- what the sixteen entries allow
unfoldable pub allows : Pmp → ℕ → ℕ → Access → Mode → Bool
allows pmp at len access mode = decided (rules_from 0 pmp.entries) at len access mode

-- an entry by its number, and the address field before it, which is 0 for entry 0
abbrev pub entry_at : List PmpEntry → ℕ → PmpEntry
entry_at es i = slice_index_or es i (record { cfg = 0; addr = 0 })

abbrev pub field_before : ℕ → List PmpEntry → ℕ → ℕ
field_before first es zero = first
field_before first es (suc i) = (entry_at es i).addr

-- the addresses that an entry matches, by its number
abbrev pub range_at : ℕ → List PmpEntry → ℕ → Option Range
range_at first es i = matched (matching_of (entry_at es i).cfg) (field_before first es i) (entry_at es i).addr

-- none of the first n entries matches any byte of an access
abbrev pub NoneMatches : List PmpEntry → ℕ → ℕ → ℕ → Type 0
NoneMatches es n at len = (j : ℕ) → j < n → any_byte (range_at 0 es j) at len ≡ false
