-- The rows of calls that close a descriptor which is open.
use Rattle.std.proofs.Common.{◌≡◌, ◌≢◌, ℕ, ◌<◌, ◌==◌, Bool, true, false, List, [], sym, ap, ◌∙◌, arith}
use Rattle.std.specs.Prelude.{Option, Some, nat_le, if◌then◌else◌}
use Rattle.std.proofs.lemmas.Bool.Decides.{nat_tests}
use Rattle.nx_base.specs.declared.errno.Errno.TheVariants.{Ebadf}
use Rattle.nx_ksys.specs.State.{KernelState}
use Rattle.nx_ksys.specs.Answers.{Stepped, Caller, replied, failed}
use Rattle.nx_ksys.specs.Descriptors.{description_at, set_descriptor, closed}
use Rattle.nx_ksys.specs.FileCalls.{close_row, close_at, dup2_row, dup2_of, with_second}

pub close_row_open : (k now : KernelState) (c : Caller) (fd place : ℕ) → description_at k.descriptors c.place fd ≡ Some place → now ≡ closed k c.place fd → close_row k c fd ≡ replied now c 0 []
unfolding close_row
close_row_open k now c fd place e h = ap (close_at k c fd) e ∙ ap (λ x. replied x c 0 []) (sym h)

within : (second : ℕ) → second < 32 → nat_le 32 second ≡ false
within second lt = grind (arith, nat_tests)

two : (first second : ℕ) → first ≢ second → (first == second) ≡ false
two first second ne = grind (arith, nat_tests)

pub dup2_row_open : (k mid : KernelState) (c : Caller) (first second place : ℕ) (ds : List (Option ℕ)) → description_at k.descriptors c.place first ≡ Some place → second < 32 → first ≢ second
    → mid ≡ closed k c.place second → ds ≡ set_descriptor mid.descriptors c.place second (Some place) → dup2_row k c first second ≡ replied (record mid { descriptors = ds }) c second []
unfolding dup2_row
dup2_row_open k mid c first second place ds e lt ne h d =
    let last : Bool → Stepped = λ b. if b then replied k c second [] else replied (with_second k c place second) c second [] in
    ap (dup2_of k c first second) e
    ∙ ap (λ b. if b then failed k c Ebadf else last (first == second)) (within second lt)
    ∙ ap last (two first second ne)
    ∙ ap (λ x. replied (record x { descriptors = set_descriptor x.descriptors c.place second (Some place) }) c second []) (sym h)
    ∙ ap (λ x. replied (record mid { descriptors = x }) c second []) (sym d)
