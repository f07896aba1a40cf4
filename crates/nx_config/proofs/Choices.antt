-- The choice of a build takes no memory.
use Rattle.std.proofs.Common.{◌≢◌, ℕ, List, [], ◌∷◌, Option, Err}
use Rattle.std.specs.Prelude.{codes}
use Rattle.nx_base.specs.declared.build.Build.{Build}
use Rattle.nx_config.specs.declared.fault.ConfigFault.TheVariants as fault
use Rattle.nx_config.specs.declared.value.Kept.{Kept}
use Rattle.nx_config.specs.Builds.{only, in_order, choices, yes_line, build_by}

only_memory : (cs : List (ℕ × Build)) → only cs ≢ Err fault.Memory
only_memory [] e = cc e
only_memory (c ∷ []) e = cc e
only_memory (c ∷ d ∷ cs) e = cc e

-- no choice of a build is out of memory
pub build_memory : (last : List ℕ → Option Kept) → build_by last ≢ Err fault.Memory
unfolding build_by
build_memory last = only_memory (in_order (choices (yes_line (last (codes "CONFIG_BUILD_FLAT"))) (yes_line (last (codes "CONFIG_BUILD_PROTECTED"))) (yes_line (last (codes "CONFIG_BUILD_KERNEL")))))
