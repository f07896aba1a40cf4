-- A configuration from its table.
use Rattle.std.proofs.Common.{◌≡◌, ℕ, List, None, Some, Result, Ok, Err, IsOk, ◌⊎◌, inl, inr, refl}
use Rattle.nx_config.specs.declared.fault.ConfigFault.{ConfigFault}
use Rattle.nx_config.specs.declared.fault.ConfigFault.TheVariants as fault
use Rattle.nx_config.specs.Builds.{build_by}
use Rattle.nx_config.specs.Configuration.{Configuration, IsOfText, Configures, last_in, first_fault}
use Rattle.nx_config.specs.Tables.{value_in}

-- a configuration answers for every name as its text does, so its build is the text's
pub build_of_text : (c : Configuration) (text : List ℕ) → IsOfText c text → build_by (value_in c.values) ≡ build_by (last_in text)
build_of_text c text h = λ i. build_by (λ name. h.values name i)

-- a text without a fault is read
pub accepted_by : (text : List ℕ) (r : Result Configuration ConfigFault) → Configures r text → first_fault text ≡ None → IsOk r ⊎ (r ≡ Err fault.Memory)
accepted_by text (Ok c) h e = inl refl
accepted_by text (Err fault.Memory) h e = inr refl
accepted_by text (Err (fault.Text line kind)) h e = absurd (cc (h, e))

-- a text with a fault is refused by its first
pub refused_by : (text : List ℕ) (r : Result Configuration ConfigFault) → Configures r text → (f : ConfigFault) → first_fault text ≡ Some f → (r ≡ Err f) ⊎ (r ≡ Err fault.Memory)
refused_by text (Ok c) h f e = let g = h.good in absurd (cc (g, e))
refused_by text (Err fault.Memory) h f e = inr refl
refused_by text (Err (fault.Text line kind)) h f e = inl (cc (h, e))
