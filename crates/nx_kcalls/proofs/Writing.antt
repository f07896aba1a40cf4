-- A write of no bytes, and one of some.
use Rattle.std.proofs.Common.{◌≡◌, ◌==◌, ℕ, true, false, List, [], ◌∷◌, length, refl, arith}
use Rattle.std.proofs.lemmas.Bool.Decides.{nat_tests}
use Rattle.nx_ksys.specs.State.{KernelState}
use Rattle.nx_ksys.specs.Answers.{Caller, replied}
use Rattle.nx_ksys.specs.Descriptors.{Opened}
use Rattle.nx_ksys.specs.FileCalls.{write_some, write_target}

zero_by : (n : ℕ) → (n == 0) ≡ true → n ≡ 0
zero_by n e = grind (arith, nat_tests, e)

pub none_written : (k : KernelState) (c : Caller) (o : Opened) (bytes : List ℕ) → (length bytes == 0) ≡ true → write_some k c o bytes ≡ replied k c 0 []
none_written k c o [] e = refl
none_written k c o (b ∷ bytes) e = let z = zero_by (length (b ∷ bytes)) e in absurd (omega (arith, z))

pub some_written : (k : KernelState) (c : Caller) (o : Opened) (bytes : List ℕ) → (length bytes == 0) ≡ false → write_some k c o bytes ≡ write_target k c o bytes o.description.target
some_written k c o [] e = absurd cc
some_written k c o (b ∷ bytes) e = refl
