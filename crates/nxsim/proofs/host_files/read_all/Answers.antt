use Rattle.std.proofs.Common.{◌≡◌, ℕ, ◌+◌, List, ◌++◌, Option, Some, None, Err, length, take, sym, ap, ◌∙◌, subst, arith, length-append}
use Rattle.std.proofs.Math.Seq.{take-append_seam}
use Rattle.std.specs.Io.KnownBytes.{Consumes}
use Rattle.nx_outside.specs.declared.files.FileStop.TheVariants.{TooLong}
use Rattle.nx_outside.specs.Outside.{longest}
use Rattle.nxsim.specs.Host.{ReadToEnd}
use Rattle.nxsim.proofs.host_files.read_all.Goals as goal

-- a prefix is as many of the bytes as it is long
prefix_is : (n : ℕ) (left prefix rest : List ℕ) → left ≡ prefix ++ rest → length prefix ≡ n → prefix ≡ take n left
prefix_is n left prefix rest e l =
    subst (λ k. prefix ≡ take k left) l (sym (ap (λ v. take (length prefix) v) e ∙ take-append_seam prefix rest))

-- a reader gave one byte more than the longest content
reads_too_much : (T : Type 0) (old new : Option (List ℕ)) (bytes : List ℕ) → Consumes old new bytes → length bytes ≡ longest + 1 → ReadToEnd {T = T} (Err TooLong) old bytes
reads_too_much T None new bytes h l = tt
reads_too_much T (Some left) None bytes h l = absurd h
reads_too_much T (Some left) (Some rest) bytes h l =
    (omega (arith, ap length h, length-append bytes rest), prefix_is (longest + 1) left bytes rest h l)

pub returns-clause-whole : goal.returns-clause-whole
returns-clause-whole g c = reads_too_much (Unit {0}) _ _ _ c.loop-file.invariant.consumed (omega (arith, c.loop-file.invariant.within))
