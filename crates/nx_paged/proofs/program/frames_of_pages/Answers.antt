use Rattle.std.proofs.Common.{◌≡◌, ◌≢◌, ℕ, zero, suc, ◌+◌, ◌-◌, ◌/◌, map, refl, arith}
use Rattle.nx_space.specs.Starts.{different, pages_from}
use Rattle.nx_paged.proofs.Regions.{regions_count}
use Rattle.nx_paged.proofs.program.frames_of_pages.Goals as goal

counted : (first n : ℕ) → n ≢ 0 → n + ((first + n - 1) / 1024 - first / 1024 + 1) ≡ n + different (map (λ page. page / 1024) (pages_from first n))
counted first zero ne = absurd (ne refl)
counted first (suc n) ne = let r = regions_count first n in omega (arith, r)

pub returns-else-count-eq0-clause-frames : goal.returns-else-count-eq0-clause-frames
returns-else-count-eq0-clause-frames c = counted c.args.first c.args.count c.if-count-eq0.false
