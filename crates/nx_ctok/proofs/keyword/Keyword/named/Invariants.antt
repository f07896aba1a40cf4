use Rattle.std.proofs.Common.{◌≡◌, drop}
use Rattle.std.specs.List.{find}
use Rattle.std.specs.Str.{bytes_eq}
use Rattle.nx_ctok.specs.Spellings.{keyword_text}
use Rattle.nx_ctok.proofs.keyword.Keyword.named.Given as goal

abbrev pub invariant-loop-keyword : goal.invariant-loop-keyword
invariant-loop-keyword l =
    find (λ k. bytes_eq l.bytes (keyword_text k)) (drop l.keyword-index l.keyword-items) ≡ find (λ k. bytes_eq l.bytes (keyword_text k)) l.keyword-items
