-- Parts with commas between them.
use Rattle.std.specs.Prelude.{List, [], ◌∷◌}
use Rattle.nx_grammar.specs.Reading.{Reading, seq, loop}
use Rattle.nx_grammar.specs.Chains.{chain_pick}
use Rattle.nx_ctree.specs.declared.sign.Sign.TheVariants as sign
use Rattle.nx_ctree.specs.declared.sign.Signed.{Signed}
use Rattle.nx_cexpr.specs.Signs.{is_sign}
use Rattle.nx_cstmt.specs.Lists.{add}

-- After a comma: a part more.
abbrev pub next : {A : Type 0} → Reading Signed A → List A → Reading Signed (List A)
next part xs = seq part (add xs)

-- After a part: the others.
abbrev pub others : {A : Type 0} → Reading Signed A → List A → Reading Signed (List A)
others part xs = loop (chain_pick (is_sign sign.Comma) (next part)) xs

-- One part or more.
abbrev pub commas : {A : Type 0} → Reading Signed A → Reading Signed (List A)
commas part = seq part (λ a. others part (a ∷ []))
