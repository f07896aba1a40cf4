use Rattle.std.proofs.Common.{◌≡◌, refl, sym, ap, ◌∙◌}
use Rattle.std.specs.List.{find}
use Rattle.nx_base.proofs.Finding.{find_here}
use Rattle.nx_shtok.specs.declared.token.Word.{Word}
use Rattle.nx_shtree.specs.Words.{spells, all_keywords, keyword_of}
use Rattle.nx_shtree.proofs.keyword.keyword_of.Goals as goal

searched : (w : Word) → find (spells w) all_keywords ≡ keyword_of w
unfolding keyword_of
searched w = refl

pub returns-then-spells : goal.returns-then-spells
returns-then-spells c =
    sym (find_here (spells c.args.word.now) _ _ _ c.loop-keyword-test.true (sym c.if-spells.ensures)) ∙ c.loop-keyword.invariant ∙ ap (find (spells c.args.word.now)) c.keywords-keyword-items.ensures ∙ searched c.args.word.now
