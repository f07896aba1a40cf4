use Rattle.std.proofs.Common.{sym, subst, ap, ◌∙◌}
use Rattle.nx_shstep.specs.Held.{Held}
use Rattle.nx_shstep.specs.Short.{AreShort}
use Rattle.nx_shstep.proofs.Lengths.{short_at}
use Rattle.nx_shstep.proofs.command.Command.begin.Goals as goal

pub word-requires : goal.word-requires
word-requires c =
    let words = ap (λ (h : Held). h.running.words) c.self.view_is in
    let file = ap (λ (h : Held). h.running.file) c.self.view_is in
    let short = short_at c.args.self.now.running c.as_slice.result.now c.as_slice-2.result.now c.is_too_long.result (c.as_slice.ensures ∙ words) (c.as_slice-2.ensures ∙ file) c.is_too_long.ensures c.if-is_too_long.false in
    subst AreShort (sym (c.as_slice-3.ensures ∙ words)) short.words

pub begin_built_in-requires : goal.begin_built_in-requires
begin_built_in-requires c =
    let words = ap (λ (h : Held). h.running.words) c.self.view_is in
    let file = ap (λ (h : Held). h.running.file) c.self.view_is in
    short_at c.args.self.now.running c.as_slice.result.now c.as_slice-2.result.now c.is_too_long.result (c.as_slice.ensures ∙ words) (c.as_slice-2.ensures ∙ file) c.is_too_long.ensures c.if-is_too_long.false

pub begin_program-requires : goal.begin_program-requires
begin_program-requires c =
    let words = ap (λ (h : Held). h.running.words) c.self.view_is in
    let file = ap (λ (h : Held). h.running.file) c.self.view_is in
    short_at c.args.self.now.running c.as_slice.result.now c.as_slice-2.result.now c.is_too_long.result (c.as_slice.ensures ∙ words) (c.as_slice-2.ensures ∙ file) c.is_too_long.ensures c.if-is_too_long.false
