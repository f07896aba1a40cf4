use Rattle.std.proofs.Common.{◌∙◌, ◌+◌, sym, refl}
use Rattle.nx_tables.specs.Maps.{satp_of}
use Rattle.nx_paged.specs.Tenants.{root_of}
use Rattle.nx_paged.specs.State.{state_of}
use Rattle.nx_paged.proofs.Goods.{first_true, first_false, none_true}
use Rattle.nx_paged.proofs.Answers.{Asks, good_is}
use Rattle.nx_paged.proofs.paged.PagedSpaceSpace.good.Goals as goal

pub returns-then-len-eq0-clause-answer : goal.returns-then-len-eq0-clause-answer
returns-then-len-eq0-clause-answer c =
    let s = c.args.self.now in
    let n = c.args.len in
    let a : Asks (state_of s) (satp_of (root_of s.groups.items s.entered)) = record { placed = s.placed; paged = s.paged; entered = c.requires.entered; named = refl } in
    first_true n _ c.if-len-eq0.true ∙ sym (good_is (state_of s) (satp_of (root_of s.groups.items s.entered)) c.args.at n c.args.access a)

pub returns-then-at-len-le4294967296-clause-answer : goal.returns-then-at-len-le4294967296-clause-answer
returns-then-at-len-le4294967296-clause-answer c =
    let s = c.args.self.now in
    let n = c.args.len in
    let a : Asks (state_of s) c.satp.result = record { placed = s.placed; paged = s.paged; entered = c.requires.entered; named = c.satp.ensures } in
    c.are_walked.ensures ∙ first_false n (c.args.at + n) _ c.if-len-eq0.false c.if-at-len-le4294967296.true ∙ sym (good_is (state_of s) c.satp.result c.args.at n c.args.access a)

pub returns-else-at-len-le4294967296-clause-answer : goal.returns-else-at-len-le4294967296-clause-answer
returns-else-at-len-le4294967296-clause-answer c =
    let s = c.args.self.now in
    let n = c.args.len in
    let a : Asks (state_of s) (satp_of (root_of s.groups.items s.entered)) = record { placed = s.placed; paged = s.paged; entered = c.requires.entered; named = refl } in
    none_true n (c.args.at + n) _ c.if-len-eq0.false c.if-at-len-le4294967296.false ∙ sym (good_is (state_of s) (satp_of (root_of s.groups.items s.entered)) c.args.at n c.args.access a)
