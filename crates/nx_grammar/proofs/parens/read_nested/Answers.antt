use Rattle.std.proofs.Common.{ap}
use Rattle.std.specs.Prelude.{Ok}
use Rattle.nx_grammar.proofs.NestedLaws.{whole_sound, whole_spares, nested_reads, refused}
use Rattle.nx_grammar.proofs.parens.read_nested.Goals as goal

pub returns-in-Ok : goal.returns-in-Ok
returns-in-Ok c =
    let there = whole_sound c.args.limit c.args.tokens.now c.in-Ok.read c.in-Ok.field-0-1.now c.in-Ok.ensures.gives in
    record { read = there; only = λ x h. ap Ok (c.one_tree.ensures nested_reads c.args.limit c.args.tokens.now c.in-Ok.read x there h) }

pub returns-in-Err : goal.returns-in-Err
returns-in-Err c = record {
  read = c.ended_fault_is_first.ensures nested_reads whole_spares c.args.limit c.args.tokens.now c.in-Err.refusal.kind c.in-Err.refusal.from.now c.requires.ended c.in-Err.ensures.gives;
  only = λ x h. absurd (refused c.args.limit c.args.tokens.now c.in-Err.refusal.kind c.in-Err.refusal.from.now c.in-Err.ensures.gives x h);
}
