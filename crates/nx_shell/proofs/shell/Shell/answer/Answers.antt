use Rattle.std.proofs.Common.{◌≡◌, Some, map, refl, subst}
use Rattle.nx_ksys.specs.Gathered.{reply_of}
use Rattle.nx_shrun.specs.Places.{Node, place_of, node_at}
use Rattle.nx_shell.specs.Shells.{command_in}
use Rattle.nx_shell.proofs.Shelled.{ends_answers}
use Rattle.nx_shell.proofs.shell.Shell.answer.Goals as goal

pub returns-in-Some-hear-clause-answers : goal.returns-in-Some-hear-clause-answers
returns-in-Some-hear-clause-answers c =
    let old = c.args.self.now in
    ends_answers old (record { nodes = old.nodes; at = old.at; status = old.status; walk = c.hear.new.self }) c.finish.new.self c.in-Some.simple.now c.is_background_at-background.result c.in-Some-hear.ending (reply_of c.args.reply.now) refl refl
    (subst (λ xs. command_in (node_at (map place_of xs) old.at) ≡ Some c.in-Some.simple.now) c.as_slice.ensures.value c.in-Some.ensures)
    (subst (λ xs. (n : Node) → node_at (map place_of xs) old.at ≡ Some n → n.background ≡ c.is_background_at-background.result) c.as_slice-in-Some.ensures.value c.is_background_at-background.ensures)
    c.in-Some-hear.ensures.follows c.finish.ensures.ends
