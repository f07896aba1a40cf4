use Rattle.std.proofs.Common.{ℕ, List, sym, ◌∙◌, ap, map}
use Rattle.std.specs.Option.{option_map}
use denote.Ref.{Bor}
use Rattle.nx_outside.proofs.Asks.{Asked-nothing}
use Rattle.nx_top.specs.CommandLine.{command_of}
use Rattle.nx_top.specs.Promises.{NoForm}
use Rattle.nx_top.proofs.Causes.{by_form}
use Rattle.nx_top.proofs.Forms.{named}
use Rattle.nx_top.proofs.top.answer_to.Goals as goal

pub follow-requires : goal.follow-requires
follow-requires g c = named (map (λ (w : Bor (List ℕ)). w.now) c.args.words.now) (command_of c.in-Some.command) (sym c.form.ensures ∙ ap (option_map command_of) c.in-Some.is)

pub returns-in-None : goal.returns-in-None
returns-in-None g c = NoForm (sym c.form.ensures ∙ ap (option_map command_of) c.in-None.is) (Asked-nothing _)

pub returns-in-Some : goal.returns-in-Some
returns-in-Some g c = by_form c.follow.result _ (command_of c.in-Some.command) _ _ _ _ (sym c.form.ensures ∙ ap (option_map command_of) c.in-Some.is) c.follow.ensures
