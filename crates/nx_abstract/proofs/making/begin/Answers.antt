use Rattle.std.proofs.Common.{◌≡◌, sym, subst}
use Rattle.nx_shrun.specs.AbstractRuns.{guests, wrong_start}
use Rattle.nx_shrun.specs.Systems.{affected}
use Rattle.nx_guests.specs.Guests.{AreKept}
use Rattle.nx_guests.specs.Kept.{seen}
use Rattle.nx_abstract.specs.Kernels.{effect_of}
use Rattle.nx_abstract.specs.Living.{LivesAfter}
use Rattle.nx_abstract.proofs.making.begin.Goals as goal

pub returns-in_ok-wrong-in-Begins-clause-wrong : goal.returns-in_ok-wrong-in-Begins-clause-wrong
returns-in_ok-wrong-in-Begins-clause-wrong g c = λ script.
    let p = g.P.Programs in
    subst (λ e. seen p.fault_of c.in_ok-wrong-in-Begins.wrong ≡ wrong_start (p.meaning c.args.guests.now.programs) script (effect_of e)) (sym c.in-Begins.is) (c.in_ok-wrong-in-Begins.ensures.wrong script)

pub returns-in_ok-wrong-in-Begins-clause-kept : goal.returns-in_ok-wrong-in-Begins-clause-kept
returns-in_ok-wrong-in-Begins-clause-kept g c = λ none script live later m lives h.
    let p = g.P.Programs in
    subst (λ e. AreKept p.thread_of p.globals_of later c.begin_one.new.guests.threads.items.items c.begin_one.new.guests.globals.items.items (affected (guests (p.meaning c.args.guests.now.programs) script) m (effect_of e) c.args.words.now)) (sym c.in-Begins.is)
    (c.in_ok-wrong-in-Begins.ensures.kept none script live later m (subst (λ e. LivesAfter (effect_of e) live later) c.in-Begins.is lives) h)
