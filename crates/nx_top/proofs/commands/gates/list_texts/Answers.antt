use Rattle.std.proofs.Common.{Err, subst}
use Rattle.nx_config.specs.declared.fault.ConfigFault.{ConfigFault}
use Rattle.nx_config.specs.Configuration.{IsFirstFault}
use Rattle.nx_calls.specs.declared.fault.CallsFault.{CallsFault}
use Rattle.nx_calls.specs.Meanings.{meaning_in}
use Rattle.nx_calls.specs.Table.{IsRead}
use Rattle.nx_top.proofs.Listings.{comes_to, bad_config, bad_calls, lists}
use Rattle.nx_top.proofs.commands.gates.list_texts.Goals as goal

pub returns-in-Err-Text : goal.returns-in-Err-Text
returns-in-Err-Text c =
    let first = subst (λ (f : ConfigFault). IsFirstFault f c.args.config.now) c.in-Err-Text.field-0-is c.in-Err-Text.ensures.read in
    comes_to c.faulty.result _ _ _ (bad_config _ _ _ c.in-Err-Text.line c.in-Err-Text.kind first) c.faulty.ensures

pub returns-in-Ok-read_calls : goal.returns-in-Ok-read_calls
returns-in-Ok-read_calls c = comes_to c.listed.result _ _ _ (lists _ c.in-Ok.config _ _ c.in-Ok-read_calls.calls c.in-Ok.ensures.read c.in-Ok-read_calls.ensures.read) c.listed.ensures

pub returns : goal.returns
returns c =
    let read = subst (λ (f : CallsFault). IsRead (meaning_in c.in-Ok.config) c.args.calls.now (Err f)) c.in-Err-Text-read_calls.field-0-is c.in-Err-Text-read_calls.ensures.read in
    comes_to c.faulty-in-Err-Text-read_calls.result _ _ _ (bad_calls _ c.in-Ok.config _ _ c.in-Err-Text-read_calls.row c.in-Err-Text-read_calls.kind c.in-Ok.ensures.read read) c.faulty-in-Err-Text-read_calls.ensures
