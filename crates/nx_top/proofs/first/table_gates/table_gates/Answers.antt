use Rattle.std.proofs.Common.{Err, subst}
use Rattle.nx_config.specs.declared.fault.ConfigFault.{ConfigFault}
use Rattle.nx_config.specs.Configuration.{IsFirstFault}
use Rattle.nx_calls.specs.declared.fault.CallsFault.{CallsFault}
use Rattle.nx_calls.specs.Meanings.{meaning_in}
use Rattle.nx_calls.specs.Table.{IsRead}
use Rattle.nx_top.proofs.first_path.WriteTable.{no_config_fault, no_calls_fault, write_gates, gates_read}
use Rattle.nx_top.proofs.first.table_gates.table_gates.Goals as goal

pub unreachable-requires : goal.unreachable-requires
unreachable-requires c =
    no_config_fault c.flat_config.result.now _ c.flat_config.ensures.value
    (subst (λ (f : ConfigFault). IsFirstFault f c.flat_config.result.now) c.in-Err-Text.field-0-is c.in-Err-Text.ensures.read)

pub unreachable-requires-in-Err-Text-read_calls : goal.unreachable-requires-in-Err-Text-read_calls
unreachable-requires-in-Err-Text-read_calls c =
    no_calls_fault (meaning_in c.in-Ok.config) c.write_table.result.now _ c.write_table.ensures.value
    (subst (λ (f : CallsFault). IsRead (meaning_in c.in-Ok.config) c.write_table.result.now (Err f)) c.in-Err-Text-read_calls.field-0-is c.in-Err-Text-read_calls.ensures.read)

pub returns-in-Ok-read_calls-clause-read : goal.returns-in-Ok-read_calls-clause-read
returns-in-Ok-read_calls-clause-read c =
    gates_read c.in-Ok.config c.flat_config.result.now c.write_table.result.now c.in-Ok-read_calls.calls _ c.flat_config.ensures.value c.write_table.ensures.value c.in-Ok.ensures.read c.in-Ok-read_calls.ensures.read c.in_ok-plan-in-Ok-read_calls.ensures

pub returns-in-Ok-read_calls-clause-one : goal.returns-in-Ok-read_calls-clause-one
returns-in-Ok-read_calls-clause-one c =
    write_gates (meaning_in c.in-Ok.config) c.write_table.result.now c.in-Ok-read_calls.calls _ c.write_table.ensures.value c.in-Ok-read_calls.ensures.read c.in_ok-plan-in-Ok-read_calls.ensures
