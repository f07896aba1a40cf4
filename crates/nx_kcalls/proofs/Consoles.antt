-- A state with what the console shows and what is left to read, where its room stays.
use Rattle.std.proofs.Common.{◌≡◌, ℕ, List, sym, subst}
use Rattle.nx_base.specs.Calls.{Reply}
use Rattle.nx_pool.specs.declared.chain.Chain.{Chain}
use Rattle.nx_ksys.specs.Threads.{Schedule}
use Rattle.nx_ksys.specs.State.{KernelState}
use Rattle.nx_ksys.specs.Answers.{Stepped}
use Rattle.nx_kernel.specs.Parts.{OnTerminal}
use Rattle.nx_kernel.specs.Doing.{Does}
use Rattle.nx_kernel.specs.Waking.{scheduled, with_terminal}
use Rattle.nx_ktables.specs.declared.tables.Tables.{Tables}
use Rattle.nx_ktables.specs.State.{state_of, limits_of}

pub on_console : (content : Chain → List ℕ) (t : Tables) (threads : Schedule) (terminal : OnTerminal) (before after : List Reply) (row : Stepped) → terminal.room ≡ t.terminal.room
    → Does (with_terminal (scheduled (state_of content t) threads) terminal) before after row → Does (state_of content (record t { threads = threads; terminal = terminal })) before after row
on_console content t threads terminal before after row e d =
    let k : KernelState = with_terminal (scheduled (state_of content t) threads) terminal in
    subst (λ room. Does (record k { limits = record (limits_of t) { console = room } }) before after row) (sym e) d
