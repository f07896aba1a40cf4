use Rattle.std.proofs.Common.{refl, ap}
use Rattle.nx_ktables.specs.declared.tables.Tables.{Tables}
use Rattle.nx_ktables.specs.State.{configured}
use Rattle.nx_ktables.proofs.BootState.{booted_state}
use Rattle.nx_ktables.proofs.tables.Tables.boot.Goals as goal

pub returns-clause-state : goal.returns-clause-state
returns-clause-state c = λ content.
    let limits = c.args.limits.now in
    let m = c.in_ok-members.members in
    let e = c.in_ok-endings.endings in
    let t : Tables = record {
      programs = c.in_ok-names.names;
      blocks = limits.blocks;
      limit = limits.nodes;
      threads = m.threads;
      clock = c.new-2.result;
      groups = m.groups;
      environments = m.environments;
      codes = e.codes;
      values = e.values;
      objects = c.in_ok-objects.objects;
      terminal = c.in_ok-terminal.terminal;
      numbers = 1;
      ended = e.ended;
      calls = 0;
    } in
    booted_state content limits c.args.programs.now c.args.input.items c.args.late.items t (record {
      some = c.requires.some;
      names = c.in_ok-names.ensures;
      blocks = refl;
      most = refl;
      threads = c.in_ok-members.ensures.threads;
      clock = c.new-2.ensures;
      groups = c.in_ok-members.ensures.groups (configured limits c.args.programs.now) refl;
      environments = c.in_ok-members.ensures.environments;
      codes = ap (λ x. x.codes) c.in_ok-endings.ensures.codes;
      values = ap (λ x. x.values) c.in_ok-endings.ensures.values;
      objects = c.in_ok-objects.ensures.booted;
      terminal = c.in_ok-terminal.ensures;
      numbers = refl;
      ended = ap (λ x. x.ends) c.in_ok-endings.ensures.ended;
      calls = refl;
    })
