use Rattle.std.proofs.Common.{◌∷◌, [], ap, arith, ◌-◌, drop, length, length-append, length-take, length-drop}
use Rattle.nx_calls.proofs.KindLists.{found_start, found_next, found_none, found_end}
use Rattle.nx_calls.proofs.kinds.kinds_of.Goals as goal

pub loop-rest-init : goal.loop-rest-init
loop-rest-init c = record { found = found_start c.new-kinds.result.items c.args.types.now c.new-kinds.ensures; fits = omega (arith, ap length c.new-kinds.ensures) }

pub returns-in-None : goal.returns-in-None
returns-in-None c =
    found_none c.loop-rest.after_buffer c.loop-rest.kinds.items c.loop-rest.rest.now c.args.types.now c.first-item.result c.kind_of.result c.loop-rest.invariant.found c.in-len1-up.len_at_least c.first-item.is c.kind_of.ensures c.in-None.is

pub loop-rest-preserved : goal.loop-rest-preserved
loop-rest-preserved c =
    let types = c.loop-rest.rest.now in
    record {
      found = found_next c.loop-rest.after_buffer c.is_buffer-after_buffer.result c.loop-rest.kinds.items c.push.new.self.items c.loop-rest.rest.now c.args.types.now c.first-item.result c.kind_of.result c.in-Some.kind
          c.loop-rest.invariant.found c.in-len1-up.len_at_least c.first-item.is c.kind_of.ensures c.in-Some.is c.push.ensures.items c.is_buffer-after_buffer.ensures;
      fits = omega (arith, ap length c.push.ensures.items, length-append c.loop-rest.kinds.items (c.in-Some.kind ∷ []), length-take (length types - 1) (drop 1 types), length-drop 1 types, c.loop-rest.invariant.fits, c.in-len1-up.len_at_least);
    }

pub returns : goal.returns
returns c = found_end c.loop-rest.after_buffer c.loop-rest.kinds.items c.loop-rest.rest.now c.args.types.now c.loop-rest.invariant.found c.in_default.len_below
