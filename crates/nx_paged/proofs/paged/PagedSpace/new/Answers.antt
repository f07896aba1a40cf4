use Rattle.std.proofs.Common.{◌≡◌, ◌∙◌, ◌+◌, ◌-◌, ◌/◌, length, refl, sym, ap, arith}
use Rattle.nx_frames.specs.Stock.{frames_from}
use Rattle.nx_sv32.specs.Walk.{ram_start}
use Rattle.nx_paged.specs.Tenants.{root_of}
use Rattle.nx_paged.specs.Paging.{Paging}
use Rattle.nx_paged.proofs.Fresh.{IsWhole, is_placed, is_paged, is_fresh}
use Rattle.nx_paged.proofs.paged.PagedSpace.new.Goals as goal

pub invariant_of-result : goal.invariant_of-result
unfolding root_of
invariant_of-result c =
    let s : Paging = record { ram = c.args.ram; pool = c.args.pool; programs = c.args.programs.items; stack = c.args.stack; threads = c.args.threads; stock = c.in_ok-frames.frames; tenants = c.in_ok-groups.groups.items; entered = 0 } in
    let count : (c.len.result - c.args.pool) / 4096 ≡ (length c.args.ram - c.args.pool) / 4096 = ap (λ n. (n - c.args.pool) / 4096) c.len.ensures.value in
    let w : IsWhole s = record { first = c.in_ok-frames.ensures.0; count = c.in_ok-frames.ensures.1 ∙ count; free = c.in_ok-frames.ensures.2 ∙ ap (frames_from (ram_start + c.args.pool)) count; none = c.in_ok-groups.ensures.items; entered = refl } in
    record { placed = is_placed s c.requires c.len.ensures.bytes w; paged = is_paged s c.requires w; root_is = sym (ap (λ ts. root_of ts 0) c.in_ok-groups.ensures.items); root_low = omega arith; room = let e = c.in_ok-groups.ensures.capacity in omega (arith, e) }

pub returns : goal.returns
returns c =
    let s : Paging = record { ram = c.args.ram; pool = c.args.pool; programs = c.args.programs.items; stack = c.args.stack; threads = c.args.threads; stock = c.in_ok-frames.frames; tenants = c.in_ok-groups.groups.items; entered = 0 } in
    let count : (c.len.result - c.args.pool) / 4096 ≡ (length c.args.ram - c.args.pool) / 4096 = ap (λ n. (n - c.args.pool) / 4096) c.len.ensures.value in
    let w : IsWhole s = record { first = c.in_ok-frames.ensures.0; count = c.in_ok-frames.ensures.1 ∙ count; free = c.in_ok-frames.ensures.2 ∙ ap (frames_from (ram_start + c.args.pool)) count; none = c.in_ok-groups.ensures.items; entered = refl } in
    is_fresh s c.requires w
