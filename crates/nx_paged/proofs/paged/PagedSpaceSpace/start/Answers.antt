use Rattle.std.proofs.Common.{◌≡◌, ◌∙◌, ◌+◌, ◌<◌, false, List, length, ap, subst, sym, arith}
use Rattle.std.specs.Prelude.{vec_len, vec_capacity}
use Rattle.std.proofs.lemmas.List.{length-map, get_or_read}
use Rattle.nx_frames.specs.Stock.{Takes}
use Rattle.nx_space.specs.World.{World}
use Rattle.nx_space.specs.Starts.{no_program, regs_with, start_regs, start_need, started, but_outside}
use Rattle.nx_paged.specs.Tenants.{Tenant, has_tenant, root_of}
use Rattle.nx_paged.specs.Paging.{paged_plan, paged_group, paged_world, IsPlaced, IsPaged}
use Rattle.nx_paged.specs.Finding.{tenant_view}
use Rattle.nx_paged.specs.State.{state_of}
use Rattle.nx_paged.proofs.Ends.{root_low}
use Rattle.nx_paged.proofs.Begun.{Starts, program_in, low_of, newcomer, begun_placed}
use Rattle.nx_paged.proofs.Started.{free_is, need_same, start_ready, start_paged, start_world, start_enough, pushed}
use Rattle.nx_paged.proofs.paged.PagedSpaceSpace.start.Goals as goal

pub map_program-requires-clause-start : goal.map_program-requires-clause-start
map_program-requires-clause-start c =
    let s = c.args.self.now in
    let a = c.args in
    let st = state_of s in
    let below : a.prog < length s.programs.items = c.requires.prog in
    let p = c.index-program.result.now in
    let is : p ≡ program_in st a.prog = get_or_read s.programs.items a.prog p below c.index-program.ensures no_program in
    let need = need_same st a.prog a.slot c.program_need-need.result p is c.program_need-need.ensures in
    let has : has_tenant s.groups.items a.group ≡ false = sym (tenant_view s.ram (paged_plan st) s.groups.items a.group) ∙ c.requires.new in
    let few : length s.groups.items < s.threads = let l = length-map s.groups.items (paged_group s.ram (paged_plan st)) in let r = c.requires.room in omega (arith, l, r) in
    let t = c.in-Ok.taken in
    let root = c.frame_number-root.result in
    let h : Starts st c.take.new.self c.take.new.ram c.take.new.ram a.group a.prog a.slot root t = record {
      placed = s.placed;
      fresh_number = has;
      some = few;
      program = below;
      slot_is = c.requires.slot;
      takes = subst (λ n. Takes s.frames c.take.new.self s.ram c.take.new.ram n t) need c.in-Ok.ensures.taken;
      same = c.take.ensures.same;
      root_is = c.frame_number-root.ensures.number;
    } in
    start_ready st c.take.new.self c.take.new.ram a.group a.prog a.slot root t p is h s.paged

pub invariant_of-self : goal.invariant_of-self
invariant_of-self c =
    let s = c.args.self.now in
    let a = c.args in
    let st = state_of s in
    let below : a.prog < length s.programs.items = c.requires.prog in
    let p = c.index-program.result.now in
    let is : p ≡ program_in st a.prog = get_or_read s.programs.items a.prog p below c.index-program.ensures no_program in
    let need = need_same st a.prog a.slot c.program_need-need.result p is c.program_need-need.ensures in
    let has : has_tenant s.groups.items a.group ≡ false = sym (tenant_view s.ram (paged_plan st) s.groups.items a.group) ∙ c.requires.new in
    let few : length s.groups.items < s.threads = let l = length-map s.groups.items (paged_group s.ram (paged_plan st)) in let r = c.requires.room in omega (arith, l, r) in
    let t = c.in-Ok.taken in
    let root = c.frame_number-root.result in
    let h : Starts st c.take.new.self c.take.new.ram c.map_program.new.ram a.group a.prog a.slot root t = record {
      placed = s.placed;
      fresh_number = has;
      some = few;
      program = below;
      slot_is = c.requires.slot;
      takes = subst (λ n. Takes s.frames c.take.new.self s.ram c.take.new.ram n t) need c.in-Ok.ensures.taken;
      same = c.take.ensures.same;
      root_is = c.frame_number-root.ensures.number;
    } in
    let ram = c.map_program.new.ram in
    let room : vec_len s.groups < vec_capacity s.groups = let r = s.room in omega (arith, few, r, s.groups.ok.0) in
    let items = pushed c.push.result s.groups.items (newcomer a.group a.prog a.slot root t) c.new.result c.push.new.self.items (c.push.ensures.succeeds room) c.push.ensures.items c.new.ensures in
    let at_end = c.root_of-self.ensures ∙ ap (λ ts. root_of ts s.entered) c.deref.ensures.value in
    let placed = subst (λ ts. IsPlaced (record st { ram = ram; stock = c.take.new.self; tenants = ts })) (sym items) (begun_placed st c.take.new.self c.take.new.ram ram a.group a.prog a.slot root t h c.map_program.ensures.small (c.map_program.ensures.long ∙ h.takes.zeroed.long)) in
    let paged = subst (λ ts. ∥ IsPaged (record st { ram = ram; stock = c.take.new.self; tenants = ts }) ∥₁) (sym items) (start_paged st c.take.new.self c.take.new.ram ram a.group a.prog a.slot root t p is h c.map_program.ensures.mapped s.paged) in
    record {
      placed = placed;
      paged = paged;
      root_is = at_end;
      root_low = subst (λ r. r < 524288) (sym at_end) (root_low (record st { ram = ram; stock = c.take.new.self; tenants = c.push.new.self.items }) s.entered placed paged);
      room = let e = c.push.ensures.capacity in let r = s.room in omega (arith, e, r);
    }

pub returns-in-Ok-clause-regs : goal.returns-in-Ok-clause-regs
unfolding start_regs
returns-in-Ok-clause-regs c =
    let s = c.args.self.now in
    let a = c.args in
    let st = state_of s in
    let below : a.prog < length s.programs.items = c.requires.prog in
    let p = c.index-program.result.now in
    let is : p ≡ program_in st a.prog = get_or_read s.programs.items a.prog p below c.index-program.ensures no_program in
    let need = need_same st a.prog a.slot c.program_need-need.result p is c.program_need-need.ensures in
    let low = low_of st a.slot in
    c.regs_with-regs.ensures ∙ ap (λ q. regs_with q.end_group low (low + s.stack) q.main) is

pub returns-in-Ok-clause-started : goal.returns-in-Ok-clause-started
returns-in-Ok-clause-started c =
    let s = c.args.self.now in
    let a = c.args in
    let st = state_of s in
    let below : a.prog < length s.programs.items = c.requires.prog in
    let p = c.index-program.result.now in
    let is : p ≡ program_in st a.prog = get_or_read s.programs.items a.prog p below c.index-program.ensures no_program in
    let need = need_same st a.prog a.slot c.program_need-need.result p is c.program_need-need.ensures in
    let has : has_tenant s.groups.items a.group ≡ false = sym (tenant_view s.ram (paged_plan st) s.groups.items a.group) ∙ c.requires.new in
    let few : length s.groups.items < s.threads = let l = length-map s.groups.items (paged_group s.ram (paged_plan st)) in let r = c.requires.room in omega (arith, l, r) in
    let t = c.in-Ok.taken in
    let root = c.frame_number-root.result in
    let h : Starts st c.take.new.self c.take.new.ram c.map_program.new.ram a.group a.prog a.slot root t = record {
      placed = s.placed;
      fresh_number = has;
      some = few;
      program = below;
      slot_is = c.requires.slot;
      takes = subst (λ n. Takes s.frames c.take.new.self s.ram c.take.new.ram n t) need c.in-Ok.ensures.taken;
      same = c.take.ensures.same;
      root_is = c.frame_number-root.ensures.number;
    } in
    let ram = c.map_program.new.ram in
    let room : vec_len s.groups < vec_capacity s.groups = let r = s.room in omega (arith, few, r, s.groups.ok.0) in
    let items = pushed c.push.result s.groups.items (newcomer a.group a.prog a.slot root t) c.new.result c.push.new.self.items (c.push.ensures.succeeds room) c.push.ensures.items c.new.ensures in
    let world : List Tenant → World = λ ts. paged_world (record st { ram = ram; stock = c.take.new.self; tenants = ts }) in
    subst (λ ts. world ts ≡ but_outside (started (paged_world st) a.group a.prog a.slot a.fresh) (world ts)) (sym items) (start_world st c.take.new.self c.take.new.ram ram a.group a.prog a.slot root t p a.fresh is h c.map_program.ensures.mapped s.paged)

pub returns-in-Ok-clause-enough : goal.returns-in-Ok-clause-enough
returns-in-Ok-clause-enough c =
    let s = c.args.self.now in
    let a = c.args in
    let st = state_of s in
    let below : a.prog < length s.programs.items = c.requires.prog in
    let p = c.index-program.result.now in
    let is : p ≡ program_in st a.prog = get_or_read s.programs.items a.prog p below c.index-program.ensures no_program in
    let need = need_same st a.prog a.slot c.program_need-need.result p is c.program_need-need.ensures in
    let has : has_tenant s.groups.items a.group ≡ false = sym (tenant_view s.ram (paged_plan st) s.groups.items a.group) ∙ c.requires.new in
    let few : length s.groups.items < s.threads = let l = length-map s.groups.items (paged_group s.ram (paged_plan st)) in let r = c.requires.room in omega (arith, l, r) in
    let t = c.in-Ok.taken in
    let root = c.frame_number-root.result in
    let h : Starts st c.take.new.self c.take.new.ram c.map_program.new.ram a.group a.prog a.slot root t = record {
      placed = s.placed;
      fresh_number = has;
      some = few;
      program = below;
      slot_is = c.requires.slot;
      takes = subst (λ n. Takes s.frames c.take.new.self s.ram c.take.new.ram n t) need c.in-Ok.ensures.taken;
      same = c.take.ensures.same;
      root_is = c.frame_number-root.ensures.number;
    } in
    start_enough st c.take.new.self c.take.new.ram c.map_program.new.ram a.group a.prog a.slot root t h

pub returns-in-Err-clause-too_few : goal.returns-in-Err-clause-too_few
returns-in-Err-clause-too_few c =
    let s = c.args.self.now in
    let a = c.args in
    let st = state_of s in
    let below : a.prog < length s.programs.items = c.requires.prog in
    let p = c.index-program.result.now in
    let is : p ≡ program_in st a.prog = get_or_read s.programs.items a.prog p below c.index-program.ensures no_program in
    let need = need_same st a.prog a.slot c.program_need-need.result p is c.program_need-need.ensures in
    let e = c.in-Err.ensures.too_few in
    (e.0 ∙ ap (λ n. record { need = n; free = length s.frames.free }) need ∙ ap (λ n. record { need = start_need (paged_plan st) a.prog a.slot; free = n }) (sym (free_is st s.placed)), e.1)
