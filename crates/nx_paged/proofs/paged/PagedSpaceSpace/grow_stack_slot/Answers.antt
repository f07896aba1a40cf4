use Rattle.std.proofs.Common.{◌≡◌, ◌∙◌, ◌+◌, List, [], ◌∷◌, ◌++◌, length, get_or, ap, subst, sym, arith}
use Rattle.std.proofs.lemmas.List.{get_or_read}
use Rattle.nx_space.specs.World.{World}
use Rattle.nx_space.specs.Starts.{no_program, program_at, stack_low, regs_with, thread_regs, grow_need, grown, but_outside, has_slot}
use Rattle.nx_paged.specs.Tenants.{Tenant, root_of, place_of}
use Rattle.nx_paged.specs.Paging.{paged_plan, paged_world, IsPlaced, IsPaged}
use Rattle.nx_paged.specs.Finding.{tenant_view}
use Rattle.nx_paged.specs.State.{state_of}
use Rattle.nx_paged.proofs.Ends.{place_inside}
use Rattle.nx_paged.proofs.Saves.{still_placed}
use Rattle.nx_paged.proofs.Started.{free_is}
use Rattle.nx_frames.specs.Chains.{AreApart}
use Rattle.nx_frames.specs.Stock.{Holds, KeepsOthers, frames_of}
use Rattle.nx_paged.proofs.Grown.{Joined}
use Rattle.nx_paged.proofs.Grows.{Asks, found, element, program_is, group_is, root_inside, root_small, clear_place, clear_paged, clear_world, clear_need, Took, Mapped, growth, asked_need, need_told, grow_room, grow_held, grow_apart, grow_few, grow_enough, grow_items, grow_placed, grow_long, grow_paged, grow_world, grow_root}
use Rattle.nx_paged.proofs.paged.PagedSpaceSpace.grow_stack_slot.Goals as goal

pub index-requires : goal.index-requires
index-requires c =
    let s = c.args.self.now in
    let group = c.args.group in
    let slot = c.args.slot in
    let st = state_of s in
    let a : Asks st group slot = record { placed = s.placed; paged = s.paged; has = sym (tenant_view s.ram (paged_plan st) s.groups.items group) ∙ c.requires.group; slot_is = c.requires.slot } in
    let at = c.find-at.ensures ∙ ap (λ ts. place_of ts group) c.deref.ensures.value in
    omega (arith, at, place_inside s.groups.items group a.has, s.groups.ok.0)

pub index-requires-2 : goal.index-requires-2
index-requires-2 c =
    let s = c.args.self.now in
    let group = c.args.group in
    let slot = c.args.slot in
    let st = state_of s in
    let a : Asks st group slot = record { placed = s.placed; paged = s.paged; has = sym (tenant_view s.ram (paged_plan st) s.groups.items group) ∙ c.requires.group; slot_is = c.requires.slot } in
    let at = c.find-at.ensures ∙ ap (λ ts. place_of ts group) c.deref.ensures.value in
    omega (arith, at, place_inside s.groups.items group a.has, s.groups.ok.0)

pub index-requires-3 : goal.index-requires-3
index-requires-3 c =
    let s = c.args.self.now in
    let group = c.args.group in
    let slot = c.args.slot in
    let st = state_of s in
    let a : Asks st group slot = record { placed = s.placed; paged = s.paged; has = sym (tenant_view s.ram (paged_plan st) s.groups.items group) ∙ c.requires.group; slot_is = c.requires.slot } in
    let at = c.find-at.ensures ∙ ap (λ ts. place_of ts group) c.deref.ensures.value in
    omega (arith, at, place_inside s.groups.items group a.has, s.groups.ok.0)

pub index_mut-requires : goal.index_mut-requires
index_mut-requires c =
    let s = c.args.self.now in
    let group = c.args.group in
    let slot = c.args.slot in
    let st = state_of s in
    let a : Asks st group slot = record { placed = s.placed; paged = s.paged; has = sym (tenant_view s.ram (paged_plan st) s.groups.items group) ∙ c.requires.group; slot_is = c.requires.slot } in
    let at = c.find-at.ensures ∙ ap (λ ts. place_of ts group) c.deref.ensures.value in
    omega (arith, at, place_inside s.groups.items group a.has, s.groups.ok.0)

pub index-program-requires : goal.index-program-requires
index-program-requires c =
    let s = c.args.self.now in
    let group = c.args.group in
    let slot = c.args.slot in
    let st = state_of s in
    let a : Asks st group slot = record { placed = s.placed; paged = s.paged; has = sym (tenant_view s.ram (paged_plan st) s.groups.items group) ∙ c.requires.group; slot_is = c.requires.slot } in
    let at = c.find-at.ensures ∙ ap (λ ts. place_of ts group) c.deref.ensures.value in
    let program = c.program.ensures ∙ ap (λ x. x.program) (element st group slot c.find-at.result c.index-2.result.now a at c.index-2.ensures) in
    omega (arith, program, program_is st group slot a, s.programs.ok.0)

pub overflow_add-satp : goal.overflow_add-satp
overflow_add-satp c =
    let s = c.args.self.now in
    let group = c.args.group in
    let slot = c.args.slot in
    let st = state_of s in
    let a : Asks st group slot = record { placed = s.placed; paged = s.paged; has = sym (tenant_view s.ram (paged_plan st) s.groups.items group) ∙ c.requires.group; slot_is = c.requires.slot } in
    let at = c.find-at.ensures ∙ ap (λ ts. place_of ts group) c.deref.ensures.value in
    let root = c.root-root.ensures ∙ ap (λ x. x.root) (element st group slot c.find-at.result c.index.result.now a at c.index.ensures) in
    let r = root_small st group slot c.root-root.result a root in
    omega (arith, r)

pub overflow_add-satp-then-has_slot : goal.overflow_add-satp-then-has_slot
overflow_add-satp-then-has_slot c =
    let s = c.args.self.now in
    let group = c.args.group in
    let slot = c.args.slot in
    let st = state_of s in
    let a : Asks st group slot = record { placed = s.placed; paged = s.paged; has = sym (tenant_view s.ram (paged_plan st) s.groups.items group) ∙ c.requires.group; slot_is = c.requires.slot } in
    let at = c.find-at.ensures ∙ ap (λ ts. place_of ts group) c.deref.ensures.value in
    let root = c.root-root.ensures ∙ ap (λ x. x.root) (element st group slot c.find-at.result c.index.result.now a at c.index.ensures) in
    let r = root_small st group slot c.root-root.result a root in
    omega (arith, r)

pub zero_bytes-requires-clause-place : goal.zero_bytes-requires-clause-place
zero_bytes-requires-clause-place c =
    let s = c.args.self.now in
    let group = c.args.group in
    let slot = c.args.slot in
    let st = state_of s in
    let a : Asks st group slot = record { placed = s.placed; paged = s.paged; has = sym (tenant_view s.ram (paged_plan st) s.groups.items group) ∙ c.requires.group; slot_is = c.requires.slot } in
    let at = c.find-at.ensures ∙ ap (λ ts. place_of ts group) c.deref.ensures.value in
    let root = c.root-root.ensures ∙ ap (λ x. x.root) (element st group slot c.find-at.result c.index.result.now a at c.index.ensures) in
    let has = sym (c.has_slot.ensures ∙ ap (λ x. has_slot x.slots slot) (element st group slot c.find-at.result c.index-3.result.now a at c.index-3.ensures)) ∙ c.if-has_slot.true in
    clear_place st group slot c.root-root.result a root has

pub invariant_of-self : goal.invariant_of-self
invariant_of-self c =
    let s = c.args.self.now in
    let group = c.args.group in
    let slot = c.args.slot in
    let st = state_of s in
    let a : Asks st group slot = record { placed = s.placed; paged = s.paged; has = sym (tenant_view s.ram (paged_plan st) s.groups.items group) ∙ c.requires.group; slot_is = c.requires.slot } in
    let at = c.find-at.ensures ∙ ap (λ ts. place_of ts group) c.deref.ensures.value in
    let root = c.root-root.ensures ∙ ap (λ x. x.root) (element st group slot c.find-at.result c.index.result.now a at c.index.ensures) in
    let has = sym (c.has_slot.ensures ∙ ap (λ x. has_slot x.slots slot) (element st group slot c.find-at.result c.index-3.result.now a at c.index-3.ensures)) ∙ c.if-has_slot.true in
    record {
      placed = still_placed st c.zero_bytes.new.ram s.placed c.zero_bytes.ensures.long c.zero_bytes.ensures.small;
      paged = clear_paged st group slot c.root-root.result c.zero_bytes.new.ram a root has c.zero_bytes.ensures.writes;
      root_is = s.root_is;
      root_low = s.root_low;
      room = s.room;
    }

pub returns-then-has_slot-clause-regs : goal.returns-then-has_slot-clause-regs
unfolding thread_regs
returns-then-has_slot-clause-regs c =
    let s = c.args.self.now in
    let group = c.args.group in
    let slot = c.args.slot in
    let st = state_of s in
    let a : Asks st group slot = record { placed = s.placed; paged = s.paged; has = sym (tenant_view s.ram (paged_plan st) s.groups.items group) ∙ c.requires.group; slot_is = c.requires.slot } in
    let at = c.find-at.ensures ∙ ap (λ ts. place_of ts group) c.deref.ensures.value in
    let program = c.program.ensures ∙ ap (λ x. x.program) (element st group slot c.find-at.result c.index-2.result.now a at c.index-2.ensures) in
    let q = c.index-program.result.now in
    let below = program_is st group slot a in
    let is : q ≡ program_at (paged_plan st) (found st group slot a).program = get_or_read s.programs.items (found st group slot a).program q below (c.index-program.ensures ∙ ap (λ i. get_or s.programs.items i q) program) no_program in
    let low = stack_low (paged_plan st) slot in
    c.regs_with-regs.ensures ∙ ap (λ x. regs_with x.end_thread low (low + s.stack) 0) is ∙ ap (λ g. thread_regs (paged_plan st) g.program slot) (sym (group_is st group slot a))

pub returns-then-has_slot-clause-grown : goal.returns-then-has_slot-clause-grown
returns-then-has_slot-clause-grown c =
    let s = c.args.self.now in
    let group = c.args.group in
    let slot = c.args.slot in
    let st = state_of s in
    let a : Asks st group slot = record { placed = s.placed; paged = s.paged; has = sym (tenant_view s.ram (paged_plan st) s.groups.items group) ∙ c.requires.group; slot_is = c.requires.slot } in
    let at = c.find-at.ensures ∙ ap (λ ts. place_of ts group) c.deref.ensures.value in
    let root = c.root-root.ensures ∙ ap (λ x. x.root) (element st group slot c.find-at.result c.index.result.now a at c.index.ensures) in
    let has = sym (c.has_slot.ensures ∙ ap (λ x. has_slot x.slots slot) (element st group slot c.find-at.result c.index-3.result.now a at c.index-3.ensures)) ∙ c.if-has_slot.true in
    clear_world st group slot c.root-root.result c.zero_bytes.new.ram a root has c.zero_bytes.ensures.writes

pub returns-then-has_slot-clause-enough : goal.returns-then-has_slot-clause-enough
returns-then-has_slot-clause-enough c =
    let s = c.args.self.now in
    let group = c.args.group in
    let slot = c.args.slot in
    let st = state_of s in
    let a : Asks st group slot = record { placed = s.placed; paged = s.paged; has = sym (tenant_view s.ram (paged_plan st) s.groups.items group) ∙ c.requires.group; slot_is = c.requires.slot } in
    let at = c.find-at.ensures ∙ ap (λ ts. place_of ts group) c.deref.ensures.value in
    let has = sym (c.has_slot.ensures ∙ ap (λ x. has_slot x.slots slot) (element st group slot c.find-at.result c.index-3.result.now a at c.index-3.ensures)) ∙ c.if-has_slot.true in
    clear_need st group slot a has

pub stack_need-need-requires-clause-inside : goal.stack_need-need-requires-clause-inside
stack_need-need-requires-clause-inside c =
    let s = c.args.self.now in
    let group = c.args.group in
    let slot = c.args.slot in
    let st = state_of s in
    let a : Asks st group slot = record { placed = s.placed; paged = s.paged; has = sym (tenant_view s.ram (paged_plan st) s.groups.items group) ∙ c.requires.group; slot_is = c.requires.slot } in
    let at = c.find-at.ensures ∙ ap (λ ts. place_of ts group) c.deref.ensures.value in
    let root = c.root-root.ensures ∙ ap (λ x. x.root) (element st group slot c.find-at.result c.index.result.now a at c.index.ensures) in
    root_inside st group slot c.root-root.result a root

pub add_pages-all-requires-clause-room : goal.add_pages-all-requires-clause-room
add_pages-all-requires-clause-room c =
    let s = c.args.self.now in
    let group = c.args.group in
    let slot = c.args.slot in
    let st = state_of s in
    let a : Asks st group slot = record { placed = s.placed; paged = s.paged; has = sym (tenant_view s.ram (paged_plan st) s.groups.items group) ∙ c.requires.group; slot_is = c.requires.slot } in
    let at = c.find-at.ensures ∙ ap (λ ts. place_of ts group) c.deref.ensures.value in
    let root = c.root-root.ensures ∙ ap (λ x. x.root) (element st group slot c.find-at.result c.index.result.now a at c.index.ensures) in
    let none = sym (c.has_slot.ensures ∙ ap (λ x. has_slot x.slots slot) (element st group slot c.find-at.result c.index-3.result.now a at c.index-3.ensures)) ∙ c.if-has_slot.false in
    let stock = c.take.new.self in
    let ram = c.take.new.ram in
    let more = c.in-Ok.more in
    let need = c.stack_need-need.result in
    let k : Took st group slot need a stock ram more = record { none = none; need_is = c.stack_need-need.ensures ∙ ap (λ r. asked_need st r slot) root; takes = c.in-Ok.ensures.taken; same = c.take.ensures.same } in
    grow_room st group slot need c.root-root.result c.pages_of.result a stock ram more k root c.pages_of.ensures.pages

pub add_stack-requires-clause-own : goal.add_stack-requires-clause-own
add_stack-requires-clause-own c =
    let s = c.args.self.now in
    let group = c.args.group in
    let slot = c.args.slot in
    let st = state_of s in
    let a : Asks st group slot = record { placed = s.placed; paged = s.paged; has = sym (tenant_view s.ram (paged_plan st) s.groups.items group) ∙ c.requires.group; slot_is = c.requires.slot } in
    let at = c.find-at.ensures ∙ ap (λ ts. place_of ts group) c.deref.ensures.value in
    let root = c.root-root.ensures ∙ ap (λ x. x.root) (element st group slot c.find-at.result c.index.result.now a at c.index.ensures) in
    let none = sym (c.has_slot.ensures ∙ ap (λ x. has_slot x.slots slot) (element st group slot c.find-at.result c.index-3.result.now a at c.index-3.ensures)) ∙ c.if-has_slot.false in
    let stock = c.take.new.self in
    let ram = c.take.new.ram in
    let more = c.in-Ok.more in
    let need = c.stack_need-need.result in
    let k : Took st group slot need a stock ram more = record { none = none; need_is = c.stack_need-need.ensures ∙ ap (λ r. asked_need st r slot) root; takes = c.in-Ok.ensures.taken; same = c.take.ensures.same } in
    subst (λ x. Holds stock x.taken) (sym (element st group slot c.find-at.result c.index_mut.result.now a at c.index_mut.ensures.value)) (grow_held st group slot need a stock ram more k)

pub add_stack-requires-clause-apart : goal.add_stack-requires-clause-apart
add_stack-requires-clause-apart c =
    let s = c.args.self.now in
    let group = c.args.group in
    let slot = c.args.slot in
    let st = state_of s in
    let a : Asks st group slot = record { placed = s.placed; paged = s.paged; has = sym (tenant_view s.ram (paged_plan st) s.groups.items group) ∙ c.requires.group; slot_is = c.requires.slot } in
    let at = c.find-at.ensures ∙ ap (λ ts. place_of ts group) c.deref.ensures.value in
    let root = c.root-root.ensures ∙ ap (λ x. x.root) (element st group slot c.find-at.result c.index.result.now a at c.index.ensures) in
    let none = sym (c.has_slot.ensures ∙ ap (λ x. has_slot x.slots slot) (element st group slot c.find-at.result c.index-3.result.now a at c.index-3.ensures)) ∙ c.if-has_slot.false in
    let stock = c.take.new.self in
    let ram = c.take.new.ram in
    let more = c.in-Ok.more in
    let need = c.stack_need-need.result in
    let k : Took st group slot need a stock ram more = record { none = none; need_is = c.stack_need-need.ensures ∙ ap (λ r. asked_need st r slot) root; takes = c.in-Ok.ensures.taken; same = c.take.ensures.same } in
    subst (λ x. AreApart (frames_of stock x.taken) (frames_of stock more)) (sym (element st group slot c.find-at.result c.index_mut.result.now a at c.index_mut.ensures.value)) (grow_apart st group slot need a stock ram more k)

pub add_stack-requires-clause-room : goal.add_stack-requires-clause-room
add_stack-requires-clause-room c =
    let s = c.args.self.now in
    let group = c.args.group in
    let slot = c.args.slot in
    let st = state_of s in
    let a : Asks st group slot = record { placed = s.placed; paged = s.paged; has = sym (tenant_view s.ram (paged_plan st) s.groups.items group) ∙ c.requires.group; slot_is = c.requires.slot } in
    let at = c.find-at.ensures ∙ ap (λ ts. place_of ts group) c.deref.ensures.value in
    let none = sym (c.has_slot.ensures ∙ ap (λ x. has_slot x.slots slot) (element st group slot c.find-at.result c.index-3.result.now a at c.index-3.ensures)) ∙ c.if-has_slot.false in
    let e = ap (λ x. length x.slots) (element st group slot c.find-at.result c.index_mut.result.now a at c.index_mut.ensures.value) in
    let f = grow_few st group slot a none in
    omega (arith, e, f)

pub invariant_of-self-in-Ok : goal.invariant_of-self-in-Ok
invariant_of-self-in-Ok c =
    let s = c.args.self.now in
    let group = c.args.group in
    let slot = c.args.slot in
    let st = state_of s in
    let a : Asks st group slot = record { placed = s.placed; paged = s.paged; has = sym (tenant_view s.ram (paged_plan st) s.groups.items group) ∙ c.requires.group; slot_is = c.requires.slot } in
    let at = c.find-at.ensures ∙ ap (λ ts. place_of ts group) c.deref.ensures.value in
    let root = c.root-root.ensures ∙ ap (λ x. x.root) (element st group slot c.find-at.result c.index.result.now a at c.index.ensures) in
    let none = sym (c.has_slot.ensures ∙ ap (λ x. has_slot x.slots slot) (element st group slot c.find-at.result c.index-3.result.now a at c.index-3.ensures)) ∙ c.if-has_slot.false in
    let stock = c.take.new.self in
    let ram = c.take.new.ram in
    let more = c.in-Ok.more in
    let need = c.stack_need-need.result in
    let k : Took st group slot need a stock ram more = record { none = none; need_is = c.stack_need-need.ensures ∙ ap (λ r. asked_need st r slot) root; takes = c.in-Ok.ensures.taken; same = c.take.ensures.same } in
    let new = c.add_pages-all.new.ram in
    let after = c.add_stack.new.frames in
    let joined = c.add_stack.new.self.taken in
    let is_element = element st group slot c.find-at.result c.index_mut.result.now a at c.index_mut.ensures.value in
    let used = c.add_pages-all.result in
    let n = c.pages_of.result in
    let j : Joined (growth st group slot need a stock ram more k) after joined = record {
      joined_is = c.add_stack.ensures.joined ∙ ap (λ x. frames_of stock x.taken ++ frames_of stock more) is_element;
      holds = c.add_stack.ensures.holds;
      free = c.add_stack.ensures.free;
      same = c.add_stack.ensures.same;
      others = subst (λ x. KeepsOthers stock after (frames_of stock x.taken ++ frames_of stock more)) is_element c.add_stack.ensures.others;
    } in
    let m : Mapped st group slot need used c.root-root.result n a stock after ram new more joined = record { took = k; root_is = root; size = c.pages_of.ensures.pages; adds = c.add_pages-all.ensures.adds; joins = j; bytes = c.len-bytes.ensures.bytes } in
    let items = grow_items st group slot need c.find-at.result a stock ram more joined c.add_stack.new.self k at (c.add_stack.ensures.group ∙ ap {A = Tenant} (λ x. record x { slots = x.slots ++ slot ∷ []; taken = joined }) is_element) in
    let placed = subst (λ ts. IsPlaced (record st { ram = new; stock = after; tenants = ts })) (sym items) (grow_placed st group slot need used c.root-root.result n a stock after ram new more joined m (grow_long st group slot need used c.root-root.result n a stock after ram new more joined m)) in
    let paged = subst (λ ts. ∥ IsPaged (record st { ram = new; stock = after; tenants = ts }) ∥₁) (sym items) (grow_paged st group slot need used c.root-root.result n a stock after ram new more joined m) in
    let is = s.root_is ∙ grow_root st group slot need s.entered a stock ram more joined k ∙ ap (λ ts. root_of ts s.entered) (sym items) in
    record {
      placed = placed;
      paged = paged;
      root_is = is;
      root_low = s.root_low;
      room = s.room;
    }

pub returns-in-Ok-clause-regs : goal.returns-in-Ok-clause-regs
unfolding thread_regs
returns-in-Ok-clause-regs c =
    let s = c.args.self.now in
    let group = c.args.group in
    let slot = c.args.slot in
    let st = state_of s in
    let a : Asks st group slot = record { placed = s.placed; paged = s.paged; has = sym (tenant_view s.ram (paged_plan st) s.groups.items group) ∙ c.requires.group; slot_is = c.requires.slot } in
    let at = c.find-at.ensures ∙ ap (λ ts. place_of ts group) c.deref.ensures.value in
    let program = c.program.ensures ∙ ap (λ x. x.program) (element st group slot c.find-at.result c.index-2.result.now a at c.index-2.ensures) in
    let q = c.index-program.result.now in
    let below = program_is st group slot a in
    let is : q ≡ program_at (paged_plan st) (found st group slot a).program = get_or_read s.programs.items (found st group slot a).program q below (c.index-program.ensures ∙ ap (λ i. get_or s.programs.items i q) program) no_program in
    let low = stack_low (paged_plan st) slot in
    c.regs_with-regs.ensures ∙ ap (λ x. regs_with x.end_thread low (low + s.stack) 0) is ∙ ap (λ g. thread_regs (paged_plan st) g.program slot) (sym (group_is st group slot a))

pub returns-in-Ok-clause-grown : goal.returns-in-Ok-clause-grown
returns-in-Ok-clause-grown c =
    let s = c.args.self.now in
    let group = c.args.group in
    let slot = c.args.slot in
    let st = state_of s in
    let a : Asks st group slot = record { placed = s.placed; paged = s.paged; has = sym (tenant_view s.ram (paged_plan st) s.groups.items group) ∙ c.requires.group; slot_is = c.requires.slot } in
    let at = c.find-at.ensures ∙ ap (λ ts. place_of ts group) c.deref.ensures.value in
    let root = c.root-root.ensures ∙ ap (λ x. x.root) (element st group slot c.find-at.result c.index.result.now a at c.index.ensures) in
    let none = sym (c.has_slot.ensures ∙ ap (λ x. has_slot x.slots slot) (element st group slot c.find-at.result c.index-3.result.now a at c.index-3.ensures)) ∙ c.if-has_slot.false in
    let stock = c.take.new.self in
    let ram = c.take.new.ram in
    let more = c.in-Ok.more in
    let need = c.stack_need-need.result in
    let k : Took st group slot need a stock ram more = record { none = none; need_is = c.stack_need-need.ensures ∙ ap (λ r. asked_need st r slot) root; takes = c.in-Ok.ensures.taken; same = c.take.ensures.same } in
    let new = c.add_pages-all.new.ram in
    let after = c.add_stack.new.frames in
    let joined = c.add_stack.new.self.taken in
    let is_element = element st group slot c.find-at.result c.index_mut.result.now a at c.index_mut.ensures.value in
    let used = c.add_pages-all.result in
    let n = c.pages_of.result in
    let j : Joined (growth st group slot need a stock ram more k) after joined = record {
      joined_is = c.add_stack.ensures.joined ∙ ap (λ x. frames_of stock x.taken ++ frames_of stock more) is_element;
      holds = c.add_stack.ensures.holds;
      free = c.add_stack.ensures.free;
      same = c.add_stack.ensures.same;
      others = subst (λ x. KeepsOthers stock after (frames_of stock x.taken ++ frames_of stock more)) is_element c.add_stack.ensures.others;
    } in
    let m : Mapped st group slot need used c.root-root.result n a stock after ram new more joined = record { took = k; root_is = root; size = c.pages_of.ensures.pages; adds = c.add_pages-all.ensures.adds; joins = j; bytes = c.len-bytes.ensures.bytes } in
    let items = grow_items st group slot need c.find-at.result a stock ram more joined c.add_stack.new.self k at (c.add_stack.ensures.group ∙ ap {A = Tenant} (λ x. record x { slots = x.slots ++ slot ∷ []; taken = joined }) is_element) in
    let world : List Tenant → World = λ ts. paged_world (record st { ram = new; stock = after; tenants = ts }) in
    subst (λ ts. world ts ≡ but_outside (grown (paged_world st) group slot) (world ts)) (sym items) (grow_world st group slot need used c.root-root.result n a stock after ram new more joined m)

pub returns-in-Ok-clause-enough : goal.returns-in-Ok-clause-enough
returns-in-Ok-clause-enough c =
    let s = c.args.self.now in
    let group = c.args.group in
    let slot = c.args.slot in
    let st = state_of s in
    let a : Asks st group slot = record { placed = s.placed; paged = s.paged; has = sym (tenant_view s.ram (paged_plan st) s.groups.items group) ∙ c.requires.group; slot_is = c.requires.slot } in
    let at = c.find-at.ensures ∙ ap (λ ts. place_of ts group) c.deref.ensures.value in
    let root = c.root-root.ensures ∙ ap (λ x. x.root) (element st group slot c.find-at.result c.index.result.now a at c.index.ensures) in
    let none = sym (c.has_slot.ensures ∙ ap (λ x. has_slot x.slots slot) (element st group slot c.find-at.result c.index-3.result.now a at c.index-3.ensures)) ∙ c.if-has_slot.false in
    let stock = c.take.new.self in
    let ram = c.take.new.ram in
    let more = c.in-Ok.more in
    let need = c.stack_need-need.result in
    let k : Took st group slot need a stock ram more = record { none = none; need_is = c.stack_need-need.ensures ∙ ap (λ r. asked_need st r slot) root; takes = c.in-Ok.ensures.taken; same = c.take.ensures.same } in
    grow_enough st group slot need a stock ram more k

pub returns-in-Err-clause-too_few : goal.returns-in-Err-clause-too_few
returns-in-Err-clause-too_few c =
    let s = c.args.self.now in
    let group = c.args.group in
    let slot = c.args.slot in
    let st = state_of s in
    let a : Asks st group slot = record { placed = s.placed; paged = s.paged; has = sym (tenant_view s.ram (paged_plan st) s.groups.items group) ∙ c.requires.group; slot_is = c.requires.slot } in
    let at = c.find-at.ensures ∙ ap (λ ts. place_of ts group) c.deref.ensures.value in
    let root = c.root-root.ensures ∙ ap (λ x. x.root) (element st group slot c.find-at.result c.index.result.now a at c.index.ensures) in
    let none = sym (c.has_slot.ensures ∙ ap (λ x. has_slot x.slots slot) (element st group slot c.find-at.result c.index-3.result.now a at c.index-3.ensures)) ∙ c.if-has_slot.false in
    let need = need_told st group slot c.stack_need-need.result c.root-root.result a root none c.stack_need-need.ensures in
    let e = c.in-Err.ensures.too_few in
    (e.0 ∙ ap (λ n. record { need = n; free = length s.frames.free }) need ∙ ap (λ n. record { need = grow_need (paged_world st) group slot; free = n }) (sym (free_is st s.placed)), e.1)
