use Rattle.std.proofs.Common.{◌∙◌, ◌+◌, ◌-◌, ◌*◌, ◌<◌, ℕ, [], sym, ap, subst, arith, length, replicate}
use Rattle.std.specs.Prelude.{vec_len, vec_capacity}
use Rattle.std.proofs.lemmas.List.{get_or_read, length-replicate}
use Rattle.nx_base.specs.ByteLists.{AreBytes}
use Rattle.nx_ram.proofs.Puts.{small_put, small_zeros}
use Rattle.nx_space.specs.Starts.{no_program, start_regs}
use Rattle.nx_space.specs.Shared.{Sharing, ram_start, has_live, shared_plan}
use Rattle.nx_space.proofs.Sharings.{kept_start, if_ok, start_regs_shared}
use Rattle.nx_space.proofs.shared.SharedRam.start.Goals as goal

pub invariant_of-self : goal.invariant_of-self
invariant_of-self c =
    let f = c.self.inside in
    let h = c.self.invariant.0 in
    let size = ap (λ s. s.size) c.self.view_is in
    let stack = ap (λ s. s.stack) c.self.view_is in
    let threads = ap (λ s. s.threads) c.self.view_is in
    let count = ap (λ s. length s.live) c.self.view_is in
    let programs = ap (λ s. length s.programs) c.self.view_is in
    let room : vec_len f.live < vec_capacity f.live = omega (arith, c.requires.room, count, threads, f.live.ok.0, c.self.invariant.1) in
    let lives = c.push.ensures.items ∙ if_ok c.push.result _ _ (c.push.ensures.succeeds room) in
    let new = ap (λ s. has_live s.live c.args.group) c.self.view_is ∙ c.requires.new in
    let inside = c.stack_low-low.ensures.inside in
    let zeros = length-replicate {A = ℕ} f.stack 0 in
    let small = subst AreBytes (sym c.zero.ensures.bytes) (small_put c.set_data.new.ram (c.stack_low-low.result - ram_start) (replicate f.stack 0) (omega (arith, inside.0, inside.1, zeros, size, stack, h.whole, c.set_data.ensures.long)) (c.set_data.ensures.small h.bytes) (small_zeros f.stack)) in (
      kept_start _ c.zero.new.self c.push.new.self.items (record { number = c.args.group; program = c.args.prog; slot = c.args.slot }) h (c.zero.ensures.long ∙ c.set_data.ensures.long) small lives new (omega (arith, c.requires.room, count, threads)) (omega (arith, c.requires.prog, programs)),
      omega (arith, c.push.ensures.capacity, c.self.invariant.1),
    )

pub returns-clause-kept : goal.returns-clause-kept
returns-clause-kept c = (invariant_of-self c).0

pub returns-clause-regs : goal.returns-clause-regs
returns-clause-regs c =
    let f = c.self.inside in
    let s : Sharing = record { ram = f.ram; size = f.size; programs = f.programs.items; stacks_at = f.stacks_at; stack = f.stack; threads = f.threads; live = f.live.items; entered = f.entered } in
    let is = c.self.view_is in
    let programs = ap (λ s. length s.programs) is in
    let program = get_or_read f.programs.items c.args.prog c.index-program.result.now (omega (arith, c.requires.prog, programs)) c.index-program.ensures no_program in
    c.regs_with-regs.ensures
    ∙ start_regs_shared s c.args.prog c.args.slot c.stack_low-low.result c.index-program.result.now program (c.stack_low-low.ensures.value ∙ sym (ap (λ s. s.stacks_at + c.args.slot * s.stack) is))
    ∙ ap (λ s. start_regs (shared_plan [] 0 s) c.args.prog c.args.slot) is
