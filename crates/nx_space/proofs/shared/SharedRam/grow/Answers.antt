use Rattle.std.proofs.Common.{◌≡◌, ◌∙◌, ◌+◌, ◌-◌, ◌*◌, ◌<◌, ℕ, [], true, sym, ap, subst, arith, length, get_or, map, replicate}
use Rattle.std.specs.Prelude.{vec_len}
use Rattle.std.proofs.lemmas.List.{get_or_read, length-replicate}
use Rattle.nx_base.specs.ByteLists.{AreBytes}
use Rattle.nx_ram.proofs.Puts.{small_put, small_zeros}
use Rattle.nx_space.specs.Starts.{no_program, thread_regs, program_of}
use Rattle.nx_space.specs.Shared.{Sharing, ram_start, has_live, place_of, shared_group, shared_plan}
use Rattle.nx_space.proofs.Sharings.{kept_ram, live_inside, program_found, thread_regs_shared}
use Rattle.nx_space.proofs.shared.SharedRam.grow.Goals as goal

pub index-requires : goal.index-requires
index-requires c =
    let f = c.self.inside in
    let there = ap (λ s. has_live s.live c.args.group) c.self.view_is ∙ c.requires.group in
    let at = c.find-at.ensures ∙ ap (λ l. place_of l c.args.group) c.deref.ensures.value in
    omega (arith, at, live_inside f.live.items c.args.group there, f.live.ok.0)

pub index-requires-2 : goal.index-requires-2
index-requires-2 c =
    let f = c.self.inside in
    let there = ap (λ s. has_live s.live c.args.group) c.self.view_is ∙ c.requires.group in
    let at = c.find-at.ensures ∙ ap (λ l. place_of l c.args.group) c.deref.ensures.value in
    let known = c.self.invariant.0.known c.find-at.result c.index.result.now (omega (arith, at, live_inside f.live.items c.args.group there)) in
    subst (λ l. l.program < vec_len f.programs) (sym c.index.ensures) (omega (arith, known, f.programs.ok.0))

pub invariant_of-self : goal.invariant_of-self
invariant_of-self c =
    let f = c.self.inside in
    let h = c.self.invariant.0 in
    let size = ap (λ s. s.size) c.self.view_is in
    let stack = ap (λ s. s.stack) c.self.view_is in
    let inside = c.stack_low-low.ensures.inside in
    let zeros = length-replicate {A = ℕ} f.stack 0 in
    let small = subst AreBytes (sym c.zero.ensures.bytes) (small_put f.ram (c.stack_low-low.result - ram_start) (replicate f.stack 0) (omega (arith, inside.0, inside.1, zeros, size, stack, h.whole)) h.bytes (small_zeros f.stack)) in
    (kept_ram _ c.zero.new.self h c.zero.ensures.long small, c.self.invariant.1)

pub returns-clause-kept : goal.returns-clause-kept
returns-clause-kept c = (invariant_of-self c).0

pub returns-clause-regs : goal.returns-clause-regs
returns-clause-regs c =
    let f = c.self.inside in
    let s : Sharing = record { ram = f.ram; size = f.size; programs = f.programs.items; stacks_at = f.stacks_at; stack = f.stack; threads = f.threads; live = f.live.items; entered = f.entered } in
    let is = c.self.view_is in
    let there = ap (λ s. has_live s.live c.args.group) is ∙ c.requires.group in
    let at = c.find-at.ensures ∙ ap (λ l. place_of l c.args.group) c.deref.ensures.value in
    let known = c.self.invariant.0.known c.find-at.result c.index.result.now (omega (arith, at, live_inside f.live.items c.args.group there)) in
    let inside : c.index.result.now.program < length f.programs.items = subst (λ l. l.program < length f.programs.items) (sym c.index.ensures) known in
    let program = get_or_read f.programs.items c.index.result.now.program c.index-2.result.now inside c.index-2.ensures no_program in
    let of = program_found [] f.live.items c.args.group c.index.result.now there ∙ ap (λ i. (get_or f.live.items i c.index.result.now).program) (sym at) ∙ ap (λ l. l.program) (sym c.index.ensures) in
    c.regs_with.ensures
    ∙ thread_regs_shared s c.index.result.now.program c.args.slot c.stack_low-low.result c.index-2.result.now program (c.stack_low-low.ensures.value ∙ sym (ap (λ s. s.stacks_at + c.args.slot * s.stack) is))
    ∙ ap (λ p. thread_regs (shared_plan [] 0 s) p c.args.slot) (sym of)
    ∙ ap (λ s. thread_regs (shared_plan [] 0 s) (program_of (map (shared_group []) s.live) c.args.group) c.args.slot) is
