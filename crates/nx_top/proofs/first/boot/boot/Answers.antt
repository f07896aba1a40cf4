use Rattle.std.proofs.Common.{rules, ◌≡◌, length, ◌+◌, ◌*◌, ◌-◌, [], ◌∷◌, ap, ◌∙◌, refl, sym, arith, subst, true}
use Rattle.std.proofs.lemmas.List.{length-replicate}
use Rattle.nx_base.specs.ByteLists.{put_bytes}
use Rattle.nx_space.specs.World.{World}
use Rattle.nx_space.specs.Starts.{start_regs as space_regs}
use Rattle.nx_space.specs.Shared.{Sharing}
use Rattle.nx_space.specs.Flat.{flat_part, flat_lawful}
use Rattle.nx_space.proofs.Joins.{started_has_view}
use Rattle.nx_space.proofs.SharedStarts.{no_start_need}
use Rattle.nx_top.specs.first.Layout.{ram_bytes, ram_start, stack_low}
use Rattle.nx_top.specs.first.BootedRuns.{IsBooted}
use Rattle.nx_top.proofs.first_path.BootLemmas.{booted_put}
use Rattle.nx_top.proofs.first_path.BootedSpace.{none_yet, room_alone, booted_space, regs_booted}
use Rattle.nx_top.proofs.first.boot.boot.Goals as goal

pub start-requires-clause-new : goal.start-requires-clause-new
start-requires-clause-new c = none_yet _ 2 _ refl c.in_ok-space.ensures

pub enter-requires : goal.enter-requires
enter-requires c = started_has_view _ _ 2 0 1 true c.in-Ok.ensures.started

pub unreachable-requires : goal.unreachable-requires
unreachable-requires c =
    let few = c.in-Err.ensures.too_few in
    let s = c.in_ok-space.space.shared in
    let z = no_start_need (flat_part s.size ∷ []) 0 s 0 1 in
    let less = rw few.0 at few.1 in
    omega (arith, less, z)

pub returns : goal.returns
returns c =
    let laid = c.requires.laid_out in
    let text_at = laid.text_at in
    let whole : length c.put.new.self ≡ ram_bytes = c.put.ensures.long ∙ ap length c.in_ok-ram.ensures ∙ length-replicate c.args.size 0 ∙ c.requires.whole in
    let one : c.push.new.self.items ≡ c.args.image ∷ [] = search rules in
    let s : Sharing = record { ram = c.put.new.self; size = length c.put.new.self; programs = c.push.new.self.items; stacks_at = c.args.image.data_at; stack = 8192; threads = 16; live = []; entered = 0 } in
    let room = room_alone c.args.image c.args.image.name s laid c.requires.short whole refl one laid.data_at refl (omega arith) (omega arith) in
    let k = c.args.image.text_at - ram_start in
    let text : c.as_slice.result.now ≡ c.args.image.text = search rules in
    let is = c.put.ensures.bytes ∙ ap (put_bytes c.in_ok-ram.ram k) text ∙ ap (λ bs. put_bytes bs k c.args.image.text) c.in_ok-ram.ensures in
    let booted = subst (IsBooted c.args.image) (sym is) (booted_put c.args.image c.args.size k (omega (arith, text_at)) refl (omega (arith, text_at, c.requires.short, c.requires.whole)) c.requires.whole) in
    let low : c.args.image.data_at + 1 * 8192 ≡ stack_low (length c.args.image.text) = omega (arith, laid.data_at) in
    let lawful = flat_lawful c.in_ok-space.space.shared c.in_ok-space.space.lawful in
    record {
      regs = c.in-Ok.ensures.regs ∙ ap (λ (w : World). space_regs w.memory_map 0 1) c.in_ok-space.ensures ∙ regs_booted c.args.image s 0 1 room.program low refl;
      sees = booted_space c.args.image s 2 0 1 true _ _ _ booted room lawful c.in_ok-space.ensures c.in-Ok.ensures.started c.enter.ensures;
    }
