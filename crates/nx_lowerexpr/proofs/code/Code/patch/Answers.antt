use Rattle.std.proofs.Common.{◌≡◌, ℕ, suc, ◌-◌, ◌<◌, List, length, sym, ap, ◌∙◌, arith}
use Rattle.std.specs.Prelude.{slice_set, reverse}
use Rattle.std.proofs.lemmas.List.{length-reverse}
use Rattle.nx_slot.specs.declared.op.SlotOp.{SlotOp}
use Rattle.nx_lowerexpr.proofs.Patching.{reverse_set}
use Rattle.nx_lowerexpr.proofs.code.Code.patch.Goals as goal

pub returns : goal.returns
returns c =
    let items = c.self.inside.ops.items in
    let now = c.args.self.now in
    let v : reverse items ≡ now = c.self.view_is in
    let n : length items ≡ length now = sym (length-reverse items) ∙ ap (λ (l : List SlotOp). length l) v in
    let h : c.args.behind < length items = omega (arith, c.requires, n) in
    reverse_set items c.args.behind c.args.op h
    ∙ ap (λ (l : List SlotOp). slice_set l (length items - suc c.args.behind) c.args.op) v
    ∙ ap (λ (m : ℕ). slice_set now (m - suc c.args.behind) c.args.op) n
