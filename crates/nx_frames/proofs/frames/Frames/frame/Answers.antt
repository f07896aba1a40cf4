use Rattle.std.proofs.Common.{◌≡◌, slice_index, sym, ap, ◌∙◌, subst, refl, arith}
use Rattle.std.proofs.lemmas.List.{get_or_read}
use Rattle.nx_frames.specs.Chains.{address, frame_after}
use Rattle.nx_frames.specs.Stock.{Stock, Holds, frames_of}
use Rattle.nx_frames.proofs.Chains.{index_chain, after_below, step_more}
use Rattle.nx_frames.proofs.frames.Frames.frame.Goals as goal

pub loop-step-init : goal.loop-step-init
unfolding frame_after
loop-step-init c = refl

pub index-at-requires : goal.index-at-requires
index-at-requires c =
    let i = c.self.inside in
    let t = c.args.taken.now in
    let h = subst (λ (s : Stock). Holds s t) (sym c.self.view_is) c.requires.held in
    let b = after_below i.first i.next.items t.head t.count c.loop-step._step (omega arith) h.frames in
    omega (arith, b, c.loop-step.invariant, i.next.ok.0)

pub loop-step-preserved : goal.loop-step-preserved
loop-step-preserved c =
    let i = c.self.inside in
    let t = c.args.taken.now in
    let h = subst (λ (s : Stock). Holds s t) (sym c.self.view_is) c.requires.held in
    let b = after_below i.first i.next.items t.head t.count c.loop-step._step (omega arith) h.frames in
    step_more i.next.items t.head c.loop-step.at c.index-at.result.now c.loop-step._step c.loop-step.invariant (get_or_read i.next.items _ _ (omega (arith, b, c.loop-step.invariant)) c.index-at.ensures 0)

pub overflow_mul-result : goal.overflow_mul-result
overflow_mul-result c =
    let i = c.self.inside in
    let t = c.args.taken.now in
    let h = subst (λ (s : Stock). Holds s t) (sym c.self.view_is) c.requires.held in
    let b = after_below i.first i.next.items t.head t.count c.args.i c.requires.below h.frames in
    let e : c.loop-step._step ≡ c.args.i = omega arith in
    let at : c.loop-step.at ≡ frame_after i.next.items t.head c.args.i = c.loop-step.invariant ∙ ap (frame_after i.next.items t.head) e in
    let f = c.self.invariant.fits in
    omega (arith, b, at, f)

pub overflow_add-result : goal.overflow_add-result
overflow_add-result c =
    let i = c.self.inside in
    let t = c.args.taken.now in
    let h = subst (λ (s : Stock). Holds s t) (sym c.self.view_is) c.requires.held in
    let b = after_below i.first i.next.items t.head t.count c.args.i c.requires.below h.frames in
    let e : c.loop-step._step ≡ c.args.i = omega arith in
    let at : c.loop-step.at ≡ frame_after i.next.items t.head c.args.i = c.loop-step.invariant ∙ ap (frame_after i.next.items t.head) e in
    let f = c.self.invariant.fits in
    omega (arith, b, at, f)

pub returns : goal.returns
returns c =
    let i = c.self.inside in
    let t = c.args.taken.now in
    let e : c.loop-step._step ≡ c.args.i = omega arith in
    let at : c.loop-step.at ≡ frame_after i.next.items t.head c.args.i = c.loop-step.invariant ∙ ap (frame_after i.next.items t.head) e in
    ap (address i.first) at
    ∙ sym (index_chain i.first i.next.items t.head t.count c.args.i c.requires.below)
    ∙ ap (λ (s : Stock). slice_index (frames_of s t) c.args.i) c.self.view_is
