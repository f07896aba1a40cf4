use Rattle.std.proofs.Common.{◌≡◌, ◌+◌, ◌-◌, ◌*◌, ◌≤◌, ℕ, length, sym, ap, ◌∙◌, subst, refl, arith}
use Rattle.std.proofs.lemmas.List.{get_or_read}
use Rattle.nx_frames.specs.declared.too_few.TooFew.{TooFew}
use Rattle.nx_frames.specs.Chains.{chain, frame_after}
use Rattle.nx_frames.specs.Zeros.{AreZeroed}
use Rattle.nx_frames.specs.Stock.{Stock, LieInside, Takes}
use Rattle.nx_frames.proofs.Chains.{length-chain, after_below, step_more}
use Rattle.nx_frames.proofs.Zeroed.{none_zeroed, zeroed_more}
use Rattle.nx_frames.proofs.Stocks.{stock, take_stocked, takes}
use Rattle.nx_frames.proofs.frames.Frames.take.Goals as goal

pub returns-then-n-self-clause-too_few : goal.returns-then-n-self-clause-too_few
returns-then-n-self-clause-too_few c =
    let i = c.self.inside in
    let e = sym (length-chain i.first i.next.items i.head i.free) ∙ ap (λ (s : Stock). length s.free) c.self.view_is in
    (ap (λ (k : ℕ). let r : TooFew = record { need = c.args.n; free = k } in r) e, c.if-n-self.true)

pub loop-taken-init : goal.loop-taken-init
unfolding chain frame_after
loop-taken-init c = record {
  at = refl;
  last = λ one. absurd (omega (arith, one));
  zeroed = none_zeroed c.args.ram.now;
}

pub overflow_mul-at : goal.overflow_mul-at
overflow_mul-at c =
    let i = c.self.inside in
    let b = after_below i.first i.next.items i.head i.free c.loop-taken._taken (omega arith) c.self.invariant.frames in
    let f = c.self.invariant.fits in
    omega (arith, b, f, c.loop-taken.invariant.at)

pub overflow_add-start : goal.overflow_add-start
overflow_add-start c =
    let i = c.self.inside in
    let b = after_below i.first i.next.items i.head i.free c.loop-taken._taken (omega arith) c.self.invariant.frames in
    let f = c.self.invariant.fits in
    omega (arith, b, f, c.loop-taken.invariant.at)

pub zero_frame-requires-clause-inside : goal.zero_frame-requires-clause-inside
zero_frame-requires-clause-inside c =
    let i = c.self.inside in
    let b = after_below i.first i.next.items i.head i.free c.loop-taken._taken (omega arith) c.self.invariant.frames in
    let r = subst (λ (s : Stock). LieInside s (length c.args.ram.now)) (sym c.self.view_is) c.requires in
    let low = c.self.invariant.low in
    let long = c.loop-taken.invariant.zeroed.long in
    omega (arith, b, r, low, long, c.loop-taken.invariant.at)

pub index-at-requires : goal.index-at-requires
index-at-requires c =
    let i = c.self.inside in
    let b = after_below i.first i.next.items i.head i.free c.loop-taken._taken (omega arith) c.self.invariant.frames in
    omega (arith, b, c.loop-taken.invariant.at, i.next.ok.0)

pub loop-taken-preserved : goal.loop-taken-preserved
loop-taken-preserved c =
    let i = c.self.inside in
    let l = c.loop-taken in
    let b = after_below i.first i.next.items i.head i.free l._taken (omega arith) c.self.invariant.frames in
    let to = get_or_read i.next.items _ _ (omega (arith, b, l.invariant.at)) c.index-at.ensures 0 in
    let e : l._taken ≡ l._taken + 1 - 1 = omega arith in
    record {
      at = step_more i.next.items i.head l.at c.index-at.result.now l._taken l.invariant.at to;
      last = λ one. l.invariant.at ∙ ap (frame_after i.next.items i.head) e;
      zeroed = zeroed_more c.args.ram.now l.ram c.zero_frame.new.ram i.first i.next.items i.head l._taken l.at (i.first - 2147483648 + 4096 * l.at) c.self.invariant.low l.invariant.at refl l.invariant.zeroed c.zero_frame.ensures.zeroed c.zero_frame.ensures.others c.zero_frame.ensures.long;
    }

pub invariant_of-self : goal.invariant_of-self
invariant_of-self c =
    let i = c.self.inside in
    let e : c.loop-taken._taken ≡ c.args.n = omega arith in
    let at : c.loop-taken.at ≡ frame_after i.next.items i.head c.args.n = c.loop-taken.invariant.at ∙ ap (frame_after i.next.items i.head) e in
    take_stocked i.first i.next.items i.head i.free c.args.n c.loop-taken.at c.if-n-self.false at c.self.invariant

pub returns-clause-taken : goal.returns-clause-taken
returns-clause-taken c =
    let i = c.self.inside in
    let l = c.loop-taken in
    let e : l._taken ≡ c.args.n = omega arith in
    let at : l.at ≡ frame_after i.next.items i.head c.args.n = l.invariant.at ∙ ap (frame_after i.next.items i.head) e in
    let last : 1 ≤ c.args.n → l.tail ≡ frame_after i.next.items i.head (c.args.n - 1) = subst (λ k. 1 ≤ k → l.tail ≡ frame_after i.next.items i.head (k - 1)) e l.invariant.last in
    subst (λ (s : Stock). Takes s (stock i.first i.next.items (chain i.first i.next.items l.at (i.free - c.args.n))) c.args.ram.now l.ram c.args.n (record { head = i.head; tail = l.tail; count = c.args.n })) c.self.view_is
    (takes i.first i.next.items i.head i.free c.args.n l.at l.tail c.args.ram.now l.ram c.if-n-self.false at last c.self.invariant (subst (λ k. AreZeroed c.args.ram.now l.ram (chain i.first i.next.items i.head k)) e l.invariant.zeroed))
