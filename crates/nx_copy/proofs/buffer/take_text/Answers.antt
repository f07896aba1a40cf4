use Rattle.std.proofs.Common.{◌+◌, ◌-◌, ◌≡◌, ◌≤◌, ◌^◌, suc, Ok, ◌∷◌, [], length, refl, sym, ap, ◌∙◌, subst, arith}
use Rattle.std.proofs.lemmas.List.{length-append}
use Rattle.nx_base.specs.declared.access.Access.TheVariants.{Load}
use Rattle.nx_base.specs.Good.{is_good, good_text}
use Rattle.nx_base.specs.Views.{load_bytes}
use Rattle.nx_space.specs.World.{World, view_in}
use Rattle.nx_copy.proofs.Goods.{Reads, text_begins, text_beyond, text_bad, text_ends, text_more, text_over}
use Rattle.nx_copy.proofs.buffer.take_text.Goals as goal

pub loop-i-init : goal.loop-i-init
loop-i-init g c =
    let view = view_in (g.S.Space.world c.args.space.now) in
    let there : c.args.at + 0 ≡ c.args.at = omega arith in
    record {
      same = refl;
      long = ap length c.clear.ensures;
      read = subst (λ xs. Reads view (c.args.at + 0) 256 xs (good_text view c.args.at 256)) (sym c.clear.ensures) (text_begins view c.args.at 256 (c.args.at + 0) there);
    }

pub returns-in_default-clause-bad : goal.returns-in_default-clause-bad
returns-in_default-clause-bad g c = λ h.
    let view = view_in (g.S.Space.world c.args.space.now) in
    let above : 2 ^ 32 ≤ c.args.at + c.loop-i.i = omega (arith, c.in_default.ensures) in
    text_beyond view (c.args.at + c.loop-i.i) (256 - c.loop-i.i) c.loop-i.into (good_text view c.args.at 256) above c.loop-i.invariant.read

pub returns-then-not-good-clause-bad : goal.returns-then-not-good-clause-bad
returns-then-not-good-clause-bad g c = λ h.
    let view = view_in (g.S.Space.world c.args.space.now) in
    let bad = ap (λ k. is_good view k 1 Load) (sym c.in-Some.ensures.1) ∙ ap (λ (w : World). is_good (view_in w) c.in-Some.place 1 Load) (sym c.loop-i.invariant.same) ∙ sym c.if-not-good.ensures.answer in
    text_bad view (c.args.at + c.loop-i.i) (256 - c.loop-i.i) c.loop-i.into (good_text view c.args.at 256) bad c.loop-i.invariant.read

pub returns-then-byte-eq0-clause-good : goal.returns-then-byte-eq0-clause-good
returns-then-byte-eq0-clause-good g c = λ h.
    let view = view_in (g.S.Space.world c.args.space.now) in
    let i = c.loop-i-test.true in
    let left : 1 ≤ 256 - c.loop-i.i = omega (arith, i) in
    let good = ap (λ k. is_good view k 1 Load) (sym c.in-Some.ensures.1) ∙ ap (λ (w : World). is_good (view_in w) c.in-Some.place 1 Load) (sym c.loop-i.invariant.same) ∙ sym c.if-not-good.ensures.answer in
    let byte = ap (λ k. load_bytes view k 1) (sym c.in-Some.ensures.1) ∙ ap (λ (w : World). load_bytes (view_in w) c.in-Some.place 1) (sym (c.if-not-good.ensures.same ∙ c.loop-i.invariant.same)) ∙ c.peek-byte.ensures.answer ∙ ap Ok c.if-byte-eq0.true in
    text_ends view (c.args.at + c.loop-i.i) (256 - c.loop-i.i) c.loop-i.into (good_text view c.args.at 256) left good byte c.loop-i.invariant.read

pub push-requires : goal.push-requires
push-requires g c = omega (arith, c.loop-i.invariant.long, c.loop-i-test.true)

pub loop-i-preserved : goal.loop-i-preserved
loop-i-preserved g c =
    let view = view_in (g.S.Space.world c.args.space.now) in
    let i = c.loop-i-test.true in
    let left : 256 - c.loop-i.i ≡ suc (256 - (c.loop-i.i + 1)) = omega (arith, i) in
    let next : c.args.at + (c.loop-i.i + 1) ≡ c.args.at + c.loop-i.i + 1 = omega arith in
    let some : 1 ≤ c.peek-byte.result = omega (arith, c.if-byte-eq0.false) in
    let good = ap (λ k. is_good view k 1 Load) (sym c.in-Some.ensures.1) ∙ ap (λ (w : World). is_good (view_in w) c.in-Some.place 1 Load) (sym c.loop-i.invariant.same) ∙ sym c.if-not-good.ensures.answer in
    let byte = ap (λ k. load_bytes view k 1) (sym c.in-Some.ensures.1) ∙ ap (λ (w : World). load_bytes (view_in w) c.in-Some.place 1) (sym (c.if-not-good.ensures.same ∙ c.loop-i.invariant.same)) ∙ c.peek-byte.ensures.answer in
    let more = text_more view (c.args.at + c.loop-i.i) (256 - c.loop-i.i) (c.args.at + (c.loop-i.i + 1)) (256 - (c.loop-i.i + 1)) c.peek-byte.result c.loop-i.into (good_text view c.args.at 256) left next good byte some c.loop-i.invariant.read in
    let long = ap length c.push.ensures ∙ length-append c.loop-i.into (c.peek-byte.result ∷ []) in
    record {
      same = c.peek-byte.ensures.same ∙ c.if-not-good.ensures.same ∙ c.loop-i.invariant.same;
      long = omega (arith, long, c.loop-i.invariant.long);
      read = subst (λ xs. Reads view (c.args.at + (c.loop-i.i + 1)) (256 - (c.loop-i.i + 1)) xs (good_text view c.args.at 256)) (sym c.push.ensures) more;
    }

pub returns-clause-bad : goal.returns-clause-bad
returns-clause-bad g c = λ h.
    let view = view_in (g.S.Space.world c.args.space.now) in
    let none : 256 - c.loop-i.i ≡ 0 = omega (arith, c.loop-i-test.false) in
    text_over view (c.args.at + c.loop-i.i) (256 - c.loop-i.i) c.loop-i.into (good_text view c.args.at 256) none c.loop-i.invariant.read
