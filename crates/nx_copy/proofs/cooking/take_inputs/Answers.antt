use Rattle.std.proofs.Common.{◌+◌, ◌≡◌, ◌≤◌, [], ◌∷◌, Some, None, take, get_or, refl, sym, ap, ◌∙◌, arith}
use Rattle.nx_base.specs.declared.calls.Kind.TheVariants.{Word}
use Rattle.nx_base.specs.Copying.{input_of, inputs_of, words_from}
use Rattle.nx_ksys.specs.Telling.{both}
use Rattle.nx_space.specs.World.{World, view_in}
use Rattle.nx_copy.specs.Taking.{inputs, one_input, the_next}
use Rattle.nx_copy.proofs.Inputs.{next, read_more, read_bad, all_read, none_taken, inputs_here, one_of}
use Rattle.nx_copy.proofs.cooking.take_inputs.Goals as goal

pub loop-i-init : goal.loop-i-init
loop-i-init g c = record {
  same = refl;
  call = refl;
  words = refl;
  few = let f = c.requires.inputs in omega (arith, f);
  rest = c.requires.none;
  read = none_taken (view_in (g.S.Space.world c.args.space.now)) c.args.regs.now c.args.kinds.now;
}

pub returns-then-not-take_into-clause-bad : goal.returns-then-not-take_into-clause-bad
returns-then-not-take_into-clause-bad g c =
    let view = view_in (g.S.Space.world c.args.space.now) in
    let kinds = c.args.kinds.now in
    let regs = c.args.regs.now in
    let kind = get_or kinds c.loop-i.i Word in
    let one : one_of view regs kinds c.loop-i.i c.get-at.result ≡ None =
    ap (input_of view kind c.get-at.result) (sym c.word_after-next.ensures) ∙ ap (λ (w : World). input_of (view_in w) kind c.get-at.result c.word_after-next.result) (sym c.loop-i.invariant.same)
    ∙ c.if-not-take_into.ensures.bad refl in
    read_bad view regs kinds c.loop-i.i c.get-at.result (take c.loop-i.taken (c.loop-i.into.first ∷ c.loop-i.into.second ∷ [])) (inputs_of view 0 kinds (words_from regs 11 kinds)) c.loop-i-test.true c.get-at.ensures one c.loop-i.invariant.read

pub loop-i-preserved : goal.loop-i-preserved
loop-i-preserved g c =
    let view = view_in (g.S.Space.world c.args.space.now) in
    let kinds = c.args.kinds.now in
    let regs = c.args.regs.now in
    let i = c.loop-i.i in
    let kind = get_or kinds i Word in
    let taken = c.loop-i.taken in
    let old = c.loop-i.into in
    let new = c.take_into.new.into in
    let here = inputs_here kinds i c.loop-i-test.true in
    let few = c.loop-i.invariant.few in
    let small : taken + inputs (kind ∷ []) ≤ 2 = omega (arith, here, few) in
    let n = next taken kind old.first old.second new.first new.second small c.loop-i.invariant.rest c.if-not-take_into.ensures.other c.if-not-take_into.ensures.kept in
    let by = c.with_one-taken.ensures in
    let one : one_of view regs kinds i c.get-at.result ≡ Some (one_input kind (the_next taken new.first new.second)) =
    ap (input_of view kind c.get-at.result) (sym c.word_after-next.ensures) ∙ ap (λ (w : World). input_of (view_in w) kind c.get-at.result c.word_after-next.result) (sym c.loop-i.invariant.same)
    ∙ c.if-not-take_into.ensures.good refl in
    record {
      same = c.if-not-take_into.ensures.same ∙ c.loop-i.invariant.same;
      call = c.if-not-take_into.ensures.call ∙ c.loop-i.invariant.call;
      words = c.if-not-take_into.ensures.words ∙ c.loop-i.invariant.words;
      few = omega (arith, here, few, by);
      rest = n.rest ∙ ap (λ k. both (take k (new.first ∷ new.second ∷ []))) (sym by);
      read = read_more view regs kinds i c.get-at.result (take taken (old.first ∷ old.second ∷ [])) (take c.with_one-taken.result (new.first ∷ new.second ∷ [])) (one_input kind (the_next taken new.first new.second)) (inputs_of view 0 kinds (words_from regs 11 kinds))
          c.loop-i-test.true c.get-at.ensures one (ap (λ k. take k (new.first ∷ new.second ∷ [])) by ∙ n.before) c.loop-i.invariant.read;
    }

pub returns-clause-good : goal.returns-clause-good
returns-clause-good g c =
    let view = view_in (g.S.Space.world c.args.space.now) in
    all_read view c.args.regs.now c.args.kinds.now c.loop-i.i (take c.loop-i.taken (c.loop-i.into.first ∷ c.loop-i.into.second ∷ [])) (c.loop-i.into.first ∷ c.loop-i.into.second ∷ [])
    (inputs_of view 0 c.args.kinds.now (words_from c.args.regs.now 11 c.args.kinds.now)) (omega (arith, c.loop-i-test.false)) c.loop-i.invariant.rest c.loop-i.invariant.read
