use Rattle.std.proofs.Common.{◌≡◌, ◌≢◌, ◌++◌, ◌≤◌, ap, sym, ◌∙◌, subst, arith}
use Rattle.std.specs.Prelude.{slice_set}
use Rattle.std.proofs.lemmas.List.{append-nil}
use Rattle.nx_frames.specs.Chains.{chain, Each, AreApart}
use Rattle.nx_frames.specs.Stock.{Stock, Holds, Keeps, frames_of}
use Rattle.nx_frames.proofs.Lists.{each_parts}
use Rattle.nx_frames.proofs.Stocks.{stock, join_frames, join_free, join_stocked, join_holds, join_others, join_few}
use Rattle.nx_frames.proofs.Chains.{last_below}
use Rattle.nx_frames.proofs.frames.Frames.join.Goals as goal

pub index_mut-requires : goal.index_mut-requires
index_mut-requires c =
    let i = c.self.inside in
    let t = c.args.into.now in
    let h = subst (λ (s : Stock). Holds s t) (sym c.self.view_is) c.requires.into in
    let one : 1 ≤ t.count = omega arith in
    let b = last_below i.first i.next.items t.tail t.head t.count one (h.last one) h.frames in
    omega (arith, b, i.next.ok.0)

pub overflow_add-into : goal.overflow_add-into
overflow_add-into c =
    let i = c.self.inside in
    let t = c.args.into.now in
    let m = c.args.more in
    let h = subst (λ (s : Stock). Holds s t) (sym c.self.view_is) c.requires.into in
    let k = subst (λ (s : Stock). Holds s m) (sym c.self.view_is) c.requires.more in
    let a = subst (λ (s : Stock). AreApart (frames_of s t) (frames_of s m)) (sym c.self.view_is) c.requires.apart in
    let f = join_few i.first i.next.items (chain i.first i.next.items i.head i.free) t m c.self.invariant.fits h k a in
    omega (arith, f)

pub invariant_of-self : goal.invariant_of-self
invariant_of-self c =
    let i = c.self.inside in
    let t = c.args.into.now in
    let h = subst (λ (s : Stock). Holds s t) (sym c.self.view_is) c.requires.into in
    join_stocked i.first i.next.items i.head i.free c.args.more.head t c.self.invariant h (omega arith)

pub returns-then-into-eq0-clause-joined : goal.returns-then-into-eq0-clause-joined
unfolding chain
returns-then-into-eq0-clause-joined c =
    let s = c.args.self.now in
    let e : 0 ≡ c.args.into.now.count = omega arith in
    ap (λ n. chain s.first s.next c.args.into.now.head n ++ frames_of s c.args.more) e

pub returns-then-count-gt0-clause-joined : goal.returns-then-count-gt0-clause-joined
returns-then-count-gt0-clause-joined c =
    let i = c.self.inside in
    let t = c.args.into.now in
    let m = c.args.more in
    let h = subst (λ (s : Stock). Holds s t) (sym c.self.view_is) c.requires.into in
    let a = subst (λ (s : Stock). AreApart (frames_of s t) (frames_of s m)) (sym c.self.view_is) c.requires.apart in
    join_frames i.first i.next.items (chain i.first i.next.items i.head i.free) t m h (omega arith) a
    ∙ ap (λ (s : Stock). frames_of s t ++ frames_of s m) c.self.view_is

pub returns-then-count-gt0-clause-holds : goal.returns-then-count-gt0-clause-holds
returns-then-count-gt0-clause-holds c =
    let i = c.self.inside in
    let t = c.args.into.now in
    let m = c.args.more in
    let h = subst (λ (s : Stock). Holds s t) (sym c.self.view_is) c.requires.into in
    let k = subst (λ (s : Stock). Holds s m) (sym c.self.view_is) c.requires.more in
    let a = subst (λ (s : Stock). AreApart (frames_of s t) (frames_of s m)) (sym c.self.view_is) c.requires.apart in
    join_holds i.first i.next.items i.head i.free t m h k a (omega arith) (omega arith)

pub returns-then-count-gt0-clause-free : goal.returns-then-count-gt0-clause-free
returns-then-count-gt0-clause-free c =
    let i = c.self.inside in
    let t = c.args.into.now in
    let h = subst (λ (s : Stock). Holds s t) (sym c.self.view_is) c.requires.into in
    join_free i.first i.next.items i.head i.free c.args.more.head t h (omega arith) ∙ ap (λ (s : Stock). s.free) c.self.view_is

pub returns-then-count-gt0-clause-others : goal.returns-then-count-gt0-clause-others
returns-then-count-gt0-clause-others c u k apart =
    let i = c.self.inside in
    let t = c.args.into.now in
    let next = slice_set i.next.items t.tail c.args.more.head in
    let h = subst (λ (s : Stock). Holds s t) (sym c.self.view_is) c.requires.into in
    subst (λ (s : Stock). Keeps s (stock i.first next (chain i.first next i.head i.free)) u) c.self.view_is
    (join_others i.first i.next.items i.head i.free c.args.more.head t u h (omega arith) (subst (λ (s : Stock). Holds s u) (sym c.self.view_is) k) (subst (λ (s : Stock). AreApart (frames_of s t) (frames_of s u)) (sym c.self.view_is) (each_parts (λ x. Each (λ y. y ≢ x) (frames_of c.args.self.now u)) (frames_of c.args.self.now t) (frames_of c.args.self.now c.args.more) apart).0))

pub returns-else-count-gt0-clause-joined : goal.returns-else-count-gt0-clause-joined
unfolding chain
returns-else-count-gt0-clause-joined c =
    let s = c.args.self.now in
    let ts = frames_of s c.args.into.now in
    let e : 0 ≡ c.args.more.count = omega arith in
    sym (append-nil ts) ∙ ap (λ n. ts ++ chain s.first s.next c.args.more.head n) e
