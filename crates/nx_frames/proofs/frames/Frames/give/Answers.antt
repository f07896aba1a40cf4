use Rattle.std.proofs.Common.{◌≡◌, ◌+◌, ◌++◌, ◌≤◌, ap, sym, ◌∙◌, subst, arith}
use Rattle.std.specs.Prelude.{slice_set}
use Rattle.nx_frames.specs.Chains.{chain, AreApart}
use Rattle.nx_frames.specs.Stock.{Stock, Holds, Keeps, frames_of}
use Rattle.nx_frames.proofs.Stocks.{stock, give_free, give_stocked, give_others, give_few}
use Rattle.nx_frames.proofs.Chains.{last_below}
use Rattle.nx_frames.proofs.frames.Frames.give.Goals as goal

pub index_mut-requires : goal.index_mut-requires
index_mut-requires c =
    let i = c.self.inside in
    let t = c.args.taken in
    let h = subst (λ (s : Stock). Holds s t) (sym c.self.view_is) c.requires in
    let one : 1 ≤ t.count = omega arith in
    let b = last_below i.first i.next.items t.tail t.head t.count one (h.last one) h.frames in
    omega (arith, b, i.next.ok.0)

pub overflow_add-self : goal.overflow_add-self
overflow_add-self c =
    let i = c.self.inside in
    let h = subst (λ (s : Stock). Holds s c.args.taken) (sym c.self.view_is) c.requires in
    let f = give_few i.first i.next.items i.head i.free c.args.taken c.self.invariant h in
    omega (arith, f)

pub invariant_of-self : goal.invariant_of-self
invariant_of-self c =
    let i = c.self.inside in
    let h = subst (λ (s : Stock). Holds s c.args.taken) (sym c.self.view_is) c.requires in
    give_stocked i.first i.next.items i.head i.free c.args.taken c.self.invariant h (omega arith)

pub returns-then-count-gt0-clause-free : goal.returns-then-count-gt0-clause-free
returns-then-count-gt0-clause-free c =
    let i = c.self.inside in
    let h = subst (λ (s : Stock). Holds s c.args.taken) (sym c.self.view_is) c.requires in
    give_free i.first i.next.items i.head i.free c.args.taken h (omega arith) ∙ ap (λ (s : Stock). frames_of s c.args.taken ++ s.free) c.self.view_is

pub returns-then-count-gt0-clause-others : goal.returns-then-count-gt0-clause-others
returns-then-count-gt0-clause-others c u k apart =
    let i = c.self.inside in
    let t = c.args.taken in
    let h = subst (λ (s : Stock). Holds s t) (sym c.self.view_is) c.requires in
    let new = stock i.first (slice_set i.next.items t.tail i.head) (chain i.first (slice_set i.next.items t.tail i.head) t.head (i.free + t.count)) in
    subst (λ (s : Stock). Keeps s new u) c.self.view_is
    (give_others i.first i.next.items i.head i.free t u h (omega arith) (subst (λ (s : Stock). Holds s u) (sym c.self.view_is) k) (subst (λ (s : Stock). AreApart (frames_of s t) (frames_of s u)) (sym c.self.view_is) apart))

pub returns-else-count-gt0-clause-free : goal.returns-else-count-gt0-clause-free
unfolding chain
returns-else-count-gt0-clause-free c =
    let s = c.args.self.now in
    let t = c.args.taken in
    let e : 0 ≡ t.count = omega arith in
    ap (λ n. chain s.first s.next t.head n ++ s.free) e
