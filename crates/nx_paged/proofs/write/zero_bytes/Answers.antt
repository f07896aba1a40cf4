use Rattle.std.proofs.Common.{◌≡◌, ◌+◌, ◌*◌, ◌∙◌, [], refl, ap, sym, subst, arith}
use Rattle.std.proofs.Props.{props}
use Rattle.std.proofs.Math.Logic.{∥∥₁_elim}
use Rattle.nx_paged.specs.Writing.{WritesAll}
use Rattle.nx_paged.proofs.Written.{place_after, writes_more, writes_none}
use Rattle.nx_paged.proofs.Zeros.{zeros, length-zeros, zeros_more}
use Rattle.nx_paged.proofs.write.zero_bytes.Goals as goal

pub loop-k-init : goal.loop-k-init
loop-k-init c = record { writes = writes_none c.args.ram.now c.args.satp c.args.at c.args.size []; long = refl }

pub zero_page-requires-clause-place : goal.zero_page-requires-clause-place
zero_page-requires-clause-place c = ∥∥₁_elim c.requires.place (hlevel props) (λ h. ∣ place_after c.args.ram.now c.loop-k.ram c.args.satp c.args.at c.args.size 0 (zeros (4096 * c.loop-k.k)) h c.loop-k.invariant.writes ∣₁)

pub loop-k-preserved : goal.loop-k-preserved
loop-k-preserved c =
    let a = c.args in
    let k = c.loop-k.k in
    let t = c.loop-k-test.true in
    let whole = c.requires.whole in
    let count : c.min-count.result ≡ 4096 = grind (arith, c.min-count.ensures, t, whole) in
    let l = length-zeros (4096 * k) in
    let m = length-zeros c.min-count.result in
    let sum : 4096 * k + c.min-count.result ≡ 4096 * (k + 1) = omega (arith, count) in
    record {
      writes = writes_more a.ram.now c.loop-k.ram c.zero_page.new.ram a.satp a.at a.size (zeros (4096 * k)) (zeros c.min-count.result) (zeros (4096 * (k + 1))) (4096 * k) c.loop-k.invariant.writes c.zero_page.ensures.writes (sym l) (omega (arith, m, count, t, whole)) (zeros_more (4096 * k) c.min-count.result ∙ ap zeros sum);
      long = c.zero_page.ensures.long ∙ c.loop-k.invariant.long;
    }

pub returns-clause-writes : goal.returns-clause-writes
returns-clause-writes c =
    let a = c.args in
    let t = c.loop-k-test.false in
    let e = c.loop-k.auto.k-end in
    let whole = c.requires.whole in
    let all : 4096 * c.loop-k.k ≡ a.size = omega (arith, t, e, whole) in
    subst (λ n. WritesAll a.ram.now c.loop-k.ram a.satp a.at a.size 0 (zeros n)) all c.loop-k.invariant.writes
