use Rattle.std.proofs.Common.{◌*◌, ◌+◌, ◌<◌, ◌≤◌, ◌∙◌, refl, subst, arith, take, length}
use Rattle.std.proofs.Props.{props}
use Rattle.std.proofs.Math.Logic.{∥∥₁_elim}
use Rattle.std.specs.Prelude.{slice_range}
use Rattle.std.proofs.lemmas.List.{take_all}
use Rattle.nx_paged.specs.Writing.{WritesAll}
use Rattle.nx_paged.proofs.Written.{place_after, writes_more, writes_none, page_more, page_size, page_first}
use Rattle.nx_paged.proofs.write.write_bytes.Goals as goal

pub loop-k-init : goal.loop-k-init
loop-k-init c = record { writes = writes_none c.args.ram.now c.args.satp c.args.at c.args.size c.args.bytes.now; small = c.len-size.ensures.bytes; long = refl }

pub write_page-requires-clause-place : goal.write_page-requires-clause-place
write_page-requires-clause-place c = ∥∥₁_elim c.requires.place (hlevel props) (λ h. ∣ place_after c.args.ram.now c.loop-k.ram c.args.satp c.args.at c.args.size 0 (take (4096 * c.loop-k.k) c.args.bytes.now) h c.loop-k.invariant.writes ∣₁)

pub loop-k-preserved : goal.loop-k-preserved
loop-k-preserved c =
    let a = c.args in
    let k = c.loop-k.k in
    let below : 4096 * k < length a.bytes.now = let t = c.loop-k-test.true in omega (arith, t) in
    let size = page_size a.bytes.now k c.min-end.result c.min-end.ensures below in
    let inside = c.requires.inside in
    let high : c.min-end.result ≤ length a.bytes.now = grind (arith, c.min-end.ensures) in
    record {
      writes = writes_more a.ram.now c.loop-k.ram c.write_page.new.ram a.satp a.at a.size (take (4096 * k) a.bytes.now) (slice_range a.bytes.now (4096 * k) c.min-end.result) (take (4096 * (k + 1)) a.bytes.now) (4096 * k) c.loop-k.invariant.writes c.write_page.ensures.writes (page_first a.bytes.now k below) (omega (arith, size, inside, high)) (page_more a.bytes.now k c.min-end.result c.min-end.ensures below);
      small = c.write_page.ensures.small;
      long = c.write_page.ensures.long ∙ c.loop-k.invariant.long;
    }

pub returns-clause-writes : goal.returns-clause-writes
returns-clause-writes c =
    let a = c.args in
    let all : length a.bytes.now ≤ 4096 * c.loop-k.k = let t = c.loop-k-test.false in omega (arith, t) in
    subst (λ bs. WritesAll a.ram.now c.loop-k.ram a.satp a.at a.size 0 bs) (take_all (4096 * c.loop-k.k) a.bytes.now all) c.loop-k.invariant.writes
