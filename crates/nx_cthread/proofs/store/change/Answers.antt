use Rattle.std.proofs.Common.{◌≡◌, true, List, IfOk, subst}
use Rattle.nx_cobjects.specs.Groups.{Object}
use Rattle.nx_cobjects.specs.Memory.{memory}
use Rattle.nx_cmean.specs.Meaning.{evaluated}
use Rattle.nx_cmean.specs.Shape.{item_of}
use Rattle.nx_cthread.specs.Threads.{frame_of, unless}
use Rattle.nx_cthread.proofs.Others.{is_read, read_kind, read}
use Rattle.nx_cthread.proofs.store.change.Goals as goal

pub returns-in_default : goal.returns-in_default
returns-in_default c =
    let i = c.args.item in
    let n = c.in_default in
    let kind : is_read (item_of i) ≡ true = read_kind i n.not-Write n.not-Raise n.not-Bump n.not-Lay n.not-Lift n.not-Shift n.not-Make in
    let same : c.deref-in_default.result.now ≡ c.args.own.now.items = c.deref-in_default.ensures.value in
    let h : IfOk c.evaluate.result (λ r. unless r (frame_of c.evaluate.new.frame) ≡ evaluated (memory c.args.group.now c.deref-in_default.result.now) (frame_of c.args.frame.now) (item_of i)) = c.evaluate.ensures in
    read c.evaluate.result (memory c.args.group.now c.args.own.now.items) (frame_of c.args.frame.now) (frame_of c.evaluate.new.frame) (item_of i) kind (subst (λ (own : List Object). IfOk c.evaluate.result (λ r. unless r (frame_of c.evaluate.new.frame) ≡ evaluated (memory c.args.group.now own) (frame_of c.args.frame.now) (item_of i))) same h)
