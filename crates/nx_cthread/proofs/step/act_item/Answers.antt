use Rattle.std.proofs.Common.{◌≡◌, true, IfOk, []}
use Rattle.nx_checked.specs.Trees.{program_of}
use Rattle.nx_cobjects.specs.Memory.{memory}
use Rattle.nx_cmean.specs.Meaning.{thread, goes_on, stored}
use Rattle.nx_cmean.specs.Shape.{item_of}
use Rattle.nx_cthread.specs.Threads.{frame_of, frames_of, answer_of}
use Rattle.nx_cthread.proofs.Others.{is_within, within_kind, acted}
use Rattle.nx_cthread.proofs.step.act_item.Goals as goal

pub returns-in_default : goal.returns-in_default
returns-in_default c =
    let i = c.args.item in
    let n = c.in_default in
    let kind : is_within (item_of i) ≡ true = within_kind i n.not-Ask n.not-Leave n.not-Fall in
    let m = memory c.args.group.now c.args.own.now.items in
    let h : IfOk c.change_frame.result (λ s. answer_of s c.change_frame.new.group (thread c.change_frame.new.own.items (frames_of c.change_frame.new.frames) []) ≡ goes_on (frames_of c.args.frames.now) (stored m (frame_of c.args.frame) (item_of i))) = c.change_frame.ensures in
    acted c.change_frame.result c.change_frame.new.group c.change_frame.new.own.items (frames_of c.change_frame.new.frames) c.args.waiting.now (program_of c.args.program.now) m (frames_of c.args.frames.now) (frame_of c.args.frame) (item_of i) c.requires kind h
