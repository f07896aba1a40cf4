use Rattle.nx_shstep.proofs.Plans.{put_room}
use Rattle.nx_shstep.proofs.begin.put_steps.Goals as goal

pub put_opening-requires : goal.put_opening-requires
put_opening-requires c =
    put_room c.args.todo.now c.put_closing.new.todo c.put_body.new.steps c.args.output c.args.which c.args.status c.args.words.now c.requires.room c.requires.few c.put_closing.ensures c.put_body.ensures.steps
