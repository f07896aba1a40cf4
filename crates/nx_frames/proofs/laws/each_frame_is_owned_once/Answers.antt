use Rattle.nx_frames.proofs.Owners.{taken_held, given_held, joined_held, held_first, held_back}
use Rattle.nx_frames.proofs.laws.each_frame_is_owned_once.Goals as goal

pub returns-clause-taken : goal.returns-clause-taken
returns-clause-taken c = taken_held

pub returns-clause-given : goal.returns-clause-given
returns-clause-given c = given_held

pub returns-clause-joined : goal.returns-clause-joined
returns-clause-joined c = joined_held

pub returns-clause-first : goal.returns-clause-first
returns-clause-first c = held_first

pub returns-clause-back : goal.returns-clause-back
returns-clause-back c = held_back
