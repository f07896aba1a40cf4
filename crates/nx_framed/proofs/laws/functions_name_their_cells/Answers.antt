use Rattle.nx_framed.proofs.Bodies.{functions_name}
use Rattle.nx_framed.proofs.laws.functions_name_their_cells.Goals as goal

pub returns : goal.returns
returns c = functions_name
