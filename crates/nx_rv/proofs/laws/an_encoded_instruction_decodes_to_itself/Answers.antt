use Rattle.nx_rv.proofs.Rows.{decode_encode}
use Rattle.nx_rv.proofs.laws.an_encoded_instruction_decodes_to_itself.Goals as goal

pub returns : goal.returns
returns c = decode_encode
