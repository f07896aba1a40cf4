use Rattle.nx_rv.proofs.Rows.{encode_decode}
use Rattle.nx_rv.proofs.laws.a_decoded_word_encodes_to_itself.Goals as goal

pub returns : goal.returns
returns c = encode_decode
