use Rattle.nx_pieces.proofs.Cells.{load_sets, store_saves}
use Rattle.nx_pieces.proofs.laws.a_word_of_the_frame_is_read_and_written.Goals as goal

pub returns-clause-reads : goal.returns-clause-reads
returns-clause-reads c = load_sets

pub returns-clause-writes : goal.returns-clause-writes
returns-clause-writes c = store_saves
