use Rattle.nx_sv32.proofs.Tables.{offset_kept, whole_page}
use Rattle.nx_sv32.proofs.laws.a_page_is_translated_as_a_whole.Goals as goal

pub returns-clause-offset : goal.returns-clause-offset
returns-clause-offset c = offset_kept

pub returns-clause-page : goal.returns-clause-page
returns-clause-page c = whole_page
