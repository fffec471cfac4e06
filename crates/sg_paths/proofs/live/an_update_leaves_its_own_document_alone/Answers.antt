-- The update deletes each earlier document with its id, and comes last.
use Rattle.sg_paths.proofs.LiveDocumentsLemmas.{leaves_its_own}
use Rattle.sg_paths.proofs.live.an_update_leaves_its_own_document_alone.Goals as goal

pub returns : goal.returns
returns c = leaves_its_own
