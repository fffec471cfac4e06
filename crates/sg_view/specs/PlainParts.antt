-- What a search sees of a segment. Source: this project's own.
use Rattle.std.specs.Prelude.{List}
use Rattle.sg_base.specs.declared.node.Edge.{Edge}
use Rattle.sg_paths.specs.Operations.{PlainNumbered}
use Rattle.fst_code.specs.Lists.{root_paths}
use Rattle.fst_walk.specs.Starts.{AllHaveContexts}
use Rattle.best_first.specs.Parts.{AreDocuments, IsMapping}

-- the documents of a segment, and the nodes of its transducer
pub record PlainSegment : Type 0 where
  pub documents : List PlainNumbered
  pub nodes : List (List Edge)

-- the transducer maps the paths of the documents, each of which begins with a context
pub record IsSegment (ds : List PlainNumbered) (nodes : List (List Edge)) : Type 0 where
  pub documents : AreDocuments ds
  pub mapping : IsMapping nodes ds
  pub contexts : AllHaveContexts (root_paths nodes)
