-- Views by number, and the view that parts are of. Source: Lucene's point-in-time readers.
use Rattle.std.specs.Prelude.{ℕ, not, nat_eq, List, filter}
use Rattle.segment.specs.Views.{PlainParts}
use Rattle.index_core.specs.Histories.{View}

-- the views with another number
abbrev pub without : ℕ → List View → List View
without number views = filter (λ v. not (nat_eq v.view number)) views

-- the view that the parts are of
abbrev pub view_of : ℕ → PlainParts → View
view_of caller parts =
    record {
      caller = caller;
      view = parts.number;
      upto = parts.upto;
      generations = parts.generations;
    }
