-- What the program knows of its worker from line to line, and what a call of the index leaves. No
-- public clause cites this module.
use Rattle.std.specs.Prelude.{◌≡◌, ◌≤◌, ◌<◌, ⊤, ℕ, false, nat_eq, bytes_eq, List, [], ◌∷◌, length}
use Rattle.std.specs.Prelude.{map, Option, Some, None, Contains}
use Rattle.std.specs.List.{AllByRecursion, filter_map}
use Rattle.sg_base.specs.declared.hit.Hit.{Hit}
use Rattle.sg_answers.specs.declared.limits.TheConstants.{MOST_QUEUED}
use Rattle.index_core.specs.declared.limits.TheConstants.{MOST_OPEN_VIEWS}
use Rattle.index_core.specs.Histories.{HistoryEvent, Record, View, ended_view}
use Rattle.index_core.specs.Histories.{begun_views, open_views}
use Rattle.index_core.specs.HeldGenerations.{WereDrawn}
use Rattle.index_core.specs.LegalHistories.{IsLegal}
use Rattle.index_core.specs.Calls.{after_begin, begun_by}
use Rattle.index_shared.specs.OwnViews.{view_in}
use Rattle.index_shared.specs.Sections.{Extends}
use Rattle.index_single.specs.declared.caller.TheConstants.{CALLER}
use Rattle.sg_view.specs.Viewing.{LiveSegment, PlainView, viewed_segments}
use Rattle.sg_view.specs.Rows.{hit_document, hit_suggestion}
use Rattle.wire_replies.specs.Replies.{Reply, reply_text}
use Rattle.wire_replies.specs.Rows.{Row}
use Rattle.sg_shell.specs.Workers.{Open, Worker, Expected, prints, reports, Step}
use Rattle.sg_shell.specs.Runs.{segments_seen, Meets}
use Rattle.sg_shell.specs.Viewed.{IsViewIn}

-- ---- open views

-- the same views were begun and ended
pub record Quiet (r s : Record) : Type 0 where
  pub begun : begun_views s.history ≡ begun_views r.history
  pub ended : filter_map ended_view s.history ≡ filter_map ended_view r.history

-- the open views of a history are these, and numbers count up
pub record Views (h : List HistoryEvent) (kept : List View) : Type 0 where
  pub are_open : open_views h ≡ kept
  pub ended : AllByRecursion (λ n. n ≤ length (begun_views h)) (filter_map ended_view h)
  pub below : AllByRecursion (λ v. v.view ≤ length (begun_views h)) kept

-- the views of named ones
abbrev pub views_of : List Open → List View
views_of kept = map (λ o. o.view) kept

-- another name and another number
abbrev pub IsApart : Open → Open → Type 0
IsApart o p = (bytes_eq p.name o.name ≡ false) × (nat_eq p.view.view o.view.view ≡ false)

-- each of the others
abbrev pub AreApart : List Open → Type 0
AreApart [] = Unit {0}
AreApart (o ∷ os) = AllByRecursion (IsApart o) os × AreApart os

-- the named views are the open ones, with names and numbers of their own, and not too many
pub record Holds (w : Worker) : Type 0 where
  pub views : Views w.seen.history (views_of w.kept)
  pub apart : AreApart w.kept
  pub few : length w.kept ≤ MOST_OPEN_VIEWS

-- ---- the program's worker

-- a built view under a name
pub record NamedBuilt : Type 0 where
  pub name : List ℕ
  pub view : PlainView

-- a named view as the worker of the definitions has it
abbrev pub open_of : NamedBuilt → Open
open_of o = record { name = o.name; view = view_in CALLER o.view }

-- the worker of the definitions
abbrev pub worker_of : Record → List NamedBuilt → Worker
worker_of r opened = record { seen = r; kept = map open_of opened }

-- a built view sees what the record says, of generations that were drawn
pub record IsShown (r : Record) (v : PlainView) : Type 0 where
  pub is_in : IsViewIn r (view_in CALLER v)
  pub sees : viewed_segments v ≡ segments_seen r (view_in CALLER v)
  pub drawn : WereDrawn r v.generations

-- the record is legal, the named views are the open ones, and each sees what the record says
pub record IsWorking (r : Record) (opened : List NamedBuilt) : Type 0 where
  pub legal : IsLegal r
  pub holds : Holds (worker_of r opened)
  pub shown : AllByRecursion (λ o. IsShown r o.view) opened

-- ---- what calls leave

-- the open views stay
abbrev pub KeepsOpen : Record → Record → Type 0
KeepsOpen r s = (kept : List View) → Views r.history kept → Views s.history kept

-- a legal record that continues another, so that all views stay, with the same ones open
pub record Passes (r s : Record) : Type 0 where
  pub legal : IsLegal s
  pub later : Extends r s
  pub open_stay : KeepsOpen r s

-- ---- replies

-- a report is over a view of the record, for at most as many rows as a queue holds
abbrev pub IsViewed : Expected → Type 0
IsViewed (prints p) = ⊤
IsViewed (reports r v query) = IsViewIn r v × (query.k ≤ MOST_QUEUED)

-- the reply is one that the step expects, and the worker is that after it
pub record Answers (line : ℕ) (s : Step) (reply : Reply) (after : Worker) : Type 0 where
  pub expected : Expected
  pub expects : s.expected ≡ Some expected
  pub meets : Meets line reply expected
  pub viewed : IsViewed expected
  pub after_is : s.after ≡ after

-- the same of a line that may print nothing
abbrev pub MayAnswer : ℕ → Step → Option Reply → Worker → Type 0
MayAnswer line s None after = (s.expected ≡ None) × (s.after ≡ after)
MayAnswer line s (Some reply) after = Answers line s reply after

-- a view was begun, or too many are open
abbrev pub Begins : Record → Record → Option PlainView → Type 0
Begins old new None = (MOST_OPEN_VIEWS ≤ length (open_views old.history)) × (new ≡ old)
Begins old new (Some v) =
    (length (open_views old.history) < MOST_OPEN_VIEWS) × (new ≡ after_begin CALLER old)
    × (view_in CALLER v ≡ begun_by CALLER old) × IsShown new v
    × Contains (open_views new.history) (view_in CALLER v)

-- a hit of a view as it is printed
abbrev pub hit_row : List LiveSegment → Hit → Row
hit_row segments h = record {
  id = (hit_document segments h).id;
  score = h.score;
  seq = h.seq;
  text = (hit_suggestion segments h).text;
}

-- the bytes of a reply, if there is one
abbrev pub printed : Option Reply → List ℕ
printed None = []
printed (Some reply) = reply_text reply
