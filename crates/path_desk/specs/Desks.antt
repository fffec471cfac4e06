-- A search workspace as plain data. Source: this project's own, after the bounded queue of Lucene's
-- TopNSearcher.
use Rattle.std.specs.Prelude.{ℕ, ◌+◌, ◌-◌, Bool, true, false, not, ◌&&◌, if◌then◌else◌, nat_lt}
use Rattle.std.specs.Prelude.{List, [], ◌∷◌, ◌++◌, length, Option, Some, None, slice_get}
use Rattle.std.specs.Ordering.{is_lt}
use Rattle.sg_base.specs.Ranking.{put_in}
use Rattle.sg_base.specs.Cuts.{PlainCut, Mark, mark_cmp}
use Rattle.path_desk.specs.declared.need.Need.{Need}
use Rattle.path_desk.specs.Entries.{Queued, entry_cmp, mark_of, key_part}
use Rattle.path_desk.specs.Lists.{kept_count}

-- what was reserved, the room, the queued entries in order, how many paths were reached, the path
-- being followed, the first in order of all dropped entries, and how many lists of hits are there
pub record PlainDesk : Type 0 where
  pub need : Need
  pub room : ℕ
  pub waiting : List Queued
  pub reached : ℕ
  pub followed : Option (List ℕ)
  pub dropped : Option Queued
  pub lists : ℕ

-- the paths that take room beside the queued ones
abbrev pub taken_room : ℕ → Option (List ℕ) → ℕ
taken_room reached None = reached
taken_room reached (Some path) = reached + 1

-- all but the last of x and what follows it
abbrev pub but_last : {X : Type 0} → X → List X → List X
but_last x [] = []
but_last x (y ∷ ys) = x ∷ but_last y ys

-- the last of x and what follows it
abbrev pub last_of : {X : Type 0} → X → List X → X
last_of x [] = x
last_of x (y ∷ ys) = last_of y ys

-- the first in order of an entry and one that there may be
abbrev pub first_of : Queued → Option Queued → Queued
first_of x None = x
first_of x (Some y) = if is_lt (entry_cmp y x) then y else x

-- the queued entries in order, and the first in order of all dropped ones
pub record PlainQueue : Type 0 where
  pub waiting : List Queued
  pub dropped : Option Queued

-- it is made of these
abbrev pub queue : List Queued → Option Queued → PlainQueue
queue waiting dropped = record { waiting = waiting; dropped = dropped }

-- the last of a queue is dropped
abbrev pub shed : List Queued → Option Queued → PlainQueue
shed [] dropped = queue [] dropped
shed (q ∷ qs) dropped = queue (but_last q qs) (Some (first_of (last_of q qs) dropped))

-- an entry is put in, and where there is no room for one more, the last in order is dropped
abbrev pub put_queued : Bool → Queued → PlainQueue → PlainQueue
put_queued has_room x q =
    let all = put_in entry_cmp x q.waiting in
    if has_room then queue all q.dropped else shed all q.dropped

-- whether one more entry fits
abbrev pub has_room : PlainDesk → Bool
has_room d = nat_lt (length d.waiting + taken_room d.reached d.followed) d.room

-- the desk with this queue
abbrev pub with_queue : PlainDesk → PlainQueue → PlainDesk
with_queue d q = record {
  need = d.need;
  room = d.room;
  waiting = q.waiting;
  reached = d.reached;
  followed = d.followed;
  dropped = q.dropped;
  lists = d.lists;
}

-- an entry is put in
abbrev pub put_entry : PlainDesk → Queued → PlainDesk
put_entry d x = with_queue d (put_queued (has_room d) x (queue d.waiting d.dropped))

-- a desk on which nothing is queued, reached, followed or dropped
abbrev pub cleared : PlainDesk → ℕ → PlainDesk
cleared d room = record {
  need = d.need;
  room = room;
  waiting = [];
  reached = 0;
  followed = None;
  dropped = None;
  lists = d.lists;
}

-- a path is followed, and these entries are left
abbrev pub following : PlainDesk → List Queued → List ℕ → PlainDesk
following d waiting path = record {
  need = d.need;
  room = d.room;
  waiting = waiting;
  reached = d.reached;
  followed = Some path;
  dropped = d.dropped;
  lists = d.lists;
}

-- the bytes of a path that may be followed
abbrev pub path_bytes : Option (List ℕ) → List ℕ
path_bytes None = []
path_bytes (Some path) = path

-- those of a desk
abbrev pub path_of : PlainDesk → List ℕ
path_of d = path_bytes d.followed

-- a label is added to the followed path
abbrev pub stepped : PlainDesk → ℕ → PlainDesk
stepped d label = following d d.waiting (path_of d ++ label ∷ [])

-- the followed path is reached
abbrev pub path_ended : PlainDesk → PlainDesk
path_ended d = record {
  need = d.need;
  room = d.room;
  waiting = d.waiting;
  reached = d.reached + 1;
  followed = None;
  dropped = d.dropped;
  lists = d.lists;
}

-- the desk with so many lists
abbrev pub with_lists : PlainDesk → ℕ → PlainDesk
with_lists d lists = record {
  need = d.need;
  room = d.room;
  waiting = d.waiting;
  reached = d.reached;
  followed = d.followed;
  dropped = d.dropped;
  lists = lists;
}

-- what is needed is reserved, and two lists are at the desk
abbrev pub reserved : PlainDesk → Need → PlainDesk
reserved d need = record {
  need = need;
  room = d.room;
  waiting = d.waiting;
  reached = d.reached;
  followed = d.followed;
  dropped = d.dropped;
  lists = 2;
}

-- a list of hits comes back: it is kept where there are fewer than two and it has the places that
-- were reserved
abbrev pub taken_back : PlainDesk → ℕ → PlainDesk
taken_back d places = with_lists d (kept_count d.lists d.need.k places)

-- a desk that nothing was done with
abbrev pub new_desk : PlainDesk
new_desk = record {
  need = record { room = 0; bytes = 0; k = 0 };
  room = 0;
  waiting = [];
  reached = 0;
  followed = None;
  dropped = None;
  lists = 0;
}

-- whether an entry that there may be has a greater score, and an answer where there is none
abbrev pub outscores : Bool → ℕ → Option Queued → Bool
outscores otherwise score None = otherwise
outscores otherwise score (Some q) = nat_lt score q.entry.score

-- whether the last queued entry, if there is one, and a dropped one have greater scores
abbrev pub is_outscored : PlainQueue → ℕ → Bool
is_outscored q score =
    outscores true score (slice_get q.waiting (length q.waiting - 1))
    && outscores false score q.dropped

-- whether an entry with this score would be dropped at once, behind one that was dropped before
abbrev pub is_behind : PlainDesk → ℕ → Bool
is_behind d score = not (has_room d) && is_outscored (queue d.waiting d.dropped) score

-- a mark stands before an entry that there may be
abbrev pub is_before : Mark → Option Queued → Bool
is_before m None = true
is_before m (Some q) = is_lt (mark_cmp m (mark_of q))

-- a row is settled: it stands before the first queued entry and the first dropped one
abbrev pub is_settled : PlainDesk → Mark → Bool
is_settled d m = is_before m (slice_get d.waiting 0) && is_before m d.dropped

-- the truncation point at an entry
abbrev pub cut_at : ℕ → ℕ → Queued → PlainCut
cut_at generation room q = record {
  score = q.entry.score;
  key = key_part q.bytes;
  generation = generation;
  room = room;
}
