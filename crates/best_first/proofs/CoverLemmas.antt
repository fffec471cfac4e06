-- What it means that each matching path lies under one entry alone.
use Rattle.std.proofs.Common.{◌≡◌, true, false, nat_eq, List, [], sym, ◌∙◌, subst}
use Rattle.std.proofs.lemmas.Bool.{and_parts, and_from, eqb-true, eq-eqb, false_from_ne_true}
use Rattle.std.proofs.lemmas.Bool.{true_from_ne_false}
use Rattle.std.proofs.lemmas.List.{append-nil}
use Rattle.sg_base.specs.ByteStrings.{begins}
use Rattle.sg_base.specs.Lists.{In}
use Rattle.fst_walk.proofs.BeginLemmas.{begins_trans, begins-append}
use Rattle.path_desk.specs.Entries.{Queued}
use Rattle.path_desk.proofs.OrderLemmas.{entry_lt}
use Rattle.best_first.specs.Matches.{Match, covers, Best}
use Rattle.best_first.proofs.EntryLemmas.{tied_entries}

pub covers-start : (m : Match) (e : Queued) → covers m e ≡ true → e.entry.start ≡ m.start
covers-start m e h = eqb-true e.entry.start m.start
    (and_parts (nat_eq e.entry.start m.start) (begins e.bytes m.bytes) h).0

pub covers-bytes : (m : Match) (e : Queued) → covers m e ≡ true → begins e.bytes m.bytes ≡ true
covers-bytes m e h = (and_parts (nat_eq e.entry.start m.start) (begins e.bytes m.bytes) h).1

pub covers-of : (m : Match) (e : Queued) → e.entry.start ≡ m.start → begins e.bytes m.bytes ≡ true
    → covers m e ≡ true
covers-of m e s b = and_from (nat_eq e.entry.start m.start) (begins e.bytes m.bytes)
    (eq-eqb e.entry.start m.start s) b

-- an entry that begins another of its start lies over what the other lies over
pub covers-under : (m : Match) (a b : Queued) → a.entry.start ≡ b.entry.start
    → begins a.bytes b.bytes ≡ true → covers m b ≡ true → covers m a ≡ true
covers-under m a b s g h =
    covers-of m a (s ∙ covers-start m b h)
    (begins_trans a.bytes b.bytes m.bytes g (covers-bytes m b h))

-- of two entries with nothing in common neither begins the other
pub not_begun : (all : List Match) (a b : Queued) → Best all b
    → ((m : Match) → In m all → covers m a ≡ true → covers m b ≡ true → ⊥)
    → a.entry.start ≡ b.entry.start → begins a.bytes b.bytes ≡ false
not_begun all a b best apart s =
    false_from_ne_true (begins a.bytes b.bytes)
    (λ g. apart best.met.0 best.met.1 (covers-under best.met.0 a b s g best.met.2) best.met.2)

-- and one of them stands before the other
pub strictly : (all : List Match) (x y : Queued) → Best all y
    → ((m : Match) → In m all → covers m x ≡ true → covers m y ≡ true → ⊥)
    → entry_lt y x ≡ false → entry_lt x y ≡ true
strictly all x y best apart h =
    true_from_ne_false (entry_lt x y) (λ k.
    let same = tied_entries x y k h in
    let g : begins x.bytes y.bytes ≡ true =
    subst (λ z. begins x.bytes z ≡ true) (append-nil x.bytes ∙ same.1)
    (begins-append x.bytes []) in
    let none : begins x.bytes y.bytes ≡ false = not_begun all x y best apart same.0 in
    let no : true ≡ false = sym g ∙ none in cc)
