-- Later records: one after another, and that a generation holds what it held.
use Rattle.std.proofs.Common.{◌≡◌, ℕ, true, List, [], ◌∷◌, ◌++◌, length, take, refl, sym, ap, ◌∙◌}
use Rattle.std.proofs.Common.{arith, length-append}
use Rattle.std.specs.List.{flat_map}
use Rattle.std.proofs.Math.Seq.{take-append_seam}
use Rattle.std.proofs.lemmas.List.{append-nil, append_assoc}
use Rattle.sg_paths.specs.Operations.{PlainOp, PlainNumbered}
use Rattle.index_core.specs.Histories.{HistoryEvent, Record, is_among}
use Rattle.index_core.specs.Histories as events
use Rattle.index_core.specs.Records.{drawn}
use Rattle.index_core.specs.Generations.{documents_of}
use Rattle.index_core.specs.LegalHistories.{IsLegal, first_events}
use Rattle.index_core.specs.HeldGenerations.{WereDrawn}
use Rattle.index_core.proofs.SoundRecordLemmas.{generations_keep}
use Rattle.index_shared.specs.Sections.{Extends}

-- ---- chains

abbrev pub extends_same : (r : Record) → Extends r r
extends_same r = record {
  events = [];
  operations = [];
  history_is = sym (append-nil r.history);
  journal_is = sym (append-nil r.journal);
}

abbrev pub extends_on : (r s t : Record) → Extends r s → Extends s t → Extends r t
extends_on r s t p q = record {
  events = p.events ++ q.events;
  operations = p.operations ++ q.operations;
  history_is = q.history_is
      ∙ ap (λ (es : List HistoryEvent). es ++ q.events) p.history_is
      ∙ append_assoc r.history p.events q.events;
  journal_is = q.journal_is
      ∙ ap (λ (ops : List PlainOp). ops ++ q.operations) p.journal_is
      ∙ append_assoc r.journal p.operations q.operations;
}

-- ---- generations that were drawn hold what they held

-- the shorter record is that of the first events
is_first : (r later : Record) → IsLegal r → Extends r later
    → first_events (length r.history) later ≡ r
is_first r later legal more =
    let front : take (length r.history) later.history ≡ r.history =
    ap (λ (h : List HistoryEvent). take (length r.history) h) more.history_is
    ∙ take-append_seam r.history more.events in
    let ops : take (length r.journal) later.journal ≡ r.journal =
    ap (λ (ops : List PlainOp). take (length r.journal) ops) more.journal_is
    ∙ take-append_seam r.journal more.operations in
    ap (λ (h : List HistoryEvent). record {
      history = h;
      journal = take (events.accepted h) later.journal;
    }) front
    ∙ ap (λ (n : ℕ). record { history = r.history; journal = take n later.journal })
    (sym legal.numbered)
    ∙ ap (λ (ops : List PlainOp). record { history = r.history; journal = ops }) ops

pub still_holds : (r later : Record) → IsLegal r → IsLegal later → Extends r later → (g : ℕ)
    → is_among g (drawn r) ≡ true → documents_of later g ≡ documents_of r g
still_holds r later legal legal' more g there =
    let long = ap (λ (h : List HistoryEvent). length h) more.history_is in
    let sum = length-append r.history more.events in
    let first = is_first r later legal more in
    generations_keep later (length r.history) g legal' (omega (arith, long, sum))
    (ap (λ (x : Record). is_among g (drawn x)) first ∙ there)
    ∙ ap (λ (x : Record). documents_of x g) first

pub same_documents : (r later : Record) → IsLegal r → IsLegal later → Extends r later
    → (gs : List ℕ) → WereDrawn r gs
    → flat_map (documents_of later) gs ≡ flat_map (documents_of r) gs
same_documents r later legal legal' more [] were = refl
same_documents r later legal legal' more (g ∷ gs) were =
    ap (λ (ds : List PlainNumbered). ds ++ flat_map (documents_of later) gs)
    (still_holds r later legal legal' more g were.0)
    ∙ ap (λ (ds : List PlainNumbered). documents_of r g ++ ds)
    (same_documents r later legal legal' more gs were.1)
