-- The store once an operation more is buffered, and once what is buffered is frozen.
use Rattle.std.proofs.Common.{◌≡◌, ℕ, ◌+◌, ◌<◌, ◌≤◌, Bool, true, false, nat_eq, List, [], ◌∷◌}
use Rattle.std.proofs.Common.{◌++◌, ◌||◌, length, drop, refl, sym, ◌∙◌, ap, subst, arith}
use Rattle.std.specs.Prelude.{if◌then◌else◌, nat_lt}
use Rattle.std.specs.List.{filter_map, AllByRecursion}
use Rattle.std.proofs.lemmas.Bool.Decides.{nat_tests}
use Rattle.std.proofs.lemmas.List.{append_assoc, append-nil, take-append-le, length-append, drop_at}
use Rattle.std.proofs.lemmas.List.Elements.{filter_map-append}
use Rattle.std.proofs.lemmas.List.Folds.{list_any-append}
use Rattle.std.proofs.lemmas.Grind.{flat_map-append}
use Rattle.sg_paths.specs.Operations.{PlainOp, PlainBatch}
use Rattle.segment.specs.Pieces.{PlainPiece}
use Rattle.index_holds.specs.Holders.{with_current}
use Rattle.index_core.specs.declared.limits.TheConstants.{MOST_OPERATIONS, BATCH_OPERATIONS}
use Rattle.index_core.specs.Histories.{accept, freeze, Record, accepted, frozen, frozen_upto, drawn}
use Rattle.index_core.specs.Histories.{drawn_generation, built_generation, is_among, current}
use Rattle.index_core.specs.Records.{with_event, buffered, next_generation}
use Rattle.index_core.specs.HeldEvents.{AreDrawn}
use Rattle.index_core.specs.LegalHistories.{IsLegalNext}
use Rattle.index_core.specs.Calls.{with_operation, after_accept, after_freeze}
use Rattle.index_core.specs.Keeping.{IsPlain, AreCurrent, buffered_piece}
use Rattle.index_core.specs.Fields.{Stored, record_of, AreFields, AreHeld, IsKept}
use Rattle.index_core.specs.Slots.{AreBatchesFrom}
use Rattle.index_core.specs.Slots.{batched}
use Rattle.index_core.specs.Fields.{accepting, accepting_one, freezing, next_batch, next_piece}
use Rattle.index_core.proofs.ListLemmas.{all_weaker, all_more}
use Rattle.index_core.proofs.HistoryLemmas.{skips, accepted-skip, accepted-more, frozen-skip}
use Rattle.index_core.proofs.HistoryLemmas.{frozen-more}
use Rattle.index_core.proofs.EventLemmas.{current-skip}
use Rattle.index_core.proofs.HeldEventLemmas.{current-freeze, undrawn_not_replaced}
use Rattle.index_core.proofs.KnownMergeLemmas.{known}
use Rattle.index_core.proofs.MergesLemmas.{merges_quiet}
use Rattle.index_core.proofs.OnceLemmas.{one_accept, one_freeze}
use Rattle.index_core.proofs.LegalLemmas.{AreLegal, are_legal, legal_more}
use Rattle.index_core.proofs.AcceptLemmas.{are_within, accept_keeps}
use Rattle.index_core.proofs.FreezeLemmas.{freeze_keeps}
use Rattle.index_core.proofs.KeptLemmas.{counted, buffered_is, IsNear, near, kept_near, Leaves}
use Rattle.index_core.proofs.KeptLemmas.{same_views, same_lists, quiet_accept}
use Rattle.index_core.proofs.HeldLemmas.{held_quiet, held_freeze, undrawn}

-- what is among numbers is among them with one more
pub among_front : (n x : ℕ) (ns : List ℕ) → is_among n ns ≡ true → is_among n (ns ++ x ∷ []) ≡ true
among_front n x ns there =
    list_any-append (nat_eq n) ns (x ∷ [])
    ∙ ap (λ (b : Bool). b || is_among n (x ∷ [])) there

-- ---- one operation more

fields_accept : (k : Stored) (caller : ℕ) (operation : PlainOp)
    → AreFields k → k.frozen_count + length k.buffer < MOST_OPERATIONS
    → length k.history + 1 + k.open_count + k.lists.merges_open ≤ k.places
    → AreFields (accepting caller operation k)
fields_accept k caller operation fields room enough =
    let event = accept caller (k.frozen_count + length k.buffer + 1) in
    record {
      numbered = fields.numbered;
      frozen_upto_last = frozen-skip k.history event refl ∙ fields.frozen_upto_last;
      frozen_operations = fields.frozen_operations;
      drawn_generations = ap (λ (gs : List ℕ). length gs)
          (skips drawn_generation k.history event refl) ∙ fields.drawn_generations;
      most_operations = omega (arith, room, length-append k.buffer (operation ∷ []));
      views = same_views fields.views event refl refl;
      own_lists = same_lists fields.own_lists event refl refl (λ n. refl) refl;
      room = omega (arith, enough, length-append k.history (event ∷ []));
    }

added_is : (k : Stored) (caller : ℕ) (operation : PlainOp) → IsKept k
    → with_operation caller operation (record_of k) ≡ record_of (accepting caller operation k)
added_is k caller operation kept =
    let count = counted k kept.legal.numbered kept.fields in
    let later = append_assoc (batched k.batches) k.buffer (operation ∷ []) in
    rw count (rw later refl)

pub plain_accept : (r : Record) (caller : ℕ) (operation : PlainOp) → IsPlain r
    → length r.journal + 1 ≤ MOST_OPERATIONS → IsPlain (with_operation caller operation r)
plain_accept r caller operation plain room =
    let event = accept caller (accepted r.history + 1) in
    let r' = with_operation caller operation r in
    let frozen-same : frozen (r.history ++ event ∷ []) ≡ frozen r.history =
    frozen-skip r.history event refl in
    let current-same : current (r.history ++ event ∷ []) ≡ current r.history =
    current-skip r.history event (λ n. refl) refl refl in
    let long : length (r.journal ++ operation ∷ []) ≡ length r.journal + 1 =
    length-append r.journal (operation ∷ []) in
    let same : drawn (r.history ++ event ∷ []) ≡ drawn r.history =
    skips drawn_generation r.history event refl in
    record {
      numbered = omega (
        arith,
        long,
        plain.numbered,
        accepted-more r.history caller (accepted r.history + 1),
      );
      merges = merges_quiet r event r'.journal plain.merges (λ n. refl) refl
          (omega (arith, frozen-same)) (λ g there. ap (is_among g) current-same ∙ there)
          (one_accept r caller operation (are_within r plain) plain.merges.once);
      frozen_before = rw (frozen-same, skips frozen_upto r.history event refl)
          plain.frozen_before;
      frozen_within = omega (arith, frozen-same, plain.frozen_within, long);
      drawn_before = rw same plain.drawn_before;
      built_before = rw same (rw (skips built_generation r.history event refl) plain.built_before);
      most = omega (arith, long, room);
    }

pub near_accept : {k : Stored} → IsKept k → (caller : ℕ) (operation : PlainOp)
    → k.frozen_count + length k.buffer < MOST_OPERATIONS
    → length k.history + 1 + k.open_count + k.lists.merges_open ≤ k.places
    → IsNear (accepting caller operation k)
near_accept {k} kept caller operation room enough =
    let r = record_of k in
    let r' = with_operation caller operation r in
    let event = accept caller (accepted r.history + 1) in
    let count = counted k kept.legal.numbered kept.fields in
    let next : IsLegalNext r event = record {
      line = (refl, omega (arith, count, room));
      freezes_when_full = λ full. absurd (omega (arith, full, kept.legal.not_full));
    } in
    let legal : AreLegal r' = legal_more r event (r.journal ++ operation ∷ [])
    (are_legal r kept.legal) next
    (λ n within. take-append-le n r.journal (operation ∷ []) within)
    (rw (accepted-more k.history caller (accepted r.history + 1))
    (omega (arith, length-append r.journal (operation ∷ []), kept.legal.numbered))) in
    let is = added_is k caller operation kept in
    record {
      legal = subst AreLegal is legal;
      fields = fields_accept k caller operation kept.fields room enough;
      plain = subst IsPlain is (plain_accept r caller operation kept.plain
          (omega (arith, count, kept.legal.numbered, room)));
      pieces = subst (λ (x : Record). AreCurrent x k.pieces) is
          (accept_keeps r kept.plain caller operation k.pieces kept.pieces);
      held = subst (λ (x : Record). AreHeld x k.held) is
          (held_quiet r event (r.journal ++ operation ∷ []) k.held
          (quiet_accept caller (accepted r.history + 1)) kept.held);
      few_buffered = omega (
        arith,
        length-append k.buffer (operation ∷ []),
        buffered_is k kept.legal.numbered kept.fields,
        kept.legal.not_full,
      );
    }

-- ---- what is buffered becomes a batch

batched-next : (k : Stored) (bs : List PlainBatch)
    → batched (bs ++ next_batch k ∷ []) ≡ batched bs ++ k.buffer
batched-next k bs =
    flat_map-append (λ (b : PlainBatch). b.operations) bs (next_batch k ∷ [])
    ∙ ap (λ (more : List PlainOp). batched bs ++ more) (append-nil k.buffer)

numbered-next : (k : Stored) (n : ℕ) (bs : List PlainBatch) → AreBatchesFrom n bs
    → n + length (batched bs) ≡ k.frozen_count + 1
    → AreBatchesFrom n (bs ++ next_batch k ∷ [])
numbered-next k n [] numbered is = (omega (arith, is), omega (arith, is), tt)
numbered-next k n (b ∷ bs) numbered is = (
  numbered.0,
  numbered.1,
  numbered-next k (n + length b.operations) bs numbered.2
      (omega (arith, is, length-append b.operations (batched bs))),
)

same_journal : (k : Stored) (caller : ℕ)
    → (record_of (freezing caller k)).journal ≡ (record_of k).journal
same_journal k caller =
    append-nil (batched (k.batches ++ next_batch k ∷ [])) ∙ batched-next k k.batches

-- the generation that a freeze draws
pub next_is : (k : Stored) → AreFields k → next_generation (record_of k) ≡ k.drawn_count + 1
next_is k fields = ap (λ (n : ℕ). n + 1) fields.drawn_generations

fields_freeze : (k : Stored) (caller : ℕ)
    → AreFields k → 0 < length k.buffer
    → length k.history + 1 + k.open_count + k.lists.merges_open ≤ k.places
    → AreFields (freezing caller k)
fields_freeze k caller fields some enough =
    let upto = k.frozen_count + length k.buffer in
    let event = freeze caller (k.drawn_count + 1) (k.frozen_count + 1) upto in
    let operations = ap (λ (ops : List PlainOp). length ops) (batched-next k k.batches) in
    record {
      numbered = numbered-next k 1 k.batches fields.numbered
          (omega (arith, fields.frozen_operations));
      frozen_upto_last = frozen-more k.history caller (k.drawn_count + 1) (k.frozen_count + 1) upto;
      frozen_operations = omega (
        arith,
        operations,
        fields.frozen_operations,
        length-append (batched k.batches) k.buffer,
      );
      drawn_generations =
          ap (λ (gs : List ℕ). length gs)
          (filter_map-append drawn_generation k.history (event ∷ []))
          ∙ length-append (drawn k.history) ((k.drawn_count + 1) ∷ [])
          ∙ ap (λ (n : ℕ). n + 1) fields.drawn_generations;
      most_operations = omega (arith, fields.most_operations);
      views = same_views fields.views event refl refl;
      own_lists = same_lists fields.own_lists event refl refl (λ n. refl) refl;
      room = omega (arith, enough, length-append k.history (event ∷ []));
    }

-- the definition's batch is that one
frozen_is : (k : Stored) (caller : ℕ)
    → length (record_of k).journal ≡ accepted k.history → AreFields k
    → with_event (record_of k)
    (freeze caller (next_generation (record_of k)) (frozen k.history + 1) (accepted k.history))
    ≡ record_of (freezing caller k)
frozen_is k caller numbered fields =
    let generation = next_is k fields in
    let last = fields.frozen_upto_last in
    let upto = counted k numbered fields in
    let journal = same_journal k caller in
    rw generation (rw last (rw upto (rw journal refl)))

-- and the piece
piece_is : (k : Stored) → length (record_of k).journal ≡ accepted k.history → AreFields k
    → buffered_piece (record_of k) ≡ next_piece k
piece_is k numbered fields =
    let generation = next_is k fields in
    let last = fields.frozen_upto_last in
    let upto : length (batched k.batches ++ k.buffer) ≡ k.frozen_count + length k.buffer =
    numbered ∙ counted k numbered fields in
    let operations : drop k.frozen_count (batched k.batches ++ k.buffer) ≡ k.buffer =
    drop_at (batched k.batches) k.buffer k.frozen_count fields.frozen_operations in
    rw (generation, last, upto, operations) refl

pub plain_freeze : (r : Record) (caller : ℕ) → IsPlain r → AreDrawn r
    → IsPlain (with_event r (freeze caller (next_generation r) (frozen r.history + 1)
    (accepted r.history)))
plain_freeze r caller plain were =
    let g : ℕ = next_generation r in
    let event = freeze caller g (frozen r.history + 1) (accepted r.history) in
    let frozen-is : frozen (r.history ++ event ∷ []) ≡ accepted r.history =
    frozen-more r.history caller g (frozen r.history + 1) (accepted r.history) in
    let later : frozen r.history ≤ accepted r.history =
    omega (arith, plain.frozen_within, plain.numbered) in
    let current-is : current (r.history ++ event ∷ []) ≡ current r.history ++ g ∷ [] =
    current-freeze r caller g (frozen r.history + 1) (accepted r.history)
    (undrawn_not_replaced r were g (undrawn g (drawn r.history) plain.drawn_before)) in
    let drawn-is : drawn (r.history ++ event ∷ []) ≡ drawn r.history ++ g ∷ [] =
    filter_map-append drawn_generation r.history (event ∷ []) in
    let next : next_generation (with_event r event) ≡ g + 1 =
    ap (λ (gs : List ℕ). length gs + 1) drawn-is
    ∙ omega (arith, length-append (drawn r.history) (g ∷ [])) in
    record {
      numbered = plain.numbered ∙ sym (accepted-skip r.history event refl);
      merges = merges_quiet r event r.journal plain.merges (λ n. refl) refl
          (omega (arith, frozen-is, later))
          (λ x there. ap (is_among x) current-is ∙ among_front x g (current r.history) there)
          (one_freeze r caller g (known r plain.merges) were plain.drawn_before
          plain.frozen_before (accepted r.history) plain.merges.once);
      frozen_before = rw (frozen-is, filter_map-append frozen_upto r.history (event ∷ []))
          (all_more (λ n. n ≤ accepted r.history) (filter_map frozen_upto r.history)
          (accepted r.history)
          (all_weaker (λ n. n ≤ frozen r.history) (λ n. n ≤ accepted r.history)
          (λ n below. omega (arith, below, later)) (filter_map frozen_upto r.history)
          plain.frozen_before) (omega arith));
      frozen_within = omega (arith, frozen-is, plain.numbered);
      drawn_before = subst (λ (n : ℕ). AllByRecursion (λ x. x < n)
          (drawn (r.history ++ event ∷ []))) (sym next)
          (subst (AllByRecursion (λ x. x < g + 1)) (sym drawn-is)
          (all_more (λ x. x < g + 1) (drawn r.history) g
          (all_weaker (λ x. x < g) (λ x. x < g + 1) (λ x below. omega (arith, below))
          (drawn r.history) plain.drawn_before) (omega arith)));
      built_before = subst (λ (n : ℕ). AllByRecursion (λ x. x < n)
          (filter_map built_generation (r.history ++ event ∷ []))) (sym next)
          (subst (AllByRecursion (λ x. x < g + 1))
          (sym (skips built_generation r.history event refl))
          (all_weaker (λ x. x < g) (λ x. x < g + 1) (λ x below. omega (arith, below))
          (filter_map built_generation r.history) plain.built_before));
      most = plain.most;
    }

pub kept_freeze : {k : Stored} → IsNear k → (caller : ℕ) → 0 < length k.buffer
    → length k.history + 1 + k.open_count + k.lists.merges_open ≤ k.places
    → IsKept (freezing caller k)
kept_freeze {k} is caller some enough =
    let r = record_of k in
    let fields = is.fields in
    let numbered = is.legal.numbered in
    let count = counted k numbered fields in
    let event = freeze caller (next_generation r) (frozen k.history + 1) (accepted k.history) in
    let next : IsLegalNext r event = record {
      line = (refl, refl, refl, omega (arith, count, fields.frozen_upto_last, some));
      freezes_when_full = λ full. refl;
    } in
    let legal : AreLegal (with_event r event) =
    legal_more r event r.journal is.legal next (λ n within. refl)
    (rw (accepted-skip k.history event refl) numbered) in
    let is-it = frozen_is k caller numbered fields in
    let current : AreCurrent (with_event r event) (k.pieces ++ buffered_piece r ∷ []) =
    subst (λ (u : ℕ). AreCurrent (with_event r (freeze caller (next_generation r)
    (frozen k.history + 1) u)) (k.pieces ++ buffered_piece r ∷ [])) numbered
    (freeze_keeps r is.plain is.held.drawn_before caller
    (omega (arith, numbered, count, fields.frozen_upto_last, some))
    (omega (arith, numbered, count, fields.frozen_upto_last, is.few_buffered))
    k.pieces is.pieces) in
    kept_near (record {
      legal = subst AreLegal is-it legal;
      fields = fields_freeze k caller fields some enough;
      plain = subst IsPlain is-it (plain_freeze r caller is.plain is.held.drawn_before);
      pieces = subst (λ (x : Record). AreCurrent x (k.pieces ++ next_piece k ∷ [])) is-it
          (subst (λ (p : PlainPiece). AreCurrent (with_event r event) (k.pieces ++ p ∷ []))
          (piece_is k numbered fields) current);
      held = subst (λ (x : Record). AreHeld x (with_current (k.drawn_count + 1) k.held)) is-it
          (subst (λ (g : ℕ). AreHeld (with_event r event) (with_current g k.held))
          (next_is k fields)
          (held_freeze r caller (next_generation r) (frozen k.history + 1) (accepted k.history)
          k.held is.plain.drawn_before is.held).1);
      few_buffered = omega arith;
    }) (omega arith)

pub after_freeze-is : {k : Stored} → IsNear k → (caller : ℕ) → 0 < length k.buffer
    → record_of (freezing caller k) ≡ after_freeze caller (record_of k)
after_freeze-is {k} is caller some =
    let count = buffered_is k is.legal.numbered is.fields in
    let test : nat_eq (buffered (record_of k)) 0 ≡ false = grind (arith, count, some) in
    rw test (sym (frozen_is k caller is.legal.numbered is.fields))

-- ---- what the calls leave

-- a full buffer is frozen
abbrev settled : ℕ → Record → Record
settled caller r = if nat_eq (buffered r) BATCH_OPERATIONS then after_freeze caller r else r

pub freezes : {k : Stored} → IsKept k → (caller : ℕ) → 0 < length k.buffer
    → length k.history + 1 + k.open_count + k.lists.merges_open ≤ k.places
    → Leaves (freezing caller k) (after_freeze caller (record_of k))
freezes {k} kept caller some enough = record {
  kept = kept_freeze (near kept) caller some enough;
  record_is = after_freeze-is (near kept) caller some;
}

pub accepts : {k : Stored} → IsKept k → (caller : ℕ) (operation : PlainOp)
    → k.frozen_count + length k.buffer < MOST_OPERATIONS
    → length k.history + 2 + k.open_count + k.lists.merges_open ≤ k.places
    → Leaves (accepting_one caller operation k) (after_accept caller operation (record_of k))
accepts {k} kept caller operation room enough =
    let k' = accepting caller operation k in
    let is = near_accept kept caller operation room (omega (arith, enough)) in
    let more = length-append k.buffer (operation ∷ []) in
    let longer = length-append k.history
    (accept caller (k.frozen_count + length k.buffer + 1) ∷ []) in
    let count = buffered_is k' is.legal.numbered is.fields in
    let added = ap (settled caller) (added_is k caller operation kept) in
    by_cases is more longer count added (nat_lt (length k.buffer + 1) BATCH_OPERATIONS) refl
  where
    k1 : Stored
    k1 = accepting caller operation k

    by_cases : IsNear k1
        → length k1.buffer ≡ length k.buffer + 1 → length k1.history ≡ length k.history + 1
        → buffered (record_of k1) ≡ length k1.buffer
        → after_accept caller operation (record_of k) ≡ settled caller (record_of k1)
        → (b : Bool) → nat_lt (length k.buffer + 1) BATCH_OPERATIONS ≡ b
        → Leaves (if b then k1 else freezing caller k1)
        (after_accept caller operation (record_of k))
    by_cases is more longer count added true less =
        let below : length k1.buffer < BATCH_OPERATIONS = grind (arith, nat_tests, less, more) in
        let test : nat_eq (buffered (record_of k1)) BATCH_OPERATIONS ≡ false =
        grind (arith, count, below) in
        record {
          kept = kept_near is below;
          record_is = sym (added ∙ rw test refl);
        }
    by_cases is more longer count added false less =
        let over : BATCH_OPERATIONS ≤ length k1.buffer = grind (arith, nat_tests, less, more) in
        let full : buffered (record_of k1) ≡ BATCH_OPERATIONS =
        omega (arith, count, over, is.few_buffered) in
        let some : 0 < length k1.buffer = omega (arith, more) in
        let test : nat_eq (buffered (record_of k1)) BATCH_OPERATIONS ≡ true = rw full refl in
        record {
          kept = kept_freeze is caller some (omega (arith, enough, longer));
          record_is = after_freeze-is is caller some ∙ sym (added ∙ rw test refl);
        }
