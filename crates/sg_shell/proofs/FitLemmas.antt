-- What one line adds to a transcript fits: a reply that it may have, the named views afterwards,
-- the next number.
use Rattle.std.proofs.Common.{◌≡◌, ◌≤◌, ◌<◌, ◌+◌, ℕ, Bool, true, false, cond, List, [], ◌∷◌, ◌++◌}
use Rattle.std.proofs.Common.{length, map, suc, inl, inr, Option, Some, None, refl, sym, ap, ◌∙◌}
use Rattle.std.proofs.Common.{subst, arith, append-nil, add-zero, length-append}
use Rattle.std.specs.Prelude.{filter, fold, nat_le}
use Rattle.std.proofs.lemmas.Bool.Decides.{nat_tests}
use Rattle.std.proofs.lemmas.List.{map-append}
use Rattle.sg_base.specs.Cuts.{PlainCut}
use Rattle.sg_context.specs.Queries.{PlainQuery}
use Rattle.sg_paths.specs.Operations.{PlainOp}
use Rattle.index_core.specs.declared.limits.TheConstants.{MOST_OPERATIONS, MOST_OPEN_VIEWS}
use Rattle.index_core.specs.Histories.{Record, View}
use Rattle.index_core.specs.Records.{accepted}
use Rattle.index_core.specs.Calls.{after_accept, after_begin, after_end, begun_by}
use Rattle.index_core.specs.MergeCalls.{merge_begun_by}
use Rattle.index_shared.specs.Offers.{after_flush, built_by_flush}
use Rattle.wire_json.specs.Commands.{Command, blank, accepts, suggests, opens, closes, flushes}
use Rattle.wire_json.specs.Commands.{merges, barrier, refused}
use Rattle.wire_json.specs.CommandForms.{IsRead}
use Rattle.wire_replies.specs.Replies.{Reply, numbered, rows, opened, closed, built, merged, failed}
use Rattle.wire_replies.specs.Rows.{Row}
use Rattle.wire_replies.specs.declared.error_kind.ErrorKind.TheVariants.{Full, View as NoView}
use Rattle.wire_replies.specs.declared.error_kind.ErrorKind.TheVariants.{Views as NoRoom}
use Rattle.sg_shell.specs.Rows.{printed_rows}
use Rattle.sg_shell.specs.Transcripts.{Line, Said}
use Rattle.sg_shell.specs.Workers.{Open, Worker, with_seen, Step, says, reports, merged_count}
use Rattle.sg_shell.specs.Workers.{after_merge, named, without_name, accept_step, query_step}
use Rattle.sg_shell.specs.Workers.{named_step, open_step, close_step, step}
use Rattle.sg_shell.specs.Runs.{IsReportReply, Adds}
use Rattle.sg_shell.specs.Sessions.{wants_reply, NamedView, views_after, view_named, MayReply}
use Rattle.sg_shell.specs.Sessions.{MayAsk, MayOpen, MayClose, AllMayReply}
use Rattle.sg_shell.specs.RunLaws.{told}
use Rattle.sg_shell.proofs.GainLemmas.{IsCounted, Gains, gains-none, gains-then, gains-accept}
use Rattle.sg_shell.proofs.GainLemmas.{gains-freeze, gains-begin, gains-end, gains-flush}
use Rattle.sg_shell.proofs.HoldingLemmas.{begin_cases, open_count}
use Rattle.sg_shell.proofs.PlanLemmas.{few_merged, gains-merge}
use Rattle.sg_shell.specs.Working.{Holds}
use Rattle.sg_shell.proofs.NamingLemmas.{told_named, without_told}
use Rattle.sg_shell.proofs.SessionLemmas.{Follows, IsNext, follows-cons, next-numbered, next-none}
use Rattle.sg_shell.proofs.SessionLemmas.{next-begun}

-- the named views after lines
abbrev pub names_after : List NamedView → List Said → List NamedView
names_after vs said = fold (λ us e. views_after us e.reply) vs said

-- what a line adds fits
pub record Fits (w : Worker) (line : Line) (s : Step) (said : List Said) : Type 0 where
  pub names : map told s.after.kept ≡ names_after (map told w.kept) said
  pub may : AllMayReply (map told w.kept) said
  pub now : List PlainOp
  pub gains : Gains now w.seen s.after.seen
  pub most : length w.seen.journal ≤ MOST_OPERATIONS
      → length (w.seen.journal ++ now) ≤ MOST_OPERATIONS
  pub follows : (t : List Said) (more : List PlainOp) → Follows (w.seen.journal ++ now) t more
      → Follows w.seen.journal (said ++ t) (now ++ more)
  pub lines : map (λ e. e.line) said ≡ filter (λ l. wants_reply l.command) (line ∷ [])

-- a line that prints one reply
fits_one : (w : Worker) (line : Line) (s : Step) (p : Reply) (now : List PlainOp)
    → map told s.after.kept ≡ views_after (map told w.kept) p
    → MayReply (map told w.kept) line.command line.number p → Gains now w.seen s.after.seen
    → (length w.seen.journal ≤ MOST_OPERATIONS
    → length (w.seen.journal ++ now) ≤ MOST_OPERATIONS)
    → IsNext w.seen.journal (record { line = line; reply = p }) now
    → wants_reply line.command ≡ true → Fits w line s (record { line = line; reply = p } ∷ [])
fits_one w line s p now kept may gains most next wants = record {
  names = kept;
  may = (may, tt);
  now = now;
  gains = gains;
  most = most;
  follows = λ t more later. follows-cons w.seen.journal now more _ t next later;
  lines = rw wants refl;
}

-- what fits, whatever the line adds
abbrev pub AllFit : Worker → Line → Step → Type 0
AllFit w line s = (said : List Said) → Adds line s.expected said → Fits w line s said

none_more : (journal : List PlainOp) → length journal ≤ MOST_OPERATIONS
    → length (journal ++ []) ≤ MOST_OPERATIONS
none_more journal most = rw append-nil most

fits_said : (w : Worker) (line : Line) (p : Reply) (after : Worker) (now : List PlainOp)
    → map told after.kept ≡ views_after (map told w.kept) p
    → MayReply (map told w.kept) line.command line.number p → Gains now w.seen after.seen
    → (length w.seen.journal ≤ MOST_OPERATIONS
    → length (w.seen.journal ++ now) ≤ MOST_OPERATIONS)
    → IsNext w.seen.journal (record { line = line; reply = p }) now
    → wants_reply line.command ≡ true → AllFit w line (says p after)
fits_said w line p after now kept may gains most next wants said adds =
    let is : said ≡ record { line = line; reply = p } ∷ [] =
    adds.1 ∙ ap (λ (q : Reply). record { line = line; reply = q } ∷ []) adds.2 in
    subst (Fits w line (says p after)) (sym is)
    (fits_one w line (says p after) p now kept may gains most next wants)

-- and accepts nothing
fits_says : (w : Worker) (line : Line) (p : Reply) (after : Worker)
    → map told after.kept ≡ views_after (map told w.kept) p
    → MayReply (map told w.kept) line.command line.number p → Gains [] w.seen after.seen
    → IsNext w.seen.journal (record { line = line; reply = p }) []
    → wants_reply line.command ≡ true → AllFit w line (says p after)
fits_says w line p after kept may gains next wants =
    fits_said w line p after [] kept may gains (none_more w.seen.journal) next wants

-- a line that prints a report
fits_report : (w : Worker) (line : Line) (r : Record) (v : View) (query : PlainQuery)
    (after : Worker) → map told after.kept ≡ map told w.kept
    → ((rs : List Row) (cut : Option PlainCut)
    → MayReply (map told w.kept) line.command line.number (rows line.number v.upto rs cut))
    → Gains [] w.seen after.seen
    → ((rs : List Row) (cut : Option PlainCut) → IsNext w.seen.journal
    (record { line = line; reply = rows line.number v.upto rs cut }) [])
    → wants_reply line.command ≡ true
    → AllFit w line (record { expected = Some (reports r v query); after = after })
fits_report w line r v query after kept may gains next wants said adds =
    let report : IsReportReply line.number adds.0 r v query = adds.2 in
    let rs = printed_rows r.journal v.upto report.ranks in
    let p : Reply = rows line.number v.upto rs report.cut in
    let s : Step = record { expected = Some (reports r v query); after = after } in
    let is : said ≡ record { line = line; reply = p } ∷ [] =
    adds.1 ∙ ap (λ (q : Reply). record { line = line; reply = q } ∷ []) report.is in
    subst (Fits w line s) (sym is)
    (fits_one w line s p [] kept (may rs report.cut) gains (none_more w.seen.journal)
    (next rs report.cut) wants)

-- a line that prints nothing
fits_nothing : (w : Worker) (line : Line) → wants_reply line.command ≡ false
    → AllFit w line (record { expected = None; after = w })
fits_nothing w line wants said adds =
    let s : Step = record { expected = None; after = w } in
    subst (Fits w line s) (sym adds) (record {
      names = refl;
      may = tt;
      now = [];
      gains = gains-none w.seen;
      most = none_more w.seen.journal;
      follows = λ t more later.
          subst (λ (j : List PlainOp). Follows j t more) (append-nil w.seen.journal) later;
      lines = rw wants refl;
    })

length_told : (kept : List Open) → length (map told kept) ≡ length kept
length_told [] = refl
length_told (o ∷ os) = ap suc (length_told os)

module _ (caller n : ℕ) (w : Worker) (holds : Holds w) (counted : IsCounted w.seen) where
  abbrev at : Command → Line
  at c = record { number = n; command = c }

  abbrev vs : List NamedView
  vs = map told w.kept

  abbrev j : List PlainOp
  j = w.seen.journal

  abbrev r : Record
  r = after_flush caller w.seen

  -- a view that begins is of all operations
  begun_upto : (begun_by caller r).upto ≡ length j
  begun_upto =
      (gains-freeze caller r).counted ∙ add-zero (accepted r)
      ∙ (gains-flush caller w.seen).counted ∙ add-zero (accepted w.seen) ∙ counted

  -- an error of another kind than a full index
  next_failed : (c : Command) (p : Reply) → Rattle.sg_shell.specs.Sessions.number_printed p ≡ None
      → Rattle.sg_shell.specs.Sessions.upto_begun c p ≡ None
      → Rattle.sg_shell.specs.Sessions.numbered_operation (record { line = at c; reply = p })
      ≡ None
      → (Rattle.sg_shell.specs.Sessions.IsRefusedAsFull c n p → ⊥)
      → IsNext j (record { line = at c; reply = p }) []
  next_failed c p number view is not_full =
      next-none j (record { line = at c; reply = p }) number view is (λ so. absurd (not_full so))

  fits_accept : (lane : ℕ) (o : PlainOp) → AllFit w (at (accepts lane o)) (accept_step caller n o w)
  fits_accept lane o = by_test (nat_le MOST_OPERATIONS (accepted w.seen)) refl
    where
      by_test : (b : Bool) → nat_le MOST_OPERATIONS (accepted w.seen) ≡ b
          → AllFit w (at (accepts lane o)) (cond b (says (failed n Full) w)
          (says (numbered n (accepted w.seen + 1))
          (with_seen (after_accept caller o w.seen) w)))
      by_test true is =
          let full : MOST_OPERATIONS ≤ length j = grind (arith, nat_tests, counted, is) in
          fits_says w (at (accepts lane o)) (failed n Full) w refl (inr refl)
          (gains-none w.seen)
          (next-none j (record { line = at (accepts lane o); reply = failed n Full }) refl refl refl
          (λ so. full)) refl
      by_test false is =
          let room : length j < MOST_OPERATIONS = grind (arith, nat_tests, counted, is) in
          let next : accepted w.seen + 1 ≡ length j + 1 = ap (λ (k : ℕ). k + 1) counted in
          fits_said w (at (accepts lane o)) (numbered n (accepted w.seen + 1))
          (with_seen (after_accept caller o w.seen) w) (o ∷ []) refl
          (inl (accepted w.seen + 1, refl)) (gains-accept caller w.seen o)
          (λ most. omega (arith, length-append j (o ∷ []), room))
          (next-numbered j
          (record { line = at (accepts lane o); reply = numbered n (accepted w.seen + 1) }) o room
          (ap Some next) refl (ap (λ (k : ℕ). Some (k, o)) next)
          (λ so. (let no : numbered n (accepted w.seen + 1) ≡ failed n Full = so in cc))) refl

  -- as many views are open as the lines tell
  full_of : MOST_OPEN_VIEWS ≤ length (Rattle.index_core.specs.Records.open_views r)
      → length vs ≡ MOST_OPEN_VIEWS
  full_of full =
      let count = open_count caller w holds in
      let most = holds.few in
      let same = length_told w.kept in omega (arith, count, most, same, full)

  room_of : length (Rattle.index_core.specs.Records.open_views r) < MOST_OPEN_VIEWS
      → length vs < MOST_OPEN_VIEWS
  room_of room =
      let count = open_count caller w holds in
      let same = length_told w.kept in omega (arith, count, same, room)

  fits_query : (lane : ℕ) (q : PlainQuery)
      → AllFit w (at (suggests lane q None)) (query_step caller n q w)
  fits_query lane q =
      begin_cases (AllFit w (at (suggests lane q None))) n w r _
      (λ full. fits_says w (at (suggests lane q None)) (failed n NoRoom) (with_seen r w) refl
      (inr (full_of full, refl)) (gains-flush caller w.seen)
      (next_failed (suggests lane q None) (failed n NoRoom) refl refl refl (λ so. so)) refl)
      (λ room. fits_report w (at (suggests lane q None)) (after_begin caller r)
      (begun_by caller r) q
      (with_seen (after_end caller (begun_by caller r).view (after_begin caller r)) w) refl
      (λ rs cut. inl (room_of room, ((begun_by caller r).upto, (rs, cut, refl))))
      (gains-then [] w.seen (after_begin caller r) _
      (gains-then [] w.seen r _ (gains-flush caller w.seen) (gains-begin caller r))
      (gains-end caller (begun_by caller r).view (after_begin caller r)))
      (λ rs cut. next-begun j (record {
        line = at (suggests lane q None);
        reply = rows n (begun_by caller r).upto rs cut;
      }) refl (ap Some begun_upto) refl (λ so. so)) refl)

  fits_named : (lane : ℕ) (q : PlainQuery) (name : List ℕ) (o : Option Open)
      → named name w.kept ≡ o → AllFit w (at (suggests lane q (Some name))) (named_step n q o w)
  fits_named lane q name None is =
      fits_says w (at (suggests lane q (Some name))) (failed n NoView) w refl
      (rw (told_named name w.kept None is) refl) (gains-none w.seen)
      (next_failed (suggests lane q (Some name)) (failed n NoView) refl refl refl (λ so. so)) refl
  fits_named lane q name (Some o) is =
      fits_report w (at (suggests lane q (Some name))) w.seen o.view q w refl
      (λ rs cut. subst (λ (x : Option NamedView). MayAsk x n (rows n o.view.upto rs cut))
      (sym (told_named name w.kept (Some o) is)) (rs, cut, refl)) (gains-none w.seen)
      (λ rs cut. next_failed (suggests lane q (Some name)) (rows n o.view.upto rs cut) refl refl
      refl (λ so. so)) refl

  fits_open : (lane : ℕ) (name : List ℕ) (o : Option Open) → named name w.kept ≡ o
      → AllFit w (at (opens lane name)) (open_step caller n name o w)
  fits_open lane name (Some o) is =
      fits_says w (at (opens lane name)) (failed n NoView) w refl
      (subst (λ (x : Option NamedView). MayOpen vs name x n (failed n NoView))
      (sym (told_named name w.kept (Some o) is)) refl) (gains-none w.seen)
      (next_failed (opens lane name) (failed n NoView) refl refl refl (λ so. so)) refl
  fits_open lane name None is =
      let v = begun_by caller r in
      let new : Open = record { name = name; view = v } in
      let one : NamedView = record { name = name; upto = v.upto } in
      begin_cases (AllFit w (at (opens lane name))) n w r _
      (λ full. fits_says w (at (opens lane name)) (failed n NoRoom) (with_seen r w) refl
      (subst (λ (x : Option NamedView). MayOpen vs name x n (failed n NoRoom))
      (sym (told_named name w.kept None is)) (inr (full_of full, refl)))
      (gains-flush caller w.seen)
      (next_failed (opens lane name) (failed n NoRoom) refl refl refl (λ so. so)) refl)
      (λ room. fits_says w (at (opens lane name)) (opened n name v.upto)
      (record { seen = after_begin caller r; kept = w.kept ++ new ∷ [] })
      (map-append told w.kept (new ∷ []))
      (subst (λ (x : Option NamedView). MayOpen vs name x n (opened n name v.upto))
      (sym (told_named name w.kept None is)) (inl (room_of room, (v.upto, refl))))
      (gains-then [] w.seen r _ (gains-flush caller w.seen) (gains-begin caller r))
      (next-begun j (record { line = at (opens lane name); reply = opened n name v.upto }) refl
      (ap Some begun_upto) refl (λ so. so)) refl)

  fits_close : (lane : ℕ) (name : List ℕ) (o : Option Open) → named name w.kept ≡ o
      → AllFit w (at (closes lane name)) (close_step caller n name o w)
  fits_close lane name None is =
      fits_says w (at (closes lane name)) (failed n NoView) w refl
      (subst (λ (x : Option NamedView). MayClose name x n (failed n NoView))
      (sym (told_named name w.kept None is)) refl) (gains-none w.seen)
      (next_failed (closes lane name) (failed n NoView) refl refl refl (λ so. so)) refl
  fits_close lane name (Some o) is =
      fits_says w (at (closes lane name)) (closed n name)
      (record { seen = after_end caller o.view.view w.seen; kept = without_name name w.kept })
      (without_told name w.kept)
      (subst (λ (x : Option NamedView). MayClose name x n (closed n name))
      (sym (told_named name w.kept (Some o) is)) refl)
      (gains-end caller o.view.view w.seen)
      (next_failed (closes lane name) (closed n name) refl refl refl (λ so. so)) refl

  pub fits : (c : Command) → IsRead c → AllFit w (at c) (step caller n c w)
  fits blank read = fits_nothing w (at blank) refl
  fits (accepts lane o) read = fits_accept lane o
  fits (suggests lane q None) read = fits_query lane q
  fits (suggests lane q (Some name)) read = fits_named lane q name (named name w.kept) refl
  fits (opens lane name) read = fits_open lane name (named name w.kept) refl
  fits (closes lane name) read = fits_close lane name (named name w.kept) refl
  fits (flushes lane) read =
      fits_says w (at (flushes lane)) (built n (built_by_flush caller w.seen)) (with_seen r w) refl
      (built_by_flush caller w.seen, refl) (gains-flush caller w.seen)
      (next_failed (flushes lane) (built n (built_by_flush caller w.seen)) refl refl refl
      (λ so. so)) refl
  fits (merges lane) read =
      let count = merged_count (merge_begun_by caller w.seen) in
      fits_says w (at (merges lane)) (merged n count) (with_seen (after_merge caller w.seen) w) refl
      (count, refl, few_merged caller w.seen) (gains-merge caller w.seen)
      (next_failed (merges lane) (merged n count) refl refl refl (λ so. so)) refl
  fits barrier read = absurd read
  fits (refused kind) read =
      fits_says w (at (refused kind)) (failed n kind) w refl refl (gains-none w.seen)
      (next_failed (refused kind) (failed n kind) refl refl refl (λ so. so)) refl
