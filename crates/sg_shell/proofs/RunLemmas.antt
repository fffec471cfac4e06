-- Runs of one worker: one line more, and what two of them have in common.
use Rattle.std.proofs.Common.{◌≡◌, ◌⊎◌, inl, inr, ℕ, List, [], ◌∷◌, ◌++◌, Option, Some, None, refl}
use Rattle.std.proofs.Common.{sym, ap, ◌∙◌, subst, append_assoc, append-nil}
use Rattle.std.specs.Prelude.{take, is_some}
use Rattle.sg_base.specs.Cuts.{PlainCut}
use Rattle.sg_base.specs.declared.rank.Rank.{Rank}
use Rattle.sg_context.specs.Queries.{PlainQuery}
use Rattle.sg_answers.specs.Answers.{answer}
use Rattle.sg_answers.specs.Reports.{live_in, IsSound}
use Rattle.index_core.specs.Histories.{Record, View}
use Rattle.wire_replies.specs.Replies.{Reply, rows}
use Rattle.sg_shell.specs.Rows.{printed_rows}
use Rattle.sg_shell.specs.Transcripts.{Line, Said}
use Rattle.sg_shell.specs.Workers.{Worker, Expected, prints, reports, step}
use Rattle.sg_shell.specs.Runs.{segments_seen, IsReportReply, Meets, Adds}
use Rattle.sg_shell.specs.RunLaws.{OneLineMore, IsTruncated, AllAlike, OnlyTruncatedRepliesDiffer}

-- ---- one line more

pub one_more : OneLineMore
one_more caller w [] t w' line said ran adds =
    let here = subst (λ (x : Worker).
    Adds line (step caller line.number line.command x).expected said) ran.1 adds in
    let after = ap (λ (x : Worker). (step caller line.number line.command x).after) ran.1 in (
      said,
      [],
      ap (λ (es : List Said). es ++ said) ran.0 ∙ sym (append-nil said),
      here,
      (refl, after),
    )
one_more caller w (l ∷ ls) t w' line said ran adds = (
  ran.0,
  ran.1 ++ said,
  ap (λ (es : List Said). es ++ said) ran.2 ∙ append_assoc ran.0 ran.1 said,
  ran.3,
  one_more caller (step caller l.number l.command w).after ls ran.1 w' line said ran.4 adds,
)

-- ---- two runs

alike_append : (es es' fs fs' : List Said) → AllAlike es fs → AllAlike es' fs'
    → AllAlike (es ++ es') (fs ++ fs')
alike_append [] es' [] fs' here there = there
alike_append [] es' (f ∷ fs) fs' here there = absurd here
alike_append (e ∷ es) es' [] fs' here there = absurd here
alike_append (e ∷ es) es' (f ∷ fs) fs' here there =
    (here.0, alike_append es es' fs fs' here.1 there)

-- two reports without a truncation point are one
reports_alike : (line : ℕ) (r : Record) (v : View) (query : PlainQuery) (a b : Reply)
    (p : IsReportReply line a r v query) (q : IsReportReply line b r v query)
    → (a ≡ b) ⊎ (IsTruncated a ⊎ IsTruncated b)
reports_alike line r v query a b p q = by_cuts p.cut q.cut refl refl
  where
    by_cuts : (c d : Option PlainCut) → p.cut ≡ c → q.cut ≡ d
        → (a ≡ b) ⊎ (IsTruncated a ⊎ IsTruncated b)
    by_cuts (Some c) d pc qd =
        inr (inl (subst IsTruncated (sym p.is) (ap is_some pc)))
    by_cuts None (Some d) pc qd =
        inr (inr (subst IsTruncated (sym q.is) (ap is_some qd)))
    by_cuts None None pc qd =
        let whole = take query.k (answer query (live_in (segments_seen r v))) in
        let first : p.ranks ≡ whole =
        subst (IsSound query (segments_seen r v) p.ranks) pc p.report.sound in
        let second : q.ranks ≡ whole =
        subst (IsSound query (segments_seen r v) q.ranks) qd q.report.sound in
        inl (p.is
        ∙ ap (λ (rs : List Rank). rows line v.upto (printed_rows r.journal v.upto rs) p.cut)
        (first ∙ sym second)
        ∙ ap (rows line v.upto (printed_rows r.journal v.upto q.ranks)) (pc ∙ sym qd)
        ∙ sym q.is)

meets_alike : (line : ℕ) (e : Expected) (a b : Reply) → Meets line a e → Meets line b e
    → (a ≡ b) ⊎ (IsTruncated a ⊎ IsTruncated b)
meets_alike line (prints p) a b h k = inl (h ∙ sym k)
meets_alike line (reports r v query) a b h k = reports_alike line r v query a b h k

adds_alike : (line : Line) (o : Option Expected) (es fs : List Said) → Adds line o es
    → Adds line o fs → AllAlike es fs
adds_alike line None es fs h k =
    subst (λ (x : List Said). AllAlike x fs) (sym h) (subst (AllAlike []) (sym k) tt)
adds_alike line (Some e) es fs h k =
    let one : AllAlike (record { line = line; reply = h.0 } ∷ [])
    (record { line = line; reply = k.0 } ∷ []) = (
      record { line = refl; reply = meets_alike line.number e h.0 k.0 h.2 k.2 },
      tt,
    ) in
    subst (λ (x : List Said). AllAlike x fs) (sym h.1)
    (subst (AllAlike (record { line = line; reply = h.0 } ∷ [])) (sym k.1) one)

pub alike : OnlyTruncatedRepliesDiffer
alike caller w [] t t' v v' p q = (
  subst (λ (x : List Said). AllAlike x t') (sym p.0) (subst (AllAlike []) (sym q.0) tt),
  p.1 ∙ sym q.1,
)
alike caller w (l ∷ ls) t t' v v' p q =
    let later = alike caller (step caller l.number l.command w).after ls p.1 q.1 v v' p.4 q.4 in
    let here = adds_alike l (step caller l.number l.command w).expected p.0 q.0 p.3 q.3 in (
      subst (λ (x : List Said). AllAlike x t') (sym p.2)
          (subst (AllAlike (p.0 ++ p.1)) (sym q.2)
          (alike_append p.0 p.1 q.0 q.1 here later.0)),
      later.1,
    )
