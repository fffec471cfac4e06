-- The transcript of a run is that of a session.
use Rattle.std.proofs.Common.{◌≡◌, ◌≤◌, ℕ, Bool, List, [], ◌∷◌, ◌++◌, length, map, refl, sym, ap}
use Rattle.std.proofs.Common.{◌∙◌, subst, arith, append_assoc, append-nil}
use Rattle.std.specs.Prelude.{filter}
use Rattle.std.specs.List.{All}
use Rattle.std.proofs.lemmas.List.{map-append}
use Rattle.std.proofs.lemmas.List.Elements.{All-head, All-tail, filter-append}
use Rattle.std.proofs.lemmas.List.Sums.{fold-append}
use Rattle.sg_paths.specs.Operations.{PlainOp}
use Rattle.index_core.specs.declared.limits.TheConstants.{MOST_OPERATIONS}
use Rattle.wire_json.specs.CommandForms.{IsRead}
use Rattle.sg_shell.specs.Transcripts.{Line, Said}
use Rattle.sg_shell.specs.Workers.{Worker, untouched, step}
use Rattle.sg_shell.specs.Runs.{Ran}
use Rattle.sg_shell.specs.Sessions.{wants_reply, NamedView, views_after, AllMayReply}
use Rattle.sg_shell.specs.RunLaws.{told}
use Rattle.sg_shell.specs.Working.{Holds}
use Rattle.sg_shell.proofs.GainLemmas.{IsCounted, gains-counted}
use Rattle.sg_shell.proofs.HoldingLemmas.{holds_step, holds_untouched}
use Rattle.sg_shell.proofs.SessionLemmas.{Follows, follows-nil}
use Rattle.sg_shell.proofs.FitLemmas.{names_after, Fits, fits}

-- the transcript of lines from a worker on
pub record Stands (w : Worker) (lines : List Line) (t : List Said) (w' : Worker) : Type 0 where
  pub names : map told w'.kept ≡ names_after (map told w.kept) t
  pub may : AllMayReply (map told w.kept) t
  pub more : List PlainOp
  pub journal : w'.seen.journal ≡ w.seen.journal ++ more
  pub follows : Follows w.seen.journal t more
  pub lines_told : map (λ e. e.line) t ≡ filter (λ l. wants_reply l.command) lines

may_append : (vs : List NamedView) (es fs : List Said) → AllMayReply vs es
    → AllMayReply (names_after vs es) fs → AllMayReply vs (es ++ fs)
may_append vs [] fs here later = later
may_append vs (e ∷ es) fs here later =
    (here.0, may_append (views_after vs e.reply) es fs here.1 later)

stands-nil : (w : Worker) → length w.seen.journal ≤ MOST_OPERATIONS → Stands w [] [] w
stands-nil w most = record {
  names = refl;
  may = tt;
  more = [];
  journal = sym (append-nil w.seen.journal);
  follows = follows-nil w.seen.journal most;
  lines_told = refl;
}

stands-cons : (caller : ℕ) (w w' : Worker) (line : Line) (lines : List Line)
    (said later : List Said) → Fits w line (step caller line.number line.command w) said
    → Stands (step caller line.number line.command w).after lines later w'
    → Stands w (line ∷ lines) (said ++ later) w'
stands-cons caller w w' line lines said later here there =
    let after = (step caller line.number line.command w).after in
    let wants : Line → Bool = λ l. wants_reply l.command in
    record {
      names = there.names
          ∙ ap (λ (vs : List NamedView). names_after vs later) here.names
          ∙ sym (fold-append (λ us e. views_after us e.reply) (map told w.kept) said later);
      may = may_append (map told w.kept) said later here.may
          (subst (λ (vs : List NamedView). AllMayReply vs later) here.names there.may);
      more = here.now ++ there.more;
      journal = there.journal
          ∙ ap (λ (ops : List PlainOp). ops ++ there.more) here.gains.journal
          ∙ append_assoc w.seen.journal here.now there.more;
      follows = here.follows later there.more
          (subst (λ (ops : List PlainOp). Follows ops later there.more) here.gains.journal
          there.follows);
      lines_told = map-append (λ (e : Said). e.line) said later
          ∙ ap (λ (ls : List Line). ls ++ map (λ e. e.line) later) here.lines
          ∙ ap (λ (ls : List Line). filter wants (line ∷ []) ++ ls) there.lines_told
          ∙ sym (filter-append wants (line ∷ []) lines);
    }

pub stands : (caller : ℕ) (lines : List Line) (t : List Said) (w w' : Worker) → Holds w
    → IsCounted w.seen → length w.seen.journal ≤ MOST_OPERATIONS
    → All (λ l. IsRead l.command) lines → Ran caller w lines t w' → Stands w lines t w'
stands caller [] t w w' holds counted most read ran =
    subst (λ (es : List Said). Stands w [] es w') (sym ran.0)
    (subst (Stands w [] []) (sym ran.1) (stands-nil w most))
stands caller (line ∷ lines) t w w' holds counted most read ran =
    let after = (step caller line.number line.command w).after in
    let here = fits caller line.number w holds counted line.command
    (All-head (λ l. IsRead l.command) line lines read) ran.0 ran.3 in
    let there = stands caller lines ran.1 after w'
    (holds_step caller line.number w holds line.command)
    (gains-counted here.now w.seen after.seen counted here.gains)
    (subst (λ (ops : List PlainOp). length ops ≤ MOST_OPERATIONS) (sym here.gains.journal)
    (here.most most))
    (All-tail (λ l. IsRead l.command) line lines read) ran.4 in
    subst (λ (es : List Said). Stands w (line ∷ lines) es w') (sym ran.2)
    (stands-cons caller w w' line lines ran.0 ran.1 here there)

pub names_kept : (caller : ℕ) (lines : List Line) (t : List Said) (w : Worker)
    → All (λ l. IsRead l.command) lines → Ran caller untouched lines t w
    → (map told w.kept ≡ names_after [] t) × AllMayReply [] t
names_kept caller lines t w read ran =
    let s = stands caller lines t untouched w holds_untouched refl (omega arith) read ran in
    (s.names, s.may)
