-- The run goes on line by line, and is a session in the end.
use Rattle.std.proofs.Common.{◌≡◌, ◌⊎◌, ◌+◌, ℕ, List, [], ◌∷◌, ◌++◌, length, Option, Some, None}
use Rattle.std.proofs.Common.{refl, sym, ap, ◌∙◌, subst, arith, append_assoc, append-nil, inl, inr}
use Rattle.std.specs.List.{AllByRecursion, All}
use Rattle.std.proofs.lemmas.Grind.{flat_map-append}
use Rattle.std.proofs.lemmas.List.Elements.{All-cons, All-nil}
use Rattle.sg_context.specs.Queries.{PlainQuery}
use Rattle.sg_paths.specs.Operations.{PlainOp}
use Rattle.index_core.specs.Histories.{Record, View}
use Rattle.index_core.specs.Calls.{after_begin, begun_by}
use Rattle.index_shared.specs.Offers.{after_flush}
use Rattle.index_single.specs.declared.caller.TheConstants.{CALLER}
use Rattle.wire_json.specs.Commands.{Command, blank, accepts, suggests, opens, closes, flushes}
use Rattle.wire_json.specs.Commands.{merges, barrier, refused, command_of}
use Rattle.wire_json.specs.CommandForms.{IsRead}
use Rattle.wire_replies.specs.Replies.{Reply, failed, reply_text}
use Rattle.wire_replies.specs.declared.error_kind.ErrorKind.TheVariants.{Views as NoRoom}
use Rattle.wire_replies.specs.declared.error_kind.ErrorKind.TheVariants.{View as NoView}
use Rattle.sg_shell.specs.Lines.{lines_of}
use Rattle.sg_shell.specs.Transcripts.{Line, Said, lines_from, input_lines, output, standard}
use Rattle.sg_shell.specs.Workers.{Open, Worker, untouched, Expected, prints, reports, Step}
use Rattle.sg_shell.specs.Workers.{named, named_step, query_step, step}
use Rattle.sg_shell.specs.Runs.{Meets, IsReportReply, Adds, Ran}
use Rattle.sg_shell.specs.Sessions.{IsAnswered, Session}
use Rattle.sg_shell.specs.Working.{Answers, MayAnswer, IsViewed, Holds, printed}
use Rattle.sg_shell.specs.declared.engine.TheConstants.{LANES}
use Rattle.sg_shell.proofs.GainLemmas.{gains-flush, gains-begin, gains-then}
use Rattle.sg_shell.proofs.HoldingLemmas.{begin_cases, holds_untouched}
use Rattle.sg_shell.proofs.ReportLemmas.{answers}
use Rattle.sg_shell.proofs.RunLemmas.{one_more}
use Rattle.sg_shell.proofs.RunSessionLemmas.{stands}
use Rattle.sg_shell.proofs.SessionLemmas.{at_most}

-- ---- a query's reply is an answer, whatever is accepted later

-- a line's reply is answered over a journal, and stays so
abbrev pub StaysAnswered : List PlainOp → Said → Type 0
StaysAnswered journal e =
    (more : List PlainOp) → IsAnswered (journal ++ more) e.line.command e.reply

-- what a step expects of a query, in words
abbrev ExpectsQuery : ℕ → PlainQuery → List PlainOp → Step → Type 0
ExpectsQuery line q journal s =
    ((kind : Rattle.wire_replies.specs.declared.error_kind.ErrorKind.ErrorKind)
    × (s.expected ≡ Some (prints (failed line kind))))
    ⊎ ((r : Record) × (v : View) × (s.expected ≡ Some (reports r v q)) × (r.journal ≡ journal))

query_expects : (n : ℕ) (q : PlainQuery) (w : Worker)
    → ExpectsQuery n q w.seen.journal (query_step CALLER n q w)
query_expects n q w =
    let r = after_flush CALLER w.seen in
    begin_cases (ExpectsQuery n q w.seen.journal) n w r _ (λ full. inl (NoRoom, refl))
    (λ room. inr (
      after_begin CALLER r,
      begun_by CALLER r,
      refl,
      (gains-then [] w.seen r _ (gains-flush CALLER w.seen) (gains-begin CALLER r)).journal
          ∙ append-nil w.seen.journal,
    ))

named_expects : (n : ℕ) (q : PlainQuery) (w : Worker) (o : Option Open)
    → ExpectsQuery n q w.seen.journal (named_step n q o w)
named_expects n q w None = inl (NoView, refl)
named_expects n q w (Some o) = inr (w.seen, o.view, refl, refl)

query_answered : (n lane : ℕ) (q : PlainQuery) (name : Option (List ℕ)) (w : Worker) (s : Step)
    (reply : Reply) (after : Worker) → ExpectsQuery n q w.seen.journal s → Answers n s reply after
    → (more : List PlainOp) → IsAnswered (w.seen.journal ++ more) (suggests lane q name) reply
query_answered n lane q name w s reply after (inl none) a more =
    let is : Some a.expected ≡ Some (prints (failed n none.0)) = sym a.expects ∙ none.1 in
    let same : a.expected ≡ prints (failed n none.0) = cc in
    let meets : reply ≡ failed n none.0 = subst (Meets n reply) same a.meets in
    subst (IsAnswered (w.seen.journal ++ more) (suggests lane q name)) (sym meets) tt
query_answered n lane q name w s reply after (inr some) a more =
    let r = some.0 in
    let v = some.1 in
    let is : Some a.expected ≡ Some (reports r v q) = sym a.expects ∙ some.2 in
    let same : a.expected ≡ reports r v q = cc in
    let meets : IsReportReply n reply r v q = subst (Meets n reply) same a.meets in
    let viewed = subst IsViewed same a.viewed in
    subst (λ (ops : List PlainOp). IsAnswered (ops ++ more) (suggests lane q name) reply) some.3
    (answers r v more n lane q name reply viewed.0 viewed.1 meets)

pub answered_step : (n : ℕ) (c : Command) (w : Worker) (reply : Reply) (after : Worker)
    → Answers n (step CALLER n c w) reply after → (more : List PlainOp)
    → IsAnswered (w.seen.journal ++ more) c reply
answered_step n (suggests lane q None) w reply after a =
    query_answered n lane q None w (query_step CALLER n q w) reply after (query_expects n q w) a
answered_step n (suggests lane q (Some name)) w reply after a =
    query_answered n lane q (Some name) w (named_step n q (named name w.kept) w) reply after
    (named_expects n q w (named name w.kept)) a
answered_step n blank w reply after a = λ more. tt
answered_step n (accepts lane o) w reply after a = λ more. tt
answered_step n (opens lane name) w reply after a = λ more. tt
answered_step n (closes lane name) w reply after a = λ more. tt
answered_step n (flushes lane) w reply after a = λ more. tt
answered_step n (merges lane) w reply after a = λ more. tt
answered_step n barrier w reply after a = λ more. tt
answered_step n (refused kind) w reply after a = λ more. tt

-- ---- line by line

-- the lines so far with their transcript, and those to come
pub record RanSoFar (input : List ℕ) (n : ℕ) (rest out : List ℕ) (w : Worker) : Type 0 where
  pub so_far : List Line
  pub transcript : List Said
  pub whole : input_lines input ≡ so_far ++ lines_from (n + 1) (lines_of rest)
  pub ran : Ran CALLER untouched so_far transcript w
  pub written : out ≡ output transcript
  pub answered : AllByRecursion (StaysAnswered w.seen.journal) transcript

pub ran-begin : (input : List ℕ) (w : Worker) → w ≡ untouched → RanSoFar input 0 input [] w
ran-begin input w is = record {
  so_far = [];
  transcript = [];
  whole = refl;
  ran = (refl, is);
  written = refl;
  answered = tt;
}

answered_later : (journal journal' now : List PlainOp) (t : List Said)
    → journal' ≡ journal ++ now → AllByRecursion (StaysAnswered journal) t
    → AllByRecursion (StaysAnswered journal') t
answered_later journal journal' now [] is all = tt
answered_later journal journal' now (e ∷ es) is all = (
  λ more. subst (λ (ops : List PlainOp). IsAnswered ops e.line.command e.reply)
      (sym (ap (λ (ops : List PlainOp). ops ++ more) is ∙ append_assoc journal now more))
      (all.0 (now ++ more)),
  answered_later journal journal' now es is all.1,
)

all_more : (P : Said → Type 0) (t : List Said) (e : Said) → AllByRecursion P t → P e
    → AllByRecursion P (t ++ e ∷ [])
all_more P [] e all last = (last, tt)
all_more P (f ∷ fs) e all last = (all.0, all_more P fs e all.1 last)

output-more : (t : List Said) (line : Line) (reply : Reply)
    → output (t ++ record { line = line; reply = reply } ∷ []) ≡ output t ++ reply_text reply
output-more t line reply =
    flat_map-append (λ (e : Said). reply_text e.reply) t
    (record { line = line; reply = reply } ∷ [])
    ∙ ap (λ (text : List ℕ). output t ++ text) (append-nil (reply_text reply))

whole-more : (whole so_far : List Line) (n : ℕ) (bytes line rest : List ℕ)
    → lines_of bytes ≡ line ∷ lines_of rest → whole ≡ so_far ++ lines_from (n + 1) (lines_of bytes)
    → whole ≡ (so_far ++ record { number = n + 1; command = command_of standard LANES line } ∷ [])
    ++ lines_from (n + 1 + 1) (lines_of rest)
whole-more whole so_far n bytes line rest split is =
    is ∙ ap (λ (ls : List (List ℕ)). so_far ++ lines_from (n + 1) ls) split
    ∙ sym (append_assoc so_far
    (record { number = n + 1; command = command_of standard LANES line } ∷ [])
    (lines_from (n + 1 + 1) (lines_of rest)))

module _ (input : List ℕ) (n : ℕ) (bytes line rest out out' : List ℕ) (w w' : Worker)
    (split : lines_of bytes ≡ line ∷ lines_of rest) (before : RanSoFar input n bytes out w) where
  abbrev c : Command
  c = command_of standard LANES line

  abbrev here : Line
  here = record { number = n + 1; command = c }

  ran-silent : MayAnswer (n + 1) (step CALLER (n + 1) c w) None w' → out' ≡ out ++ []
      → (now : List PlainOp) → w'.seen.journal ≡ w.seen.journal ++ now
      → RanSoFar input (n + 1) rest out' w'
  ran-silent silent text now journal =
      record {
        so_far = before.so_far ++ here ∷ [];
        transcript = before.transcript ++ [];
        whole = whole-more (input_lines input) before.so_far n bytes line rest split before.whole;
        ran = subst (Ran CALLER untouched (before.so_far ++ here ∷ []) (before.transcript ++ []))
            silent.1
            (one_more CALLER untouched before.so_far before.transcript w here [] before.ran
            (subst (λ (o : Option Expected). Adds here o []) (sym silent.0) refl));
        written = text ∙ append-nil out ∙ before.written
            ∙ ap output (sym (append-nil before.transcript));
        answered = subst (AllByRecursion (StaysAnswered w'.seen.journal))
            (sym (append-nil before.transcript))
            (answered_later w.seen.journal w'.seen.journal now before.transcript journal
            before.answered);
      }

  ran-said : (reply : Reply) → Answers (n + 1) (step CALLER (n + 1) c w) reply w'
      → out' ≡ out ++ reply_text reply
      → (now : List PlainOp) → w'.seen.journal ≡ w.seen.journal ++ now
      → RanSoFar input (n + 1) rest out' w'
  ran-said reply a text now journal =
      let said : List Said = record { line = here; reply = reply } ∷ [] in
      record {
        so_far = before.so_far ++ here ∷ [];
        transcript = before.transcript ++ said;
        whole = whole-more (input_lines input) before.so_far n bytes line rest split before.whole;
        ran = subst (Ran CALLER untouched (before.so_far ++ here ∷ []) (before.transcript ++ said))
            a.after_is
            (one_more CALLER untouched before.so_far before.transcript w here said before.ran
            (subst (λ (o : Option Expected). Adds here o said) (sym a.expects)
            (reply, refl, a.meets)));
        written = text ∙ ap (λ (ts : List ℕ). ts ++ reply_text reply) before.written
            ∙ sym (output-more before.transcript here reply);
        answered = all_more (StaysAnswered w'.seen.journal) before.transcript
            (record { line = here; reply = reply })
            (answered_later w.seen.journal w'.seen.journal now before.transcript journal
            before.answered)
            (λ more. subst (λ (ops : List PlainOp). IsAnswered ops c reply)
            (sym (ap (λ (ops : List PlainOp). ops ++ more) journal
            ∙ append_assoc w.seen.journal now more))
            (answered_step (n + 1) c w reply w' a (now ++ more)));
      }

-- what a line adds to the journal
gained : (n : ℕ) (c : Command) (w w' : Worker) (o : Option Reply) → Holds w
    → Rattle.sg_shell.proofs.GainLemmas.IsCounted w.seen → IsRead c
    → MayAnswer n (step CALLER n c w) o w'
    → (now : List PlainOp) × (w'.seen.journal ≡ w.seen.journal ++ now)
gained n c w w' None holds counted read a =
    let s = step CALLER n c w in
    let line : Line = record { number = n; command = c } in
    let f = Rattle.sg_shell.proofs.FitLemmas.fits CALLER n w holds counted c read []
    (subst (λ (o : Option Expected). Adds line o []) (sym a.0) refl) in
    (f.now, ap (λ (x : Worker). x.seen.journal) (sym a.1) ∙ f.gains.journal)
gained n c w w' (Some reply) holds counted read a =
    let s = step CALLER n c w in
    let line : Line = record { number = n; command = c } in
    let said : List Said = record { line = line; reply = reply } ∷ [] in
    let f = Rattle.sg_shell.proofs.FitLemmas.fits CALLER n w holds counted c read said
    (subst (λ (o : Option Expected). Adds line o said) (sym a.expects) (reply, refl, a.meets)) in
    (f.now, ap (λ (x : Worker). x.seen.journal) (sym a.after_is) ∙ f.gains.journal)

pub ran-more : (input : List ℕ) (n : ℕ) (bytes line rest out out' : List ℕ) (w w' : Worker)
    (o : Option Reply) → Holds w → Rattle.sg_shell.proofs.GainLemmas.IsCounted w.seen
    → IsRead (command_of standard LANES line)
    → lines_of bytes ≡ line ∷ lines_of rest
    → MayAnswer (n + 1) (step CALLER (n + 1) (command_of standard LANES line) w) o w'
    → out' ≡ out ++ printed o → RanSoFar input n bytes out w
    → RanSoFar input (n + 1) rest out' w'
ran-more input n bytes line rest out out' w w' None holds counted read split a text before =
    let g = gained (n + 1) (command_of standard LANES line) w w' None holds counted read a in
    ran-silent input n bytes line rest out out' w w' split before a text g.0 g.1
ran-more input n bytes line rest out out' w w' (Some reply) holds counted read split a text before =
    let g = gained (n + 1) (command_of standard LANES line) w w' (Some reply) holds counted read a
    in
    ran-said input n bytes line rest out out' w w' split before reply a text g.0 g.1

-- ---- the end

all_answered : (journal : List PlainOp) (t : List Said) → AllByRecursion (StaysAnswered journal) t
    → All (λ e. IsAnswered journal e.line.command e.reply) t
all_answered journal [] all = All-nil (λ e. IsAnswered journal e.line.command e.reply)
all_answered journal (e ∷ es) all =
    All-cons (λ x. IsAnswered journal x.line.command x.reply) e es
    (subst (λ (ops : List PlainOp). IsAnswered ops e.line.command e.reply) (append-nil journal)
    (all.0 [])) (all_answered journal es all.1)

pub ran-end : (input rest out : List ℕ) (n : ℕ) (w : Worker)
    → All (λ l. IsRead l.command) (input_lines input) → lines_of rest ≡ []
    → RanSoFar input n rest out w → Session input out
ran-end input rest out n w read none before =
    let t = before.transcript in
    let whole : before.so_far ≡ input_lines input =
    sym (before.whole ∙ ap (λ (ls : List (List ℕ)). before.so_far ++ lines_from (n + 1) ls) none
    ∙ append-nil before.so_far) in
    let ran : Ran CALLER untouched (input_lines input) t w =
    subst (λ (ls : List Line). Ran CALLER untouched ls t w) whole before.ran in
    let s = stands CALLER (input_lines input) t untouched w holds_untouched refl (omega arith) read
    ran in
    let journal : w.seen.journal ≡ s.more = s.journal in
    let f = s.follows in record {
      transcript = t;
      journal = s.more;
      worker = w;
      is_session = record {
        replied = s.lines_told;
        written = before.written;
        answers = s.may;
        numbers = f.numbers;
        most = (let m = f.most in omega (arith, m));
        full = λ k d h is. (let m = f.full k d h is in omega (arith, m));
        ordered = f.ordered;
        at_most = λ k d h. at_most _ (0 + length s.more) (length s.more) (omega arith)
            (f.at_most k d h);
        answered = all_answered s.more t
            (subst (λ (ops : List PlainOp). AllByRecursion (StaysAnswered ops) t) journal
            before.answered);
      };
      ran = ran;
      seen = journal;
    }
