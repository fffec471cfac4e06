-- What lines with the name of a view answer, and the worker afterwards.
use Rattle.std.proofs.Common.{◌≡◌, ◌≤◌, ◌<◌, ℕ, List, [], ◌∷◌, ◌++◌, length, map, Option, Some}
use Rattle.std.proofs.Common.{None, refl, sym, ap, ◌∙◌, subst, arith, slice_index_or, zero-add}
use Rattle.std.specs.Prelude.{Contains, remove}
use Rattle.std.specs.List.{AllByRecursion, position_from}
use Rattle.std.proofs.lemmas.List.{map-append}
use Rattle.sg_context.specs.Queries.{PlainQuery}
use Rattle.sg_answers.specs.declared.limits.TheConstants.{MOST_QUEUED}
use Rattle.index_core.specs.declared.limits.TheConstants.{MOST_OPEN_VIEWS}
use Rattle.index_core.specs.Histories.{Record, View}
use Rattle.index_core.specs.Records.{open_views}
use Rattle.index_core.specs.LegalHistories.{IsLegal}
use Rattle.index_core.specs.Calls.{after_begin, after_end, begun_by, released_by_end}
use Rattle.index_shared.specs.OwnViews.{view_in}
use Rattle.index_shared.proofs.ExtendsLemmas.{extends_on}
use Rattle.sg_view.specs.Viewing.{PlainView}
use Rattle.index_shared.specs.Offers.{after_flush}
use Rattle.wire_json.specs.Commands.{opens, closes}
use Rattle.wire_replies.specs.Replies.{Reply, opened, closed, failed}
use Rattle.wire_replies.specs.declared.error_kind.ErrorKind.TheVariants.{View as NoView}
use Rattle.wire_replies.specs.declared.error_kind.ErrorKind.TheVariants.{Views as NoRoom}
use Rattle.sg_shell.specs.Workers.{Open, Worker, with_seen, Step, says, reports, named}
use Rattle.sg_shell.specs.Workers.{without_name, named_step, open_step, close_step}
use Rattle.sg_shell.specs.Runs.{IsReportReply}
use Rattle.sg_shell.specs.Working.{NamedBuilt, open_of, worker_of, views_of, Answers, Views}
use Rattle.sg_shell.specs.Working.{Holds, IsShown, IsWorking, Passes, Begins}
use Rattle.index_single.specs.declared.caller.TheConstants.{CALLER}
use Rattle.sg_shell.proofs.CloseLemmas.{has_name, IsFoundAt, named_none, named_some, all_at}
use Rattle.sg_shell.proofs.CloseLemmas.{all_more, all_removed, removed, is_open, without_last}
use Rattle.sg_shell.proofs.CloseLemmas.{apart_without_last, last_at}
use Rattle.sg_shell.proofs.EngineLemmas.{answers_says, open_begun, open_full, passes_working}
use Rattle.sg_shell.proofs.GainLemmas.{gains-begin, gains-end}
use Rattle.sg_shell.proofs.HoldingLemmas.{holds_step}
use Rattle.sg_shell.proofs.LaterLemmas.{all_shown}
use Rattle.sg_shell.proofs.OpenLemmas.{end_views}
use Rattle.sg_shell.proofs.PassLemmas.{extends_gained}

-- ---- found

pub found_at : (name : List ℕ) (os : List NamedBuilt) (i : ℕ)
    → position_from (has_name name) 0 os ≡ Some i → IsFoundAt name os i
found_at name os i is = named_some name 0 i os (is ∙ ap Some (sym (zero-add i)))

pub answer_unknown : (line : ℕ) (name : List ℕ) (q : PlainQuery) (r : Record)
    (os : List NamedBuilt) → position_from (has_name name) 0 os ≡ None
    → Answers line (named_step line q (named name (map open_of os)) (worker_of r os))
    (failed line NoView) (worker_of r os)
answer_unknown line name q r os is =
    answers_says line _ (failed line NoView) (worker_of r os)
    (ap (λ (o : Option Open). named_step line q o (worker_of r os)) (named_none name 0 os is))

pub answer_named : (line : ℕ) (name : List ℕ) (q : PlainQuery) (r : Record)
    (os : List NamedBuilt) (i : ℕ) (x : NamedBuilt) (reply : Reply) → IsWorking r os
    → position_from (has_name name) 0 os ≡ Some i → x ≡ slice_index_or os i x
    → ((s : Record) → IsShown s x.view → IsReportReply line reply s (view_in CALLER x.view) q)
    → q.k ≤ MOST_QUEUED
    → Answers line (named_step line q (named name (map open_of os)) (worker_of r os)) reply
    (worker_of r os)
answer_named line name q r os i x reply working is here report few =
    let f = found_at name os i is in
    let shown : IsShown r x.view =
    subst (λ (o : NamedBuilt). IsShown r o.view) (sym here)
    (all_at (λ o. IsShown r o.view) os i x f.within working.shown) in
    let found : named name (map open_of os) ≡ Some (open_of x) =
    f.is x ∙ ap (λ (o : NamedBuilt). Some (open_of o)) (sym here) in
    subst (λ (o : Option Open). Answers line (named_step line q o (worker_of r os)) reply
    (worker_of r os)) (sym found) (record {
      expected = reports r (view_in CALLER x.view) q;
      expects = refl;
      meets = report r shown;
      viewed = (shown.is_in, few);
      after_is = refl;
    })

-- ---- closed

pub close_unknown : (line : ℕ) (name : List ℕ) (r : Record) (os : List NamedBuilt)
    → position_from (has_name name) 0 os ≡ None
    → Answers line (close_step CALLER line name (named name (map open_of os)) (worker_of r os))
    (failed line NoView) (worker_of r os)
close_unknown line name r os is =
    answers_says line _ (failed line NoView) (worker_of r os)
    (ap (λ (o : Option Open). close_step CALLER line name o (worker_of r os))
    (named_none name 0 os is))

pub record Closes (line : ℕ) (name : List ℕ) (old new : Record) (os os' : List NamedBuilt)
    : Type 0 where
  pub answers : Answers line
      (close_step CALLER line name (named name (map open_of os)) (worker_of old os))
      (closed line name) (worker_of new os')
  pub working : IsWorking new os'

pub close_found : (line : ℕ) (name : List ℕ) (old new : Record) (os os' : List NamedBuilt) (i : ℕ)
    (x : NamedBuilt) → IsLegal new → IsWorking old os → position_from (has_name name) 0 os ≡ Some i
    → x ≡ slice_index_or os i x → os' ≡ remove os i → new ≡ after_end CALLER x.view.number old
    → Closes line name old new os os'
close_found line name old new os os' i x legal working is here taken ends =
    let f = found_at name os i is in
    let w = worker_of old os in
    let found : named name (map open_of os) ≡ Some (open_of x) =
    f.is x ∙ ap (λ (o : NamedBuilt). Some (open_of o)) (sym here) in
    let kept : without_name name (map open_of os) ≡ map open_of os' =
    sym (removed name 0 i os working.holds.apart (is ∙ ap Some (sym (zero-add i))))
    ∙ ap (map open_of) (sym taken) in
    let after : close_step CALLER line name (named name (map open_of os)) w
    ≡ says (closed line name) (worker_of new os') =
    ap (λ (o : Option Open). close_step CALLER line name o w) found
    ∙ ap (λ (r : Record). says (closed line name) (record {
      seen = r;
      kept = without_name name (map open_of os);
    })) (sym ends)
    ∙ ap (λ (ks : List Open). says (closed line name) (record { seen = new; kept = ks })) kept in
    let later = extends_gained [] old new (after_end CALLER x.view.number old) ends
    (gains-end CALLER x.view.number old) in
    record {
      answers = answers_says line _ (closed line name) (worker_of new os') after;
      working = record {
        legal = legal;
        holds = subst Holds (ap (λ (s : Step). s.after) after)
            (holds_step CALLER line w working.holds (closes 0 name));
        shown = subst (λ (zs : List NamedBuilt). AllByRecursion (λ o. IsShown new o.view) zs)
            (sym taken)
            (all_removed (λ o. IsShown new o.view) os i
            (all_shown old new working.legal legal later os working.shown));
      };
    }

-- ---- opened

pub open_known : (line : ℕ) (name : List ℕ) (r : Record) (os : List NamedBuilt) (i : ℕ)
    → position_from (has_name name) 0 os ≡ Some i
    → Answers line (open_step CALLER line name (named name (map open_of os)) (worker_of r os))
    (failed line NoView) (worker_of r os)
open_known line name r os i is =
    let f = found_at name os i is in
    answers_says line _ (failed line NoView) (worker_of r os)
    (ap (λ (o : Option Open). open_step CALLER line name o (worker_of r os)) (f.is none))
  where
    none : NamedBuilt
    none = record {
      name = [];
      view = record { number = 0; upto = 0; segments = []; generations = [] };
    }

pub open_new : (line : ℕ) (name : List ℕ) (r : Record) (os : List NamedBuilt) (reply : Reply)
    (after : Worker) → position_from (has_name name) 0 os ≡ None
    → Answers line (open_step CALLER line name None (worker_of r os)) reply after
    → Answers line (open_step CALLER line name (named name (map open_of os)) (worker_of r os))
    reply after
open_new line name r os reply after is a =
    subst (λ (o : Option Open). Answers line (open_step CALLER line name o (worker_of r os)) reply
    after) (sym (named_none name 0 os is)) a

pub record Opens (line upto : ℕ) (name : List ℕ) (old new : Record) (os os' : List NamedBuilt)
    : Type 0 where
  pub answers : Answers line
      (open_step CALLER line name (named name (map open_of os)) (worker_of old os))
      (opened line name upto) (worker_of new os')
  pub working : IsWorking new os'

pub open_more : (line upto : ℕ) (name : List ℕ) (old mid new : Record) (os os' : List NamedBuilt)
    (v : PlainView) → IsLegal new → IsWorking old os → position_from (has_name name) 0 os ≡ None
    → mid ≡ after_flush CALLER old → Passes old mid
    → length (open_views mid) < MOST_OPEN_VIEWS → new ≡ after_begin CALLER mid
    → view_in CALLER v ≡ begun_by CALLER mid → IsShown new v → upto ≡ v.upto
    → os' ≡ os ++ record { name = name; view = v } ∷ [] → Opens line upto name old new os os'
open_more line upto name old mid new os os' v legal working is flushed passes room begins view
    shown same more =
    let w = worker_of old os in
    let one : NamedBuilt = record { name = name; view = v } in
    let kept : map open_of os ++ open_of one ∷ [] ≡ map open_of os' =
    sym (map-append open_of os (one ∷ [])) ∙ ap (map open_of) (sym more) in
    let a = subst (λ (ks : List Open). Answers line (open_step CALLER line name None w)
    (opened line name upto) (record { seen = new; kept = ks })) kept
    (open_begun line upto name w mid new (view_in CALLER v) flushed room begins view same) in
    let all = open_new line name old os (opened line name upto) (worker_of new os') is a in
    let later = extends_on old mid new passes.later
    (extends_gained [] mid new (after_begin CALLER mid) begins (gains-begin CALLER mid)) in
    record {
      answers = all;
      working = record {
        legal = legal;
        holds = subst Holds all.after_is
            (holds_step CALLER line w working.holds (opens 0 name));
        shown = subst (λ (zs : List NamedBuilt). AllByRecursion (λ o. IsShown new o.view) zs)
            (sym more)
            (all_more (λ o. IsShown new o.view) os one
            (all_shown old new working.legal legal later os working.shown) shown);
      };
    }

-- the same from what the calls say
pub record OpensAs (line : ℕ) (name : List ℕ) (reply : Reply) (old new : Record)
    (os os' : List NamedBuilt) : Type 0 where
  pub answers : Answers line
      (open_step CALLER line name (named name (map open_of os)) (worker_of old os)) reply
      (worker_of new os')
  pub working : IsWorking new os'

pub open_begins : (line upto : ℕ) (name shown : List ℕ) (old mid new : Record)
    (os rs os' : List NamedBuilt) (v : PlainView) → IsLegal new → IsWorking old os
    → position_from (has_name name) 0 os ≡ None → mid ≡ after_flush CALLER old → Passes old mid
    → Begins mid new (Some v) → upto ≡ v.upto → shown ≡ name → rs ≡ os
    → os' ≡ rs ++ record { name = name; view = v } ∷ []
    → OpensAs line name (opened line shown upto) old new os os'
open_begins line upto name shown old mid new os rs os' v legal working is flushed passes begins
    same text kept more =
    let o = open_more line upto name old mid new os os' v legal working is flushed passes
    begins.0 begins.1 begins.2 begins.3 same
    (more ∙ ap (λ (zs : List NamedBuilt). zs ++ record { name = name; view = v } ∷ []) kept) in
    record {
      answers = subst (λ (x : List ℕ). Answers line
          (open_step CALLER line name (named name (map open_of os)) (worker_of old os))
          (opened line x upto) (worker_of new os')) (sym text) o.answers;
      working = o.working;
    }

pub open_is_full : (line : ℕ) (name : List ℕ) (old mid new : Record) (os rs : List NamedBuilt)
    → IsWorking old os → position_from (has_name name) 0 os ≡ None
    → mid ≡ after_flush CALLER old → Passes old mid → Begins mid new None → rs ≡ os
    → OpensAs line name (failed line NoRoom) old new os rs
open_is_full line name old mid new os rs working is flushed passes begins kept =
    let w = worker_of old os in
    let a = open_new line name old os (failed line NoRoom) (with_seen new w) is
    (open_full line name w mid new flushed begins.0 begins.1) in
    let works = passes_working old new os (subst (Passes old) (sym begins.1) passes) working in
    record {
      answers = subst (λ (zs : List NamedBuilt). Answers line
          (open_step CALLER line name (named name (map open_of os)) w) (failed line NoRoom)
          (worker_of new zs)) (sym kept) a;
      working = subst (λ (zs : List NamedBuilt). IsWorking new zs) (sym kept) works;
    }

-- ---- given back

pub last_open : (r : Record) (os all : List NamedBuilt) (x : NamedBuilt) → all ≡ os ++ x ∷ []
    → Holds (worker_of r all) → Contains (open_views r) (view_in CALLER x.view)
last_open r os all x is holds =
    let whole = subst (λ (zs : List NamedBuilt). Holds (worker_of r zs)) is holds in
    subst (λ (o : NamedBuilt). Contains (open_views r) (view_in CALLER o.view)) (last_at os x x)
    (is_open r (os ++ x ∷ []) (length os) x whole (within os))
  where
    within : (zs : List NamedBuilt) → length zs < length (zs ++ x ∷ [])
    within [] = omega arith
    within (z ∷ zs) = (let h = within zs in omega (arith, h))

fewer : (os : List NamedBuilt) (x : NamedBuilt)
    → length (map open_of os) ≤ length (map open_of (os ++ x ∷ []))
fewer [] x = omega arith
fewer (o ∷ os) x = (let h = fewer os x in omega (arith, h))

last_below : (P : View → Type 0) (os : List NamedBuilt) (x : NamedBuilt)
    → AllByRecursion P (views_of (map open_of (os ++ x ∷ []))) → P (view_in CALLER x.view)
last_below P [] x all = all.0
last_below P (o ∷ os) x all = last_below P os x all.1

pub last_given : (r s : Record) (os all : List NamedBuilt) (x : NamedBuilt) → all ≡ os ++ x ∷ []
    → s ≡ after_end CALLER x.view.number r → Holds (worker_of r all) → Holds (worker_of s os)
last_given r s os all x is ends holds =
    let whole = subst (λ (zs : List NamedBuilt). Holds (worker_of r zs)) is holds in
    let n = x.view.number in
    let ended = end_views r (views_of (map open_of (os ++ x ∷ []))) CALLER n
    (released_by_end CALLER n r)
    (last_below (λ v. v.view ≤ length (Rattle.index_core.specs.Histories.begun_views r.history)) os
    x whole.views.below) whole.views in
    subst (λ (t : Record). Holds (worker_of t os)) (sym ends) (record {
      views = subst (Views (after_end CALLER n r).history) (without_last os x whole.apart) ended;
      apart = apart_without_last os x whole.apart;
      few = (let f = fewer os x in let m = whole.few in omega (arith, f, m));
    })
