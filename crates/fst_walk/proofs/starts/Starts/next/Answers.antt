-- The next start has a boost.
use Rattle.std.proofs.Common.{◌≡◌, ℕ, List, sym, ap, ◌∙◌}
use Rattle.std.proofs.Common.{Some, None, Option, true}
use Rattle.std.specs.Prelude.{is_some}
use Rattle.sg_context.specs.Boosts.{boost_of, PlainQueryContext}
use Rattle.sg_context.specs.Queries.{PlainQuery}
use Rattle.fst_code.specs.Bytes.{nodes_of}
use Rattle.fst_code.specs.Lists.{root_paths}
use Rattle.fst_walk.specs.Walks.{bytes_of, position_of}
use Rattle.fst_walk.proofs.StartsLemmas.{first_boost}
use Rattle.fst_walk.proofs.starts.Starts.next.Goals as goal

no_boost : (o : Option ℕ) → o ≡ None → is_some o ≡ true → ⊥
no_boost None e h = cc
no_boost (Some x) e h = cc

pub unreachable-requires : goal.unreachable-requires
unreachable-requires g c =
    let s = c.self.inside in
    let w = c.next_spot.new.walk in
    let left = c.in-Some-next_spot.ensures.left in
    let asked = first_boost (root_paths (nodes_of s.transducer.now)) s.query.now
    (position_of s.walk) (bytes_of w) _ left in
    let items : c.items.result.now ≡ s.query.now.contexts =
    c.items.ensures ∙ ap (λ (z : PlainQuery). z.contexts) c.query.view_is in
    no_boost (boost_of c.items.result.now (bytes_of w))
    (sym c.boost_of.ensures.value ∙ c.in_default-boost_of.is)
    (ap (λ (z : List PlainQueryContext). is_some (boost_of z (bytes_of w))) items ∙ asked)
