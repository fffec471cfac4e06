-- The built view is that of the parts.
use Rattle.std.proofs.Common.{◌≡◌, ◌∙◌, ap, sym, subst, List, map}
use Rattle.segment.specs.Pieces.{PlainPiece}
use Rattle.segment.specs.Views.{PlainParts}
use Rattle.sg_view.specs.Viewing.{PlainView, LiveSegment, IsViewOf, Represents}
use Rattle.sg_view.specs.Building.{piece_at, built_view}
use Rattle.sg_view.proofs.BuildingLemmas.{represents, is_view_of, counted_in}
use Rattle.sg_view.proofs.ticket.Ticket.build.Goals as goal

-- the parts, by their fields
abbrev parts_of : goal.After-new → PlainParts
parts_of c = record {
  number = c.parts.inside.view;
  upto = c.parts.inside.upto;
  pieces = c.parts.inside.pieces.items;
  batches = map (λ b. b.value) c.parts.inside.batches.items;
  generations = c.parts.inside.gens.items;
}

built : (c : goal.After-new) → c.new.result ≡ built_view c.args.self
built c =
    let p = parts_of c in
    let segments : c.in-Ok.segments.items ≡ map (piece_at p.upto p.batches) p.pieces =
    c.in-Ok.ensures
    ∙ ap (λ (ps : List PlainPiece).
    map (piece_at p.upto (map (λ b. b.value) c.items-2.result.now)) ps)
    c.items.ensures
    ∙ ap (λ bs. map (piece_at p.upto (map (λ b. b.value) bs)) p.pieces) c.items-2.ensures in
    c.new.ensures
    ∙ ap (λ (ss : List LiveSegment). record {
      number = p.number;
      upto = p.upto;
      segments = ss;
      generations = p.generations;
    }) segments
    ∙ ap built_view (c.parts.view_is ∙ c.self.view_is)

pub returns-clause-ok : goal.returns-clause-ok
returns-clause-ok c =
    subst (λ (v : PlainView). IsViewOf c.args.self v) (sym (built c)) (is_view_of c.args.self)

pub returns-clause-represents : goal.returns-clause-represents
returns-clause-represents c = λ journal are.
    subst (λ (v : PlainView). Represents journal v) (sym (built c))
    (represents journal c.args.self are)

pub new-requires-clause-counted : goal.new-requires-clause-counted
new-requires-clause-counted c =
    counted_in (record {
      number = c.parts.inside.view;
      upto = c.parts.inside.upto;
      pieces = c.parts.inside.pieces.items;
      batches = map (λ b. b.value) c.parts.inside.batches.items;
      generations = c.parts.inside.gens.items;
    }) c.self.inside.parts c.items.result.now (map (λ b. b.value) c.items-2.result.now)
    c.in-Ok.segments.items c.parts.view_is c.self.invariant.pieces c.items.ensures
    (ap (λ bs. map (λ b. b.value) bs) c.items-2.ensures) c.in-Ok.ensures
