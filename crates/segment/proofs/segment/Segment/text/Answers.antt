-- The bytes of the transducer are those of the documents.
use Rattle.std.proofs.Common.{◌≡◌, ℕ, List, sym, ap, ◌∙◌, subst}
use Rattle.sg_paths.specs.Operations.{PlainNumbered}
use Rattle.fst_code.specs.Lists.{list_of}
use Rattle.fst_code.specs.Rules.{IsValid}
use Rattle.fst_code.specs.Shapes.{IsBytes}
use Rattle.segment.specs.Represents.{IsTextOf, Represents}
use Rattle.segment.proofs.segment.Segment.text.Goals as goal

is_text_of : (docs : List PlainNumbered) (held text same : List ℕ) → Represents docs held
    → text ≡ held → IsValid held → same ≡ text → IsBytes text → IsTextOf docs same
is_text_of docs held text same r is valid e all = record {
  bytes = subst (λ z. IsBytes z) (sym e) all;
  valid = subst (λ z. IsValid z) (sym (e ∙ is)) valid;
  maps = ap list_of (e ∙ is) ∙ r.maps;
}

pub returns : goal.returns
returns c =
    let own = c.bytes.ensures in
    let is = is_text_of c.self.inside.table c.self.inside.transducer c.bytes.result.now
    c.known_bytes.result.now c.self.invariant own.value own.valid c.known_bytes.ensures.same
    c.known_bytes.ensures.bytes in
    rw (← c.self.view_is) is
