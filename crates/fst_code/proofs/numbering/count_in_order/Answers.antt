-- One arc, or one node, further.
use Rattle.std.proofs.Common.{rules, arith, ◌+◌, ◌-◌, ◌∙◌, ap, sym, [], List, ℕ}
use Rattle.std.proofs.lemmas.List.{nil_from_length}
use Rattle.fst_code.specs.Bytes.{nodes_of}
use Rattle.fst_code.specs.Rules.{from_to}
use Rattle.fst_code.specs.Numbering.{finished, completed}
use Rattle.fst_code.proofs.LoopLemmas.{finished_push, leaves, goes_past, goes_in, begins_root}
use Rattle.fst_code.proofs.LoopLemmas.{placed_other, placed_all, falls_of, target_below}
use Rattle.fst_code.proofs.numbering.count_in_order.Goals as goal

pub loop-outer-init : goal.loop-outer-init
loop-outer-init c =
    let ns = nodes_of c.args.bytes.now in
    ap (λ (fs : List (ℕ × ℕ)). finished ns fs (completed ns (c.args.count - 1) 0 []))
    c.new-outer.ensures.items ∙ begins_root ns c.args.count c.requires.some

pub returns-then-id-next : goal.returns-then-id-next
returns-then-id-next c =
    placed_other (nodes_of c.args.bytes.now) c.loop-outer.outer.items c.loop-outer.id
    c.loop-outer.at c.loop-outer.next _ c.in-None.ensures.value c.if-id-next.true
    c.loop-outer.invariant

pub returns-in-None-pop : goal.returns-in-None-pop
returns-in-None-pop c =
    placed_all (nodes_of c.args.bytes.now) c.loop-outer.outer.items c.loop-outer.id c.loop-outer.at
    c.loop-outer.next _ (search (nil_from_length, arith, rules)) c.in-None.ensures.value
    c.if-id-next.false c.loop-outer.invariant

pub loop-outer-preserved-in-Some-pop : goal.loop-outer-preserved-in-Some-pop
loop-outer-preserved-in-Some-pop c = search (finished_push, leaves, rules) depth 9

pub loop-outer-smaller-then-target-next : goal.loop-outer-smaller-then-target-next
loop-outer-smaller-then-target-next c =
    let ns = nodes_of c.args.bytes.now in
    let low = target_below ns c.loop-outer.id c.loop-outer.at c.in-Some.target
    (falls_of ns c.requires.below) c.in-Some.ensures.value in
    omega (arith, low)

pub loop-outer-preserved-then-target-next : goal.loop-outer-preserved-then-target-next
loop-outer-preserved-then-target-next c =
    let ns = nodes_of c.args.bytes.now in
    let outer = c.loop-outer.outer.items in
    let rest = completed ns c.in-Some.target 0 (from_to c.loop-outer.next 0) in
    ap (λ (fs : List (ℕ × ℕ)). finished ns fs rest) c.in_ok-push-in-Some.ensures.items
    ∙ finished_push ns outer c.loop-outer.id (c.loop-outer.at + 1) rest
    ∙ ap (finished ns outer) (sym (goes_in ns c.loop-outer.id c.loop-outer.at c.in-Some.target
    c.loop-outer.next (falls_of ns c.requires.below) c.in-Some.ensures.value
    c.if-target-next.true))
    ∙ c.loop-outer.invariant

pub loop-outer-preserved : goal.loop-outer-preserved
loop-outer-preserved c =
    let ns = nodes_of c.args.bytes.now in
    ap (finished ns c.loop-outer.outer.items)
    (sym (goes_past ns c.loop-outer.id c.loop-outer.at c.in-Some.target c.loop-outer.next
    (falls_of ns c.requires.below) c.in-Some.ensures.value c.if-target-next.false))
    ∙ c.loop-outer.invariant
