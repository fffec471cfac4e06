-- One owner more.
use Rattle.std.proofs.Common.{◌≡◌, ◌≤◌, ◌<◌, ◌+◌, ◌∷◌, ◌++◌, [], ℕ, List, length, get_or}
use Rattle.std.proofs.Common.{set, take, refl, sym, ap, ◌∙◌, arith, zero-add}
use Rattle.std.proofs.lemmas.List.{take_more, length-take}
use Rattle.seg_table.specs.declared.owner.Owner.{Owner}
use Rattle.seg_table.specs.Counts.{counts_of}
use Rattle.std.proofs.lemmas.List.Elements.{All-get_or}
use Rattle.seg_table.proofs.CountLemmas.{counts_at, counts_push, counts_none, count_most}
use Rattle.seg_table.proofs.counting.owner_counts.Goals as goal

fits : (k : ℕ) (owners : List Owner) (i at : ℕ) (counts : List ℕ)
    → counts ≡ counts_of k (take i owners) → at < k → i ≤ 4194304
    → get_or counts at 0 < 4294967295
fits k owners i at counts is h l =
    let a = ap (λ (ns : List ℕ). get_or ns at 0) is ∙ counts_at 0 k (take i owners) at h in
    let b = count_most (0 + at) (take i owners) in
    let c = length-take i owners in
    omega (arith, a, b, c, l)

one_more : (k : ℕ) (owners : List Owner) (i : ℕ) (o d : Owner) (old new : List ℕ)
    → i < length owners → o ≡ get_or owners i d → o.doc < k
    → old ≡ counts_of k (take i owners) → new ≡ set old o.doc (get_or old o.doc 0 + 1)
    → new ≡ counts_of k (take (i + 1) owners)
one_more k owners i o d old new h is below was now =
    now ∙ ap (λ (ns : List ℕ). set ns o.doc (get_or ns o.doc 0 + 1)) was
    ∙ counts_push 0 k (take i owners) o o.doc (sym (zero-add o.doc)) below
    ∙ ap (λ z. counts_of k (take i owners ++ z ∷ [])) is
    ∙ ap (λ z. counts_of k z) (sym (take_more owners i d h))

pub loop-owner-init : goal.loop-owner-init
loop-owner-init c = c.in_ok-counts.ensures.items_if_clones_equal (λ y h. h)
    ∙ sym (counts_none 0 c.args.documents)

pub add_path-requires-clause-fits : goal.add_path-requires-clause-fits
add_path-requires-clause-fits c =
    fits c.args.documents c.args.owners.now c.loop-owner.owner-index _ c.loop-owner.counts.items
    c.loop-owner.invariant
    (All-get_or (λ (o : Owner). o.doc < c.args.documents) c.args.owners.now c.loop-owner.owner-index
    (record { doc = 0; place = 0 }) (omega arith) c.requires.within)
    (omega (arith, c.requires.few))

pub loop-owner-preserved : goal.loop-owner-preserved
loop-owner-preserved c =
    one_more c.args.documents c.args.owners.now c.loop-owner.owner-index
    (get_or c.args.owners.now c.loop-owner.owner-index (record { doc = 0; place = 0 }))
    (record { doc = 0; place = 0 }) c.loop-owner.counts.items _
    (omega arith) refl
    (All-get_or (λ (o : Owner). o.doc < c.args.documents) c.args.owners.now c.loop-owner.owner-index
    (record { doc = 0; place = 0 }) (omega arith) c.requires.within)
    c.loop-owner.invariant c.add_path.ensures
