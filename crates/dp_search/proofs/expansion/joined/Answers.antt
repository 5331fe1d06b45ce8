use Rattle.std.proofs.Common.{◌≡◌, ℕ, inl, inr, true, false, sym, ◌∙◌, arith, refl}
use Rattle.dp_spec.specs.Model.{Model}
use Rattle.dp_spec.specs.Pairs.{IsPair}
use Rattle.dp_laws.proofs.UnequalPlaces.{agreement_is}
use Rattle.dp_cluster.proofs.FrontParts.{unassigned_in}
use Rattle.dp_cluster.specs.KeptFronts.{KeptFront}
use Rattle.dp_cluster.specs.Merging.{IsMergeFault}
use Rattle.dp_cluster.specs.declared.merge.MergeFault.{MergeFault}
use Rattle.dp_cluster.specs.declared.merge.MergeFault.TheVariants.{Rounded, Same, Assigned, Unequal, Memory}
use Rattle.dp_search.proofs.expansion.joined.Goals as goal

-- of two classes that can be merged no fault but want of memory is told
only_memory : (m : Model) (k : KeptFront) (i a b : ℕ) → k.is_exact ≡ true → IsPair m k.front i a b
    → (e : MergeFault) → IsMergeFault m k i a b e → e ≡ Memory
only_memory m k i a b exact pair Rounded fault = absurd (let no : true ≡ false = sym exact ∙ fault in cc)
only_memory m k i a b exact pair Same fault = absurd (let less = pair.order in omega (arith, fault.1))
only_memory m k i a b exact pair Assigned fault =
    elim fault.2 [
      | inl first ↦ absurd (first pair.first)
      | inr second ↦ absurd (second pair.second)
    ]
only_memory m k i a b exact pair (Unequal p) fault =
    absurd (fault.1.unequal ((agreement_is m k.front i a b).1 pair.equivalent p fault.1.there))
only_memory m k i a b exact pair Memory fault = refl

pub merge-requires-clause-agent : goal.merge-requires-clause-agent
merge-requires-clause-agent c =
    (unassigned_in c.args.front.now.front.agents c.args.pair.agent c.args.pair.second
    c.requires.pair.1.1.second).0

pub merge-requires-clause-class : goal.merge-requires-clause-class
merge-requires-clause-class c =
    (unassigned_in c.args.front.now.front.agents c.args.pair.agent c.args.pair.second
    c.requires.pair.1.1.second).1

pub unreachable-requires : goal.unreachable-requires
unreachable-requires c =
    let m = c.requires.pair.0 in
    let pair = c.requires.pair.1 in
    c.in_default.not-Memory
    (only_memory m c.args.front.now c.args.pair.agent c.args.pair.first c.args.pair.second c.requires.exact
    pair.1 c.in-Err.fault (c.in-Err.ensures.fault m pair.0))
