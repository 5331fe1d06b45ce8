use Rattle.std.proofs.Common.{◌≡◌, ◌∷◌, [], ap, refl, sym, subst, ◌<◌, ℕ, ◌∙◌, rules}
use Rattle.std.specs.Int.{w128}
use Rattle.std.proofs.lemmas.Int.{to_z-of_z}
use Rattle.dp_spec.specs.Front.{Front}
use Rattle.dp_spec.specs.Merge.{merged_front}
use Rattle.dp_cluster.specs.KeptFronts.{KeptFront}
use Rattle.dp_search.specs.Expansions.{mode_bound}
use Rattle.dp_search.specs.FrontPlanning.{IsSearchFront}
use Rattle.dp_search.specs.HeldFronts.{IsHeldChild}
use Rattle.dp_search.specs.Paths.{IsMergeAt, IsPath, path_front}
use Rattle.dp_search.proofs.Expansions.{single}
use Rattle.dp_search.proofs.HeldFronts.{merge_at, merged_child, merged_made}
use Rattle.dp_search.proofs.expansion.merged.Goals as goal

pub joined-requires-clause-pair : goal.joined-requires-clause-pair
joined-requires-clause-pair c = (c.args.model.now.model, (c.requires.of_model, c.requires.pair))

pub returns-clause-fronts : goal.returns-clause-fronts
returns-clause-fronts c =
    let m = c.args.model.now.model in
    let pair = c.args.pair in
    rw (c.in_ok-push.ensures.items, c.new-children.ensures.items) (ap (λ (F : Front). F ∷ [])
    (c.of-held.ensures.front ∙ ap (path_front m) c.in_ok-after-2.ensures.ok ∙ c.in_ok-after.ensures.front m
    ∙ ap (λ (F : Front). merged_front F pair.agent pair.first pair.second) c.requires.path))

pub returns-clause-children : goal.returns-clause-children
returns-clause-children c h look merging is path bound =
    let m = c.args.model.now.model in
    let k = c.args.front.now in
    let pair = c.args.pair in
    let made = c.in_ok-next.next in
    let same = c.in_ok-next-2.ensures.ok in
    let lt = subst (λ (n : ℕ). k.front.stage < n) is.horizon c.requires.stage in
    let may = subst (λ (F : Front). IsMergeAt m h F pair) (sym c.requires.path)
    (merge_at m h k is lt pair c.requires.pair c.requires.exact) in
    let goes_on = subst (IsPath m h merging) (sym c.in_ok-after-2.ensures.ok)
    (c.in_ok-after.ensures.path m h merging path may) in
    let there = ap (path_front m) c.in_ok-after-2.ensures.ok ∙ c.in_ok-after.ensures.front m
    ∙ ap (λ (F : Front). merged_front F pair.agent pair.first pair.second) c.requires.path
    ∙ sym c.in_ok-next.ensures.front in
    let child = merged_child m h look merging k made c.of-held.result _ pair.agent
    pair.first pair.second is lt c.requires.pair c.requires.exact
    (to_z-of_z w128 c.args.bound c.ranges.bound ∙ bound) c.in_ok-next.ensures.front
    (c.in_ok-next.ensures.of_model m c.requires.of_model) c.in_ok-next.ensures.horizon
    (c.of-held.ensures.front ∙ there)
    (λ search own. c.of-held.ensures.held h look merging goes_on
    (ap (λ (o : KeptFront). o.front) same ∙ sym there)
    (subst (IsSearchFront m h) (sym same) search)
    (own ∙ ap (λ (o : KeptFront). mode_bound m h look o.front) (sym same))) in
    rw (c.in_ok-push.ensures.items, c.new-children.ensures.items) (single (IsHeldChild m h look merging) _ child)

pub returns-clause-made : goal.returns-clause-made
returns-clause-made c h look merging is are =
    let m = c.args.model.now.model in
    let k = c.args.front.now in
    let pair = c.args.pair in
    let lt = subst (λ (n : ℕ). k.front.stage < n) is.horizon c.requires.stage in
    let there = ap (path_front m) c.in_ok-after-2.ensures.ok ∙ c.in_ok-after.ensures.front m
    ∙ ap (λ (F : Front). merged_front F pair.agent pair.first pair.second) c.requires.path
    ∙ sym c.in_ok-next.ensures.front in
    let same : c.in_ok-clone.field-0.value ≡ c.in_ok-next-2.next.value = search (rules, c.in_ok-clone.ensures.cases)
    in
    c.in_ok-keep.ensures.kept m h look merging (c.forget.ensures m h look merging are)
    (merged_made m h look merging k c.in_ok-next.next pair.agent pair.first pair.second is lt c.requires.pair
    c.in_ok-next.ensures.front (c.in_ok-next.ensures.of_model m c.requires.of_model)
    c.in_ok-next.ensures.horizon _ there _ (same ∙ c.in_ok-next-2.ensures.ok) refl refl)
