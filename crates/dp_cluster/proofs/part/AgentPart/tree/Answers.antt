use Rattle.std.proofs.Common.{length, map, sym, ap, ◌∙◌, arith}
use Rattle.std.proofs.lemmas.List.{length-map}
use Rattle.std.proofs.lemmas.Result.{IfOk-weaker}
use Rattle.dp_spec.specs.FullPolicy.{tree_doing_after}
use Rattle.dp_cluster.specs.AgentParts.{action_after}
use Rattle.dp_cluster.proofs.PastTrees.{first_below, first_class, stages_counted, whole_is}
use Rattle.dp_cluster.proofs.part.AgentPart.tree.Goals as goal

pub tree_after-requires-clause-some : goal.tree_after-requires-clause-some
tree_after-requires-clause-some c =
    let counted = stages_counted _ _ _ _ c.args.self.now c.self.view_is in
    let size = length-map c.self.inside.past.items (λ s. s.value) in
    let same = ap (λ l. length l) c.deref-past.ensures.value in
    omega (arith, counted, size, same, c.requires)

pub returns : goal.returns
returns c =
    let n = c.self.inside.observations in
    let given = c.deref-past.result.now in
    let kept = c.self.inside.past.items in
    let value = c.deref-past.ensures.value in
    let count = ap (λ l. length l) value ∙ sym (length-map kept (λ s. s.value)) in
    IfOk-weaker c.tree_after.result _ _ (λ q all.
    all 0 0 (omega arith) (first_below n) (first_class n (map (λ s. s.value) given) (length given)
    (sym (length-map given (λ s. s.value))))
    ∙ (λ j. tree_doing_after n (action_after n (map (λ s. s.value) (value j))) (count j) 0 0)
    ∙ whole_is n (map (λ s. s.value) kept) _ _ c.args.self.now c.self.view_is) c.tree_after.ensures
