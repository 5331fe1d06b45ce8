use Rattle.std.proofs.Common.{◌∷◌, ◌++◌, ◌≡◌, [], List, suc, add-one, drop, map, true, ap, subst, ◌∙◌}
use Rattle.dp_spec.specs.SharedPolicy.{AgentRows, PolicyRow}
use Rattle.dp_cert.specs.CertificateBytes.{actions_bytes}
use Rattle.dp_lines.specs.Lines.{row_tail}
use Rattle.dp_cert.proofs.TreeSizeSteps.{mapped_drop}
use Rattle.dp_cert.proofs.WrittenTrees.{step_on}
use Rattle.dp_cert.proofs.write.push_actions.Goals as goal

pub loop-rows-preserved : goal.loop-rows-preserved
loop-rows-preserved c =
    let l = c.loop-rows in
    let stages = c.args.stages.now in
    let rows = c.rows-item.result.items in
    let later = map (λ r. r.items) (drop (suc l.rows-index) stages) in
    let line = row_tail true (map (λ (row : PolicyRow). row.action) rows) ++ 10 ∷ [] in
    let old = c.args.text.now.items in
    let e = mapped_drop (λ r. r.items) stages l.rows-index c.rows-item.result c.loop-rows-test.true
    c.rows-item.is in
    let so_far = subst (λ (rs : AgentRows). l.text.items ++ actions_bytes rs ≡ old
    ++ actions_bytes (map (λ r. r.items) stages)) e l.invariant in
    ap (λ k. c.push_action_line.new.text.items ++ actions_bytes (map (λ r. r.items) (drop k stages)))
    (add-one l.rows-index)
    ∙ step_on l.text.items c.push_action_line.new.text.items line (actions_bytes later) _
    (c.in_ok-push_action_line.ensures
    ∙ ap (λ (rs : List PolicyRow). l.text.items ++ (row_tail true (map (λ (row : PolicyRow). row.action) rs)
    ++ 10 ∷ [])) c.as_slice.ensures.value)
    so_far
