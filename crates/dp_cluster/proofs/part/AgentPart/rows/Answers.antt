use Rattle.std.proofs.Common.{[], map, ap, ◌∙◌}
use Rattle.std.proofs.lemmas.Result.{IfOk-weaker}
use Rattle.dp_cluster.specs.FullRows.{rows_before}
use Rattle.dp_cluster.proofs.StageRows.{rows_are, rows_each_class, rows_mean}
use Rattle.dp_cluster.proofs.part.AgentPart.rows.Goals as goal

pub returns-clause-rows : goal.returns-clause-rows
returns-clause-rows c =
    let n = c.self.inside.observations in
    let ss = map (λ s. s.value) c.self.inside.past.items in
    IfOk-weaker c.rows_of.result _ _ (λ v made.
    rows_are n ss c.self.inside.classes c.self.inside.chosen.items c.self.invariant (map (λ r. r.items) v.items)
    (made ∙ ap (λ l. rows_before n (map (λ s. s.value) l) []) c.deref-past.ensures.value)
    c.args.self.now c.self.view_is c.requires.observations c.requires.some) c.rows_of.ensures

pub returns-clause-tree : goal.returns-clause-tree
returns-clause-tree c =
    let n = c.self.inside.observations in
    let ss = map (λ s. s.value) c.self.inside.past.items in
    IfOk-weaker c.rows_of.result _ _ (λ v made.
    rows_mean n ss c.self.inside.classes c.self.inside.chosen.items c.self.invariant (map (λ r. r.items) v.items)
    (made ∙ ap (λ l. rows_before n (map (λ s. s.value) l) []) c.deref-past.ensures.value)
    c.args.self.now c.self.view_is) c.rows_of.ensures

pub returns-clause-classes : goal.returns-clause-classes
returns-clause-classes c =
    let n = c.self.inside.observations in
    let ss = map (λ s. s.value) c.self.inside.past.items in
    IfOk-weaker c.rows_of.result _ _ (λ v made.
    rows_each_class n ss c.self.inside.classes c.self.inside.chosen.items c.self.invariant
    (map (λ r. r.items) v.items)
    (made ∙ ap (λ l. rows_before n (map (λ s. s.value) l) []) c.deref-past.ensures.value)
    c.args.self.now c.self.view_is) c.rows_of.ensures
