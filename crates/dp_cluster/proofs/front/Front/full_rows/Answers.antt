use Rattle.std.proofs.Common.{◌≡◌, ◌≤◌, ℕ, [], ◌∷◌, length, map, get_or, sym, ap, subst, ◌∙◌, arith}
use Rattle.std.proofs.lemmas.List.{length-append, length-map, map_push}
use Rattle.dp_spec.specs.SharedPolicy.{IsSharedOf, unfolded}
use Rattle.dp_policy.specs.SharedRows.{HorizonRows}
use Rattle.dp_cluster.specs.PastClasses.{HasRowEachClass, no_classes}
use Rattle.dp_cluster.proofs.FullFronts.{some_where, value_where}
use Rattle.dp_cluster.proofs.JoinedRows.{rows_full, rows_more, rows_shared}
use Rattle.dp_cluster.proofs.front.Front.full_rows.Goals as goal

pub loop-agent-preserved : goal.loop-agent-preserved
loop-agent-preserved c =
    let rows = c.loop-agent.rows.items in
    let new = c.in_ok-rows_of.field-0 in
    let size = length-map rows (λ s. map (λ r. r.items) s.items) in record {
      count = let more = length-append rows (new ∷ []) in omega (arith, ap length c.in_ok-push.ensures.items);
      are = rows_more c.args.m.now.model c.args.self.now (map (λ s. map (λ r. r.items) s.items) rows) _
          c.loop-agent.agent (map (λ r. r.items) new.items)
          (ap (map (λ s. map (λ r. r.items) s.items)) c.in_ok-push.ensures.items
          ∙ map_push (λ s. map (λ r. r.items) s.items) rows new) (omega arith)
          c.loop-agent.invariant.are c.in_ok-rows_of.ensures;
    }

pub unwrap-requires : goal.unwrap-requires
unwrap-requires c =
    let k = c.args.self.now in
    let m = c.args.m.now.model in
    let rows = c.loop-agent.rows.items in
    let p = map (λ s. map (λ r. r.items) s.items) rows in
    let size = length-map rows (λ s. map (λ r. r.items) s.items) in
    let all : length p ≡ length k.front.agents = omega
    (arith, c.agents-agent-end.ensures, c.loop-agent-test.false) in
    let shared = rows_shared m k c.requires.of_model c.invariant-2.ensures c.requires.full p all
    (λ j lt. c.loop-agent.invariant.are j (omega arith)) in
    some_where c.join_rows.result _ _ c.join_rows.ensures
    (subst (λ (h : ℕ). IsSharedOf m h p) (sym c.horizon.ensures) shared)

pub returns-clause-of_model : goal.returns-clause-of_model
returns-clause-of_model c =
    let k = c.args.self.now in
    let m = c.args.m.now.model in
    let rows = c.loop-agent.rows.items in
    let p = map (λ s. map (λ r. r.items) s.items) rows in
    let size = length-map rows (λ s. map (λ r. r.items) s.items) in
    let all : length p ≡ length k.front.agents = omega
    (arith, c.agents-agent-end.ensures, c.loop-agent-test.false) in
    let shared = rows_shared m k c.requires.of_model c.invariant-2.ensures c.requires.full p all
    (λ j lt. c.loop-agent.invariant.are j (omega arith)) in
    let is = value_where c.join_rows.result _ _ c.unwrap.result c.join_rows.ensures c.unwrap.ensures in
    subst (λ (r : HorizonRows). IsSharedOf m k.horizon r.rows) (sym is) shared

pub returns-clause-policy : goal.returns-clause-policy
returns-clause-policy c =
    let k = c.args.self.now in
    let m = c.args.m.now.model in
    let rows = c.loop-agent.rows.items in
    let p = map (λ s. map (λ r. r.items) s.items) rows in
    let size = length-map rows (λ s. map (λ r. r.items) s.items) in
    let all : length p ≡ length k.front.agents = omega
    (arith, c.agents-agent-end.ensures, c.loop-agent-test.false) in
    let is = value_where c.join_rows.result _ _ c.unwrap.result c.join_rows.ensures c.unwrap.ensures in
    ap (λ (r : HorizonRows). unfolded r.rows) is
    ∙ rows_full m k c.requires.of_model c.invariant-2.ensures c.requires.full p all
    (λ j lt. c.loop-agent.invariant.are j (omega arith))

pub returns-clause-classes : goal.returns-clause-classes
returns-clause-classes c = λ i t lt early.
    let k = c.args.self.now in
    let m = c.args.m.now.model in
    let rows = c.loop-agent.rows.items in
    let behind = c.invariant-2.ensures.past_agents in
    let all : length k.front.agents ≤ c.loop-agent.agent = omega
    (arith, c.agents-agent-end.ensures, c.loop-agent-test.false) in
    let is = value_where c.join_rows.result _ _ c.unwrap.result c.join_rows.ensures c.unwrap.ensures in
    subst (λ (r : HorizonRows). HasRowEachClass (get_or m.observations i 0) (get_or r.rows i []) t
    (get_or (get_or k.past i []) t no_classes)) (sym is)
    ((c.loop-agent.invariant.are i (omega arith)).classes t early)
