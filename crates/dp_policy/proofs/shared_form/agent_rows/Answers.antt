use Rattle.std.proofs.Common.{◌≡◌, ℕ, suc, ◌+◌, ◌-◌, ◌<◌, ◌≤◌, [], ◌∷◌, ◌++◌, List, add-one, cond, nat_lt, get_or}
use Rattle.std.proofs.Common.{length, map, refl, sym, ap, subst, ◌∙◌, arith}
use Rattle.std.proofs.lemmas.List.{length-map, map-append}
use Rattle.dp_spec.specs.SharedPolicy.{AgentRows, row_count}
use Rattle.dp_policy.specs.Renumbered.{AreRenumbered}
use Rattle.dp_policy.proofs.JoinedRows.{kept_rows, rows_alike, rows_of_agent, some_step}
use Rattle.dp_policy.proofs.ReducedStages.{AreReducedUpTo, kinds_few, kinds_follow, kinds_small, made_is_form}
use Rattle.dp_policy.proofs.ReducedStages.{next_kinds, no_kinds, reached_inside, reduced_first, reduced_step}
use Rattle.dp_policy.proofs.ReducedStages.{stage_by_kinds}
use Rattle.dp_policy.proofs.RowsOfTrees.{some_observation}
use Rattle.dp_policy.proofs.shared_form.agent_rows.Goals as goal

pub loop-stage-init : goal.loop-stage-init
loop-stage-init c =
    let S = get_or c.args.policy.now.rows c.args.agent [] in
    let h = c.args.policy.now.horizon in
    let rows = ap (map (λ r. r.items)) c.new-stages.ensures.items in
    let met = c.in_ok-push.ensures.items ∙ ap (λ (l : List ℕ). l ++ 0 ∷ []) c.new-reached.ensures.items in
    subst (λ (l : AgentRows). AreReducedUpTo S h 0 l c.push.new.self.items) (sym rows)
    (subst (AreReducedUpTo S h 0 []) (sym met) (reduced_first S h))

pub renumbered_rows-requires-clause-few : goal.renumbered_rows-requires-clause-few
renumbered_rows-requires-clause-few c =
    let S = get_or c.args.policy.now.rows c.args.agent [] in
    let m = c.args.model.now.model in
    let n = get_or m.observations c.args.agent 0 in
    let h = c.args.policy.now.horizon in
    let t = c.loop-stage.stage in
    let one = rows_of_agent c.requires.policy.agents c.args.agent c.requires.agent in
    let lt : c.loop-stage.stage < c.args.policy.now.horizon =
    omega (arith, c.horizon-stage-end.ensures.is, c.loop-stage-test.true) in
    let lists = map (λ s. s.items) c.deref.result.now in
    let all = map (λ s. s.items) c.in_ok-kinds.kinds.items in
    let K = c.kinds_of_stage-next.result.now in
    let same = ap (map (λ s. s.items)) c.deref.ensures.value in
    let count = length-map c.in_ok-kinds.kinds.items (λ s. s.items) ∙ c.in_ok-kinds.ensures.counted in
    let size = length-map c.deref.result.now (λ s. s.items) in
    let is = (λ (l : t + 1 < length lists). c.kinds_of_stage-next.ensures.is (omega (arith, l, size))
    ∙ ap (λ (k : ℕ). get_or lists (k - suc (t + 1)) []) (sym size)) in
    let none = (λ (l : length lists ≤ t + 1). c.kinds_of_stage-next.ensures.none (omega (arith, l, size))) in
    let kept = kept_rows m c.invariant.ensures.model h
    (omega (arith, c.horizon-stage-end.ensures.is, c.horizon-stage-end.ensures.limit)) c.args.policy.now.rows
    c.requires.policy in
    kinds_few S h t lists all K same count c.in_ok-kinds.ensures.kinds is none (λ u. kept.counts c.args.agent u)

pub renumbered_rows-requires-clause-reached : goal.renumbered_rows-requires-clause-reached
renumbered_rows-requires-clause-reached c =
    let S = get_or c.args.policy.now.rows c.args.agent [] in
    let n = get_or c.args.model.now.model.observations c.args.agent 0 in
    let h = c.args.policy.now.horizon in
    let t = c.loop-stage.stage in
    let one = rows_of_agent c.requires.policy.agents c.args.agent c.requires.agent in
    let lt : c.loop-stage.stage < c.args.policy.now.horizon =
    omega (arith, c.horizon-stage-end.ensures.is, c.loop-stage-test.true) in
    subst (λ (l : List ℕ). (j : ℕ) → j < length l → get_or l j 0 < row_count S t)
    (sym c.deref-in-loop-stage.ensures.value)
    (reached_inside _ n h S one t _ c.loop-stage.reached.items lt c.loop-stage.invariant)

pub renumbered_rows-requires-clause-following : goal.renumbered_rows-requires-clause-following
renumbered_rows-requires-clause-following c =
    let S = get_or c.args.policy.now.rows c.args.agent [] in
    let m = c.args.model.now.model in
    let n = get_or m.observations c.args.agent 0 in
    let h = c.args.policy.now.horizon in
    let t = c.loop-stage.stage in
    let one = rows_of_agent c.requires.policy.agents c.args.agent c.requires.agent in
    let lt : c.loop-stage.stage < c.args.policy.now.horizon =
    omega (arith, c.horizon-stage-end.ensures.is, c.loop-stage-test.true) in
    let lists = map (λ s. s.items) c.deref.result.now in
    let all = map (λ s. s.items) c.in_ok-kinds.kinds.items in
    let K = c.kinds_of_stage-next.result.now in
    let same = ap (map (λ s. s.items)) c.deref.ensures.value in
    let count = length-map c.in_ok-kinds.kinds.items (λ s. s.items) ∙ c.in_ok-kinds.ensures.counted in
    let size = length-map c.deref.result.now (λ s. s.items) in
    let is = (λ (l : t + 1 < length lists). c.kinds_of_stage-next.ensures.is (omega (arith, l, size))
    ∙ ap (λ (k : ℕ). get_or lists (k - suc (t + 1)) []) (sym size)) in
    let none = (λ (l : length lists ≤ t + 1). c.kinds_of_stage-next.ensures.none (omega (arith, l, size))) in
    kinds_follow S h t lists all K same count c.in_ok-kinds.ensures.kinds is none _ n one lt

pub renumbered_rows-requires-clause-kinds : goal.renumbered_rows-requires-clause-kinds
renumbered_rows-requires-clause-kinds c =
    let S = get_or c.args.policy.now.rows c.args.agent [] in
    let m = c.args.model.now.model in
    let n = get_or m.observations c.args.agent 0 in
    let h = c.args.policy.now.horizon in
    let t = c.loop-stage.stage in
    let one = rows_of_agent c.requires.policy.agents c.args.agent c.requires.agent in
    let lt : c.loop-stage.stage < c.args.policy.now.horizon =
    omega (arith, c.horizon-stage-end.ensures.is, c.loop-stage-test.true) in
    let lists = map (λ s. s.items) c.deref.result.now in
    let all = map (λ s. s.items) c.in_ok-kinds.kinds.items in
    let K = c.kinds_of_stage-next.result.now in
    let same = ap (map (λ s. s.items)) c.deref.ensures.value in
    let count = length-map c.in_ok-kinds.kinds.items (λ s. s.items) ∙ c.in_ok-kinds.ensures.counted in
    let size = length-map c.deref.result.now (λ s. s.items) in
    let is = (λ (l : t + 1 < length lists). c.kinds_of_stage-next.ensures.is (omega (arith, l, size))
    ∙ ap (λ (k : ℕ). get_or lists (k - suc (t + 1)) []) (sym size)) in
    let none = (λ (l : length lists ≤ t + 1). c.kinds_of_stage-next.ensures.none (omega (arith, l, size))) in
    kinds_small S h t lists all K same count c.in_ok-kinds.ensures.kinds is none

pub loop-stage-preserved : goal.loop-stage-preserved
loop-stage-preserved c =
    let S = get_or c.args.policy.now.rows c.args.agent [] in
    let m = c.args.model.now.model in
    let n = get_or m.observations c.args.agent 0 in
    let h = c.args.policy.now.horizon in
    let t = c.loop-stage.stage in
    let one = rows_of_agent c.requires.policy.agents c.args.agent c.requires.agent in
    let lt : c.loop-stage.stage < c.args.policy.now.horizon =
    omega (arith, c.horizon-stage-end.ensures.is, c.loop-stage-test.true) in
    let lists = map (λ s. s.items) c.deref.result.now in
    let all = map (λ s. s.items) c.in_ok-kinds.kinds.items in
    let K = c.kinds_of_stage-next.result.now in
    let same = ap (map (λ s. s.items)) c.deref.ensures.value in
    let count = length-map c.in_ok-kinds.kinds.items (λ s. s.items) ∙ c.in_ok-kinds.ensures.counted in
    let size = length-map c.deref.result.now (λ s. s.items) in
    let is = (λ (l : t + 1 < length lists). c.kinds_of_stage-next.ensures.is (omega (arith, l, size))
    ∙ ap (λ (k : ℕ). get_or lists (k - suc (t + 1)) []) (sym size)) in
    let none = (λ (l : length lists ≤ t + 1). c.kinds_of_stage-next.ensures.none (omega (arith, l, size))) in
    let reached = c.loop-stage.reached.items in
    let later = c.renumbered_rows.new.later.items in
    let rows = c.in_ok-rows.rows.items in
    let inside = reached_inside _ n h S one t _ reached lt c.loop-stage.invariant in
    let made = subst (λ (l : List ℕ). AreRenumbered S t K (length l) l rows later)
    c.deref-in-loop-stage.ensures.value c.in_ok-rows.ensures.rows in
    let stage = stage_by_kinds _ n h S one t lt (cond (nat_lt (suc t) h) n 0) refl K reached later rows
    (next_kinds S h t lists all K same count c.in_ok-kinds.ensures.kinds is none)
    (no_kinds S h t lists all K same count c.in_ok-kinds.ensures.kinds is none)
    inside made c.in_ok-rows.ensures.inside c.in_ok-rows.ensures.apart in
    let more = ap (map (λ r. r.items)) c.in_ok-push-2.ensures.items
    ∙ map-append (λ r. r.items) c.loop-stage.stages.items (c.in_ok-rows.rows ∷ []) in
    subst (λ (l : AgentRows). AreReducedUpTo S h (t + 1) l later) (sym more)
    (rw add-one (reduced_step _ n h S one t _ reached later rows c.loop-stage.invariant stage))

pub returns : goal.returns
returns c =
    let S = get_or c.args.policy.now.rows c.args.agent [] in
    let m = c.args.model.now.model in
    let is = c.invariant.ensures.model in
    let n = get_or m.observations c.args.agent 0 in
    let h = c.args.policy.now.horizon in
    let one = rows_of_agent c.requires.policy.agents c.args.agent c.requires.agent in
    let alike = is.sizes.alike in
    let rows = rows_alike c.requires.policy.agents in
    let made = map (λ r. r.items) c.loop-stage.stages.items in
    let end : c.loop-stage.stage ≡ c.args.policy.now.horizon =
    omega (arith, c.horizon-stage-end.ensures.is, c.loop-stage-test.false, c.loop-stage.auto.stage-end) in
    made_is_form _ n h S one (some_observation m is c.args.agent (omega (arith, alike, rows, c.requires.agent)))
    (some_step m is h c.args.policy.now.rows c.requires.policy) made c.loop-stage.reached.items
    (subst (λ (k : ℕ). AreReducedUpTo S h k made c.loop-stage.reached.items) end c.loop-stage.invariant)
