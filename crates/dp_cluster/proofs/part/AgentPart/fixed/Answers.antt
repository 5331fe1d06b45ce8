use Rattle.std.proofs.Common.{◌≡◌, ◌<◌, ◌-◌, length, map, get_or, ap, subst, arith}
use Rattle.std.proofs.lemmas.List.{get_or_read, length-map}
use Rattle.dp_cluster.proofs.OwnNumbers.{action_is, has_action, stage_back}
use Rattle.dp_cluster.proofs.PastTrees.{stages_counted}
use Rattle.dp_cluster.proofs.part.AgentPart.fixed.Goals as goal

pub overflow_sub-past : goal.overflow_sub-past
overflow_sub-past c =
    let counted = stages_counted _ _ _ _ c.args.self.now c.self.view_is in
    let size = length-map c.self.inside.past.items (λ s. s.value) in
    let same = ap (λ l. length l) c.deref-past.ensures.value in
    omega (arith, counted, size, same, c.requires.stage)

pub overflow_sub-past-2 : goal.overflow_sub-past-2
overflow_sub-past-2 c =
    let counted = stages_counted _ _ _ _ c.args.self.now c.self.view_is in
    let size = length-map c.self.inside.past.items (λ s. s.value) in
    let same = ap (λ l. length l) c.deref-past.ensures.value in
    omega (arith, counted, size, same, c.requires.stage)

pub bounds-past-past : goal.bounds-past-past
bounds-past-past c =
    let counted = stages_counted _ _ _ _ c.args.self.now c.self.view_is in
    let size = length-map c.self.inside.past.items (λ s. s.value) in
    let same = ap (λ l. length l) c.deref-past.ensures.value in
    omega (arith, counted, size, same, c.requires.stage)

pub index-requires : goal.index-requires
index-requires c =
    let kept = c.self.inside.past.items in
    let ss = map (λ s. s.value) kept in
    let t = c.args.stage in
    let size = length-map kept (λ s. s.value) in
    let counted = stages_counted _ _ _ _ c.args.self.now c.self.view_is in
    let lt : t < length ss = let on = c.requires.stage in omega arith in
    let item = subst (λ l. c.index-past-past.result ≡ get_or l (length l - 1 - t) c.index-past-past.result)
    c.deref-past.ensures.value c.index-past-past.is in
    let read = stage_back kept t c.index-past-past.result c.as_ref-kept.result.now (omega arith) item
    c.as_ref-kept.ensures in
    let below = has_action c.self.inside.observations ss c.self.inside.classes c.self.inside.chosen.items
    c.self.invariant t lt c.as_ref-kept.result.now read c.args.self.now c.self.view_is c.args.class
    c.requires.class in
    omega (arith, below, c.as_ref-kept.result.now.actions.ok.0)

pub returns : goal.returns
returns c =
    let kept = c.self.inside.past.items in
    let ss = map (λ s. s.value) kept in
    let t = c.args.stage in
    let size = length-map kept (λ s. s.value) in
    let counted = stages_counted _ _ _ _ c.args.self.now c.self.view_is in
    let lt : t < length ss = let on = c.requires.stage in omega arith in
    let item = subst (λ l. c.index-past-past.result ≡ get_or l (length l - 1 - t) c.index-past-past.result)
    c.deref-past.ensures.value c.index-past-past.is in
    let read = stage_back kept t c.index-past-past.result c.as_ref-kept.result.now (omega arith) item
    c.as_ref-kept.ensures in
    let below = has_action c.self.inside.observations ss c.self.inside.classes c.self.inside.chosen.items
    c.self.invariant t lt c.as_ref-kept.result.now read c.args.self.now c.self.view_is c.args.class
    c.requires.class in
    let action = get_or_read c.as_ref-kept.result.now.actions.items c.args.class _ below c.index.ensures 0 in
    action_is c.self.inside.observations ss c.self.inside.classes c.self.inside.chosen.items c.self.invariant t lt
    c.as_ref-kept.result.now read c.args.self.now c.self.view_is c.args.class c.index.result.now action
