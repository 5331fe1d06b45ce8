use Rattle.std.proofs.Common.{◌≡◌, ℕ, suc, ◌-◌, ◌∷◌, [], List, get_or, map, sym, ap, subst, ◌∙◌, arith}
use Rattle.std.proofs.lemmas.List.{length-map, map-append}
use Rattle.dp_policy.specs.Kinds.{AreKinds}
use Rattle.dp_policy.proofs.KindsOfRows.{kinds_push}
use Rattle.dp_policy.proofs.kinds.agent_kinds.Goals as goal

pub loop-back-preserved : goal.loop-back-preserved
loop-back-preserved c =
    let S = get_or c.args.policy.now.rows c.args.agent [] in
    let h = c.args.policy.now.horizon in
    let n = c.loop-back.back in
    let lists = map (λ s. s.items) c.loop-back.all.items in
    let more = ap (map (λ s. s.items)) c.in_ok-push.ensures.items
    ∙ map-append (λ s. s.items) c.loop-back.all.items (c.in_ok-kinds.kinds ∷ []) in
    let e : c.horizon.result - 1 - n ≡ h - suc n = omega (arith, c.horizon.ensures.is) in
    let counted = length-map c.loop-back.all.items (λ s. s.items) in
    record {
      counted = omega (arith, c.in_ok-push.ensures.len, c.loop-back.invariant.counted);
      kinds = λ k lt. subst (λ (l : List (List ℕ)). AreKinds S (h - suc k) (get_or l k [])) (sym more)
          (kinds_push S h n (c.horizon.result - 1 - n) lists c.in_ok-kinds.kinds.items
          (counted ∙ c.loop-back.invariant.counted) c.loop-back.invariant.kinds e c.in_ok-kinds.ensures k lt);
    }
