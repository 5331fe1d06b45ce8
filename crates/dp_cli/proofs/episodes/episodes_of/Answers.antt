use Rattle.std.proofs.Common.{◌≡◌, ℕ, ◌<◌, List, [], rules, length, get_or, ap, ◌∙◌, arith}
use Rattle.rand_pcg.specs.Lcg.{increment_of, started}
use Rattle.rand_pcg.specs.Pcg.{multiplier_128}
use Rattle.dp_spec.specs.PolicyTree.{root_action}
use Rattle.dp_spec.specs.SharedPolicy.{unfolded_tree}
use Rattle.dp_laws.proofs.SharedTrees.{unfolded_is_policy}
use Rattle.dp_policy.specs.SharedRows.{remaining_after}
use Rattle.dp_policy.proofs.JoinedRows.{rows_alike}
use Rattle.dp_cli.proofs.ActorsOfRows.{may_ask, tree_of_rows}
use Rattle.dp_cli.proofs.episodes.episodes_of.Goals as goal

pub new-actor-requires : goal.new-actor-requires
new-actor-requires c =
    let p = c.args.policy.now in
    let i = c.loop-agent.agent in
    let there : i < length p.rows = omega (arith, c.agents-agent-end.ensures.is, c.loop-agent-test.true) in
    record {
      rule = (
        unfolded_tree (get_or p.rows i []) 0,
        record {
          callable = λ history has a b e f h k.
              let ask = may_ask c.args.model.now.model p.horizon p.rows c.requires i there history.now has in
              (there, (ask.shorter, ask.seen));
          answers = λ history action has returns.
              let told : action ≡ root_action (remaining_after
              (unfolded_tree (get_or p.rows i []) 0) returns.shown.now) =
              search (rules, returns.says) in
              told ∙ ap (λ (os : List ℕ). root_action (remaining_after (unfolded_tree (get_or p.rows i []) 0) os))
              returns.shows;
        },
      );
    }

pub played-requires : goal.played-requires
played-requires c =
    let m = c.args.model.now.model in
    let p = c.args.policy.now in
    let value = c.deref.ensures.value in
    let all : c.loop-agent.agent ≡ length p.rows =
    omega (arith, c.agents-agent-end.ensures.is, c.loop-agent-test.false, c.loop-agent.auto.agent-end) in
    let counted : length c.deref.result.now ≡ length p.rows =
    ap length value ∙ c.loop-agent.invariant.all ∙ all in
    record {
      policy = unfolded_is_policy m p.horizon p.rows c.requires;
      one_each = counted ∙ rows_alike c.requires.agents;
      in_order = λ i d lt. rw value (c.loop-agent.invariant.in_order i d (omega (arith, lt, counted, all)));
      answer = λ i d lt.
          let inside : i < c.loop-agent.agent = omega (arith, lt, counted, all) in
          let there : i < length p.rows = omega (arith, lt, counted) in
          let agent : (get_or c.deref.result.now i d).rule.1 ≡ i =
          rw value (c.loop-agent.invariant.of_agent i d inside)
          in
          let of_policy : (get_or c.deref.result.now i d).rule.0.now ≡ p =
          rw value (c.loop-agent.invariant.of_policy i d inside) in
          rw (tree_of_rows p.rows i there) (record {
            callable = λ history has a b e f h k.
                let ask = may_ask m p.horizon p.rows c.requires i there history.now has in
                rw (agent, of_policy) (there, (ask.shorter, ask.seen));
            answers = λ history action has returns.
                let rule = (get_or c.deref.result.now i d).rule in
                let told : action ≡ root_action (remaining_after
                (unfolded_tree (get_or rule.0.now.rows rule.1 []) 0) returns.shown.now) =
                search (rules, returns.says) in
                rw (agent, of_policy) at told
                ∙ ap (λ (os : List ℕ). root_action (remaining_after (unfolded_tree (get_or p.rows i []) 0) os))
                returns.shows;
          });
    }

pub returns : goal.returns
returns c =
    let seeded : c.new-rng.result ≡ started 128 multiplier_128 c.args.seed (increment_of 128 0) =
    c.new-rng.ensures ∙ ap (λ seed. started 128 multiplier_128 seed 1) c.from.ensures in
    rw seeded at c.played.ensures
