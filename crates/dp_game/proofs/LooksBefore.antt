-- The looks of a front before a choice serve the front after it.
use Rattle.std.proofs.Common.{◌≡◌, ℕ, suc, ◌-◌, ◌*◌, ◌<◌, List, length, get_or, drop, take, Option, None, Some}
use Rattle.std.proofs.Common.{Bool, true, false, cond, subst, sym, ap, ◌∙◌}
use Rattle.std.specs.Prelude.{unwrap_or}
use Rattle.std.proofs.lemmas.List.{length-map}
use Rattle.std.proofs.lemmas.List.FromFn.{length-map-range_with_len}
use Rattle.dp_base.specs.Sums.{greatest}
use Rattle.dp_spec.specs.Arithmetic.{Arithmetic, arithmetic}
use Rattle.dp_spec.specs.Front.{AgentFront, Front, class_counts}
use Rattle.dp_spec.specs.JointNumbers.{parts_of, product}
use Rattle.dp_spec.specs.Model.{Model}
use Rattle.dp_spec.specs.Quantities.{action_look_ahead_in}
use Rattle.dp_spec.specs.Steps.{chosen_front}
use Rattle.dp_spec.proofs.JointNumberLaws.{length-parts_of}
use Rattle.dp_cluster.specs.KeptFronts.{IsFrontOf, KeptFront}
use Rattle.dp_cluster.proofs.ChosenActions.{agents_of}
use Rattle.dp_cluster.proofs.OwnParts.{made_at}
use Rattle.dp_game.specs.Bounders.{KeptBounder}
use Rattle.dp_game.specs.DeeperLooks.{AreDeeperLooksOf, AreLooksBefore, AreLooksFor, KeptLooks, chosen_look_in}
use Rattle.dp_game.specs.Games.{allowed_actions, choices_in, own_counts}
use Rattle.dp_game.specs.Kept.{greatest_look_in}
use Rattle.dp_game.proofs.Choosing.{chosen_alike}
use Rattle.dp_game.proofs.OwnChoices.{as_many_choices, as_many_own, choices_of, length-choices_for}
use Rattle.dp_game.proofs.Rows.{rows_length}

-- what is there under a test
when_some : {X : Type 0} (t : Bool) (y x : X) → cond t (Some y) None ≡ Some x → x ≡ y
when_some true y x e = sym (ap (λ o. unwrap_or o x) e)
when_some false y x e = absurd (let no : None ≡ Some x = e in cc)

module _ (m : Model) (b : KeptBounder) (F : Front) (i c a : ℕ) where
  abbrev A : Arithmetic
  A = arithmetic b.is_exact m.scales

  abbrev G : Front
  G = chosen_front F i c a

  counts : class_counts F.agents ≡ class_counts G.agents
  counts = sym (chosen_alike A m b.horizon F i c a).counts

  same_count : product (class_counts F.agents) ≡ product (class_counts G.agents)
  same_count = ap product counts

  -- the greatest look-aheads are the same
  same_look : (look : ℕ) (wanted : List (Option ℕ)) (C : ℕ)
      → greatest_look_in A m (b.horizon - F.stage - 1) F look m.actions wanted C
      ≡ greatest_look_in A m (b.horizon - F.stage - 1) G look m.actions wanted C
  same_look look wanted C = λ j. greatest (λ a'. action_look_ahead_in A m (b.horizon - F.stage - 1)
      (sym (chosen_alike A m b.horizon F i c a).weights j C) a' look)
      (allowed_actions m.actions (take (length m.actions) (drop (C * length m.actions) wanted)))

  -- each row of choices has one for each agent
  row_long : (C : ℕ) → length (choices_in (choices_of F.agents) C) ≡ length F.agents
  row_long C = length-choices_for (choices_of F.agents) (parts_of (own_counts (choices_of F.agents)) C)
      (length-parts_of (own_counts (choices_of F.agents)) C ∙ as_many_own (choices_of F.agents))
      ∙ as_many_choices F.agents

  same_agents : length F.agents ≡ length G.agents
  same_agents =
      sym (length-map F.agents (λ (d : AgentFront). length d.chosen)) ∙ ap (λ ns. length ns) counts
      ∙ length-map G.agents (λ (d : AgentFront). length d.chosen)

  module _ (v : KeptLooks) (are : AreDeeperLooksOf m b F v) (agents : length G.agents ≡ length m.actions) where
    after : AreLooksFor m b G (suc b.look) v
    after = record {
      one_each = ap (λ l. length l) are.looks
          ∙ length-map-range_with_len _ 0 (product (class_counts F.agents)) ∙ same_count;
      as_many = ap (λ l. length l) are.wanted
          ∙ rows_length (choices_in (choices_of F.agents)) (length F.agents) (product (class_counts F.agents))
          (λ C p. row_long C)
          ∙ (λ j. same_count j * (same_agents ∙ agents) j);
      are = λ C x hC some.
          let below : C < product (class_counts F.agents) = rw same_count hC in
          when_some _ _ x (sym (made_at (product (class_counts F.agents)) C None (chosen_look_in A m
          (b.horizon - F.stage - 1) F (suc b.look) m.actions v.wanted) below)
          ∙ ap (λ l. get_or l C None) (sym are.looks) ∙ some)
          ∙ same_look (suc b.look) v.wanted C;
    }

pub looks_for : (m : Model) (b : KeptBounder) (k : KeptFront) (v : KeptLooks) → IsFrontOf m k
    → AreLooksBefore m b k.front v → AreLooksFor m b k.front (suc b.look) v
looks_for m b k v is before =
    let e = before.chosen in
    subst (λ (G : Front). AreLooksFor m b G (suc b.look) v) (sym e)
    (after m b before.before before.agent before.class before.action v before.looks
    (ap (λ (G : Front). length G.agents) (sym e) ∙ agents_of is.front.agents))
