use Rattle.std.proofs.Common.{◌<◌, pos, map, length, sym, ap, ◌∙◌, arith, rules}
use Rattle.std.specs.Int.{w128}
use Rattle.std.proofs.lemmas.Int.{to_z-of_z}
use Rattle.dp_cluster.proofs.AdvancedParts.{some_class}
use Rattle.dp_cluster.specs.Joins.{own_count}
use Rattle.dp_spec.specs.Arithmetic.{arithmetic}
use Rattle.dp_spec.specs.Qualities.{spread_of, upper_weight}
use Rattle.std.proofs.lemmas.List.{get_or_default}
use Rattle.dp_search.specs.Rules.{place_of}
use Rattle.dp_search.proofs.PlaceLists.{class_pushed, class_skipped, none_is, one_longer, place_with, some_is}
use Rattle.dp_search.proofs.PlaceLists.{told_is}
use Rattle.dp_search.proofs.UpperWeights.{all_small, kept_is_upper}
use Rattle.dp_search.proofs.front_places.push_places.Goals as goal
use Rattle.dp_search.proofs.front_places.push_places.Goals.{then-is_none+in_ok-push, else-is_none}

pub class_weights_of-requires-clause-some_class : goal.class_weights_of-requires-clause-some_class
class_weights_of-requires-clause-some_class c =
    let k = c.args.front.now in
    some_class c.args.model.now.model k.horizon k.front c.requires.of_model.model c.requires.of_model.front

pub class_weights_of-requires-clause-small : goal.class_weights_of-requires-clause-small
class_weights_of-requires-clause-small c =
    all_small c.args.model.now.model c.args.front.now c.requires.of_model c.requires.stage
    c.requires.game.stage_cells

pub loop-class-preserved : goal.loop-class-preserved
loop-class-preserved c =
    let k = c.args.front.now in
    let m = c.args.model.now.model in
    let A = arithmetic k.is_exact m.scales in
    let h = k.horizon in
    let look = c.args.look in
    let i = c.args.agent in
    let s = c.args.spreads in
    let cl = c.loop-class.class in
    let pre = map place_of c.args.places.now.items in
    let before = c.loop-class.invariant.1 in
    let below : cl < own_count k i = omega (arith, c.classes-class-end.ensures, c.loop-class-test.true) in
    elim c.if-is_none.branch [
      | then-is_none+in_ok-push w ↦
          let none = sym c.action.ensures ∙ none_is c.action.result (search (
            rules,
            c.is_none.ensures,
            w.if-is_none.true,
          )) in
          let within : cl < length c.in_ok-weights.weights.items =
          omega (arith, below, c.in_ok-weights.ensures.one_each) in
          let weight = to_z-of_z w128 _ (search (rules, w.index-weight.type_inv)) ∙ w.index-weight.ensures
          ∙ get_or_default c.in_ok-weights.weights.items cl _ (pos 0) within
          ∙ c.in_ok-weights.ensures.are cl below
          ∙ kept_is_upper m k c.requires.of_model c.requires.stage i cl in
          let told = told_is s i cl (upper_weight A m k.front i cl) _ (spread_of A m h look k.front i cl)
          w.told_spread-spread.ensures.is in (
            w.game-is ∙ w.told_spread-spread.ensures.game ∙ c.loop-class.invariant.0,
            ap (λ v. map place_of v.items) w.places-is
                ∙ class_pushed A m h look k.front s i cl c.requires.agent pre
                c.loop-class.places.items before _ w.push.new.self.items none
                (ap (λ x. place_with i cl x (pos w.told_spread-spread.result)) weight ∙ told)
                w.in_ok-push.ensures.items,
            (let more = one_longer c.loop-class.places.items c.if-is_none.places.items _
                (ap (λ v. v.items) w.places-is ∙ w.in_ok-push.ensures.items) in
                let few = c.loop-class.invariant.2 in omega arith),
          )
      | else-is_none w ↦
          let some = some_is c.action.result w.if-is_none.ensures in (
            w.game-is ∙ c.loop-class.invariant.0,
            ap (λ v. map place_of v.items) w.places-is
                ∙ class_skipped A m h look k.front s i cl c.requires.agent pre c.loop-class.places.items before
                some.0
                (sym c.action.ensures ∙ some.1),
            (let same = ap (λ v. length v.items) w.places-is in
                let few = c.loop-class.invariant.2 in omega arith),
          )
    ]
