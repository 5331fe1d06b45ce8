use Rattle.dp_cluster.proofs.AdvancedParts.{some_class}
use Rattle.dp_cluster.proofs.AlikeClasses.{vectors_next}
use Rattle.dp_cluster.proofs.front.Front.own_vectors.Goals as goal

pub places-places-requires-clause-some_class : goal.places-places-requires-clause-some_class
places-places-requires-clause-some_class c =
    let m = c.requires.of_model.0 in
    let is = c.requires.of_model.1 in
    some_class m c.args.self.now.horizon c.args.self.now.front is.model is.front

pub loop-class-preserved : goal.loop-class-preserved
loop-class-preserved c = λ m is.
    vectors_next m c.args.self.now.horizon c.args.self.now.front is.front c.args.agent c.requires.agent
    c.loop-class.class _ _ _ (c.loop-class.invariant m is) (c.in_ok-own_vector.ensures m is)
    c.in_ok-push.ensures.items
