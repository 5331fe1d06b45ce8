use Rattle.std.proofs.Common.{map, sym, subst}
use Rattle.dp_cluster.specs.AgentParts.{HaveNoLinks}
use Rattle.dp_cluster.proofs.OwnNumbers.{own_numbers, shared_class}
use Rattle.dp_cluster.proofs.part.AgentPart.has_own_numbers.Goals as goal

pub returns-clause-yes : goal.returns-clause-yes
returns-clause-yes c = λ yes.
    own_numbers c.self.inside.observations (map (λ s. s.value) c.self.inside.past.items) c.self.inside.classes
    c.self.inside.chosen.items c.self.invariant c.args.self.now c.self.view_is
    (subst (λ l. HaveNoLinks (map (λ s. s.value) l)) c.deref-past.ensures.value (c.have_no_links.ensures.yes yes))

pub returns-clause-no : goal.returns-clause-no
returns-clause-no c = λ linked.
    shared_class c.self.inside.observations (map (λ s. s.value) c.self.inside.past.items) c.self.inside.classes
    c.self.inside.chosen.items c.self.invariant c.args.self.now c.self.view_is c.requires
    (λ none. c.have_no_links.ensures.no linked
    (subst (λ l. HaveNoLinks (map (λ s. s.value) l)) (sym c.deref-past.ensures.value) none))
