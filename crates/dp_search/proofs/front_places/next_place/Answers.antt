use Rattle.std.proofs.Common.{◌≤◌, ◌+◌, arith}
use Rattle.dp_search.proofs.RunPlaces.{first_run, in_run, next_run}
use Rattle.dp_search.proofs.front_places.next_place.Goals as goal

pub returns-then-inside-width : goal.returns-then-inside-width
returns-then-inside-width c d ec ex = in_run d c.args.width c.args.count _ _ ec ex c.if-inside-width.true

pub returns-then-class-count : goal.returns-then-class-count
returns-then-class-count c d ec ex =
    let le : c.args.width ≤ c.args.place.inside + 1 = let not = c.if-inside-width.false in omega arith in
    next_run d c.args.width c.args.count _ _ ec ex c.requires.inside le c.if-class-count.true

pub returns-else-class-count : goal.returns-else-class-count
returns-else-class-count c d ec ex =
    let le : c.args.width ≤ c.args.place.inside + 1 = let not = c.if-inside-width.false in omega arith in
    let last : c.args.count ≤ c.args.place.class + 1 = let not = c.if-class-count.false in omega arith in
    first_run d c.args.width c.args.count _ _ ec ex c.requires.inside le c.requires.class last
