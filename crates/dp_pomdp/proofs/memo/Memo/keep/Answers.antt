use Rattle.std.proofs.Common.{sym, subst}
use Rattle.dp_pomdp.specs.Memos.{AreKept, IsKept}
use Rattle.dp_pomdp.proofs.memo.Memo.keep.Goals as goal

pub returns-in-Ok : goal.returns-in-Ok
returns-in-Ok c = λ f kept is.
    let right = subst (IsKept f) (sym c.in-Ok.ensures) is in
    let widened = subst (AreKept f) (sym c.widen.ensures) kept in
    subst (AreKept f) (sym c.point.ensures) (c.put-place.ensures f widened right)
