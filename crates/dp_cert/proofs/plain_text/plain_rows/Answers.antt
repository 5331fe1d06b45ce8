use Rattle.std.specs.List.{range_with_len}
use Rattle.dp_cert.proofs.RowParts.{first_step, rows_step}
use Rattle.dp_cert.proofs.plain_text.plain_rows.Goals as goal

pub loop-action-preserved : goal.loop-action-preserved
loop-action-preserved c =
    let l = c.loop-action in
    record {
      rows = rows_step c.args.observations l.action-index l.first (range_with_len 0 c.args.nexts)
          c.args.actions.now c.in_ok-next.next
          l.rows.items c.push.new.self.items c.loop-action-test.true c.in_ok-next.ensures.ok l.invariant.first
          c.in_ok-push.ensures.items
          l.invariant.rows;
      first = first_step l.action-index c.args.observations l.first l.invariant.first;
    }
