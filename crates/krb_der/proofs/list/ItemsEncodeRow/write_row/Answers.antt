use Rattle.std.proofs.Common.{arith}
use Rattle.krb_der.proofs.ListWrites.{items_more, items_refused, items_all}
use Rattle.krb_der.proofs.list.ItemsEncodeRow.write_row.Goals as goal

pub returns-in-Err : goal.returns-in-Err
returns-in-Err g c =
    items_refused g.As.Item.kind g.As.Item.view c.args.self.now.0.now c.loop-item.item-index c.item-item.result (omega arith) c.item-item.is
    c.loop-item.invariant.0 c.loop-item.invariant.1 c.in-Err.ensures c.settle.ensures.answer c.settle.ensures.left

pub loop-item-preserved : goal.loop-item-preserved
loop-item-preserved g c = (
  c.loop-item.invariant.0,
  items_more g.As.Item.kind g.As.Item.view c.args.self.now.0.now c.loop-item.item-index c.item-item.result (omega arith) c.item-item.is
      c.loop-item.invariant.1 c.in_default.ensures.ok.0,
)

pub returns : goal.returns
returns g c =
    items_all g.As.Item.kind g.As.Item.view c.args.self.now.0.now c.loop-item.item-index (omega arith) c.loop-item.invariant.0 c.loop-item.invariant.1 c.limited.ensures.answer c.limited.ensures.left
