use Rattle.orders.proofs.Writing.{put-none, put-more, put_all}
use Rattle.orders.proofs.encode.put_entries.Goals as goal

pub loop-i-init : goal.loop-i-init
loop-i-init c = put-none c.args.out.now

pub loop-i-preserved : goal.loop-i-preserved
loop-i-preserved c = put-more c.args.out.now _ _ c.loop-i.i c.args.entries.now _ c.loop-i-test.true c.loop-i.invariant c.put_entry.ensures

pub returns : goal.returns
returns c = put_all c.args.out.now _ c.loop-i.i c.args.entries.now c.requires c.loop-i-test.false c.loop-i.invariant
