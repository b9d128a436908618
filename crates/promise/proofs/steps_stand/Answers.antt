use Rattle.protocol.proofs.Runs.{faithful}
use Rattle.protocol.proofs.Exactly.{exact}
use Rattle.protocol.proofs.Replays.{replays}
use Rattle.protocol.proofs.Opening.{lawful-at}
use Rattle.protocol.proofs.Limits.{opens_at}
use Rattle.orders.specs.Order.{entry_model}
use Rattle.promise.proofs.OrderLaws.{order-laws}
use Rattle.promise.proofs.steps_stand.Goals as goal

pub returns : goal.returns
returns c = record { faithful = faithful entry_model order-laws; exact = exact entry_model; replays = replays entry_model; lawful = lawful-at entry_model order-laws; opens = opens_at entry_model order-laws }
