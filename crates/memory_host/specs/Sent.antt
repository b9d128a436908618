-- What a host in memory stands for. Assumes nothing.
use Rattle.std.specs.Prelude.{map, vec_items}
use Rattle.orders.specs.Order.{Msg}
use Rattle.orders.specs.Values.{msg_of}
use Rattle.steps.specs.Hosts.{World}
use Rattle.memory_host.specs.declared.memory.Sent.{Sent}
use Rattle.memory_host.specs.declared.memory.MemoryHost.{MemoryHost}

-- the message that the host's record of it stands for
abbrev pub sent_of : Sent → Msg
sent_of s = msg_of s.message s.order

-- its log, how much of it is durable, and what it has sent
abbrev pub world_of : MemoryHost → World
world_of h = record { file = vec_items h.log; durable = h.durable; sent = map sent_of (vec_items h.sent) }
