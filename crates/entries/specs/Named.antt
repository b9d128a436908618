-- The order that the code's struct stands for. Assumes nothing.
use Rattle.orders.specs.Order.{Order}
use Rattle.orders.specs.Values.{order_of}
use Rattle.entries.specs.declared.named.NamedOrder.{NamedOrder}

abbrev pub named_of : NamedOrder → Order
named_of k = order_of k.name k.order
