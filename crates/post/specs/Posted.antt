-- What was sent. Assumes nothing.
use Rattle.std.specs.Prelude.{Bool, true, false, List, [], ◌∷◌, ◌++◌}
use Rattle.protocol.specs.declared.Name.{Name}
use Rattle.protocol.specs.Net.{Hold, Yes, Told}
use Rattle.orders.specs.Order.{Order, Msg, same_order, any_by}
use Rattle.names.specs.Index.{in_index}
use Rattle.post.specs.Holds.{orders_of}
use Rattle.post.specs.Yeses.{said_yes}
use Rattle.post.specs.declared.Post.{Post}

-- the orders of the hold messages, in the order of sending
abbrev pub holds_of : Post → List Order
holds_of p = orders_of p.holds

-- these, with the order of the message if it is a hold
abbrev pub with_hold : Msg → List Order → List Order
with_hold (Hold t) ts = ts ++ t ∷ []
with_hold (Yes j d) ts = ts
with_hold (Told d b) ts = ts

-- it was told that the order of this name is done, or that it is not
abbrev pub told : Post → Bool → Name → Bool
told p true d = in_index p.told_yes d
told p false d = in_index p.told_no d

-- the message was sent
abbrev pub posted : Post → Msg → Bool
posted p (Hold t) = any_by (same_order t) (holds_of p)
posted p (Yes j d) = said_yes p.yeses j d
posted p (Told d b) = told p b d
