-- The limits of a line's numbers where there are n houses. Assumes nothing.
use Rattle.std.specs.Prelude.{ℕ, Bool, true, ◌&&◌, nat_lt}
use Rattle.protocol.specs.Model.{houses_ok, name_ok}
use Rattle.orders.specs.Order.{order_ok}
use Rattle.script.specs.Meaning.{Meaning, skip, houses, submit, hold, vote, rule, give_up, answer, learn, sync, stop, show}

-- each house is one of the n, and what is named may be a name or an order there
abbrev pub fits : ℕ → Meaning → Bool
fits n skip = true
fits n (houses k) = true
fits n (submit h o) = nat_lt h n && order_ok n o
fits n (hold h m) = nat_lt h n && name_ok n m
fits n (vote h j m) = nat_lt h n && (nat_lt j n && name_ok n m)
fits n (rule h m) = nat_lt h n && name_ok n m
fits n (give_up h m) = nat_lt h n && name_ok n m
fits n (answer h m) = nat_lt h n && name_ok n m
fits n (learn h b m) = nat_lt h n && name_ok n m
fits n (sync h) = nat_lt h n
fits n (stop h k) = nat_lt h n
fits n show = true

-- n may be a number of houses, too
abbrev pub in_range : ℕ → Meaning → Bool
in_range n m = houses_ok n && fits n m
