-- The worked cases and the limits, by computation.
use mathlib.Core.Path.{refl}
use Rattle.protocol.specs.House.{starts, holding, stock_from, ever_held, is_in, without, done_of, ruled}
use Rattle.protocol.specs.Net.{asked, voted, drop_ask}
use Rattle.protocol.specs.State.{file_size}
use Rattle.protocol.specs.Plan.{unless, is_held_back, ask_of, all_said, added, whole_in}
use Rattle.protocol.specs.Run.{was_sent, rulings}
use Rattle.orders.specs.Order.{houses_of, same_entries, entries_ok, lists_ok}
use Rattle.promise.specs.Case.{play_all, shelves_are, names_are, held_are, starts_are, pass}
use Rattle.promise.specs.Cases.{AllRows}
use Rattle.promise.specs.Limits.{many, copies, AllRefusals, AllFull}

pub all-rows : AllRows
unfolding starts holding stock_from ever_held is_in without done_of ruled asked voted drop_ask file_size unless is_held_back ask_of all_said added whole_in was_sent rulings houses_of same_entries entries_ok lists_ok play_all shelves_are names_are held_are starts_are pass
all-rows = refl

pub all-refusals : AllRefusals
unfolding starts holding stock_from ever_held is_in without done_of ruled asked voted drop_ask file_size unless is_held_back ask_of all_said added whole_in was_sent rulings houses_of same_entries entries_ok lists_ok play_all shelves_are names_are held_are starts_are pass many
all-refusals = refl

pub all-full : AllFull
unfolding copies starts file_size unless whole_in
all-full = refl
