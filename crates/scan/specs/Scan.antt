-- Where the whole records of a file end. Assumes nothing.
use Rattle.std.specs.Prelude.{◌≡◌, ℕ, ◌≤◌, List, length, drop, Ok, Err, Result}
use Rattle.orders.specs.declared.Refusal.{Refusal}
use Rattle.orders.specs.Order.{Rec}
use Rattle.orders.specs.Refusals.{number_of}
use Rattle.orders.specs.Parse.{cut, bad, parse}
use Rattle.orders.specs.File.{Reached}

-- the place behind the last whole record, with nothing or a cut record behind it; or why the first record that isn't one is refused
abbrev pub Ends : ℕ → List ℕ → Result ℕ Refusal → Type 0
Ends n bs (Ok at) = (at ≤ length bs) × ((rs : List Rec) × Reached n bs rs (drop at bs)) × (parse n (drop at bs) ≡ cut)
Ends n bs (Err f) = (rs : List Rec) × (xs : List ℕ) × Reached n bs rs xs × (parse n xs ≡ bad (number_of f))
