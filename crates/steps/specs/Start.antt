-- How a house comes up: with the whole records that its disk has, a torn end cut off, began written and synced. Assumes nothing.
use Rattle.std.specs.Prelude.{◌≡◌, ℕ, ◌+◌, ◌<◌, ◌≤◌, true, ◌⊎◌, List, [], ◌∷◌, ◌++◌, take, drop, Ok, Err, Result}
use Rattle.protocol.specs.Model.{most_starts, most_bytes}
use Rattle.protocol.specs.House.{Began}
use Rattle.protocol.specs.State.{State, state_of, opens}
use Rattle.orders.specs.Order.{Rec, entry_model}
use Rattle.orders.specs.Refusals.{number_of}
use Rattle.orders.specs.Parse.{cut, parse}
use Rattle.orders.specs.File.{all_bytes}
use Rattle.orders.specs.declared.Refusal.{Refusal}
use Rattle.ledger.specs.declared.Ledger.{Ledger}
use Rattle.ledger.specs.View.{view}
use Rattle.ledger.specs.Opening.{Cause}
use Rattle.steps.specs.declared.broken.Trouble.{Trouble}
use Rattle.steps.specs.declared.broken.Trouble.TheVariants.{Refused, NoMemory, Down}
use Rattle.steps.specs.Hosts.{World}
use Rattle.steps.specs.Ties.{Tied}

-- the bytes are those of whole records, none refused, and then of no whole record; v is what the records say
pub record Holds (n i : ℕ) (bs : List ℕ) (v : State entry_model) : Type 0 where
  pub records : List Rec
  pub bytes : take v.bytes bs ≡ all_bytes records
  pub end : parse n (drop v.bytes bs) ≡ cut
  pub opened : opens entry_model i records ≡ true
  pub state : v ≡ state_of entry_model i records

-- the house is up: its file is the records that it found and one began, all durable, and it knows what they say
pub record Up (n i : ℕ) (x y : World) (v : State entry_model) : Type 0 where
  pub found : State entry_model
  pub holds : Holds n i x.file found
  pub file : y.file ≡ all_bytes (holds.records ++ (Began ∷ []))
  pub sent : y.sent ≡ x.sent
  pub state : v ≡ state_of entry_model i (holds.records ++ (Began ∷ []))
  pub tied : Tied i y v

-- why it stays down: the file is refused, it began 65,535 times, or there is no room for began
abbrev pub StaysDown : ℕ → ℕ → List ℕ → Refusal → Type 0
StaysDown n i bs f =
    Cause n i bs f ⊎ ((v : State entry_model) × Holds n i bs v × (((most_starts ≤ v.began) × (number_of f ≡ 3)) ⊎ ((most_bytes < v.bytes + 1) × (number_of f ≡ 15))))

abbrev pub OpenedLog : ℕ → ℕ → List ℕ → (before after : List ℕ) → Result Ledger Trouble → Type 0
OpenedLog n i bs before after (Ok l) = (l.house ≡ i) × Holds n i bs (view l after)
OpenedLog n i bs before after (Err (Refused f)) = (after ≡ before) × Cause n i bs f
OpenedLog n i bs before after (Err NoMemory) = after ≡ before
OpenedLog n i bs before after (Err Down) = ⊥

abbrev pub CameUp : ℕ → ℕ → World → World → List ℕ → Result Ledger Trouble → Type 0
CameUp n i x y shelves (Ok l) = (l.house ≡ i) × Up n i x y (view l shelves)
CameUp n i x y shelves (Err (Refused f)) = (y ≡ x) × StaysDown n i x.file f
CameUp n i x y shelves (Err NoMemory) = y ≡ x
CameUp n i x y shelves (Err Down) = y.sent ≡ x.sent
