-- What a host has, and what its calls do. Assumes nothing.
use Rattle.std.specs.Prelude.{◌≡◌, ℕ, true, false, cond, List, [], ◌∷◌, ◌++◌, length, take, Ok, Err, Result}
use Rattle.protocol.specs.House.{ever_held, ruled}
use Rattle.protocol.specs.Net.{Hold, Yes, Told}
use Rattle.protocol.specs.Plan.{Output}
use Rattle.orders.specs.Order.{Rec, Msg, entry_model}
use Rattle.orders.specs.File.{all_bytes}
use Rattle.steps.specs.declared.broken.Broken.{Broken}

-- file: the bytes of the log; durable: how many of them are on the disk for good; sent: the messages sent, the latest last
pub record World : Type 0 where
  pub file : List ℕ
  pub durable : ℕ
  pub sent : List Msg

-- what a message says that the disk must have for good: bs are the bytes of records that hold the order, or rule it
abbrev pub Backed : Msg → List ℕ → Type 0
Backed (Hold t) bs = Unit {0}
Backed (Yes h d) bs = (rs : List Rec) × (bs ≡ all_bytes rs) × (ever_held entry_model d rs ≡ true)
Backed (Told d true) bs = (rs : List Rec) × (bs ≡ all_bytes rs) × (ruled entry_model d rs ≡ true)
Backed (Told d false) bs = Unit {0}

-- the durable bytes
abbrev pub on_disk : World → List ℕ
on_disk w = take w.durable w.file

abbrev pub appended : List ℕ → World → World
appended bs w = record { file = w.file ++ bs; durable = w.durable; sent = w.sent }

abbrev pub synced : World → World
synced w = record { file = w.file; durable = length w.file; sent = w.sent }

abbrev pub spoken : List Msg → World → World
spoken ms w = record { file = w.file; durable = w.durable; sent = w.sent ++ ms }

-- a cut; what of the rest is durable then is not said
abbrev pub Cuts : ℕ → World → World → Result (Unit {0}) Broken → Type 0
Cuts len x y (Ok _) = (y.file ≡ take len x.file) × (y.sent ≡ x.sent)
Cuts len x y (Err _) = y.sent ≡ x.sent

-- an append; one that fails may have written some first part, and says nothing
abbrev pub Appends : List ℕ → World → World → Result (Unit {0}) Broken → Type 0
Appends bs x y (Ok _) = y ≡ appended bs x
Appends bs x y (Err _) = y.sent ≡ x.sent

-- a sync; one that fails says nothing
abbrev pub Syncs : World → World → Result (Unit {0}) Broken → Type 0
Syncs x y (Ok _) = y ≡ synced x
Syncs x y (Err _) = y.sent ≡ x.sent

-- a message; where sending fails it may have gone out or not
abbrev pub Sends : Msg → World → World → Result (Unit {0}) Broken → Type 0
Sends m x y (Ok _) = y ≡ spoken (m ∷ []) x
Sends m x y (Err _) = (k : ℕ) × (y.sent ≡ x.sent ++ take k (m ∷ []))

-- all that a step asks of the host, in its order
abbrev pub performed : Output entry_model → World → World
performed o w =
    let f = w.file ++ all_bytes o.adds in
    record { file = f; durable = cond o.syncs (length f) w.durable; sent = w.sent ++ o.sends }
