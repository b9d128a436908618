-- What the search's answers mean: nothing is found exactly if no fault is there, and what is found is there. Assumes nothing.
use Rattle.std.specs.Prelude.{◌≡◌, ℕ, ◌<◌, true, false, List, [], length, slice_index_or}
use mathlib.Core.List.{Memᴰ}
use Rattle.protocol.specs.declared.Name.{Name}
use Rattle.protocol.specs.House.{Done, Ruled, ruled}
use Rattle.orders.specs.declared.Entry.{Entry}
use Rattle.orders.specs.Order.{Order, Rec, entry_model, party}
use Rattle.audit_search.specs.declared.faults.Fault.{Fault}
use Rattle.audit_search.specs.declared.faults.Fault.TheVariants.{Refused, DoneWithoutRuling, RuledAndMissing, NoMemory}
use Rattle.audit_search.specs.Account.{account_of, keeps}
use Rattle.audit_search.specs.Search.{faulty, sound, search, shelves_from, stocked}

module _ (fs : List (List Rec)) where
  -- the records of house i's file
  abbrev pub file : ℕ → List Rec
  file i = slice_index_or fs i []

  -- whatever a house did, its home ruled
  abbrev pub DonesRuled : Type 0
  DonesRuled = (i : ℕ) (d : Name) → Memᴰ (Done d) (file i) → ruled entry_model d (file d.home) ≡ true

  -- whatever a house ruled, each house of the order holds back or did
  abbrev pub RulingsKept : Type 0
  RulingsKept = (i : ℕ) (t : Order) → Memᴰ (Ruled t) (file i) → (j : ℕ) → j < length fs → party j t ≡ true → keeps t (account_of (file j)) ≡ true

  -- the house did it, and its home did not rule it; or it was ruled, and the house, one of the order's, neither holds it back nor did it:
  -- then whatever a house did was ruled; no search of records finds anything else
  abbrev pub Shows : Fault → Type 0
  Shows (Refused f h) = ⊥
  Shows NoMemory = ⊥
  Shows (DoneWithoutRuling i d) = Memᴰ (Done d) (file i) × (ruled entry_model d (file d.home) ≡ false)
  Shows (RuledAndMissing j d) =
      DonesRuled
      × ((i : ℕ) × (t : Order) × Memᴰ (Ruled t) (file i) × (t.name ≡ d) × (j < length fs) × (party j t ≡ true) × (keeps t (account_of (file j)) ≡ false))

-- an audit says `sound` exactly if no fault is there
abbrev pub SoundExactly : Type 0
SoundExactly =
    (fs : List (List Rec)) →
    (DonesRuled fs → RulingsKept fs → search fs ≡ sound (stocked 0 (shelves_from 0 fs))) × ((es : List Entry) → search fs ≡ sound es → DonesRuled fs × RulingsKept fs)

-- a fault that it names is there
abbrev pub FaultsThere : Type 0
FaultsThere = (fs : List (List Rec)) (x : Fault) → search fs ≡ faulty x → Shows fs x
