-- What an audit finds in the records of all files, that of house 0 first: the first done without a ruling at its home, else the first
-- ruled order that a house of it neither holds back nor did, else nothing, and the shelves. Assumes nothing.
use Rattle.std.specs.Prelude.{◌≡◌, ℕ, ◌+◌, ◌*◌, Bool, cond, List, [], ◌∷◌, ◌++◌, map, Some, None, Option, Ok, Err, Result, ◌==◌, slice_index_or}
use Rattle.std.proofs.Common.{Bor}
use Rattle.protocol.specs.declared.Name.{Name}
use Rattle.protocol.specs.House.{Began, Held, Done, Dropped, Ruled, stock}
use Rattle.orders.specs.declared.Entry.{Entry}
use Rattle.orders.specs.declared.Order.{Order as Slots}
use Rattle.orders.specs.declared.Record.{Record}
use Rattle.orders.specs.Values.{rec_of}
use Rattle.orders.specs.Order.{Order, Rec, entry_model}
use Rattle.ledger.specs.declared.Trouble.{Trouble}
use Rattle.ledger.specs.declared.Trouble.TheVariants as trouble
use Rattle.audit_search.specs.declared.faults.Fault.{Fault}
use Rattle.audit_search.specs.declared.faults.Fault.TheVariants.{Refused, DoneWithoutRuling, RuledAndMissing, NoMemory}
use Rattle.audit_search.specs.Account.{Account, account_of, no_account, lacks}

abbrev pub or_else : {Y : Type 0} → Option Y → Option Y → Option Y
or_else None o = o
or_else (Some y) o = Some y

-- the home of that name has ruled it
abbrev pub ruled_at : List Account → Name → Bool
ruled_at hs d = (slice_index_or hs d.home no_account).ruled d

-- a done in house i's file that its home has not ruled
abbrev pub done_fault : List Account → ℕ → Rec → Option Fault
done_fault hs i Began = None
done_fault hs i (Held t) = None
done_fault hs i (Done d) = cond (ruled_at hs d) None (Some (DoneWithoutRuling i d))
done_fault hs i (Dropped d) = None
done_fault hs i (Ruled t) = None

-- the first house that lacks the order, where the accounts are those of the houses from j on
unfoldable pub first_lacking : Order → ℕ → List Account → Option Fault
first_lacking t j [] = None
first_lacking t j (a ∷ hs) = cond (lacks t j a) (Some (RuledAndMissing j t.name)) (first_lacking t (j + 1) hs)

-- a ruling of an order that some house lacks
abbrev pub ruling_fault : List Account → Rec → Option Fault
ruling_fault hs Began = None
ruling_fault hs (Held t) = None
ruling_fault hs (Done d) = None
ruling_fault hs (Dropped d) = None
ruling_fault hs (Ruled t) = first_lacking t 0 hs

-- the first fault that a record of the file shows
unfoldable pub first_in : (Rec → Option Fault) → List Rec → Option Fault
first_in f [] = None
first_in f (r ∷ rs) = or_else (f r) (first_in f rs)

-- the same of the files in turn, the first being house i's
unfoldable pub first_over : (ℕ → Rec → Option Fault) → ℕ → List (List Rec) → Option Fault
first_over f i [] = None
first_over f i (rs ∷ rss) = or_else (first_in (f i) rs) (first_over f (i + 1) rss)

-- the files are gone through twice: for dones, and for rulings
abbrev pub first_done : List (List Rec) → Option Fault
first_done fs = first_over (done_fault (map account_of fs)) 0 fs

abbrev pub first_ruling : List (List Rec) → Option Fault
first_ruling fs = first_over (λ i. ruling_fault (map account_of fs)) 0 fs

-- what a check answers: that it found nothing, or the fault
abbrev pub checked : Option Fault → Result (Unit {0}) Fault
checked None = Ok tt
checked (Some x) = Err x

-- a check of a record of house h's file, beside which the entries stand, answers by f
abbrev pub Checks : ((h : ℕ) → Record → Bor Slots → Result (Unit {0}) Fault → Type 0) → (ℕ → Rec → Option Fault) → Type 0
Checks answers f = (h : ℕ) (r : Record) (s : Bor Slots) (x : Result (Unit {0}) Fault) → answers h r s x → x ≡ checked (f h (rec_of r s.now))

-- the shelves of the houses, the first file being house i's
unfoldable pub shelves_from : ℕ → List (List Rec) → List (List ℕ)
shelves_from i [] = []
shelves_from i (rs ∷ rss) = stock entry_model i rs ∷ shelves_from (i + 1) rss

-- the shelves of house h that aren't 0, by rising key, where the amounts are those of the items from i on
unfoldable pub stocked_in : (h i : ℕ) → List ℕ → List Entry
stocked_in h i [] = []
stocked_in h i (a ∷ more) = cond (a == 0) (stocked_in h (i + 1) more) (record { key = h * 65536 + i; amount = a } ∷ stocked_in h (i + 1) more)

-- the same of the houses from h on
unfoldable pub stocked : ℕ → List (List ℕ) → List Entry
stocked h [] = []
stocked h (m ∷ ms) = stocked_in h 0 m ++ stocked (h + 1) ms

-- what an audit says: a file is refused, and of which house; something is wrong; or all is sound, and the shelves that aren't 0
pub data Finding : Type 0 where
  refused : (number house : ℕ) → Finding
  faulty : Fault → Finding
  sound : List Entry → Finding

abbrev pub finding_of : Option Fault → List (List Rec) → Finding
finding_of (Some x) fs = faulty x
finding_of None fs = sound (stocked 0 (shelves_from 0 fs))

-- THE AUDIT of files that open
abbrev pub search : List (List Rec) → Finding
search fs = finding_of (or_else (first_done fs) (first_ruling fs)) fs

-- what it says of house h that its ledger was not opened
abbrev pub why_shut : ℕ → Trouble → Fault
why_shut h (trouble.Refused f) = Refused f h
why_shut h trouble.NoMemory = NoMemory
