-- What opening a file answers, and what it leaves. Assumes nothing.
use Rattle.std.specs.Prelude.{◌≡◌, ℕ, ◌≤◌, Bool, true, false, not, ◌&&◌, List, length, drop, Ok, Err, Result, nat_lt}
use Rattle.protocol.specs.Model.{houses_ok, most_bytes}
use Rattle.protocol.specs.State.{State, empty_state, replay, state_of, opens, lawful, within_limits}
use Rattle.protocol.specs.Plan.{no_room}
use Rattle.orders.specs.Order.{Rec, entry_model}
use Rattle.orders.specs.Refusals.{number_of}
use Rattle.orders.specs.Parse.{got, cut, bad, parse}
use Rattle.orders.specs.declared.Refusal.{Refusal}
use Rattle.orders.specs.declared.Order.{Order as Slots}
use Rattle.orders.specs.declared.Record.{Record}
use Rattle.orders.specs.declared.read.ReadError.{ReadError}
use Rattle.orders.specs.declared.read.ReadError.TheVariants.{Cut}
use Rattle.orders.specs.declared.read.ReadError.TheVariants as read
use Rattle.ledger.specs.View.{view}
use Rattle.orders.specs.File.{Reached}
use Rattle.ledger.specs.declared.Ledger.{Ledger}
use Rattle.ledger.specs.declared.Trouble.{Trouble}
use Rattle.ledger.specs.declared.Trouble.TheVariants.{Refused, NoMemory}

-- may the record come next in house h's file: it may stand there, and the house and its file stay within their limits
abbrev pub admitted : ℕ → Rec → State entry_model → Bool
admitted h r v = lawful entry_model h r v && within_limits entry_model r v && not (no_room entry_model r v.bytes)

-- there may be n houses, and h is one of them
abbrev pub is_house : ℕ → ℕ → Bool
is_house n h = houses_ok n && nat_lt h n

-- house h, one of n, is in state v after the first of the bytes: they are records, none of them refused, and v is what they say
pub record ReadTo (n h : ℕ) (bs : List ℕ) (v : State entry_model) : Type 0 where
  pub house : is_house n h ≡ true
  pub records : List Rec
  pub read : Reached n bs records (drop v.bytes bs)
  pub within : v.bytes ≤ length bs
  pub room : v.bytes ≤ most_bytes
  pub accepted : opens entry_model h records ≡ true
  pub state : v ≡ replay entry_model h records (empty_state entry_model)

-- why a file is refused by f: there is no such house; or, behind records of which none is refused, there is no record in these bytes,
-- or one that may not come next
pub data Cause (n h : ℕ) (bs : List ℕ) (f : Refusal) : Type 0 where
  no_house : is_house n h ≡ false → number_of f ≡ 2 → Cause n h bs f
  no_record : (v : State entry_model) → ReadTo n h bs v → parse n (drop v.bytes bs) ≡ bad (number_of f) → Cause n h bs f
  not_next : (v : State entry_model) (r : Rec) (rest : List ℕ) → ReadTo n h bs v → parse n (drop v.bytes bs) ≡ got r rest → admitted h r v ≡ false → number_of f ≡ 3 → Cause n h bs f

-- what the end of a file has opening answer: a cut is an end, and a refusal stays one
abbrev pub EndOf : Result (Record × Slots × ℕ) ReadError → Result Unit Trouble → Type 0
EndOf (Ok _) a = Unit {0}
EndOf (Err Cut) a = a ≡ Ok tt
EndOf (Err (read.Refused f)) a = a ≡ Err (Refused f)

-- the state after the last whole record, or why not
abbrev pub Replayed : ℕ → ℕ → List ℕ → State entry_model → Result Unit Trouble → Type 0
Replayed n h bs v (Ok u) = ReadTo n h bs v × (parse n (drop v.bytes bs) ≡ cut)
Replayed n h bs v (Err (Refused f)) = Cause n h bs f
Replayed n h bs v (Err NoMemory) = Unit {0}

-- house h's ledger, with its shelves in the lent words, or why not; then the lent words are as they were
abbrev pub Opened : ℕ → ℕ → List ℕ → (before after : List ℕ) → Result Ledger Trouble → Type 0
Opened n h bs before after (Ok l) = (l.house ≡ h) × ReadTo n h bs (view l after) × (parse n (drop l.bytes bs) ≡ cut)
Opened n h bs before after (Err (Refused f)) = (after ≡ before) × Cause n h bs f
Opened n h bs before after (Err NoMemory) = after ≡ before

-- the state that a file opens to is what its records say, field by field
abbrev pub SaysFile : Type 0
SaysFile = (n h : ℕ) (bs : List ℕ) (v : State entry_model) (p : ReadTo n h bs v) → v ≡ state_of entry_model h p.records

-- two answers are one: a ledger in the same state, or a refusal by the same number; want of memory says nothing
abbrev pub SameAnswer : Result Ledger Trouble → List ℕ → Result Ledger Trouble → List ℕ → Type 0
SameAnswer (Ok l) m (Ok k) w = view l m ≡ view k w
SameAnswer (Ok l) m (Err (Refused g)) w = ⊥
SameAnswer (Ok l) m (Err NoMemory) w = Unit {0}
SameAnswer (Err (Refused f)) m (Ok k) w = ⊥
SameAnswer (Err (Refused f)) m (Err (Refused g)) w = number_of f ≡ number_of g
SameAnswer (Err (Refused f)) m (Err NoMemory) w = Unit {0}
SameAnswer (Err NoMemory) m b w = Unit {0}

-- the bytes determine the answer: whoever opens them again, as the same house of as many, with whatever words lent, gets the same
abbrev pub OpensOnce : Type 0
OpensOnce = (n h : ℕ) (bs m m' w w' : List ℕ) (a b : Result Ledger Trouble) → Opened n h bs m m' a → Opened n h bs w w' b → SameAnswer a m' b w'
