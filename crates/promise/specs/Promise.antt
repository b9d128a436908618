-- What is promised of the whole, and of its parts. Each is a type; a proof of the type is the theorem.
-- Assumes nothing.
use Rattle.std.specs.Prelude.{◌≡◌, ◌⊎◌, Bool, false, cond, ◌||◌, ℕ, ◌+◌, ◌<◌, nat_eq, T, get_or}
use mathlib.Core.List.{List, [], ◌∷◌, Memᴰ}
use Rattle.protocol.specs.declared.Name.{Name}
use Rattle.protocol.specs.Model.{same_name}
use Rattle.protocol.specs.House as house
use Rattle.protocol.specs.House.{Held, Done, Dropped, Ruled}
use Rattle.protocol.specs.Net as net
use Rattle.protocol.specs.Net.{Told}
use Rattle.protocol.specs.Run as run
use Rattle.protocol.specs.State as state
use Rattle.protocol.specs.Opens as opens
use Rattle.protocol.specs.Exact as exact
use Rattle.orders.specs.declared.Entry.{Entry}
use Rattle.orders.specs.Order.{Order, house_of, item_of, touches, clash, party, entry_model}

-- ORDERS DONE ALONE, one after the other, on shelves that have an amount for each key

-- the shelves with an entry written
abbrev pub write : Entry → (ℕ → ℕ) → ℕ → ℕ
write e m k = cond (nat_eq k e.key) e.amount (m k)

-- with several, in their order
unfoldable pub write_all : List Entry → (ℕ → ℕ) → ℕ → ℕ
write_all [] m = m
write_all (e ∷ es) m = write_all es (write e m)

-- the shelves after the orders
unfoldable pub played : (ℕ → ℕ) → List Order → ℕ → ℕ
played m [] = m
played m (t ∷ ts) = played (write_all t.writes m) ts

-- the shelves have what the entries say was seen
abbrev pub Seen : (ℕ → ℕ) → List Entry → Type 0
Seen m es = (e : Entry) → Memᴰ e es → m e.key ≡ e.amount

-- each order saw exactly what those before it left
unfoldable pub Serial : (ℕ → ℕ) → List Order → Type 0
Serial m [] = Unit {0}
Serial m (t ∷ ts) = Seen m t.reads × Serial (write_all t.writes m) ts

abbrev pub nothing : ℕ → ℕ
nothing k = 0

-- THE NETWORK

abbrev pub Net : Type 0
Net = net.Net entry_model

-- the networks that can come about by steps of the relation
abbrev pub Reach : ℕ → Net → Type 0
Reach = net.Reach entry_model

abbrev pub Step : ℕ → Net → Net → Type 0
Step = net.Step entry_model

abbrev pub Command : Type 0
Command = run.Command entry_model

-- the network after a list of commands, from empty ledgers on
abbrev pub after : ℕ → List Command → Net
after n cs = run.run entry_model n cs (net.start entry_model)

abbrev pub next : ℕ → Command → Net → Net
next n c s = (run.step entry_model n c s).1

-- of every network that can come about; of every list of commands, at any houses
abbrev pub Always : (ℕ → Net → Type 0) → Type 0
Always P = (n : ℕ) (s : Net) → Reach n s → P n s

abbrev pub OnRuns : (ℕ → Net → Type 0) → Type 0
OnRuns P = (n : ℕ) (cs : List Command) → P n (after n cs)

-- the orders that house i holds back, and what stands on its shelf of a key
abbrev pub held_back : Net → ℕ → List Order
held_back s i = house.holding entry_model [] (s.house i).file

abbrev pub shelf : Net → ℕ → ℕ → ℕ
shelf s i k = get_or (house.stock entry_model i (s.house i).file) (item_of k) 0

-- the key is written by an order that is held back
unfoldable pub pending : ℕ → List Order → Bool
pending k [] = false
pending k (t ∷ ts) = touches k t.writes || pending k ts

-- THE PROMISE OF THE WHOLE. The orders ruled done, in the order of the rulings, are as if each had been done alone, after those before it;
-- and what a house has on its shelves is what they left, wherever no order is held back that writes there.
pub record Whole (n : ℕ) (s : Net) : Type 0 where
  pub serial : Serial nothing s.done
  pub shelves : (i k : ℕ) → i < n → house_of k ≡ i → (T (pending k (held_back s i)) → ⊥) → shelf s i k ≡ played nothing s.done k

abbrev pub Main : Type 0
Main = Always Whole

abbrev pub MainRun : Type 0
MainRun = OnRuns Whole

-- ITS PARTS

-- One name, one order.
abbrev pub OneName : ℕ → Net → Type 0
OneName n s = (t u : Order) → Memᴰ t s.done → Memᴰ u s.done → T (same_name t.name u.name) → t ≡ u

-- All or nothing: a house that did its part knows a ruling, one that dropped it knows that there is none,
-- and each house of a ruled order holds it back or has done it.
pub record AllOrNone (n : ℕ) (s : Net) : Type 0 where
  pub did : (i : ℕ) (d : Name) → i < n → Memᴰ (Done d) (s.house i).file → (t : Order) × Memᴰ t s.done × T (same_name d t.name)
  pub dropped : (i : ℕ) (d : Name) → i < n → Memᴰ (Dropped d) (s.house i).file → (t : Order) → Memᴰ t s.done → T (same_name d t.name) → ⊥
  pub holds : (i : ℕ) (t : Order) → i < n → Memᴰ t s.done → T (party i t) → Memᴰ t (held_back s i) ⊎ Memᴰ (Done t.name) (s.house i).file

-- What was told stays so: nobody is told no of an order that is ever ruled done.
abbrev pub Final : ℕ → Net → Type 0
Final n s = (d : Name) → Memᴰ (Told d false) s.sent → (t : Order) → Memᴰ t s.done → T (same_name d t.name) → ⊥

-- Two orders that are held back in one house never clash.
abbrev pub Apart : ℕ → Net → Type 0
Apart n s = (i : ℕ) → i < n → (t u : Order) → Memᴰ t (held_back s i) → Memᴰ u (held_back s i) → T (clash t u) → t ≡ u

-- Nobody waits for one who can't say: an order that is held back is being asked about by its home, or its home can answer.
abbrev pub Answers : ℕ → Net → Type 0
Answers n s =
    (i : ℕ) → i < n → (t : Order) → Memᴰ t (held_back s i) →
    (t.name.home < n) ×
    (((a : net.Asking entry_model) × Memᴰ a (s.house t.name.home).memory.asking × (a.order ≡ t)) ⊎
    ((b : Bool) × net.CanSay entry_model (s.house t.name.home) t.name b))

-- Between two networks, no ruling and no promise to hold back is gone from a house's file.
abbrev pub KeptBetween : ℕ → Net → Net → Type 0
KeptBetween n s t =
    (i : ℕ) → i < n → (u : Order) →
    (Memᴰ (Ruled u) (s.house i).file → Memᴰ (Ruled u) (t.house i).file) ×
    (Memᴰ (Held u) (s.house i).file → Memᴰ (Held u) (t.house i).file)

abbrev pub Kept : Type 0
Kept = (n : ℕ) (s t : Net) → Reach n s → Step n s t → KeptBetween n s t

abbrev pub KeptRun : Type 0
KeptRun = (n : ℕ) (cs : List Command) (c : Command) → KeptBetween n (after n cs) (next n c (after n cs))

-- the sum over some keys
unfoldable pub total : (ℕ → ℕ) → List ℕ → ℕ
total m [] = 0
total m (k ∷ ks) = m k + total m ks

-- the order leaves the sum as it was wherever it sees what it read
abbrev pub KeepsSum : List ℕ → Order → Type 0
KeepsSum ks t = (m : ℕ → ℕ) → Seen m t.reads → total (write_all t.writes m) ks ≡ total m ks

-- If every order ruled done keeps the sum of some shelves, that sum is what it was at first.
abbrev pub Conserved : ℕ → Net → Type 0
Conserved n s = (ks : List ℕ) → ((t : Order) → Memᴰ t s.done → KeepsSum ks t) → total (played nothing s.done) ks ≡ 0

-- the parts, for what the relation reaches and for every list of commands
pub record Parts (For : (ℕ → Net → Type 0) → Type 0) : Type 0 where
  pub one : For OneName
  pub all : For AllOrNone
  pub last : For Final
  pub apart : For Apart
  pub answers : For Answers
  pub conserved : For Conserved

-- THE STEPS AS FUNCTIONS

-- a command that is done is a step of the relation, and one that is refused changes nothing
abbrev pub Faithful : Type 0
Faithful = run.FaithfulAt entry_model

-- a house holds back, says yes again, and learns whenever it may, and rules once every house has said yes
abbrev pub Exact : Type 0
Exact = exact.ExactAt entry_model

-- a house's state is the replay of its file, record by record
abbrev pub Replays : Type 0
Replays = state.ReplaysAt entry_model

-- every file with which a house can come up opens
abbrev pub Lawful : Type 0
Lawful = opens.LawfulAt entry_model

abbrev pub Opens : Type 0
Opens = opens.OpensAt entry_model
