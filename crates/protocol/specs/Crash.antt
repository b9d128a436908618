-- A machine stops at any moment: the effects of a step one by one, bytes on the disk, and a stop after any of them or inside one.
-- Assumes nothing.
use Rattle.std.specs.Prelude.{◌≡◌, ◌⊎◌, Bool, cond, ◌&&◌, ◌||◌, not, ℕ, zero, suc, ◌≤◌, ◌<◌, nat_eq, nat_le, T, length, take}
use mathlib.Core.List.{List, [], ◌∷◌, ◌++◌, Memᴰ}
use Rattle.std.proofs.Math.Option.{Option, none, some}
use Rattle.protocol.specs.declared.Name.{Name}
use Rattle.protocol.specs.Model.{Model, houses_ok, name_ok, most_starts}
use Rattle.protocol.specs.Laws.{Laws}
use Rattle.protocol.specs.House.{Rec, Began, Held, Done, Dropped, Ruled, starts}
use Rattle.protocol.specs.Net.{Memory, House, Msg, Net, start, begun, no_memory, synced, with_memory}
use Rattle.protocol.specs.State.{rec_size, file_size}
use Rattle.protocol.specs.Plan.{Input, Verdict, refused, does, Work, speak, plan, worked, no_room}
use Rattle.protocol.specs.Run.{Command, act, arrived, input_ok, run}

-- records as bytes: put writes one whose numbers fit, get reads the first of some bytes; a record that is cut short isn't read
pub record Codec (M : Model) : Type 0 where
  pub put : Rec M → List ℕ
  pub get : List ℕ → Option (Rec M × List ℕ)
  pub fits : Rec M → Bool
  pub began : T (fits Began)
  pub size : (r : Rec M) → T (fits r) → length (put r) ≡ rec_size M r
  pub whole : (r : Rec M) (bs : List ℕ) → T (fits r) → get (put r ++ bs) ≡ some (r, bs)
  pub torn : (r : Rec M) (b : ℕ) → T (fits r) → b < length (put r) → get (take b (put r)) ≡ none

abbrev pub read_one : {M : Model} → Option (Rec M × List ℕ) → (List ℕ → List (Rec M)) → List (Rec M)
read_one none f = []
read_one (some p) f = p.0 ∷ f p.1

module _ {M : Model} (C : Codec M) where
  unfoldable pub bytes : List (Rec M) → List ℕ
  bytes [] = []
  bytes (r ∷ rs) = C.put r ++ bytes rs

  abbrev pub AllFit : List (Rec M) → Type 0
  AllFit [] = Unit {0}
  AllFit (r ∷ rs) = T (C.fits r) × AllFit rs

  -- the whole records at the front, at most so many
  unfoldable pub read_back : ℕ → List ℕ → List (Rec M)
  read_back zero bs = []
  read_back (suc k) bs = read_one (C.get bs) (read_back k)

-- what a house does, one thing at a time: it appends a record, syncs its file, changes its memory, sends a message
pub data Effect (M : Model) : Type 0 where
  Append : Rec M → Effect M
  Sync : Effect M
  Remember : Memory M → Effect M
  Send : Msg M → Effect M

-- a house in the midst of a step: what it is now, and the effects that are still to come
pub record Process (M : Model) : Type 0 where
  pub state : House M
  pub pending : List (Effect M)

-- all houses, and the messages posted so far: each may arrive late, twice, never or anywhere
pub record System (M : Model) : Type 0 where
  pub process : ℕ → Process M
  pub posted : List (Msg M)

module _ (M : Model) where
  unfoldable pub appends : List (Rec M) → List (Effect M) → List (Effect M)
  appends [] es = es
  appends (r ∷ rs) es = Append r ∷ appends rs es

  unfoldable pub sendings : List (Msg M) → List (Effect M)
  sendings [] = []
  sendings (m ∷ ms) = Send m ∷ sendings ms

  -- after the records are written: one sync, if any step asks for it, then memory, then the messages
  abbrev pub after_appends : Work M → List (Effect M)
  after_appends w =
      let es = Remember w.memory ∷ sendings w.out.sends in
      cond w.out.syncs (Sync ∷ es) es

  abbrev pub effects : Work M → List (Effect M)
  effects w = appends w.out.adds (after_appends w)

  abbrev pub combine : Work M → Work M → Work M
  combine w v = record {
    out = record { adds = w.out.adds ++ v.out.adds; syncs = w.out.syncs || v.out.syncs; sends = w.out.sends ++ v.out.sends };
    memory = v.memory;
  }

  abbrev pub combine_with : Verdict (Work M) → Work M → Work M
  combine_with (refused k) v = v
  combine_with (does w) v = combine w v

  -- the work of several steps of a house, done together: those that are refused fall out; one step is a list of one
  unfoldable pub batch : ℕ → List (Input M) → House M → Work M
  batch i [] h = record { out = speak M []; memory = h.memory }
  batch i (x ∷ xs) h = combine_with (plan M i x h) (batch i xs (act M i x h).1)

  abbrev pub perform : Effect M → House M → House M
  perform (Append r) h = record { file = h.file ++ (r ∷ []); durable = h.durable; memory = h.memory }
  perform Sync h = synced M h
  perform (Remember m) h = with_memory M m h
  perform (Send m) h = h

  abbrev pub emit : Effect M → List (Msg M) → List (Msg M)
  emit (Append r) ms = ms
  emit Sync ms = ms
  emit (Remember m) ms = ms
  emit (Send m) ms = m ∷ ms

  abbrev pub advance : House M → List (Effect M) → Process M
  advance h [] = record { state = h; pending = [] }
  advance h (e ∷ es) = record { state = perform e h; pending = es }

  abbrev pub emitted : List (Effect M) → List (Msg M) → List (Msg M)
  emitted [] ms = ms
  emitted (e ∷ es) ms = emit e ms

  -- the record that is being written, if one is
  abbrev pub in_flight_of : Effect M → List (Rec M)
  in_flight_of (Append r) = r ∷ []
  in_flight_of Sync = []
  in_flight_of (Remember m) = []
  in_flight_of (Send m) = []

  abbrev pub in_flight : List (Effect M) → List (Rec M)
  in_flight [] = []
  in_flight (e ∷ es) = in_flight_of e

  -- all that may be on the disk
  abbrev pub written : Process M → List (Rec M)
  written d = d.state.file ++ in_flight d.pending

  -- so many of the effects are done
  unfoldable pub advance_by : ℕ → Process M → Process M
  advance_by zero d = d
  advance_by (suc j) d = advance_by j (advance d.state d.pending)

  -- the records that a machine may find on its disk, where so many were synced and these were written
  abbrev pub Recoverable : ℕ → List (Rec M) → List (Rec M) → Type 0
  Recoverable durable f g = (k : ℕ) × (durable ≤ k) × (g ≡ take k f)

  -- a machine that has found these records on its disk: it has yet to write that it began, and to sync
  abbrev pub recovering : List (Rec M) → Process M
  recovering f = record { state = record { file = f; durable = length f; memory = no_memory M }; pending = Append Began ∷ Sync ∷ [] }

  abbrev pub may_come_up : List (Rec M) → Bool
  may_come_up f = not (nat_le most_starts (starts M f)) && not (no_room M Began (file_size M f))

  abbrev pub replaced : ℕ → Process M → (ℕ → Process M) → ℕ → Process M
  replaced i d f j = cond (nat_eq j i) d (f j)

  -- each came by a message that was sent, or from a counter, and its numbers are in range where there are n houses
  abbrev pub AllTaken : ℕ → List (Input M) → List (Msg M) → Type 0
  AllTaken n [] ms = Unit {0}
  AllTaken n (x ∷ xs) ms = T (arrived M x ms) × T (input_ok M n x) × AllTaken n xs ms

  abbrev pub initial : System M
  initial = record { process = λ i. record { state = begun M; pending = [] }; posted = [] }

-- accept: a house that has nothing left to do takes what came to it, one thing or several, whose records can be written; proceed: it does the next thing;
-- crash: its machine stops. The disk then has all up to the last sync, and some first part of the bytes after it, be it inside a record, or inside one
-- that is being written; the machine reads the whole records, and goes on from there. A machine that may not come up stays down: it is in no further step.
pub data MicroStep (M : Model) (C : Codec M) (n : ℕ) : System M → System M → Type 0 where
  accept : (m : System M) (i : ℕ) → i < n → (m.process i).pending ≡ [] → (xs : List (Input M)) → AllTaken M n xs m.posted → AllFit C (batch M i xs (m.process i).state).out.adds →
      MicroStep M C n m (record { process = replaced M i (record { state = (m.process i).state; pending = effects M (batch M i xs (m.process i).state) }) m.process; posted = m.posted })
  proceed : (m : System M) (i : ℕ) → i < n →
      MicroStep M C n m (record { process = replaced M i (advance M (m.process i).state (m.process i).pending) m.process; posted = emitted M (m.process i).pending m.posted })
  crash : (m : System M) (i : ℕ) → i < n → (b : ℕ) → length (bytes C (take (m.process i).state.durable (written M (m.process i)))) ≤ b →
      T (may_come_up M (read_back C b (take b (bytes C (written M (m.process i)))))) →
      MicroStep M C n m (record { process = replaced M i (recovering M (read_back C b (take b (bytes C (written M (m.process i)))))) m.process; posted = m.posted })

pub data Occurs (M : Model) (C : Codec M) (n : ℕ) : System M → Type 0 where
  initially : Occurs M C n (initial M)
  next : {m k : System M} → Occurs M C n m → MicroStep M C n m k → Occurs M C n k

-- the system is covered by a network of whole steps: what was posted was sent, and a house with nothing left to do is as it is there
pub record Covers (M : Model) (m : System M) (s : Net M) : Type 0 where
  pub messages : (x : Msg M) → Memᴰ x m.posted → Memᴰ x s.sent
  pub idle : (i : ℕ) → (m.process i).pending ≡ [] → (m.process i).state ≡ s.house i

-- wherever machines stop, there is a list of whole steps that covers what came about
abbrev pub InterruptedAt : Model → Type 0
InterruptedAt M = (C : Codec M) (n : ℕ) (m : System M) → T (houses_ok n) → Occurs M C n m → (cs : List (Command M)) × Covers M m (run M n cs (start M))

abbrev pub Interrupted : Type 1
Interrupted = (M : Model) → Laws M → InterruptedAt M

-- records of valid orders and of names in range can be written
pub record FitsValid (M : Model) (C : Codec M) (n : ℕ) : Type 0 where
  pub orders : (t : M.Order) → T (M.valid n t) → T (C.fits (Held t)) × T (C.fits (Ruled t))
  pub names : (d : Name) → T (name_ok n d) → T (C.fits (Done d)) × T (C.fits (Dropped d))

-- then whatever comes to a house that has nothing left to do can be taken: what `accept` asks of the records always holds
abbrev pub AcceptsAt : Model → Type 0
AcceptsAt M =
    (C : Codec M) (n : ℕ) (m : System M) → T (houses_ok n) → FitsValid M C n → Occurs M C n m →
    (i : ℕ) → i < n → (m.process i).pending ≡ [] → (xs : List (Input M)) → AllTaken M n xs m.posted → AllFit C (batch M i xs (m.process i).state).out.adds

-- one step by itself: wherever its machine stops, it finds what it could have found after a stop before the step, or after the whole of it
abbrev pub OneStepAt : Model → Type 0
OneStepAt M =
    (i : ℕ) (x : Input M) (h : House M) (w : Work M) → plan M i x h ≡ does w → (j : ℕ) (g : List (Rec M)) →
    Recoverable M (advance_by M j (record { state = h; pending = effects M w })).state.durable (written M (advance_by M j (record { state = h; pending = effects M w }))) g →
    Recoverable M h.durable h.file g ⊎ Recoverable M (worked M w h).durable (worked M w h).file g

abbrev pub OneStep : Type 1
OneStep = (M : Model) → OneStepAt M
