-- What a house knows from its file, kept up record by record: the state is the fold of `apply` over the records.
-- Assumes nothing.
use Rattle.std.specs.Prelude.{◌≡◌, Bool, true, false, ◌&&◌, ◌||◌, not, List, [], ◌∷◌, ◌++◌, ℕ, ◌+◌, nat_eq, nat_lt, length}
use Rattle.protocol.specs.declared.Name.{Name}
use Rattle.protocol.specs.Model.{Model, most_held, most_starts}
use Rattle.protocol.specs.House.{Rec, Began, Held, Done, Dropped, Ruled, count_began, hold_next, stock_next, is_held, is_ruled, starts, holding, stock, ever_held, ruled, is_in}

-- began: the house's start; held: the orders held back, in the order of holding; shelves: its shelves; ever: the names that it ever held;
-- ruled: the names that it ruled; bytes: how many bytes its file has
pub record State (M : Model) : Type 0 where
  pub began : ℕ
  pub held : List M.Order
  pub shelves : M.Shelves
  pub ever : Name → Bool
  pub ruled : Name → Bool
  pub bytes : ℕ

module _ (M : Model) where
  -- how many bytes a record takes in the file, and how many all take
  abbrev pub rec_size : Rec M → ℕ
  rec_size Began = 1
  rec_size (Held t) = 1 + M.size t
  rec_size (Done d) = 10
  rec_size (Dropped d) = 10
  rec_size (Ruled t) = 1 + M.size t

  unfoldable pub file_size : List (Rec M) → ℕ
  file_size [] = 0
  file_size (r ∷ rs) = rec_size r + file_size rs

  -- the state before the first record
  abbrev pub empty_state : State M
  empty_state = record { began = 0; held = []; shelves = M.empty; ever = λ d. false; ruled = λ d. false; bytes = 0 }

  -- the state of house i with one more record in its file
  abbrev pub apply : ℕ → Rec M → State M → State M
  apply i r v = record {
    began = count_began M r v.began;
    held = hold_next M r v.held;
    shelves = stock_next M i r v.held v.shelves;
    ever = λ d. is_held M d r || v.ever d;
    ruled = λ d. is_ruled M d r || v.ruled d;
    bytes = v.bytes + rec_size r;
  }

  -- with several more
  unfoldable pub replay : ℕ → List (Rec M) → State M → State M
  replay i [] v = v
  replay i (r ∷ rs) v = replay i rs (apply i r v)

  -- what the file says, field by field
  abbrev pub state_of : ℕ → List (Rec M) → State M
  state_of i f = record {
    began = starts M f;
    held = holding M [] f;
    shelves = stock M i f;
    ever = λ d. ever_held M d f;
    ruled = λ d. ruled M d f;
    bytes = file_size f;
  }

  -- may the record stand in house i's file, behind records that made this state; the first record is a began
  abbrev pub lawful : ℕ → Rec M → State M → Bool
  lawful i Began v = true
  lawful i (Held t) v = nat_lt 0 v.began && (M.party i t && not (v.ever (M.name t)) && (M.clear i t v.held v.shelves && M.sees_here i t v.shelves))
  lawful i (Done d) v = nat_lt 0 v.began && is_in M d v.held
  lawful i (Dropped d) v = nat_lt 0 v.began && is_in M d v.held
  lawful i (Ruled t) v = nat_lt 0 v.began && (nat_eq (M.name t).home i && not (v.ruled (M.name t)))

  -- and is it within the limits: 65,535 starts, 64 orders held back
  abbrev pub within_limits : Rec M → State M → Bool
  within_limits Began v = nat_lt v.began most_starts
  within_limits (Held t) v = nat_lt (length v.held) most_held
  within_limits (Done d) v = true
  within_limits (Dropped d) v = true
  within_limits (Ruled t) v = true

  -- each record may stand behind those before it
  unfoldable pub all_lawful : ℕ → List (Rec M) → State M → Bool
  all_lawful i [] v = true
  all_lawful i (r ∷ rs) v = lawful i r v && all_lawful i rs (apply i r v)

  unfoldable pub all_within : ℕ → List (Rec M) → State M → Bool
  all_within i [] v = true
  all_within i (r ∷ rs) v = within_limits r v && all_within i rs (apply i r v)

  -- the file opens: no record of it is refused
  abbrev pub opens : ℕ → List (Rec M) → Bool
  opens i f = all_lawful i f empty_state && all_within i f empty_state

-- a house's state can be kept up record by record, from nothing when it opens its file
pub record ReplaysAt (M : Model) : Type 0 where
  pub opened : (i : ℕ) (f : List (Rec M)) → state_of M i f ≡ replay M i f (empty_state M)
  pub extended : (i : ℕ) (rs f : List (Rec M)) → state_of M i (f ++ rs) ≡ replay M i rs (state_of M i f)

abbrev pub Replays : Type 1
Replays = (M : Model) → ReplaysAt M
