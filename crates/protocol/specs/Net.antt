-- Houses over a network that loses, repeats and reorders, each of which may stop at any moment.
-- Assumes nothing.
use Rattle.std.specs.Prelude.{◌≡◌, Bool, true, false, cond, ◌||◌, ℕ, ◌<◌, ◌≤◌, nat_eq, T, length, take}
use mathlib.Core.List.{List, [], ◌∷◌, ◌++◌, Memᴰ}
use Rattle.protocol.specs.declared.Name.{Name}
use Rattle.protocol.specs.Model.{Model, same_name}
use Rattle.protocol.specs.House.{Rec, Began, Held, Done, Dropped, Ruled, starts, holding, may_hold, ruled, is_in}

-- an order that its home is asking the houses about, and who has said yes
pub record Asking (M : Model) : Type 0 where
  pub order : M.Order
  pub yes : ℕ → Bool

-- what a house has only in memory, gone after a stop: the orders that it asks about as their home, and the names tried in this start
pub record Memory (M : Model) : Type 0 where
  pub asking : List (Asking M)
  pub tried : Name → Bool

-- file: the records, the latest last; durable: how many of them are on the disk for good
pub record House (M : Model) : Type 0 where
  pub file : List (Rec M)
  pub durable : ℕ
  pub memory : Memory M

pub data Msg (M : Model) : Type 0 where
  Hold : M.Order → Msg M
  Yes : (house : ℕ) → Name → Msg M
  Told : Name → Bool → Msg M

pub record Net (M : Model) : Type 0 where
  pub house : ℕ → House M
  pub sent : List (Msg M)
  pub done : List M.Order

module _ (M : Model) where
  abbrev pub nobody : ℕ → Bool
  nobody j = false

  abbrev pub no_name : Name → Bool
  no_name d = false

  abbrev pub no_memory : Memory M
  no_memory = record { asking = []; tried = no_name }

  -- a house that began for the first time
  abbrev pub begun : House M
  begun = record { file = Began ∷ []; durable = 1; memory = no_memory }

  abbrev pub start : Net M
  start = record { house = λ i. begun; sent = []; done = [] }

  abbrev pub at : ℕ → House M → (ℕ → House M) → ℕ → House M
  at i h f j = cond (nat_eq j i) h (f j)

  -- with the house's file longer by one record; kept says whether all is on the disk for good at once
  abbrev pub wrote : Rec M → Bool → House M → House M
  wrote r kept h = record { file = h.file ++ (r ∷ []); durable = cond kept (length (h.file ++ (r ∷ []))) h.durable; memory = h.memory }

  abbrev pub with_memory : Memory M → House M → House M
  with_memory m h = record { file = h.file; durable = h.durable; memory = m }

  abbrev pub with_asking : List (Asking M) → House M → House M
  with_asking qs h = with_memory (record { asking = qs; tried = h.memory.tried }) h

  abbrev pub synced : House M → House M
  synced h = record { file = h.file; durable = length h.file; memory = h.memory }

  unfoldable pub voted : ℕ → Name → List (Asking M) → List (Asking M)
  voted j i [] = []
  voted j i (a ∷ rest) = cond (same_name i (M.name a.order)) (record { order = a.order; yes = λ k. nat_eq k j || a.yes k } ∷ rest) (a ∷ voted j i rest)

  unfoldable pub drop_ask : Name → List (Asking M) → List (Asking M)
  drop_ask i [] = []
  drop_ask i (a ∷ rest) = cond (same_name i (M.name a.order)) rest (a ∷ drop_ask i rest)

  unfoldable pub asked : Name → List (Asking M) → Bool
  asked i [] = false
  asked i (a ∷ rest) = same_name i (M.name a.order) || asked i rest

  -- the machine stops, comes up with the first k records, and writes down that it began
  abbrev pub restarted : ℕ → House M → House M
  restarted k h = record { file = take k h.file ++ (Began ∷ []); durable = length (take k h.file ++ (Began ∷ [])); memory = no_memory }

  -- every house that the order touches has said yes
  abbrev pub AllYes : Asking M → Type 0
  AllYes a = (j : ℕ) → T (M.party j a.order) → T (a.yes j)

-- what a house can say of an order whose home it is: done, if its file has ruled it; no, if it hasn't, and the order is of an earlier start or is over in this one
pub data CanSay (M : Model) (h : House M) (d : Name) : Bool → Type 0 where
  say_done : T (ruled M d h.file) → CanSay M h d true
  say_old : d.start < starts M h.file → (T (ruled M d h.file) → ⊥) → CanSay M h d false
  say_over : T (h.memory.tried d) → (T (asked M d h.memory.asking) → ⊥) → (T (ruled M d h.file) → ⊥) → CanSay M h d false

pub data Step (M : Model) (n : ℕ) : Net M → Net M → Type 0 where
  submit : (s : Net M) (i : ℕ) → i < n → (t : M.Order) → T (M.valid n t) → (M.name t).home ≡ i → (M.name t).start ≡ starts M (s.house i).file → (T ((s.house i).memory.tried (M.name t)) → ⊥) →
      Step M n s (record { house = at M i (with_memory M (record { asking = (s.house i).memory.asking ++ (record { order = t; yes = nobody M } ∷ []); tried = λ d. same_name d (M.name t) || (s.house i).memory.tried d }) (s.house i)) s.house; sent = Hold t ∷ s.sent; done = s.done })
  hold : (s : Net M) (i : ℕ) → i < n → (t : M.Order) → Memᴰ (Hold t) s.sent → T (may_hold M i t (s.house i).file) →
      Step M n s (record { house = at M i (wrote M (Held t) true (s.house i)) s.house; sent = Yes i (M.name t) ∷ s.sent; done = s.done })
  vote : (s : Net M) (i j : ℕ) → i < n → (d : Name) → Memᴰ (Yes j d) s.sent →
      Step M n s (record { house = at M i (with_asking M (voted M j d (s.house i).memory.asking) (s.house i)) s.house; sent = s.sent; done = s.done })
  rule : (s : Net M) (i : ℕ) → i < n → (a : Asking M) → Memᴰ a (s.house i).memory.asking → AllYes M a →
      Step M n s (record {
        house = at M i (with_asking M (drop_ask M (M.name a.order) (s.house i).memory.asking) (wrote M (Ruled a.order) true (s.house i))) s.house;
        sent = Told (M.name a.order) true ∷ s.sent;
        done = s.done ++ (a.order ∷ []);
      })
  give_up : (s : Net M) (i : ℕ) → i < n → (a : Asking M) → Memᴰ a (s.house i).memory.asking →
      Step M n s (record {
        house = at M i (with_asking M (drop_ask M (M.name a.order) (s.house i).memory.asking) (s.house i)) s.house;
        sent = Told (M.name a.order) false ∷ s.sent;
        done = s.done;
      })
  answer : (s : Net M) (i : ℕ) → i < n → (d : Name) → d.home ≡ i → (b : Bool) → CanSay M (s.house i) d b →
      Step M n s (record { house = s.house; sent = Told d b ∷ s.sent; done = s.done })
  learn : (s : Net M) (i : ℕ) → i < n → (d : Name) (b : Bool) → Memᴰ (Told d b) s.sent → T (is_in M d (holding M [] (s.house i).file)) →
      Step M n s (record { house = at M i (wrote M (cond b (Done d) (Dropped d)) false (s.house i)) s.house; sent = s.sent; done = s.done })
  sync : (s : Net M) (i : ℕ) → i < n →
      Step M n s (record { house = at M i (synced M (s.house i)) s.house; sent = s.sent; done = s.done })
  stop : (s : Net M) (i : ℕ) → i < n → (k : ℕ) → (s.house i).durable ≤ k →
      Step M n s (record { house = at M i (restarted M k (s.house i)) s.house; sent = s.sent; done = s.done })
  -- a house that holds an order back says yes again
  yes_again : (s : Net M) (i : ℕ) → i < n → (d : Name) → T (is_in M d (holding M [] (s.house i).file)) →
      Step M n s (record { house = s.house; sent = Yes i d ∷ s.sent; done = s.done })
  -- what was sent once is sent again
  again : (s : Net M) (m : Msg M) → Memᴰ m s.sent →
      Step M n s (record { house = s.house; sent = m ∷ s.sent; done = s.done })

pub data Reach (M : Model) (n : ℕ) : Net M → Type 0 where
  begin : Reach M n (start M)
  then : {s t : Net M} → Reach M n s → Step M n s t → Reach M n t
