-- What the network needs to know of orders, and nothing else.
-- Assumes nothing.
use Rattle.std.specs.Prelude.{Bool, ◌&&◌, List, [], ◌∷◌, ℕ, nat_eq, nat_lt, nat_le, T}
use Rattle.protocol.specs.declared.Name.{Name}

abbrev pub same_name : Name → Name → Bool
same_name a b = nat_eq a.home b.home && nat_eq a.start b.start && nat_eq a.number b.number

-- limits of a house: orders held back, orders asked about, starts, bytes of its file
abbrev pub most_held : ℕ
most_held = 64

abbrev pub most_asked : ℕ
most_asked = 64

abbrev pub most_starts : ℕ
most_starts = 65535

abbrev pub most_bytes : ℕ
most_bytes = 4194304

-- the limits of numbers: 1 to 16 houses; a name's home below n, its start from 1 to 65,535, its number at most 65,535
abbrev pub houses_ok : ℕ → Bool
houses_ok n = nat_le 1 n && nat_le n 16

abbrev pub name_ok : ℕ → Name → Bool
name_ok n d = nat_lt d.home n && nat_le 1 d.start && nat_le d.start 65535 && nat_le d.number 65535

-- Order: what is asked for; Shelves: what one house has. party: does the order touch the house; empty: a house's shelves at first;
-- do_here: what the order makes of this house's shelves; sees_here: does it find there what it wants;
-- clear: does it clash with none of the orders held back there now; size: how many bytes it takes in a file; houses: those that it touches;
-- same: are two orders one and the same; valid: is it an order at all where there are n houses
pub record Model : Type 1 where
  pub Order : Type 0
  pub Shelves : Type 0
  pub name : Order → Name
  pub party : ℕ → Order → Bool
  pub empty : Shelves
  pub do_here : ℕ → Order → Shelves → Shelves
  pub sees_here : ℕ → Order → Shelves → Bool
  pub clear : ℕ → Order → List Order → Shelves → Bool
  pub size : Order → ℕ
  pub houses : Order → List ℕ
  pub same : Order → Order → Bool
  pub valid : ℕ → Order → Bool

module _ (M : Model) where
  -- may the order be held back there beside the orders held back now
  abbrev pub admits : ℕ → M.Order → List M.Order → M.Shelves → Bool
  admits h t us m = M.clear h t us m && M.sees_here h t m

  abbrev pub do_all : M.Order → (ℕ → M.Shelves) → ℕ → M.Shelves
  do_all t m h = M.do_here h t (m h)

  -- the shelves of all houses after the orders, done one after the other
  unfoldable pub played_all : (ℕ → M.Shelves) → List M.Order → ℕ → M.Shelves
  played_all m [] = m
  played_all m (t ∷ ts) = played_all (do_all t m) ts

  abbrev pub Sees : (ℕ → M.Shelves) → M.Order → Type 0
  Sees m t = (h : ℕ) → T (M.party h t) → T (M.sees_here h t (m h))

  -- each order saw what those before it left
  unfoldable pub SerialAll : (ℕ → M.Shelves) → List M.Order → Type 0
  SerialAll m [] = Unit {0}
  SerialAll m (t ∷ ts) = Sees m t × SerialAll (do_all t m) ts
