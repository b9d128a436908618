-- A house's state is the replay of its file, record by record.
use mathlib.Core.Path.{◌≡◌, refl, sym, ◌∙◌, ap}
use mathlib.Core.Bool.{Bool, true, false, ◌||◌}
use mathlib.Core.List.{List, [], ◌∷◌, ◌++◌, append-nil, append_assoc}
use Prim.Native.Nat.{ℕ, ◌+◌}
use native.Mathlib.Omega.{arith}
use Rattle.protocol.specs.declared.Name.{Name}
use Rattle.protocol.specs.Model.{Model}
use Rattle.protocol.specs.House.{Rec, Began, Held, Done, Dropped, Ruled, count_began, starts, holding, stock_from, is_held, is_ruled, ever_held, ruled}
use Rattle.protocol.specs.State.{State, state_of, empty_state, apply, replay, rec_size, file_size, Replays}
use Rattle.protocol.proofs.Held.{starts-snoc, holding-snoc, stock-snoc}

or_assoc : (a b c : Bool) → a || (b || c) ≡ (a || b) || c
or_assoc true b c = refl
or_assoc false b c = refl

or_swap : (a b : Bool) → a || b ≡ b || a
or_swap true true = refl
or_swap true false = refl
or_swap false true = refl
or_swap false false = refl

or-false : (a : Bool) → a || false ≡ a
or-false true = refl
or-false false = refl

module _ (M : Model) (i : ℕ) where
  count_add : (r : Rec M) (k : ℕ) → k + count_began M r 0 ≡ count_began M r k
  count_add Began k = omega arith
  count_add (Held t) k = omega arith
  count_add (Done d) k = omega arith
  count_add (Dropped d) k = omega arith
  count_add (Ruled t) k = omega arith

  pub ever-snoc : (d : Name) (f : List (Rec M)) (r : Rec M) → ever_held M d (f ++ (r ∷ [])) ≡ ever_held M d f || is_held M d r
  unfolding ever_held
  ever-snoc d [] r = or-false (is_held M d r)
  ever-snoc d (x ∷ f) r = ap (λ (b : Bool). is_held M d x || b) (ever-snoc d f r) ∙ or_assoc (is_held M d x) (ever_held M d f) (is_held M d r)

  pub ruled-snoc : (d : Name) (f : List (Rec M)) (r : Rec M) → ruled M d (f ++ (r ∷ [])) ≡ ruled M d f || is_ruled M d r
  unfolding ruled
  ruled-snoc d [] r = or-false (is_ruled M d r)
  ruled-snoc d (x ∷ f) r = ap (λ (b : Bool). is_ruled M d x || b) (ruled-snoc d f r) ∙ or_assoc (is_ruled M d x) (ruled M d f) (is_ruled M d r)

  pub size-snoc : (f : List (Rec M)) (r : Rec M) → file_size M (f ++ (r ∷ [])) ≡ file_size M f + rec_size M r
  unfolding file_size
  size-snoc [] r = omega arith
  size-snoc (x ∷ f) r = omega (arith, size-snoc f r)

  -- one record more, several more
  pub state-snoc : (f : List (Rec M)) (r : Rec M) → state_of M i (f ++ (r ∷ [])) ≡ apply M i r (state_of M i f)
  state-snoc f r = λ t. record {
    began = (starts-snoc M f r ∙ count_add r (starts M f)) t;
    held = holding-snoc M f r t;
    shelves = stock-snoc M i f r t;
    ever = λ d. (ever-snoc d f r ∙ or_swap (ever_held M d f) (is_held M d r)) t;
    ruled = λ d. (ruled-snoc d f r ∙ or_swap (ruled M d f) (is_ruled M d r)) t;
    bytes = size-snoc f r t;
  }

  pub state-more : (rs f : List (Rec M)) → state_of M i (f ++ rs) ≡ replay M i rs (state_of M i f)
  unfolding replay
  state-more [] f = ap (λ (g : List (Rec M)). state_of M i g) (append-nil f)
  state-more (r ∷ rs) f =
      ap (λ (g : List (Rec M)). state_of M i g) (sym (append_assoc f (r ∷ []) rs)) ∙ state-more rs (f ++ (r ∷ [])) ∙ ap (λ (v : State M). replay M i rs v) (state-snoc f r)

  pub state-opened : (f : List (Rec M)) → state_of M i f ≡ replay M i f (empty_state M)
  unfolding starts holding stock_from ever_held ruled file_size
  state-opened f = state-more f []

pub replays : Replays
replays M = record { opened = state-opened M; extended = state-more M }
