-- A house holds back, says yes again, and learns whenever it may, and its home rules once every house has said yes.
-- Assumes nothing.
use Rattle.std.specs.Prelude.{◌≡◌, true, false, [], ◌∷◌, ℕ, ◌+◌, ◌<◌, ◌≤◌, T, length}
use Rattle.std.proofs.Math.Option.{some}
use Rattle.protocol.specs.declared.Name.{Name}
use Rattle.protocol.specs.Model.{Model, most_held, most_bytes}
use Rattle.protocol.specs.House.{Held, Done, Dropped, Ruled, is_in}
use Rattle.protocol.specs.Net.{Asking, Memory, Yes, Told, drop_ask}
use Rattle.protocol.specs.State.{State, rec_size}
use Rattle.protocol.specs.Plan.{does, speak, is_held_back, plan_hold, plan_learn, ask_of, all_yes, keep_asking, plan_rule}

pub record ExactAt (M : Model) : Type 0 where
  -- an order of this house that was never held, clashes with nothing held back, finds what it saw, and has room, is held, synced, and gets its yes
  pub holds : (i : ℕ) (t : M.Order) (v : State M) → T (M.party i t) → (T (is_held_back M t v.held) → ⊥) → (T (v.ever (M.name t)) → ⊥) →
      T (M.clear i t v.held v.shelves) → T (M.sees_here i t v.shelves) → length v.held < most_held → v.bytes + rec_size M (Held t) ≤ most_bytes →
      plan_hold M i t v ≡ does (record { adds = Held t ∷ []; syncs = true; sends = Yes i (M.name t) ∷ [] })
  -- one that is held back gets its yes again, and nothing is written
  pub holds_again : (i : ℕ) (t : M.Order) (v : State M) → T (M.party i t) → T (is_held_back M t v.held) → plan_hold M i t v ≡ does (speak M (Yes i (M.name t) ∷ []))
  -- an order that is held back is done or dropped once its house is told
  pub learns : (d : Name) (v : State M) → T (is_in M d v.held) → v.bytes + 10 ≤ most_bytes →
      (plan_learn M d true v ≡ does (record { adds = Done d ∷ []; syncs = false; sends = [] })) × (plan_learn M d false v ≡ does (record { adds = Dropped d ∷ []; syncs = false; sends = [] }))
  -- an order that is asked about and of which every house said yes is ruled, synced, no longer asked about, and told
  pub rules : (d : Name) (bytes : ℕ) (m : Memory M) (a : Asking M) → ask_of M d m.asking ≡ some a → T (all_yes M a) → bytes + rec_size M (Ruled a.order) ≤ most_bytes →
      plan_rule M d bytes m ≡ does (record {
        out = record { adds = Ruled a.order ∷ []; syncs = true; sends = Told (M.name a.order) true ∷ [] };
        memory = keep_asking M (drop_ask M (M.name a.order) m.asking) m;
      })

abbrev pub Exact : Type 1
Exact = (M : Model) → ExactAt M
