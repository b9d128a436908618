-- What the answers of a ledger have the house do. Assumes nothing.
use Rattle.std.specs.Prelude.{◌≡◌, ℕ, Bool, true, false, cond, [], ◌∷◌, Ok, Err, Result}
use Rattle.protocol.specs.declared.Name.{Name}
use Rattle.protocol.specs.House.{Held, Done, Dropped}
use Rattle.protocol.specs.Net.{Yes}
use Rattle.protocol.specs.State.{State}
use Rattle.protocol.specs.Plan.{Verdict, refused, does, Output, speak, is_held_back}
use Rattle.orders.specs.Order.{Order, entry_model}
use Rattle.orders.specs.Refusals.{number_of}
use Rattle.orders.specs.declared.Refusal.{Refusal}
use Rattle.ledger.specs.View.{Fits}
use Rattle.ledger.specs.declared.Admission.{Admission}
use Rattle.ledger.specs.declared.Admission.TheVariants.{Fresh, Again}

-- what the answer to a hold of an order that is not held back has house i do
abbrev pub new_hold : ℕ → Order → Result Unit Refusal → Verdict (Output entry_model)
new_hold i t (Ok u) = does (record { adds = Held t ∷ []; syncs = true; sends = Yes i t.name ∷ [] })
new_hold i t (Err f) = refused (number_of f)

-- what the answer to any hold has it do
abbrev pub admission : ℕ → Order → Result Admission Refusal → Verdict (Output entry_model)
admission i t (Ok Fresh) = new_hold i t (Ok tt)
admission i t (Ok Again) = does (speak entry_model (Yes i t.name ∷ []))
admission i t (Err f) = refused (number_of f)

-- a hold that is to be written down fits
abbrev pub NewGrounds : Order → State entry_model → Result Unit Refusal → Type 0
NewGrounds t v (Ok u) = Fits (Held t) v
NewGrounds t v (Err f) = Unit {0}

-- a hold that is to be written down fits, and one that comes again is held back
abbrev pub HoldGrounds : Order → State entry_model → Result Admission Refusal → Type 0
HoldGrounds t v (Ok Fresh) = Fits (Held t) v
HoldGrounds t v (Ok Again) = is_held_back entry_model t v.held ≡ true
HoldGrounds t v (Err f) = Unit {0}

-- what the answer to a decision that was told has the house do
abbrev pub learning : Name → Bool → Result Unit Refusal → Verdict (Output entry_model)
learning d b (Ok u) = does (record { adds = cond b (Done d) (Dropped d) ∷ []; syncs = false; sends = [] })
learning d b (Err f) = refused (number_of f)

-- either record of it fits
abbrev pub LearnGrounds : Name → State entry_model → Result Unit Refusal → Type 0
LearnGrounds d v (Ok u) = Fits (Done d) v × Fits (Dropped d) v
LearnGrounds d v (Err f) = Unit {0}
