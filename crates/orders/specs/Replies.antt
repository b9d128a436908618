-- What is written in reply to a message. Assumes nothing.
use Rattle.std.specs.Prelude.{◌≡◌, ℕ, List, Err, Result}
use Rattle.protocol.specs.Net.{Hold, Yes, Told}
use Rattle.orders.specs.declared.Refusal.{Refusal}
use Rattle.orders.specs.declared.Refusal.TheVariants.{BadForm}
use Rattle.orders.specs.Refusals.{number_of}
use Rattle.orders.specs.Parse.{Taken, taken, refused}
use Rattle.orders.specs.Encode.{msg_bytes}
use Rattle.orders.specs.Room.{size_in, over_in}

-- to a hold the house's yes, in front of the bytes lent, if there is room; to anything else nothing: what is no hold is of a bad form,
-- and what is no message is refused by its number
abbrev pub RepliesYes : ℕ → Taken → (before after : List ℕ) → Result ℕ Refusal → Type 0
RepliesYes h (taken (Hold t)) before after r = (r ≡ size_in (msg_bytes (Yes h t.name)) before) × (after ≡ over_in (msg_bytes (Yes h t.name)) before)
RepliesYes h (taken (Yes j d)) before after r = (r ≡ Err BadForm) × (after ≡ before)
RepliesYes h (taken (Told d b)) before after r = (r ≡ Err BadForm) × (after ≡ before)
RepliesYes h (refused k) before after r = (f : Refusal) × (r ≡ Err f) × (number_of f ≡ k) × (after ≡ before)
