-- The answers of a ledger as numbers. Assumes nothing.
use Rattle.std.specs.Prelude.{◌≡◌, ℕ, zero, suc, ◌+◌, ◌-◌, ◌%◌, ◌^◌, List, length, Ok, Err, vec_items, Result}
use Rattle.protocol.specs.Net.{Hold, Yes, Told}
use Rattle.protocol.specs.State.{State}
use Rattle.protocol.specs.Plan.{Verdict, refused, does, plan_hold}
use Rattle.orders.specs.Order.{Order, entry_model}
use Rattle.orders.specs.Refusals.{number_of}
use Rattle.orders.specs.Parse.{Taken, taken, message}
use Rattle.orders.specs.Parse as parse
use Rattle.ledger.specs.View.{view}
use Rattle.ledger.specs.Opening.{Opened}
use Rattle.ledger.specs.declared.Ledger.{Ledger}
use Rattle.ledger.specs.declared.Trouble.{Trouble}
use Rattle.ledger.specs.declared.Trouble.TheVariants.{Refused, NoMemory}
use Rattle.measure.specs.declared.Summary.{Summary}

-- a file that is not opened, and the number of the refusal
abbrev pub refusal : ℕ → Summary
refusal k = record { refused = k; start = 0; held = 0; bytes = 0 }

-- what a ledger says of itself, or why there is none; 255 for want of memory
abbrev pub summary_of : Result Ledger Trouble → Summary
summary_of (Ok l) = record { refused = 0; start = l.start; held = length (vec_items l.held); bytes = l.bytes }
summary_of (Err (Refused f)) = refusal (number_of f)
summary_of (Err NoMemory) = refusal 255

-- the summary of what opening answers, with the shelves left in the lent words
abbrev pub Summed : ℕ → ℕ → List ℕ → (before after : List ℕ) → Summary → Type 0
Summed n h bs before after s = (a : Result Ledger Trouble) × Opened n h bs before after a × (s ≡ summary_of a)

-- the number of a refusal, 0 for what is done
abbrev pub number_in : {A : Type 0} → Verdict A → ℕ
number_in (refused k) = k
number_in (does a) = 0

-- the order under another number
abbrev pub renumbered : Order → ℕ → Order
renumbered t k = record { name = record { home = t.name.home; start = t.name.start; number = k }; reads = t.reads; writes = t.writes }

-- the numbers of house h's answers to the order under each number below the last, added up modulo 2^64
unfoldable pub answers : ℕ → Order → State entry_model → ℕ → ℕ
answers h t v zero = 0
answers h t v (suc k) = (answers h t v k + number_in (plan_hold entry_model h (renumbered t k) v)) % 2 ^ 64

-- the same for the hold that a message is, of the ledger that was opened; where there is none of either, the largest number
abbrev pub answers_of : Taken → Result Ledger Trouble → List ℕ → ℕ → ℕ
answers_of (taken (Hold t)) (Ok l) shelves times = answers l.house t (view l shelves) times
answers_of (taken (Hold t)) (Err f) shelves times = 2 ^ 64 - 1
answers_of (taken (Yes j d)) a shelves times = 2 ^ 64 - 1
answers_of (taken (Told d b)) a shelves times = 2 ^ 64 - 1
answers_of (parse.refused k) a shelves times = 2 ^ 64 - 1

-- the answers of what was opened to what the message says
abbrev pub Answered : ℕ → ℕ → List ℕ → (before after : List ℕ) → List ℕ → ℕ → ℕ → Type 0
Answered n h bs before after m times r = (a : Result Ledger Trouble) × Opened n h bs before after a × (r ≡ answers_of (message n m) a after times)
