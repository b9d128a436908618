-- How a step ends: as the house's function says, in the answer, on the host and in what the house knows. Assumes nothing.
use Rattle.std.specs.Prelude.{◌≡◌, ℕ, ◌<◌, Bool, true, false, [], ◌∷◌, ◌++◌, length, take, Ok, Err, Result}
use Rattle.protocol.specs.declared.Name.{Name}
use Rattle.protocol.specs.Net as net
use Rattle.protocol.specs.State.{State, apply, replay}
use Rattle.protocol.specs.Plan.{Verdict, refused, does, Output, Work, speak}
use Rattle.orders.specs.Order.{Rec, Msg, entry_model}
use Rattle.orders.specs.Encode.{rec_bytes}
use Rattle.orders.specs.declared.Refusal.{Refusal}
use Rattle.home.specs.declared.memory.Home.{Home}
use Rattle.home.specs.Memory.{memory_of}
use Rattle.home.specs.Verdicts.{memory_after}
use Rattle.home.specs.Rulings.{ruled_work}
use Rattle.entries.specs.Named.{named_of}
use Rattle.entries.specs.declared.named.NamedOrder.{NamedOrder}
use Rattle.protocol.specs.Net.{Memory}
use Rattle.orders.specs.Refusals.{number_of}
use Rattle.steps.specs.declared.broken.Broken.{Broken}
use Rattle.steps.specs.declared.broken.Trouble.{Trouble}
use Rattle.steps.specs.declared.broken.Trouble.TheVariants.{Refused, NoMemory, Down}
use Rattle.steps.specs.Hosts.{World, appended, spoken, performed}

-- the host did all of the output; where it failed, of the messages at most some first part went out
abbrev pub Performs : Output entry_model → World → World → Result (Unit {0}) Broken → Type 0
Performs o x y (Ok _) = y ≡ performed o x
Performs o x y (Err _) = (k : ℕ) × (y.sent ≡ x.sent ++ take k o.sends)

-- the output of a step; of one that is refused, nothing
abbrev pub output_of : Verdict (Output entry_model) → Output entry_model
output_of (refused k) = speak entry_model []
output_of (does o) = o

abbrev pub is_done : Verdict (Output entry_model) → Bool
is_done (refused k) = false
is_done (does o) = true

-- the output of a step that changes the memory too
abbrev pub out_of : Verdict (Work entry_model) → Verdict (Output entry_model)
out_of (refused k) = refused k
out_of (does w) = does w.out

-- Ok: the step is done, the host performed its output, and the house knows the records that it added; refused by its number, or, where a record was
-- to be added, for want of memory: all is as it was; where the host failed: of the messages at most some first part went out
abbrev pub Stepped : ℕ → Verdict (Output entry_model) → World → World → State entry_model → State entry_model → Result (Unit {0}) Trouble → Type 0
Stepped i p x y v u (Ok _) = (is_done p ≡ true) × (y ≡ performed (output_of p) x) × (u ≡ replay entry_model i (output_of p).adds v)
Stepped i p x y v u (Err (Refused f)) = (p ≡ refused (number_of f)) × (y ≡ x) × (u ≡ v)
Stepped i p x y v u (Err NoMemory) = (y ≡ x) × (u ≡ v) × (is_done p ≡ true) × (0 < length (output_of p).adds)
Stepped i p x y v u (Err Down) = (k : ℕ) × (y.sent ≡ x.sent ++ take k (output_of p).sends)

-- the record is noted and appended, or there was no memory for it, or the host failed and nothing was said
abbrev pub Noted : ℕ → Rec → World → World → State entry_model → State entry_model → Result (Unit {0}) Trouble → Type 0
Noted i r x y v u (Ok _) = (y ≡ appended (rec_bytes r) x) × (u ≡ apply entry_model i r v)
Noted i r x y v u (Err (Refused f)) = ⊥
Noted i r x y v u (Err NoMemory) = (y ≡ x) × (u ≡ v)
Noted i r x y v u (Err Down) = y.sent ≡ x.sent

-- what a home answers to a ruling: the order that is then written down and told of, or why it isn't ruled
abbrev pub Granted : Verdict (Work entry_model) → Memory entry_model → Result NamedOrder Refusal → Type 0
Granted p m (Ok k) = p ≡ does (ruled_work (named_of k) m)
Granted p m (Err f) = p ≡ refused (number_of f)

-- a step that leaves the file as it is
abbrev pub Speaks : Verdict (Output entry_model) → World → World → Result (Unit {0}) Trouble → Type 0
Speaks p x y (Ok _) = (is_done p ≡ true) × (y ≡ performed (output_of p) x)
Speaks p x y (Err (Refused f)) = (p ≡ refused (number_of f)) × (y ≡ x)
Speaks p x y (Err NoMemory) = ⊥
Speaks p x y (Err Down) = (k : ℕ) × (y.sent ≡ x.sent ++ take k (output_of p).sends)

-- what was decided is said, or it is passed on why nothing is
abbrev pub Says : Msg → Result (Unit {0}) Refusal → World → World → Result (Unit {0}) Trouble → Type 0
Says m (Ok _) x y r = Speaks (does (speak entry_model (m ∷ []))) x y r
Says m (Err f) x y r = (y ≡ x) × (r ≡ Err (Refused f))

-- the home's memory after a step: the plan's where it is done, as it was where it isn't; a house whose host failed has none
abbrev pub Remembers : Verdict (Work entry_model) → Home → Home → Result (Unit {0}) Trouble → Type 0
Remembers p h k (Ok _) = memory_of k ≡ memory_after p (memory_of h)
Remembers p h k (Err (Refused f)) = memory_of k ≡ memory_of h
Remembers p h k (Err NoMemory) = memory_of k ≡ memory_of h
Remembers p h k (Err Down) = Unit {0}

-- what an answer says: yes of a name that is ruled, no, or that there is nothing to say
abbrev pub Answered : Name → Verdict (Output entry_model) → State entry_model → Result Bool Refusal → Type 0
Answered d p v (Ok true) = (does (speak entry_model (net.Told d true ∷ [])) ≡ p) × (v.ruled d ≡ true)
Answered d p v (Ok false) = does (speak entry_model (net.Told d false ∷ [])) ≡ p
Answered d p v (Err f) = refused (number_of f) ≡ p

-- an answer that was told, refused by its number, or not told since the host failed
abbrev pub Told : Name → Verdict (Output entry_model) → World → World → Result Bool Trouble → Type 0
Told d p x y (Ok b) = (does (speak entry_model (net.Told d b ∷ [])) ≡ p) × (y ≡ spoken (net.Told d b ∷ []) x)
Told d p x y (Err (Refused f)) = (p ≡ refused (number_of f)) × (y ≡ x)
Told d p x y (Err NoMemory) = ⊥
Told d p x y (Err Down) = (k : ℕ) × (y.sent ≡ x.sent ++ take k (output_of p).sends)
