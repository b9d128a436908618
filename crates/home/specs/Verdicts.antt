-- What the home's answers stand for: an answer and the memory left are those of the plan. Assumes nothing.
use Rattle.std.specs.Prelude.{◌≡◌, Bool, cond, Ok, Err, Result}
use Rattle.protocol.specs.declared.Name.{Name}
use Rattle.protocol.specs.Net.{Memory, drop_ask}
use Rattle.protocol.specs.Plan.{Output, Work, Verdict, refused, does, keep_asking}
use Rattle.orders.specs.declared.Refusal.{Refusal}
use Rattle.orders.specs.Order.{entry_model}
use Rattle.orders.specs.Refusals.{number_of}
use Rattle.home.specs.declared.memory.Home.{Home}
use Rattle.home.specs.Memory.{memory_of}

-- a number out of range is refused by 2, before any other cause
abbrev pub in_range : {X : Type 0} → Bool → Verdict X → Verdict X
in_range ok v = cond ok v (refused 2)

-- what an answer says: done, with this output and this memory, or refused by its number
abbrev pub verdict_of : Output entry_model → Memory entry_model → Result (Unit {0}) Refusal → Verdict (Work entry_model)
verdict_of o m (Ok _) = does (record { out = o; memory = m })
verdict_of o m (Err f) = refused (number_of f)

-- the memory that a plan leaves: as it was, where it refuses
abbrev pub memory_after : Verdict (Work entry_model) → Memory entry_model → Memory entry_model
memory_after (refused k) m = m
memory_after (does w) m = w.memory

-- the memory without the order of that name
abbrev pub stop_asking : Name → Memory entry_model → Memory entry_model
stop_asking d m = keep_asking entry_model (drop_ask entry_model d m.asking) m

-- a step ended as planned: its answer and the memory that it leaves are the plan's, and the home is still this house in this start
pub record Ended (plan : Verdict (Work entry_model)) (out : Output entry_model) (before after : Home) (answer : Result (Unit {0}) Refusal) : Type 0 where
  pub decision : verdict_of out (memory_of after) answer ≡ plan
  pub memory : memory_of after ≡ memory_after plan (memory_of before)
  pub house : after.house ≡ before.house
  pub start : after.start ≡ before.start
