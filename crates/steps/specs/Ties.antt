-- The live state is the replay of the file, and what a house may speak of is on its disk. Assumes nothing.
use Rattle.std.specs.Prelude.{◌≡◌, ℕ, ◌≤◌, Bool, true, List, length, take, Ok, Err, Result}
use Rattle.protocol.specs.declared.Name.{Name}
use Rattle.protocol.specs.House.{ever_held, ruled}
use Rattle.protocol.specs.State.{State, state_of}
use Rattle.orders.specs.Order.{Rec, entry_model}
use Rattle.orders.specs.File.{all_bytes}
use Rattle.steps.specs.declared.broken.Broken.{Broken}
use Rattle.steps.specs.declared.broken.Trouble.{Trouble}
use Rattle.steps.specs.declared.broken.Trouble.TheVariants.{Refused, NoMemory, Down}
use Rattle.steps.specs.Hosts.{World, on_disk}

-- the file is the bytes of the records of log, of which the first `kept` are durable; what house i knows is what the file says;
-- each held and each ruled record is durable
pub record Tied (i : ℕ) (w : World) (v : State entry_model) : Type 0 where
  pub log : List Rec
  pub kept : ℕ
  pub few : kept ≤ length log
  pub within : w.durable ≤ length w.file
  pub file : w.file ≡ all_bytes log
  pub disk : on_disk w ≡ all_bytes (take kept log)
  pub state : v ≡ state_of entry_model i log
  pub held : (d : Name) → ever_held entry_model d log ≡ true → ever_held entry_model d (take kept log) ≡ true
  pub rules : (d : Name) → ruled entry_model d log ≡ true → ruled entry_model d (take kept log) ≡ true

-- so it stays, unless the host failed
abbrev pub StillTied : ℕ → World → State entry_model → Result (Unit {0}) Trouble → Type 0
StillTied i w v (Ok _) = Tied i w v
StillTied i w v (Err (Refused f)) = Tied i w v
StillTied i w v (Err NoMemory) = Tied i w v
StillTied i w v (Err Down) = Unit {0}

abbrev pub AnswerTied : ℕ → World → State entry_model → Result Bool Trouble → Type 0
AnswerTied i w v (Ok _) = Tied i w v
AnswerTied i w v (Err (Refused f)) = Tied i w v
AnswerTied i w v (Err NoMemory) = Tied i w v
AnswerTied i w v (Err Down) = Unit {0}

abbrev pub SyncTied : ℕ → World → State entry_model → Result (Unit {0}) Broken → Type 0
SyncTied i w v (Ok _) = Tied i w v
SyncTied i w v (Err _) = Unit {0}
