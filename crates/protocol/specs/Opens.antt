-- Every file with which a house can come up opens: nothing but the limits keeps a house down.
-- Assumes nothing.
use Rattle.std.specs.Prelude.{List, ℕ, ◌≤◌, T, take}
use Rattle.protocol.specs.Model.{Model, most_bytes}
use Rattle.protocol.specs.Laws.{Laws}
use Rattle.protocol.specs.Net.{Net, start, Reach}
use Rattle.protocol.specs.State.{empty_state, file_size, all_lawful, opens}
use Rattle.protocol.specs.Run.{Command, run}

-- in a network that can come about, each record of a file, and of every first part of it, may stand behind those before it
abbrev pub LawfulAt : Model → Type 0
LawfulAt M = (n : ℕ) (s : Net M) → Reach M n s → (i k : ℕ) → T (all_lawful M i (take k (s.house i).file) (empty_state M))

-- after any list of commands it is within the limits as well, and so no first part of a file is refused
pub record Openable (M : Model) (s : Net M) (i : ℕ) : Type 0 where
  pub opened : (k : ℕ) → T (opens M i (take k (s.house i).file))
  pub room : file_size M (s.house i).file ≤ most_bytes

abbrev pub OpensAt : Model → Type 0
OpensAt M = (n : ℕ) (cs : List (Command M)) (i : ℕ) → Openable M (run M n cs (start M)) i

abbrev pub Opens : Type 1
Opens = (M : Model) → Laws M → LawfulAt M × OpensAt M
