-- What a rehearsal answers. Assumes nothing.
use Rattle.std.specs.Prelude.{ℕ, cond, ◌&&◌, Some, None, Ok, Err, Option, Result, nat_le}
use Rattle.orders.specs.declared.Refusal.{Refusal}
use Rattle.orders.specs.declared.Refusal.TheVariants.{BadForm, OutOfRange}
use Rattle.script.specs.Meaning.{Meaning, skip, houses, submit, hold, vote, rule, give_up, answer, learn, sync, stop, show}
use Rattle.rehearse.specs.declared.rehearsal.State.{State}
use Rattle.rehearse.specs.declared.rehearsal.Answer.{Answer}
use Rattle.rehearse.specs.declared.rehearsal.Answer.TheVariants.{Skipped, Done, Shown}

-- no houses yet, or n of them
abbrev pub empty : State
empty = record { houses = None }

abbrev pub ready : ℕ → State
ready n = record { houses = Some n }

-- 1 to 4 houses can be rehearsed
abbrev pub set_up : ℕ → Result ℕ Refusal
set_up n = cond (nat_le 1 n && nat_le n 4) (Ok n) (Err OutOfRange)

-- what comes of the attempt
abbrev pub sets_up : Result ℕ Refusal → State × Result Answer Refusal
sets_up (Ok n) = (ready n, Ok Done)
sets_up (Err f) = (empty, Err f)

-- the first line that says something sets the houses up; no other line has a house to speak of
abbrev pub before : Meaning → State × Result Answer Refusal
before skip = (empty, Ok Skipped)
before (houses n) = sets_up (set_up n)
before (submit h o) = (empty, Err OutOfRange)
before (hold h m) = (empty, Err OutOfRange)
before (vote h j m) = (empty, Err OutOfRange)
before (rule h m) = (empty, Err OutOfRange)
before (give_up h m) = (empty, Err OutOfRange)
before (answer h m) = (empty, Err OutOfRange)
before (learn h b m) = (empty, Err OutOfRange)
before (sync h) = (empty, Err OutOfRange)
before (stop h k) = (empty, Err OutOfRange)
before show = (empty, Err OutOfRange)

-- once there are houses they are shown; the steps are not played yet
abbrev pub during : Meaning → Result Answer Refusal
during skip = Ok Skipped
during (houses n) = Err BadForm
during (submit h o) = Err BadForm
during (hold h m) = Err BadForm
during (vote h j m) = Err BadForm
during (rule h m) = Err BadForm
during (give_up h m) = Err BadForm
during (answer h m) = Err BadForm
during (learn h b m) = Err BadForm
during (sync h) = Err BadForm
during (stop h k) = Err BadForm
during show = Ok Shown

-- what a line in form makes of a rehearsal, and the answer, by how many houses there are
abbrev pub obey_with : Option ℕ → Meaning → State × Result Answer Refusal
obey_with None m = before m
obey_with (Some n) m = (ready n, during m)

-- the same, by the rehearsal
abbrev pub obey : State → Meaning → State × Result Answer Refusal
obey s m = obey_with s.houses m

-- THE REHEARSAL: what a line makes of it, and the answer; a line out of form is refused, and changes nothing
abbrev pub play : State → Result Meaning Refusal → State × Result Answer Refusal
play s (Ok m) = obey s m
play s (Err f) = (s, Err f)
