-- The number of each refusal; where several fit, the lowest is answered. Assumes nothing.
use Rattle.std.specs.Prelude.{ℕ}
use Rattle.orders.specs.declared.Refusal.{Refusal}
use Rattle.orders.specs.declared.Refusal.TheVariants.{BadForm, OutOfRange, BadHistory, NotThisStart, AlreadyTried, AskingFull, NotParty, HeldBefore, Clash, NotAsSeen, HoldingFull, NotPending, MissingYes, NothingToSay, FileFull}

abbrev pub number_of : Refusal → ℕ
number_of BadForm = 1
number_of OutOfRange = 2
number_of BadHistory = 3
number_of NotThisStart = 4
number_of AlreadyTried = 5
number_of AskingFull = 6
number_of NotParty = 7
number_of HeldBefore = 8
number_of Clash = 9
number_of NotAsSeen = 10
number_of HoldingFull = 11
number_of NotPending = 12
number_of MissingYes = 13
number_of NothingToSay = 14
number_of FileFull = 15
