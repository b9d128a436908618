-- How a trouble in opening a file is passed on. Assumes nothing.
use Rattle.std.specs.Prelude.{◌≡◌}
use Rattle.ledger.specs.declared.Trouble.{Trouble as LedgerTrouble}
use Rattle.ledger.specs.declared.Trouble.TheVariants as opening
use Rattle.steps.specs.declared.broken.Trouble.{Trouble}
use Rattle.steps.specs.declared.broken.Trouble.TheVariants.{Refused, NoMemory}

-- a refusal stays one, by its number, and want of memory stays want of memory
abbrev pub Passed : LedgerTrouble → Trouble → Type 0
Passed (opening.Refused f) t = t ≡ Refused f
Passed opening.NoMemory t = t ≡ NoMemory
