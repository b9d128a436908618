-- Machines stop at any moment, over the bytes that the ledger has.
-- Assumes nothing.
use Rattle.std.specs.Prelude.{◌≡◌, List, ℕ, T}
use Rattle.std.proofs.Math.Option.{Option, none, some}
use Rattle.protocol.specs.Model.{houses_ok}
use Rattle.protocol.specs.Crash as crash
use Rattle.protocol.specs.Crash.{Codec}
use Rattle.orders.specs.Order.{Rec, rec_ok, entry_model}
use Rattle.orders.specs.Encode.{rec_bytes}
use Rattle.orders.specs.File.{AllFit}
use Rattle.orders.specs.Parse.{Got, got, cut, bad, parse}
use Rattle.promise.specs.Promise.{Command, after, Whole}

-- the first record of the bytes, if there is a whole one
abbrev pub record_of : Got Rec → Option (Rec × List ℕ)
record_of (got r rest) = some (r, rest)
record_of cut = none
record_of (bad k) = none

-- it writes and reads records as the ledger's format says, where there are n houses
pub record IsLedger (n : ℕ) (C : Codec entry_model) : Type 0 where
  pub writes : (r : Rec) → C.put r ≡ rec_bytes r
  pub reads : (bs : List ℕ) → C.get bs ≡ record_of (parse n bs)
  pub takes : (r : Rec) → C.fits r ≡ rec_ok n r

-- the ledger's format is such that a record cut short isn't read, and a whole one is read whatever follows it
abbrev pub LedgerCodec : Type 0
LedgerCodec = (n : ℕ) → T (houses_ok n) → (C : Codec entry_model) × IsLedger n C

-- whatever comes about with machines that stop after any effect, or inside an append at any byte, is covered by a list of whole commands,
-- and so the promise of the whole holds of it
abbrev pub MainStopped : Type 0
MainStopped =
    (n : ℕ) (C : Codec entry_model) (m : crash.System entry_model) → T (houses_ok n) → crash.Occurs entry_model C n m →
    (cs : List Command) × crash.Covers entry_model m (after n cs) × Whole n (after n cs)

-- a house that has nothing left to do can take whatever comes: the records of valid orders fit the ledger's format
abbrev pub Accepts : Type 0
Accepts = crash.AcceptsAt entry_model

abbrev pub LedgerFits : Type 0
LedgerFits = (n : ℕ) (C : Codec entry_model) → T (houses_ok n) → IsLedger n C → crash.FitsValid entry_model C n

-- after any list of commands every record of every house's file is within the limits of its numbers, so that the file can be written and read again
abbrev pub Writable : Type 0
Writable = (n : ℕ) (cs : List Command) (i : ℕ) → T (houses_ok n) → AllFit n ((after n cs).house i).file

-- one step by itself that is interrupted was not begun, or was done
abbrev pub OneStep : Type 0
OneStep = crash.OneStepAt entry_model
