-- The laws of the bytes of one record and of one message. Each is a type; a proof of the type is the theorem. Assumes nothing.
use Rattle.std.specs.Prelude.{◌≡◌, ℕ, ◌<◌, true, List, [], ◌∷◌, ◌++◌, length, take}
use Rattle.protocol.specs.State.{rec_size}
use Rattle.orders.specs.Order.{Rec, Msg, entry_model, rec_ok, msg_ok}
use Rattle.orders.specs.Parse.{got, cut, bad, parse, taken, refused, message}
use Rattle.orders.specs.Encode.{rec_bytes, msg_bytes}

-- numbers below 256
abbrev pub Bytes : List ℕ → Type 0
Bytes [] = Unit {0}
Bytes (b ∷ bs) = (b < 256) × Bytes bs

-- what was written is read back, and the bytes behind it are left
abbrev pub ReadsBack : Type 0
ReadsBack = (n : ℕ) (r : Rec) (rest : List ℕ) → rec_ok n r ≡ true → parse n (rec_bytes r ++ rest) ≡ got r rest

-- whatever is read is the encoding of what it gave: each record has one form
abbrev pub OneForm : Type 0
OneForm = (n : ℕ) (bs rest : List ℕ) (r : Rec) → Bytes bs → parse n bs ≡ got r rest → bs ≡ rec_bytes r ++ rest

-- every part from the front of an encoding that isn't all of it is cut
abbrev pub CutShort : Type 0
CutShort = (n : ℕ) (r : Rec) (k : ℕ) → rec_ok n r ≡ true → k < length (rec_bytes r) → parse n (take k (rec_bytes r)) ≡ cut

-- bytes added behind a whole record change nothing of it
abbrev pub MoreBehind : Type 0
MoreBehind = (n : ℕ) (bs rest more : List ℕ) (r : Rec) → parse n bs ≡ got r rest → parse n (bs ++ more) ≡ got r (rest ++ more)

-- bytes added behind what is refused by its form, or as a whole record, don't mend it
abbrev pub StaysRefused : Type 0
StaysRefused = (n k : ℕ) (bs more : List ℕ) → parse n bs ≡ bad k → parse n (bs ++ more) ≡ bad k

-- a record has as many bytes as the network counts for it
abbrev pub Sized : Type 0
Sized = (r : Rec) → length (rec_bytes r) ≡ rec_size entry_model r

-- a message that was written is read
abbrev pub MessageReadsBack : Type 0
MessageReadsBack = (n : ℕ) (m : Msg) → msg_ok n m ≡ true → message n (msg_bytes m) ≡ taken m

-- whatever is read as a message is the encoding of what it gave
abbrev pub MessageOneForm : Type 0
MessageOneForm = (n : ℕ) (bs : List ℕ) (m : Msg) → Bytes bs → message n bs ≡ taken m → bs ≡ msg_bytes m

-- a message that is cut short is of a bad form
abbrev pub MessageCutShort : Type 0
MessageCutShort = (n : ℕ) (m : Msg) (k : ℕ) → msg_ok n m ≡ true → k < length (msg_bytes m) → message n (take k (msg_bytes m)) ≡ refused 1

-- so is one with bytes behind it
abbrev pub MessageMoreBehind : Type 0
MessageMoreBehind = (n : ℕ) (m : Msg) (b : ℕ) (bs : List ℕ) → msg_ok n m ≡ true → message n (msg_bytes m ++ b ∷ bs) ≡ refused 1
