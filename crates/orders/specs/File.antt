-- A file read from its front, record by record, and the laws of whole files. Assumes nothing.
use Rattle.std.specs.Prelude.{◌≡◌, ℕ, zero, suc, ◌<◌, true, List, [], ◌∷◌, ◌++◌, length, take, ◌≢◌}
use Rattle.orders.specs.Order.{Rec, rec_ok}
use Rattle.orders.specs.Parse.{Got, got, cut, bad, parse}
use Rattle.orders.specs.Encode.{rec_bytes}
use Rattle.orders.specs.Laws.{Bytes}

-- the records rs, read one after the other from the front of bs where there are n houses, leave the bytes given last
pub data Reached (n : ℕ) (bs : List ℕ) : List Rec → List ℕ → Type 0 where
  start : Reached n bs [] bs
  next : (rs : List Rec) (xs rest : List ℕ) (r : Rec) → Reached n bs rs xs → parse n xs ≡ got r rest → Reached n bs (rs ++ r ∷ []) rest

-- no further record is read from xs
abbrev pub Ended : ℕ → List ℕ → Type 0
Ended n xs = (r : Rec) (rest : List ℕ) → parse n xs ≢ got r rest

-- a record and those that f reads behind it
abbrev pub then_records : (List ℕ → List Rec) → Got Rec → List Rec
then_records f (got r rest) = r ∷ f rest
then_records f cut = []
then_records f (bad k) = []

-- the first k records of bs, or as many as are read from its front
unfoldable pub first_records : ℕ → ℕ → List ℕ → List Rec
first_records n zero bs = []
first_records n (suc k) bs = then_records (first_records n k) (parse n bs)

-- the records read from the front of bs up to where no further one is read; each takes a byte at least
unfoldable pub records : ℕ → List ℕ → List Rec
records n bs = first_records n (length bs) bs

-- the bytes of records, one after the other
abbrev pub all_bytes : List Rec → List ℕ
all_bytes [] = []
all_bytes (r ∷ rs) = rec_bytes r ++ all_bytes rs

-- the numbers of each are within the limits
abbrev pub AllFit : ℕ → List Rec → Type 0
AllFit n [] = Unit {0}
AllFit n (r ∷ rs) = (rec_ok n r ≡ true) × AllFit n rs

-- a file read to its end gives back the records that were written
abbrev pub FileReadsBack : Type 0
FileReadsBack = (n : ℕ) (rs : List Rec) → AllFit n rs → Reached n (all_bytes rs) rs []

-- one cut inside a record gives back those before it
abbrev pub FileCutShort : Type 0
FileCutShort =
    (n : ℕ) (rs : List Rec) (r : Rec) (k : ℕ) → AllFit n rs → rec_ok n r ≡ true → k < length (rec_bytes r) →
    Reached n (all_bytes rs ++ take k (rec_bytes r)) rs (take k (rec_bytes r)) × (parse n (take k (rec_bytes r)) ≡ cut)

-- two readings of the same bytes to where no further record is read give the same records, and leave the same bytes
abbrev pub FileOneReading : Type 0
FileOneReading =
    (n : ℕ) (bs : List ℕ) (rs qs : List Rec) (xs ys : List ℕ) → Reached n bs rs xs → Ended n xs → Reached n bs qs ys → Ended n ys →
    (rs ≡ qs) × (xs ≡ ys)

-- what was read is what the bytes are
abbrev pub FileOneForm : Type 0
FileOneForm = (n : ℕ) (bs : List ℕ) (rs : List Rec) (xs : List ℕ) → Bytes bs → Reached n bs rs xs → bs ≡ all_bytes rs ++ xs

-- a record added to a file of whole records is the last that is read
abbrev pub FileAppended : Type 0
FileAppended =
    (n : ℕ) (bs : List ℕ) (rs : List Rec) (r : Rec) → Reached n bs rs [] → rec_ok n r ≡ true → Reached n (bs ++ rec_bytes r) (rs ++ r ∷ []) []

-- those records are what is reached where no further one is read
abbrev pub FileListed : Type 0
FileListed = (n : ℕ) (bs : List ℕ) → (xs : List ℕ) × Reached n bs (records n bs) xs × Ended n xs
