-- What an audit of files answers: each is opened, that of house 0 first, and if none is refused their records are searched. Assumes nothing.
use Rattle.std.specs.Prelude.{◌≡◌, ℕ, ◌<◌, false, List, [], map, length, drop, Ok, Err, vec_items, Vec, Result, slice_index_or}
use Rattle.std.specs.declared.alloc.Global.{Global}
use Rattle.protocol.specs.Model.{houses_ok}
use Rattle.protocol.specs.House.{stock}
use Rattle.protocol.specs.State.{State}
use Rattle.names.specs.Index.{in_index}
use Rattle.orders.specs.Order.{Rec, entry_model}
use Rattle.orders.specs.Refusals.{number_of}
use Rattle.orders.specs.Parse.{cut, parse}
use Rattle.orders.specs.declared.Refusal.{Refusal}
use Rattle.entries.specs.Named.{named_of}
use Rattle.ledger.specs.Opening.{ReadTo, Cause}
use Rattle.orders.specs.declared.Entry.{Entry}
use Rattle.audit_search.specs.declared.house.House.{House}
use Rattle.audit_search.specs.declared.houses.Houses.{Houses}
use Rattle.audit_search.specs.declared.faults.Fault.{Fault}
use Rattle.audit_search.specs.declared.faults.Fault.TheVariants as fault
use Rattle.audit_search.specs.Account.{Account, account_of}
use Rattle.audit_search.specs.Search.{Finding, refused, faulty, sound, search, shelves_from}

-- the file of house h, one of n, opens, and these are its records; a record that is cut at its end is none of them
pub record Opens (n h : ℕ) (bs : List ℕ) (rs : List Rec) : Type 0 where
  pub state : State entry_model
  pub opened : ReadTo n h bs state
  pub ends : parse n (drop state.bytes bs) ≡ cut
  pub says : rs ≡ opened.records

-- the files of the first k houses open, and these are their records
pub record OpenTo (k : ℕ) (fs : List (List ℕ)) (rss : List (List Rec)) : Type 0 where
  pub count : length rss ≡ k
  pub each : (i : ℕ) → i < k → Opens (length fs) i (slice_index_or fs i []) (slice_index_or rss i [])

-- all of them do
abbrev pub AllOpen : List (List ℕ) → List (List Rec) → Type 0
AllOpen fs rss = OpenTo (length fs) fs rss

-- the bytes of files that open say their records: there is one reading of them
abbrev pub ReadOnce : Type 0
ReadOnce = (fs : List (List ℕ)) (rss qss : List (List Rec)) → AllOpen fs rss → AllOpen fs qss → rss ≡ qss

-- what an audit of these files answers, one for each house: their number is not 1 to 16; or house h's is the first that is refused;
-- or all open, and what the search of their records finds
pub data Audited (fs : List (List ℕ)) : Finding → Type 0 where
  bad_count : houses_ok (length fs) ≡ false → Audited fs (refused 2 0)
  stopped : (h : ℕ) (f : Refusal) (rss : List (List Rec)) → h < length fs → OpenTo h fs rss → Cause (length fs) h (slice_index_or fs h []) f → Audited fs (refused (number_of f) h)
  searched : (rss : List (List Rec)) → AllOpen fs rss → Audited fs (search rss)

-- what the code's house stands for
abbrev pub account : House → Account
account k = record { ruled = in_index k.ledger.ruled; held = map named_of (vec_items k.ledger.held); done = in_index k.done }

abbrev pub shelves_of : House → List ℕ
shelves_of k = vec_items k.shelves

-- the same of the code's houses, in the order of their numbers
abbrev pub accounts : Houses → List Account
accounts hs = map account (vec_items hs.all)

abbrev pub all_shelves : Houses → List (List ℕ)
all_shelves hs = map shelves_of (vec_items hs.all)

-- the same of the answer; want of memory says nothing
abbrev pub Answered : List (List ℕ) → Result (Vec Entry Global) Fault → Type 0
Answered fs (Ok es) = Audited fs (sound (vec_items es))
Answered fs (Err (fault.Refused f h)) = Audited fs (refused (number_of f) h)
Answered fs (Err (fault.DoneWithoutRuling h d)) = Audited fs (faulty (fault.DoneWithoutRuling h d))
Answered fs (Err (fault.RuledAndMissing h d)) = Audited fs (faulty (fault.RuledAndMissing h d))
Answered fs (Err fault.NoMemory) = Unit {0}

-- house h is as its file says, or why its file is refused
abbrev pub HouseOpened : ℕ → ℕ → List ℕ → Result House Fault → Type 0
HouseOpened n h bs (Ok k) = (rs : List Rec) × Opens n h bs rs × (account k ≡ account_of rs) × (shelves_of k ≡ stock entry_model h rs)
HouseOpened n h bs (Err (fault.Refused f i)) = (i ≡ h) × Cause n h bs f
HouseOpened n h bs (Err (fault.DoneWithoutRuling i d)) = ⊥
HouseOpened n h bs (Err (fault.RuledAndMissing i d)) = ⊥
HouseOpened n h bs (Err fault.NoMemory) = Unit {0}

-- the first k houses are as their files say
pub record StandTo (k : ℕ) (fs : List (List ℕ)) (ks : List House) : Type 0 where
  pub records : List (List Rec)
  pub opened : OpenTo k fs records
  pub accounts : map account ks ≡ map account_of records
  pub shelves : map shelves_of ks ≡ shelves_from 0 records

-- all houses are as their files say, or the first file that is refused
abbrev pub AllOpened : List (List ℕ) → Result Houses Fault → Type 0
AllOpened fs (Ok hs) = StandTo (length fs) fs (vec_items hs.all)
AllOpened fs (Err (fault.Refused f h)) = (h < length fs) × ((rss : List (List Rec)) × OpenTo h fs rss) × Cause (length fs) h (slice_index_or fs h []) f
AllOpened fs (Err (fault.DoneWithoutRuling h d)) = ⊥
AllOpened fs (Err (fault.RuledAndMissing h d)) = ⊥
AllOpened fs (Err fault.NoMemory) = Unit {0}
