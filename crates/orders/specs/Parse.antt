-- What bytes say: readers from a list of bytes to a value and the bytes behind it. Numbers have their high byte first. Assumes nothing.
use Rattle.std.specs.Prelude.{ℕ, zero, suc, ◌+◌, ◌*◌, Bool, cond, List, [], ◌∷◌, ◌==◌, nat_le, nat_lt}
use Rattle.protocol.specs.declared.Name.{Name}
use Rattle.protocol.specs.House.{Began, Held, Done, Dropped, Ruled}
use Rattle.protocol.specs.Net.{Hold, Yes, Told}
use Rattle.orders.specs.declared.Entry.{Entry}
use Rattle.orders.specs.Order.{Order, Rec, Msg, rec_ok, msg_ok}

-- what the front of the bytes says, and the bytes behind it; or that the bytes end inside it; or the number of the refusal
pub data Got (A : Type 0) : Type 0 where
  got : A → List ℕ → Got A
  cut : Got A
  bad : ℕ → Got A

-- one reader, and then the next from where the first ended
abbrev pub bind : {A B : Type 0} → Got A → (A → List ℕ → Got B) → Got B
bind (got a bs) f = f a bs
bind cut f = cut
bind (bad k) f = bad k

abbrev pub byte : List ℕ → Got ℕ
byte [] = cut
byte (b ∷ bs) = got b bs

-- a number of four bytes
abbrev pub number : List ℕ → Got ℕ
number [] = cut
number (b3 ∷ []) = cut
number (b3 ∷ b2 ∷ []) = cut
number (b3 ∷ b2 ∷ b1 ∷ []) = cut
number (b3 ∷ b2 ∷ b1 ∷ b0 ∷ bs) = got (b3 * 16777216 + b2 * 65536 + b1 * 256 + b0) bs

-- how many entries follow: refused as soon as the byte is there
unfoldable pub count : List ℕ → Got ℕ
count bs = bind (byte bs) (λ k bs. cond (nat_le k 16) (got k bs) (bad 1))

-- 1 for yes, 0 for no
unfoldable pub flag : List ℕ → Got Bool
flag bs = bind (byte bs) (λ k bs. cond (nat_lt k 2) (got (k == 1) bs) (bad 1))

-- home, start, number
unfoldable pub name : List ℕ → Got Name
name bs = bind (byte bs) (λ h bs. bind (number bs) (λ s bs. bind (number bs) (λ k bs. got (record { home = h; start = s; number = k }) bs)))

-- key, amount
unfoldable pub entry : List ℕ → Got Entry
entry bs = bind (number bs) (λ k bs. bind (number bs) (λ a bs. got (record { key = k; amount = a }) bs))

unfoldable pub entries : ℕ → List ℕ → Got (List Entry)
entries zero bs = got [] bs
entries (suc n) bs = bind (entry bs) (λ e bs. bind (entries n bs) (λ es bs. got (e ∷ es) bs))

-- the entries of an order, behind its name and the two counts
unfoldable pub body : Name → ℕ → ℕ → List ℕ → Got Order
body d r w bs = bind (entries r bs) (λ rs bs. bind (entries w bs) (λ ws bs. got (record { name = d; reads = rs; writes = ws }) bs))

-- name, count of reads, count of writes, entries
unfoldable pub order : List ℕ → Got Order
order bs = bind (name bs) (λ d bs. bind (count bs) (λ r bs. bind (count bs) (λ w bs. body d r w bs)))

-- a record behind its first byte, its kind
unfoldable pub kind : ℕ → List ℕ → Got Rec
kind k bs =
    cond (k == 1) (got Began bs)
    (cond (k == 2) (bind (order bs) (λ o bs. got (Held o) bs))
    (cond (k == 3) (bind (name bs) (λ d bs. got (Done d) bs))
    (cond (k == 4) (bind (name bs) (λ d bs. got (Dropped d) bs))
    (cond (k == 5) (bind (order bs) (λ o bs. got (Ruled o) bs)) (bad 1)))))

-- a record, whatever its numbers
unfoldable pub form : List ℕ → Got Rec
form bs = bind (byte bs) kind

-- the first record of the bytes, where there are n houses; the range of its numbers is looked at once it is whole
abbrev pub parse : ℕ → List ℕ → Got Rec
parse n bs = bind (form bs) (λ r bs. cond (rec_ok n r) (got r bs) (bad 2))

-- a message behind its first byte, its kind
unfoldable pub mkind : ℕ → List ℕ → Got Msg
mkind k bs =
    cond (k == 6) (bind (order bs) (λ o bs. got (Hold o) bs))
    (cond (k == 7) (bind (byte bs) (λ h bs. bind (name bs) (λ d bs. got (Yes h d) bs)))
    (cond (k == 8) (bind (flag bs) (λ b bs. bind (name bs) (λ d bs. got (Told d b) bs))) (bad 1)))

unfoldable pub mform : List ℕ → Got Msg
mform bs = bind (byte bs) mkind

-- a message is whole, or refused by a number
pub data Taken : Type 0 where
  taken : Msg → Taken
  refused : ℕ → Taken

-- all the bytes, and no more: what is cut or has bytes behind it is of a bad form
abbrev pub exact : Got Msg → Taken
exact (got m []) = taken m
exact (got m (b ∷ bs)) = refused 1
exact cut = refused 1
exact (bad k) = refused k

-- a message, whatever its numbers
unfoldable pub wholly : List ℕ → Taken
wholly bs = exact (mform bs)

abbrev pub limit : ℕ → Taken → Taken
limit n (taken m) = cond (msg_ok n m) (taken m) (refused 2)
limit n (refused k) = refused k

-- the message that the bytes are, where there are n houses
abbrev pub message : ℕ → List ℕ → Taken
message n bs = limit n (wholly bs)
