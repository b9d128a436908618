-- What is within the limits fits its bytes. Assumes nothing.
use Rattle.std.proofs.Common.{◌≡◌, ℕ, ◌<◌, ◌≤◌, true, ◌&&◌, ltb, leb, List, [], ◌∷◌, length, arith}
use Rattle.std.proofs.lemmas.Bool.Decides.{nat_tests}
use Rattle.std.proofs.lemmas.Bool.{and_parts, leb-true, ltb-true}
use Rattle.protocol.specs.declared.Name.{Name}
use Rattle.protocol.specs.Model.{houses_ok, name_ok}
use Rattle.protocol.specs.House.{Began, Held, Done, Dropped, Ruled}
use Rattle.protocol.specs.Net.{Hold, Yes, Told}
use Rattle.orders.specs.declared.Entry.{Entry}
use Rattle.orders.specs.Order.{Order, Rec, Msg, entry_ok, entries_ok, lists_ok, order_ok, rec_ok, msg_ok}

abbrev pub FitName : Name → Type 0
FitName d = (d.home < 256) × (d.start < 4294967296) × (d.number < 4294967296)

abbrev pub FitEntry : Entry → Type 0
FitEntry e = (e.key < 4294967296) × (e.amount < 4294967296)

abbrev pub FitEntries : List Entry → Type 0
FitEntries [] = Unit {0}
FitEntries (e ∷ es) = FitEntry e × FitEntries es

abbrev pub FitOrder : Order → Type 0
FitOrder o = FitName o.name × (length o.reads ≤ 16) × (length o.writes ≤ 16) × FitEntries o.reads × FitEntries o.writes

abbrev pub FitRec : Rec → Type 0
FitRec Began = Unit {0}
FitRec (Held o) = FitOrder o
FitRec (Done d) = FitName d
FitRec (Dropped d) = FitName d
FitRec (Ruled o) = FitOrder o

abbrev pub FitMsg : Msg → Type 0
FitMsg (Hold o) = FitOrder o
FitMsg (Yes h d) = (h < 256) × FitName d
FitMsg (Told d b) = FitName d

name-fit : (n : ℕ) (d : Name) → n ≤ 16 → name_ok n d ≡ true → FitName d
name-fit n d h e = (grind (arith, nat_tests), grind (arith, nat_tests), grind (arith, nat_tests))

entry-fit : (n : ℕ) (e : Entry) → n ≤ 16 → entry_ok n e ≡ true → FitEntry e
entry-fit n e h t = (grind (arith, nat_tests), grind (arith, nat_tests))

entries_fit : (n : ℕ) (es : List Entry) → n ≤ 16 → entries_ok n es ≡ true → FitEntries es
unfolding entries_ok
entries_fit n [] h t = tt
entries_fit n (e ∷ es) h t = let a = and_parts (entry_ok n e) (entries_ok n es) t in (entry-fit n e h a.0, entries_fit n es h a.1)

lists-fit : (n : ℕ) (rs ws : List Entry) → n ≤ 16 → lists_ok n rs ws ≡ true → (length rs ≤ 16) × (length ws ≤ 16) × FitEntries rs × FitEntries ws
unfolding lists_ok
lists-fit n rs ws h t =
    let writes = and_parts _ _ t in
    let reads = and_parts _ _ writes.0 in
    let counts = and_parts _ _ reads.0 in
    (leb-true _ _ counts.0, leb-true _ _ counts.1, entries_fit n rs h reads.1, entries_fit n ws h writes.1)

houses-few : (n : ℕ) → houses_ok n ≡ true → n ≤ 16
houses-few n t = leb-true _ _ (and_parts (leb 1 n) (leb n 16) t).1

order-fit : (n : ℕ) (o : Order) → (houses_ok n && order_ok n o) ≡ true → FitOrder o
order-fit n o t =
    let a = and_parts (houses_ok n) (order_ok n o) t in
    let b = and_parts (name_ok n o.name) (lists_ok n o.reads o.writes) a.1 in
    let few = houses-few n a.0 in
    let l = lists-fit n o.reads o.writes few b.1 in
    (name-fit n o.name few b.0, l.0, l.1, l.2, l.3)

only-name-fit : (n : ℕ) (d : Name) → (houses_ok n && name_ok n d) ≡ true → FitName d
only-name-fit n d t = let a = and_parts (houses_ok n) (name_ok n d) t in name-fit n d (houses-few n a.0) a.1

pub rec-fit : (n : ℕ) (r : Rec) → rec_ok n r ≡ true → FitRec r
rec-fit n Began t = tt
rec-fit n (Held o) t = order-fit n o t
rec-fit n (Done d) t = only-name-fit n d t
rec-fit n (Dropped d) t = only-name-fit n d t
rec-fit n (Ruled o) t = order-fit n o t

pub msg-fit : (n : ℕ) (m : Msg) → msg_ok n m ≡ true → FitMsg m
msg-fit n (Hold o) t = order-fit n o t
msg-fit n (Yes h d) t =
    let a = and_parts (houses_ok n && ltb h n) (name_ok n d) t in
    let b = and_parts (houses_ok n) (ltb h n) a.0 in
    let few = houses-few n b.0 in
    let below = ltb-true h n b.1 in
    (omega arith, name-fit n d few a.1)
msg-fit n (Told d b) t = only-name-fit n d t
