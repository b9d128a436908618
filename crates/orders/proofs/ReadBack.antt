-- What was written is read back. Assumes nothing.
use Rattle.std.proofs.Common.{◌≡◌, ℕ, ◌≤◌, true, false, List, [], ◌∷◌, ◌++◌, length, refl, append_assoc}
use Rattle.std.proofs.lemmas.Bool.{le-leb}
use Rattle.protocol.specs.declared.Name.{Name}
use Rattle.protocol.specs.House.{Began, Held, Done, Dropped, Ruled}
use Rattle.protocol.specs.Net.{Hold, Yes, Told}
use Rattle.orders.specs.declared.Entry.{Entry}
use Rattle.orders.specs.Order.{Order, Rec, Msg}
use Rattle.orders.specs.Parse.{got, count, flag, name, entry, entries, body, order, kind, form, mkind, mform}
use Rattle.orders.specs.Encode.{name_bytes, entry_bytes, entries_bytes, order_bytes, rec_bytes, msg_bytes}
use Rattle.orders.specs.Laws.{ReadsBack}
use Rattle.orders.proofs.Digits.{digits}
use Rattle.orders.proofs.Fits.{FitName, FitEntry, FitEntries, FitOrder, FitRec, FitMsg, rec-fit}

name_back : (d : Name) (rest : List ℕ) → FitName d → name (name_bytes d ++ rest) ≡ got d rest
unfolding name name_bytes
name_back d rest h =
    let s = digits d.start h.1 in
    let k = digits d.number h.2 in
    (λ i. got (record { home = d.home; start = s i; number = k i }) rest)

entry-back : (e : Entry) (rest : List ℕ) → FitEntry e → entry (entry_bytes e ++ rest) ≡ got e rest
unfolding entry entry_bytes
entry-back e rest h =
    let k = digits e.key h.0 in
    let a = digits e.amount h.1 in
    (λ i. got (record { key = k i; amount = a i }) rest)

entries-back : (es : List Entry) (rest : List ℕ) → FitEntries es → entries (length es) (entries_bytes es ++ rest) ≡ got es rest
unfolding entries entries_bytes
entries-back [] rest h = refl
entries-back (e ∷ es) rest h = rw (append_assoc (entry_bytes e) (entries_bytes es) rest, entry-back e (entries_bytes es ++ rest) h.0, entries-back es rest h.1)

count-back : (k : ℕ) (rest : List ℕ) → k ≤ 16 → count (k ∷ rest) ≡ got k rest
unfolding count
count-back k rest h = rw (le-leb k 16 h)

body_back : (o : Order) (rest : List ℕ) → FitOrder o → body o.name (length o.reads) (length o.writes) ((entries_bytes o.reads ++ entries_bytes o.writes) ++ rest) ≡ got o rest
unfolding body
body_back o rest h = rw (append_assoc (entries_bytes o.reads) (entries_bytes o.writes) rest, entries-back o.reads (entries_bytes o.writes ++ rest) h.3, entries-back o.writes rest h.4)

order-back : (o : Order) (rest : List ℕ) → FitOrder o → order (order_bytes o ++ rest) ≡ got o rest
unfolding order order_bytes
order-back o rest h =
    let es = (entries_bytes o.reads ++ entries_bytes o.writes) ++ rest in
    let reads = count-back (length o.reads) (length o.writes ∷ es) h.1 in
    let writes = count-back (length o.writes) es h.2 in
    rw (append_assoc (name_bytes o.name) _ rest, name_back o.name _ h.0, reads, writes) (body_back o rest h)

pub form-back : (r : Rec) (rest : List ℕ) → FitRec r → form (rec_bytes r ++ rest) ≡ got r rest
unfolding form kind
form-back Began rest h = refl
form-back (Held o) rest h = rw (order-back o rest h)
form-back (Done d) rest h = rw (name_back d rest h)
form-back (Dropped d) rest h = rw (name_back d rest h)
form-back (Ruled o) rest h = rw (order-back o rest h)

pub reads-back : ReadsBack
reads-back n r rest ok = rw (form-back r rest (rec-fit n r ok), ok)

pub mform-back : (m : Msg) (rest : List ℕ) → FitMsg m → mform (msg_bytes m ++ rest) ≡ got m rest
unfolding mform mkind flag
mform-back (Hold o) rest h = rw (order-back o rest h)
mform-back (Yes b d) rest h = rw (name_back d rest h.1)
mform-back (Told d true) rest h = rw (name_back d rest h)
mform-back (Told d false) rest h = rw (name_back d rest h)
