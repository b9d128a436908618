-- How long a record is: one that was read takes its size from the bytes.
use Rattle.std.proofs.Common.{◌≡◌, ℕ, suc, ◌+◌, ◌<◌, ◌≤◌, List, [], ◌∷◌, length, get_or, drop, sym, ap, ◌∙◌, subst, arith, length-append, length-drop, get_or-drop, w8, Fits}
use Rattle.protocol.specs.State.{rec_size}
use Rattle.orders.specs.Order.{Rec, entry_model}
use Rattle.orders.specs.Parse.{got, parse}
use Rattle.orders.specs.Encode.{rec_bytes}
use Rattle.orders.specs.Laws.{Bytes}
use Rattle.orders.proofs.OneForm.{one_form}
use Rattle.orders.proofs.Lengths.{sized, length-reads, length-writes}
use Rattle.orders.specs.declared.Order.{Order as Slots}
use Rattle.orders.specs.declared.Record.{Record}
use Rattle.orders.specs.declared.Record.TheVariants as code
use Rattle.orders.specs.Values.{rec_of}

-- each element is a byte
abbrev pub Small : List ℕ → Type 0
Small bs = (i : ℕ) → Fits w8 (get_or bs i 0)

pub small_bytes : (bs : List ℕ) → Small bs → Bytes bs
small_bytes [] s = tt
small_bytes (b ∷ bs) s = ((s 0).fits, small_bytes bs (λ i. s (suc i)))

small-drop : (k : ℕ) (bs : List ℕ) → Small bs → Small (drop k bs)
small-drop k bs s i = subst (Fits w8) (sym (get_or-drop k bs i 0)) (s (k + i))

-- the next place is behind the record
pub moved : (n : ℕ) (bs : List ℕ) (at to : ℕ) (r : Rec) → Small bs → parse n (drop at bs) ≡ got r (drop to bs) → at < to → to ≤ length bs → to ≡ at + rec_size entry_model r
moved n bs at to r s e l m =
    let form = one_form n (drop at bs) (drop to bs) r (small_bytes (drop at bs) (small-drop at bs s)) e in
    let t : length (drop at bs) ≡ length (rec_bytes r) + length (drop to bs) = ap length form ∙ length-append (rec_bytes r) (drop to bs) in
    let z = sized r in
    let a = length-drop at bs in
    let b = length-drop to bs in
    omega arith

-- no record is longer than that of an order with as many entries as it may have
pub size_most : (r : Record) (s : Slots) → rec_size entry_model (rec_of r s) ≤ 268
size_most code.Began s = omega arith
size_most (code.Held d) s = omega (arith, length-reads s, length-writes s, s.few.0, s.few.1)
size_most (code.Done d) s = omega arith
size_most (code.Dropped d) s = omega arith
size_most (code.Ruled d) s = omega (arith, length-reads s, length-writes s, s.few.0, s.few.1)
