-- The limits over the entries of an order by value. Assumes nothing.
use Rattle.std.proofs.Common.{◌≡◌, ℕ, Bool, ◌&&◌, List, length, refl, arith}
use Rattle.std.specs.List.{list_all}
use Rattle.std.proofs.lemmas.Bool.{le-leb}
use Rattle.std.proofs.lemmas.List.Recursion.{same_from_clauses}
use Rattle.orders.specs.declared.Entry.{Entry}
use Rattle.orders.specs.declared.Order.{Order as Slots}
use Rattle.orders.specs.Order.{entry_ok, entries_ok, lists_ok}
use Rattle.orders.specs.Values.{reads_of, writes_of}
use Rattle.orders.proofs.Lengths.{length-reads, length-writes}

pub all-entries : (n : ℕ) (es : List Entry) → list_all (entry_ok n) es ≡ entries_ok n es
unfolding entries_ok
all-entries n es = same_from_clauses (list_all (entry_ok n)) (entries_ok n) (λ (e : Entry) (b : Bool). entry_ok n e && b) refl (λ _ _. refl) (λ _ _. refl) es

-- both lists; there are few enough of each
pub lists_few : (n : ℕ) (s : Slots) → lists_ok n (reads_of s) (writes_of s) ≡ (entries_ok n (reads_of s) && entries_ok n (writes_of s))
unfolding lists_ok
lists_few n s =
    let p = le-leb (length (reads_of s)) 16 (omega (arith, length-reads s, s.few.0)) in
    let q = le-leb (length (writes_of s)) 16 (omega (arith, length-writes s, s.few.1)) in
    rw (p, q)
