-- Orders by value compared by their entries. Assumes nothing.
use Rattle.std.specs.Prelude.{Bool, ◌&&◌}
use Rattle.std.specs.Cmp.{IsEquivalence, and_equiv, on_equiv, nat_eq_equiv}
use Rattle.std.specs.Cmp.Lexicographic.{lists_equiv}
use Rattle.orders.specs.declared.Entry.{Entry}
use Rattle.orders.specs.declared.Order.{Order as Slots}
use Rattle.orders.specs.Order.{same_entry, same_entries}
use Rattle.orders.specs.Values.{reads_of, writes_of}

-- they read and write the same entries; what stands behind the counts is not looked at
abbrev pub same_slots : Slots → Slots → Bool
same_slots a b = same_entries (reads_of a) (reads_of b) && same_entries (writes_of a) (writes_of b)

-- that is an equivalence
pub same_slots_equiv : IsEquivalence same_slots
unfolding same_entries
same_slots_equiv = and_equiv (on_equiv reads_of (lists_equiv entries)) (on_equiv writes_of (lists_equiv entries))
  where
    entries : IsEquivalence same_entry
    entries = and_equiv (on_equiv (λ (e : Entry). e.key) nat_eq_equiv) (on_equiv (λ (e : Entry). e.amount) nat_eq_equiv)
