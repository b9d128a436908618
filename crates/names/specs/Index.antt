-- An index as a test of a name. Assumes nothing.
use Rattle.std.specs.Prelude.{Bool, false, Some, None, Option, vec_items}
use Rattle.std.specs.List.{slice_get}
use Rattle.std.specs.BTreeSet.{BTreeSet, contains}
use Rattle.protocol.specs.declared.Name.{Name}
use Rattle.names.specs.Names.{name_cmp}
use Rattle.names.specs.declared.NameIndex.{NameIndex}

-- is the name in the set, if there is one
abbrev pub in_set : Option (BTreeSet Name) → Name → Bool
in_set (Some s) n = contains name_cmp s n
in_set None n = false

-- is the name in the set of its home
abbrev pub in_index : NameIndex → Name → Bool
in_index x n = in_set (slice_get (vec_items x.homes) n.home) n
