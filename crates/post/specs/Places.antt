-- An index of places as a function of a name. Assumes nothing.
use Rattle.std.specs.Prelude.{ℕ, Bool, cond, Some, None, Option, vec_items}
use Rattle.std.specs.List.{slice_get}
use Rattle.std.specs.BTreeMap.{BTreeMap, get}
use Rattle.protocol.specs.declared.Name.{Name}
use Rattle.names.specs.Names.{name_cmp}
use Rattle.post.specs.declared.places.PlaceIndex.{PlaceIndex}

-- the name's place in the map, if there is one
abbrev pub place_in : Option (BTreeMap Name ℕ) → Name → Option ℕ
place_in (Some p) n = get name_cmp p n
place_in None n = None

-- the name's place in the map of its home
abbrev pub place_of : PlaceIndex → Name → Option ℕ
place_of x n = place_in (slice_get (vec_items x.homes) n.home) n

-- the first place, or else the second
abbrev pub or_else : Option ℕ → Option ℕ → Option ℕ
or_else (Some k) o = Some k
or_else None o = o

-- the place, if the test passes
abbrev pub only_if : Bool → ℕ → Option ℕ
only_if b k = cond b (Some k) None
