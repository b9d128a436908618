-- The yes messages as a test of a house and a name. Assumes nothing.
use Rattle.std.specs.Prelude.{ℕ, Bool, false, Some, None, Option, vec_items}
use Rattle.std.specs.List.{slice_get}
use Rattle.protocol.specs.declared.Name.{Name}
use Rattle.names.specs.declared.NameIndex.{NameIndex}
use Rattle.names.specs.Index.{in_index}
use Rattle.post.specs.declared.yeses.Yeses.{Yeses}

-- is the name in the index, if there is one
abbrev pub if_index : Option NameIndex → Name → Bool
if_index (Some x) n = in_index x n
if_index None n = false

-- house j said yes to the name
abbrev pub said_yes : Yeses → ℕ → Name → Bool
said_yes y j n = if_index (slice_get (vec_items y.houses) j) n
