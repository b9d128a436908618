-- The place of the first order of a name. Assumes nothing.
use Rattle.std.specs.Prelude.{ℕ, suc, cond, List, [], ◌∷◌, Some, None, Option}
use Rattle.std.specs.Option.{option_map}
use Rattle.protocol.specs.declared.Name.{Name}
use Rattle.protocol.specs.Model.{same_name}
use Rattle.entries.specs.declared.named.NamedOrder.{NamedOrder}

-- counted from 0
unfoldable pub first_place : Name → List NamedOrder → Option ℕ
first_place n [] = None
first_place n (o ∷ os) = cond (same_name n o.name) (Some 0) (option_map suc (first_place n os))
