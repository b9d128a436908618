-- The byte of each kind of record and message. Assumes nothing.
use Rattle.std.specs.Prelude.{◌≡◌, ◌≢◌, ℕ, Result, MatchResult}
use Rattle.orders.specs.declared.Refusal.{Refusal}
use Rattle.orders.specs.declared.Refusal.TheVariants.{BadForm}
use Rattle.orders.specs.declared.kind.Kind.{Kind}
use Rattle.orders.specs.declared.kind.Kind.TheVariants.{Began, Held, Done, Dropped, Ruled, Hold, Yes, Told}

abbrev pub byte_of : Kind → ℕ
byte_of Began = 1
byte_of Held = 2
byte_of Done = 3
byte_of Dropped = 4
byte_of Ruled = 5
byte_of Hold = 6
byte_of Yes = 7
byte_of Told = 8

-- the kind that has this byte; or that none has it, which is a bad form
abbrev pub IsKind : ℕ → Result Kind Refusal → Type 0
IsKind b r = MatchResult r (λ k. byte_of k ≡ b) (λ f. (f ≡ BadForm) × ((k : Kind) → byte_of k ≢ b))
