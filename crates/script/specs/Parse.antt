-- What words say, from the first on. Assumes nothing.
use Rattle.std.specs.Prelude.{ℕ, zero, suc, Bool, true, false, cond, List, [], ◌∷◌, Some, None, Option, nat_le}
use Rattle.protocol.specs.declared.Name.{Name}
use Rattle.orders.specs.declared.Entry.{Entry}
use Rattle.orders.specs.Order.{Order}
use Rattle.script.specs.Words.{decimal}

-- what the first words say, and the words after them; or that they are out of form
pub data Got (A : Type 0) : Type 0 where
  got : A → List (List ℕ) → Got A
  bad : Got A

abbrev pub bind : {A B : Type 0} → Got A → (A → List (List ℕ) → Got B) → Got B
bind (got a ws) f = f a ws
bind bad f = bad

abbrev pub word : List (List ℕ) → Got (List ℕ)
word [] = bad
word (w ∷ ws) = got w ws

abbrev pub none : List (List ℕ) → Bool
none [] = true
none (w ∷ ws) = false

-- an answer by what its value stands for, with the words after it; no answer where the words are out of form
abbrev pub given : {A B : Type 0} → (A → B) → Option A → List (List ℕ) → Got B
given f (Some a) ws = got (f a) ws
given f None ws = bad

abbrev pub same : {A : Type 0} → A → A
same a = a

abbrev pub number : List (List ℕ) → Got ℕ
number ws = bind (word ws) (λ w ws. given same (decimal w) ws)

-- HOME START NUMBER
abbrev pub name : List (List ℕ) → Got Name
name ws = bind (number ws) (λ h ws. bind (number ws) (λ s ws. bind (number ws) (λ k ws. got (record { home = h; start = s; number = k }) ws)))

-- KEY AMOUNT
abbrev pub entry : List (List ℕ) → Got Entry
entry ws = bind (number ws) (λ k ws. bind (number ws) (λ a ws. got (record { key = k; amount = a }) ws))

unfoldable pub entries : ℕ → List (List ℕ) → Got (List Entry)
entries zero ws = got [] ws
entries (suc n) ws = bind (entry ws) (λ e ws. bind (entries n ws) (λ es ws. got (e ∷ es) ws))

-- how many, at most 16, and so many entries
unfoldable pub counted : List (List ℕ) → Got (List Entry)
counted ws = bind (number ws) (λ n ws. cond (nat_le n 16) (entries n ws) bad)

-- HOME START NUMBER R (KEY AMOUNT)×R W (KEY AMOUNT)×W
abbrev pub order : List (List ℕ) → Got Order
order ws = bind (name ws) (λ m ws. bind (counted ws) (λ rs ws. bind (counted ws) (λ xs ws. got (record { name = m; reads = rs; writes = xs }) ws)))
