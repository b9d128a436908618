-- What a line read by the code stands for: its order as lists, its name with any number for a home. Assumes nothing.
use Rattle.std.specs.Prelude.{ℕ, Bool, Ok, Err, Result}
use Rattle.protocol.specs.declared.Name.{Name}
use Rattle.orders.specs.declared.Refusal.{Refusal}
use Rattle.orders.specs.Order.{Order}
use Rattle.script.specs.declared.NameWords.{NameWords}
use Rattle.script.specs.declared.Line.{Line}
use Rattle.script.specs.declared.Line.TheVariants as code
use Rattle.script.specs.Answers.{named, order_of}

pub data Meaning : Type 0 where
  skip : Meaning
  houses : ℕ → Meaning
  submit : (house : ℕ) → Order → Meaning
  hold : (house : ℕ) → Name → Meaning
  vote : (house voter : ℕ) → Name → Meaning
  rule : (house : ℕ) → Name → Meaning
  give_up : (house : ℕ) → Name → Meaning
  answer : (house : ℕ) → Name → Meaning
  learn : (house : ℕ) → (yes : Bool) → Name → Meaning
  sync : (house : ℕ) → Meaning
  stop : (house kept : ℕ) → Meaning
  show : Meaning

abbrev pub meaning : Line → Meaning
meaning code.Skip = skip
meaning (code.Houses n) = houses n
meaning (code.Submit h m o) = submit h (order_of m o)
meaning (code.Hold h m) = hold h (named m)
meaning (code.Vote h j m) = vote h j (named m)
meaning (code.Rule h m) = rule h (named m)
meaning (code.GiveUp h m) = give_up h (named m)
meaning (code.Answer h m) = answer h (named m)
meaning (code.Learn h b m) = learn h b (named m)
meaning (code.Sync h) = sync h
meaning (code.Stop h k) = stop h k
meaning code.Show = show

-- a line, or why it is refused
abbrev pub said : Result Line Refusal → Result Meaning Refusal
said (Ok l) = Ok (meaning l)
said (Err f) = Err f

-- a house and a name
abbrev pub placed : ℕ × NameWords → ℕ × Name
placed p = (p.0, named p.1)
