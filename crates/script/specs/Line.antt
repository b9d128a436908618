-- What a line says. Assumes nothing.
use Rattle.std.specs.Prelude.{ℕ, Bool, false, cond, List, [], ◌∷◌, Some, None, Ok, Err, Option, Result, codes, ◌==◌, nat_lt}
use Rattle.std.specs.Str.{bytes_eq}
use Rattle.protocol.specs.declared.Name.{Name}
use Rattle.orders.specs.declared.Refusal.{Refusal}
use Rattle.orders.specs.declared.Refusal.TheVariants.{BadForm}
use Rattle.script.specs.Words.{words}
use Rattle.script.specs.Parse.{Got, got, bad, bind, none, word, number, name, order}
use Rattle.script.specs.Meaning.{Meaning, skip, houses, submit, hold, vote, rule, give_up, answer, learn, sync, stop, show}
use Rattle.script.specs.declared.read.Keyword.{Keyword}
use Rattle.script.specs.declared.read.Keyword.TheVariants.{Houses, Submit, Hold, Vote, Rule, GiveUp, Answer, Learn, Sync, Stop, Show}

-- the command that a line's first word names; none, if it is no keyword
abbrev pub keyword : List ℕ → Option Keyword
keyword w =
    cond (bytes_eq w (codes "houses")) (Some Houses)
    (cond (bytes_eq w (codes "submit")) (Some Submit)
    (cond (bytes_eq w (codes "hold")) (Some Hold)
    (cond (bytes_eq w (codes "vote")) (Some Vote)
    (cond (bytes_eq w (codes "rule")) (Some Rule)
    (cond (bytes_eq w (codes "giveup")) (Some GiveUp)
    (cond (bytes_eq w (codes "answer")) (Some Answer)
    (cond (bytes_eq w (codes "learn")) (Some Learn)
    (cond (bytes_eq w (codes "sync")) (Some Sync)
    (cond (bytes_eq w (codes "stop")) (Some Stop)
    (cond (bytes_eq w (codes "show")) (Some Show) None))))))))))

-- H NAME
abbrev pub house_name : List (List ℕ) → Got (ℕ × Name)
house_name ws = bind (number ws) (λ h ws. bind (name ws) (λ m ws. got (h, m) ws))

-- what follows a line's first word
abbrev pub parts : Keyword → List (List ℕ) → Got Meaning
parts Houses ws = bind (number ws) (λ n ws. got (houses n) ws)
parts Submit ws = bind (number ws) (λ h ws. bind (order ws) (λ o ws. got (submit h o) ws))
parts Hold ws = bind (house_name ws) (λ p ws. got (hold p.0 p.1) ws)
parts Vote ws = bind (number ws) (λ h ws. bind (house_name ws) (λ p ws. got (vote h p.0 p.1) ws))
parts Rule ws = bind (house_name ws) (λ p ws. got (rule p.0 p.1) ws)
parts GiveUp ws = bind (house_name ws) (λ p ws. got (give_up p.0 p.1) ws)
parts Answer ws = bind (house_name ws) (λ p ws. got (answer p.0 p.1) ws)
parts Learn ws = bind (number ws) (λ h ws. bind (number ws) (λ b ws. cond (nat_lt b 2) (bind (name ws) (λ m ws. got (learn h (b == 1) m) ws)) bad))
parts Sync ws = bind (number ws) (λ h ws. got (sync h) ws)
parts Stop ws = bind (number ws) (λ h ws. bind (number ws) (λ k ws. got (stop h k) ws))
parts Show ws = got show ws

-- what a line says, by the command that its first word names
abbrev pub asked : Option Keyword → List (List ℕ) → Got Meaning
asked None ws = bad
asked (Some k) ws = parts k ws

-- no word may be left
abbrev pub whole : Got Meaning → Result Meaning Refusal
whole (got m ws) = cond (none ws) (Ok m) (Err BadForm)
whole bad = Err BadForm

-- the first word and those after it; a line without words is blank
abbrev pub spoken : Got (List ℕ) → Result Meaning Refusal
spoken (got w ws) = whole (asked (keyword w) ws)
spoken bad = Ok skip

-- a comment's first byte is 35, a '#'
abbrev pub is_comment : List ℕ → Bool
is_comment [] = false
is_comment (b ∷ bs) = b == 35

-- THE LINE: what its bytes say; or they are out of form
abbrev pub line : List ℕ → Result Meaning Refusal
line bs = cond (is_comment bs) (Ok skip) (spoken (word (words bs)))
