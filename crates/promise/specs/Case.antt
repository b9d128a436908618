-- How a worked case is written down and checked: commands, what each answers, and what then stands.
-- Assumes nothing.
use Rattle.std.specs.Prelude.{Bool, true, false, ◌&&◌, List, [], ◌∷◌, ℕ, nat_eq}
use Rattle.protocol.specs.declared.Name.{Name}
use Rattle.protocol.specs.Model.{same_name}
use Rattle.protocol.specs.House.{starts}
use Rattle.protocol.specs.Net.{Net, Hold, Yes, Told}
use Rattle.protocol.specs.Plan.{refused, does, do_submit, do_hold, do_vote, do_rule, do_give_up, do_answer, do_learn}
use Rattle.protocol.specs.Run.{Command, deliver, stop_at, Answer, same_msg, step}
use Rattle.orders.specs.declared.Entry.{Entry}
use Rattle.orders.specs.Order.{Order, Msg, house_of, entry_model}
use Rattle.promise.specs.Promise.{held_back, shelf}

-- a command, and what it answers
pub record Play : Type 0 where
  pub command : Command entry_model
  pub answer : Answer entry_model

-- after the plays: what stands at some keys; the names held back in some houses, in the order of holding; the start of some houses; all rulings
pub record Row : Type 0 where
  pub plays : List Play
  pub shelves : List Entry
  pub held : List (ℕ × List Name)
  pub starts : List (ℕ × ℕ)
  pub rulings : List Name

abbrev pub same_msgs : List Msg → List Msg → Bool
same_msgs [] [] = true
same_msgs [] (n ∷ ns) = false
same_msgs (m ∷ ms) [] = false
same_msgs (m ∷ ms) (n ∷ ns) = same_msg entry_model m n && same_msgs ms ns

abbrev pub same_answer : Answer entry_model → Answer entry_model → Bool
same_answer (refused k) (refused l) = nat_eq k l
same_answer (refused k) (does ns) = false
same_answer (does ms) (refused l) = false
same_answer (does ms) (does ns) = same_msgs ms ns

-- were all plays answered so, and what is the network then
unfoldable pub play_all : ℕ → List Play → Net entry_model → Bool × Net entry_model
play_all n [] s = (true, s)
play_all n (p ∷ ps) s =
    let q = step entry_model n p.command s in
    let r = play_all n ps q.1 in
    (same_answer q.0 p.answer && r.0, r.1)

unfoldable pub shelves_are : Net entry_model → List Entry → Bool
shelves_are s [] = true
shelves_are s (e ∷ es) = nat_eq (shelf s (house_of e.key) e.key) e.amount && shelves_are s es

unfoldable pub names_are : List Order → List Name → Bool
names_are [] [] = true
names_are [] (d ∷ ds) = false
names_are (t ∷ ts) [] = false
names_are (t ∷ ts) (d ∷ ds) = same_name t.name d && names_are ts ds

unfoldable pub held_are : Net entry_model → List (ℕ × List Name) → Bool
held_are s [] = true
held_are s (p ∷ ps) = names_are (held_back s p.0) p.1 && held_are s ps

unfoldable pub starts_are : Net entry_model → List (ℕ × ℕ) → Bool
starts_are s [] = true
starts_are s (p ∷ ps) = nat_eq (starts entry_model (s.house p.0).file) p.1 && starts_are s ps

abbrev pub stands_as : Net entry_model → Row → Bool
stands_as s r = shelves_are s r.shelves && held_are s r.held && starts_are s r.starts && names_are s.done r.rulings

-- the rows, one after the other, among n houses
unfoldable pub pass : ℕ → List Row → Net entry_model → Bool
pass n [] s = true
pass n (r ∷ rs) s =
    let q = play_all n r.plays s in
    q.0 && stands_as q.1 r && pass n rs q.1

-- words for the rows
abbrev pub name : ℕ → ℕ → ℕ → Name
name h s k = record { home = h; start = s; number = k }

abbrev pub entry : ℕ → ℕ → Entry
entry k v = record { key = k; amount = v }

abbrev pub order : Name → List Entry → List Entry → Order
order d rs ws = record { name = d; reads = rs; writes = ws }

-- done, and these are sent
abbrev pub sends : Command entry_model → List Msg → Play
sends c ms = record { command = c; answer = does ms }

abbrev pub refused_by : ℕ → Command entry_model → Play
refused_by k c = record { command = c; answer = refused k }

abbrev pub submits : Order → Play
submits t = sends (deliver t.name.home (do_submit t)) (Hold t ∷ [])

abbrev pub holds : ℕ → Order → Play
holds i t = sends (deliver i (do_hold t)) (Yes i t.name ∷ [])

-- held by the house, and its yes is noted by the home
abbrev pub agrees : ℕ → Order → List Play
agrees i t = holds i t ∷ sends (deliver t.name.home (do_vote i t.name)) [] ∷ []

abbrev pub rules : Order → Play
rules t = sends (deliver t.name.home (do_rule t.name)) (Told t.name true ∷ [])

abbrev pub gives_up : Order → Play
gives_up t = sends (deliver t.name.home (do_give_up t.name)) (Told t.name false ∷ [])

abbrev pub answers_no : Order → Play
answers_no t = sends (deliver t.name.home (do_answer t.name)) (Told t.name false ∷ [])

abbrev pub learns : ℕ → Bool → Order → Play
learns i b t = sends (deliver i (do_learn t.name b)) []

-- stops, and of the bytes written since the last sync these are still there
abbrev pub stops : ℕ → ℕ → Play
stops i b = sends (stop_at i b) []
